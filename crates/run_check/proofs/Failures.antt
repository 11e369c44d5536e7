-- A failure that is told is one.
use Rattle.std.proofs.Common.{◌≡◌, ◌≢◌, ℕ, ◌<◌, ◌≤◌, false, ◌||◌, ◌==◌, List, [], ◌∷◌, ◌++◌, refl, ap, ◌∙◌, arith, inl, inr}
use Rattle.std.specs.List.{AllByRecursion}
use Rattle.std.specs.Option.{option_to_list}
use Rattle.std.proofs.lemmas.List.{append-nil}
use Rattle.gdi_kinds.specs.declared.outcome.Outcome.{Outcome}
use Rattle.gdi_kinds.specs.declared.outcome.Outcome.TheVariants.{Wrote, Read, Aborted, Full}
use Rattle.gdi_kinds.specs.declared.outcome.Line.{Line}
use Rattle.gdi_kinds.specs.declared.outcome.Printed.{Printed}
use Rattle.graph_model.specs.Placed.{Placed, entry_number}
use Rattle.graph_model.specs.LegalRun.{FitsScript, IsNumbered, KeepsSessionOrder, IsDistinct, numbers_of, reading_places}
use Rattle.run_check.specs.declared.place.Place.{Place}
use Rattle.run_check.specs.Places.{NoneFails, FirstFails}
use Rattle.run_check.specs.Fitting.{FirstMisfit}
use Rattle.run_check.specs.Numbering.{FirstMisnumbered, Misnumbered, is_among}
use Rattle.run_check.specs.Ordering.{TooEarly}
use Rattle.run_check.proofs.Seen.{among_one_more}
use Rattle.run_check.proofs.Numbers.{AreNumbered, all_then, numbers_more}
use Rattle.run_check.proofs.Orders.{KeepOrder, goes_on_keeping, may_be_behind}

pub misfit_is_none : (transactions : List Placed) (lines : List Line) (place : Place) → FirstMisfit transactions lines place → ¬ FitsScript transactions lines
misfit_is_none [] [] place first = λ fits. first
misfit_is_none [] (line ∷ lines) place first = λ fits. fits
misfit_is_none (p ∷ ps) [] place first = λ fits. fits
misfit_is_none (p ∷ ps) (line ∷ lines) place first = λ fits. elim first [
  | inl here ↦ here.0 fits.0
  | inr later ↦ misfit_is_none ps lines place later.1 fits.1
]

one_fails : (F : List Line → Line → Type 0) (before lines : List Line) (place : Place) → FirstFails F before lines place → ¬ NoneFails F before lines
one_fails F before [] place first = λ none. first
one_fails F before (line ∷ lines) place first = λ none. elim first [
  | inl here ↦ none.0 here.0
  | inr later ↦ one_fails F (before ++ line ∷ []) lines place later.1 none.1
]

none_early : (before lines : List Line) → KeepOrder before lines → NoneFails TooEarly before lines
none_early before [] keeps = tt
none_early before (line ∷ lines) keeps = ((λ early. early (may_be_behind before lines line keeps)), none_early (before ++ line ∷ []) lines (goes_on_keeping before lines line keeps))

pub early_is_out : (lines : List Line) (place : Place) → FirstFails TooEarly [] lines place → ¬ KeepsSessionOrder lines
early_is_out lines place first = λ keeps. one_fails TooEarly [] lines place first (none_early [] lines (record { order = keeps; behind = tt }))

-- a line that is no entry adds no number
no_entry : (load writes : ℕ) (line : Line) (before lines : List Line) → option_to_list (entry_number line.outcome) ≡ []
    → AllByRecursion (λ k. (load ≤ k) × (k < writes)) (numbers_of lines) → IsDistinct (numbers_of lines)
    → AllByRecursion (λ k. is_among (numbers_of before) k ≡ false) (numbers_of lines)
    → AllByRecursion (λ n. (load ≤ n) × (n ≤ writes)) (reading_places lines) → AreNumbered load writes (before ++ line ∷ []) lines
no_entry load writes line before lines none numbers once apart places = record {
  numbers = numbers;
  once = once;
  apart = all_then _ (λ k. is_among (numbers_of (before ++ line ∷ [])) k ≡ false)
      (λ k h. ap (λ (l : List ℕ). is_among l k) (numbers_more before line ∙ ap (λ l. numbers_of before ++ l) none ∙ append-nil (numbers_of before)) ∙ h) (numbers_of lines) apart;
  places = places;
}

-- numbered lines behind one of them
behind_one : (load writes section txn : ℕ) (o : Outcome) (before lines : List Line)
    → AreNumbered load writes before ((record { section = section; txn = txn; outcome = o }) ∷ lines)
    → (¬ Misnumbered load writes before (record { section = section; txn = txn; outcome = o }))
    × AreNumbered load writes (before ++ (record { section = section; txn = txn; outcome = o }) ∷ []) lines
behind_one load writes section txn (Wrote k replies) before lines all =
    let line : Line = record { section = section; txn = txn; outcome = Wrote k replies } in
    let among : (m : ℕ) → is_among (numbers_of (before ++ line ∷ [])) m ≡ (is_among (numbers_of before) m || k == m)
    = λ m. ap (λ (l : List ℕ). is_among l m) (numbers_more before line) ∙ among_one_more (numbers_of before) k m in (
      (λ wrong. grind (arith, wrong, all.numbers.0, all.apart.0)),
      record {
        numbers = all.numbers.1;
        once = all.once.1;
        apart = both (λ m. m ≢ k) (λ m. is_among (numbers_of before) m ≡ false) _ (λ m other h. grind (arith, among m, other, h)) (numbers_of lines) all.once.0 all.apart.1;
        places = all.places;
      },
    )
  where
    both : (P Q R : ℕ → Type 0) → ((x : ℕ) → P x → Q x → R x) → (xs : List ℕ) → AllByRecursion P xs → AllByRecursion Q xs → AllByRecursion R xs
    both P Q R f [] all more = tt
    both P Q R f (x ∷ xs) all more = (f x all.0 more.0, both P Q R f xs all.1 more.1)
behind_one load writes section txn (Read place replies) before lines all =
    ((λ wrong. grind (arith, wrong, all.places.0)), no_entry load writes (record { section = section; txn = txn; outcome = Read place replies }) before lines refl all.numbers all.once all.apart all.places.1)
behind_one load writes section txn (Full rank place) before lines all =
    ((λ wrong. grind (arith, wrong, all.places.0)), no_entry load writes (record { section = section; txn = txn; outcome = Full rank place }) before lines refl all.numbers all.once all.apart all.places.1)
behind_one load writes section txn Aborted before lines all =
    ((λ wrong. grind (arith, wrong)), no_entry load writes (record { section = section; txn = txn; outcome = Aborted }) before lines refl all.numbers all.once all.apart all.places)

none_misnumbered : (load writes : ℕ) (before lines : List Line) → AreNumbered load writes before lines → NoneFails (Misnumbered load writes) before lines
none_misnumbered load writes before [] all = tt
none_misnumbered load writes before (line ∷ lines) all =
    let on = behind_one load writes line.section line.txn line.outcome before lines all in
    (on.0, none_misnumbered load writes (before ++ line ∷ []) lines on.1)

pub misnumbered_is_not : (load : ℕ) (run : Printed) (place : Place) → FirstMisnumbered load run place → ¬ IsNumbered load run
misnumbered_is_not load run place first = λ numbered. elim first [
  | inl one ↦ one_fails (Misnumbered load run.writes) [] run.lines place one
      (none_misnumbered load run.writes [] run.lines (record { numbers = numbered.numbers; once = numbered.once; apart = all_of_them (numbers_of run.lines); places = numbered.places }))
  | inr count ↦ count.count numbered.count
]
  where
    all_of_them : (xs : List ℕ) → AllByRecursion (λ k. is_among [] k ≡ false) xs
    all_of_them [] = tt
    all_of_them (x ∷ xs) = (refl, all_of_them xs)
