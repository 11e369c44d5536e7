-- Lines that are all well numbered.
use Rattle.std.proofs.Common.{◌≡◌, ◌≢◌, ℕ, ◌+◌, ◌<◌, ◌≤◌, false, ◌||◌, ◌==◌, List, [], ◌∷◌, ◌++◌, length, refl, sym, ap, subst, ◌∙◌, arith, inr}
use Rattle.std.specs.List.{AllByRecursion}
use Rattle.std.specs.Option.{option_to_list}
use Rattle.std.proofs.lemmas.List.{append-nil}
use Rattle.std.proofs.lemmas.List.Elements.{filter_map-append}
use Rattle.gdi_kinds.specs.declared.outcome.Outcome.{Outcome}
use Rattle.gdi_kinds.specs.declared.outcome.Outcome.TheVariants.{Wrote, Read, Aborted, Full}
use Rattle.gdi_kinds.specs.declared.outcome.Line.{Line}
use Rattle.gdi_kinds.specs.declared.outcome.Printed.{Printed}
use Rattle.graph_model.specs.Placed.{entry_number}
use Rattle.graph_model.specs.LegalRun.{IsDistinct, IsNumbered, numbers_of, reading_places}
use Rattle.run_check.specs.declared.place.Place.{Place}
use Rattle.run_check.specs.Places.{NoneFails, FirstFails}
use Rattle.run_check.specs.Numbering.{Misnumbered, is_among}
use Rattle.run_check.proofs.Seen.{among_one_more}

-- the numbers of lines with a line more
pub numbers_more : (lines : List Line) (line : Line) → numbers_of (lines ++ line ∷ []) ≡ numbers_of lines ++ option_to_list (entry_number line.outcome)
numbers_more lines line = filter_map-append (λ (l : Line). entry_number l.outcome) lines (line ∷ []) ∙ ap (λ l. numbers_of lines ++ l) (alone line.section line.txn line.outcome)
  where
    alone : (section txn : ℕ) (o : Outcome) → numbers_of ((record { section = section; txn = txn; outcome = o }) ∷ []) ≡ option_to_list (entry_number o)
    alone section txn (Wrote k replies) = refl
    alone section txn (Read place replies) = refl
    alone section txn (Full rank place) = refl
    alone section txn Aborted = refl

pub all_then : {X : Type 0} (P Q : X → Type 0) → ((x : X) → P x → Q x) → (xs : List X) → AllByRecursion P xs → AllByRecursion Q xs
all_then P Q f [] all = tt
all_then P Q f (x ∷ xs) all = (f x all.0, all_then P Q f xs all.1)

pub record AreNumbered (load writes : ℕ) (before lines : List Line) : Type 0 where
  pub numbers : AllByRecursion (λ k. (load ≤ k) × (k < writes)) (numbers_of lines)
  pub once : IsDistinct (numbers_of lines)
  pub apart : AllByRecursion (λ k. is_among (numbers_of before) k ≡ false) (numbers_of lines)
  pub places : AllByRecursion (λ n. (load ≤ n) × (n ≤ writes)) (reading_places lines)

-- a line that is no entry adds no number
stays : (before : List Line) (line : Line) → option_to_list (entry_number line.outcome) ≡ [] → (m : ℕ)
    → is_among (numbers_of (before ++ line ∷ [])) m ≡ false → is_among (numbers_of before) m ≡ false
stays before line none m h =
    ap (λ (l : List ℕ). is_among l m) (sym (numbers_more before line ∙ ap (λ l. numbers_of before ++ l) none ∙ append-nil (numbers_of before))) ∙ h

-- a line in front of lines that are numbered
in_front : (load writes section txn : ℕ) (o : Outcome) (before lines : List Line)
    → ¬ Misnumbered load writes before (record { section = section; txn = txn; outcome = o })
    → AreNumbered load writes (before ++ (record { section = section; txn = txn; outcome = o }) ∷ []) lines
    → AreNumbered load writes before ((record { section = section; txn = txn; outcome = o }) ∷ lines)
in_front load writes section txn (Wrote k replies) before lines right later =
    let among : (m : ℕ) → is_among (numbers_of (before ++ (record { section = section; txn = txn; outcome = Wrote k replies }) ∷ [])) m ≡ (is_among (numbers_of before) m || k == m)
    = λ m. ap (λ (l : List ℕ). is_among l m) (numbers_more before (record { section = section; txn = txn; outcome = Wrote k replies })) ∙ among_one_more (numbers_of before) k m in
    record {
      numbers = ((grind (arith, right), grind (arith, right)), later.numbers);
      once = (all_then _ (λ m. m ≢ k) (λ m h. grind (arith, among m, h)) (numbers_of lines) later.apart, later.once);
      apart = (grind (arith, right), all_then _ (λ m. is_among (numbers_of before) m ≡ false) (λ m h. grind (arith, among m, h)) (numbers_of lines) later.apart);
      places = later.places;
    }
in_front load writes section txn (Read place replies) before lines right later = record {
  numbers = later.numbers;
  once = later.once;
  apart = all_then _ (λ m. is_among (numbers_of before) m ≡ false) (stays before (record { section = section; txn = txn; outcome = Read place replies }) refl) (numbers_of lines) later.apart;
  places = ((grind (arith, right), grind (arith, right)), later.places);
}
in_front load writes section txn (Full rank place) before lines right later = record {
  numbers = later.numbers;
  once = later.once;
  apart = all_then _ (λ m. is_among (numbers_of before) m ≡ false) (stays before (record { section = section; txn = txn; outcome = Full rank place }) refl) (numbers_of lines) later.apart;
  places = ((grind (arith, right), grind (arith, right)), later.places);
}
in_front load writes section txn Aborted before lines right later = record {
  numbers = later.numbers;
  once = later.once;
  apart = all_then _ (λ m. is_among (numbers_of before) m ≡ false) (stays before (record { section = section; txn = txn; outcome = Aborted }) refl) (numbers_of lines) later.apart;
  places = later.places;
}

all_numbered : (load writes : ℕ) (before lines : List Line) → NoneFails (Misnumbered load writes) before lines → AreNumbered load writes before lines
all_numbered load writes before [] none = record { numbers = tt; once = tt; apart = tt; places = tt }
all_numbered load writes before (line ∷ lines) none =
    in_front load writes line.section line.txn line.outcome before lines none.0 (all_numbered load writes (before ++ line ∷ []) lines none.1)

-- where no line is misnumbered, and they are as many entries as are said, the run is numbered
pub is_numbered : (load : ℕ) (run : Printed) → NoneFails (Misnumbered load run.writes) [] run.lines → run.writes ≡ load + length (numbers_of run.lines)
    → IsNumbered load run
is_numbered load run none count =
    let all = all_numbered load run.writes [] run.lines none in
    record { count = count; numbers = all.numbers; once = all.once; places = all.places }

-- ---- a loop over lines that has come to one of them

pub none_before : (F : List Line → Line → Type 0) (before more lines rest : List Line) (line : Line) → more ≡ before ++ line ∷ [] → lines ≡ line ∷ rest
    → ¬ F before line → NoneFails F more rest → NoneFails F before lines
none_before F before more lines rest line e d right later = subst (NoneFails F before) (sym d) (right, subst (λ b. NoneFails F b rest) e later)

pub first_later : (F : List Line → Line → Type 0) (before more lines rest : List Line) (line : Line) (place : Place) → more ≡ before ++ line ∷ [] → lines ≡ line ∷ rest
    → ¬ F before line → FirstFails F more rest place → FirstFails F before lines place
first_later F before more lines rest line place e d right later =
    subst (λ l. FirstFails F before l place) (sym d) (inr (right, subst (λ b. FirstFails F b rest place) e later))
