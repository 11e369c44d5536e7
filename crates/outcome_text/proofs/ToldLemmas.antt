-- What is printed of a run whose text tells all of it fits.
use Rattle.std.proofs.Common.{◌≡◌, ◌<◌, ◌≤◌, ◌+◌, ℕ, zero, suc, arith, List, [], ◌∷◌, drop, drop-cons, add-one, length, get_or, refl, sym, subst}
use Rattle.std.specs.Prelude.{OnOk, Result, Ok, Err}
use Rattle.std.specs.List.{AllByRecursion}
use Rattle.gdi_kinds.specs.declared.outcome.Line.{Line}
use Rattle.gdi_kinds.specs.declared.outcome.Outcome.TheVariants.{Wrote, Read}
use Rattle.gdi_kinds.specs.declared.reply.Reply.{Reply}
use Rattle.outcome_text.specs.Runs.{IsLine, IsNumber, IsOutcome, IsReply}
use Rattle.outcome_text.specs.Told.{OutcomeIsTold, ReplyIsTold}

-- each fits that is told, and all are
pub all_fit : {X : Type 0} (Told Fits : X → Type 0) (xs : List X) → AllByRecursion (λ x. Told x → Fits x) xs → AllByRecursion Told xs → AllByRecursion Fits xs
all_fit Told Fits [] each told = tt
all_fit Told Fits (x ∷ xs) each told = (each.0 told.0, all_fit Told Fits xs each.1 told.1)

-- one more is passed, of which this is so
pub one_more : {X : Type 0} (P : X → Type 0) (xs : List X) (i : ℕ) (x : X) → i < length xs → x ≡ get_or xs i x → P x → (AllByRecursion P (drop i xs) → AllByRecursion P xs)
    → AllByRecursion P (drop (i + 1) xs) → AllByRecursion P xs
one_more P xs i x lt is this all rest =
    let front : drop i xs ≡ get_or xs i x ∷ drop (i + 1) xs = rw (add-one, drop-cons xs i x) refl in
    all (subst (AllByRecursion P) (sym front) (subst P is this, rest))

-- behind the last all are passed
past_end : {X : Type 0} (P : X → Type 0) (xs : List X) (i : ℕ) → length xs ≤ i → AllByRecursion P (drop i xs)
past_end P [] zero le = tt
past_end P [] (suc i) le = tt
past_end P (x ∷ xs) zero le = absurd (omega (arith, le))
past_end P (x ∷ xs) (suc i) le = past_end P xs i (omega (arith, le))

pub all_passed : {X : Type 0} (P : X → Type 0) (xs : List X) (i : ℕ) → length xs ≤ i → (AllByRecursion P (drop i xs) → AllByRecursion P xs) → AllByRecursion P xs
all_passed P xs i le all = all (past_end P xs i le)

on_ok : {T E : Type 0} (r : Result T E) (P Q : Type 0) → (P → Q) → OnOk r P → OnOk r Q
on_ok (Ok x) P Q so p = so p
on_ok (Err e) P Q so p = p

abbrev Fit : List Reply → Type 0
Fit replies = AllByRecursion (λ reply. ReplyIsTold reply → IsReply reply) replies

module _ {T E : Type 0} (r : Result T E) (line : Line) (section : IsNumber line.section) (txn : IsNumber line.txn) (k : ℕ) (number : IsNumber k) (replies : List Reply) where
  pub wrote_fits : line.outcome ≡ Wrote k replies → OnOk r (Fit replies) → OnOk r (OutcomeIsTold line.outcome → IsLine line)
  wrote_fits is each =
      on_ok r (Fit replies) (OutcomeIsTold line.outcome → IsLine line)
      (λ fit told. record { section = section; txn = txn; outcome = subst IsOutcome (sym is) (number, all_fit ReplyIsTold IsReply replies fit (subst OutcomeIsTold is told)) }) each

  pub read_fits : line.outcome ≡ Read k replies → OnOk r (Fit replies) → OnOk r (OutcomeIsTold line.outcome → IsLine line)
  read_fits is each =
      on_ok r (Fit replies) (OutcomeIsTold line.outcome → IsLine line)
      (λ fit told. record { section = section; txn = txn; outcome = subst IsOutcome (sym is) (number, all_fit ReplyIsTold IsReply replies fit (subst OutcomeIsTold is told)) }) each
