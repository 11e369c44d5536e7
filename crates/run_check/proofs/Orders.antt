-- Lines in the order of their sections.
use Rattle.std.proofs.Common.{◌≡◌, ℕ, ◌<◌, ◌≤◌, Bool, true, false, List, [], ◌∷◌, ◌++◌, refl, sym, subst, arith, inl, inr, ◌⊎◌}
use Rattle.std.specs.List.{AllByRecursion}
use Rattle.gdi_kinds.specs.declared.outcome.Outcome.{Outcome}
use Rattle.gdi_kinds.specs.declared.outcome.Outcome.TheVariants.{Wrote, Read, Aborted, Full}
use Rattle.gdi_kinds.specs.declared.outcome.Line.{Line}
use Rattle.graph_model.specs.LegalRun.{MayStandBefore, KeepsSessionOrder}
use Rattle.run_check.specs.Places.{NoneFails}
use Rattle.run_check.specs.Ordering.{MayFollow, TooEarly, RisesBySection, HasCome, is_from, least_behind}

-- what may stand behind an outcome is what is from its least on
may_then : (e o : Outcome) → is_from (least_behind e) o ≡ true → MayStandBefore e o
may_then (Wrote k rs) (Wrote m ss) h = (grind (arith, h), tt)
may_then (Wrote k rs) (Read n ss) h = (tt, grind (arith, h))
may_then (Wrote k rs) (Full r n) h = (tt, grind (arith, h))
may_then (Wrote k rs) Aborted h = (tt, tt)
may_then (Read p rs) (Wrote m ss) h = (grind (arith, h), tt)
may_then (Read p rs) (Read n ss) h = (tt, grind (arith, h))
may_then (Read p rs) (Full r n) h = (tt, grind (arith, h))
may_then (Read p rs) Aborted h = (tt, tt)
may_then (Full q p) (Wrote m ss) h = (grind (arith, h), tt)
may_then (Full q p) (Read n ss) h = (tt, grind (arith, h))
may_then (Full q p) (Full r n) h = (tt, grind (arith, h))
may_then (Full q p) Aborted h = (tt, tt)
may_then Aborted o h = tt

then_from : (e o : Outcome) → MayStandBefore e o → is_from (least_behind e) o ≡ true
then_from (Wrote k rs) (Wrote m ss) h = grind (arith, h.0)
then_from (Wrote k rs) (Read n ss) h = grind (arith, h.1)
then_from (Wrote k rs) (Full r n) h = grind (arith, h.1)
then_from (Wrote k rs) Aborted h = refl
then_from (Read p rs) (Wrote m ss) h = grind (arith, h.0)
then_from (Read p rs) (Read n ss) h = grind (arith, h.1)
then_from (Read p rs) (Full r n) h = grind (arith, h.1)
then_from (Read p rs) Aborted h = refl
then_from (Full q p) (Wrote m ss) h = grind (arith, h.0)
then_from (Full q p) (Read n ss) h = grind (arith, h.1)
then_from (Full q p) (Full r n) h = grind (arith, h.1)
then_from (Full q p) Aborted h = refl
then_from Aborted (Wrote m ss) h = grind arith
then_from Aborted (Read n ss) h = grind arith
then_from Aborted (Full r n) h = grind arith
then_from Aborted Aborted h = refl

below_too : (a b : ℕ) (o : Outcome) → a ≤ b → is_from b o ≡ true → is_from a o ≡ true
below_too a b (Wrote m ss) le h = grind (arith, le, h)
below_too a b (Read n ss) le h = grind (arith, le, h)
below_too a b (Full r n) le h = grind (arith, le, h)
below_too a b Aborted le h = refl

pub all_push : {X : Type 0} (P : X → Type 0) (xs : List X) (x : X) → AllByRecursion P xs → P x → AllByRecursion P (xs ++ x ∷ [])
all_push P [] x all h = (h, tt)
all_push P (y ∷ xs) x all h = (all.0, all_push P xs x all.1 h)

pub all_front : {X : Type 0} (P : X → Type 0) (xs : List X) (x : X) → AllByRecursion P (xs ++ x ∷ []) → AllByRecursion P xs
all_front P [] x all = tt
all_front P (y ∷ xs) x all = (all.0, all_front P xs x all.1)

pub all_last : {X : Type 0} (P : X → Type 0) (xs : List X) (x : X) → AllByRecursion P (xs ++ x ∷ []) → P x
all_last P [] x all = all.0
all_last P (y ∷ xs) x all = all_last P xs x all.1

all_map : {X : Type 0} (P Q : X → Type 0) → ((x : X) → P x → Q x) → (xs : List X) → AllByRecursion P xs → AllByRecursion Q xs
all_map P Q f [] all = tt
all_map P Q f (x ∷ xs) all = (f x all.0, all_map P Q f xs all.1)

-- the same section goes on
pub same_section : (before : List Line) (section least : ℕ) (line : Line) → HasCome before section least → line.section ≡ section → is_from least line.outcome ≡ true → MayFollow before line
same_section before section least line come same from =
    subst (λ s. AllByRecursion (λ (earlier : Line). earlier.section ≡ s → MayStandBefore earlier.outcome line.outcome) before) (sym same) (come.follows line.outcome from)

pub not_from : (before : List Line) (section least : ℕ) (line : Line) → HasCome before section least → line.section ≡ section → is_from least line.outcome ≡ false → TooEarly before line
not_from before section least line come same from = λ may.
    let known = come.only line.outcome (subst (λ s. AllByRecursion (λ (earlier : Line). earlier.section ≡ s → MayStandBefore earlier.outcome line.outcome) before) same may) in
    grind (arith, known, from)

from_none : (o : Outcome) → is_from 0 o ≡ true
from_none (Wrote m ss) = grind arith
from_none (Read n ss) = grind arith
from_none (Full r n) = grind arith
from_none Aborted = refl

-- a later section has no line yet
pub later_section : (before : List Line) (section least : ℕ) (line : Line) → HasCome before section least → section < line.section → HasCome before line.section 0
later_section before section least line come later = record {
  sections = all_map _ (λ (earlier : Line). earlier.section ≤ line.section) (λ earlier h. omega (arith, h, later)) before come.sections;
  follows = λ outcome from. all_map _ (λ (earlier : Line). earlier.section ≡ line.section → MayStandBefore earlier.outcome outcome) (λ earlier h same. absurd (omega (arith, h, later, same))) before come.sections;
  only = λ outcome all. from_none outcome;
}

-- a line more, of this section
pub one_more : (before : List Line) (section least more : ℕ) (line : Line) → HasCome before section least → line.section ≡ section
    → least ≤ more → least_behind line.outcome ≤ more → (more ≡ least) ⊎ (more ≡ least_behind line.outcome) → HasCome (before ++ line ∷ []) section more
one_more before section least more line come same up over one = record {
  sections = all_push _ before line come.sections (omega (arith, same));
  follows = λ outcome from. all_push _ before line (come.follows outcome (below_too least more outcome up from)) (λ s. may_then line.outcome outcome (below_too _ more outcome over from));
  only = λ outcome all. elim one [
    | inl is ↦ subst (λ n. is_from n outcome ≡ true) (sym is) (come.only outcome (all_front _ before line all))
    | inr is ↦ subst (λ n. is_from n outcome ≡ true) (sym is) (then_from line.outcome outcome (all_last _ before line all same))
  ];
}

-- ---- a loop over lines that has come to one of them

-- none of the lines so far stands too early: so the section of each comes before those that follow
pub record KeepOrder (before lines : List Line) : Type 0 where
  pub order : KeepsSessionOrder lines
  pub behind : AllByRecursion (λ earlier. AllByRecursion (λ later. later.section ≡ earlier.section → MayStandBefore earlier.outcome later.outcome) lines) before

may_or_not : (e o : Outcome) → ¬ ¬ MayStandBefore e o → MayStandBefore e o
may_or_not e o twice = decided (is_from (least_behind e) o) refl
  where
    decided : (b : Bool) → is_from (least_behind e) o ≡ b → MayStandBefore e o
    decided true is = may_then e o is
    decided false is = absurd (twice (λ may. grind (arith, then_from e o may, is)))

-- what isn't refused may follow each one before
may_follow : (before : List Line) (line : Line) → ¬ TooEarly before line → MayFollow before line
may_follow [] line not_early = tt
may_follow (earlier ∷ before) line not_early =
    (λ same. may_or_not earlier.outcome line.outcome (λ no. not_early (λ all. no (all.0 same))), may_follow before line (λ early. not_early (λ all. early all.1)))

all_both : {X : Type 0} (P Q R : X → Type 0) → ((x : X) → P x → Q x → R x) → (xs : List X) → AllByRecursion P xs → AllByRecursion Q xs → AllByRecursion R xs
all_both P Q R f [] all more = tt
all_both P Q R f (x ∷ xs) all more = (f x all.0 more.0, all_both P Q R f xs all.1 more.1)

all_of : {X : Type 0} (P : X → Type 0) → ((x : X) → P x) → (xs : List X) → AllByRecursion P xs
all_of P f [] = tt
all_of P f (x ∷ xs) = (f x, all_of P f xs)

all_keep : (before lines : List Line) → NoneFails TooEarly before lines → KeepOrder before lines
all_keep before [] none = record { order = tt; behind = all_of _ (λ earlier. tt) before }
all_keep before (line ∷ lines) none =
    let rest = all_keep (before ++ line ∷ []) lines none.1 in
    record {
      order = (all_last _ before line rest.behind, rest.order);
      behind = all_both (λ (earlier : Line). earlier.section ≡ line.section → MayStandBefore earlier.outcome line.outcome)
          (λ (earlier : Line). AllByRecursion (λ (later : Line). later.section ≡ earlier.section → MayStandBefore earlier.outcome later.outcome) lines)
          (λ (earlier : Line). AllByRecursion (λ (later : Line). later.section ≡ earlier.section → MayStandBefore earlier.outcome later.outcome) (line ∷ lines))
          (λ earlier here later. ((λ same. here (sym same)), later)) before (may_follow before line none.0) (all_front _ before line rest.behind);
    }

pub keeps_order : (lines : List Line) → NoneFails TooEarly [] lines → KeepsSessionOrder lines
keeps_order lines none = (all_keep [] lines none).order

pub nothing_yet : HasCome [] 0 0
nothing_yet = record { sections = tt; follows = λ o from. tt; only = λ o all. from_none o }

-- the lines that are left, of which this is the first
pub record Left (lines : List Line) (section : ℕ) : Type 0 where
  pub later : AllByRecursion (λ line. section ≤ line.section) lines
  pub rises : RisesBySection lines

pub all_left : (lines : List Line) → RisesBySection lines → Left lines 0
all_left lines rises = record { later = all_of _ (λ line. omega arith) lines; rises = rises }

pub next_left : (lines rest : List Line) (line : Line) (section : ℕ) → lines ≡ line ∷ rest → Left lines section → Left rest line.section
next_left lines rest line section is left = let r = subst RisesBySection is left.rises in record { later = r.0; rises = r.1 }

pub next_is_later : (lines rest : List Line) (line : Line) (section : ℕ) → lines ≡ line ∷ rest → Left lines section → section ≤ line.section
next_is_later lines rest line section is left = (subst (AllByRecursion (λ line. section ≤ line.section)) is left.later).0

-- ---- back from lines in order

pub may_be_behind : (before lines : List Line) (line : Line) → KeepOrder before (line ∷ lines) → MayFollow before line
may_be_behind before lines line keeps = all_map _ (λ (earlier : Line). earlier.section ≡ line.section → MayStandBefore earlier.outcome line.outcome)
    (λ earlier h same. h.0 (sym same)) before keeps.behind

pub goes_on_keeping : (before lines : List Line) (line : Line) → KeepOrder before (line ∷ lines) → KeepOrder (before ++ line ∷ []) lines
goes_on_keeping before lines line keeps = record {
  order = keeps.order.1;
  behind = all_push _ before line
      (all_map _ (λ (earlier : Line). AllByRecursion (λ (later : Line). later.section ≡ earlier.section → MayStandBefore earlier.outcome later.outcome) lines) (λ earlier h. h.1) before keeps.behind)
      keeps.order.0;
}
