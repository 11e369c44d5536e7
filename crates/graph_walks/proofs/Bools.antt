-- Tests, and options with tests.
use Rattle.std.proofs.Common.{◌≡◌, ℕ, Bool, true, false, ◌&&◌, ◌||◌, List, [], Option, Some, None, is_some, if◌then◌else◌, refl, sym, ap, ◌∙◌, eqb, true≢false}
use Rattle.std.specs.Prelude.{is_none}
use Rattle.std.specs.Option.{option_or}
use Rattle.graph_model.specs.Maps.{has}
use Rattle.std.proofs.lemmas.Bool.{eqb-true}

pub or-false : (x : Bool) → (x || false) ≡ x
or-false true = refl
or-false false = refl

pub and-false : (x : Bool) → (x && false) ≡ false
and-false true = refl
and-false false = refl

pub or-assoc : (x y z : Bool) → ((x || y) || z) ≡ (x || (y || z))
or-assoc true y z = refl
or-assoc false y z = refl

pub or-turn : (x y : Bool) → (x || y) ≡ (y || x)
or-turn true true = refl
or-turn true false = refl
or-turn false true = refl
or-turn false false = refl

-- a row that is one longer
pub row_longer : (a h s r : Bool) → ((a && (h || (s || false))) || r) ≡ (((a && h) || r) || (a && s))
row_longer false h s r = sym (or-false r)
row_longer true true s r = refl
row_longer true false true true = refl
row_longer true false true false = refl
row_longer true false false true = refl
row_longer true false false false = refl

-- a row with one step
pub row_started : (a s r : Bool) → ((a && (s || false)) || r) ≡ (r || (a && s))
row_started false s r = sym (or-false r)
row_started true true true = refl
row_started true true false = refl
row_started true false true = refl
row_started true false false = refl

-- marks by one test and then by another
pub marks_both : (o : Option ℕ) (m : ℕ) (a b : Bool) → option_or (option_or o (if a then Some m else None)) (if b then Some m else None) ≡ option_or o (if (a || b) then Some m else None)
marks_both (Some x) m a b = refl
marks_both None m true b = refl
marks_both None m false b = refl

-- and those that come new
pub news_both : (o : Option ℕ) (m : ℕ) (x a b : Bool) → ((x || (is_none o && a)) || (is_none (option_or o (if a then Some m else None)) && b)) ≡ (x || (is_none o && (a || b)))
news_both (Some y) m true a b = refl
news_both (Some y) m false a b = refl
news_both None m true a b = refl
news_both None m false true b = refl
news_both None m false false b = refl

pub unmarked : (o : Option ℕ) → option_or o None ≡ o
unmarked (Some x) = refl
unmarked None = refl

-- what is asked at one number alone
pub at_one : (p : ℕ → Bool) (id j : ℕ) (b : Bool) → b ≡ p id → (p j && eqb id j) ≡ (b && eqb id j)
at_one p id j b is =
    elim (eqb id j) as (λ e. eqb id j ≡ e → (p j && e) ≡ (b && e)) [
      | true ↦ λ same. ap (λ x. x && true) (ap p (sym (eqb-true id j same)) ∙ sym is)
      | false ↦ λ _. and-false (p j) ∙ sym (and-false b)
    ] refl

pub same_tests : (a b : Bool) → (a ≡ true → b ≡ true) → (b ≡ true → a ≡ true) → a ≡ b
same_tests true b f g = sym (f refl)
same_tests false true f g = g refl
same_tests false false f g = refl

pub seen_some : (o : Option ℕ) → is_none o ≡ false → is_some o ≡ true
seen_some None wrong = absurd (true≢false wrong)
seen_some (Some m) there = refl

pub seen_none : (o : Option ℕ) → is_none o ≡ true → o ≡ None
seen_none None there = refl
seen_none (Some m) wrong = absurd (true≢false (sym wrong))

-- what comes behind none
pub from_none : (xs : List ℕ) (j : ℕ) (b : Bool) → xs ≡ [] → (has xs j || b) ≡ b
from_none xs j b is = ap (λ ys. has ys j || b) is
