-- Facts of each view, before and after one view has changed.
use Rattle.std.proofs.Common.{◌≡◌, ◌≢◌, ℕ, zero, suc, List, [], ◌∷◌, map, set, get_or, refl, sym, ap, ◌∙◌, subst, inl, inr}
use Rattle.std.proofs.lemmas.List.{get_or-set_other}
use mathlib.Core.Option.{some, some-injective, some-ne-none}
use lib.ListN.{get_elem?}
use lib.Seq.{map-set}
use Rattle.atomic_table.proofs.Lists.{at_set, at_map}
use Rattle.window_rule.specs.EachView.{EachView}

module _ {V A : Type 0} (part : V → A) (views : List V) (id : ℕ) (before after : V)
    (there : get_elem? views id ≡ some before) where
  -- one view has changed what the fact is of
  pub EachView-set : (Holds After : ℕ → A → Type 0) → After id (part after)
      → ((j : ℕ) (view : V) → j ≢ id → get_elem? views j ≡ some view → Holds j (part view)
      → After j (part view))
      → EachView part Holds views → EachView part After (set views id after)
  EachView-set Holds After mine theirs h j view at =
      elim (at_set views id j after view at) [
        | inl here ↦ subst (λ (v : V). After j (part v)) here.1
            (subst (λ (k : ℕ). After k (part after)) (sym here.0) mine)
        | inr else ↦ theirs j view else.0 else.1 (h j view else.1)
      ]

  -- no view has
  pub EachView-same : (Holds : ℕ → A → Type 0) → part after ≡ part before
      → EachView part Holds views → EachView part Holds (set views id after)
  EachView-same Holds same h = EachView-set Holds Holds
      (subst (Holds id) (sym same) (h id before there)) (λ j view ne at was. was) h

pub at_or : {A : Type 0} (l : List A) (i : ℕ) (a d : A) → get_elem? l i ≡ some a → get_or l i d ≡ a
at_or [] i a d e = absurd (some-ne-none a (sym e))
at_or (x ∷ xs) zero a d e = some-injective x a e
at_or (x ∷ xs) (suc i) a d e = at_or xs i a d e

pub set_here_at : {A : Type 0} (l : List A) (i : ℕ) (a b : A) → get_elem? l i ≡ some a
    → get_elem? (set l i b) i ≡ some b
set_here_at [] i a b e = absurd (some-ne-none a (sym e))
set_here_at (x ∷ xs) zero a b e = refl
set_here_at (x ∷ xs) (suc i) a b e = set_here_at xs i a b e

module _ {V A : Type 0} (part : V → A) (views : List V) (id : ℕ) (before after : V) (d : A)
    (there : get_elem? views id ≡ some before) where
  pub part_before : get_or (map part views) id d ≡ part before
  part_before = at_or (map part views) id (part before) d (at_map part views id before there)

  pub part_after : get_or (map part (set views id after)) id d ≡ part after
  part_after = ap (λ l. get_or l id d) (map-set part views id after)
      ∙ at_or _ id (part after) d
      (set_here_at (map part views) id (part before) (part after)
      (at_map part views id before there))

  pub part_other : (j : ℕ) → j ≢ id
      → get_or (map part (set views id after)) j d ≡ get_or (map part views) j d
  part_other j ne = ap (λ l. get_or l j d) (map-set part views id after)
      ∙ get_or-set_other (map part views) id j (part after) d ne
