-- A map whose keys are the words that name objects does what a list of objects does.
use Rattle.std.proofs.Common.{◌≡◌, ◌≢◌, ℕ, ◌/◌, ◌%◌, ◌^◌, ◌<◌, Bool, true, false, cond, List, [], ◌∷◌, refl, sym, ap, ◌∙◌, arith, inl, inr, Option, Some, None}
use Rattle.std.specs.Ordering.{nat_cmp, match_ordering, is_eq, MatchOrdering}
use Rattle.std.specs.declared.cmp.Ordering.{Ordering}
use Rattle.std.specs.declared.cmp.Ordering.TheVariants.{Less, Equal, Greater}
use Rattle.std.specs.Cmp.{ranked}
use Rattle.std.specs.Map.{lookup}
use Rattle.std.specs.BTreeMap.{insert_entry, is_at}
use Rattle.rma_layout.specs.Placement.{Place, same_place}
use Rattle.object_words.specs.Chains.{place_of}
use Rattle.window_rule.proofs.LockLemmas.{same_place-refl, same_place-false, place_cases}

numbers_differ : (x y : ℕ) → (x ≡ y → ⊥) → place_of x ≢ place_of y
numbers_differ x y ne e =
    let r : x / 2 ^ 48 ≡ y / 2 ^ 48 = ap (λ (p : Place). p.rank) e in
    let b : x % 2 ^ 48 ≡ y % 2 ^ 48 = ap (λ (p : Place). p.block) e in
    ne (omega (arith, r, b))

same_by_order : (x y : ℕ) (all : Ordering) → MatchOrdering all (x < y) (x ≡ y) (y < x)
    → same_place (place_of y) (place_of x) ≡ is_eq all
same_by_order x y Less h = same_place-false _ _ (numbers_differ y x (λ e. omega (arith, h, e)))
same_by_order x y Equal h = ap (λ n. same_place (place_of n) (place_of x)) (sym h) ∙ same_place-refl (place_of x)
same_by_order x y Greater h = same_place-false _ _ (numbers_differ y x (λ e. omega (arith, h, e)))

-- what is seen of a value, if there is one
abbrev pub seen_as : {V W : Type 0} → (V → W) → Option V → Option W
seen_as f None = None
seen_as f (Some value) = Some (f value)

-- what is seen of the value of an object
abbrev pub named_at : {V W : Type 0} → (V → W) → List (ℕ × V) → Place → Option W
named_at f [] object = None
named_at f (one ∷ more) object = cond (same_place (place_of one.0) object) (Some (f one.1)) (named_at f more object)

apart : (p q other : Place) → p ≢ q → same_place p other ≡ true → same_place q other ≡ false
apart p q other ne is = elim (place_cases p other) [
  | inl same ↦ same_place-false q other (λ e. ne (same ∙ sym e))
  | inr differ ↦ absurd (cc (sym (same_place-false p other differ) ∙ is))
]

module _ {V W : Type 0} (f : V → W) where
  found_cases : (b : Bool) (value : V) (rest : Option V)
      → cond b (Some (f value)) (seen_as f rest) ≡ seen_as f (cond b (Some value) rest)
  found_cases true value rest = refl
  found_cases false value rest = refl

  pub named_at-lookup : (entries : List (ℕ × V)) (raw : ℕ)
      → named_at f entries (place_of raw) ≡ seen_as f (lookup (is_at (nat_cmp raw)) entries)
  named_at-lookup [] raw = refl
  named_at-lookup (one ∷ more) raw =
      ap (λ b. cond b (Some (f one.1)) (named_at f more (place_of raw)))
      (same_by_order raw one.0 (nat_cmp raw one.0) (ranked raw one.0 _ refl))
      ∙ (ap (cond (is_eq (nat_cmp raw one.0)) (Some (f one.1))) (named_at-lookup more raw)
      ∙ found_cases (is_eq (nat_cmp raw one.0)) one.1 (lookup (is_at (nat_cmp raw)) more))

  once_more : (b : Bool) (first other rest : Option W) → cond b first rest ≡ cond b first (cond b other rest)
  once_more true first other rest = refl
  once_more false first other rest = refl

  swapped : (a b : Bool) (first second rest : Option W) → (a ≡ true → b ≡ false)
      → cond a first (cond b second rest) ≡ cond b second (cond a first rest)
  swapped true true first second rest h = absurd (cc (h refl))
  swapped true false first second rest h = refl
  swapped false b first second rest h = refl

  module _ (raw : ℕ) (value : V) (other : Place) where
    abbrev after : List (ℕ × V) → Option W
    after entries = named_at f (insert_entry nat_cmp entries raw value) other

    abbrev wanted : List (ℕ × V) → Option W
    wanted entries = cond (same_place (place_of raw) other) (Some (f value)) (named_at f entries other)

    put_cases : (one : ℕ × V) (more : List (ℕ × V)) (o : Ordering)
        → MatchOrdering o (raw < one.0) (raw ≡ one.0) (one.0 < raw) → after more ≡ wanted more
        → named_at f (match_ordering o ((raw, value) ∷ one ∷ more) ((one.0, value) ∷ more)
        (one ∷ insert_entry nat_cmp more raw value)) other ≡ wanted (one ∷ more)
    put_cases one more Less h rest = refl
    put_cases one more Equal h rest =
        once_more (same_place (place_of one.0) other) (Some (f value)) (Some (f one.1)) (named_at f more other)
        ∙ ap (λ n. cond (same_place (place_of n) other) (Some (f value)) (named_at f (one ∷ more) other)) (sym h)
    put_cases one more Greater h rest =
        ap (cond (same_place (place_of one.0) other) (Some (f one.1))) rest
        ∙ swapped (same_place (place_of one.0) other) (same_place (place_of raw) other) (Some (f one.1)) (Some (f value))
        (named_at f more other)
        (apart (place_of one.0) (place_of raw) other (numbers_differ one.0 raw (λ e. omega (arith, h, e))))

    pub named_at-insert_entry : (entries : List (ℕ × V)) → after entries ≡ wanted entries
    named_at-insert_entry [] = refl
    named_at-insert_entry (one ∷ more) =
        put_cases one more (nat_cmp raw one.0) (ranked raw one.0 _ refl) (named_at-insert_entry more)
