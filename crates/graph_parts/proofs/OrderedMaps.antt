-- What the calls of an ordered map leave, in the words of maps as lists of entries.
use Rattle.std.proofs.Common.{◌≡◌, ℕ, ◌+◌, length, Bool, true, false, cond, List, [], ◌∷◌, Some, None, is_some, refl, ap, sym, ◌∙◌, arith, true≢false}
use Rattle.std.specs.List.{count_by}
use Rattle.std.specs.List.Sorted.{IsStrictlySortedBy}
use Rattle.std.specs.Ordering.{nat_cmp, is_eq, match_ordering}
use Rattle.std.specs.declared.cmp.Ordering.TheVariants.{Less, Equal, Greater}
use Rattle.std.specs.Map.{keys_of, lookup, remove_entry, set_value}
use Rattle.std.specs.BTreeSet.{insert_key}
use Rattle.std.specs.Set.{remove_key}
use Rattle.std.specs.List.{list_any}
use Rattle.std.specs.Cmp.{nat_cmp_total}
use Rattle.std.specs.BTreeMap.{insert_entry, is_at}
use Rattle.std.specs.FinMap.Entries.{by_order}
use Rattle.std.proofs.lemmas.Bool.Decides.{nat_tests}
use Rattle.std.proofs.lemmas.List.Sums.{sum_by-cons}
use Rattle.std.proofs.lemmas.Map.{lookup-none}
use Rattle.std.proofs.lemmas.Map.Entries.{none_below_head}
use Rattle.std.proofs.lemmas.Map.Keys.{sorted_tail}
use Rattle.graph_model.specs.Maps.{Map, at, is_there, with_at, without, has, add, take_out}
use Rattle.graph_model.proofs.VertexSteps.{without-absent}

module _ {X : Type 0} where
  pub lookup-at : (k : ℕ) (es : Map ℕ X) → lookup (is_at (nat_cmp k)) es ≡ at es k
  lookup-at k [] = refl
  lookup-at k (e ∷ es) = ap (cond (is_eq (nat_cmp k e.0)) (Some e.1)) (lookup-at k es)

  pub insert_entry-with_at : (k : ℕ) (x : X) (es : Map ℕ X) → insert_entry nat_cmp es k x ≡ with_at es k x
  insert_entry-with_at k x [] = refl
  insert_entry-with_at k x (e ∷ es) =
      elim (nat_cmp k e.0) as (λ order. match_ordering order ((k, x) ∷ e ∷ es) ((e.0, x) ∷ es) (e ∷ insert_entry nat_cmp es k x) ≡ by_order order ((k, x) ∷ e ∷ es) ((e.0, x) ∷ es) (e ∷ with_at es k x)) [
        | Less ↦ refl
        | Equal ↦ refl
        | Greater ↦ ap (λ later. e ∷ later) (insert_entry-with_at k x es)
      ]

  remove_entry-without : (k : ℕ) (es : Map ℕ X) → is_there (remove_entry (is_at (nat_cmp k)) es) k ≡ false → remove_entry (is_at (nat_cmp k)) es ≡ without es k
  remove_entry-without k [] absent = refl
  remove_entry-without k (e ∷ es) absent = grind (arith, nat_tests, without-absent k es, remove_entry-without k es)

  -- a call takes out one entry, after which there is none
  pub removed : (k : ℕ) (es left : Map ℕ X) → left ≡ remove_entry (is_at (nat_cmp k)) es → lookup (is_at (nat_cmp k)) left ≡ None → left ≡ without es k
  removed k es left is none = is ∙ remove_entry-without k es (ap (λ l. is_there l k) (sym is) ∙ ap is_some (sym (lookup-at k left) ∙ none))

  -- how many keys pass
  pub count_by-with_at : (p : ℕ → Bool) (k : ℕ) (x : X) (es : Map ℕ X) → is_there es k ≡ false → count_by (λ e. p e.0) (with_at es k x) ≡ count_by (λ e. p e.0) es + cond (p k) 1 0
  count_by-with_at p k x [] absent = refl
  count_by-with_at p k x (e ∷ es) absent =
      let later = λ (apart : is_there es k ≡ false). count_by-with_at p k x es apart in
      let sums = sum_by-cons (λ (e : ℕ × X). cond (p e.0) 1 0) in
      grind (arith, nat_tests, later, sums (k, x) (e ∷ es), sums e es, sums e (with_at es k x))

  pub count_by-remove_entry : (p : ℕ → Bool) (k : ℕ) (es : Map ℕ X) → is_there es k ≡ true → count_by (λ e. p e.0) (remove_entry (is_at (nat_cmp k)) es) + cond (p k) 1 0 ≡ count_by (λ e. p e.0) es
  count_by-remove_entry p k [] there = absurd (cc)
  count_by-remove_entry p k (e ∷ es) there =
      let later = λ (more : is_there es k ≡ true). count_by-remove_entry p k es more in
      let sums = sum_by-cons (λ (e : ℕ × X). cond (p e.0) 1 0) in
      grind (arith, nat_tests, later, sums e es, sums e (remove_entry (is_at (nat_cmp k)) es))

  -- what is written in the place of a value
  pub set_value-with_at : (k : ℕ) (w : X) (es : Map ℕ X) → IsStrictlySortedBy nat_cmp (keys_of es) → is_there es k ≡ true → set_value (is_at (nat_cmp k)) es w ≡ with_at es k w
  set_value-with_at k w [] rises there = absurd (cc)
  set_value-with_at k w (e ∷ es) rises there =
      elim (nat_cmp k e.0) as (λ r. nat_cmp k e.0 ≡ r → is_some (cond (is_eq r) (Some e.1) (at es k)) ≡ true → cond (is_eq r) ((e.0, w) ∷ es) (e ∷ set_value (is_at (nat_cmp k)) es w) ≡ by_order r ((k, w) ∷ e ∷ es) ((e.0, w) ∷ es) (e ∷ with_at es k w)) [
        | Less ↦ λ less some.
            let none : at es k ≡ None = sym (lookup-at k es) ∙ lookup-none (is_at (nat_cmp k)) es (none_below_head nat_cmp_total k e es rises less).1 in
            absurd (true≢false (sym some ∙ ap is_some none))
        | Equal ↦ λ _ _. refl
        | Greater ↦ λ _ some. ap (λ later. e ∷ later) (set_value-with_at k w es (sorted_tail nat_cmp e.0 _ rises) some)
      ] refl there

  -- a value that is written leaves the keys
  pub count_by-set_value : (p : ℕ → Bool) (test : ℕ → Bool) (w : X) (es : Map ℕ X) → count_by (λ e. p e.0) (set_value test es w) ≡ count_by (λ e. p e.0) es
  count_by-set_value p test w [] = refl
  count_by-set_value p test w (e ∷ es) =
      let sums = sum_by-cons (λ (e : ℕ × X). cond (p e.0) 1 0) in
      elim (test e.0) as (λ b. count_by (λ e. p e.0) (cond b ((e.0, w) ∷ es) (e ∷ set_value test es w)) ≡ count_by (λ e. p e.0) (e ∷ es)) [
        | true ↦ omega (arith, sums (e.0, w) es, sums e es)
        | false ↦ omega (arith, sums e (set_value test es w), sums e es, count_by-set_value p test w es)
      ]

-- ---- sets of numbers

insert_key-add : (k : ℕ) (ks : List ℕ) → insert_key nat_cmp ks k ≡ add k ks
insert_key-add k [] = refl
insert_key-add k (x ∷ xs) =
    elim (nat_cmp k x) as (λ order. match_ordering order (k ∷ x ∷ xs) (x ∷ xs) (x ∷ insert_key nat_cmp xs k) ≡ by_order order (k ∷ x ∷ xs) (x ∷ xs) (x ∷ add k xs)) [
      | Less ↦ refl
      | Equal ↦ refl
      | Greater ↦ ap (λ later. x ∷ later) (insert_key-add k xs)
    ]

pub added : (k : ℕ) (ks more : List ℕ) → more ≡ insert_key nat_cmp ks k → more ≡ add k ks
added k ks more is = is ∙ insert_key-add k ks

contains-has : (k : ℕ) (ks : List ℕ) → list_any (is_at (nat_cmp k)) ks ≡ has ks k
contains-has k [] = refl
contains-has k (x ∷ xs) = grind (arith, nat_tests, contains-has k xs)

take_out-absent : (k : ℕ) (ks : List ℕ) → has ks k ≡ false → take_out k ks ≡ ks
take_out-absent k [] absent = refl
take_out-absent k (x ∷ xs) absent = grind (arith, nat_tests, take_out-absent k xs)

remove_key-take_out : (k : ℕ) (ks : List ℕ) → has (remove_key (is_at (nat_cmp k)) ks) k ≡ false → remove_key (is_at (nat_cmp k)) ks ≡ take_out k ks
remove_key-take_out k [] absent = refl
remove_key-take_out k (x ∷ xs) absent = grind (arith, nat_tests, take_out-absent k xs, remove_key-take_out k xs)

-- a call takes out one number, after which it isn't there
pub taken_out : (k : ℕ) (ks left : List ℕ) → left ≡ remove_key (is_at (nat_cmp k)) ks → list_any (is_at (nat_cmp k)) left ≡ false → left ≡ take_out k ks
taken_out k ks left is none = is ∙ remove_key-take_out k ks (ap (λ l. has l k) (sym is) ∙ sym (contains-has k left) ∙ none)

pub length-add-new : (k : ℕ) (ks : List ℕ) → has ks k ≡ false → length (add k ks) ≡ length ks + 1
length-add-new k [] absent = refl
length-add-new k (x ∷ xs) absent = grind (arith, nat_tests, length-add-new k xs)

pub count_by-add : (p : ℕ → Bool) (k : ℕ) (ks : List ℕ) → has ks k ≡ false → count_by p (add k ks) ≡ count_by p ks + cond (p k) 1 0
count_by-add p k [] absent = refl
count_by-add p k (x ∷ xs) absent =
    let later = λ (apart : has xs k ≡ false). count_by-add p k xs apart in
    let sums = sum_by-cons (λ (n : ℕ). cond (p n) 1 0) in
    grind (arith, nat_tests, later, sums k (x ∷ xs), sums x xs, sums x (add k xs))

count_by-remove_key : (p : ℕ → Bool) (k : ℕ) (ks : List ℕ) → has ks k ≡ true → count_by p (remove_key (is_at (nat_cmp k)) ks) + cond (p k) 1 0 ≡ count_by p ks
count_by-remove_key p k [] there = absurd (cc)
count_by-remove_key p k (x ∷ xs) there =
    let later = λ (more : has xs k ≡ true). count_by-remove_key p k xs more in
    let sums = sum_by-cons (λ (n : ℕ). cond (p n) 1 0) in
    grind (arith, nat_tests, later, sums x xs, sums x (remove_key (is_at (nat_cmp k)) xs))

-- where it stood once
pub taken-labels : (p : ℕ → Bool) (k : ℕ) (ks seen left : List ℕ) → ks ≡ seen → left ≡ remove_key (is_at (nat_cmp k)) ks → has seen k ≡ true → count_by p left + cond (p k) 1 0 ≡ count_by p seen
taken-labels p k ks seen left same is there =
    ap (λ l. count_by p l + cond (p k) 1 0) is ∙ count_by-remove_key p k ks (ap (λ l. has l k) same ∙ there) ∙ ap (count_by p) same
