-- Entries in the order of their keys: what putting one in, taking one out and writing one does to the keys of those that pass.
use Rattle.std.proofs.Common.{◌≡◌, Bool, true, false, cond, List, [], ◌∷◌, ◌++◌, Some, None, is_some, refl, ap, sym, subst, ◌∙◌, true≢false}
use Rattle.std.specs.List.{AllByRecursion, filter}
use Rattle.std.specs.List.Sorted.{IsStrictlySortedBy}
use Rattle.std.specs.Ordering.{is_eq, match_ordering, ordering_reverse}
use Rattle.std.proofs.lemmas.List.{append_assoc}
use Rattle.std.specs.declared.cmp.Ordering.{Ordering}
use Rattle.std.specs.declared.cmp.Ordering.TheVariants.{Less, Equal, Greater}
use Rattle.std.specs.Cmp.{IsTotalOrder}
use Rattle.std.specs.Map.{keys_of, lookup, remove_entry, set_value}
use Rattle.std.specs.BTreeMap.{insert_entry, is_at}
use Rattle.std.specs.BTreeSet.{insert_key}
use Rattle.std.specs.Set.{remove_key}
use Rattle.std.specs.FinMap.{IsAntisymmetric}
use Rattle.std.specs.FinMap.Entries.{put, find, by_order}
use Rattle.std.proofs.lemmas.Map.{lookup-none}
use Rattle.std.proofs.lemmas.Map.Entries.{none_below_head}
use Rattle.std.proofs.lemmas.Map.Keys.{sorted_head, sorted_tail}
use Rattle.graph_model.proofs.Entries.{same_value, nothing}

in_middle : {K X : Type 0} (P : K → Type 0) (es : List (K × X)) (k : K) (x : X) (rest : List (K × X)) → AllByRecursion P (keys_of (es ++ (k, x) ∷ rest)) → P k
in_middle P [] k x rest all = all.0
in_middle P (e ∷ es) k x rest all = in_middle P es k x rest all.1

insert_entry-push : {K X : Type 0} {R : K → K → Ordering} (total : IsTotalOrder R) (es : List (K × X)) (k : K) (x : X) (rest : List (K × X)) → IsStrictlySortedBy R (keys_of (es ++ (k, x) ∷ rest)) → insert_entry R es k x ≡ es ++ (k, x) ∷ []
insert_entry-push total [] k x rest rises = refl
insert_entry-push {R = R} total (e ∷ es) k x rest rises =
    let below = in_middle (λ key. R e.0 key ≡ Less) es k x rest (sorted_head R e.0 _ rises) in
    ap (λ order. match_ordering order ((k, x) ∷ e ∷ es) ((e.0, x) ∷ es) (e ∷ insert_entry R es k x)) (total.antisymm k e.0 ∙ ap ordering_reverse below)
    ∙ ap (λ later. e ∷ later) (insert_entry-push total es k x rest (sorted_tail R e.0 _ rises))

-- the entries of a copy so far take the next one at their end
pub copied_more : {K X : Type 0} {R : K → K → Ordering} (total : IsTotalOrder R) (all so_far rest later after : List (K × X)) (k : K) (x : X) → IsStrictlySortedBy R (keys_of all)
    → so_far ++ rest ≡ all → rest ≡ (k, x) ∷ later → after ≡ insert_entry R so_far k x → after ++ later ≡ all
copied_more {R = R} total all so_far rest later after k x rises whole next is =
    let split = ap (λ es. so_far ++ es) (sym next) ∙ whole in
    ap (λ es. es ++ later) (is ∙ insert_entry-push total so_far k x later (subst (λ es. IsStrictlySortedBy R (keys_of es)) (sym split) rises))
    ∙ append_assoc so_far ((k, x) ∷ []) later ∙ split

module _ {K X : Type 0} (R : K → K → Ordering) where
  -- what is found, and what is put in, in the words of maps as lists
  pub lookup-find : (k : K) (es : List (K × X)) → lookup (is_at (R k)) es ≡ find R k es
  lookup-find k [] = refl
  lookup-find k (e ∷ es) = ap (cond (is_eq (R k e.0)) (Some e.1)) (lookup-find k es)

  pub insert_entry-put : (k : K) (x : X) (es : List (K × X)) → insert_entry R es k x ≡ put R k x es
  insert_entry-put k x [] = refl
  insert_entry-put k x (e ∷ es) =
      elim (R k e.0) as (λ order. match_ordering order ((k, x) ∷ e ∷ es) ((e.0, x) ∷ es) (e ∷ insert_entry R es k x) ≡ by_order order ((k, x) ∷ e ∷ es) ((e.0, x) ∷ es) (e ∷ put R k x es)) [
        | Less ↦ refl
        | Equal ↦ refl
        | Greater ↦ ap (λ later. e ∷ later) (insert_entry-put k x es)
      ]

  -- what is written in the place of a value
  pub set_value-put : IsTotalOrder R → (k : K) (w : X) (es : List (K × X)) → IsStrictlySortedBy R (keys_of es) → is_some (lookup (is_at (R k)) es) ≡ true → set_value (is_at (R k)) es w ≡ put R k w es
  set_value-put total k w [] rises there = absurd (cc)
  set_value-put total k w (e ∷ es) rises there =
      elim (R k e.0) as (λ r. R k e.0 ≡ r → is_some (cond (is_eq r) (Some e.1) (lookup (is_at (R k)) es)) ≡ true → cond (is_eq r) ((e.0, w) ∷ es) (e ∷ set_value (is_at (R k)) es w) ≡ by_order r ((k, w) ∷ e ∷ es) ((e.0, w) ∷ es) (e ∷ put R k w es)) [
        | Less ↦ λ less some. absurd (true≢false (sym some ∙ ap is_some (lookup-none (is_at (R k)) es (none_below_head total k e es rises less).1)))
        | Equal ↦ λ _ _. refl
        | Greater ↦ λ _ some. ap (λ later. e ∷ later) (set_value-put total k w es (sorted_tail R e.0 _ rises) some)
      ] refl there

  module _ (q : K × X → Bool) where
    abbrev passing : List (K × X) → List K
    passing es = keys_of (filter q es)

    one_more : (e : K × X) (es : List (K × X)) → passing (e ∷ es) ≡ cond (q e) (e.0 ∷ passing es) (passing es)
    one_more e es = elim (q e) as (λ b. keys_of (cond b (e ∷ filter q es) (filter q es)) ≡ cond b (e.0 ∷ passing es) (passing es)) [ true ↦ refl | false ↦ refl ]

    above_all : IsTotalOrder R → (k : K) (e : K × X) (es : List (K × X)) → IsStrictlySortedBy R (keys_of (e ∷ es)) → R k e.0 ≡ Less → AllByRecursion (λ y. R k y ≡ Less) (keys_of (e ∷ es))
    above_all total k e es rises less = (less, later es (sorted_head R e.0 _ rises))
      where
        later : (rest : List (K × X)) → AllByRecursion (λ y. R e.0 y ≡ Less) (keys_of rest) → AllByRecursion (λ y. R k y ≡ Less) (keys_of rest)
        later [] all = tt
        later (d ∷ ds) all = (total.trans k e.0 d.0 less all.0, later ds all.1)

    passing-all : (P : K → Type 0) (es : List (K × X)) → AllByRecursion P (keys_of es) → AllByRecursion P (passing es)
    passing-all P [] all = tt
    passing-all P (e ∷ es) all =
        let rest = passing-all P es all.1 in
        elim (q e) as (λ b. AllByRecursion P (keys_of (cond b (e ∷ filter q es) (filter q es)))) [ true ↦ (all.0, rest) | false ↦ rest ]

    insert_key-first : (k : K) (ks : List K) → AllByRecursion (λ y. R k y ≡ Less) ks → insert_key R ks k ≡ k ∷ ks
    insert_key-first k [] all = refl
    insert_key-first k (y ∷ ys) all = ap (λ order. match_ordering order (k ∷ y ∷ ys) (y ∷ ys) (y ∷ insert_key R ys k)) all.0

    -- one more entry
    pub passing-inserted : IsTotalOrder R → (k : K) (x : X) (es : List (K × X)) → IsStrictlySortedBy R (keys_of es) → lookup (is_at (R k)) es ≡ None
        → passing (insert_entry R es k x) ≡ cond (q (k, x)) (insert_key R (passing es) k) (passing es)
    passing-inserted total k x [] rises absent = one_more (k, x) []
    passing-inserted total k x (e ∷ es) rises absent =
        elim (R k e.0) as (λ r. R k e.0 ≡ r → cond (is_eq r) (Some e.1) (lookup (is_at (R k)) es) ≡ None
        → passing (match_ordering r ((k, x) ∷ e ∷ es) ((e.0, x) ∷ es) (e ∷ insert_entry R es k x)) ≡ cond (q (k, x)) (insert_key R (passing (e ∷ es)) k) (passing (e ∷ es))) [
          | Less ↦ λ less _.
              one_more (k, x) (e ∷ es)
              ∙ ap (λ ks. cond (q (k, x)) ks (passing (e ∷ es))) (sym (insert_key-first k (passing (e ∷ es)) (passing-all _ (e ∷ es) (above_all total k e es rises less))))
          | Equal ↦ λ _ some. nothing e.1 (sym some)
          | Greater ↦ λ more none.
              one_more e (insert_entry R es k x)
              ∙ ap (λ ks. cond (q e) (e.0 ∷ ks) ks) (passing-inserted total k x es (sorted_tail R e.0 _ rises) none)
              ∙ behind (q e) (q (k, x)) more
              ∙ ap (λ ks. cond (q (k, x)) (insert_key R ks k) ks) (sym (one_more e es))
        ] refl absent
      where
        behind : (here new : Bool) → R k e.0 ≡ Greater
            → cond here (e.0 ∷ cond new (insert_key R (passing es) k) (passing es)) (cond new (insert_key R (passing es) k) (passing es))
            ≡ cond new (insert_key R (cond here (e.0 ∷ passing es) (passing es)) k) (cond here (e.0 ∷ passing es) (passing es))
        behind true true more = sym (ap (λ order. match_ordering order (k ∷ e.0 ∷ passing es) (e.0 ∷ passing es) (e.0 ∷ insert_key R (passing es) k)) more)
        behind true false more = refl
        behind false true more = refl
        behind false false more = refl

    -- one fewer
    pub passing-removed : IsAntisymmetric R → (k : K) (x : X) (es : List (K × X)) → lookup (is_at (R k)) es ≡ Some x
        → passing (remove_entry (is_at (R k)) es) ≡ cond (q (k, x)) (remove_key (is_at (R k)) (passing es)) (passing es)
    passing-removed same k x [] there = nothing x there
    passing-removed same k x (e ∷ es) there =
        elim (R k e.0) as (λ r. R k e.0 ≡ r → cond (is_eq r) (Some e.1) (lookup (is_at (R k)) es) ≡ Some x
        → passing (cond (is_eq r) es (e ∷ remove_entry (is_at (R k)) es)) ≡ cond (q (k, x)) (remove_key (is_at (R k)) (passing (e ∷ es))) (passing (e ∷ es))) [
          | Less ↦ λ order later. apart (ap is_eq order) (passing-removed same k x es later)
          | Equal ↦ λ order is.
              at_head (q e) (ap is_eq order)
              ∙ ap (λ ks. cond (q e) (remove_key (is_at (R k)) ks) ks) (sym (one_more e es))
              ∙ ap (λ b. cond b (remove_key (is_at (R k)) (passing (e ∷ es))) (passing (e ∷ es))) (ap (λ y. q (e.0, y)) (same_value e.1 x is) ∙ ap (λ key. q (key, x)) (sym (same k e.0 order)))
          | Greater ↦ λ order later. apart (ap is_eq order) (passing-removed same k x es later)
        ] refl there
      where
        step : (here new : Bool) → is_eq (R k e.0) ≡ false
            → cond here (e.0 ∷ cond new (remove_key (is_at (R k)) (passing es)) (passing es)) (cond new (remove_key (is_at (R k)) (passing es)) (passing es))
            ≡ cond new (remove_key (is_at (R k)) (cond here (e.0 ∷ passing es) (passing es))) (cond here (e.0 ∷ passing es) (passing es))
        step true true other = sym (ap (λ b. cond b (passing es) (e.0 ∷ remove_key (is_at (R k)) (passing es))) other)
        step true false other = refl
        step false true other = refl
        step false false other = refl

        apart : is_eq (R k e.0) ≡ false → passing (remove_entry (is_at (R k)) es) ≡ cond (q (k, x)) (remove_key (is_at (R k)) (passing es)) (passing es)
            → passing (e ∷ remove_entry (is_at (R k)) es) ≡ cond (q (k, x)) (remove_key (is_at (R k)) (passing (e ∷ es))) (passing (e ∷ es))
        apart other later =
            one_more e (remove_entry (is_at (R k)) es) ∙ ap (λ ks. cond (q e) (e.0 ∷ ks) ks) later ∙ step (q e) (q (k, x)) other
            ∙ ap (λ ks. cond (q (k, x)) (remove_key (is_at (R k)) ks) ks) (sym (one_more e es))

        at_head : (here : Bool) → is_eq (R k e.0) ≡ true → passing es ≡ cond here (remove_key (is_at (R k)) (cond here (e.0 ∷ passing es) (passing es))) (cond here (e.0 ∷ passing es) (passing es))
        at_head true equal = sym (ap (λ b. cond b (passing es) (e.0 ∷ remove_key (is_at (R k)) (passing es))) equal)
        at_head false equal = refl

    -- one with another value, which passes as the first did
    pub passing-written : (test : K → Bool) (v w : X) (es : List (K × X)) → ((k : K) → q (k, v) ≡ q (k, w)) → lookup test es ≡ Some v → passing (set_value test es w) ≡ passing es
    passing-written test v w [] alike there = refl
    passing-written test v w (e ∷ es) alike there =
        elim (test e.0) as (λ b. cond b (Some e.1) (lookup test es) ≡ Some v → passing (cond b ((e.0, w) ∷ es) (e ∷ set_value test es w)) ≡ passing (e ∷ es)) [
          | true ↦ λ is.
              one_more (e.0, w) es
              ∙ ap (λ b. cond b (e.0 ∷ passing es) (passing es)) (sym (alike e.0) ∙ ap (λ y. q (e.0, y)) (sym (same_value e.1 v is)))
              ∙ sym (one_more e es)
          | false ↦ λ later.
              one_more e (set_value test es w) ∙ ap (λ ks. cond (q e) (e.0 ∷ ks) ks) (passing-written test v w es alike later) ∙ sym (one_more e es)
        ] there
