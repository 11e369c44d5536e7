-- Components by spreading: what a round of a front does.
use Rattle.std.proofs.Common.{◌≡◌, ℕ, zero, suc, ◌+◌, ◌*◌, ◌<◌, ◌≤◌, Bool, true, false, cond, ◌&&◌, ◌⊎◌, List, [], ◌∷◌, length, take, Option, Some, None, is_some, inl, inr, if◌then◌else◌, refl, sym, ap, subst, ◌∙◌, arith}
use Rattle.std.specs.Prelude.{◌==◌, is_none, IsSome, IsSomeAnd}
use Rattle.std.specs.List.{AllByRecursion, list_any, count_by, slice_get}
use Rattle.std.specs.Option.{option_or}
use Rattle.std.proofs.lemmas.Bool.{and_parts, or_cases, or_left, or_right, eqb-true, eq-eqb}
use Rattle.std.proofs.lemmas.List.Sums.{sum_by-cons}
use Rattle.graph_model.specs.Maps.{IsSet, has}
use Rattle.graph_model.specs.Walks.{is_walk_by}
use Rattle.graph_model.proofs.Entries.{same_value, nothing, never}
use Rattle.graph_model.proofs.Shortest.{IsWalking}
use Rattle.graph_model.proofs.Levels.{walking}
use Rattle.graph_walks.specs.Steps.{leads, IsTwoWay, LeadsInto, IsLeastJoined}
use Rattle.graph_walks.specs.Naming.{IsNaming}
use Rattle.graph_walks.proofs.Fronts.{any_some, any_has}
use Rattle.graph_walks.proofs.Bools.{unmarked}

-- ---- how many have no name

abbrev pub unnamed : (ℕ → Option ℕ) → List ℕ → ℕ
unnamed names ids = count_by (λ x. is_none (names x)) ids

abbrev one_if : Bool → ℕ
one_if b = cond b 1 0

cond-le : (a b : Bool) → (a ≡ true → b ≡ true) → cond a 1 0 ≤ cond b 1 0
cond-le true true f = omega arith
cond-le true false f = never (f refl)
cond-le false b f = omega arith

module _ (p q : ℕ → Bool) (also : (v : ℕ) → p v ≡ true → q v ≡ true) where
  count-le : (ks : List ℕ) → count_by p ks ≤ count_by q ks
  count-le [] = omega arith
  count-le (k ∷ ks) = omega (arith, count-le ks, cond-le (p k) (q k) (also k), sum_by-cons (λ v. cond (p v) 1 0) k ks, sum_by-cons (λ v. cond (q v) 1 0) k ks)

  count-more : (ks : List ℕ) (x : ℕ) → has ks x ≡ true → p x ≡ false → q x ≡ true → count_by p ks + 1 ≤ count_by q ks
  count-more [] x there fails passes = never there
  count-more (k ∷ ks) x there fails passes =
      let of_p = sum_by-cons (λ v. cond (p v) 1 0) k ks in
      let of_q = sum_by-cons (λ v. cond (q v) 1 0) k ks in
      elim (or_cases (k == x) (has ks x) there) [
        | inl same ↦
            let is = eqb-true k x same in
            let without = ap one_if (ap p is ∙ fails) in
            let one = ap one_if (ap q is ∙ passes) in
            omega (arith, of_p, of_q, without, one, count-le ks)
        | inr later ↦ omega (arith, of_p, of_q, cond-le (p k) (q k) (also k), count-more ks x later fails passes)
      ]

some-none : {A : Type 0} (o : Option ℕ) (x : ℕ) → o ≡ Some x → o ≡ None → A
some-none o x is none = nothing x (sym none ∙ is)

-- ---- a round

-- the front's vertices and those passed before have the name v, and whoever had a name keeps it
pub record IsSpreading (steps : List (ℕ × ℕ)) (v : ℕ) (old names : ℕ → Option ℕ) (front : List ℕ) : Type 0 where
  pub start : names v ≡ Some v
  pub kept : (x q : ℕ) → old x ≡ Some q → names x ≡ Some q
  pub new : (x q : ℕ) → names x ≡ Some q → (old x ≡ Some q) ⊎ (q ≡ v)
  pub joined : (x q : ℕ) → names x ≡ Some q → (n : ℕ) × (is_walk_by steps n x q ≡ true)
  pub fresh : (x : ℕ) → has front x ≡ true → names x ≡ Some v
  pub passed : (x q : ℕ) → names x ≡ Some q → (has front x ≡ true) ⊎ ((t : ℕ) → leads steps x t ≡ true → IsSome (names t))

module _ (steps : List (ℕ × ℕ)) (ids : List ℕ) (two_way : IsTwoWay steps) (into : LeadsInto steps ids) where
  w : IsWalking (is_walk_by steps) (λ i t. leads steps i t ≡ true)
  w = walking steps

  module _ (v : ℕ) (old : ℕ → Option ℕ) where
    pub spread-start : (done : ℕ) (names : ℕ → Option ℕ) → IsNaming steps ids done old → old v ≡ None → ((j : ℕ) → names j ≡ option_or (old j) (if v == j then Some v else None)) → IsSpreading steps v old names (v ∷ [])
    spread-start done names naming none marked =
        let start : names v ≡ Some v = marked v ∙ ap (λ o. option_or o (if v == v then Some v else None)) none ∙ ap (λ b. if b then Some v else None) (eq-eqb v v refl) in
        let kept = λ (x q : ℕ) (is : old x ≡ Some q). marked x ∙ ap (λ o. option_or o (if v == x then Some v else None)) is in
        let at_v = λ (x : ℕ) (here : (v == x) ≡ true). eqb-true v x here in
        let cases : (x q : ℕ) → names x ≡ Some q → (old x ≡ Some q) ⊎ (((v == x) ≡ true) × (q ≡ v)) = λ x q is.
        elim (old x) as (λ o. old x ≡ o → (old x ≡ Some q) ⊎ (((v == x) ≡ true) × (q ≡ v))) [
          | Some r ↦ λ seen. inl (seen ∙ sym (kept x r seen) ∙ is)
          | None ↦ λ unseen.
              elim (v == x) as (λ b. (v == x) ≡ b → (if b then Some v else None) ≡ Some q → (old x ≡ Some q) ⊎ (((v == x) ≡ true) × (q ≡ v))) [
                | true ↦ λ here one. inr (here, sym (same_value v q one))
                | false ↦ λ _ one. nothing q one
              ] refl (sym (marked x ∙ ap (λ o. option_or o (if v == x then Some v else None)) unseen) ∙ is)
        ] refl in
        record {
          start = start;
          kept = kept;
          new = λ x q is. elim (cases x q is) [ inl seen ↦ inl seen | inr here ↦ inr here.1 ];
          joined = λ x q is. elim (cases x q is) [
            | inl seen ↦ naming.joined x q seen
            | inr here ↦ (0, eq-eqb x q (sym (at_v x here.0) ∙ sym here.1))
          ];
          fresh = λ x there. elim (or_cases (v == x) false there) [
            | inl here ↦ subst (λ y. names y ≡ Some v) (at_v x here) start
            | inr wrong ↦ never wrong
          ];
          passed = λ x q is. elim (cases x q is) [
            | inl seen ↦ inr (λ t step. ap is_some (kept t q (naming.closed x t q seen step)))
            | inr here ↦ inl (or_left _ _ here.0)
          ];
        }

    module _ (names more : ℕ → Option ℕ) (front next : List ℕ) (spreading : IsSpreading steps v old names front)
        (marked : (j : ℕ) → more j ≡ option_or (names j) (if list_any (λ x. leads steps x j) front then Some v else None))
        (fresh : (j : ℕ) → has next j ≡ (is_none (names j) && list_any (λ x. leads steps x j) front)) where
      stays : (x q : ℕ) → names x ≡ Some q → more x ≡ Some q
      stays x q is = marked x ∙ ap (λ o. option_or o (if list_any (λ y. leads steps y x) front then Some v else None)) is

      named_now : (x : ℕ) → list_any (λ y. leads steps y x) front ≡ true → IsSome (more x)
      named_now x reached =
          ap is_some (marked x ∙ ap (λ b. option_or (names x) (if b then Some v else None)) reached)
          ∙ elim (names x) as (λ o. is_some (option_or o (Some v)) ≡ true) [ Some r ↦ refl | None ↦ refl ]

      cases : (x q : ℕ) → more x ≡ Some q → (names x ≡ Some q) ⊎ ((names x ≡ None) × (list_any (λ y. leads steps y x) front ≡ true) × (q ≡ v))
      cases x q is =
          elim (names x) as (λ o. names x ≡ o → (names x ≡ Some q) ⊎ ((names x ≡ None) × (list_any (λ y. leads steps y x) front ≡ true) × (q ≡ v))) [
            | Some r ↦ λ seen. inl (seen ∙ sym (stays x r seen) ∙ is)
            | None ↦ λ unseen.
                elim (list_any (λ y. leads steps y x) front) as (λ b. list_any (λ y. leads steps y x) front ≡ b → (if b then Some v else None) ≡ Some q → (names x ≡ Some q) ⊎ ((names x ≡ None) × (list_any (λ y. leads steps y x) front ≡ true) × (q ≡ v))) [
                  | true ↦ λ reached one. inr (unseen, reached, sym (same_value v q one))
                  | false ↦ λ _ one. nothing q one
                ] refl (sym (marked x ∙ ap (λ o. option_or o (if list_any (λ y. leads steps y x) front then Some v else None)) unseen) ∙ is)
          ] refl

      pub spread-more : IsSpreading steps v old more next
      spread-more = record {
        start = stays v v spreading.start;
        kept = λ x q is. stays x q (spreading.kept x q is);
        new = λ x q is. elim (cases x q is) [ inl seen ↦ spreading.new x q seen | inr now ↦ inr now.2 ];
        joined = λ x q is. elim (cases x q is) [
          | inl seen ↦ spreading.joined x q seen
          | inr now ↦
              let y = any_some (λ y. leads steps y x) front now.1 in
              let rest = spreading.joined y.0 v (spreading.fresh y.0 y.1) in
              (suc rest.0, subst (λ k. is_walk_by steps (suc rest.0) x k ≡ true) (sym now.2) (w.joins rest.0 x y.0 v (two_way y.0 x y.2) rest.1))
        ];
        fresh = λ x there.
            let parts = and_parts (is_none (names x)) (list_any (λ y. leads steps y x) front) (sym (fresh x) ∙ there) in
            elim (names x) as (λ o. names x ≡ o → is_none o ≡ true → more x ≡ Some v) [
              | Some r ↦ λ _ wrong. never wrong
              | None ↦ λ unseen _.
                  marked x ∙ ap (λ o. option_or o (if list_any (λ y. leads steps y x) front then Some v else None)) unseen ∙ ap (λ b. if b then Some v else None) parts.1
            ] refl parts.0;
        passed = λ x q is. elim (cases x q is) [
          | inl seen ↦ elim (spreading.passed x q seen) [
            | inl in_front ↦ inr (λ t step. named_now t (any_has (λ y. leads steps y t) front x in_front step))
            | inr before ↦ inr (λ t step.
                elim (names t) as (λ o. names t ≡ o → is_some o ≡ true → IsSome (more t)) [
                  | Some r ↦ λ seen_t _. ap is_some (stays t r seen_t)
                  | None ↦ λ _ wrong. never wrong
                ] refl (before t step))
          ]
          | inr now ↦ inl (fresh x ∙ ap (λ o. is_none o && list_any (λ y. leads steps y x) front) now.0 ∙ now.1)
        ];
      }

      also : (x : ℕ) → is_none (more x) ≡ true → is_none (names x) ≡ true
      also x none =
          elim (names x) as (λ o. names x ≡ o → is_none o ≡ true) [
            | Some r ↦ λ seen. never (sym (ap is_none (stays x r seen)) ∙ none)
            | None ↦ λ _. refl
          ] refl

      pub fewer : (next ≡ []) ⊎ (unnamed more ids + 1 ≤ unnamed names ids)
      fewer = by_next next refl
        where
          by_next : (ns : List ℕ) → next ≡ ns → (next ≡ []) ⊎ (unnamed more ids + 1 ≤ unnamed names ids)
          by_next [] is = inl is
          by_next (x ∷ xs) is =
              let there : has next x ≡ true = ap (λ ns. has ns x) is ∙ or_left _ _ (eq-eqb x x refl) in
              let parts = and_parts (is_none (names x)) (list_any (λ y. leads steps y x) front) (sym (fresh x) ∙ there) in
              let y = any_some (λ y. leads steps y x) front parts.1 in
              let gone : is_none (more x) ≡ false = elim (more x) as (λ o. is_some o ≡ true → is_none o ≡ false) [ Some r ↦ λ _. refl | None ↦ λ wrong. never wrong ] (named_now x parts.1) in
              inr (count-more (λ k. is_none (more k)) (λ k. is_none (names k)) also ids x (into y.0 x y.2) gone parts.0)

      pub no_more : unnamed more ids ≤ unnamed names ids
      no_more = count-le (λ k. is_none (more k)) (λ k. is_none (names k)) also ids

-- ---- the end of a spread

above-first : (v x : ℕ) (ks : List ℕ) → AllByRecursion (λ m. v < m) ks → has ks x ≡ true → v < x
above-first v x [] above there = never there
above-first v x (k ∷ ks) above there =
    elim (or_cases (k == x) (has ks x) there) [
      | inl here ↦ subst (λ y. v < y) (eqb-true k x here) above.0
      | inr later ↦ above-first v x ks above.1 later
    ]

-- what isn't below the item at a place is before it
before_or_above : (ks : List ℕ) (n v x : ℕ) → IsSet ks → slice_get ks n ≡ Some v → has ks x ≡ true → (has (take n ks) x ≡ true) ⊎ (v ≤ x)
before_or_above [] n v x set is there = never there
before_or_above (k ∷ ks) zero v x set is there =
    let first = same_value k v is in
    elim (or_cases (k == x) (has ks x) there) [
      | inl here ↦ inr (omega (arith, first, eqb-true k x here))
      | inr later ↦ inr (omega (arith, first, above-first k x ks set.0 later))
    ]
before_or_above (k ∷ ks) (suc n) v x set is there =
    elim (or_cases (k == x) (has ks x) there) [
      | inl here ↦ inl (or_left _ _ here)
      | inr later ↦ elim (before_or_above ks n v x set.1 is later) [
        | inl before ↦ inl (or_right _ _ before)
        | inr above ↦ inr above
      ]
    ]

take-more : (ks : List ℕ) (n v x : ℕ) → slice_get ks n ≡ Some v → has (take (suc n) ks) x ≡ true → (has (take n ks) x ≡ true) ⊎ (v ≡ x)
take-more [] n v x is there = never there
take-more (k ∷ ks) zero v x is there =
    elim (or_cases (k == x) false there) [
      | inl here ↦ inr (sym (same_value k v is) ∙ eqb-true k x here)
      | inr wrong ↦ never wrong
    ]
take-more (k ∷ ks) (suc n) v x is there =
    elim (or_cases (k == x) (has (take (suc n) ks) x) there) [
      | inl here ↦ inl (or_left _ _ here)
      | inr later ↦ elim (take-more ks n v x is later) [
        | inl before ↦ inl (or_right _ _ before)
        | inr same ↦ inr same
      ]
    ]

module _ (steps : List (ℕ × ℕ)) (ids : List ℕ) (rising : IsSet ids) (two_way : IsTwoWay steps) (into : LeadsInto steps ids)
    (done v : ℕ) (is : slice_get ids done ≡ Some v) (here : has ids v ≡ true) (old : ℕ → Option ℕ) (naming : IsNaming steps ids done old) where
  there_by : (n x : ℕ) → is_walk_by steps n x v ≡ true → has ids x ≡ true
  there_by zero x walk = subst (λ k. has ids k ≡ true) (sym (eqb-true x v walk)) here
  there_by (suc n) x walk =
      let first = (walking steps).splits n x v walk in
      into first.0 x (two_way x first.0 first.1)

  pub spread-end : (names : ℕ → Option ℕ) → IsSpreading steps v old names [] → IsNaming steps ids (suc done) names
  spread-end names spreading = record {
    joined = spreading.joined;
    closed = λ x t q named step. elim (spreading.new x q named) [
      | inl seen ↦ spreading.kept t q (naming.closed x t q seen step)
      | inr mine ↦ elim (spreading.passed x q named) [
        | inl wrong ↦ never wrong
        | inr passed ↦
            elim (names t) as (λ o. names t ≡ o → is_some o ≡ true → names t ≡ Some q) [
              | None ↦ λ _ wrong. never wrong
              | Some r ↦ λ is_r _. elim (spreading.new t r is_r) [
                | inl seen ↦
                    let back = spreading.kept x r (naming.closed t x r seen (two_way x t step)) in
                    is_r ∙ sym back ∙ named
                | inr mine_too ↦ is_r ∙ ap Some (mine_too ∙ sym mine)
              ]
            ] refl (passed t step)
      ]
    ];
    least = λ x q named. elim (spreading.new x q named) [
      | inl seen ↦ naming.least x q seen
      | inr mine ↦
          elim (old x) as (λ o. old x ≡ o → q ≤ x) [
            | Some r ↦ λ seen. subst (λ k. k ≤ x) (same_value r q (sym (spreading.kept x r seen) ∙ named)) (naming.least x r seen)
            | None ↦ λ unseen.
                let walk = spreading.joined x q named in
                elim (before_or_above ids done v x rising is (there_by walk.0 x (subst (λ k. is_walk_by steps walk.0 x k ≡ true) mine walk.1))) [
                  | inl before ↦ never (sym (ap is_some unseen) ∙ naming.named x before)
                  | inr above ↦ omega (arith, above, mine)
                ]
          ] refl
    ];
    named = λ x there. elim (take-more ids done v x is there) [
      | inl before ↦
          elim (old x) as (λ o. old x ≡ o → is_some o ≡ true → IsSome (names x)) [
            | Some r ↦ λ seen _. ap is_some (spreading.kept x r seen)
            | None ↦ λ _ wrong. never wrong
          ] refl (naming.named x before)
      | inr same ↦ subst (λ k. IsSome (names k)) same (ap is_some spreading.start)
    ];
  }

  -- where it has a name already
  pub spread-not : IsSome (old v) → (names : ℕ → Option ℕ) → ((j : ℕ) → names j ≡ option_or (old j) (if v == j then Some v else None)) → IsNaming steps ids (suc done) names
  spread-not some names marked = record {
    joined = λ x q named. naming.joined x q (sym (same x) ∙ named);
    closed = λ x t q named step. same t ∙ naming.closed x t q (sym (same x) ∙ named) step;
    least = λ x q named. naming.least x q (sym (same x) ∙ named);
    named = λ x there. elim (take-more ids done v x is there) [
      | inl before ↦ ap is_some (same x) ∙ naming.named x before
      | inr here ↦ ap is_some (same x) ∙ subst (λ k. IsSome (old k)) here some
    ];
  }
    where
      some_or : (o p : Option ℕ) → is_some o ≡ true → option_or o p ≡ o
      some_or None p wrong = never wrong
      some_or (Some k) p there = refl

      same : (j : ℕ) → names j ≡ old j
      same j =
          marked j
          ∙ elim (v == j) as (λ b. (v == j) ≡ b → option_or (old j) (if b then Some v else None) ≡ old j) [
            | true ↦ λ here. some_or (old j) (Some v) (subst (λ k. IsSome (old k)) (eqb-true v j here) some)
            | false ↦ λ _. unmarked (old j)
          ] refl

-- ---- the measure

abbrev pub one_if_some : List ℕ → ℕ
one_if_some [] = 0
one_if_some (x ∷ xs) = 1

pub smaller : (front next : List ℕ) (more less : ℕ) → 0 < length front → (next ≡ []) ⊎ (less + 1 ≤ more) → less ≤ more → 2 * less + one_if_some next < 2 * more + one_if_some front
smaller [] next more less some cases within = absurd (omega (arith, some))
smaller (x ∷ xs) next more less some (inl is) within =
    let none : one_if_some next ≡ 0 = ap one_if_some is in
    omega (arith, none, within)
smaller (x ∷ xs) next more less some (inr fewer) within = omega (arith, at_most next, fewer)
  where
    at_most : (ns : List ℕ) → one_if_some ns ≤ 1
    at_most [] = omega arith
    at_most (n ∷ ns) = omega arith

pub no_front : (front : List ℕ) → length front ≤ 0 → front ≡ []
no_front [] none = refl
no_front (x ∷ xs) none = absurd (omega (arith, none))

pub at-has : (ks : List ℕ) (n v : ℕ) → slice_get ks n ≡ Some v → has ks v ≡ true
at-has [] n v is = nothing v is
at-has (k ∷ ks) zero v is = or_left _ _ (eq-eqb k v (same_value k v is))
at-has (k ∷ ks) (suc n) v is = or_right _ _ (at-has ks n v is)

-- ---- all of them

pub naming-start : (steps : List (ℕ × ℕ)) (ids : List ℕ) → IsNaming steps ids 0 (λ j. None)
naming-start steps ids = record {
  joined = λ x q named. nothing q named;
  closed = λ x t q named step. nothing q named;
  least = λ x q named. nothing q named;
  named = λ x there. never there;
}

module _ (steps : List (ℕ × ℕ)) (ids : List ℕ) (names : ℕ → Option ℕ) (done : ℕ) (naming : IsNaming steps ids done names) where
  along : (n j k c : ℕ) → names j ≡ Some c → is_walk_by steps n j k ≡ true → names k ≡ Some c
  along zero j k c named walk = subst (λ x. names x ≡ Some c) (eqb-true j k walk) named
  along (suc n) j k c named walk =
      let first = (walking steps).splits n j k walk in
      along n first.0 k c (naming.closed j first.0 c named first.1) first.2

  pub least-joined : (j : ℕ) → has (take done ids) j ≡ true → IsSomeAnd (names j) (IsLeastJoined steps j)
  least-joined j there =
      elim (names j) as (λ o. names j ≡ o → is_some o ≡ true → IsSomeAnd o (IsLeastJoined steps j)) [
        | None ↦ λ _ wrong. never wrong
        | Some c ↦ λ named _. record { joined = naming.joined j c named; least = λ k n walk. naming.least k c (along n j k c named walk) }
      ] refl (naming.named j there)

pub take-all : (ks : List ℕ) (n : ℕ) → length ks ≤ n → take n ks ≡ ks
take-all [] zero few = refl
take-all [] (suc n) few = refl
take-all (k ∷ ks) zero few = absurd (omega (arith, few))
take-all (k ∷ ks) (suc n) few = ap (λ rest. k ∷ rest) (take-all ks n (omega (arith, few)))
