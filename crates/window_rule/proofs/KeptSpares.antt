-- What a rank keeps of its spares: which steps keep it, and what becoming a spare or ceasing to be
-- one makes of it.
use Rattle.std.proofs.Common.{◌≡◌, ◌≢◌, ℕ, zero, suc, replicate, ◌<◌, ◌≤◌, ◌==◌, cond, List, [], ◌∷◌, ◌++◌, length, set, get_or, refl, sym, ap, ◌∙◌, subst, inl, inr, arith, Some, eq-eqb, ne_eqb}
use Rattle.std.specs.List.{AllByRecursion}
use Rattle.std.proofs.lemmas.Bool.{cases_Bool, cases_eq}
use Rattle.std.proofs.lemmas.List.{get_or-set_same, get_or-set_other}
use Rattle.std.proofs.Math.ListN.{length-set}
use Rattle.std.proofs.lemmas.List.{length-replicate}
use Rattle.rma_layout.specs.Shape.{Shape}
use Rattle.rma_layout.specs.Placement.{Place, same_place}
use Rattle.object_words.specs.Blocks.{on_rank, one_if}
use Rattle.window_rule.specs.View.{OwnBlock}
use Rattle.window_rule.specs.Objects.{number_to}
use Rattle.window_rule.specs.Partition.{times, places_of}
use Rattle.window_rule.specs.Pool.{MayBeFree, own_of, with_link, without_own}
use Rattle.window_rule.specs.Spares.{SpareEnds, AreChained, AreNone, AreSpares, AreSparesOf, HasSpares, IsNoSpare, first_spare_of, last_spare_of, last_number, next_in, own_next_of, with_spare, without_spare}
use Rattle.window_rule.proofs.LockLemmas.{place_by_parts}
use Rattle.window_rule.proofs.WordFunctions.{same_place-tells}
use Rattle.window_rule.proofs.Coverage.{of_one}
use Rattle.window_rule.proofs.SparesKept.{AreSpares-same, link-popped, link-left, link-linked, link-pushed, spare_kept, spare_used}

-- what has a link is a block of the view's own
pub linked_is_own : (own : List OwnBlock) (block : Place) (next : ℕ)
    → own_next_of own block ≡ Some next → 0 < times block (places_of own)
linked_is_own [] block next e = absurd (cc e)
linked_is_own (one ∷ more) block next e =
    elim (cases_Bool (same_place one.block block)) [
      | inl same ↦ let here : one_if (same_place one.block block) ≡ 1 = ap one_if same in omega arith
      | inr differ ↦ omega (
        arith,
        linked_is_own more block next
            (sym (ap (λ b. next_in (cond b (Some one) (own_of more block))) differ) ∙ e),
      )
    ]

pub chain_is_own : (own : List OwnBlock) (list : List Place) (block : Place) → AreChained own list
    → 0 < times block list → (next : ℕ) × (own_next_of own block ≡ Some next)
chain_is_own own [] block h there = absurd (omega arith)
chain_is_own own (one ∷ more) block h there =
    elim (cases_Bool (same_place one block)) [
      | inl same ↦ (
        number_to more,
        ap (own_next_of own) (sym (same_place-tells one block same)) ∙ h.0,
      )
      | inr differ ↦ let none : one_if (same_place one block) ≡ 0 = ap one_if differ in chain_is_own
          own more block h.1 (omega arith)
    ]

-- block 0 is reserved
pub some_number : (shape : Shape) (rank : ℕ) (block : Place) → MayBeFree shape rank block
    → block.block ≢ 0
some_number shape rank block h nil = h.unreserved (omega arith)

module _ (shape : Shape) (own : List OwnBlock) (ends : SpareEnds) (h : HasSpares shape own ends) where
  -- the spares are as they were where what each of them leads to is
  pub spares_as_before : (after : List OwnBlock)
      → ((rank : ℕ) (list : List Place) → AreSparesOf shape own ends rank list → (block : Place)
      → 0 < times block list → own_next_of after block ≡ own_next_of own block)
      → HasSpares shape after ends
  spares_as_before after same = record {
    firsts_sized = h.firsts_sized;
    lasts_sized = h.lasts_sized;
    chains = λ rank below. let was = h.chains rank below in (
      was.0,
      AreSpares-same shape own after rank (first_spare_of ends rank) (last_spare_of ends rank) was.0
          (same rank was.0 was.1) was.1,
    );
  }

  -- a spare is another block than one that is none
  pub no_spare_differs : (gone : Place) → IsNoSpare shape own ends gone → (rank : ℕ)
      (list : List Place) → AreSparesOf shape own ends rank list → (block : Place)
      → 0 < times block list → block ≢ gone
  no_spare_differs gone none rank list are block there same =
      let at : 0 < times gone list = subst (λ p. 0 < times p list) same there in
      let on : gone.rank ≡ rank = (of_one (MayBeFree shape rank) list gone are.places at).on in
      omega (arith, none list (subst (λ r. AreSparesOf shape own ends r list) (sym on) are))

  pub spares_popped : (one : OwnBlock) → times one.block (places_of own) ≡ 0
      → HasSpares shape (one ∷ own) ends
  spares_popped one fresh = spares_as_before (one ∷ own) (λ rank list are block there.
      let found = chain_is_own own list block are.chained there in
      link-popped one own block (λ same. omega (
        arith,
        subst (λ p. 0 < times p (places_of own)) same (linked_is_own own block found.0 found.1),
      )))

  pub spares_linked : (block : Place) (next : ℕ) → IsNoSpare shape own ends block
      → HasSpares shape (with_link block next own) ends
  spares_linked block next none = spares_as_before (with_link block next own)
      (λ rank list are spare there. link-linked block next own spare
      (no_spare_differs block none rank list are spare there))

  pub spares_pushed : (block : Place) → IsNoSpare shape own ends block
      → HasSpares shape (without_own own block) ends
  spares_pushed block none = spares_as_before (without_own own block)
      (λ rank list are spare there. link-pushed block own spare
      (no_spare_differs block none rank list are spare there))

  -- blocks of another view are own blocks too
  pub spares_appended : (more : List OwnBlock) → HasSpares shape (own ++ more) ends
  spares_appended more = spares_as_before (own ++ more) (λ rank list are block there.
      let found = chain_is_own own list block are.chained there in
      link-left own more block found.0 found.1 ∙ sym found.1)

  -- blocks that are no spares were attached
  pub spares_attached : (chain : List Place) (after : List OwnBlock)
      → ((block : Place) → 0 < times block chain → IsNoSpare shape own ends block)
      → ((block : Place) (next : ℕ) → times block chain ≡ 0 → own_next_of own block ≡ Some next
      → own_next_of after block ≡ Some next)
      → HasSpares shape after ends
  spares_attached chain after none stay = spares_as_before after (λ rank list are spare there.
      let found = chain_is_own own list spare are.chained there in
      elim (cases_eq (times spare chain) 0) [
        | inl out ↦ stay spare found.0 out found.1 ∙ sym found.1
        | inr within ↦ absurd (no_spare_differs spare (none spare (omega arith)) rank list are spare
            there refl)
      ])

-- two chains of a rank that begin at one number are of one length
same_length : (shape : Shape) (own : List OwnBlock) (rank : ℕ) (xs ys : List Place)
    → AreChained own xs → AreChained own ys → AllByRecursion (MayBeFree shape rank) xs
    → AllByRecursion (MayBeFree shape rank) ys → number_to xs ≡ number_to ys → length xs ≡ length ys
same_length shape own rank [] [] h k on also same = refl
same_length shape own rank [] (y ∷ ys) h k on also same = absurd (some_number shape rank y also.0 (sym same))
same_length shape own rank (x ∷ xs) [] h k on also same = absurd (some_number shape rank x on.0 same)
same_length shape own rank (x ∷ xs) (y ∷ ys) h k on also same =
    let is : x ≡ y = place_by_parts x y (on.0.on ∙ sym also.0.on) same in
    let both : Some (number_to xs) ≡ Some (number_to ys) = sym h.0
    ∙ (ap (own_next_of own) is ∙ k.0) in
    let rest = same_length shape own rank xs ys h.1 k.1 on.1 also.1 (cc both) in
    omega (arith, rest)

-- a part of a chain, from one of its blocks on
record Suffix (shape : Shape) (own : List OwnBlock) (rank : ℕ) (block : Place)
    (most : ℕ) : Type 0 where
  rest : List Place
  chained : AreChained own (block ∷ rest)
  on : AllByRecursion (MayBeFree shape rank) (block ∷ rest)
  short : length (block ∷ rest) ≤ most

suffix_at : (shape : Shape) (own : List OwnBlock) (rank : ℕ) (list : List Place) (block : Place)
    → AreChained own list → AllByRecursion (MayBeFree shape rank) list → 0 < times block list
    → Suffix shape own rank block (length list)
suffix_at shape own rank [] block h on there = absurd (omega arith)
suffix_at shape own rank (one ∷ more) block h on there =
    elim (cases_Bool (same_place one block)) [
      | inl same ↦ subst (λ p. Suffix shape own rank p (length (one ∷ more)))
          (same_place-tells one block same)
          (record { rest = more; chained = h; on = on; short = omega arith })
      | inr differ ↦
          let none : one_if (same_place one block) ≡ 0 = ap one_if differ in
          let part = suffix_at shape own rank more block h.1 on.1 (omega arith) in record {
            rest = part.rest;
            chained = part.chained;
            on = part.on;
            short = omega (arith, part.short);
          }
    ]

-- no block stands twice in a chain
pub chained_once : (shape : Shape) (own : List OwnBlock) (rank : ℕ) (block : Place)
    (more : List Place) → AreChained own (block ∷ more)
    → AllByRecursion (MayBeFree shape rank) (block ∷ more) → times block more ≡ 0
chained_once shape own rank block more h on =
    elim (cases_eq (times block more) 0) [
      | inl none ↦ none
      | inr some ↦
          let part = suffix_at shape own rank more block h.1 on.1 (omega arith) in
          let same = same_length shape own rank (block ∷ more) (block ∷ part.rest) h part.chained on
          part.on refl in
          absurd (omega (arith, same, part.short))
    ]

-- the spares of a rank are one list
pub same_spares : (shape : Shape) (own : List OwnBlock) (rank : ℕ) (xs ys : List Place)
    → AreChained own xs → AreChained own ys → AllByRecursion (MayBeFree shape rank) xs
    → AllByRecursion (MayBeFree shape rank) ys → number_to xs ≡ number_to ys → xs ≡ ys
same_spares shape own rank [] [] h k on also same = refl
same_spares shape own rank [] (y ∷ ys) h k on also same = absurd (some_number shape rank y also.0 (sym same))
same_spares shape own rank (x ∷ xs) [] h k on also same = absurd (some_number shape rank x on.0 same)
same_spares shape own rank (x ∷ xs) (y ∷ ys) h k on also same =
    let is : x ≡ y = place_by_parts x y (on.0.on ∙ sym also.0.on) same in
    let both : Some (number_to xs) ≡ Some (number_to ys) = sym h.0
    ∙ (ap (own_next_of own) is ∙ k.0) in
    let rest = same_spares shape own rank xs ys h.1 k.1 on.1 also.1 (cc both) in
    λ i. is i ∷ rest i

-- the chain of one home rank is another
home_changes : (shape : Shape) (own : List OwnBlock) (firsts lasts : List ℕ)
    (home first last : ℕ) → home < 64
    → HasSpares shape own (record { firsts = firsts; lasts = lasts })
    → ((list : List Place) × AreSpares shape own home first last list)
    → HasSpares shape own
    (record { firsts = set firsts home first; lasts = set lasts home last })
home_changes shape own firsts lasts home first last below h new = record {
  firsts_sized = length-set firsts home first ∙ h.firsts_sized;
  lasts_sized = length-set lasts home last ∙ h.lasts_sized;
  chains = λ rank less. elim (cases_eq rank home) [
    | inl same ↦
        subst (λ r. (list : List Place) × AreSpares shape own r
        (get_or (set firsts home first) r 0) (get_or (set lasts home last) r 0) list) (sym same)
        (subst (λ f. (list : List Place) × AreSpares shape own home f
        (get_or (set lasts home last) home 0) list)
        (sym (get_or-set_same firsts home first 0 (omega (arith, h.firsts_sized))))
        (subst (λ l. (list : List Place) × AreSpares shape own home first l list)
        (sym (get_or-set_same lasts home last 0 (omega (arith, h.lasts_sized)))) new))
    | inr ne ↦
        subst (λ f. (list : List Place) × AreSpares shape own rank f
        (get_or (set lasts home last) rank 0) list)
        (sym (get_or-set_other firsts home rank first 0 ne))
        (subst (λ l. (list : List Place) × AreSpares shape own rank (get_or firsts rank 0) l list)
        (sym (get_or-set_other lasts home rank last 0 ne)) (h.chains rank less))
  ];
}

-- the last of a chain with one more before it
last_before : (shape : Shape) (block : Place) (rank first last : ℕ) (own : List OwnBlock)
    (list : List Place) → AreSpares shape own rank first last list
    → cond (first == 0) block.block last ≡ last_number (block ∷ list)
last_before shape block rank first last own [] h = ap (λ b. cond b block.block last)
    (eq-eqb first 0 h.first_is)
last_before shape block rank first last own (one ∷ rest) h = ap (λ b. cond b block.block last)
    (ne_eqb first 0 (λ nil. some_number shape rank one h.places.0 (sym h.first_is ∙ nil))) ∙ h.last_is

pub spares_kept : (shape : Shape) (own : List OwnBlock) (ends : SpareEnds) (block : Place)
    → block.rank < 64 → MayBeFree shape block.rank block
    → own_next_of own block ≡ Some (first_spare_of ends block.rank) → HasSpares shape own ends
    → HasSpares shape own (with_spare block ends)
spares_kept shape own ends block below may link h =
    let was = h.chains block.rank below in
    let first = first_spare_of ends block.rank in
    let last = last_spare_of ends block.rank in
    home_changes shape own ends.firsts ends.lasts block.rank block.block
    (cond (first == 0) block.block last) below h (
      block ∷ was.0,
      subst (λ l. AreSpares shape own block.rank block.block l (block ∷ was.0))
          (sym (last_before shape block block.rank first last own was.0 was.1))
          (spare_kept shape own block.rank first last was.0 block may link was.1),
    )

-- the last of a chain without its first
last_behind : (shape : Shape) (block : Place) (rank first last next : ℕ) (own : List OwnBlock)
    (more : List Place) → AreSpares shape own rank first last (block ∷ more)
    → AreSpares shape own rank next (last_number more) more
    → cond (next == 0) 0 last ≡ last_number more
last_behind shape block rank first last next own [] h k = ap (λ b. cond b 0 last)
    (eq-eqb next 0 k.first_is)
last_behind shape block rank first last next own (one ∷ rest) h k = ap (λ b. cond b 0 last)
    (ne_eqb next 0 (λ nil. some_number shape rank one k.places.0 (sym k.first_is ∙ nil))) ∙ h.last_is

-- what is left of a chain whose first is used
record IsUsed (shape : Shape) (own : List OwnBlock) (rank first last next : ℕ) : Type 0 where
  rest : List Place
  are : AreSpares shape own rank next (cond (next == 0) 0 last) rest
  gone : times (on_rank rank first) rest ≡ 0

used_one : (shape : Shape) (own : List OwnBlock) (rank first last next : ℕ) (list : List Place)
    → AreSpares shape own rank first last list → first ≢ 0
    → own_next_of own (on_rank rank first) ≡ Some next → IsUsed shape own rank first last next
used_one shape own rank first last next [] h not_nil link = absurd (not_nil h.first_is)
used_one shape own rank first last next (block ∷ more) h not_nil link =
    let is : on_rank rank first ≡ block = place_by_parts (on_rank rank first) block
    (sym h.places.0.on) h.first_is in
    let used = spare_used shape own rank first last next block more
    (ap (own_next_of own) (sym is) ∙ link) h in record {
      rest = more;
      are = subst (λ l. AreSpares shape own rank next l more)
          (sym (last_behind shape block rank first last next own more h used)) used;
      gone = ap (λ p. times p more) is ∙ chained_once shape own rank block more h.chained h.places;
    }

pub spares_used : (shape : Shape) (own : List OwnBlock) (ends : SpareEnds) (home next : ℕ)
    → home < 64 → first_spare_of ends home ≢ 0
    → own_next_of own (on_rank home (first_spare_of ends home)) ≡ Some next
    → HasSpares shape own ends → HasSpares shape own (without_spare home next ends)
spares_used shape own ends home next below not_nil link h =
    let was = h.chains home below in
    let used = used_one shape own home (first_spare_of ends home) (last_spare_of ends home) next
    was.0 was.1 not_nil link in
    home_changes shape own ends.firsts ends.lasts home next
    (cond (next == 0) 0 (last_spare_of ends home)) below h (used.rest, used.are)

-- the block that was the first is no spare then
pub used_is_no_spare : (shape : Shape) (own : List OwnBlock) (ends : SpareEnds) (home next : ℕ)
    → home < 64 → first_spare_of ends home ≢ 0
    → own_next_of own (on_rank home (first_spare_of ends home)) ≡ Some next
    → HasSpares shape own ends
    → IsNoSpare shape own (without_spare home next ends) (on_rank home (first_spare_of ends home))
used_is_no_spare shape own ends home next below not_nil link h list are =
    let was = h.chains home below in
    let first = first_spare_of ends home in
    let used = used_one shape own home first (last_spare_of ends home) next was.0 was.1 not_nil
    link in
    let first_is : get_or (set ends.firsts home next) home 0 ≡ next =
    get_or-set_same ends.firsts home next 0 (omega (arith, h.firsts_sized)) in
    ap (times (on_rank home first))
    (same_spares shape own home list used.rest are.chained used.are.chained are.places
    used.are.places (sym are.first_is ∙ (first_is ∙ used.are.first_is))) ∙ used.gone

-- the first spare of a rank: a block of its own whose link is known
pub record FirstSpare (shape : Shape) (own : List OwnBlock) (block : Place) : Type 0 where
  pub may : MayBeFree shape block.rank block
  pub is_own : 0 < times block (places_of own)
  pub next : ℕ
  pub link : own_next_of own block ≡ Some next

first_found : (shape : Shape) (own : List OwnBlock) (rank first last : ℕ) (list : List Place)
    → AreSpares shape own rank first last list → first ≢ 0
    → FirstSpare shape own (on_rank rank first)
first_found shape own rank first last [] h not_nil = absurd (not_nil h.first_is)
first_found shape own rank first last (block ∷ more) h not_nil =
    subst (FirstSpare shape own) (place_by_parts block (on_rank rank first) h.places.0.on
    (sym h.first_is)) (record {
      may = subst (λ r. MayBeFree shape r block) (sym h.places.0.on) h.places.0;
      is_own = linked_is_own own block (number_to more) h.chained.0;
      next = number_to more;
      link = h.chained.0;
    })

pub first_spare_is : (shape : Shape) (own : List OwnBlock) (ends : SpareEnds) (home : ℕ)
    → home < 64 → first_spare_of ends home ≢ 0 → HasSpares shape own ends
    → FirstSpare shape own (on_rank home (first_spare_of ends home))
first_spare_is shape own ends home below not_nil h =
    let was = h.chains home below in
    first_found shape own home (first_spare_of ends home) (last_spare_of ends home) was.0 was.1
    not_nil

-- where no number is told there is no spare
pub none_has_spares : (shape : Shape) (own : List OwnBlock) (firsts lasts : List ℕ)
    → AreNone firsts → AreNone lasts
    → HasSpares shape own (record { firsts = firsts; lasts = lasts })
none_has_spares shape own firsts lasts f l = record {
  firsts_sized = f.0;
  lasts_sized = l.0;
  chains = λ rank below. (
    [],
    record { chained = tt; first_is = f.1 rank; last_is = l.1 rank; places = tt },
  );
}

zero_everywhere : (n k : ℕ) → get_or (replicate {A = ℕ} n 0) k 0 ≡ 0
zero_everywhere zero k = refl
zero_everywhere (suc n) zero = refl
zero_everywhere (suc n) (suc k) = zero_everywhere n k

pub zeros_are_none : (numbers : List ℕ) → numbers ≡ replicate {A = ℕ} 64 0 → AreNone numbers
zeros_are_none numbers is = (
  ap length is ∙ length-replicate {A = ℕ} 64 0,
  λ rank. ap (λ l. get_or l rank 0) is ∙ zero_everywhere 64 rank,
)

-- the same where place, number and last are told apart
pub spares_kept_at : (shape : Shape) (own : List OwnBlock) (firsts lasts : List ℕ) (block : Place)
    (home number last : ℕ) → home ≡ block.rank → number ≡ block.block
    → last ≡ cond (get_or firsts home 0 == 0) number (get_or lasts home 0)
    → block.rank < 64 → MayBeFree shape block.rank block
    → own_next_of own block ≡ Some (get_or firsts block.rank 0)
    → HasSpares shape own (record { firsts = firsts; lasts = lasts })
    → HasSpares shape own (record {
      firsts = set firsts home number;
      lasts = set lasts home last;
    })
spares_kept_at shape own firsts lasts block home number last h n l below may link has =
    let ends : SpareEnds = record { firsts = firsts; lasts = lasts } in
    let last_is : last ≡ cond (get_or firsts block.rank 0 == 0) block.block
    (get_or lasts block.rank 0) = l ∙ (λ k. cond (get_or firsts (h k) 0 == 0) (n k)
    (get_or lasts (h k) 0)) in
    let P : SpareEnds → Type 0 = HasSpares shape own in
    subst P
    (λ k. record {
      firsts = set firsts (sym h k) (sym n k);
      lasts = set lasts (sym h k) (sym last_is k);
    }) (spares_kept shape own ends block below may link has)

module _ (shape : Shape) (own : List OwnBlock) (firsts lasts : List ℕ) (home next last : ℕ)
    (last_is : last ≡ cond (next == 0) 0 (get_or lasts home 0)) (below : home < 64)
    (not_nil : get_or firsts home 0 ≢ 0)
    (link : own_next_of own (on_rank home (get_or firsts home 0)) ≡ Some next)
    (has : HasSpares shape own (record { firsts = firsts; lasts = lasts })) where
  abbrev ends : SpareEnds
  ends = record { firsts = firsts; lasts = lasts }

  abbrev left : SpareEnds
  left = record { firsts = set firsts home next; lasts = set lasts home last }

  left_is : without_spare home next ends ≡ left
  left_is = λ k. record { firsts = set firsts home next; lasts = set lasts home (sym last_is k) }

  pub spares_used_at : HasSpares shape own left
  spares_used_at = subst (HasSpares shape own) left_is
      (spares_used shape own ends home next below not_nil link has)

  pub used_at : IsNoSpare shape own left (on_rank home (get_or firsts home 0))
  used_at = subst (λ e. IsNoSpare shape own e (on_rank home (get_or firsts home 0))) left_is
      (used_is_no_spare shape own ends home next below not_nil link has)

-- a block that was with nobody and is own now is no spare
pub popped_is_no_spare : (shape : Shape) (own : List OwnBlock) (ends : SpareEnds) (one : OwnBlock)
    → one.block.rank < 64 → times one.block (places_of own) ≡ 0 → HasSpares shape own ends
    → IsNoSpare shape (one ∷ own) ends one.block
unfolding spares_popped spares_as_before
popped_is_no_spare shape own ends one below fresh h list are =
    let rank = one.block.rank in
    let was = h.chains rank below in
    let now = (spares_popped shape own ends h one fresh).chains rank below in
    let same : list ≡ was.0 = same_spares shape (one ∷ own) rank list was.0 are.chained
    now.1.chained are.places was.1.places (sym are.first_is ∙ was.1.first_is) in
    elim (cases_eq (times one.block was.0) 0) [
      | inl none ↦ ap (times one.block) same ∙ none
      | inr some ↦
          let found = chain_is_own own was.0 one.block was.1.chained (omega arith) in
          absurd (omega (arith, linked_is_own own one.block found.0 found.1))
    ]
