-- The spares of two ranks that become one.
use Rattle.std.proofs.Common.{◌≡◌, ◌≢◌, ℕ, zero, suc, true, false, ◌+◌, ◌^◌, ◌<◌, ◌≤◌, ◌==◌, cond, List, [], ◌∷◌, ◌++◌, length, get_or, refl, sym, ap, ◌∙◌, subst, inl, inr, arith, eq-eqb, ne_eqb}
use Rattle.std.specs.List.{AllByRecursion}
use Rattle.std.proofs.lemmas.Bool.{cases_Bool, cases_eq}
use Rattle.std.proofs.lemmas.List.{map-append}
use Rattle.rma_layout.specs.Shape.{Shape}
use Rattle.rma_layout.specs.Placement.{Place, same_place}
use Rattle.object_words.specs.Blocks.{on_rank, one_if}
use Rattle.window_rule.specs.View.{OwnBlock, View}
use Rattle.window_rule.specs.Objects.{number_to}
use Rattle.window_rule.specs.Partition.{times, places_of}
use Rattle.window_rule.specs.Pool.{MayBeFree, with_link}
use Rattle.window_rule.specs.Spares.{SpareEnds, AreChained, AreSpares, HasSpares, first_spare_of, last_spare_of, last_number, own_next_of}
use Rattle.window_rule.proofs.LockLemmas.{place_by_parts, same_place-refl}
use Rattle.window_rule.proofs.WordFunctions.{same_place-tells}
use Rattle.window_rule.proofs.Coverage.{of_one}
use Rattle.window_rule.proofs.JoinSteps.{All-append, times-append}
use Rattle.window_rule.proofs.LinkSteps.{places-linked}
use Rattle.window_rule.proofs.SparesKept.{AreChainedTo, chained_same, last_in, last_linked, last_of, link-linked, link-right}
use Rattle.window_rule.proofs.KeptSpares.{chain_is_own, chained_once, linked_is_own, some_number, spares_appended}
use Rattle.window_rule.specs.Splits.{joined}
use Rattle.fabric.specs.Window.{RankModel, WindowModel}
use Rattle.fabric.specs.Joins.{AreTogether, chained, chained_at, chained_view, one_or}

-- what is linked
pub places-chained_at : (firsts : List ℕ) (theirs : SpareEnds) (home : ℕ) (own : List OwnBlock)
    → places_of (chained_at firsts theirs home own) ≡ places_of own
places-chained_at firsts theirs home own = elim (first_spare_of theirs home == 0) as
    (λ b. places_of (cond b own (with_link (on_rank home (last_spare_of theirs home))
    (get_or firsts home 0) own)) ≡ places_of own) [
      | true ↦ refl
      | false ↦ places-linked (on_rank home (last_spare_of theirs home)) (get_or firsts home 0) own
    ]

pub places-chained : (firsts : List ℕ) (theirs : SpareEnds) (n : ℕ) (own : List OwnBlock)
    → places_of (chained firsts theirs n own) ≡ places_of own
places-chained firsts theirs zero own = refl
places-chained firsts theirs (suc n) own =
    places-chained_at firsts theirs n (chained firsts theirs n own)
    ∙ places-chained firsts theirs n own

chained_at-other : (firsts : List ℕ) (theirs : SpareEnds) (home : ℕ) (own : List OwnBlock)
    (block : Place) → block.rank ≢ home
    → own_next_of (chained_at firsts theirs home own) block ≡ own_next_of own block
chained_at-other firsts theirs home own block ne = elim (first_spare_of theirs home == 0) as
    (λ b. own_next_of (cond b own (with_link (on_rank home (last_spare_of theirs home))
    (get_or firsts home 0) own)) block ≡ own_next_of own block) [
      | true ↦ refl
      | false ↦ link-linked (on_rank home (last_spare_of theirs home)) (get_or firsts home 0) own
          block (λ same. ne (ap (λ (p : Place). p.rank) same))
    ]

-- before its rank is reached a block leads where it did
chained-before : (firsts : List ℕ) (theirs : SpareEnds) (n : ℕ) (own : List OwnBlock)
    (block : Place) → n ≤ block.rank
    → own_next_of (chained firsts theirs n own) block ≡ own_next_of own block
chained-before firsts theirs zero own block h = refl
chained-before firsts theirs (suc n) own block h =
    chained_at-other firsts theirs n (chained firsts theirs n own) block (omega arith)
    ∙ chained-before firsts theirs n own block (omega arith)

-- and after it, where it led then
chained-after : (firsts : List ℕ) (theirs : SpareEnds) (n : ℕ) (own : List OwnBlock)
    (block : Place) → block.rank < n
    → own_next_of (chained firsts theirs n own) block
    ≡ own_next_of (chained_at firsts theirs block.rank (chained firsts theirs block.rank own)) block
chained-after firsts theirs zero own block h = absurd (omega arith)
chained-after firsts theirs (suc n) own block h =
    elim (cases_eq block.rank n) [
      | inl same ↦ ap (λ r. own_next_of
          (chained_at firsts theirs r (chained firsts theirs r own)) block) (sym same)
      | inr ne ↦ chained_at-other firsts theirs n (chained firsts theirs n own) block ne
          ∙ chained-after firsts theirs n own block (omega arith)
    ]

-- a chain that leads on to another is one with it
chain_to-same : (own after : List OwnBlock) (to : ℕ) (list : List Place)
    → ((block : Place) → 0 < times block list → own_next_of after block ≡ own_next_of own block)
    → AreChainedTo own to list → AreChainedTo after to list
chain_to-same own after to [] same h = tt
chain_to-same own after to (block ∷ []) same h =
    let here : one_if (same_place block block) ≡ 1 = ap one_if (same_place-refl block) in
    same block (omega arith) ∙ h
chain_to-same own after to (block ∷ (next ∷ more)) same h =
    let here : one_if (same_place block block) ≡ 1 = ap one_if (same_place-refl block) in (
      same block (omega arith) ∙ h.0,
      chain_to-same own after to (next ∷ more) (λ b there. same b (omega arith)) h.1,
    )

chains_joined : (own : List OwnBlock) (block : Place) (xs ys : List Place)
    → AreChainedTo own (number_to ys) (block ∷ xs) → AreChained own ys
    → AreChained own ((block ∷ xs) ++ ys)
chains_joined own block [] ys h k = (h, k)
chains_joined own block (next ∷ more) ys h k = (h.0, chains_joined own next more ys h.1 k)

last_number_of : (block : Place) (xs : List Place)
    → last_number (block ∷ xs) ≡ (last_of block xs).block
last_number_of block [] = refl
last_number_of block (next ∷ more) = last_number_of next more

last_free : (shape : Shape) (rank : ℕ) (block : Place) (xs : List Place)
    → AllByRecursion (MayBeFree shape rank) (block ∷ xs) → MayBeFree shape rank (last_of block xs)
last_free shape rank block [] h = h.0
last_free shape rank block (next ∷ more) h = last_free shape rank next more h.1

small_first : (shape : Shape) (home : ℕ) (list : List Place)
    → AllByRecursion (MayBeFree shape home) list → shape.blocks < 2 ^ 20 → (first : ℕ)
    → first ≡ number_to list → first < 2 ^ 20
small_first shape home [] h few first is = omega arith
small_first shape home (block ∷ more) h few first is = omega (arith, h.0.is_block.1)

pub first_spare_small : (shape : Shape) (own : List OwnBlock) (ends : SpareEnds) (home : ℕ)
    → shape.blocks < 2 ^ 20 → home < 64 → HasSpares shape own ends
    → first_spare_of ends home < 2 ^ 20
first_spare_small shape own ends home few below h =
    let was = h.chains home below in
    small_first shape home was.0 was.1.places few (first_spare_of ends home) was.1.first_is

-- the last spare of a rank
pub record IsLast (shape : Shape) (own : List OwnBlock) (block : Place) : Type 0 where
  pub free : MayBeFree shape block.rank block
  pub is_own : 0 < times block (places_of own)

last_own : (own : List OwnBlock) (block : Place) (xs : List Place) → AreChained own (block ∷ xs)
    → 0 < times (last_of block xs) (places_of own)
last_own own block xs h =
    let found = chain_is_own own (block ∷ xs) (last_of block xs) h (last_in block xs) in
    linked_is_own own (last_of block xs) found.0 found.1

last_place : (shape : Shape) (own : List OwnBlock) (rank first last : ℕ) (block : Place)
    (xs : List Place) → AreSpares shape own rank first last (block ∷ xs)
    → on_rank rank last ≡ last_of block xs
last_place shape own rank first last block xs h =
    place_by_parts (on_rank rank last) (last_of block xs)
    (sym (last_free shape rank block xs h.places).on) (h.last_is ∙ last_number_of block xs)

last_of_one : (shape : Shape) (own : List OwnBlock) (rank first last : ℕ) (list : List Place)
    → AreSpares shape own rank first last list → first ≢ 0 → IsLast shape own (on_rank rank last)
last_of_one shape own rank first last [] h some = absurd (some h.first_is)
last_of_one shape own rank first last (block ∷ xs) h some =
    subst (IsLast shape own) (sym (last_place shape own rank first last block xs h)) (record {
      free = subst (λ r. MayBeFree shape r (last_of block xs))
          (sym (last_free shape rank block xs h.places).on) (last_free shape rank block xs h.places);
      is_own = last_own own block xs h.chained;
    })

pub last_spare_is : (shape : Shape) (own : List OwnBlock) (ends : SpareEnds) (home : ℕ)
    → home < 64 → first_spare_of ends home ≢ 0 → HasSpares shape own ends
    → IsLast shape own (on_rank home (last_spare_of ends home))
last_spare_is shape own ends home below some h =
    let was = h.chains home below in
    last_of_one shape own home (first_spare_of ends home) (last_spare_of ends home) was.0 was.1 some

-- no block stands twice among spares
in_chain_once : (shape : Shape) (own : List OwnBlock) (rank : ℕ) (list : List Place)
    → AreChained own list → AllByRecursion (MayBeFree shape rank) list → (block : Place)
    → times block list ≤ 1
in_chain_once shape own rank [] h on block = omega arith
in_chain_once shape own rank (one ∷ more) h on block =
    elim (cases_Bool (same_place one block)) [
      | inl same ↦
          let here : one_if (same_place one block) ≡ 1 = ap one_if same in
          let none = ap (λ p. times p more) (sym (same_place-tells one block same))
          ∙ chained_once shape own rank one more h on in
          omega arith
      | inr differ ↦
          let here : one_if (same_place one block) ≡ 0 = ap one_if differ in
          omega (arith, in_chain_once shape own rank more h.1 on.1 block)
    ]

last_alone : (mine theirs : ℕ) → theirs ≡ 0 → one_or mine theirs ≡ mine
last_alone mine theirs none =
    elim (cases_eq mine 0) [
      | inl zero_is ↦ ap (λ b. cond b theirs mine) (eq-eqb mine 0 zero_is) ∙ (none ∙ sym zero_is)
      | inr some ↦ ap (λ b. cond b theirs mine) (ne_eqb mine 0 some)
    ]

-- the last of a chain with another behind it
last_together : (shape : Shape) (own : List OwnBlock) (rank first last : ℕ) (block : Place)
    (xs ys : List Place) → AreSpares shape own rank first last ys
    → one_or last (last_number (block ∷ xs)) ≡ last_number ((block ∷ xs) ++ ys)
last_together shape own rank first last block [] [] h =
    ap (λ b. cond b block.block last) (eq-eqb last 0 h.last_is)
last_together shape own rank first last block (next ∷ more) [] h =
    last_together shape own rank first last next more [] h
last_together shape own rank first last block [] (y ∷ rest) h =
    ap (λ b. cond b block.block last) (ne_eqb last 0 (λ none.
    some_number shape rank (last_of y rest) (last_free shape rank y rest h.places)
    (sym (last_number_of y rest) ∙ (sym h.last_is ∙ none)))) ∙ h.last_is
last_together shape own rank first last block (next ∷ more) (y ∷ rest) h =
    last_together shape own rank first last next more (y ∷ rest) h

module _ (shape : Shape) (mine theirs : SpareEnds) (ours : List OwnBlock)
    (others : List OwnBlock) (h : HasSpares shape ours mine) (k : HasSpares shape others theirs)
    (once : (block : Place) → times block (places_of (ours ++ others)) ≤ 1) where
  abbrev linked : List OwnBlock
  linked = chained mine.firsts theirs shape.ranks others

  abbrev all : List OwnBlock
  all = ours ++ linked

  same_times : (block : Place)
      → times block (places_of (ours ++ others)) ≡ times block (places_of ours) + times block
      (places_of linked)
  same_times block =
      ap (times block) (map-append (λ (one : OwnBlock). one.block) ours others)
      ∙ (times-append block (places_of ours) (places_of others)
      ∙ ap (λ l. times block (places_of ours) + times block l)
      (sym (places-chained mine.firsts theirs shape.ranks others)))

  -- a block of the other's leads where it does there
  theirs_leads : (block : Place) → 0 < times block (places_of others)
      → own_next_of all block ≡ own_next_of linked block
  theirs_leads block there =
      let same : times block (places_of linked) ≡ times block (places_of others) = ap
      (times block) (places-chained mine.firsts theirs shape.ranks others) in
      link-right ours linked block (omega (arith, same_times block, once block))

  own_of_chain : (rank first last : ℕ) (list : List Place) (block : Place)
      → AreSpares shape others rank first last list → 0 < times block list
      → 0 < times block (places_of others)
  own_of_chain rank first last list block are there =
      let found = chain_is_own others list block are.chained there in
      linked_is_own others block found.0 found.1

  their_chain : (rank : ℕ) (block : Place) (xs : List Place)
      → AreSpares shape others rank (first_spare_of theirs rank) (last_spare_of theirs rank)
      (block ∷ xs)
      → AreChainedTo all (first_spare_of mine rank) (block ∷ xs)
  their_chain rank block xs are =
      let last = last_of block xs in
      let before = chained mine.firsts theirs rank others in
      let to = first_spare_of mine rank in
      let on : (b : Place) → 0 < times b (block ∷ xs) → b.rank ≡ rank = λ b there.
      (of_one (MayBeFree shape rank) (block ∷ xs) b are.places there).on in
      let below : rank < shape.ranks = omega (arith, are.places.0.on, are.places.0.is_block.0) in
      let was : AreChained before (block ∷ xs) = chained_same others before (block ∷ xs)
      (λ b there. chained-before mine.firsts theirs rank others b (omega (arith, on b there)))
      are.chained in
      let some : first_spare_of theirs rank ≢ 0 = λ none. some_number shape rank block are.places.0
      (sym are.first_is ∙ none) in
      let here : chained_at mine.firsts theirs rank before ≡ with_link last to before =
      ap (λ b. cond b before (with_link (on_rank rank (last_spare_of theirs rank)) to before))
      (ne_eqb (first_spare_of theirs rank) 0 some)
      ∙ ap (λ p. with_link p to before)
      (last_place shape others rank (first_spare_of theirs rank) (last_spare_of theirs rank) block
      xs are) in
      let once_in : (b : Place) → times b (block ∷ xs) ≤ 1 = in_chain_once shape others rank
      (block ∷ xs) are.chained are.places in
      chain_to-same (with_link last to before) all to (block ∷ xs)
      (λ b there.
      theirs_leads b (own_of_chain rank (first_spare_of theirs rank) (last_spare_of theirs rank)
      (block ∷ xs) b are there)
      ∙ (chained-after mine.firsts theirs shape.ranks others b (omega (arith, on b there))
      ∙ (ap (λ r. own_next_of (chained_at mine.firsts theirs r
      (chained mine.firsts theirs r others)) b) (on b there)
      ∙ ap (λ l. own_next_of l b) here)))
      (last_linked before to block xs
      (last_own before block xs was) once_in was)

  both_chains : (both : SpareEnds) → AreTogether mine theirs both → (rank : ℕ) → rank < 64
      → (xs ys : List Place)
      → AreSpares shape others rank (first_spare_of theirs rank) (last_spare_of theirs rank) xs
      → AreSpares shape all rank (first_spare_of mine rank) (last_spare_of mine rank) ys
      → (list : List Place)
      × AreSpares shape all rank (first_spare_of both rank) (last_spare_of both rank) list
  both_chains both is rank below [] ys a b =
      let first : first_spare_of both rank ≡ first_spare_of mine rank = is.first rank below
      ∙ ap (λ t. cond t (first_spare_of mine rank) (first_spare_of theirs rank))
      (eq-eqb (first_spare_of theirs rank) 0 a.first_is) in
      let last : last_spare_of both rank ≡ last_spare_of mine rank = is.last rank below
      ∙ last_alone (last_spare_of mine rank) (last_spare_of theirs rank) a.last_is in (
        ys,
        record {
          chained = b.chained;
          first_is = first ∙ b.first_is;
          last_is = last ∙ b.last_is;
          places = b.places;
        },
      )
  both_chains both is rank below (x ∷ xs) ys a b =
      let some : first_spare_of theirs rank ≢ 0 = λ none. some_number shape rank x a.places.0
      (sym a.first_is ∙ none) in
      let first : first_spare_of both rank ≡ first_spare_of theirs rank = is.first rank below
      ∙ ap (λ t. cond t (first_spare_of mine rank) (first_spare_of theirs rank))
      (ne_eqb (first_spare_of theirs rank) 0 some) in (
        (x ∷ xs) ++ ys,
        record {
          chained = chains_joined all x xs ys
              (subst (λ n. AreChainedTo all n (x ∷ xs)) b.first_is (their_chain rank x xs a))
              b.chained;
          first_is = first ∙ a.first_is;
          last_is = is.last rank below
              ∙ (ap (one_or (last_spare_of mine rank)) a.last_is
              ∙ last_together shape all rank (first_spare_of mine rank) (last_spare_of mine rank)
              x xs ys b);
          places = All-append (MayBeFree shape rank) (x ∷ xs) ys a.places b.places;
        },
      )

  pub spares_together : (both : SpareEnds) → AreTogether mine theirs both
      → HasSpares shape all both
  spares_together both is =
      let now = spares_appended shape ours mine h linked in record {
        firsts_sized = is.firsts_sized;
        lasts_sized = is.lasts_sized;
        chains = λ rank below.
            let a = k.chains rank below in
            let b = now.chains rank below in
            both_chains both is rank below a.0 b.0 a.1 b.1;
      }

-- what the two lists of numbers are after both were gone through
pub are_together : (mine theirs : SpareEnds) (firsts lasts new_firsts new_lasts : List ℕ)
    (was : SpareEnds) (all_firsts all_lasts : List ℕ)
    → was ≡ mine → all_firsts ≡ new_firsts → all_lasts ≡ new_lasts
    → length new_firsts ≡ 64 → length new_lasts ≡ 64
    → firsts ≡ was.firsts → lasts ≡ was.lasts
    → ((home : ℕ) → home < 64
    → get_or new_firsts home 0 ≡ one_or (get_or theirs.firsts home 0) (get_or firsts home 0))
    → ((home : ℕ) → home < 64
    → get_or new_lasts home 0 ≡ one_or (get_or lasts home 0) (get_or theirs.lasts home 0))
    → AreTogether mine theirs (record { firsts = all_firsts; lasts = all_lasts })
are_together mine theirs firsts lasts new_firsts new_lasts was all_firsts all_lasts is f l fs ls
    first_is last_is first last = record {
      firsts_sized = ap length f ∙ fs;
      lasts_sized = ap length l ∙ ls;
      first = λ home below. ap (λ l. get_or l home 0) f ∙ (first home below
          ∙ ap (λ l. one_or (get_or theirs.firsts home 0) (get_or l home 0))
          (first_is ∙ ap (λ (e : SpareEnds). e.firsts) is));
      last = λ home below. ap (λ l. get_or l home 0) l ∙ (last home below
          ∙ ap (λ l. one_or (get_or l home 0) (get_or theirs.lasts home 0))
          (last_is ∙ ap (λ (e : SpareEnds). e.lasts) is));
    }

-- after a join
module _ {N : Type 0} (window : WindowModel) (mine other : RankModel N) (linked_view taken : View N)
    (linked_is : linked_view ≡ chained_view mine.spares other.spares window.shape.ranks other.view)
    (taken_is : taken ≡ joined mine.view linked_view)
    (heard : (block : Place) → times block (places_of taken.private) ≤ 1) where
  taken_private : taken.private
      ≡ mine.view.private ++ chained mine.spares.firsts other.spares window.shape.ranks
      other.view.private
  taken_private = ap (λ (v : View N). v.private) taken_is
      ∙ ap (λ (v : View N). mine.view.private ++ v.private) linked_is

  pub joined_once : (block : Place)
      → times block (places_of (mine.view.private ++ other.view.private)) ≤ 1
  joined_once block =
      let here = ap (λ list. times block (places_of list)) taken_private in
      let both = ap (times block) (map-append (λ (one : OwnBlock). one.block) mine.view.private
      (chained mine.spares.firsts other.spares window.shape.ranks other.view.private))
      ∙ times-append block (places_of mine.view.private) (places_of
      (chained mine.spares.firsts other.spares window.shape.ranks other.view.private)) in
      let plain = ap (times block) (map-append (λ (one : OwnBlock). one.block) mine.view.private
      other.view.private)
      ∙ times-append block (places_of mine.view.private) (places_of other.view.private) in
      let same = ap (times block)
      (places-chained mine.spares.firsts other.spares window.shape.ranks other.view.private) in
      omega (arith, heard block, here, both, plain, same)

  pub joined_spares : mine.window ≡ window → other.window ≡ window
      → HasSpares mine.window.shape mine.view.private mine.spares
      → HasSpares other.window.shape other.view.private other.spares
      → (both : SpareEnds) → AreTogether mine.spares other.spares both
      → HasSpares window.shape taken.private both
  joined_spares mine_of other_of h k both is =
      subst (λ list. HasSpares window.shape list both) (sym taken_private)
      (spares_together window.shape mine.spares other.spares mine.view.private other.view.private
      (subst (λ w. HasSpares w.shape mine.view.private mine.spares) mine_of h)
      (subst (λ w. HasSpares w.shape other.view.private other.spares) other_of k) joined_once both is)

-- the other's view, where its lists of numbers and one's own were read from the ranks
pub linked_view_is : {N : Type 0} (mine other : RankModel N) (ranks : ℕ) (firsts theirs lasts : List ℕ)
    (before after : View N) → firsts ≡ mine.spares.firsts → theirs ≡ other.spares.firsts
    → lasts ≡ other.spares.lasts → before ≡ other.view
    → after ≡ chained_view (record { firsts = firsts; lasts = [] })
    (record { firsts = theirs; lasts = lasts }) ranks before
    → after ≡ chained_view mine.spares other.spares ranks other.view
linked_view_is mine other ranks firsts theirs lasts before after f t l v is =
    is ∙ (λ i. chained_view (record { firsts = f i; lasts = [] })
    (record { firsts = t i; lasts = l i }) ranks (v i))
