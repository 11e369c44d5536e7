-- The entries of a slot, and what one entry more or less makes of them.
use Rattle.std.proofs.Common.{◌≡◌, ◌+◌, ◌/◌, Bool, true, false, cond, not, eqb, List, Some, None, refl, sym, ap, ◌∙◌, arith, eq-eqb, eqb-true}
use Rattle.std.specs.Ordering.{eq_by_cmp}
use Rattle.std.specs.FinMap.{is_sorted}
use Rattle.std.proofs.lemmas.Bool.{and_parts, and_from}
use Rattle.std.proofs.lemmas.Nat.{mod_below}
use Rattle.rma_layout.specs.Shape.{Shape}
use Rattle.rma_layout.specs.Ranges.{IsInRange}
use Rattle.rma_layout.specs.Placement.{Place, same_place}
use Rattle.object_words.specs.Contents.{Contents}
use Rattle.graph_model.proofs.Entries.{All-filter}
use Rattle.holder_codec.specs.declared.index_entry.IndexEntry.{IndexEntry}
use Rattle.holder_codec.specs.declared.index_holder.IndexHolder.{IndexHolder}
use Rattle.holder_codec.specs.Index.{IndexEntryFits, IsIndexHolder, index_words, is_pair_before}
use Rattle.holder_codec.specs.Order.{is_rising}
use Rattle.holder_codec.specs.Reading.{index_of_words}
use Rattle.holder_codec.specs.Represents.{IsSlot}
use Rattle.holder_codec.proofs.ReadLaws.{some_is}
use Rattle.holder_codec.proofs.Indexes.{index_again}
use Rattle.rising_lists.specs.Rising.{by_key}
use Rattle.rising_lists.proofs.Rising.{sorted, same_items, item_of-where, item_of-with_item, is_rising-with_item, is_rising-where, All-with_item}
use Rattle.rising_lists.proofs.Chosen.{chosen-with_item, chosen-with_item_other, chosen-chosen, chosen-swap}
use Rattle.label_index.specs.Entries.{Pair, pair_of, pair_cmp, is_pair, entry_for, with_pair, without_pair, slot_for, entries_in}
use Rattle.label_index.specs.Index.{IsIndexed}
use Rattle.label_index.proofs.Keys.{pair_total, pair_same, before_is, pair_is}

abbrev belongs : Shape → Place → Pair → Bool
belongs shape place pair = same_place (slot_for shape pair) place

pub sorted_of : (entries : List IndexEntry) → is_rising is_pair_before entries ≡ true → is_sorted pair_cmp (by_key pair_of entries) ≡ true
sorted_of entries rising = sorted pair_of pair_total pair_same is_pair_before before_is entries rising

same_itself : (place : Place) → same_place place place ≡ true
same_itself place = and_from (eqb place.rank place.rank) (eqb place.block place.block) (eq-eqb place.rank place.rank refl) (eq-eqb place.block place.block refl)

same_is : (one other : Place) → same_place one other ≡ true → other ≡ one
same_is one other same =
    let parts = and_parts (eqb one.rank other.rank) (eqb one.block other.block) same in
    λ i. record { rank = sym (eqb-true one.rank other.rank parts.0) i; block = sym (eqb-true one.block other.block parts.1) i }

same_not : (one other : Place) → ¬ (other ≡ one) → same_place one other ≡ false
same_not one other apart = cases (same_place one other) refl
  where
    cases : (same : Bool) → same_place one other ≡ same → same ≡ false
    cases true same = absurd (apart (same_is one other same))
    cases false same = refl

-- ---- one entry more or less

pub slot_with_entry : (shape : Shape) (entries : List IndexEntry) (entry : IndexEntry) → is_rising is_pair_before entries ≡ true
    → entries_in shape (with_pair entry entries) (slot_for shape (pair_of entry)) ≡ with_pair entry (entries_in shape entries (slot_for shape (pair_of entry)))
slot_with_entry shape entries entry rising =
    chosen-with_item pair_of pair_total pair_same (belongs shape (slot_for shape (pair_of entry))) entry entries (sorted_of entries rising) (same_itself (slot_for shape (pair_of entry)))

pub other_with_entry : (shape : Shape) (entries : List IndexEntry) (entry : IndexEntry) (place : Place) → is_rising is_pair_before entries ≡ true → ¬ (place ≡ slot_for shape (pair_of entry))
    → entries_in shape (with_pair entry entries) place ≡ entries_in shape entries place
other_with_entry shape entries entry place rising apart =
    chosen-with_item_other pair_of pair_total pair_same (belongs shape place) entry entries (sorted_of entries rising) (same_not (slot_for shape (pair_of entry)) place apart)

pub slot_without_entry : (shape : Shape) (entries : List IndexEntry) (pair : Pair) (place : Place) → entries_in shape (without_pair pair entries) place ≡ without_pair pair (entries_in shape entries place)
slot_without_entry shape entries pair place = chosen-swap (λ entry. belongs shape place (pair_of entry)) (λ entry. not (is_pair pair (pair_of entry))) entries

pub other_without_entry : (shape : Shape) (entries : List IndexEntry) (pair : Pair) (place : Place) → ¬ (place ≡ slot_for shape pair) → entries_in shape (without_pair pair entries) place ≡ entries_in shape entries place
other_without_entry shape entries pair place apart =
    chosen-chosen (λ entry. belongs shape place (pair_of entry)) (λ entry. not (is_pair pair (pair_of entry))) (λ entry here. keeps entry here (is_pair pair (pair_of entry)) refl) entries
  where
    keeps : (entry : IndexEntry) → belongs shape place (pair_of entry) ≡ true → (same : Bool) → is_pair pair (pair_of entry) ≡ same → not (is_pair pair (pair_of entry)) ≡ true
    keeps entry here true same = absurd (apart (same_is (slot_for shape pair) place (ap (belongs shape place) (pair_is pair (pair_of entry) same) ∙ here)))
    keeps entry here false same = ap not same

-- ---- which entry is found

pub entry_in_slot : (shape : Shape) (entries : List IndexEntry) (pair : Pair) → entry_for (entries_in shape entries (slot_for shape pair)) pair ≡ entry_for entries pair
entry_in_slot shape entries pair =
    item_of-where pair_of pair_total pair_same (belongs shape (slot_for shape pair)) entries pair ∙ ap (λ b. cond b (entry_for entries pair) None) (same_itself (slot_for shape pair))

pub entry_for-with : (entries : List IndexEntry) (entry : IndexEntry) (pair : Pair) → entry_for (with_pair entry entries) pair ≡ cond (eq_by_cmp pair_cmp pair (pair_of entry)) (Some entry) (entry_for entries pair)
entry_for-with entries entry pair = item_of-with_item pair_of pair_total pair_same entry entries pair

pub entry_for-without : (entries : List IndexEntry) (gone pair : Pair) → entry_for (without_pair gone entries) pair ≡ cond (not (is_pair gone pair)) (entry_for entries pair) None
entry_for-without entries gone pair = item_of-where pair_of pair_total pair_same (λ other. not (is_pair gone other)) entries pair

-- ---- what has a spelling

pub holder_in : (shape : Shape) (contents : Contents) (entries : List IndexEntry) (place : Place) → IsIndexed shape contents entries → IsIndexHolder (record { entries = entries_in shape entries place })
holder_in shape contents entries place indexed = record {
  rising = is_rising-where pair_of pair_total pair_same is_pair_before before_is (belongs shape place) entries indexed.rising;
  each = All-filter IndexEntryFits IndexEntryFits (λ entry. belongs shape place (pair_of entry)) (λ _ _ fits. fits) entries indexed.each;
}

pub holder-with_pair : (entry : IndexEntry) (entries : List IndexEntry) → IndexEntryFits entry → IsIndexHolder (record { entries = entries }) → IsIndexHolder (record { entries = with_pair entry entries })
holder-with_pair entry entries fits holder = record {
  rising = is_rising-with_item pair_of pair_total pair_same is_pair_before before_is entry entries holder.rising;
  each = All-with_item pair_of pair_cmp IndexEntryFits entry entries fits holder.each;
}

pub holder-without_pair : (pair : Pair) (entries : List IndexEntry) → IsIndexHolder (record { entries = entries }) → IsIndexHolder (record { entries = without_pair pair entries })
holder-without_pair pair entries holder = record {
  rising = is_rising-where pair_of pair_total pair_same is_pair_before before_is (λ other. not (is_pair pair other)) entries holder.rising;
  each = All-filter IndexEntryFits IndexEntryFits (λ entry. not (is_pair pair (pair_of entry))) (λ _ _ fits. fits) entries holder.each;
}

pub index_same : (one other : IndexHolder) → IsIndexHolder one → IsIndexHolder other → index_words one ≡ index_words other → one ≡ other
index_same one other f g e = some_is one other (sym (index_again one f) ∙ (ap index_of_words e ∙ index_again other g))

-- ---- the slots fix the entries

pub slot_is : (shape : Shape) (pair : Pair) → IsInRange shape → IsSlot shape (slot_for shape pair)
slot_is shape pair ranges =
    let rank = mod_below pair.1 shape.ranks (omega (arith, ranges.ranks)) in
    let block = mod_below (pair.0 + pair.1 / shape.ranks) shape.slots (omega (arith, ranges.slots)) in
    record { rank = rank; block = (omega arith, omega arith) }

pub index_fixes_entries : (shape : Shape) (contents : Contents) (one other : List IndexEntry) → IsInRange shape → IsIndexed shape contents one → IsIndexed shape contents other → one ≡ other
index_fixes_entries shape contents one other ranges a b =
    same_items pair_of pair_total pair_same one other (sorted_of one a.rising) (sorted_of other b.rising) (λ pair.
    let place = slot_for shape pair in
    let is = slot_is shape pair ranges in
    let alike = index_same (record { entries = entries_in shape one place }) (record { entries = entries_in shape other place }) (holder_in shape contents one place a) (holder_in shape contents other place b) (sym (a.slots place is) ∙ b.slots place is) in
    sym (entry_in_slot shape one pair) ∙ (ap (λ (index : IndexHolder). entry_for index.entries pair) alike ∙ entry_in_slot shape other pair))
