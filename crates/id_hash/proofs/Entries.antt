-- The entries of a bucket, where an identifier leads to an object, leads to it too, or leads nowhere.
use Rattle.std.proofs.Common.{◌≡◌, ℕ, Bool, true, false, not, eqb, map, length, Option, Some, None, refl, sym, ap, ◌∙◌, eq-eqb, eqb-true}
use Rattle.std.specs.List.{filter, count_by}
use Rattle.std.specs.Option.{option_map}
use Rattle.std.specs.Ordering.{nat_cmp}
use Rattle.std.specs.Cmp.{nat_cmp_total}
use Rattle.std.specs.FinMap.{nat_cmp-IsAntisymmetric}
use Rattle.std.proofs.lemmas.Bool.{and_parts, and_from}
use Rattle.std.proofs.lemmas.List.{length-map}
use Rattle.std.proofs.lemmas.List.Sums.{length-filter}
use Rattle.rma_layout.specs.Shape.{Shape}
use Rattle.rma_layout.specs.Placement.{Place, same_place, bucket_of}
use Rattle.graph_model.specs.Maps.{IsMap, at, with_at, without}
use Rattle.rising_lists.proofs.Rising.{to_T}
use Rattle.rising_lists.proofs.Chosen.{chosen-put, chosen-put_other, chosen-chosen, chosen-swap, item_of-made, with_item-made, chosen-made}
use Rattle.holder_codec.specs.declared.bucket_entry.BucketEntry.{BucketEntry}
use Rattle.holder_codec.specs.Represents.{VertexObjects, entries_of}
use Rattle.holder_codec.proofs.Leading.{find-entries}
use Rattle.id_hash.specs.Entries.{id_of, entry_for, with_entry, without_entry}

abbrev made : ℕ × Place → BucketEntry
made entry = record { id = entry.0; at = entry.1 }

abbrev is_of_bucket : Shape → Place → ℕ × Place → Bool
is_of_bucket shape place entry = same_place (bucket_of shape entry.0) place

is_of_own_bucket : (shape : Shape) (id : ℕ) → same_place (bucket_of shape id) (bucket_of shape id) ≡ true
is_of_own_bucket shape id =
    let place = bucket_of shape id in
    and_from (eqb place.rank place.rank) (eqb place.block place.block) (eq-eqb place.rank place.rank refl) (eq-eqb place.block place.block refl)

is_of_other_bucket : (one other : Place) → ¬ (other ≡ one) → same_place one other ≡ false
is_of_other_bucket one other apart =
    elim (same_place one other) as (λ b. same_place one other ≡ b → b ≡ false) [
      | true ↦ λ same.
          let parts = and_parts (eqb one.rank other.rank) (eqb one.block other.block) same in
          absurd (apart (λ i. record { rank = sym (eqb-true one.rank other.rank parts.0) i; block = sym (eqb-true one.block other.block parts.1) i }))
      | false ↦ λ _. refl
    ] refl

-- the entry of an identifier has the object to which it leads
pub entry_for-entries : (shape : Shape) (vertices : VertexObjects) (id : ℕ)
    → option_map (λ entry. entry.at) (entry_for (entries_of shape vertices (bucket_of shape id)) id) ≡ at vertices id
entry_for-entries shape vertices id =
    item_of-made id_of nat_cmp-IsAntisymmetric made (λ _. refl) (λ entry. entry.at) (λ _. refl) id (filter (is_of_bucket shape (bucket_of shape id)) vertices)
    ∙ sym (find-entries shape vertices id)

none_from_map : (o : Option BucketEntry) → option_map (λ entry. entry.at) o ≡ None → o ≡ None
none_from_map (Some entry) none = absurd cc
none_from_map None none = refl

pub none-entries : (shape : Shape) (vertices : VertexObjects) (id : ℕ) → at vertices id ≡ None → entry_for (entries_of shape vertices (bucket_of shape id)) id ≡ None
none-entries shape vertices id none =
    none_from_map (entry_for (entries_of shape vertices (bucket_of shape id)) id) (entry_for-entries shape vertices id ∙ none)

pub entries-with_at : (shape : Shape) (vertices : VertexObjects) (id : ℕ) (object : Place) → IsMap nat_cmp vertices
    → entries_of shape (with_at vertices id object) (bucket_of shape id) ≡ with_entry (record { id = id; at = object }) (entries_of shape vertices (bucket_of shape id))
entries-with_at shape vertices id object rising =
    let place = bucket_of shape id in
    ap (map made) (chosen-put nat_cmp_total nat_cmp-IsAntisymmetric (λ k. same_place (bucket_of shape k) place) id object vertices (to_T _ rising) (is_of_own_bucket shape id))
    ∙ with_item-made id_of nat_cmp-IsAntisymmetric made (λ _. refl) id object (filter (is_of_bucket shape place) vertices)

pub entries-without : (shape : Shape) (vertices : VertexObjects) (id : ℕ)
    → entries_of shape (without vertices id) (bucket_of shape id) ≡ without_entry id (entries_of shape vertices (bucket_of shape id))
entries-without shape vertices id =
    let place = bucket_of shape id in
    ap (map made) (chosen-swap (is_of_bucket shape place) (λ entry. not (eqb entry.0 id)) vertices)
    ∙ chosen-made id_of nat_cmp-IsAntisymmetric made (λ _. refl) (λ k. not (eqb k id)) (filter (is_of_bucket shape place) vertices)

pub other_entries-with_at : (shape : Shape) (vertices : VertexObjects) (id : ℕ) (object place : Place) → ¬ (place ≡ bucket_of shape id) → IsMap nat_cmp vertices
    → entries_of shape (with_at vertices id object) place ≡ entries_of shape vertices place
other_entries-with_at shape vertices id object place apart rising =
    ap (map made) (chosen-put_other nat_cmp_total nat_cmp-IsAntisymmetric (λ k. same_place (bucket_of shape k) place) id object vertices (to_T _ rising) (is_of_other_bucket (bucket_of shape id) place apart))

pub other_entries-without : (shape : Shape) (vertices : VertexObjects) (id : ℕ) (place : Place) → ¬ (place ≡ bucket_of shape id)
    → entries_of shape (without vertices id) place ≡ entries_of shape vertices place
other_entries-without shape vertices id place apart =
    ap (map made) (chosen-chosen (is_of_bucket shape place) (λ entry. not (eqb entry.0 id)) (λ entry here. keeps entry here (eqb entry.0 id) refl) vertices)
  where
    keeps : (entry : ℕ × Place) → is_of_bucket shape place entry ≡ true → (tie : Bool) → eqb entry.0 id ≡ tie → not (eqb entry.0 id) ≡ true
    keeps entry here true tie =
        let own = ap (λ k. same_place (bucket_of shape k) place) (sym (eqb-true entry.0 id tie)) ∙ here in
        absurd (cc (own, is_of_other_bucket (bucket_of shape id) place apart))
    keeps entry here false tie = ap not tie

pub length-entries_of : (shape : Shape) (vertices : VertexObjects) (place : Place)
    → length (entries_of shape vertices place) ≡ count_by (λ entry. same_place (bucket_of shape entry.0) place) vertices
length-entries_of shape vertices place =
    length-map (filter (is_of_bucket shape place) vertices) made ∙ length-filter (is_of_bucket shape place) vertices
