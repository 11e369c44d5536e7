-- An object of the index that is read is spelled so, and one that is spelled so is read.
use Rattle.std.proofs.Common.{◌≡◌, ℕ, ◌*◌, ◌/◌, cond, eqb, List, [], ◌∷◌, ◌++◌, length, Some, None, refl, sym, ap, subst, ◌∙◌, arith}
use Rattle.std.specs.List.{flat_map}
use Rattle.std.proofs.lemmas.Bool.{eqb-true}
use Rattle.std.proofs.lemmas.List.{append-nil, nil_from_length, length-append}
use Rattle.std.proofs.lemmas.List.Concat.{flat_map-cons}
use Rattle.holder_codec.specs.declared.index_entry.IndexEntry.{IndexEntry}
use Rattle.holder_codec.specs.declared.index_holder.IndexHolder.{IndexHolder}
use Rattle.holder_codec.specs.Reading.{IsWords, ◌>>=◌, number_at, label_at, rising_at, pair_at, index_of_words}
use Rattle.holder_codec.specs.Index.{index_entry_words, index_words, is_pair_before, IndexEntryFits, IsIndexHolder}
use Rattle.holder_codec.specs.Vertex.{label_words}
use Rattle.holder_codec.proofs.VertexLaws.{labels}
use Rattle.holder_codec.proofs.ReadLaws.{IsWords-rest, bind_some, guard_some, some_is, Reads, parts_then, one_word, numbers, rising_takes, rising_again}

pair_takes : (words : List ℕ) (x : IndexEntry × List ℕ) → IsWords words → pair_at words ≡ Some x → (words ≡ index_entry_words x.0 ++ x.1) × IndexEntryFits x.0
unfolding pair_at
pair_takes words x fits e =
    let a = bind_some (label_at words) (λ label. number_at label.1 >>= λ id. Some (record { label = label.0; id = id.0 }, id.1)) x e in
    let b = bind_some (number_at a.0.1) (λ id. Some (record { label = a.0.0; id = id.0 }, id.1)) x a.2 in
    let first = labels.takes words a.0 fits a.1 in
    let second = numbers.takes a.0.1 b.0 (IsWords-rest words (label_words a.0.0) a.0.1 first.0 fits) b.1 in
    let both = parts_then words (label_words a.0.0) a.0.1 (one_word b.0.0) b.0.1 first.0 second.0 in
    let made : IndexEntry × List ℕ = (record { label = a.0.0; id = b.0.0 }, b.0.1) in
    subst (λ (y : IndexEntry × List ℕ). (words ≡ index_entry_words y.0 ++ y.1) × IndexEntryFits y.0) (some_is made x b.2) (both, record { label = first.1; id = second.1 })

pair_again : (entry : IndexEntry) (rest : List ℕ) → IndexEntryFits entry → pair_at (index_entry_words entry ++ rest) ≡ Some (entry, rest)
unfolding pair_at
pair_again entry rest fits = rw (labels.again entry.label (entry.id ∷ rest) fits.label) refl

pub pairs : Reads pair_at index_entry_words IndexEntryFits
pairs = record { takes = pair_takes; again = pair_again }

-- two words an entry
pub length-pairs : (xs : List IndexEntry) → length (flat_map index_entry_words xs) ≡ length xs * 2
length-pairs [] = refl
length-pairs (x ∷ xs) =
    omega (arith, ap length (flat_map-cons index_entry_words x xs), length-append (index_entry_words x) (flat_map index_entry_words xs), length-pairs xs)

pub index_takes : (words : List ℕ) (index : IndexHolder) → IsWords words → index_of_words words ≡ Some index → IsIndexHolder index × (words ≡ index_words index)
unfolding index_of_words
index_takes words index fits e =
    let a = bind_some (rising_at pair_at is_pair_before (length words / 2) words) (λ entries. cond (eqb (length entries.1) 0) (Some (record { entries = entries.0 })) None) index e in
    let made : IndexHolder = record { entries = a.0.0 } in
    let g = guard_some (eqb (length a.0.1) 0) made index a.2 in
    let t = rising_takes pair_at index_entry_words IndexEntryFits pairs is_pair_before (length words / 2) words a.0 fits a.1 in
    let nothing : a.0.1 ≡ [] = nil_from_length a.0.1 (eqb-true _ _ g.0) in
    let whole : words ≡ index_words made = t.0 ∙ ap (λ (r : List ℕ). flat_map index_entry_words a.0.0 ++ r) nothing ∙ append-nil (flat_map index_entry_words a.0.0) in
    subst (λ (b : IndexHolder). IsIndexHolder b × (words ≡ index_words b)) g.1 (record { rising = t.3; each = t.2 }, whole)

pub index_again : (index : IndexHolder) → IsIndexHolder index → index_of_words (index_words index) ≡ Some index
unfolding index_of_words
index_again index fits =
    let words = index_words index in
    let count : length words / 2 ≡ length index.entries = omega (arith, length-pairs index.entries) in
    let read : rising_at pair_at is_pair_before (length words / 2) words ≡ Some (index.entries, []) =
    rw count (ap (rising_at pair_at is_pair_before (length index.entries)) (sym (append-nil words)) ∙ rising_again pair_at index_entry_words IndexEntryFits pairs is_pair_before index.entries [] fits.each fits.rising) in
    rw read refl

-- where none is read, none is spelled so
pub index_none : (words : List ℕ) → index_of_words words ≡ None → (index : IndexHolder) → IsIndexHolder index → words ≡ index_words index → ⊥
index_none words none index fits e = let again : index_of_words words ≡ Some index = ap index_of_words e ∙ index_again index fits in cc
