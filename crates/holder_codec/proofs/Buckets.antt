-- A bucket that is read is spelled so, and one that is spelled so is read.
use Rattle.std.proofs.Common.{◌≡◌, ℕ, ◌*◌, ◌/◌, cond, eqb, List, [], ◌∷◌, ◌++◌, length, Some, None, refl, sym, ap, subst, ◌∙◌, arith}
use Rattle.std.specs.List.{flat_map}
use Rattle.std.proofs.lemmas.Bool.{eqb-true}
use Rattle.std.proofs.lemmas.List.{append-nil, nil_from_length, length-append}
use Rattle.std.proofs.lemmas.List.Concat.{flat_map-cons}
use Rattle.holder_codec.specs.declared.bucket_entry.BucketEntry.{BucketEntry}
use Rattle.holder_codec.specs.declared.bucket_holder.BucketHolder.{BucketHolder}
use Rattle.holder_codec.specs.Reading.{IsWords, ◌>>=◌, number_at, place_at, rising_at, entry_at, bucket_of_words}
use Rattle.holder_codec.specs.Bucket.{entry_words, bucket_words, is_entry_before, EntryFits, IsBucketHolder}
use Rattle.holder_codec.proofs.ReadLaws.{IsWords-rest, bind_some, guard_some, some_is, Reads, parts_then, one_word, numbers, place_words, places, rising_takes, rising_again}

entry_takes : (words : List ℕ) (x : BucketEntry × List ℕ) → IsWords words → entry_at words ≡ Some x → (words ≡ entry_words x.0 ++ x.1) × EntryFits x.0
unfolding entry_at
entry_takes words x fits e =
    let a = bind_some (number_at words) (λ id. place_at id.1 >>= λ at. Some (record { id = id.0; at = at.0 }, at.1)) x e in
    let b = bind_some (place_at a.0.1) (λ at. Some (record { id = a.0.0; at = at.0 }, at.1)) x a.2 in
    let first = numbers.takes words a.0 fits a.1 in
    let second = places.takes a.0.1 b.0 (IsWords-rest words (one_word a.0.0) a.0.1 first.0 fits) b.1 in
    let both = parts_then words (one_word a.0.0) a.0.1 (place_words b.0.0) b.0.1 first.0 second.0 in
    let made : BucketEntry × List ℕ = (record { id = a.0.0; at = b.0.0 }, b.0.1) in
    subst (λ (y : BucketEntry × List ℕ). (words ≡ entry_words y.0 ++ y.1) × EntryFits y.0) (some_is made x b.2) (both, record { id = first.1; at = second.1 })

entry_again : (entry : BucketEntry) (rest : List ℕ) → EntryFits entry → entry_at (entry_words entry ++ rest) ≡ Some (entry, rest)
unfolding entry_at
entry_again entry rest fits = rw (places.again entry.at rest fits.at) refl

pub entries : Reads entry_at entry_words EntryFits
entries = record { takes = entry_takes; again = entry_again }

-- two words an entry
pub length-entries : (xs : List BucketEntry) → length (flat_map entry_words xs) ≡ length xs * 2
length-entries [] = refl
length-entries (x ∷ xs) =
    omega (arith, ap length (flat_map-cons entry_words x xs), length-append (entry_words x) (flat_map entry_words xs), length-entries xs)

pub bucket_takes : (words : List ℕ) (bucket : BucketHolder) → IsWords words → bucket_of_words words ≡ Some bucket → IsBucketHolder bucket × (words ≡ bucket_words bucket)
unfolding bucket_of_words
bucket_takes words bucket fits e =
    let a = bind_some (rising_at entry_at is_entry_before (length words / 2) words) (λ entries. cond (eqb (length entries.1) 0) (Some (record { entries = entries.0 })) None) bucket e in
    let made : BucketHolder = record { entries = a.0.0 } in
    let g = guard_some (eqb (length a.0.1) 0) made bucket a.2 in
    let t = rising_takes entry_at entry_words EntryFits entries is_entry_before (length words / 2) words a.0 fits a.1 in
    let nothing : a.0.1 ≡ [] = nil_from_length a.0.1 (eqb-true _ _ g.0) in
    let whole : words ≡ bucket_words made = t.0 ∙ ap (λ (r : List ℕ). flat_map entry_words a.0.0 ++ r) nothing ∙ append-nil (flat_map entry_words a.0.0) in
    subst (λ (b : BucketHolder). IsBucketHolder b × (words ≡ bucket_words b)) g.1 (record { rising = t.3; each = t.2 }, whole)

pub bucket_again : (bucket : BucketHolder) → IsBucketHolder bucket → bucket_of_words (bucket_words bucket) ≡ Some bucket
unfolding bucket_of_words
bucket_again bucket fits =
    let words = bucket_words bucket in
    let count : length words / 2 ≡ length bucket.entries = omega (arith, length-entries bucket.entries) in
    let read : rising_at entry_at is_entry_before (length words / 2) words ≡ Some (bucket.entries, []) =
    rw count (ap (rising_at entry_at is_entry_before (length bucket.entries)) (sym (append-nil words)) ∙ rising_again entry_at entry_words EntryFits entries is_entry_before bucket.entries [] fits.each fits.rising) in
    rw read refl

-- where none is read, none is spelled so
pub bucket_none : (words : List ℕ) → bucket_of_words words ≡ None → (bucket : BucketHolder) → IsBucketHolder bucket → words ≡ bucket_words bucket → ⊥
bucket_none words none bucket fits e = let again : bucket_of_words words ≡ Some bucket = ap bucket_of_words e ∙ bucket_again bucket fits in cc
