-- What a transaction has read stays read.
use Rattle.std.proofs.Common.{◌≡◌, ℕ, Bool, true, false, cond, List, refl, sym, ap, ◌∙◌, Option, Some, None}
use Rattle.std.specs.Prelude.{is_some}
use Rattle.std.specs.Option.{unwrap_or}
use Rattle.std.specs.Ordering.{eq_by_cmp}
use Rattle.rma_layout.specs.Placement.{Place}
use Rattle.object_words.specs.Contents.{Contents, place_cmp, words_at, content_of, with_words, Agrees, IsSameContents}
use Rattle.object_words.proofs.Places.{words_at-with_words, places_equal}

-- also where what is there is read once more
pub stays_read : (reads contents : Contents) (object : Place) (words : List ℕ) → Agrees reads contents → content_of contents object ≡ words
    → (other : Place) (ws : List ℕ) → words_at reads other ≡ Some ws → words_at (with_words reads object words) other ≡ Some ws
stays_read reads contents object words agrees found other ws h = words_at-with_words reads object words other ∙ put_cases (eq_by_cmp place_cmp other object) refl
  where
    put_cases : (tie : Bool) → eq_by_cmp place_cmp other object ≡ tie → cond tie (Some words) (words_at reads other) ≡ Some ws
    put_cases true tie = ap Some (sym found ∙ (sym (ap (content_of contents) (places_equal other object tie)) ∙ agrees other ws h))
    put_cases false tie = h

pub read_stays : (reads writes committed contents : Contents) (object : Place) (words : List ℕ) → Agrees reads contents → IsSameContents committed contents
    → words ≡ unwrap_or (words_at writes object) (content_of committed object)
    → (other : Place) (ws : List ℕ) → words_at reads other ≡ Some ws
    → words_at (cond (is_some (words_at writes object)) reads (with_words reads object words)) other ≡ Some ws
read_stays reads writes committed contents object words agrees same found other ws h = found_cases (words_at writes object) found
  where
    found_cases : (own : Option (List ℕ)) → words ≡ unwrap_or own (content_of committed object) → words_at (cond (is_some own) reads (with_words reads object words)) other ≡ Some ws
    found_cases (Some own) e = h
    found_cases None e = stays_read reads contents object words agrees (sym (same object) ∙ sym e) other ws h
