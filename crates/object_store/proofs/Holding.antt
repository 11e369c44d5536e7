-- Objects at which words stand, be they none.
use Rattle.std.proofs.Common.{◌≡◌, ℕ, Bool, true, false, cond, List, [], ◌∷◌, refl, sym, ap, ◌∙◌, Option, Some, None, Result, Ok, Err, OnOk, OnErr}
use Rattle.std.specs.Prelude.{is_some}
use Rattle.std.specs.Option.{unwrap_or}
use Rattle.std.specs.Ordering.{eq_by_cmp}
use Rattle.rma_layout.specs.Placement.{Place}
use Rattle.object_words.specs.Contents.{Contents, place_cmp, words_at, content_of, with_words, overlay}
use Rattle.object_words.proofs.Places.{words_at-with_words, places_equal, place_ties_itself}
use Rattle.object_words.proofs.Overlays.{content-with_words}

-- what follows either way
pub by_result : {T E A B C : Type 0} (result : Result T E) → OnOk result A → OnErr result B → (A → C) → (B → C) → C
by_result (Ok x) a b f g = f a
by_result (Err x) a b f g = g b

pub nothing_there : (words : Option (List ℕ)) → is_some words ≡ false → unwrap_or words [] ≡ []
nothing_there None h = refl
nothing_there (Some words) h = absurd (cc h)

same_cases : (b : Bool) (words : List ℕ) → (b ≡ true → words ≡ []) → cond b [] words ≡ words
same_cases true words h = sym (h refl)
same_cases false words h = refl

-- to put no words where none stand changes no content
pub same_held : (contents : Contents) (object other : Place) → is_some (words_at contents object) ≡ false
    → content_of (with_words contents object []) other ≡ content_of contents other
same_held contents object other absent =
    content-with_words contents object [] other
    ∙ same_cases (eq_by_cmp place_cmp other object) (content_of contents other)
    (λ tie. ap (content_of contents) (places_equal other object tie) ∙ nothing_there (words_at contents object) absent)

some_cases : (b : Bool) (over under : Option (List ℕ)) → is_some over ≡ true → is_some under ≡ true → is_some (cond b over under) ≡ true
some_cases true over under h k = h
some_cases false over under h k = k

-- what stood there stands there still
pub held_still : (contents : Contents) (object : Place) (words : List ℕ) (other : Place) → is_some (words_at contents other) ≡ true
    → is_some (words_at (with_words contents object words) other) ≡ true
held_still contents object words other h =
    ap is_some (words_at-with_words contents object words other)
    ∙ some_cases (eq_by_cmp place_cmp other object) (Some words) (words_at contents other) refl h

-- what stands among the rest stands among all
pub held_behind : (one : Place × List ℕ) (more : Contents) (object : Place) → is_some (words_at more object) ≡ true → is_some (words_at (one ∷ more) object) ≡ true
held_behind one more object h = some_cases (eq_by_cmp place_cmp object one.0) (Some one.1) (words_at more object) refl h

pub held_first : (one : Place × List ℕ) (more : Contents) → is_some (words_at (one ∷ more) one.0) ≡ true
held_first one more = ap (λ b. is_some (cond b (Some one.1) (words_at more one.0))) (place_ties_itself one.0)

-- where words stand beforehand, or are put just now, they stand
pub held_once_put : (contents writes : Contents) (object : Place) (words : List ℕ)
    → ((other : Place) → is_some (words_at writes other) ≡ true → is_some (words_at contents other) ≡ true)
    → is_some (words_at contents object) ≡ true
    → (other : Place) → is_some (words_at (with_words writes object words) other) ≡ true → is_some (words_at contents other) ≡ true
held_once_put contents writes object words held here other h =
    put_cases (eq_by_cmp place_cmp other object) (words_at writes other)
    (ap is_some (sym (words_at-with_words writes object words other)) ∙ h)
    (λ tie. ap (λ place. is_some (words_at contents place)) (places_equal other object tie) ∙ here) (held other)
  where
    put_cases : (b : Bool) (under : Option (List ℕ)) → is_some (cond b (Some words) under) ≡ true
        → (b ≡ true → is_some (words_at contents other) ≡ true) → (is_some under ≡ true → is_some (words_at contents other) ≡ true)
        → is_some (words_at contents other) ≡ true
    put_cases true under h tie rest = tie refl
    put_cases false under h tie rest = rest h

-- one step of putting others over these: the first of the others is put, and the rest is left
pub absorb_whole : (these next others rest whole : Contents) (object : Place) (words : List ℕ)
    → others ≡ (object, words) ∷ rest → next ≡ with_words these object words → overlay these others ≡ whole → overlay next rest ≡ whole
absorb_whole these next others rest whole object words e o h = ap (λ contents. overlay contents rest) o ∙ (sym (ap (overlay these) e) ∙ h)

pub absorb_held : (these next others rest : Contents) (object : Place) (words : List ℕ)
    → others ≡ (object, words) ∷ rest → next ≡ with_words these object words
    → ((other : Place) → is_some (words_at others other) ≡ true → is_some (words_at these other) ≡ true)
    → (other : Place) → is_some (words_at rest other) ≡ true → is_some (words_at next other) ≡ true
absorb_held these next others rest object words e o held other h =
    ap (λ contents. is_some (words_at contents other)) o
    ∙ held_still these object words other (held other (ap (λ contents. is_some (words_at contents other)) e ∙ held_behind (object, words) rest other h))
