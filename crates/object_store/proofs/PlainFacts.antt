-- What a plain store keeps.
use Rattle.std.proofs.Common.{◌≡◌, ℕ, Bool, true, false, cond, List, refl, sym, ap, ◌∙◌, subst, Option, Some, None, Result, Ok, Err, OnOk, OnErr, IfOk, ◌⊎◌, inl, inr}
use Rattle.std.specs.Prelude.{is_some, if◌then◌else◌}
use Rattle.std.specs.Option.{unwrap_or}
use Rattle.std.specs.Ordering.{eq_by_cmp}
use Rattle.rma_layout.specs.Placement.{Place}
use Rattle.object_words.specs.Contents.{Contents, place_cmp, words_at, content_of, with_words, Agrees, IsByRisingObject}
use Rattle.object_words.proofs.Places.{words_at-with_words, places_equal, in_order-with_words}
use Rattle.gdi_kinds.specs.declared.no_memory.NoMemory.{NoMemory}
use Rattle.object_store.specs.declared.transaction.Transaction.{Transaction}
use Rattle.object_store.proofs.Holding.{by_result, held_once_put}

same_some : {A : Type 0} (x y : A) → Some x ≡ Some y → x ≡ y
same_some x y e = cc e

agree_cases : (b : Bool) (words found : List ℕ) (under : Option (List ℕ)) {C : Type 0}
    → cond b (Some words) under ≡ Some found → (b ≡ true → words ≡ found → C) → (under ≡ Some found → C) → C
agree_cases true words found under h here rest = here refl (same_some words found h)
agree_cases false words found under h here rest = rest h

-- what is read as it is committed agrees
pub agrees-with_words : (reads contents : Contents) (object : Place) (words : List ℕ) → Agrees reads contents → content_of contents object ≡ words
    → Agrees (with_words reads object words) contents
agrees-with_words reads contents object words agrees is other found h =
    agree_cases (eq_by_cmp place_cmp other object) words found (words_at reads other) {C = content_of contents other ≡ found}
    (sym (words_at-with_words reads object words other) ∙ h)
    (λ tie same. ap (content_of contents) (places_equal other object tie) ∙ (is ∙ same))
    (λ before. agrees other found before)

-- the reads of a transaction that reads an object, where it wrote none to it
pub agrees-read : (b : Bool) (reads new contents : Contents) (object : Place) (words : List ℕ) → Agrees reads contents
    → (b ≡ false → content_of contents object ≡ words) → new ≡ (if b then reads else with_words reads object words) → Agrees new contents
agrees-read true reads new contents object words agrees is e = subst (λ (r : Contents). Agrees r contents) (sym e) agrees
agrees-read false reads new contents object words agrees is e = subst (λ (r : Contents). Agrees r contents) (sym e) (agrees-with_words reads contents object words agrees (is refl))

pub in_order-read : (b : Bool) (reads new : Contents) (object : Place) (words : List ℕ) → IsByRisingObject reads
    → new ≡ (if b then reads else with_words reads object words) → IsByRisingObject new
in_order-read true reads new object words h e = subst IsByRisingObject (sym e) h
in_order-read false reads new object words h e = subst IsByRisingObject (sym e) (in_order-with_words reads object words h)

-- the words found where none were written
pub found_committed : (written : Option (List ℕ)) (committed words : List ℕ) → words ≡ unwrap_or written committed → is_some written ≡ false → committed ≡ words
found_committed None committed words e h = sym e
found_committed (Some w) committed words e h = absurd (cc h)

-- contents that may have got words at an object
abbrev pub MayHavePut : Contents → Contents → Place → List ℕ → Type 0
MayHavePut old new object words = (new ≡ old) ⊎ (new ≡ with_words old object words)

pub may_have_put : (result : Result (Unit {0}) NoMemory) (old new : Contents) (object : Place) (words : List ℕ)
    → OnOk result (new ≡ with_words old object words) → OnErr result (new ≡ old) → MayHavePut old new object words
may_have_put result old new object words ok err = by_result result ok err (λ is. inr is) (λ is. inl is)

pub in_order-put : (old new : Contents) (object : Place) (words : List ℕ) → MayHavePut old new object words → IsByRisingObject old → IsByRisingObject new
in_order-put old new object words (inl is) h = subst IsByRisingObject (sym is) h
in_order-put old new object words (inr is) h = subst IsByRisingObject (sym is) (in_order-with_words old object words h)

pub held-put : (contents old new : Contents) (object : Place) (words : List ℕ) → MayHavePut old new object words
    → ((other : Place) → is_some (words_at old other) ≡ true → is_some (words_at contents other) ≡ true)
    → is_some (words_at contents object) ≡ true
    → (other : Place) → is_some (words_at new other) ≡ true → is_some (words_at contents other) ≡ true
held-put contents old new object words (inl is) held here other h = held other (ap (λ w. is_some (words_at w other)) (sym is) ∙ h)
held-put contents old new object words (inr is) held here other h =
    held_once_put contents old object words held here other (ap (λ w. is_some (words_at w other)) (sym is) ∙ h)

pub agrees-put : (contents old new : Contents) (object : Place) (words : List ℕ) → MayHavePut old new object words → Agrees old contents
    → content_of contents object ≡ words → Agrees new contents
agrees-put contents old new object words (inl is) h here = subst (λ (r : Contents). Agrees r contents) (sym is) h
agrees-put contents old new object words (inr is) h here = subst (λ (r : Contents). Agrees r contents) (sym is) (agrees-with_words old contents object words h here)

-- the same of the answer of a read, whether it is refused or not
pub agrees-answer : (result : Result (List ℕ) NoMemory) (old new : Transaction) (committed contents : Contents) (object : Place)
    → IfOk result (λ words. words ≡ unwrap_or (words_at old.writes object) (content_of committed object))
    → IfOk result (λ words. new.reads ≡ (if is_some (words_at old.writes object) then old.reads else with_words old.reads object words))
    → OnErr result (new ≡ old) → content_of committed object ≡ content_of contents object → Agrees old.reads contents → Agrees new.reads contents
agrees-answer (Ok words) old new committed contents object found reads err same h =
    agrees-read (is_some (words_at old.writes object)) old.reads new.reads contents object words h
    (λ unwritten. sym same ∙ found_committed (words_at old.writes object) (content_of committed object) words found unwritten) reads
agrees-answer (Err none) old new committed contents object found reads err same h = subst (λ (t : Transaction). Agrees t.reads contents) (sym err) h

pub in_order-answer : (result : Result (List ℕ) NoMemory) (old new : Transaction) (object : Place)
    → IfOk result (λ words. new.reads ≡ (if is_some (words_at old.writes object) then old.reads else with_words old.reads object words))
    → OnErr result (new ≡ old) → IsByRisingObject old.reads → IsByRisingObject new.reads
in_order-answer (Ok words) old new object reads err h = in_order-read (is_some (words_at old.writes object)) old.reads new.reads object words h reads
in_order-answer (Err none) old new object reads err h = subst (λ (t : Transaction). IsByRisingObject t.reads) (sym err) h
