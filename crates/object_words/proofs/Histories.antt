-- Histories that grow by one entry.
use Rattle.std.proofs.Common.{◌≡◌, zero, suc, Bool, true, List, [], ◌∷◌, ◌++◌, refl, arith}
use Rattle.std.specs.List.{All}
use Rattle.std.proofs.lemmas.List.Elements.{All-append}
use Rattle.rma_layout.specs.Shape.{Shape}
use Rattle.object_words.specs.Contents.{Contents, Agrees, overlay}
use Rattle.object_words.specs.Entries.{Entry, EachEntry, HasBlocksOnEach, HasMaps, IsLegalHistory, contents_after, store_after}

pub contents_after-push : {N : Type 0} (contents : Contents) (history : List (Entry N)) (one : Entry N)
    → contents_after contents (history ++ one ∷ []) ≡ overlay (contents_after contents history) one.writes
contents_after-push contents [] one = refl
contents_after-push contents (first ∷ more) one = contents_after-push (overlay contents first.writes) more one

pub EachEntry-push : {N : Type 0} (Holds : Contents → Entry N → Type 0) (contents : Contents) (history : List (Entry N)) (one : Entry N)
    → EachEntry Holds contents history → Holds (contents_after contents history) one → EachEntry Holds contents (history ++ one ∷ [])
EachEntry-push Holds contents [] one h last = (last, tt)
EachEntry-push Holds contents (first ∷ more) one h last = (h.0, EachEntry-push Holds (overlay contents first.writes) more one h.1 last)

pub All-one : {X : Type 0} (P : X → Type 0) (x : X) → P x → All P (x ∷ [])
All-one P x h zero d k = h
All-one P x h (suc n) d k = absurd (omega arith)

pub legal-push : {N : Type 0} (counts_blocks : Bool) (shape : Shape) (history : List (Entry N)) (one : Entry N) → IsLegalHistory counts_blocks shape history
    → HasMaps one → Agrees one.reads (store_after history) → (counts_blocks ≡ true → HasBlocksOnEach shape (store_after history) one.writes)
    → IsLegalHistory counts_blocks shape (history ++ one ∷ [])
legal-push counts_blocks shape history one legal maps agrees blocks = record {
  maps = All-append HasMaps history (one ∷ []) legal.maps (All-one HasMaps one maps);
  reads = EachEntry-push (λ contents entry. Agrees entry.reads contents) [] history one legal.reads agrees;
  blocks = λ counted. EachEntry-push (λ contents entry. HasBlocksOnEach shape contents entry.writes) [] history one (legal.blocks counted) (blocks counted);
}
