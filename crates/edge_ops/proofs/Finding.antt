-- What is read of two vertices, one after the other.
use Rattle.std.proofs.Common.{◌≡◌, ◌≢◌, ◌∙◌, ℕ, true, false, cond, List, [], Option, Some, None, IsSome, refl, sym, ap, subst, inl, inr, arith}
use Rattle.std.specs.Option.{unwrap_or, MatchOption}
use Rattle.std.specs.Ordering.{eq_by_cmp}
use Rattle.rma_layout.specs.Shape.{Shape}
use Rattle.rma_layout.specs.Ranges.{IsInRange}
use Rattle.rma_layout.specs.Placement.{FitsOneWord, IsBlock, IsReserved, Place}
use Rattle.object_words.specs.Contents.{Contents, Agrees, IsByRisingObject, content_of, place_cmp, words_at, with_words, overlay}
use Rattle.object_words.proofs.Places.{words_at-with_words}
use Rattle.object_store.specs.State.{StoreState, committed}
use Rattle.object_store.specs.Calls.{MayWrite, WritesObject}
use Rattle.object_store.specs.Works.{Looks}
use Rattle.object_store.proofs.Works.{looks-then}
use Rattle.holder_codec.specs.declared.vertex_holder.VertexHolder.{VertexHolder}
use Rattle.holder_codec.specs.Knowing.{MayBeAt}
use Rattle.holder_codec.specs.Vertex.{IsVertexHolder, vertex_words}
use Rattle.holder_codec.proofs.Lengths.{vertex_same}
use Rattle.held_objects.specs.Held.{FindsHolder}
use Rattle.held_objects.proofs.Changes.{may_write}
use Rattle.vertex_ops.specs.Vertices.{HeldVertex, HoldsVertex, holder_for}
use Rattle.vertex_ops.proofs.LabelSets.{some_words}
use Rattle.edge_ops.specs.declared.ends.Ends.{Ends}
use Rattle.edge_ops.specs.Ending.{AreHolders, FindsBeside, FindsEnds}

still_read : (reads later : Contents) (object : Place) (words : List ℕ) → words ≢ [] → ((ws : List ℕ) → words_at reads object ≡ Some ws → words_at later object ≡ Some ws)
    → content_of reads object ≡ words → content_of later object ≡ words
still_read reads later object words some stays here = cases (words_at reads object) refl here
  where
    cases : (o : Option (List ℕ)) → words_at reads object ≡ o → unwrap_or o [] ≡ words → content_of later object ≡ words
    cases (Some ws) is here = ap (λ o. unwrap_or o []) (stays ws is) ∙ here
    cases None is empty = absurd (some (sym empty))

module _ {N : Type 0} {H : Type 0} {IsHolder : H → Type 0} {words_of : H → List ℕ} {object : Place} {old mid new : StoreState N} {held : H} where
  -- what was found is there while the transaction looks on
  pub find_later : words_of held ≢ [] → FindsHolder IsHolder words_of object old mid held → Looks mid new → MayBeAt new.shape new.reads (committed new) → FindsHolder IsHolder words_of object old new held
  find_later some found looks stands = record {
    looks = looks-then found.looks looks;
    ranges = found.ranges;
    in_order = found.in_order;
    stands = stands;
    is = found.is;
    words = λ contents agrees. found.words contents (λ place words is. agrees place words (looks.stays.reads place words is));
    there = elim found.there [
      | inl own ↦ inl (subst (λ (w : Contents). IsSome (words_at w object)) (sym looks.writes) own)
      | inr here ↦ inr (still_read mid.reads new.reads object (words_of held) some (λ ws is. looks.stays.reads object ws is) here)
    ];
  }

  -- what is found after the transaction looked is found from before on
  pub find_earlier : Looks old mid → FindsHolder IsHolder words_of object mid new held → FindsHolder IsHolder words_of object old new held
  find_earlier looks found = record {
    looks = looks-then looks found.looks;
    ranges = subst IsInRange looks.stays.shape found.ranges;
    in_order = subst IsByRisingObject looks.writes found.in_order;
    stands = found.stands;
    is = found.is;
    words = λ contents agrees. ap (λ (w : Contents). content_of (overlay contents w) object) (sym looks.writes) ∙ found.words contents agrees;
    there = found.there;
  }

module _ {N : Type 0} {source target : Place} {old mid new : StoreState N} where
  pub ends_found : {from : VertexHolder} {ends : Ends} → FindsHolder IsVertexHolder vertex_words source old mid from → FindsBeside source target from mid new ends → FindsEnds source target old new ends
  ends_found {from} {ends} found beside = both ends.target refl beside.found
    where
      both : (to : Option VertexHolder) → ends.target ≡ to → MatchOption to ((source ≡ target) × (new ≡ mid)) (λ h. (source ≢ target) × FindsHolder IsVertexHolder vertex_words target mid new h) → FindsEnds source target old new ends
      both None is loop =
          let at_source : FindsHolder IsVertexHolder vertex_words source old new ends.source =
          subst (λ (h : VertexHolder). FindsHolder IsVertexHolder vertex_words source old new h) (sym beside.source_is) (subst (λ (s : StoreState N). FindsHolder IsVertexHolder vertex_words source old s from) (sym loop.1) found) in
          record {
            are_of = subst (λ (o : Option VertexHolder). MatchOption o (source ≡ target) (λ _. source ≢ target)) (sym is) loop.0;
            source_found = at_source;
            target_found = subst (λ (o : Option VertexHolder). FindsHolder IsVertexHolder vertex_words target old new (unwrap_or o ends.source)) (sym is)
                (subst (λ (place : Place). FindsHolder IsVertexHolder vertex_words place old new ends.source) loop.0 at_source);
          }
      both (Some to) is other = record {
        are_of = subst (λ (o : Option VertexHolder). MatchOption o (source ≡ target) (λ _. source ≢ target)) (sym is) other.0;
        source_found = subst (λ (h : VertexHolder). FindsHolder IsVertexHolder vertex_words source old new h) (sym beside.source_is) (find_later (some_words from) found other.1.looks other.1.stands);
        target_found = subst (λ (o : Option VertexHolder). FindsHolder IsVertexHolder vertex_words target old new (unwrap_or o ends.source)) (sym is) (find_earlier found.looks other.1);
      }

-- what was found is the holder of whatever vertex is there
pub found_is : {N : Type 0} {object : Place} {old new : StoreState N} {holder : VertexHolder} → FindsHolder IsVertexHolder vertex_words object old new holder
    → (store : Contents) (held : HeldVertex) → Agrees new.reads store → HoldsVertex object (overlay store old.writes) held → holder ≡ holder_for held
found_is {holder = holder} found store held agrees has = vertex_same holder (holder_for held) found.is has.holder (sym (found.words store agrees) ∙ has.words)

pub may_write_found : {N : Type 0} {object : Place} {old new : StoreState N} {holder : VertexHolder} → FindsHolder IsVertexHolder vertex_words object old new holder → MayWrite new object
may_write_found {holder = holder} found = may_write (some_words holder) found

pub holders_found : {N : Type 0} {source target : Place} {old new : StoreState N} {ends : Ends} → FindsEnds source target old new ends → AreHolders ends
holders_found {ends = ends} found = record { source = found.source_found.is; target = cases ends.target found.target_found.is }
  where
    cases : (to : Option VertexHolder) → IsVertexHolder (unwrap_or to ends.source) → MatchOption to (Unit {0}) IsVertexHolder
    cases None is = tt
    cases (Some to) is = is

pub fits_one_word : {shape : Shape} {place : Place} → IsInRange shape → IsBlock shape place → FitsOneWord place
fits_one_word ranges is = (omega (arith, ranges.ranks), omega (arith, ranges.blocks))

-- what may be written may be written once another object was
pub may_write_still : {N : Type 0} (object : Place) {other : Place} {words : List ℕ} {old new : StoreState N} → WritesObject other words old new → MayWrite old object → MayWrite new object
may_write_still object {other} {words} {old} {new} wrote may = elim may [
  | inl reserved ↦ inl (subst (λ (shape : Shape). IsReserved shape object.block) (sym wrote.stays.shape) reserved)
  | inr more ↦ elim more [
    | inl own ↦ inr (inl (subst (λ (w : Contents). IsSome (words_at w object)) (sym wrote.writes) (own_still own)))
    | inr some ↦ inr (inr (subst (λ (r : Contents). content_of r object ≢ []) (sym wrote.reads) some))
  ]
]
  where
    own_still : IsSome (words_at old.writes object) → IsSome (words_at (with_words old.writes other words) object)
    own_still own =
        subst IsSome (sym (words_at-with_words old.writes other words object))
        (elim (eq_by_cmp place_cmp object other) as (λ b. IsSome (cond b (Some words) (words_at old.writes object))) [ true ↦ refl | false ↦ own ])
