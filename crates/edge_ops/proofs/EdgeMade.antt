-- An edge that was just made is an edge from its source.
use Rattle.std.proofs.Common.{◌≡◌, ◌∙◌, ℕ, Bool, true, false, cond, List, [], ◌∷◌, Option, Some, None, refl, sym, ap}
use Rattle.std.specs.Int.{from_bool}
use Rattle.std.specs.Ordering.{eq_by_cmp, is_eq}
use Rattle.std.specs.Cmp.{tied_itself}
use Rattle.rma_layout.specs.Shape.{Shape}
use Rattle.rma_layout.specs.Placement.{IsBlock, Place, same_place}
use Rattle.object_words.specs.Contents.{Contents}
use Rattle.graph_model.specs.Graph.{Edge}
use Rattle.holder_codec.specs.declared.edge_record.EdgeRecord.{EdgeRecord}
use Rattle.rising_lists.proofs.Rising.{item_of-with_item}
use Rattle.vertex_ops.specs.Vertices.{HeldVertex}
use Rattle.edge_ops.specs.Ends.{HeldEnds, HoldsEnds, into_of, labels_of, out_of, with_edge, with_in, with_out}
use Rattle.edge_ops.specs.HeldEdges.{HeldEdge, HeldOut, HoldsOut, in_key, out_key}
use Rattle.edge_ops.specs.Records.{Key, key_of, key_cmp, record_for, with_record}
use Rattle.edge_ops.proofs.Keys.{key_total, key_same}
use Rattle.edge_ops.proofs.EndsWritten.{same_itself}

pub record_for-with : (edge : EdgeRecord) (es : List EdgeRecord) (k : Key) → record_for (with_record edge es) k ≡ cond (eq_by_cmp key_cmp k (key_of edge)) (Some edge) (record_for es k)
record_for-with edge es k = item_of-with_item key_of key_total key_same edge es k

-- a record that was put in place is there
pub record_put : (edge : EdgeRecord) (es : List EdgeRecord) → record_for (with_record edge es) (key_of edge) ≡ Some edge
record_put edge es = record_for-with edge es (key_of edge) ∙ ap (λ o. cond (is_eq o) (Some edge) (record_for es (key_of edge))) (tied_itself key_total (key_of edge))

-- and a record at the other end leaves it
pub out_stays : (into : EdgeRecord) (es : List EdgeRecord) (ordinal : ℕ) → into.inward ≡ true → record_for (with_record into es) (out_key ordinal) ≡ record_for es (out_key ordinal)
out_stays into es ordinal is = record_for-with into es (out_key ordinal) ∙ ap (λ b. cond (eq_by_cmp key_cmp (out_key ordinal) (from_bool b, (cond b into.other 0, into.ordinal))) (Some into) (record_for es (out_key ordinal))) is

module _ (source target : Place) (undirected : Bool) (held : HeldEnds) where
  abbrev pub edge_of : List ℕ → Edge
  edge_of labels = record { target = held.target.id; undirected = undirected; labels = labels; props = [] }

  abbrev pub held_of : List ℕ → HeldEdge
  held_of labels = record { edge = edge_of labels; target = (with_edge source target labels undirected held).target; target_at = target; own_at = source }

  abbrev pub out_held : List ℕ → HeldOut
  out_held labels = record { source = (with_edge source target labels undirected held).source; found = Some (held_of labels) }

  module _ (labels : List ℕ) where
    here : record_for (with_edge source target labels undirected held).source.edges (out_key held.source.vertex.next) ≡ Some (out_of target labels undirected held)
    here =
        ap (λ b. record_for (cond (same_place source target) (with_in (into_of source labels undirected held) (cond b (with_out (out_of target labels undirected held) held.source) held.source)) (cond b (with_out (out_of target labels undirected held) held.source) held.source)).edges (out_key held.source.vertex.next)) (same_itself source)
        ∙ elim (same_place source target) as (λ b. record_for (cond b (with_in (into_of source labels undirected held) (with_out (out_of target labels undirected held) held.source)) (with_out (out_of target labels undirected held) held.source)).edges (out_key held.source.vertex.next) ≡ Some (out_of target labels undirected held)) [
          | true ↦ out_stays (into_of source labels undirected held) (with_record (out_of target labels undirected held) held.source.edges) held.source.vertex.next refl ∙ record_put (out_of target labels undirected held) held.source.edges
          | false ↦ record_put (out_of target labels undirected held) held.source.edges
        ]

    there : record_for (with_edge source target labels undirected held).target.edges (in_key held.source.id held.source.vertex.next) ≡ Some (into_of source labels undirected held)
    there =
        ap (λ b. record_for (cond b (with_in (into_of source labels undirected held) (cond (same_place target source) (with_out (out_of target labels undirected held) held.target) held.target)) (cond (same_place target source) (with_out (out_of target labels undirected held) held.target) held.target)).edges (in_key held.source.id held.source.vertex.next)) (same_itself target)
        ∙ record_put (into_of source labels undirected held) (cond (same_place target source) (with_out (out_of target labels undirected held) held.target) held.target).edges

    named : (object : Place) (one : HeldVertex) → (cond (same_place object target) (with_in (into_of source labels undirected held) (cond (same_place object source) (with_out (out_of target labels undirected held) one) one)) (cond (same_place object source) (with_out (out_of target labels undirected held) one) one)).id ≡ one.id
    named object one =
        elim (same_place object source) as (λ a. (cond (same_place object target) (with_in (into_of source labels undirected held) (cond a (with_out (out_of target labels undirected held) one) one)) (cond a (with_out (out_of target labels undirected held) one) one)).id ≡ one.id) [
          | true ↦ elim (same_place object target) as (λ b. (cond b (with_in (into_of source labels undirected held) (with_out (out_of target labels undirected held) one)) (with_out (out_of target labels undirected held) one)).id ≡ one.id) [ true ↦ refl | false ↦ refl ]
          | false ↦ elim (same_place object target) as (λ b. (cond b (with_in (into_of source labels undirected held) one) one).id ≡ one.id) [ true ↦ refl | false ↦ refl ]
        ]

  -- in whatever contents hold the two ends with the edge
  pub made_is_out : (label : Option ℕ) (shape : Shape) (contents : Contents) → IsBlock shape target → HoldsEnds source target contents (with_edge source target (labels_of label) undirected held)
      → HoldsOut shape source held.source.vertex.next contents (out_held (labels_of label))
  made_is_out None shape contents block has = record {
    at_source = has.at_source;
    record_here = here [];
    edge = record {
      fits = record { labels = tt; props = refl; some = tt };
      block = block;
      at_target = has.at_target;
      target = named [] target held.target;
      record_there = ap (λ id. record_for (with_edge source target [] undirected held).target.edges (in_key id held.source.vertex.next)) (named [] source held.source) ∙ (there [] ∙ ap (λ id. Some (record (into_of source [] undirected held) { other = id })) (sym (named [] source held.source)));
      heavy = λ heavy. absurd (cc heavy);
    };
  }
  made_is_out (Some label) shape contents block has = record {
    at_source = has.at_source;
    record_here = here (label ∷ []);
    edge = record {
      fits = record { labels = (tt, tt); props = refl; some = tt };
      block = block;
      at_target = has.at_target;
      target = named (label ∷ []) target held.target;
      record_there = ap (λ id. record_for (with_edge source target (label ∷ []) undirected held).target.edges (in_key id held.source.vertex.next)) (named (label ∷ []) source held.source) ∙ (there (label ∷ []) ∙ ap (λ id. Some (record (into_of source (label ∷ []) undirected held) { other = id })) (sym (named (label ∷ []) source held.source)));
      heavy = λ heavy. absurd (cc heavy);
    };
  }
