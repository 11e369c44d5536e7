use Rattle.std.proofs.Common.{◌≡◌, ℕ, ◌+◌, ◌≤◌, is_some, cond, eqb, ap, sym, subst, ◌∙◌, arith}
use Rattle.std.specs.List.{AllByRecursion}
use Rattle.rma_layout.specs.Placement.{raw_of}
use Rattle.graph_model.specs.Maps.{without}
use Rattle.graph_parts.specs.Counts.{count_of}
use Rattle.map_graph.specs.Plain.{Plain, graph_of, kept_by, IsBetween, IsApart}
use Rattle.graph_parts.proofs.OrderedMaps.{lookup-at, removed}
use Rattle.map_graph.proofs.Buckets.{buckets-lowered, some_counted}
use Rattle.map_graph.proofs.Slots.{kept-removed}
use Rattle.map_graph.proofs.Ends.{ends-dropped}
use Rattle.map_graph.proofs.Writes.{vertex-missing}
use Rattle.map_graph.proofs.map_graph.MapGraph.take_vertex.Goals as goal

pub unreachable-requires : goal.unreachable-requires
unreachable-requires c =
    vertex-missing c.self.inside.geometry c.self.inside.labels c.self.inside.types c.self.inside.vertices.entries c.self.inside.edges.entries c.args.self.now c.self.view_is c.args.id c.in_default.ensures.value c.requires.there

pub uncount_labels-requires : goal.uncount_labels-requires
uncount_labels-requires c = λ q.
    omega (arith, c.self.invariant.slots c.if-self.false q, kept-removed c.self.inside.geometry c.self.inside.vertices.entries c.args.id c.in-Some.vertex q (sym (c.in-Some.ensures.value ∙ lookup-at c.args.id c.self.inside.vertices.entries)))

pub lower-requires : goal.lower-requires
lower-requires c =
    let there = ap is_some (sym (c.in-Some.ensures.value ∙ lookup-at c.args.id c.self.inside.vertices.entries)) in
    subst (λ raw. 1 ≤ count_of c.self.inside.bucket_counts raw) (sym (c.raw-bucket.ensures.value ∙ ap raw_of c.bucket.ensures.value))
    (some_counted c.self.inside.geometry c.self.inside.vertices.entries c.self.inside.bucket_counts (c.self.invariant.buckets c.if-self.false) c.args.id there)

pub invariant_of-self-2 : goal.invariant_of-self-2
invariant_of-self-2 c =
    let there = ap is_some (sym (c.in-Some.ensures.value ∙ lookup-at c.args.id c.self.inside.vertices.entries)) in
    let lowered = subst (λ raw. (q : ℕ) → count_of c.lower.new.self q + cond (eqb raw q) 1 0 ≡ count_of c.self.inside.bucket_counts q) (c.raw-bucket.ensures.value ∙ ap raw_of c.bucket.ensures.value) c.in_ok-lower.ensures in
    let gone = removed c.args.id c.self.inside.vertices.entries c.remove.new.self.entries c.remove.ensures.entries c.remove.ensures.updates.1 in
    let alone = subst (λ (p : Plain). AllByRecursion (IsApart c.args.id) p.graph.edges) (sym c.self.view_is) c.requires.alone in
    record {
      names = c.self.invariant.names;
      buckets = λ whole. buckets-lowered c.self.inside.geometry c.self.inside.vertices.entries c.self.inside.bucket_counts (c.self.invariant.buckets c.if-self.false) c.args.id c.remove.new.self.entries c.lower.new.self
          there c.remove.ensures.entries lowered;
      slots = λ whole q. omega (
        arith,
        c.in_ok-uncount_labels.ensures q,
        c.self.invariant.slots c.if-self.false q,
        ap (λ vs. kept_by c.self.inside.geometry vs q) c.remove.ensures.entries,
        kept-removed c.self.inside.geometry c.self.inside.vertices.entries c.args.id c.in-Some.vertex q (sym (c.in-Some.ensures.value ∙ lookup-at c.args.id c.self.inside.vertices.entries)),
      );
      outgoing = λ _. c.self.invariant.outgoing c.if-self.false;
      incoming = λ _. c.self.invariant.incoming c.if-self.false;
      ends = λ _. subst (λ vs. AllByRecursion (IsBetween vs) c.self.inside.edges.entries) (sym gone)
          (ends-dropped c.self.inside.vertices.entries c.args.id c.self.inside.edges.entries alone (c.self.invariant.ends c.if-self.false));
    }

pub returns-clause-graph : goal.returns-clause-graph
returns-clause-graph c =
    let gone = removed c.args.id c.self.inside.vertices.entries c.remove.new.self.entries c.remove.ensures.entries c.remove.ensures.updates.1 in
    ap (λ vs. graph_of c.self.inside.labels c.self.inside.types vs c.self.inside.edges.entries) gone ∙ ap (λ (p : Plain). record p.graph { vertices = without p.graph.vertices c.args.id }) c.self.view_is
