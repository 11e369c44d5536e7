use Rattle.std.proofs.Common.{ℕ, cond, eqb, sym, ap, ◌∙◌, arith}
use Rattle.rma_layout.specs.Placement.{raw_of}
use Rattle.graph_model.specs.Graph.{Vertex}
use Rattle.graph_model.specs.VertexCalls.{with_vertex}
use Rattle.map_graph.specs.Plain.{Plain, graph_of}
use Rattle.graph_parts.proofs.OrderedMaps.{insert_entry-with_at}
use Rattle.map_graph.proofs.PutBack.{put-over, put-new, leads, keeps, ends-put_in}
use Rattle.map_graph.proofs.map_graph.MapGraph.put_vertex.Goals as goal

pub uncount_labels-requires : goal.uncount_labels-requires
uncount_labels-requires c = λ q.
    omega (
      arith,
      c.in_ok-count_labels.ensures q,
      c.self.invariant.slots c.if-self.false q,
      put-over (keeps c.self.inside.geometry q) c.self.inside.vertices.entries c.args.id c.args.vertex c.insert.ensures.was_ordered c.insert.new.self.entries c.in_ok-found.ensures.entries c.in-Some.before (sym c.in-Some.is ∙ c.in_ok-found.ensures.old),
    )

pub invariant_of-self-in-Some : goal.invariant_of-self-in-Some
invariant_of-self-in-Some c =
    let over = λ (f : ℕ × Vertex → ℕ). put-over f c.self.inside.vertices.entries c.args.id c.args.vertex c.insert.ensures.was_ordered c.insert.new.self.entries c.in_ok-found.ensures.entries c.in-Some.before (sym c.in-Some.is ∙ c.in_ok-found.ensures.old) in
    record {
      names = c.self.invariant.names;
      buckets = λ _ raw. omega (arith, c.self.invariant.buckets c.if-self.false raw, over (leads c.self.inside.geometry raw));
      slots = λ _ q. omega (arith, c.in_ok-count_labels.ensures q, c.in_ok-uncount_labels-in-Some.ensures q, c.self.invariant.slots c.if-self.false q, over (keeps c.self.inside.geometry q));
      outgoing = λ _. c.self.invariant.outgoing c.if-self.false;
      incoming = λ _. c.self.invariant.incoming c.if-self.false;
      ends = λ _. ends-put_in c.self.inside.geometry c.self.inside.labels c.self.inside.types c.self.inside.vertices.entries c.self.inside.edges.entries c.args.self.now c.self.view_is c.args.id c.args.vertex c.requires c.insert.new.self.entries c.in_ok-found.ensures.entries;
    }

pub invariant_of-self-in-None : goal.invariant_of-self-in-None
invariant_of-self-in-None c =
    let new = λ (f : ℕ × Vertex → ℕ). put-new f c.self.inside.vertices.entries c.args.id c.args.vertex c.insert.ensures.was_ordered c.insert.new.self.entries c.in_ok-found.ensures.entries (sym c.in-None.is ∙ c.in_ok-found.ensures.old) in
    let pointer = c.raw-bucket.ensures.value ∙ ap raw_of c.bucket.ensures.value in
    record {
      names = c.self.invariant.names;
      buckets = λ _ raw. omega (arith, c.in_ok-raise-in-None.ensures raw, ap {B = ℕ} (λ p. cond (eqb p raw) 1 0) pointer, c.self.invariant.buckets c.if-self.false raw, new (leads c.self.inside.geometry raw));
      slots = λ _ q. omega (arith, c.in_ok-count_labels.ensures q, c.self.invariant.slots c.if-self.false q, new (keeps c.self.inside.geometry q));
      outgoing = λ _. c.self.invariant.outgoing c.if-self.false;
      incoming = λ _. c.self.invariant.incoming c.if-self.false;
      ends = λ _. ends-put_in c.self.inside.geometry c.self.inside.labels c.self.inside.types c.self.inside.vertices.entries c.self.inside.edges.entries c.args.self.now c.self.view_is c.args.id c.args.vertex c.requires c.insert.new.self.entries c.in_ok-found.ensures.entries;
    }

pub returns-in_ok-uncount_labels-in-Some-clause-graph : goal.returns-in_ok-uncount_labels-in-Some-clause-graph
returns-in_ok-uncount_labels-in-Some-clause-graph c =
    ap (λ vs. graph_of c.self.inside.labels c.self.inside.types vs c.self.inside.edges.entries) (c.in_ok-found.ensures.entries ∙ insert_entry-with_at c.args.id c.args.vertex c.self.inside.vertices.entries)
    ∙ ap (λ (p : Plain). with_vertex p.graph c.args.id c.args.vertex) c.self.view_is

pub returns-in_ok-raise-in-None-clause-graph : goal.returns-in_ok-raise-in-None-clause-graph
returns-in_ok-raise-in-None-clause-graph c =
    ap (λ vs. graph_of c.self.inside.labels c.self.inside.types vs c.self.inside.edges.entries) (c.in_ok-found.ensures.entries ∙ insert_entry-with_at c.args.id c.args.vertex c.self.inside.vertices.entries)
    ∙ ap (λ (p : Plain). with_vertex p.graph c.args.id c.args.vertex) c.self.view_is
