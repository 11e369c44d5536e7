use Rattle.std.proofs.Common.{◌≡◌, ℕ, ◌+◌, is_some, cond, eqb, ap, sym, subst, ◌∙◌, arith}
use Rattle.rma_layout.specs.Placement.{raw_of}
use Rattle.gdi_kinds.specs.declared.call.Call.TheVariants.{Vertex as MakeVertex}
use Rattle.gdi_kinds.specs.declared.reply.Reply.TheVariants.{Done, Exists, TooLarge}
use Rattle.graph_model.specs.Maps.{with_at}
use Rattle.graph_parts.specs.Counts.{count_of}
use Rattle.std.specs.List.{AllByRecursion}
use Rattle.map_graph.specs.Plain.{Plain, graph_of, kept_by, IsBetween}
use Rattle.map_graph.proofs.Ends.{ends-made}
use Rattle.map_graph.proofs.Slots.{kept-made}
use Rattle.graph_parts.proofs.OrderedMaps.{lookup-at, insert_entry-with_at}
use Rattle.map_graph.proofs.Buckets.{buckets-raised, bucket_is_full, bucket_has_room}
use Rattle.map_graph.proofs.CallAnswers.{Gives, vertex-exists, vertex-too_large, vertex-done}
use Rattle.map_graph.proofs.map_graph.MapGraph.make_vertex.Goals as goal

pub returns-then-contains_key-clause-answer : goal.returns-then-contains_key-clause-answer
returns-then-contains_key-clause-answer c =
    let there = ap is_some (sym (lookup-at c.args.id c.self.inside.vertices.entries)) ∙ sym c.contains_key.ensures ∙ c.if-contains_key.true in
    subst (λ (p : Plain). Gives p.shape p.graph (MakeVertex c.args.id) p.graph Exists) c.self.view_is
    (vertex-exists c.self.inside.geometry (graph_of c.self.inside.labels c.self.inside.types c.self.inside.vertices.entries c.self.inside.edges.entries) c.args.id there)

pub returns-then-count-ge-MOST_IN_BUCKET-clause-answer : goal.returns-then-count-ge-MOST_IN_BUCKET-clause-answer
returns-then-count-ge-MOST_IN_BUCKET-clause-answer c =
    let absent = ap is_some (sym (lookup-at c.args.id c.self.inside.vertices.entries)) ∙ sym c.contains_key.ensures ∙ c.if-contains_key.false in
    let full = bucket_is_full c.self.inside.geometry c.self.inside.vertices.entries c.args.id c.raw-bucket.result c.count.result c.keeps_ranges.ensures absent
    (c.raw-bucket.ensures.value ∙ ap raw_of c.bucket.ensures.value) (c.count.ensures ∙ c.self.invariant.buckets c.if-self.false c.raw-bucket.result) (omega (arith, c.if-count-ge-MOST_IN_BUCKET.true)) in
    subst (λ (p : Plain). Gives p.shape p.graph (MakeVertex c.args.id) p.graph TooLarge) c.self.view_is
    (vertex-too_large c.self.inside.geometry (graph_of c.self.inside.labels c.self.inside.types c.self.inside.vertices.entries c.self.inside.edges.entries) c.args.id absent full)

pub invariant_of-self-2 : goal.invariant_of-self-2
invariant_of-self-2 c =
    let absent = ap is_some (sym (lookup-at c.args.id c.self.inside.vertices.entries)) ∙ sym c.contains_key.ensures ∙ c.if-contains_key.false in
    let raised = subst (λ raw. (q : ℕ) → count_of c.raise.new.self q ≡ count_of c.self.inside.bucket_counts q + cond (eqb raw q) 1 0) (c.raw-bucket.ensures.value ∙ ap raw_of c.bucket.ensures.value) c.in_ok-raise.ensures in
    record {
      names = c.self.invariant.names;
      buckets = λ whole. buckets-raised c.self.inside.geometry c.self.inside.vertices.entries c.self.inside.bucket_counts (c.self.invariant.buckets c.if-self.false) c.args.id c.new.result c.insert.new.self.entries c.raise.new.self
          absent c.in_ok-insert.ensures.entries raised;
      slots = λ whole raw. c.self.invariant.slots c.if-self.false raw ∙ sym (ap (λ vs. kept_by c.self.inside.geometry vs raw) (c.in_ok-insert.ensures.entries ∙ insert_entry-with_at c.args.id c.new.result c.self.inside.vertices.entries
          ∙ ap (λ vertex. with_at c.self.inside.vertices.entries c.args.id vertex) c.new.ensures) ∙ kept-made c.self.inside.geometry c.self.inside.vertices.entries c.args.id c.in_ok-insert.ensures.was_ordered raw absent);
      outgoing = λ _. c.self.invariant.outgoing c.if-self.false;
      incoming = λ _. c.self.invariant.incoming c.if-self.false;
      ends = λ _. subst (λ vs. AllByRecursion (IsBetween vs) c.self.inside.edges.entries)
          (sym (c.in_ok-insert.ensures.entries ∙ insert_entry-with_at c.args.id c.new.result c.self.inside.vertices.entries ∙ ap (λ vertex. with_at c.self.inside.vertices.entries c.args.id vertex) c.new.ensures))
          (ends-made c.self.inside.vertices.entries c.args.id absent c.self.inside.edges.entries (c.self.invariant.ends c.if-self.false));
    }

pub returns-clause-answer : goal.returns-clause-answer
returns-clause-answer c =
    let absent = ap is_some (sym (lookup-at c.args.id c.self.inside.vertices.entries)) ∙ sym c.contains_key.ensures ∙ c.if-contains_key.false in
    let room = bucket_has_room c.self.inside.geometry c.self.inside.vertices.entries c.args.id c.raw-bucket.result c.count.result c.keeps_ranges.ensures absent
    (c.raw-bucket.ensures.value ∙ ap raw_of c.bucket.ensures.value) (c.count.ensures ∙ c.self.invariant.buckets c.if-self.false c.raw-bucket.result) (omega (arith, c.if-count-ge-MOST_IN_BUCKET.false)) in
    let made = c.in_ok-insert.ensures.entries ∙ insert_entry-with_at c.args.id c.new.result c.self.inside.vertices.entries ∙ ap (λ vertex. with_at c.self.inside.vertices.entries c.args.id vertex) c.new.ensures in
    subst (λ (p : Plain). Gives p.shape p.graph (MakeVertex c.args.id) (graph_of c.self.inside.labels c.self.inside.types c.insert.new.self.entries c.self.inside.edges.entries) Done) c.self.view_is
    (vertex-done c.self.inside.geometry (graph_of c.self.inside.labels c.self.inside.types c.self.inside.vertices.entries c.self.inside.edges.entries) c.args.id absent room
    ∙ ap (λ vs. record { graph = graph_of c.self.inside.labels c.self.inside.types vs c.self.inside.edges.entries; reply = Done }) (sym made))
