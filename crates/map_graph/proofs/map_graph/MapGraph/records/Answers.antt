use Rattle.std.proofs.Common.{length, ap, ◌∙◌, arith}
use Rattle.std.specs.Prelude.{◌==◌}
use Rattle.std.specs.List.{filter}
use Rattle.std.proofs.lemmas.Map.Entries.{length-keys_of}
use Rattle.graph_model.specs.Sizes.{records_at}
use Rattle.map_graph.specs.Plain.{Plain}
use Rattle.map_graph.proofs.map_graph.MapGraph.records.Goals as goal

pub returns : goal.returns
returns c =
    omega (
      arith,
      c.count.ensures.value ∙ ap length (c.self.invariant.outgoing c.if-self.false c.args.id) ∙ length-keys_of (filter (λ entry. entry.0.source == c.args.id) c.self.inside.edges.entries),
      c.count-2.ensures.value ∙ ap length (c.self.invariant.incoming c.if-self.false c.args.id) ∙ length-keys_of (filter (λ entry. entry.1.target == c.args.id) c.self.inside.edges.entries),
      ap (λ (p : Plain). records_at p.graph c.args.id) c.self.view_is,
    )
