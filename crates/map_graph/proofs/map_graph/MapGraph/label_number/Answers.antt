use Rattle.std.proofs.Common.{length, sym, ap, ◌∙◌, arith}
use Rattle.std.specs.List.{position}
use Rattle.std.specs.Str.{bytes_eq}
use Rattle.graph_model.specs.Lookups.{label_number}
use Rattle.map_graph.specs.Plain.{Plain}
use Rattle.map_graph.proofs.Places.{position-place_where, position-below, labels-few}
use Rattle.map_graph.proofs.map_graph.MapGraph.label_number.Goals as goal

pub returns-in_err-place : goal.returns-in_err-place
returns-in_err-place c =
    c.from_residual.ensures ∙ c.in_err-place.ensures ∙ ap (λ items. position (bytes_eq c.args.name.now) items) c.as_slice.ensures
    ∙ position-place_where (bytes_eq c.args.name.now) c.self.inside.labels ∙ ap (λ (p : Plain). label_number p.graph c.args.name.now) c.self.view_is

pub overflow_cast-result : goal.overflow_cast-result
overflow_cast-result c =
    omega (arith, position-below (bytes_eq c.args.name.now) c.as_slice.result.now c.in_ok-place.place (sym c.in_ok-place.ensures), ap length c.as_slice.ensures, labels-few c.self.inside.labels, c.self.invariant.names)

pub returns : goal.returns
returns c =
    c.in_ok-place.ensures ∙ ap (λ items. position (bytes_eq c.args.name.now) items) c.as_slice.ensures
    ∙ position-place_where (bytes_eq c.args.name.now) c.self.inside.labels ∙ ap (λ (p : Plain). label_number p.graph c.args.name.now) c.self.view_is
