use Rattle.std.proofs.Common.{length, sym, ap, ◌∙◌, arith}
use Rattle.std.specs.List.{position}
use Rattle.std.specs.Str.{bytes_eq}
use Rattle.graph_model.specs.Graph.{PropType}
use Rattle.graph_model.specs.Lookups.{type_number}
use Rattle.map_graph.specs.Plain.{Plain}
use Rattle.map_graph.proofs.Places.{position-place_where, position-below, types-few}
use Rattle.map_graph.proofs.map_graph.MapGraph.type_number.Goals as goal

pub returns-in_err-place : goal.returns-in_err-place
returns-in_err-place c =
    c.from_residual.ensures ∙ c.in_err-place.ensures ∙ ap (λ items. position (λ (ty : PropType). bytes_eq c.args.name.now ty.name) items) c.as_slice.ensures
    ∙ position-place_where (λ (ty : PropType). bytes_eq c.args.name.now ty.name) c.self.inside.types ∙ ap (λ (p : Plain). type_number p.graph c.args.name.now) c.self.view_is

pub overflow_cast-result : goal.overflow_cast-result
overflow_cast-result c =
    omega (arith, position-below (λ (ty : PropType). bytes_eq c.args.name.now ty.name) c.as_slice.result.now c.in_ok-place.place (sym c.in_ok-place.ensures), ap length c.as_slice.ensures, types-few c.self.inside.types, c.self.invariant.names)

pub returns : goal.returns
returns c =
    c.in_ok-place.ensures ∙ ap (λ items. position (λ (ty : PropType). bytes_eq c.args.name.now ty.name) items) c.as_slice.ensures
    ∙ position-place_where (λ (ty : PropType). bytes_eq c.args.name.now ty.name) c.self.inside.types ∙ ap (λ (p : Plain). type_number p.graph c.args.name.now) c.self.view_is
