use Rattle.std.proofs.Common.{List, length, sym, ap, ◌∙◌, arith}
use Rattle.std.specs.Str.{bytes_eq}
use Rattle.graph_model.specs.Graph.{Name}
use Rattle.graph_model.specs.Maps.{place_where}
use Rattle.traversals.proofs.Scanning.{position-place_where, position-below}
use Rattle.traversals.proofs.flat_graph.FlatGraph.label_number.Goals as goal

pub returns-in_err-place : goal.returns-in_err-place
returns-in_err-place c =
    c.from_residual.ensures ∙ c.in_err-place.ensures ∙ position-place_where (bytes_eq c.args.name.now) c.as_slice.result.now
    ∙ ap (λ (names : List Name). place_where (bytes_eq c.args.name.now) names) (c.as_slice.ensures ∙ c.names.ensures.value)

pub overflow_cast-result : goal.overflow_cast-result
overflow_cast-result c =
    omega (arith, position-below (bytes_eq c.args.name.now) c.as_slice.result.now c.in_ok-place.place (sym c.in_ok-place.ensures), ap (λ (names : List Name). length names) c.as_slice.ensures, c.names.ensures.few)

pub returns : goal.returns
returns c =
    c.in_ok-place.ensures ∙ position-place_where (bytes_eq c.args.name.now) c.as_slice.result.now
    ∙ ap (λ (names : List Name). place_where (bytes_eq c.args.name.now) names) (c.as_slice.ensures ∙ c.names.ensures.value)
