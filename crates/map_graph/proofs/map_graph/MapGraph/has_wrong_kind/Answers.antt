use Rattle.std.proofs.Common.{List, Option, sym, ap, ◌∙◌}
use Rattle.std.specs.List.{list_any}
use Rattle.gdi_kinds.specs.declared.constraint.Atom.{Atom}
use Rattle.graph_model.specs.ListCalls.{atoms_of, is_of_wrong_kind}
use Rattle.map_graph.proofs.Names.{any-flat}
use Rattle.map_graph.proofs.map_graph.MapGraph.has_wrong_kind.Goals as goal

pub returns : goal.returns
returns c =
    c.some_list_has_wrong_kind.ensures ∙ any-flat (is_of_wrong_kind c.args.self.now.graph) c.in-Some.test
    ∙ ap (λ (t : Option (List (List Atom))). list_any (is_of_wrong_kind c.args.self.now.graph) (atoms_of t)) (sym c.in-Some.is)
