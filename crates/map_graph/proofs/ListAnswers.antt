-- What the calls that list and find answer, refusal by refusal.
use Rattle.std.proofs.Common.{◌≡◌, ℕ, true, false, List, [], ◌∷◌, Option, Some, None, Ok, Err, sym, ap}
use Rattle.gdi_kinds.specs.declared.constraint.Atom.{Atom}
use Rattle.gdi_kinds.specs.declared.call.Dir.{Dir}
use Rattle.gdi_kinds.specs.declared.call.Call.TheVariants as call
use Rattle.gdi_kinds.specs.declared.edge_line.EdgeLine.{EdgeLine}
use Rattle.gdi_kinds.specs.declared.reply.Reply.{Reply}
use Rattle.gdi_kinds.specs.declared.reply.Reply.TheVariants as reply
use Rattle.rma_layout.specs.Shape.{Shape}
use Rattle.graph_model.specs.Graph.{Name, Graph, is_vertex}
use Rattle.graph_model.specs.Lookups.{label_number, lines_at}
use Rattle.graph_model.specs.EdgeCalls.{label_if_named}
use Rattle.graph_model.specs.ListCalls.{atoms_of, names_known, kinds_agree, passes_test, vertices_where}
use Rattle.map_graph.proofs.CallAnswers.{Gives}

module _ (shape : Shape) (g : Graph) (test : Option (List (List Atom))) where
  module _ (id : ℕ) (dir : Dir) where
    pub edges-names : (r : Reply) → Err r ≡ names_known g (atoms_of test) → Gives shape g (call.Edges id dir test) g r
    edges-names r unknown = rw (← unknown)

    pub edges-vertex : Ok tt ≡ names_known g (atoms_of test) → is_vertex g id ≡ false → Gives shape g (call.Edges id dir test) g (reply.NoVertex id)
    edges-vertex known absent = rw (← known, absent)

    pub edges-kinds : (r : Reply) → Ok tt ≡ names_known g (atoms_of test) → is_vertex g id ≡ true → Err r ≡ kinds_agree g (atoms_of test) → Gives shape g (call.Edges id dir test) g r
    edges-kinds r known there wrong = rw (← known, there, ← wrong)

    pub edges-done : (lines : List EdgeLine) → Ok tt ≡ names_known g (atoms_of test) → is_vertex g id ≡ true → Ok tt ≡ kinds_agree g (atoms_of test)
        → lines ≡ lines_at g (λ entry. passes_test g test entry.1.labels entry.1.props) id dir → Gives shape g (call.Edges id dir test) g (reply.Edges lines)
    edges-done lines known there agree told = rw (← known, there, ← agree) (ap (λ (ls : List EdgeLine). record { graph = g; reply = reply.Edges ls }) (sym told))

  module _ (name : Name) where
    pub find-label : None ≡ label_number g name → Gives shape g (call.Find name test) g reply.NoLabel
    find-label absent = rw (← absent)

    module _ (label : ℕ) (there : Some label ≡ label_number g name) where
      pub find-names : (r : Reply) → Err r ≡ names_known g (atoms_of test) → Gives shape g (call.Find name test) g r
      find-names r unknown = rw (← there, ← unknown)

      pub find-kinds : (r : Reply) → Ok tt ≡ names_known g (atoms_of test) → Err r ≡ kinds_agree g (atoms_of test) → Gives shape g (call.Find name test) g r
      find-kinds r known wrong = rw (← there, ← known, ← wrong)

      pub find-done : (ids : List ℕ) → Ok tt ≡ names_known g (atoms_of test) → Ok tt ≡ kinds_agree g (atoms_of test) → ids ≡ vertices_where g (label ∷ []) test → Gives shape g (call.Find name test) g (reply.Ids ids)
      find-done ids known agree told = rw (← there, ← known, ← agree) (ap (λ (is : List ℕ). record { graph = g; reply = reply.Ids is }) (sym told))

  module _ (name : Option Name) where
    pub scan-label : (r : Reply) → Err r ≡ label_if_named g name → Gives shape g (call.Scan name test) g r
    scan-label r absent = rw (← absent)

    module _ (labels : List ℕ) (there : Ok labels ≡ label_if_named g name) where
      pub scan-names : (r : Reply) → Err r ≡ names_known g (atoms_of test) → Gives shape g (call.Scan name test) g r
      scan-names r unknown = rw (← there, ← unknown)

      pub scan-kinds : (r : Reply) → Ok tt ≡ names_known g (atoms_of test) → Err r ≡ kinds_agree g (atoms_of test) → Gives shape g (call.Scan name test) g r
      scan-kinds r known wrong = rw (← there, ← known, ← wrong)

      pub scan-done : (ids : List ℕ) → Ok tt ≡ names_known g (atoms_of test) → Ok tt ≡ kinds_agree g (atoms_of test) → ids ≡ vertices_where g labels test → Gives shape g (call.Scan name test) g (reply.Ids ids)
      scan-done ids known agree told = rw (← there, ← known, ← agree) (ap (λ (is : List ℕ). record { graph = g; reply = reply.Ids is }) (sym told))
