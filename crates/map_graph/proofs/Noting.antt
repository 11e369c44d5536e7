-- Edges noted one after the other.
use Rattle.std.proofs.Common.{◌≡◌, List, [], ◌∷◌, ◌++◌, Some, refl, ap, sym, ◌∙◌, append_assoc}
use Rattle.graph_model.specs.Maps.{Map}
use Rattle.graph_model.specs.Graph.{Edge, EdgeKey, edge_at, Graph}
use Rattle.graph_undo.specs.Undo.{Undo, AtEdge, as_edges}
use Rattle.map_graph.specs.Lines.{entry_of, entries_at}

as_edges-append : (es fs : Map EdgeKey Edge) → as_edges (es ++ fs) ≡ as_edges es ++ as_edges fs
as_edges-append [] fs = refl
as_edges-append (e ∷ es) fs = ap (λ rest. AtEdge e.0 (Some e.1) ∷ rest) (as_edges-append es fs)

-- one more, or none
pub noted_more : (g : Graph) (before after whole : List Undo) (keys rest : List EdgeKey) (key : EdgeKey) → keys ≡ key ∷ rest → after ≡ before ++ as_edges (entry_of key (edge_at g key.source key.ordinal))
    → before ++ as_edges (entries_at g.edges keys) ≡ whole → after ++ as_edges (entries_at g.edges rest) ≡ whole
noted_more g before after whole keys rest key next pushed all =
    ap (λ steps. steps ++ as_edges (entries_at g.edges rest)) pushed
    ∙ append_assoc before (as_edges (entry_of key (edge_at g key.source key.ordinal))) (as_edges (entries_at g.edges rest))
    ∙ ap (λ steps. before ++ steps) (sym (as_edges-append (entry_of key (edge_at g key.source key.ordinal)) (entries_at g.edges rest)))
    ∙ ap (λ ks. before ++ as_edges (entries_at g.edges ks)) (sym next) ∙ all
