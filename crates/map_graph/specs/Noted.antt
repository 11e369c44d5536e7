-- The steps of a journal, as steps that lead a graph back.
use Rattle.graph_undo.specs.Undo as back
use Rattle.map_graph.specs.declared.undo.Undo.{Undo}
use Rattle.map_graph.specs.declared.undo.Undo.TheVariants.{Names, Vertex, Edge}

abbrev pub undo_of : Undo → back.Undo
undo_of (Names labels types) = back.Names labels types
undo_of (Vertex id before) = back.AtVertex id before
undo_of (Edge source ordinal before) = back.AtEdge (record { source = source; ordinal = ordinal }) before
