-- Blocks that are taken on each rank.
use Rattle.std.specs.Prelude.{ℕ, slice_index}
use Rattle.plain_graph.specs.declared.rooms.Rooms.{Rooms}

abbrev pub taken_on : Rooms → ℕ → ℕ
taken_on rooms rank = slice_index rooms.taken rank
