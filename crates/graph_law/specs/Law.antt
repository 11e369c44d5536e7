-- When an entry fits: its transaction did to every store of a graph what it does to the graph.
use Rattle.std.specs.Prelude.{◌≡◌, ℕ, ◌<◌, false}
use Rattle.rma_layout.specs.Shape.{Shape}
use Rattle.object_words.specs.Contents.{Contents, Agrees, overlay}
use Rattle.object_words.specs.Blocks.{contents_need}
use Rattle.object_words.specs.Entries.{Entry}
use Rattle.graph_model.specs.Graph.{Graph}
use Rattle.graph_model.specs.Capacity.{blocks_needed_on}
use Rattle.graph_model.specs.Transactions.{graph_after_txn, replies_to}
use Rattle.holder_codec.specs.Represents.{Represents}
use Rattle.graph_law.specs.declared.law.Noted.{Noted}

pub record FitsAt (shape : Shape) (entry : Entry Noted) (store : Contents) (g : Graph) : Type 0 where
  pub replies : replies_to shape g entry.note.txn ≡ entry.note.replies
  pub represents : Represents shape (overlay store entry.writes) (graph_after_txn shape g entry.note.txn)
  -- the store needs the blocks that the graph needs
  pub needs : (rank : ℕ) → rank < shape.ranks → contents_need shape store entry.writes rank ≡ blocks_needed_on shape g entry.note.txn.calls rank

-- the transaction commits and asks for nothing of the whole graph. What it read is enough to decide all of this
pub record Fits (shape : Shape) (entry : Entry Noted) : Type 0 where
  pub commits : entry.note.txn.aborts ≡ false
  pub local : entry.note.txn.whole ≡ false
  pub at : (store : Contents) (g : Graph) → Represents shape store g → Agrees entry.reads store → FitsAt shape entry store g
