-- How a transaction ends.
use Rattle.std.specs.Prelude.{ℕ, List, Option, Some, None}
use Rattle.gdi_kinds.specs.declared.reply.Reply.{Reply}
use Rattle.plain_graph.specs.declared.ended.Ended.{Ended}
use Rattle.plain_graph.specs.declared.ended.Ended.TheVariants.{Done, Full}

-- the rank that is short, if one is, and the replies
abbrev pub ended_of : Option ℕ → List Reply → Ended
ended_of None replies = Done replies
ended_of (Some rank) replies = Full rank
