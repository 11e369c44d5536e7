-- What a graph tells of itself in replies.
use Rattle.std.specs.Prelude.{ℕ, true, false, [], ◌∷◌, map, length}
use Rattle.gdi_kinds.specs.declared.call.Call.TheVariants as call
use Rattle.gdi_kinds.specs.declared.reply.Reply.{Reply}
use Rattle.gdi_kinds.specs.declared.reply.Reply.TheVariants.{Count, Levels, Parts}
use Rattle.gdi_kinds.specs.declared.txn.Txn.{Txn}
use Rattle.drill_run.specs.Summaries.{greatest}

-- a transaction that looks at the whole graph
abbrev pub look_from : ℕ → Txn
look_from from = record { whole = true; calls = call.Vertices ∷ call.Arcs ∷ call.Parts ∷ call.Levels from ∷ []; aborts = false }

abbrev pub count_told : Reply → ℕ
count_told (Count n) = n
count_told other = 0

abbrev pub parts_told : Reply → ℕ
parts_told (Parts pairs) = length pairs
parts_told other = 0

abbrev pub deepest_told : Reply → ℕ
deepest_told (Levels pairs) = greatest (map (λ pair. pair.number) pairs)
deepest_told other = 0
