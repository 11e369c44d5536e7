use Rattle.std.proofs.Common.{◌*◌, ◌+◌}
use Rattle.window_rule.specs.Opening.{AreWords, set_so_far}
use Rattle.fabric.proofs.opening.set_free_list.Given as goal

abbrev pub invariant-loop-block : goal.invariant-loop-block
invariant-loop-block l = AreWords l.geometry l.words
    (set_so_far l.geometry l.tag l.geometry.ranks (l.rank * l.geometry.blocks + l.block))
