use Rattle.run_replay.proofs.Replays.{Goes}
use Rattle.run_replay.proofs.replaying.replay.Given as goal

-- so many visits are done
abbrev pub invariant-loop-visit : goal.invariant-loop-visit
invariant-loop-visit l = record {
  goes : Goes l.fn.graph l.fn.entries l.fn.script l.fn.run l.visit-items l.visit-index l.graph l.replies l.room;
}
