use Rattle.std.proofs.Common.{◌≡◌, ℕ, ◌<◌, ◌≤◌, false}
use Rattle.rma_layout.specs.Shape.{reserved_blocks}
use Rattle.object_words.specs.Blocks.{on_rank}
use Rattle.object_store.specs.Plain.{is_vacant}
use Rattle.object_store.proofs.vacant.first_vacant.Given as goal

abbrev pub invariant-loop-block : goal.invariant-loop-block
invariant-loop-block l = (block : ℕ) → reserved_blocks l.geometry ≤ block → block < l.block → is_vacant l.committed l.writes (on_rank l.rank block) ≡ false
