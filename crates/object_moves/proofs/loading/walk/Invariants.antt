use Rattle.std.proofs.Common.{◌≡◌, ◌-◌, take, get_or}
use Rattle.rma_layout.specs.Placement.{metadata}
use Rattle.window_rule.specs.Known.{chain_in, known_of}
use Rattle.object_moves.proofs.loading.walk.Given as goal

abbrev pub invariant-loop : goal.invariant-loop
invariant-loop g l =
    let chain = chain_in (known_of l.fn.rank.view.known l.fn.at) in record {
      window : l.rank.window ≡ l.fn.rank.window;
      spares : l.rank.spares ≡ l.fn.rank.spares;
      same : l.rank.view ≡ l.fn.rank.view;
      met : l.blocks ≡ take l.counter chain;
      this : get_or chain (l.counter - 1) metadata ≡ l.block;
    }
