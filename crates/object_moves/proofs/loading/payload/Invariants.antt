use Rattle.std.proofs.Common.{◌≡◌, take}
use Rattle.window_rule.specs.Known.{known_of}
use Rattle.object_moves.specs.Loads.{content_in}
use Rattle.object_moves.proofs.loading.payload.Given as goal

abbrev pub invariant-loop-k : goal.invariant-loop-k
invariant-loop-k g l = record {
  window : l.rank.window ≡ l.fn.rank.window;
  spares : l.rank.spares ≡ l.fn.rank.spares;
  same : l.rank.view ≡ l.fn.rank.view;
  told : l.words ≡ take l.k (content_in (known_of l.fn.rank.view.known l.fn.at));
}
