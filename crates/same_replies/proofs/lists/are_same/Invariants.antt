use Rattle.std.proofs.Common.{◌≡◌, drop}
use Rattle.same_replies.proofs.lists.are_same.Given as goal

-- where what is left is the same, all is
abbrev pub invariant-loop-index : goal.invariant-loop-index
invariant-loop-index g l = record {
  same : drop l.index l.one ≡ drop l.index l.other → l.one ≡ l.other;
}
