use Rattle.window_rule.proofs.PairReads.{may_get}
use Rattle.window_tests.proofs.sums.first_word.Goals as goal

pub get-requires-clause-may : goal.get-requires-clause-may
get-requires-clause-may c =
    may_get _ _ _ c.requires.reserved c.requires.wide _ _ _ c.length.ensures.view
    c.length.ensures.truths
