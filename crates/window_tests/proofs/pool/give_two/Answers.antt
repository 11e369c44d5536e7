use Rattle.window_tests.proofs.Given.{clean_after_give, may_after_give}
use Rattle.window_tests.proofs.pool.give_two.Goals as goal

pub give-requires-2-clause-may : goal.give-requires-2-clause-may
give-requires-2-clause-may c =
    may_after_give c.args.window.now.shape c.args.other c.args.rank.now c.give.new.rank
    c.requires.other c.args.one c.give.ensures.given c.give.ensures.stay c.requires.differ

pub returns-clause-clean : goal.returns-clause-clean
returns-clause-clean c =
    clean_after_give c.args.window.now.shape c.give.new.rank c.give-2.new.rank c.args.other
    (may_after_give c.args.window.now.shape c.args.other c.args.rank.now c.give.new.rank
    c.requires.other c.args.one c.give.ensures.given c.give.ensures.stay c.requires.differ)
    c.give-2.ensures.given
