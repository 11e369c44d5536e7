use Rattle.std.proofs.Common.{sym}
use Rattle.id_hash.proofs.tests.add_beside.Goals as goal

pub remove-requires-clause-present : goal.remove-requires-clause-present
remove-requires-clause-present g c = c.in_ok-added.ensures.added.others.has c.args.other c.requires.apart c.requires.present

pub returns-clause-both : goal.returns-clause-both
returns-clause-both g c = λ added. c.in_ok-remove.ensures.removed.others.has c.args.one (λ same. c.requires.apart (sym same)) (c.in_ok-added.ensures.added.present added)
