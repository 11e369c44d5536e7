use Rattle.std.proofs.Common.{ap}
use Rattle.label_index.specs.Entries.{Pair}
use Rattle.store_tests.proofs.labels.exchange.Goals as goal

pub remove-requires-clause-present : goal.remove-requires-clause-present
remove-requires-clause-present g c =
    c.in_ok-added.ensures.added.others.has (c.args.label, c.args.other) (λ same. c.requires.apart (ap (λ (pair : Pair). pair.1) same)) c.requires.present
