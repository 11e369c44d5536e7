use Rattle.bulk_load.proofs.SpellLemmas.{no_int}
use Rattle.bulk_load.proofs.values.int_value.Goals as goal

pub returns-in-None : goal.returns-in-None
returns-in-None c = no_int c.args.bytes.now c.in-None.ensures
