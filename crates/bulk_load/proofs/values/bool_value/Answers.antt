use Rattle.bulk_load.proofs.SpellLemmas.{no_bool}
use Rattle.bulk_load.proofs.values.bool_value.Goals as goal

pub returns-in-None : goal.returns-in-None
returns-in-None c = no_bool c.args.bytes.now c.in-None.ensures
