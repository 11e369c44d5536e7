use Rattle.std.proofs.Common.{sym, subst, codes}
use Rattle.clap.specs.Words.{found_of}
use Rattle.command_words.specs.Items.{names_of}
use Rattle.command_words.specs.Names.{AreNames}
use Rattle.command_words.proofs.Listed.{names_listed, no_names_listed}
use Rattle.command_words.proofs.values.names_in.Goals as goal

pub returns-in-Some : goal.returns-in-Some
returns-in-Some c = λ options items holds.
    let same = names_listed (found_of c.args.matches.now) (codes "names") (names_of items) c.get_raw.result c.in-Some.names c.get_raw.ensures holds.names c.in-Some.is in
    subst (λ names. AreNames names c.counted.result) (sym same) c.counted.ensures

pub returns-in-None : goal.returns-in-None
returns-in-None c = λ options items holds.
    no_names_listed (found_of c.args.matches.now) (codes "names") (names_of items) c.get_raw.result c.get_raw.ensures holds.names c.in-None.is
