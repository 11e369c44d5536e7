use Rattle.std.proofs.Common.{◌∙◌}
use Rattle.clap.specs.Words.{found_of}
use Rattle.command_words.specs.Items.{values_of}
use Rattle.command_words.proofs.Listed.{value_listed}
use Rattle.command_words.proofs.values.value_of.Goals as goal

pub returns : goal.returns
returns c = λ options items holds there few.
    let option = c.args.option.now in
    value_listed (found_of c.args.matches.now) option (values_of option items) c.get_str.result c.get_str.ensures (holds.values option there) few
