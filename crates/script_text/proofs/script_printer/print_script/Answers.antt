use Rattle.std.proofs.Common.{◌≡◌, arith}
use Rattle.std.proofs.lemmas.Grind.{common_steps}
use Rattle.script_text.specs.Scripts.{script_text}
use Rattle.script_text.proofs.PrintedLemmas.{printed_is_spelled}
use Rattle.script_text.proofs.ScriptLaw.{spells_alone}
use Rattle.script_text.proofs.script_printer.print_script.Goals as goal

pub returns-clause-spelled : goal.returns-clause-spelled
returns-clause-spelled c =
    let is : c.from_vec.result ≡ script_text c.args.script.now = grind (arith, common_steps) in
    λ form. spells_alone c.from_vec.result c.args.script.now (printed_is_spelled c.args.script.now c.from_vec.result is form)
