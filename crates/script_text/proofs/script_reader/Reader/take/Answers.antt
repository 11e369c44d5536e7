use Rattle.std.proofs.lemmas.Result.{err_from_is_err_and}
use Rattle.script_text.proofs.PartLemmas.{fault_is_wrong}
use Rattle.script_text.proofs.script_reader.Reader.take.Goals as goal

pub returns-in_err-step : goal.returns-in_err-step
returns-in_err-step c =
    let p = err_from_is_err_and c.from_residual.result c.from_residual.ensures.1 in
    rw (p.1, p.2) (fault_is_wrong c.args.self.now.place c.args.line.now _ c.in_err-step.ensures)
