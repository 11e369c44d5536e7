use Rattle.std.proofs.Common.{subst, sym}
use Rattle.std.specs.Prelude.{MatchOption}
use Rattle.graph_model.specs.LegalRun.{IsLegalRun, graph_of_run}
use Rattle.run_check.specs.Clauses.{FailsFirst, IsPlaced}
use Rattle.run_replay.proofs.Verdicts.{judged, none_told}
use Rattle.run_replay.proofs.verdict.first_illegal.Goals as goal

pub returns : goal.returns
returns c = λ load behind loaded.
    let shape = c.args.graph.shape in
    let script = c.args.script.now in
    let run = c.args.run.now in
    let placed : IsPlaced c.args.entries script run = none_told c.in_ok-illegal.field-0 _ _ c.in_default.is c.in_ok-illegal.ensures in
    subst (λ first. MatchOption first (IsLegalRun shape load script run) (λ illegal. FailsFirst shape (graph_of_run shape load script run) c.args.entries script run illegal.clause illegal.place))
    (sym c.first_of.ensures)
    (judged c.args.graph load c.args.entries script run c.in_ok-unlike.unlike behind loaded placed (c.in_ok-unlike.ensures load behind))
