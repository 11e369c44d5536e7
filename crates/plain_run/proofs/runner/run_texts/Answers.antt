use Rattle.std.proofs.Common.{arith}
use Rattle.plain_run.specs.Loading.{txns_of}
use Rattle.plain_run.proofs.LoadLemmas.{few_entries, legal_behind}
use Rattle.plain_run.proofs.ToldReplies.{legal_is_told}
use Rattle.plain_run.proofs.runner.run_texts.Goals as goal

pub run_script-requires : goal.run_script-requires
run_script-requires c =
    let few = few_entries c.in_ok-workload.field-0.workload.load in
    let entries = c.in_ok-graph.ensures.entries in
    let txns = c.in_ok-workload.ensures.0.script.form.few_txns in
    omega (arith, few, entries, txns)

pub returns : goal.returns
returns c =
    let workload = c.in_ok-workload.field-0.workload in
    let run = c.in_ok-run.run'.printed in
    let legal = legal_behind c.args.geometry workload.load workload.script c.in_ok-graph.field-0 c.in_ok-run.run' c.in_ok-graph.ensures c.in_ok-run.ensures in
    record {
      workload = workload;
      run = run;
      are = c.in_ok-workload.ensures.0;
      room = c.in_ok-graph.ensures.room;
      legal = legal;
      printed = (c.in_ok-print_outcomes.ensures.alone (legal_is_told c.args.geometry (txns_of workload.load) workload.script run legal)).output;
    }
