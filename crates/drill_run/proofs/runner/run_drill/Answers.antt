use Rattle.std.proofs.Common.{◌+◌, ◌<◌, ◌^◌, ◌∙◌, ap, length, subst, sum_by, sym}
use Rattle.graph_model.specs.History.{load_entries}
use Rattle.serial_run.specs.Runs.{RunsScript}
use Rattle.plain_run.specs.Loading.{txns_of, HasLoaded}
use Rattle.drill_run.specs.Drills.{PrintsDrill}
use Rattle.drill_run.specs.Summaries.{summary_text}
use Rattle.drill_run.proofs.Behind.{short_enough}
use Rattle.drill_run.proofs.Whole.{prints_drill}
use Rattle.drill_run.proofs.runner.run_drill.Goals as goal

pub run_script-requires : goal.run_script-requires
run_script-requires c =
    let entries = c.in_ok-graph.field-0.entries in
    let count = c.in_ok-graph.ensures.entries ∙ ap (λ l. length (load_entries (txns_of l))) c.in_ok-load.ensures in
    subst (λ script. entries + sum_by length script < 2 ^ 64) (sym c.in_ok-script.ensures) (short_enough c.args.n c.args.seed entries c.requires.few count)

pub returns : goal.returns
returns c =
    let loaded = c.in_ok-graph.field-0 in
    let run = c.in_ok-run.run' in
    let has = subst (λ l. HasLoaded c.args.geometry l loaded) c.in_ok-load.ensures c.in_ok-graph.ensures in
    let runs = subst (λ script. RunsScript loaded.graph loaded.entries script run) c.in_ok-script.ensures c.in_ok-run.ensures in
    subst (PrintsDrill c.args.geometry c.args.n c.args.seed) (sym (c.in_ok-print.ensures ∙ ap summary_text c.in_ok-summary.ensures))
    (prints_drill c.args.geometry c.args.n c.args.seed c.requires.some c.requires.few loaded run has runs)
