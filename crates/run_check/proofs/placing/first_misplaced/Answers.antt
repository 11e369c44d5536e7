use Rattle.run_check.proofs.Rising.{fitting_rise}
use Rattle.run_check.proofs.placing.first_misplaced.Goals as goal

pub first_out_of_order-early-requires : goal.first_out_of_order-early-requires
first_out_of_order-early-requires c =
    fitting_rise c.args.script.now c.as_slice-lines.result.now c.in_default.ensures
