use Rattle.std.proofs.Common.{◌≡◌, ◌+◌, ◌<◌, ◌^◌, ◌∙◌, ◌∷◌, ap, sym, subst, suc, drop, drop-cons, length, sum_by}
use Rattle.serial_run.proofs.Running.{room_for}
use Rattle.serial_run.proofs.runner.run_script.Goals as goal

pub run_section-requires : goal.run_section-requires
run_section-requires c =
    let items = c.as_slice-section-items.result.now in
    let i = c.loop-index.index in
    let txns = c.section-item.result in
    let split : drop i items ≡ txns ∷ drop (suc i) items = drop-cons items i txns c.loop-index-test.true ∙ ap (λ ts. ts ∷ drop (suc i) items) (sym c.section-item.is) in
    let small = subst (λ script. c.args.entries + sum_by length script < 2 ^ 64) (sym c.as_slice-section-items.ensures) c.requires in
    room_for (drop i items) (drop (suc i) items) txns c.loop-index.run.writes c.args.entries (sum_by length items) split c.loop-index.invariant.room small
