use Rattle.std.proofs.Common.{subst, sym}
use Rattle.drill_run.specs.Drills.{PrintsDrill, drill_shape, load_of}
use Rattle.plain_run.specs.Running.{TellsFull}
use Rattle.gdi_run.proofs.Ended.{drill_cut, drill_refused, drill_written}
use Rattle.gdi_run.proofs.drilling.tell_drill.Goals as goal

pub returns-in-Err : goal.returns-in-Err
returns-in-Err g c =
    λ shelf. drill_refused shelf c.args.size c.args.seed (g.K.Sink.taken c.args.out.now) c.in-Err.refused c.status_of.result
    (subst (λ shape. TellsFull shape (load_of c.args.size c.args.seed) c.in-Err.refused) c.drill_geometry.ensures c.in-Err.ensures) c.status_of.ensures

pub returns-in-Ok-write_all : goal.returns-in-Ok-write_all
returns-in-Ok-write_all g c =
    let prints : PrintsDrill drill_shape c.args.size c.args.seed c.in-Ok.summary =
    subst (λ shape. PrintsDrill shape c.args.size c.args.seed c.in-Ok.summary) c.drill_geometry.ensures c.in-Ok.ensures in
    λ shelf. drill_written shelf c.args.size c.args.seed (g.K.Sink.taken c.args.out.now) (g.K.Sink.taken c.write_all.new.out) c.in-Ok-write_all.field-0 c.as_slice.result.now
    (subst (PrintsDrill drill_shape c.args.size c.args.seed) (sym c.as_slice.ensures) prints) c.in-Ok-write_all.ensures

pub returns : goal.returns
returns g c =
    let prints : PrintsDrill drill_shape c.args.size c.args.seed c.in-Ok.summary =
    subst (λ shape. PrintsDrill shape c.args.size c.args.seed c.in-Ok.summary) c.drill_geometry.ensures c.in-Ok.ensures in
    λ shelf. drill_cut shelf c.args.size c.args.seed (g.K.Sink.taken c.args.out.now) (g.K.Sink.taken c.write_all.new.out) c.in-Err-write_all.field-0 c.as_slice.result.now
    (subst (PrintsDrill drill_shape c.args.size c.args.seed) (sym c.as_slice.ensures) prints) c.in-Err-write_all.ensures
