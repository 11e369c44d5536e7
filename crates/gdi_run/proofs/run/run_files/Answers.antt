use Rattle.std.proofs.Common.{[], None, subst, sym}
use Rattle.command_words.specs.declared.command.Command.TheVariants.{Run}
use Rattle.plain_run.specs.Running.{PrintsLegalRun, TellsWhy}
use Rattle.gdi_run.proofs.Ended.{a_script_is_named, ends_cut, ends_unread, ends_written, run_read, run_refused, short_read_all}
use Rattle.gdi_run.proofs.run.run_files.Goals as goal

pub returns-in-Err : goal.returns-in-Err
returns-in-Err g c =
    ends_unread (g.F.Shelf.told c.args.shelf.now) (g.F.Shelf.told c.read_files.new.shelf) (Run c.args.source.now c.args.script) (g.K.Sink.taken c.args.out.now) _ c.in-Err.status c.in-Err.ensures

pub returns-in-Err-run_texts : goal.returns-in-Err-run_texts
returns-in-Err-run_texts g c =
    run_refused (g.F.Shelf.told c.args.shelf.now) (g.F.Shelf.told c.read_files.new.shelf) c.args.source.now c.args.script c.in-Ok.files (g.K.Sink.taken c.args.out.now) c.in-Ok.ensures
    c.in-Err-run_texts.refused c.status_of.result (subst (λ texts. TellsWhy c.args.source.now.geometry texts c.in-Err-run_texts.refused) c.texts.ensures c.in-Err-run_texts.ensures) c.status_of.ensures

pub returns-in-Ok-write_all : goal.returns-in-Ok-write_all
returns-in-Ok-write_all g c =
    let old = g.F.Shelf.told c.args.shelf.now in
    let new = g.F.Shelf.told c.read_files.new.shelf in
    let legal : PrintsLegalRun c.args.source.now.geometry c.in-Ok.files c.in-Ok-run_texts.output =
    subst (λ texts. PrintsLegalRun c.args.source.now.geometry texts c.in-Ok-run_texts.output) c.texts.ensures c.in-Ok-run_texts.ensures in
    ends_written old new (Run c.args.source.now c.args.script) (record { texts = c.in-Ok.files; output = [] }) (g.K.Sink.taken c.args.out.now) (g.K.Sink.taken c.write_all.new.out)
    (run_read old c.args.source.now c.args.script c.in-Ok.files c.in-Ok.ensures.ok.0) (λ status. short_read_all old new status c.in-Ok.ensures.ok.1)
    (λ none. absurd (a_script_is_named c.args.source.now c.args.script.now None none)) c.in-Ok.ensures.files
    c.in-Ok-write_all.field-0 c.as_slice.result.now (subst (PrintsLegalRun c.args.source.now.geometry c.in-Ok.files) (sym c.as_slice.ensures) legal) c.in-Ok-write_all.ensures

pub returns : goal.returns
returns g c =
    let old = g.F.Shelf.told c.args.shelf.now in
    let new = g.F.Shelf.told c.read_files.new.shelf in
    let legal : PrintsLegalRun c.args.source.now.geometry c.in-Ok.files c.in-Ok-run_texts.output =
    subst (λ texts. PrintsLegalRun c.args.source.now.geometry texts c.in-Ok-run_texts.output) c.texts.ensures c.in-Ok-run_texts.ensures in
    ends_cut old new (Run c.args.source.now c.args.script) (record { texts = c.in-Ok.files; output = [] }) (g.K.Sink.taken c.args.out.now) (g.K.Sink.taken c.write_all.new.out)
    (run_read old c.args.source.now c.args.script c.in-Ok.files c.in-Ok.ensures.ok.0) (λ status. short_read_all old new status c.in-Ok.ensures.ok.1)
    (λ none. absurd (a_script_is_named c.args.source.now c.args.script.now None none)) c.in-Ok.ensures.files
    c.in-Err-write_all.field-0 c.as_slice.result.now (subst (PrintsLegalRun c.args.source.now.geometry c.in-Ok.files) (sym c.as_slice.ensures) legal) c.in-Err-write_all.ensures
