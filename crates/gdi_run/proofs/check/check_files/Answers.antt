use Rattle.std.proofs.Common.{◌≡◌, ◌∙◌, ap, subst}
use Rattle.command_words.specs.declared.command.Command.TheVariants.{Check}
use Rattle.plain_run.specs.Given.{given}
use Rattle.plain_check.specs.Refusals.{IsUnchecked}
use Rattle.gdi_run.specs.Commands.{Held}
use Rattle.gdi_run.proofs.Ended.{check_refused, ends_unread}
use Rattle.gdi_run.proofs.check.check_files.Goals as goal

pub returns-in-Err : goal.returns-in-Err
returns-in-Err g c =
    ends_unread (g.F.Shelf.told c.args.shelf.now) (g.F.Shelf.told c.read_check_files.new.shelf) (Check c.args.source.now c.args.script c.args.output) (g.K.Sink.taken c.args.out.now) _ c.in-Err.status c.in-Err.ensures

pub returns-in-Err-verdict : goal.returns-in-Err-verdict
returns-in-Err-verdict g c =
    let texts_are : given c.texts.result ≡ c.in-Ok.files.texts = c.texts.ensures ∙ ap (λ (held : Held). held.texts) c.files.view_is in
    let output_is : c.as_slice.result.now ≡ c.in-Ok.files.output = c.as_slice.ensures ∙ ap (λ (held : Held). held.output) c.files.view_is in
    check_refused (g.F.Shelf.told c.args.shelf.now) (g.F.Shelf.told c.read_check_files.new.shelf) c.args.source.now c.args.script c.args.output c.in-Ok.files (g.K.Sink.taken c.args.out.now)
    c.in-Ok.ensures c.in-Err-verdict.refused c.status_of_check.result
    (subst (λ texts. IsUnchecked c.args.source.now.geometry texts c.in-Ok.files.output c.in-Err-verdict.refused) texts_are
    (subst (λ output. IsUnchecked c.args.source.now.geometry (given c.texts.result) output c.in-Err-verdict.refused) output_is c.in-Err-verdict.ensures)) c.status_of_check.ensures
