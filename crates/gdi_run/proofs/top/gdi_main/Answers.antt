use Rattle.std.proofs.Common.{◌≡◌, ◌∙◌, map, ap, subst, sym}
use Rattle.command_words.specs.Commands.{Asks, TellsWhy}
use Rattle.gdi_run.specs.declared.status.Status.TheVariants.{Usage}
use Rattle.gdi_run.specs.Commands.{Names}
use Rattle.gdi_run.specs.Answer.{IsAnswer}
use Rattle.gdi_run.proofs.Answered.{answers, answers_usage, drill_range, no_report}
use Rattle.gdi_run.proofs.top.gdi_main.Goals as goal

pub returns-in-Ok-Run : goal.returns-in-Ok-Run
returns-in-Ok-Run g c =
    let these : map (λ text. text.now) c.as_slice-2.result.now ≡ c.in-Some.others.now = ap (map (λ text. text.now)) c.as_slice-2.ensures.value ∙ c.in-Ok.ensures in
    let names : Names c.args.words.now c.in-Some.name c.in-Some.others.now = subst (λ words. Names words c.in-Some.name c.in-Some.others.now) c.as_slice.ensures c.in-Some.ensures in
    answers c.args.words.now c.in-Some.name c.in-Some.others.now names (g.F.Shelf.told c.args.shelf.now) (g.F.Shelf.told c.run_files.new.shelf)
    (g.K.Sink.taken c.args.out.now) (g.K.Sink.taken c.run_files.new.out) _ c.run_files.result
    (subst (Asks c.in-Some.name c.in-Some.others.now) c.in-Ok-Run.field-0-is (subst (λ words. Asks c.in-Some.name words c.in-Ok-Run.field-0) these c.in-Ok-Run.ensures)) c.run_files.ensures

pub returns-in-Ok-Check : goal.returns-in-Ok-Check
returns-in-Ok-Check g c =
    let these : map (λ text. text.now) c.as_slice-2.result.now ≡ c.in-Some.others.now = ap (map (λ text. text.now)) c.as_slice-2.ensures.value ∙ c.in-Ok.ensures in
    let names : Names c.args.words.now c.in-Some.name c.in-Some.others.now = subst (λ words. Names words c.in-Some.name c.in-Some.others.now) c.as_slice.ensures c.in-Some.ensures in
    answers c.args.words.now c.in-Some.name c.in-Some.others.now names (g.F.Shelf.told c.args.shelf.now) (g.F.Shelf.told c.check_files.new.shelf)
    (g.K.Sink.taken c.args.out.now) (g.K.Sink.taken c.check_files.new.out) _ c.check_files.result
    (subst (Asks c.in-Some.name c.in-Some.others.now) c.in-Ok-Check.field-0-is (subst (λ words. Asks c.in-Some.name words c.in-Ok-Check.field-0) these c.in-Ok-Check.ensures)) c.check_files.ensures

pub returns-in-Ok-Report : goal.returns-in-Ok-Report
returns-in-Ok-Report g c =
    let these : map (λ text. text.now) c.as_slice-2.result.now ≡ c.in-Some.others.now = ap (map (λ text. text.now)) c.as_slice-2.ensures.value ∙ c.in-Ok.ensures in
    let names : Names c.args.words.now c.in-Some.name c.in-Some.others.now = subst (λ words. Names words c.in-Some.name c.in-Some.others.now) c.as_slice.ensures c.in-Some.ensures in
    absurd (no_report c.args.words.now c.in-Some.name c.in-Some.others.now names _
    (subst (Asks c.in-Some.name c.in-Some.others.now) c.in-Ok-Report.field-0-is (subst (λ words. Asks c.in-Some.name words c.in-Ok-Report.field-0) these c.in-Ok-Report.ensures)))

pub tell_drill-requires-clause-some : goal.tell_drill-requires-clause-some
tell_drill-requires-clause-some g c =
    let these : map (λ text. text.now) c.as_slice-2.result.now ≡ c.in-Some.others.now = ap (map (λ text. text.now)) c.as_slice-2.ensures.value ∙ c.in-Ok.ensures in
    let names : Names c.args.words.now c.in-Some.name c.in-Some.others.now = subst (λ words. Names words c.in-Some.name c.in-Some.others.now) c.as_slice.ensures c.in-Some.ensures in
    (drill_range c.args.words.now c.in-Some.name c.in-Some.others.now names _ _
    (subst (Asks c.in-Some.name c.in-Some.others.now) c.in-Ok-Drill.field-0-is (subst (λ words. Asks c.in-Some.name words c.in-Ok-Drill.field-0) these c.in-Ok-Drill.ensures))).0

pub tell_drill-requires-clause-few : goal.tell_drill-requires-clause-few
tell_drill-requires-clause-few g c =
    let these : map (λ text. text.now) c.as_slice-2.result.now ≡ c.in-Some.others.now = ap (map (λ text. text.now)) c.as_slice-2.ensures.value ∙ c.in-Ok.ensures in
    let names : Names c.args.words.now c.in-Some.name c.in-Some.others.now = subst (λ words. Names words c.in-Some.name c.in-Some.others.now) c.as_slice.ensures c.in-Some.ensures in
    (drill_range c.args.words.now c.in-Some.name c.in-Some.others.now names _ _
    (subst (Asks c.in-Some.name c.in-Some.others.now) c.in-Ok-Drill.field-0-is (subst (λ words. Asks c.in-Some.name words c.in-Ok-Drill.field-0) these c.in-Ok-Drill.ensures))).1

pub returns-in-Ok-Drill : goal.returns-in-Ok-Drill
returns-in-Ok-Drill g c =
    let these : map (λ text. text.now) c.as_slice-2.result.now ≡ c.in-Some.others.now = ap (map (λ text. text.now)) c.as_slice-2.ensures.value ∙ c.in-Ok.ensures in
    let names : Names c.args.words.now c.in-Some.name c.in-Some.others.now = subst (λ words. Names words c.in-Some.name c.in-Some.others.now) c.as_slice.ensures c.in-Some.ensures in
    answers c.args.words.now c.in-Some.name c.in-Some.others.now names (g.F.Shelf.told c.args.shelf.now) (g.F.Shelf.told c.args.shelf.now)
    (g.K.Sink.taken c.args.out.now) (g.K.Sink.taken c.tell_drill.new.out) _ c.tell_drill.result
    (subst (Asks c.in-Some.name c.in-Some.others.now) c.in-Ok-Drill.field-0-is (subst (λ words. Asks c.in-Some.name words c.in-Ok-Drill.field-0) these c.in-Ok-Drill.ensures))
    (c.tell_drill.ensures (g.F.Shelf.told c.args.shelf.now))

pub returns-in-Err-Usage : goal.returns-in-Err-Usage
returns-in-Err-Usage g c =
    let these : map (λ text. text.now) c.as_slice-2.result.now ≡ c.in-Some.others.now = ap (map (λ text. text.now)) c.as_slice-2.ensures.value ∙ c.in-Ok.ensures in
    let names : Names c.args.words.now c.in-Some.name c.in-Some.others.now = subst (λ words. Names words c.in-Some.name c.in-Some.others.now) c.as_slice.ensures c.in-Some.ensures in
    subst (λ kind. IsAnswer c.args.words.now (g.F.Shelf.told c.args.shelf.now) (g.F.Shelf.told c.args.shelf.now) (g.K.Sink.taken c.args.out.now) (g.K.Sink.taken c.args.out.now) (Usage kind)) (sym c.in-Err-Usage.kind-is)
    (answers_usage c.args.words.now c.in-Some.name c.in-Some.others.now names (g.F.Shelf.told c.args.shelf.now)
    (g.K.Sink.taken c.args.out.now) c.in-Err-Usage.kind
    (subst (TellsWhy c.in-Some.name c.in-Some.others.now) c.in-Err-Usage.field-0-is (subst (λ words. TellsWhy c.in-Some.name words c.in-Err-Usage.field-0) these c.in-Err-Usage.ensures)))
