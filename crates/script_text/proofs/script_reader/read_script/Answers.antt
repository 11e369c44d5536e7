use Rattle.std.proofs.Common.{rules, Err, ◌≡◌, length}
use Rattle.script_text.specs.Reading.{refused_at}
use Rattle.script_text.proofs.PartLemmas.{passes, tells_line, spelled_at_end, tells_at_end}
use Rattle.script_text.proofs.ScriptLaw.{is_answered, one_script}
use Rattle.script_text.proofs.script_reader.read_script.Goals as goal

pub loop-rest-preserved : goal.loop-rest-preserved
loop-rest-preserved c =
    passes c.args.bytes.now c.loop-rest.rest.now c.first_line.result.0.now c.first_line.result.1.now c.loop-rest.number c.loop-rest.reader _ c.loop-rest.invariant c.first_line.ensures.lines c.first_line.ensures.shorter (search rules)

pub returns-in-Err-clause-read : goal.returns-in-Err-clause-read
returns-in-Err-clause-read c =
    rw c.refused_at.ensures (tells_line c.args.bytes.now c.loop-rest.rest.now c.first_line.result.0.now c.first_line.result.1.now c.loop-rest.number c.loop-rest.reader c.in-Err.stop c.loop-rest.invariant c.first_line.ensures.lines c.in-Err.ensures)

pub returns-in-Err-clause-whole : goal.returns-in-Err-clause-whole
returns-in-Err-clause-whole c =
    rw c.refused_at.ensures (λ script spells. is_answered c.args.bytes.now script (Err (refused_at c.loop-rest.number c.in-Err.stop)) spells
    (tells_line c.args.bytes.now c.loop-rest.rest.now c.first_line.result.0.now c.first_line.result.1.now c.loop-rest.number c.loop-rest.reader c.in-Err.stop c.loop-rest.invariant c.first_line.ensures.lines c.in-Err.ensures))

pub returns-in-Ok-clause-whole : goal.returns-in-Ok-clause-whole
returns-in-Ok-clause-whole c =
    let none : length c.loop-rest.rest.now ≡ 0 = search rules in
    let read = spelled_at_end c.args.bytes.now c.loop-rest.rest.now c.loop-rest.number c.loop-rest.reader c.in-Ok.script c.loop-rest.invariant none c.in-Ok.ensures in
    λ script spells. one_script c.args.bytes.now c.in-Ok.script script read spells

pub returns-clause-whole : goal.returns-clause-whole
returns-clause-whole c =
    let none : length c.loop-rest.rest.now ≡ 0 = search rules in
    let told = tells_at_end c.args.bytes.now c.loop-rest.rest.now c.loop-rest.number c.loop-rest.reader c.in-Err-finish.stop c.loop-rest.invariant none c.in-Err-finish.ensures in
    rw c.refused_at-in-Err-finish.ensures (λ script spells. is_answered c.args.bytes.now script (Err (refused_at c.loop-rest.number c.in-Err-finish.stop)) spells told)
