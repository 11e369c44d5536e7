use Rattle.std.proofs.Common.{◌≡◌, ◌<◌, length, rules, ap, ◌∙◌, arith}
use Rattle.outcome_text.specs.declared.output_reader.Reader.{Reader}
use Rattle.outcome_text.proofs.OutputLaw.{reading_on, reading_ends, wrong_line, wrong_end, wrong_behind, run_at, output_alone, no_bytes}
use Rattle.outcome_text.proofs.output_reader.read_outcomes.Goals as goal

pub loop-line-preserved : goal.loop-line-preserved
loop-line-preserved c =
    reading_on c.args.bytes.now c.loop-line.rest.now c.in-Some.line.now c.in-Some.after.now c.loop-line.number c.loop-line.reader c.pass.new.self c.loop-line.invariant
    c.in-Some.ensures.0 c.in-Some.ensures.2 (rw c.in-On.is at c.in_ok-pass.ensures)

pub returns-in-Wrong-clause-read : goal.returns-in-Wrong-clause-read
returns-in-Wrong-clause-read c =
    wrong_line c.args.bytes.now c.loop-line.rest.now c.in-Some.line.now c.in-Some.after.now c.loop-line.number c.loop-line.reader c.pass.new.self c.loop-line.invariant
    c.in-Some.ensures.0 c.in-Some.ensures.1 (rw c.in-Wrong.is at c.in_ok-pass.ensures)

pub returns-in-Wrong-clause-whole : goal.returns-in-Wrong-clause-whole
returns-in-Wrong-clause-whole c =
    let wrong = wrong_line c.args.bytes.now c.loop-line.rest.now c.in-Some.line.now c.in-Some.after.now c.loop-line.number c.loop-line.reader c.pass.new.self c.loop-line.invariant
    c.in-Some.ensures.0 c.in-Some.ensures.1 (rw c.in-Wrong.is at c.in_ok-pass.ensures) in
    λ run output. wrong.no_output run output

pub returns-clause-read : goal.returns-clause-read
returns-clause-read c = wrong_end c.args.bytes.now c.loop-line.rest.now c.loop-line.number c.loop-line.reader c.loop-line.invariant c.in_default.ensures

pub returns-clause-whole : goal.returns-clause-whole
returns-clause-whole c =
    let wrong = wrong_end c.args.bytes.now c.loop-line.rest.now c.loop-line.number c.loop-line.reader c.loop-line.invariant c.in_default.ensures in
    λ run output. wrong.no_output run output

pub returns-then-not-is_empty-clause-read : goal.returns-then-not-is_empty-clause-read
returns-then-not-is_empty-clause-read c =
    let ends = rw c.in-Ends.is at c.in_ok-pass.ensures in
    let some : 0 < length c.in-Some.after.now = search rules in
    wrong_behind c.args.bytes.now c.loop-line.rest.now c.in-Some.line.now c.in-Some.after.now c.loop-line.number c.in-Ends.writes c.loop-line.reader c.loop-line.invariant
    c.in-Some.ensures.0 ends.0 ends.1 (λ none. absurd (omega (arith, ap length none)))

pub returns-then-not-is_empty-clause-whole : goal.returns-then-not-is_empty-clause-whole
returns-then-not-is_empty-clause-whole c =
    let ends = rw c.in-Ends.is at c.in_ok-pass.ensures in
    let some : 0 < length c.in-Some.after.now = search rules in
    let wrong = wrong_behind c.args.bytes.now c.loop-line.rest.now c.in-Some.line.now c.in-Some.after.now c.loop-line.number c.in-Ends.writes c.loop-line.reader c.loop-line.invariant
    c.in-Some.ensures.0 ends.0 ends.1 (λ none. absurd (omega (arith, ap length none))) in
    λ run output. wrong.no_output run output

pub returns-in-Ends-clause-read : goal.returns-in-Ends-clause-read
returns-in-Ends-clause-read c =
    let ends = rw c.in-Ends.is at c.in_ok-pass.ensures in
    let none : length c.in-Some.after.now ≡ 0 = search rules in
    reading_ends c.args.bytes.now c.loop-line.rest.now c.in-Some.line.now c.in-Some.after.now c.loop-line.number c.in-Ends.writes c.loop-line.reader _ c.loop-line.invariant
    c.in-Some.ensures.0 ends.0 ends.1 (no_bytes c.in-Some.after.now none) (c.in_ok-finish-in-Ends.ensures ∙ ap (λ (r : Reader). run_at r c.in-Ends.writes) ends.2)

pub returns-in-Ends-clause-whole : goal.returns-in-Ends-clause-whole
returns-in-Ends-clause-whole c =
    let ends = rw c.in-Ends.is at c.in_ok-pass.ensures in
    let none : length c.in-Some.after.now ≡ 0 = search rules in
    let read = reading_ends c.args.bytes.now c.loop-line.rest.now c.in-Some.line.now c.in-Some.after.now c.loop-line.number c.in-Ends.writes c.loop-line.reader _ c.loop-line.invariant
    c.in-Some.ensures.0 ends.0 ends.1 (no_bytes c.in-Some.after.now none) (c.in_ok-finish-in-Ends.ensures ∙ ap (λ (r : Reader). run_at r c.in-Ends.writes) ends.2) in
    λ run output. output_alone c.args.bytes.now _ run read output
