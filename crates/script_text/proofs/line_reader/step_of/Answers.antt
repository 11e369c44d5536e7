use Rattle.std.proofs.Common.{rules}
use Rattle.script_text.specs.Faults.{IsClean}
use Rattle.script_text.proofs.StepLemmas.{has_no_word, is_misplaced, is_ill_quoted, has_wrong_words, is_step}
use Rattle.script_text.proofs.line_reader.step_of.Goals as goal

pub returns-in_default : goal.returns-in_default
returns-in_default c =
    let clean : IsClean c.args.line.now = search rules in
    has_no_word c.args.stage c.args.line.now c.opening_of.result.0.now _ clean c.opening_of.ensures c.in_default.ensures

pub returns-then-not-may_stand : goal.returns-then-not-may_stand
returns-then-not-may_stand c =
    let clean : IsClean c.args.line.now = search rules in
    is_misplaced c.args.stage c.args.line.now c.opening_of.result.0.now _ c.in-Some.head clean c.opening_of.ensures c.in-Some.ensures (search rules)

pub returns-then-not-branch : goal.returns-then-not-branch
returns-then-not-branch c =
    let clean : IsClean c.args.line.now = search rules in
    is_ill_quoted c.args.stage c.args.line.now c.opening_of.result.0.now _ c.in-Some.head c.in_ok-find_words.field-0 _ clean c.opening_of.ensures c.in-Some.ensures (search rules) (search rules) c.in_ok-find_words.ensures

pub returns-in-Ok : goal.returns-in-Ok
returns-in-Ok c =
    is_step c.args.stage c.args.line.now c.opening_of.result.0.now _ c.in-Some.head c.in_ok-find_words.field-0 _ c.in-Ok.step c.opening_of.ensures c.in-Some.ensures (search rules) (search rules) c.in_ok-find_words.ensures (rw (← c.as_slice.ensures.value) c.in-Ok.ensures)

pub returns-in-Err : goal.returns-in-Err
returns-in-Err c =
    let clean : IsClean c.args.line.now = search rules in
    rw (c.stop_of.ensures) (has_wrong_words c.args.stage c.args.line.now c.opening_of.result.0.now _ c.in-Some.head c.in_ok-find_words.field-0 _ c.in-Err.wrong clean c.opening_of.ensures c.in-Some.ensures (search rules) (search rules) c.in_ok-find_words.ensures (rw (← c.as_slice.ensures.value) c.in-Err.ensures))
