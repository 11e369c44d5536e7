use Rattle.std.proofs.Common.{◌≡◌, ◌++◌, drop}
use Rattle.std.specs.List.{flat_map, AllByRecursion}
use Rattle.text_words.specs.Spelling.{spaced, IsPart}
use Rattle.script_text.specs.CallLines.{line_of_call, parts_of}
use Rattle.script_text.specs.Shown.{fields_before, end_parts}
use Rattle.script_text.proofs.call_printer.print_call.Given as goal

-- what is printed so far and what is left are the line
abbrev pub invariant-loop-field : goal.invariant-loop-field
invariant-loop-field l = record {
  printed : l.out.items ++ flat_map spaced (fields_before (drop l.field-index l.field-items) (end_parts l.end)) ≡ l.fn.out.items ++ line_of_call l.fn.call;
  parts : AllByRecursion IsPart (fields_before (drop l.field-index l.field-items) (end_parts l.end)) → AllByRecursion IsPart (parts_of l.fn.call);
}
