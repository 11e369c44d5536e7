use Rattle.std.proofs.Common.{◌≡◌, take}
use Rattle.csv.specs.Records.{fields_of}
use Rattle.text_words.specs.Forms.{texts}
use Rattle.bulk_load.proofs.records.fields_of.Given as goal

abbrev pub invariant-loop-i : goal.invariant-loop-i
invariant-loop-i l = texts l.fields.items ≡ take l.i (fields_of l.row)
