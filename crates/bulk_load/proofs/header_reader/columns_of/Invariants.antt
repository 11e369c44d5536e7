use Rattle.std.proofs.Common.{drop}
use Rattle.text_words.specs.Forms.{texts}
use Rattle.bulk_load.proofs.HeaderLemmas.{ColumnsSoFar}
use Rattle.bulk_load.proofs.header_reader.columns_of.Given as goal

abbrev pub invariant-loop-field : goal.invariant-loop-field
invariant-loop-field l = ColumnsSoFar l.graph.graph (texts l.fields) l.columns (texts (drop l.field-index l.fields))
