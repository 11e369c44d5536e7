use Rattle.std.proofs.Common.{◌≡◌, true, false, sym, ◌∙◌, arith}
use Rattle.std.specs.List.{list_any}
use Rattle.std.specs.Str.{bytes_eq}
use Rattle.text_words.specs.Forms.{texts}
use Rattle.text_words.proofs.TestLemmas.{texts_at}
use Rattle.bulk_load.specs.declared.column.Column.{Column}
use Rattle.bulk_load.proofs.HeaderLemmas.{columns_go_on, no_such_column, column_twice, column_disagrees}
use Rattle.bulk_load.proofs.header_reader.columns_of.Goals as goal

pub returns-in_default : goal.returns-in_default
returns-in_default c =
    no_such_column c.args.graph.now.graph (texts c.args.fields.now) c.loop-field.columns _ _ _ (texts_at c.args.fields.now c.loop-field.field-index _ c.loop-field-test.true) c.loop-field.invariant c.in_default.ensures

pub returns-then-is_headed : goal.returns-then-is_headed
returns-then-is_headed c =
    let twice : list_any (λ (other : Column). bytes_eq c.in-Some.column.name other.name) c.loop-field.columns ≡ true = grind (arith, c.is_headed.ensures, c.if-is_headed.true, c.as_slice.ensures) in
    column_twice c.args.graph.now.graph (texts c.args.fields.now) c.loop-field.columns _ _ _ c.in-Some.column (texts_at c.args.fields.now c.loop-field.field-index _ c.loop-field-test.true) c.loop-field.invariant c.in-Some.ensures.0 c.in-Some.ensures.1 twice

pub returns-then-not-agrees : goal.returns-then-not-agrees
returns-then-not-agrees c =
    column_disagrees c.args.graph.now.graph (texts c.args.fields.now) c.loop-field.columns _ _ _ c.in-Some.column (texts_at c.args.fields.now c.loop-field.field-index _ c.loop-field-test.true) c.loop-field.invariant c.in-Some.ensures.0 c.in-Some.ensures.1 (sym c.agrees.ensures ∙ c.if-not-agrees.true)

pub loop-field-preserved : goal.loop-field-preserved
loop-field-preserved c =
    let fresh : list_any (λ (other : Column). bytes_eq c.in-Some.column.name other.name) c.loop-field.columns ≡ false = grind (arith, c.is_headed.ensures, c.if-is_headed.false, c.as_slice.ensures) in
    rw c.in_ok-push.ensures.ok (columns_go_on c.args.graph.now.graph (texts c.args.fields.now) c.loop-field.columns _ _ _ c.in-Some.column (texts_at c.args.fields.now c.loop-field.field-index _ c.loop-field-test.true) c.loop-field.invariant c.in-Some.ensures.0 c.in-Some.ensures.1 fresh (sym c.agrees.ensures ∙ c.if-not-agrees.false))
