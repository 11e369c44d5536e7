use Rattle.std.proofs.Common.{[]}
use Rattle.text_words.specs.Forms.{texts}
use Rattle.text_words.proofs.TestLemmas.{texts_front}
use Rattle.bulk_load.proofs.ColumnLemmas.{front_of, columns_go_on}
use Rattle.bulk_load.proofs.columns.+put_columns.Goals as goal

pub returns : goal.returns
returns t c =
    columns_go_on c.args.owner c.args.columns.now (texts c.args.fields.now) c.column-item.result _ _ _ c.args.calls.now c.put_field.new.calls c.put_columns.new.calls c.put_columns.result
    (front_of c.args.columns.now c.column-item.result c.in-len1-up.len_at_least c.column-item.is) (texts_front c.args.fields.now (record { ref_ptr = (0, 0); now = [] }) c.in-len1-up-fields.len_at_least)
    (c.in_ok-put_field.ensures) c.put_columns.ensures
