use Rattle.std.proofs.Common.{[]}
use Rattle.std.proofs.lemmas.Result.{err_from_is_err_and}
use Rattle.text_words.specs.Forms.{texts}
use Rattle.text_words.proofs.TestLemmas.{texts_front, takes_atom, wrong_behind, fewer_left}
use Rattle.text_words.proofs.test_reader.test_of.Goals as goal

pub returns-in_err-atom-2 : goal.returns-in_err-atom-2
returns-in_err-atom-2 c =
    let p = err_from_is_err_and c.from_residual-in_err-atom-2.result c.from_residual-in_err-atom-2.ensures.1 in
    rw (p.1, p.2) (wrong_behind (texts c.args.words.now) c.loop-rest.test c.loop-rest.alternative (texts c.loop-rest.rest.now) _ _ _ c.loop-rest.invariant (texts_front c.loop-rest.rest.now (record { ref_ptr = (0, 0); now = [] }) c.in-len1-up.len_at_least) c.in_err-atom-2.ensures)

pub loop-rest-preserved : goal.loop-rest-preserved
loop-rest-preserved c =
    takes_atom (texts c.args.words.now) c.loop-rest.test c.loop-rest.alternative (texts c.loop-rest.rest.now) _ _ _ _ _ _ c.loop-rest.invariant (texts_front c.loop-rest.rest.now _ c.in-len1-up.len_at_least) c.in_ok-atom-2.ensures c.in_ok-add_atom.ensures

pub loop-rest-smaller : goal.loop-rest-smaller
loop-rest-smaller c = fewer_left c.loop-rest.rest.now c.in_ok-atom-2.after.now _ _ _ (texts_front c.loop-rest.rest.now (record { ref_ptr = (0, 0); now = [] }) c.in-len1-up.len_at_least) c.in_ok-atom-2.ensures
