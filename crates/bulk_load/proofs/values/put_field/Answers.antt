use Rattle.std.proofs.Common.{◌<◌, length, arith, subst}
use Rattle.std.proofs.lemmas.Result.{err_from_is_err_and}
use Rattle.bulk_load.specs.Records.{Fields}
use Rattle.bulk_load.specs.Fields.{parts_of}
use Rattle.bulk_load.proofs.SpellLemmas.{PutSoFar, one_part, many_parts, put_alone, put_starts, put_goes_on, put_ends, put_fails}
use Rattle.bulk_load.proofs.values.put_field.Goals as goal

pub returns-then-not-column : goal.returns-then-not-column
returns-then-not-column c =
    let some : 0 < length c.args.field.now = grind (arith, c.is_empty.ensures, c.if-is_empty.false) in
    put_alone c.args.owner c.args.column.now c.args.field.now c.args.calls.now _ c.put_part.result (one_part c.args.column.now c.args.field.now some c.if-not-column.true) c.put_part.ensures

pub pieces-init : goal.pieces-init
pieces-init c =
    let some : 0 < length c.args.field.now = grind (arith, c.is_empty.ensures, c.if-is_empty.false) in
    let all = many_parts c.args.column.now c.args.field.now some c.if-not-column.false in
    subst (λ (left : Fields). PutSoFar c.args.owner c.args.column.now (parts_of c.args.column.now c.args.field.now) c.args.calls.now c.args.calls.now left) all
    (put_starts c.args.owner c.args.column.now (parts_of c.args.column.now c.args.field.now) c.args.calls.now)

pub returns-in_err-put_part : goal.returns-in_err-put_part
returns-in_err-put_part c =
    let p = err_from_is_err_and c.from_residual.result c.from_residual.ensures.1 in
    rw (p.1, p.2) (put_fails c.args.owner c.args.column.now (parts_of c.args.column.now c.args.field.now) c.args.calls.now c.pieces.calls _ _ _ (rw c.first_piece.ensures.pieces at c.pieces.invariant) c.in_err-put_part.ensures)

pub pieces-preserved : goal.pieces-preserved
pieces-preserved c =
    let one = c.in_ok-put_part.ensures in
    let pieces = rw c.in-Some.is at c.first_piece.ensures.pieces in
    put_goes_on c.args.owner c.args.column.now (parts_of c.args.column.now c.args.field.now) c.args.calls.now c.pieces.calls _ _ _ _ (rw pieces at c.pieces.invariant) one.1 one.2

pub returns-in-None : goal.returns-in-None
returns-in-None c =
    let one = c.in_ok-put_part.ensures in
    let pieces = rw c.in-None.is at c.first_piece.ensures.pieces in
    put_ends c.args.owner c.args.column.now (parts_of c.args.column.now c.args.field.now) c.args.calls.now _
    (put_goes_on c.args.owner c.args.column.now (parts_of c.args.column.now c.args.field.now) c.args.calls.now c.pieces.calls _ _ _ _ (rw pieces at c.pieces.invariant) one.1 one.2)
