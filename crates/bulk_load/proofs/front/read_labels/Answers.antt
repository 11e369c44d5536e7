use Rattle.std.proofs.Common.{◌≡◌, ◌<◌, [], length, arith, true, false}
use Rattle.std.specs.List.{list_any}
use Rattle.std.specs.Str.{bytes_eq}
use Rattle.bulk_load.proofs.ApartLemmas.{labels_start, labels_go_on, labels_end, no_name_no_labels, twice_no_labels}
use Rattle.bulk_load.proofs.front.read_labels.Goals as goal

pub pieces-init : goal.pieces-init
pieces-init c =
    let some : 0 < length c.args.field.now = grind (arith, c.is_empty.ensures, c.if-is_empty.false) in
    rw c.new-labels.ensures (labels_start c.args.field.now some)

pub returns-in_default : goal.returns-in_default
returns-in_default c =
    let far = rw c.first_piece.ensures.pieces at c.pieces.invariant in
    no_name_no_labels c.args.field.now c.pieces.labels _ c.first_piece.result.0.now far.items c.in_default.ensures

pub returns-then-is_among : goal.returns-then-is_among
returns-then-is_among c =
    let far = rw c.first_piece.ensures.pieces at c.pieces.invariant in
    let twice : list_any (bytes_eq c.first_piece.result.0.now) c.pieces.labels ≡ true = rw (← c.in-Some.ensures.0) (grind (arith, c.is_among.ensures, c.if-is_among.true, c.as_slice.ensures)) in
    twice_no_labels c.args.field.now c.pieces.labels _ c.first_piece.result.0.now far.items twice

pub pieces-preserved : goal.pieces-preserved
pieces-preserved c =
    let pieces = rw c.in-Some-behind.is at c.first_piece.ensures.pieces in
    let far = rw pieces at c.pieces.invariant in
    let fresh : list_any (bytes_eq c.first_piece.result.0.now) c.pieces.labels ≡ false = rw (← c.in-Some.ensures.0) (grind (arith, c.is_among.ensures, c.if-is_among.false, c.as_slice.ensures)) in
    rw (c.in_ok-push.ensures.ok, c.in-Some.ensures.0) (labels_go_on c.args.field.now c.pieces.labels _ c.first_piece.result.0.now far c.in-Some.ensures.1 fresh)

pub returns-in-None : goal.returns-in-None
returns-in-None c =
    let pieces = rw c.in-None.is at c.first_piece.ensures.pieces in
    let far = rw pieces at c.pieces.invariant in
    let fresh : list_any (bytes_eq c.first_piece.result.0.now) c.pieces.labels ≡ false = rw (← c.in-Some.ensures.0) (grind (arith, c.is_among.ensures, c.if-is_among.false, c.as_slice.ensures)) in
    rw (c.in_ok-push.ensures.ok, c.in-Some.ensures.0) (labels_end c.args.field.now _ (labels_go_on c.args.field.now c.pieces.labels [] c.first_piece.result.0.now far c.in-Some.ensures.1 fresh))
