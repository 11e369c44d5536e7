use Rattle.std.proofs.Common.{◌+◌, ◌*◌, ◌≤◌, arith, sym}
use Rattle.rma_layout.proofs.Bounds.{is_between-tells, window_words-le}
use Rattle.rma_layout.proofs.geometry.Geometry.new.Goals as goal

in_bounds : (c : goal.Else-not-is_between-5) → c.args.ranks * c.args.blocks * (c.args.words + 4) + c.args.ranks ≤ 64 * 1048575 * 68 + 64
in_bounds c =
    let ranks = is_between-tells 1 64 c.args.ranks (sym c.if-not-is_between.ensures) in
    let words = is_between-tells 8 64 c.args.words (sym c.if-not-is_between-2.ensures) in
    let blocks = is_between-tells (1 + c.args.buckets + c.args.slots) 1048575 c.args.blocks (sym c.if-not-is_between-5.ensures) in
    omega (arith, window_words-le c.args.ranks c.args.blocks c.args.words ranks.1 blocks.1 words.1)

pub overflow_mul-ranks-2 : goal.overflow_mul-ranks-2
overflow_mul-ranks-2 c = omega (arith, in_bounds c)

pub overflow_add-ranks : goal.overflow_add-ranks
overflow_add-ranks c = omega (arith, in_bounds c)

pub overflow_add-ranks-2 : goal.overflow_add-ranks-2
overflow_add-ranks-2 c = omega (arith, in_bounds c)
