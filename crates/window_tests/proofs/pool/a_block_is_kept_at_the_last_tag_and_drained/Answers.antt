use Rattle.std.proofs.Common.{◌≡◌, ◌<◌, ap, arith}
use Rattle.rma_layout.specs.Shape.{Shape}
use Rattle.window_tests.proofs.Given.{low_after_renew}
use Rattle.window_tests.proofs.pool.a_block_is_kept_at_the_last_tag_and_drained.Goals as goal

pub drain_spares-requires-clause-tags : goal.drain_spares-requires-clause-tags
drain_spares-requires-clause-tags g c = λ home below.
    let shape : Shape = record { ranks = 1; blocks = 8; words = 8; buckets = 2; slots = 2 } in
    let made : c.in_ok-geometry.geometry ≡ shape = c.in_ok-geometry.ensures.0 in
    low_after_renew c.give.new.rank.view c.renew.new.self.view c.renew.ensures.view home
    (omega (
      arith,
      below,
      ap (λ s. s.ranks) c.in_ok-window.ensures.shape,
      ap (λ (s : Shape). s.ranks) made,
    ))
