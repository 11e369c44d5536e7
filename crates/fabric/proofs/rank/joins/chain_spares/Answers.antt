use Rattle.std.proofs.Common.{◌<◌, [], subst, sym, ap, ◌∙◌, arith}
use Rattle.rma_layout.specs.Placement.{IsBlock, Place}
use Rattle.window_rule.specs.View.{View}
use Rattle.window_rule.specs.Spares.{SpareEnds}
use Rattle.window_rule.specs.Partition.{places_of, times}
use Rattle.fabric.proofs.SparesJoined.{last_spare_is, places-chained}
use Rattle.fabric.proofs.rank.joins.chain_spares.Goals as goal

pub new-last-requires : goal.new-last-requires
new-last-requires g c =
    let ends : SpareEnds = record { firsts = c.args.firsts.now; lasts = c.args.lasts.now } in
    let blocks = ap (λ s. s.blocks) c.geometry.ensures in
    let same = ap (λ s. s.ranks) c.geometry.ensures in
    let below : c.loop-home.home < 64 = omega (
      arith,
      c.keeps_ranges.ensures.ranks.1,
      ap (λ s. s.ranks) c.geometry-2.ensures,
      c.ranks-home-end.ensures.value,
    ) in
    let last = last_spare_is c.args.window.now.shape c.args.seat.now.me.0.private ends
    c.loop-home.home below c.if-firsts-home-ne0.true c.requires.has in
    omega (arith, last.free.is_block.1, c.keeps_ranges.ensures.blocks.1)

pub link_seat-requires-clause-block : goal.link_seat-requires-clause-block
link_seat-requires-clause-block g c =
    let ends : SpareEnds = record { firsts = c.args.firsts.now; lasts = c.args.lasts.now } in
    let same = ap (λ s. s.ranks) c.geometry.ensures in
    let below : c.loop-home.home < 64 = omega (
      arith,
      c.keeps_ranges.ensures.ranks.1,
      ap (λ s. s.ranks) c.geometry-2.ensures,
      c.ranks-home-end.ensures.value,
    ) in
    let last = last_spare_is c.args.window.now.shape c.args.seat.now.me.0.private ends
    c.loop-home.home below c.if-firsts-home-ne0.true c.requires.has in
    subst (IsBlock c.args.window.now.shape) (sym c.new-last.ensures) last.free.is_block

pub link_seat-requires-clause-may : goal.link_seat-requires-clause-may
link_seat-requires-clause-may g c =
    let mine : SpareEnds = record { firsts = c.args.mine.now; lasts = [] } in
    let ends : SpareEnds = record { firsts = c.args.firsts.now; lasts = c.args.lasts.now } in
    let same = ap (λ s. s.ranks) c.geometry.ensures in
    let below : c.loop-home.home < 64 = omega (
      arith,
      c.keeps_ranges.ensures.ranks.1,
      ap (λ s. s.ranks) c.geometry-2.ensures,
      c.ranks-home-end.ensures.value,
    ) in
    let last = last_spare_is c.args.window.now.shape c.args.seat.now.me.0.private ends
    c.loop-home.home below c.if-firsts-home-ne0.true c.requires.has in
    let places = ap (λ (v : View g.row.L-Note.Denot). places_of v.private) c.loop-home.invariant.view
    ∙ places-chained mine.firsts ends c.loop-home.home c.args.seat.now.me.0.private in
    record {
      own = subst (λ list. 0 < times c.new-last.result list) (sym places)
          (subst (λ (p : Place). 0 < times p (places_of c.args.seat.now.me.0.private))
          (sym c.new-last.ensures) last.is_own);
      link = c.requires.small c.loop-home.home below;
    }
