use Rattle.std.proofs.Common.{ap, ◌∙◌, subst, sym, arith, Some}
use Rattle.std.specs.Option.{unwrap_or}
use Rattle.std.proofs.lemmas.Option.{get_or_from_slice_get}
use Rattle.rma_layout.specs.Placement.{IsBlock, metadata}
use Rattle.window_rule.specs.View.{View}
use Rattle.window_rule.specs.Known.{cell_of}
use Rattle.window_rule.specs.Reads.{MayPut}
use Rattle.window_rule.proofs.Trails.{follows_trans}
use Rattle.object_moves.proofs.Settling.{linked-more, link_known}
use Rattle.object_moves.proofs.storing.put_links.Goals as goal

pub settle-requires-clause-block : goal.settle-requires-clause-block
settle-requires-clause-block g c =
    subst (IsBlock c.args.window.now.shape) (get_or_from_slice_get c.args.blocks.now c.loop-j.j c.at.result.now metadata c.at.ensures)
    (c.requires.blocks c.loop-j.j c.loop-j-test.true)

pub settle-requires-clause-may : goal.settle-requires-clause-may
settle-requires-clause-may g c =
    subst (λ (v : View g.row.L-Note.Denot). MayPut v c.at.result.now) (sym c.loop-j.invariant.only)
    (subst (MayPut c.args.rank.now.view) (get_or_from_slice_get c.args.blocks.now c.loop-j.j c.at.result.now metadata c.at.ensures) (c.requires.may c.loop-j.j c.loop-j-test.true))

pub settle-requires-clause-known : goal.settle-requires-clause-known
settle-requires-clause-known g c = λ w is.
    let j = c.loop-j.j in
    let known = link_known c.args.blocks.now c.args.kept j w (sym c.link-in-loop-j.ensures ∙ is) in
    let block = get_or_from_slice_get c.args.blocks.now j c.at.result.now metadata c.at.ensures in
    ap (λ b. cell_of c.loop-j.rank.view.cells b 0) (sym block)
    ∙ (c.loop-j.invariant.linked.still j c.loop-j-test.true (omega arith) ∙ (c.requires.stand j known.0 ∙ ap Some known.1))

pub loop-j-preserved : goal.loop-j-preserved
loop-j-preserved g c =
    let old = c.loop-j.invariant in
    let both = linked-more c.args.blocks.now c.requires.once c.args.used c.args.rank.now.view c.loop-j.rank.view c.settle.new.rank.view c.loop-j.j
    c.at.result.now c.unwrap_or-word.result c.requires.used c.loop-j-test.true c.at.ensures (c.unwrap_or-word.ensures ∙ ap (λ o. unwrap_or o 0) c.link.ensures) old.only old.linked c.settle.ensures.view in
    record {
      window = c.settle.ensures.window ∙ old.window;
      spares = c.settle.ensures.spares ∙ old.spares;
      only = both.0;
      linked = both.1;
      follows = follows_trans c.args.rank.now.view c.loop-j.rank.view c.settle.new.rank.view old.follows c.settle.ensures.follows;
    }
