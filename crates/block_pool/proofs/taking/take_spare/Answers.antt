use Rattle.std.proofs.Common.{◌≡◌, ◌<◌, subst, sym, ap, ◌∙◌, refl, arith, Some}
use Rattle.object_words.specs.Blocks.{on_rank}
use Rattle.window_rule.specs.Spares.{IsNoSpare, first_spare_of, own_next_of, without_spare}
use Rattle.window_rule.specs.Partition.{places_of, times}
use Rattle.window_rule.specs.Pool.{note_of}
use Rattle.block_pool.specs.Moves.{Unmoved}
use Rattle.block_pool.proofs.TriesKept.{noted_bounds, noted_unmoved}
use Rattle.block_pool.proofs.SparesTaken.{spare_at, spare_linked, spare_may, spare_own}
use Rattle.block_pool.proofs.taking.take_spare.Goals as goal

pub new-block-requires : goal.new-block-requires
new-block-requires g c =
    let h = spare_at _ _ _ _ c.args.home _ _ (ap (λ w. w.shape) c.requires.window) c.requires.home
    c.requires.some_spare c.first_spare-first.ensures.has c.first_spare-first.ensures.first refl in
    let shape = ap (λ s. s.blocks) c.geometry.ensures in
    omega (arith, h.may.is_block.1, shape, c.keeps_ranges.ensures.blocks.1)

pub next-next-requires-clause-block : goal.next-next-requires-clause-block
next-next-requires-clause-block g c =
    (spare_at _ _ _ _ c.args.home _ _ (ap (λ w. w.shape) c.requires.window) c.requires.home
    c.requires.some_spare c.first_spare-first.ensures.has c.first_spare-first.ensures.first
    c.new-block.ensures).may.is_block

pub use_spare-requires-clause-linked : goal.use_spare-requires-clause-linked
use_spare-requires-clause-linked g c =
    let h = spare_at _ _ _ _ c.args.home _ _ (ap (λ w. w.shape) c.requires.window) c.requires.home
    c.requires.some_spare c.first_spare-first.ensures.has c.first_spare-first.ensures.first
    c.new-block.ensures in
    subst (λ p. own_next_of c.next-next.new.self.view.private p ≡ Some c.next-next.result)
    (c.new-block.ensures ∙ (ap (on_rank c.args.home) c.first_spare-first.ensures.first
    ∙ ap (λ e. on_rank c.args.home (first_spare_of e c.args.home))
    (sym c.next-next.ensures.spares)))
    (spare_linked _ _ _ _ _ c.next-next.ensures.view h)

pub returns-clause-free : goal.returns-clause-free
returns-clause-free g c =
    let h = spare_at _ _ _ _ c.args.home _ _ (ap (λ w. w.shape) c.requires.window) c.requires.home
    c.requires.some_spare c.first_spare-first.ensures.has c.first_spare-first.ensures.first
    c.new-block.ensures in
    spare_may _ _ c.args.home _ h (ap (λ p. p.rank) c.new-block.ensures)

pub returns-clause-own : goal.returns-clause-own
returns-clause-own g c =
    let h = spare_at _ _ _ _ c.args.home _ _ (ap (λ w. w.shape) c.requires.window) c.requires.home
    c.requires.some_spare c.first_spare-first.ensures.has c.first_spare-first.ensures.first
    c.new-block.ensures in
    subst (λ v. 0 < times c.new-block.result (places_of v.private)) (sym c.use_spare.ensures.view)
    (spare_own _ _ _ _ _ c.next-next.ensures.view h)

pub returns-clause-used : goal.returns-clause-used
returns-clause-used g c =
    subst (λ s. IsNoSpare s c.use_spare.new.self.view.private c.use_spare.new.self.spares
    c.new-block.result)
    (ap (λ w. w.shape)
    (c.use_spare.ensures.window ∙ (c.next-next.ensures.window ∙ c.requires.window)))
    (subst (IsNoSpare c.use_spare.new.self.window.shape c.use_spare.new.self.view.private
    c.use_spare.new.self.spares)
    (sym (c.new-block.ensures ∙ (ap (on_rank c.args.home) c.first_spare-first.ensures.first
    ∙ ap (λ e. on_rank c.args.home (first_spare_of e c.args.home))
    (sym c.next-next.ensures.spares))))
    c.use_spare.ensures.used)

pub returns-clause-taken : goal.returns-clause-taken
returns-clause-taken g c =
    let block = c.new-block.result in
    let next = c.next-next.result in
    let before = c.args.rank.now.view in
    let told = c.next-next.ensures.view in
    let h = spare_at _ _ _ _ c.args.home _ _ (ap (λ w. w.shape) c.requires.window) c.requires.home
    c.requires.some_spare c.first_spare-first.ensures.has c.first_spare-first.ensures.first
    c.new-block.ensures in
    let after = c.use_spare.ensures.view ∙ told.view in
    record {
      some_spare = c.requires.some_spare;
      block_is = c.new-block.ensures ∙ ap (on_rank c.args.home) c.first_spare-first.ensures.first;
      next = next;
      link = h.link ∙ ap Some (sym (told.own h.next h.link));
      spares = c.use_spare.ensures.spares
          ∙ ap (without_spare c.args.home next) c.next-next.ensures.spares;
      bounds = ap (λ v. v.bounds) after
          ∙ noted_bounds (note_of before.notes block.rank) block next before;
      unmoved = subst (Unmoved before) (sym after)
          (noted_unmoved (note_of before.notes block.rank) block next before);
    }
