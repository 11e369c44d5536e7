use Rattle.std.proofs.Common.{◌≡◌, ◌<◌, cond, get_or, length, subst, sym, ap, ◌∙◌, Some, arith, eq-eqb, ne_eqb}
use Rattle.std.proofs.lemmas.List.{get_or_read}
use Rattle.window_rule.specs.Pool.{MayBeFree}
use Rattle.window_rule.specs.Spares.{first_spare_of, own_next_of}
use Rattle.window_rule.proofs.KeptSpares.{spares_kept_at}
use Rattle.fabric.proofs.rank.Rank.keep_spare.Goals.{then-index-eq0, else-index-eq0}
use Rattle.fabric.proofs.rank.Rank.keep_spare.Goals as goal

pub invariant_of-self : goal.invariant_of-self
invariant_of-self g c =
    let b = c.args.b in
    let home = c.rank-home.result in
    let firsts = c.self.inside.firsts.items in
    let lasts = c.self.inside.lasts.items in
    let has = c.self.invariant.has in
    let below : home < length firsts = omega (arith, c.rank-home.ensures, c.requires.rank, has.firsts_sized) in
    let less : home < length lasts = omega (arith, c.rank-home.ensures, c.requires.rank, has.lasts_sized) in
    let read = get_or_read firsts _ _ below c.index.ensures 0 in
    record {
      slots = c.self.invariant.slots;
      live = c.self.invariant.live;
      rights = c.self.invariant.rights;
      has = spares_kept_at _ _ firsts lasts b home c.block.result c.if-index-eq0.last
          c.rank-home.ensures c.block.ensures.value
          (elim c.if-index-eq0.branch [
            | then-index-eq0 w ↦ w.last-is
                ∙ (w.block-last.ensures.value ∙ (sym c.block.ensures.value
                ∙ sym (ap (λ t. cond t c.block.result (get_or lasts home 0))
                (eq-eqb (get_or firsts home 0) 0 (sym read ∙ w.if-index-eq0.true)))))
            | else-index-eq0 w ↦ w.last-is
                ∙ (get_or_read lasts _ _ less w.index-else-index-eq0.ensures 0
                ∙ sym (ap (λ t. cond t c.block.result (get_or lasts home 0))
                (ne_eqb (get_or firsts home 0) 0 (λ none. w.if-index-eq0.false (read ∙ none)))))
          ])
          c.requires.rank
          (subst (λ m. MayBeFree m.window.shape b.rank b) (sym c.self.view_is) c.requires.free)
          (subst (λ m. own_next_of m.view.private b ≡ Some (first_spare_of m.spares b.rank))
          (sym c.self.view_is) c.requires.linked)
          has;
    }
