use Rattle.std.proofs.Common.{◌≡◌, ◌≢◌, ◌<◌, cond, get_or, length, set, subst, sym, ap, ◌∙◌, Some, arith, eq-eqb, ne_eqb}
use Rattle.std.proofs.lemmas.List.{get_or_read}
use Rattle.object_words.specs.Blocks.{on_rank}
use Rattle.window_rule.specs.Spares.{SpareEnds, IsNoSpare, first_spare_of, own_next_of}
use Rattle.window_rule.proofs.KeptSpares.{spares_used_at, used_at}
use Rattle.fabric.proofs.rank.Rank.use_spare.Goals.{then-next-eq0, else-next-eq0}
use Rattle.fabric.proofs.rank.Rank.use_spare.Goals as goal

pub invariant_of-self : goal.invariant_of-self
invariant_of-self g c =
    let firsts = c.self.inside.firsts.items in
    let lasts = c.self.inside.lasts.items in
    let has = c.self.invariant.has in
    let less : c.args.home < length lasts = omega (arith, c.requires.home, has.lasts_sized) in
    record {
      slots = c.self.invariant.slots;
      live = c.self.invariant.live;
      rights = c.self.invariant.rights;
      has = spares_used_at _ _ firsts lasts c.args.home c.args.next c.if-next-eq0.last
          (elim c.if-next-eq0.branch [
            | then-next-eq0 w ↦ w.last-is ∙ sym (ap (λ t. cond t 0 (get_or lasts c.args.home 0))
                (eq-eqb c.args.next 0 w.if-next-eq0.true))
            | else-next-eq0 w ↦ w.last-is ∙ (get_or_read lasts _ _ less w.index.ensures 0
                ∙ sym (ap (λ t. cond t 0 (get_or lasts c.args.home 0))
                (ne_eqb c.args.next 0 w.if-next-eq0.false)))
          ])
          c.requires.home
          (subst (λ m. first_spare_of m.spares c.args.home ≢ 0) (sym c.self.view_is)
          c.requires.some_spare)
          (subst (λ m. own_next_of m.view.private
          (on_rank c.args.home (first_spare_of m.spares c.args.home)) ≡ Some c.args.next)
          (sym c.self.view_is) c.requires.linked)
          has;
    }

pub returns-clause-used : goal.returns-clause-used
returns-clause-used g c =
    let firsts = c.self.inside.firsts.items in
    let lasts = c.self.inside.lasts.items in
    let has = c.self.invariant.has in
    let less : c.args.home < length lasts = omega (arith, c.requires.home, has.lasts_sized) in
    let used = used_at c.self.inside.geometry c.self.inside.seat.me.0.private firsts lasts
    c.args.home c.args.next c.if-next-eq0.last
    (elim c.if-next-eq0.branch [
      | then-next-eq0 w ↦ w.last-is ∙ sym (ap (λ t. cond t 0 (get_or lasts c.args.home 0))
          (eq-eqb c.args.next 0 w.if-next-eq0.true))
      | else-next-eq0 w ↦ w.last-is ∙ (get_or_read lasts _ _ less w.index.ensures 0
          ∙ sym (ap (λ t. cond t 0 (get_or lasts c.args.home 0))
          (ne_eqb c.args.next 0 w.if-next-eq0.false)))
    ])
    c.requires.home
    (subst (λ m. first_spare_of m.spares c.args.home ≢ 0) (sym c.self.view_is)
    c.requires.some_spare)
    (subst (λ m. own_next_of m.view.private
    (on_rank c.args.home (first_spare_of m.spares c.args.home)) ≡ Some c.args.next)
    (sym c.self.view_is) c.requires.linked)
    has in
    let left : SpareEnds = record {
      firsts = set firsts c.args.home c.args.next;
      lasts = set lasts c.args.home c.if-next-eq0.last;
    } in
    subst (λ m. IsNoSpare c.self.inside.geometry c.self.inside.seat.me.0.private left
    (on_rank c.args.home (first_spare_of m.spares c.args.home))) c.self.view_is used
