use Rattle.std.proofs.Common.{◌++◌, length, take, drop, ap, sym, ◌∙◌, subst}
use Rattle.window_rule.specs.Spares.{SpareEnds, HasSpares}
use Rattle.fabric.specs.Joins.{AreTogether}
use Rattle.fabric.proofs.SparesJoined.{are_together}
use Rattle.fabric.proofs.Written.{written}
use Rattle.fabric.proofs.rank.Rank.take_spares.Goals as goal

pub returns-clause-spares : goal.returns-clause-spares
returns-clause-spares g c =
    are_together _ _ _ _ c.put_before.new.numbers c.put_behind.new.numbers _ _ _
    (ap (λ m. m.spares) c.self.view_is)
    (written _ _ _ (sym (c.put_before.auto.numbers ∙ c.as_mut_slice.ensures.len)))
    (written _ _ _ (sym (c.put_behind.auto.numbers ∙ c.as_mut_slice-2.ensures.len)))
    (c.put_before.auto.numbers
    ∙ (ap length c.as_mut_slice.ensures.value ∙ c.self.invariant.has.firsts_sized))
    (c.put_behind.auto.numbers
    ∙ (ap length c.as_mut_slice-2.ensures.value ∙ c.self.invariant.has.lasts_sized))
    c.as_mut_slice.ensures.value c.as_mut_slice-2.ensures.value
    c.put_before.ensures c.put_behind.ensures

pub invariant_of-self : goal.invariant_of-self
invariant_of-self g c =
    let both : SpareEnds = record {
      firsts = take c.self.inside.firsts.len
          (c.put_before.new.numbers ++ drop (length c.put_before.new.numbers) c.self.inside.firsts.items);
      lasts = take c.self.inside.lasts.len
          (c.put_behind.new.numbers ++ drop (length c.put_behind.new.numbers) c.self.inside.lasts.items);
    } in
    let theirs : SpareEnds = record { firsts = c.args.firsts.now; lasts = c.args.lasts.now } in
    let together : AreTogether c.args.self.now.spares theirs both =
    are_together c.args.self.now.spares theirs _ _ c.put_before.new.numbers
    c.put_behind.new.numbers _ both.firsts both.lasts
    (ap (λ m. m.spares) c.self.view_is)
    (written _ _ _ (sym (c.put_before.auto.numbers ∙ c.as_mut_slice.ensures.len)))
    (written _ _ _ (sym (c.put_behind.auto.numbers ∙ c.as_mut_slice-2.ensures.len)))
    (c.put_before.auto.numbers
    ∙ (ap length c.as_mut_slice.ensures.value ∙ c.self.invariant.has.firsts_sized))
    (c.put_behind.auto.numbers
    ∙ (ap length c.as_mut_slice-2.ensures.value ∙ c.self.invariant.has.lasts_sized))
    c.as_mut_slice.ensures.value c.as_mut_slice-2.ensures.value
    c.put_before.ensures c.put_behind.ensures in
    record {
      slots = c.self.invariant.slots;
      live = c.self.invariant.live;
      rights = c.self.invariant.rights;
      has = subst (λ m. HasSpares m.window.shape m.view.private both) (sym c.self.view_is)
          (c.requires.has both together);
    }
