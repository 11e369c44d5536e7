use Rattle.std.proofs.Common.{◌≡◌, ◌<◌, ◌^◌, get_or, ap, sym, ◌∙◌, subst, arith}
use Rattle.window_rule.specs.Spares.{SpareEnds, HasSpares}
use Rattle.window_rule.proofs.SettleSteps.{settle_permitted}
use Rattle.fabric.specs.Joins.{AreTogether}
use Rattle.fabric.proofs.SparesJoined.{first_spare_small, joined_once, joined_spares, linked_view_is}
use Rattle.fabric.proofs.rank.Rank.join.Goals as goal

pub load-requires-clause-permits : goal.load-requires-clause-permits
load-requires-clause-permits g c = settle_permitted g.L.Law.fits _ _

pub chain_spares-requires-clause-small : goal.chain_spares-requires-clause-small
chain_spares-requires-clause-small g c = λ home below.
    let few : c.self.inside.geometry.blocks < 2 ^ 20 = omega (
      arith,
      c.keeps_ranges.ensures.blocks.1,
      ap (λ s. s.blocks) c.geometry.ensures,
      ap (λ m. m.window.shape.blocks) c.self.view_is,
      ap (λ w. w.shape.blocks) c.requires.window.0,
    ) in
    subst (λ l. get_or l home 0 < 2 ^ 20) (sym c.deref.ensures.value)
    (first_spare_small _ _ _ home few below c.self.invariant.has)

pub returns-clause-once : goal.returns-clause-once
returns-clause-once g c =
    joined_once c.args.window.now c.args.self.now c.args.other c.chain_spares.new.seat.me.0
    c.take_in.new.self.view
    (linked_view_is c.args.self.now c.args.other c.args.window.now.shape.ranks _ _ _ _ _
    (c.deref.ensures.value ∙ ap (λ m. m.spares.firsts) c.self.view_is)
    (c.deref-2.ensures.value ∙ ap (λ m. m.spares.firsts) c.other.view_is)
    (c.deref-3.ensures.value ∙ ap (λ m. m.spares.lasts) c.other.view_is)
    (ap (λ m. m.view) c.other.view_is) c.chain_spares.ensures.view)
    c.take_in.ensures.view c.load.ensures.told.once

pub take_spares-requires-clause-has : goal.take_spares-requires-clause-has
take_spares-requires-clause-has g c = λ both is.
    let linked = linked_view_is c.args.self.now c.args.other c.args.window.now.shape.ranks _ _ _ _ _
    (c.deref.ensures.value ∙ ap (λ m. m.spares.firsts) c.self.view_is)
    (c.deref-2.ensures.value ∙ ap (λ m. m.spares.firsts) c.other.view_is)
    (c.deref-3.ensures.value ∙ ap (λ m. m.spares.lasts) c.other.view_is)
    (ap (λ m. m.view) c.other.view_is) c.chain_spares.ensures.view in
    let mine : c.load.new.self.spares ≡ c.args.self.now.spares = c.load.ensures.spares
    ∙ c.take_in.ensures.spares in
    let theirs : SpareEnds = record { firsts = c.deref-5.result.now; lasts = c.deref-6.result.now } in
    let theirs_is : theirs ≡ c.args.other.spares = λ i. record {
      firsts = (c.deref-5.ensures.value ∙ ap (λ m. m.spares.firsts) c.other.view_is) i;
      lasts = (c.deref-6.ensures.value ∙ ap (λ m. m.spares.lasts) c.other.view_is) i;
    } in
    let together : AreTogether c.args.self.now.spares c.args.other.spares both =
    subst (λ e. AreTogether e c.args.other.spares both) mine
    (subst (λ e. AreTogether c.load.new.self.spares e both) theirs_is is) in
    let has = joined_spares c.args.window.now c.args.self.now c.args.other
    c.chain_spares.new.seat.me.0 c.take_in.new.self.view linked c.take_in.ensures.view
    c.load.ensures.told.once c.requires.window.0 c.requires.window.1
    (subst (λ m. HasSpares m.window.shape m.view.private m.spares) c.self.view_is
    c.self.invariant.has)
    (subst (λ m. HasSpares m.window.shape m.view.private m.spares) c.other.view_is
    c.other.invariant.has) both together in
    subst (λ w. HasSpares w.shape c.load.new.self.view.private both)
    (sym (c.load.ensures.window ∙ (c.take_in.ensures.window ∙ c.requires.window.0)))
    (subst (λ v. HasSpares c.args.window.now.shape v.private both)
    (sym c.load.ensures.told.view) has)
