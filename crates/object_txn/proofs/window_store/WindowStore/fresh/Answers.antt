use Rattle.std.proofs.Common.{arith, List, ap, rules, sym, subst}
use Rattle.window_rule.specs.View.{View, OwnBlock}
use Rattle.window_rule.specs.Partition.{places_of, times}
use Rattle.window_rule.specs.Trails.{Follows}
use Rattle.window_rule.proofs.Trails.{follows_trans}
use Rattle.object_txn.specs.Tied.{IsTied}
use Rattle.object_txn.specs.Moves.{Makes}
use Rattle.object_txn.proofs.StoreFacts.{continues, makes_object}
use Rattle.object_txn.proofs.Explaining.{explains_later, never_for_others}
use Rattle.object_txn.proofs.window_store.WindowStore.fresh.Goals as goal

pub returns-in-Ok-clause-keeps : goal.returns-in-Ok-clause-keeps
returns-in-Ok-clause-keeps g c =
    let self = c.args.self.now in
    let follows : Follows self.rank.view c.truths.new.self.view = search rules in
    let tied : IsTied self.window.now c.truths.new.self c.make.new.txn = search rules in
    continues g.L.Law.fits self.window.now self.rank c.truths.new.self self.txn c.make.new.txn follows c.truths.ensures.truths tied
    (λ quiet. absurd (quiet c.requires.begun))

pub returns-in-Err-clause-explained : goal.returns-in-Err-clause-explained
returns-in-Err-clause-explained g c =
    let self = c.args.self.now in
    explains_later self.window.now.shape self.rank.view c.make.new.rank.view c.end_all.new.rank.view c.in-Err.why
    c.end_all.ensures.follows c.in-Err.ensures.refused

pub returns-in-Ok-clause-done : goal.returns-in-Ok-clause-done
returns-in-Ok-clause-done g c =
    let self = c.args.self.now in
    let follows : Follows self.rank.view c.truths.new.self.view = search rules in
    makes_object g.L.Law.fits self.window.now self.rank c.truths.new.self self.txn c.make.new.txn follows c.args.home c.in-Ok.at c.truths.ensures.truths
    (subst (λ (v : View g.row.L-Note.Denot). Makes self.window.now.shape c.args.home v self.txn c.make.new.txn c.in-Ok.at) (sym c.truths.ensures.view) c.in-Ok.ensures.makes)
    c.make.ensures.phase

pub returns-in-Err-clause-keeps : goal.returns-in-Err-clause-keeps
returns-in-Err-clause-keeps g c =
    let self = c.args.self.now in
    continues g.L.Law.fits self.window.now self.rank c.end_all.new.rank self.txn c.end_all.new.txn
    (follows_trans self.rank.view c.make.new.rank.view c.end_all.new.rank.view c.make.ensures.follows c.end_all.ensures.follows)
    c.end_all.ensures.truths c.end_all.ensures.tied (λ quiet. absurd (quiet c.requires.begun))

pub returns-in-Err-clause-alone : goal.returns-in-Err-clause-alone
returns-in-Err-clause-alone g c = λ alone.
    never_for_others c.args.self.now.window.now.shape c.args.self.now.rank.view c.end_all.new.rank.view c.in-Err.why (returns-in-Err-clause-explained g c) alone

pub returns-in-Err-clause-given_back : goal.returns-in-Err-clause-given_back
returns-in-Err-clause-given_back g c =
    let back = c.end_all.ensures.given in record {
      left = back.left;
      all = c.make.new.txn.taken.items;
      few = λ block. omega (
        arith,
        c.make.ensures.owns block,
        ap (λ (own : List OwnBlock). times block (places_of own)) back.private,
      );
      given = back.given;
    }
