use Rattle.std.proofs.Common.{◌<◌, refl, sym, ap, ◌∙◌, subst, Some}
use Rattle.window_rule.specs.View.{View}
use Rattle.window_rule.specs.Known.{known_of}
use Rattle.window_rule.specs.Partition.{places_of, times}
use Rattle.window_rule.specs.Truths.{IsTrueView}
use Rattle.object_moves.proofs.Chains.{measured_is}
use Rattle.object_txn.specs.Tied.{words_in}
use Rattle.object_txn.proofs.NotedFacts.{known_elsewhere}
use Rattle.object_txn.proofs.TiedFacts.{tied_loaded}
use Rattle.object_txn.proofs.MakingFacts.{none_there, own_is_empty, read_is_empty, read_is_known}
use Rattle.object_txn.proofs.making.meet.Goals as goal

pub returns-then-has-clause-known : goal.returns-then-has-clause-known
returns-then-has-clause-known g c =
    let view = c.args.rank.now.view in
    let is : IsTrueView g.L.Law.fits c.args.window.now.shape view = subst (IsTrueView g.L.Law.fits c.args.window.now.shape) c.truths.ensures.view c.truths.ensures.truths in
    ap (λ (v : View g.row.L-Note.Denot). words_in (known_of v.known c.args.at)) c.truths.ensures.view
    ∙ read_is_known g.L.Law.fits c.args.window.now.shape view is c.args.at c.requires.own c.args.txn.now.reads (c.requires.tied.reads.known_is c.args.at)
    (sym c.has.ensures ∙ c.if-has.true)

pub returns-then-has-clause-unread : goal.returns-then-has-clause-unread
returns-then-has-clause-unread g c =
    let view = c.args.rank.now.view in
    let is : IsTrueView g.L.Law.fits c.args.window.now.shape view = subst (IsTrueView g.L.Law.fits c.args.window.now.shape) c.truths.ensures.view c.truths.ensures.truths in
    read_is_empty g.L.Law.fits c.args.window.now.shape view is c.args.at c.requires.own c.args.txn.now.reads (c.requires.tied.reads.known_is c.args.at)

pub returns-else-has-clause-tied : goal.returns-else-has-clause-tied
returns-else-has-clause-tied g c =
    let told = c.length-length.ensures.view in
    tied_loaded c.args.window.now c.args.rank.now c.length-length.new.self c.args.txn.now c.args.at told.known told.history
    c.length-length.ensures.window c.length-length.ensures.spares told.view (none_there c.args.txn.now.reads c.args.at (sym c.has.ensures ∙ c.if-has.false)) c.requires.tied

pub returns-else-has-clause-known : goal.returns-else-has-clause-known
returns-else-has-clause-known g c =
    let told = c.length-length.ensures.view in
    let new = c.length-length.new.self.view in
    let known = ap words_in (measured_is c.args.at told.known told.history c.args.rank.now.view new told.view) in
    let own : 0 < times c.args.at (places_of new.private) = subst (λ (v : View g.row.L-Note.Denot). 0 < times c.args.at (places_of v.private)) (sym told.view) c.requires.own in
    known ∙ ap Some (own_is_empty g.L.Law.fits c.args.window.now.shape new c.length-length.ensures.truths c.args.at own
    (known_of new.known c.args.at) refl told.known.content known)

pub returns-else-has-clause-others : goal.returns-else-has-clause-others
returns-else-has-clause-others g c =
    let told = c.length-length.ensures.view in
    known_elsewhere c.args.at told.known told.history c.args.rank.now.view c.length-length.new.self.view told.view
