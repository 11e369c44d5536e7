use Rattle.std.proofs.Common.{refl, sym, ap, ◌∙◌, Some}
use Rattle.object_moves.proofs.Chains.{measured_is}
use Rattle.object_txn.specs.Tied.{chain_known}
use Rattle.object_txn.proofs.NotedFacts.{chains_noted, known_elsewhere, noted_here, unnoted_by, unread_while_unnoted}
use Rattle.object_txn.proofs.TiedFacts.{tied_beside, tied_loaded}
use Rattle.object_txn.proofs.writing.note_chain.Goals as goal

pub returns-in_err-blocks-clause-tied : goal.returns-in_err-blocks-clause-tied
returns-in_err-blocks-clause-tied g c =
    let loads = c.load_chain.ensures.loads in
    let unnoted = unnoted_by c.args.txn.now.chains c.args.at (sym c.has.ensures ∙ c.if-has.false) in
    tied_loaded c.args.window.now c.args.rank.now c.load_chain.new.rank c.args.txn.now c.args.at loads.known loads.history
    c.load_chain.ensures.window c.load_chain.ensures.spares loads.view
    (unread_while_unnoted c.args.rank.now.view c.args.txn.now c.args.at c.requires.chains unnoted) c.requires.tied

pub returns-in_err-put-clause-tied : goal.returns-in_err-put-clause-tied
returns-in_err-put-clause-tied g c =
    let loads = c.load_chain.ensures.loads in
    let unnoted = unnoted_by c.args.txn.now.chains c.args.at (sym c.has.ensures ∙ c.if-has.false) in
    tied_beside c.args.window.now c.load_chain.new.rank c.args.txn.now c.put.new.self
    (tied_loaded c.args.window.now c.args.rank.now c.load_chain.new.rank c.args.txn.now c.args.at loads.known loads.history
    c.load_chain.ensures.window c.load_chain.ensures.spares loads.view
    (unread_while_unnoted c.args.rank.now.view c.args.txn.now c.args.at c.requires.chains unnoted) c.requires.tied)

pub returns-clause-tied : goal.returns-clause-tied
returns-clause-tied g c =
    let loads = c.load_chain.ensures.loads in
    let unnoted = unnoted_by c.args.txn.now.chains c.args.at (sym c.has.ensures ∙ c.if-has.false) in
    tied_beside c.args.window.now c.load_chain.new.rank c.args.txn.now c.put.new.self
    (tied_loaded c.args.window.now c.args.rank.now c.load_chain.new.rank c.args.txn.now c.args.at loads.known loads.history
    c.load_chain.ensures.window c.load_chain.ensures.spares loads.view
    (unread_while_unnoted c.args.rank.now.view c.args.txn.now c.args.at c.requires.chains unnoted) c.requires.tied)

pub returns-clause-chains : goal.returns-clause-chains
returns-clause-chains g c =
    let loads = c.in_ok-blocks.ensures.loads in
    let here = ap chain_known (measured_is c.args.at loads.known loads.history c.args.rank.now.view c.load_chain.new.rank.view loads.view)
    ∙ ap Some (sym loads.loaded) in
    chains_noted c.args.at c.in_ok-blocks.blocks c.args.txn.now.chains c.put.new.self c.in_ok-put.ensures.ok c.args.rank.now.view c.load_chain.new.rank.view
    c.args.txn.now refl (known_elsewhere c.args.at loads.known loads.history c.args.rank.now.view c.load_chain.new.rank.view loads.view) here
    (λ none. cc (sym c.requires.marked ∙ none)) c.requires.chains

pub returns-clause-noted : goal.returns-clause-noted
returns-clause-noted g c =
    noted_here c.args.at c.in_ok-blocks.blocks c.args.txn.now.chains c.put.new.self c.in_ok-put.ensures.ok
