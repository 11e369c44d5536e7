use Rattle.std.proofs.Common.{refl, sym, ap, ◌∙◌, subst, Some}
use Rattle.window_rule.specs.View.{View}
use Rattle.window_rule.specs.Locks.{hold_of}
use Rattle.window_rule.specs.ContentsHold.{Lasts}
use Rattle.object_words.specs.Contents.{Contents, with_words}
use Rattle.object_moves.proofs.Chains.{measured_is}
use Rattle.object_txn.specs.Tied.{IsTied, KnowsChains, chain_known, words_in}
use Rattle.object_txn.proofs.NotedFacts.{chains_locked, chains_noted, chains_read, known_elsewhere, noted_here}
use Rattle.object_txn.proofs.TiedFacts.{tied_beside, tied_loaded, tied_locked, tied_noted}
use Rattle.object_txn.proofs.ReadingFacts.{reads_committed}
use Rattle.object_txn.proofs.reading.read_committed.Goals as goal

pub returns-in_err-hold-clause-tied : goal.returns-in_err-hold-clause-tied
returns-in_err-hold-clause-tied g c =
    tied_locked c.args.window.now c.args.rank.now c.hold.new.rank c.args.txn.now c.hold.new.held c.args.at c.hold.ensures.window c.hold.ensures.spares
    c.hold.ensures.locks c.hold.ensures.locked c.requires.begun c.requires.tied

pub returns-in_err-loaded-clause-tied : goal.returns-in_err-loaded-clause-tied
returns-in_err-loaded-clause-tied g c =
    let loads = c.load.ensures.loads in
    tied_loaded c.args.window.now c.hold.new.rank c.load.new.rank (record c.args.txn.now { held = c.hold.new.held }) c.args.at loads.known loads.history
    c.load.ensures.window c.load.ensures.spares loads.view c.requires.unread
    (tied_locked c.args.window.now c.args.rank.now c.hold.new.rank c.args.txn.now c.hold.new.held c.args.at c.hold.ensures.window c.hold.ensures.spares
    c.hold.ensures.locks c.hold.ensures.locked c.requires.begun c.requires.tied)

pub returns-in_err-put-clause-tied : goal.returns-in_err-put-clause-tied
returns-in_err-put-clause-tied g c =
    let loads = c.load.ensures.loads in
    tied_beside c.args.window.now c.load.new.rank (record c.args.txn.now { held = c.hold.new.held }) c.put.new.self
    (tied_loaded c.args.window.now c.hold.new.rank c.load.new.rank (record c.args.txn.now { held = c.hold.new.held }) c.args.at loads.known loads.history
    c.load.ensures.window c.load.ensures.spares loads.view c.requires.unread
    (tied_locked c.args.window.now c.args.rank.now c.hold.new.rank c.args.txn.now c.hold.new.held c.args.at c.hold.ensures.window c.hold.ensures.spares
    c.hold.ensures.locks c.hold.ensures.locked c.requires.begun c.requires.tied))

pub returns-in_err-copy-clause-tied : goal.returns-in_err-copy-clause-tied
returns-in_err-copy-clause-tied g c =
    let loads = c.load.ensures.loads in
    tied_beside c.args.window.now c.load.new.rank (record c.args.txn.now { held = c.hold.new.held }) c.put.new.self
    (tied_loaded c.args.window.now c.hold.new.rank c.load.new.rank (record c.args.txn.now { held = c.hold.new.held }) c.args.at loads.known loads.history
    c.load.ensures.window c.load.ensures.spares loads.view c.requires.unread
    (tied_locked c.args.window.now c.args.rank.now c.hold.new.rank c.args.txn.now c.hold.new.held c.args.at c.hold.ensures.window c.hold.ensures.spares
    c.hold.ensures.locks c.hold.ensures.locked c.requires.begun c.requires.tied))

pub returns-in_err-put-2-clause-tied : goal.returns-in_err-put-2-clause-tied
returns-in_err-put-2-clause-tied g c =
    let loads = c.load.ensures.loads in
    subst (λ (reads : Contents). IsTied c.args.window.now c.load.new.rank (record c.args.txn.now { held = c.hold.new.held; chains = c.put.new.self; reads = reads })) (sym c.in_err-put-2.ensures.err)
    (tied_beside c.args.window.now c.load.new.rank (record c.args.txn.now { held = c.hold.new.held }) c.put.new.self
    (tied_loaded c.args.window.now c.hold.new.rank c.load.new.rank (record c.args.txn.now { held = c.hold.new.held }) c.args.at loads.known loads.history
    c.load.ensures.window c.load.ensures.spares loads.view c.requires.unread
    (tied_locked c.args.window.now c.args.rank.now c.hold.new.rank c.args.txn.now c.hold.new.held c.args.at c.hold.ensures.window c.hold.ensures.spares
    c.hold.ensures.locks c.hold.ensures.locked c.requires.begun c.requires.tied)))

pub returns-clause-tied : goal.returns-clause-tied
returns-clause-tied g c =
    let loads = c.in_ok-loaded.ensures.loads in
    let words = c.in_ok-loaded.loaded.words in
    let known = ap words_in (measured_is c.args.at loads.known loads.history c.hold.new.rank.view c.load.new.rank.view loads.view)
    ∙ ap Some (sym loads.loaded.1) in
    tied_noted c.args.window.now c.load.new.rank (record c.args.txn.now { held = c.hold.new.held; chains = c.put.new.self }) c.put-2.new.self c.args.at words
    (c.in_ok-put-2.ensures.ok ∙ ap (with_words c.args.txn.now.reads c.args.at) c.in_ok-copy.ensures) known
    (subst (λ (v : View g.row.L-Note.Denot). Lasts (hold_of v.locks c.args.at)) (sym loads.view) c.in_ok-hold.ensures.lasts)
    c.requires.begun c.requires.unwritten
    (tied_beside c.args.window.now c.load.new.rank (record c.args.txn.now { held = c.hold.new.held }) c.put.new.self
    (tied_loaded c.args.window.now c.hold.new.rank c.load.new.rank (record c.args.txn.now { held = c.hold.new.held }) c.args.at loads.known loads.history
    c.load.ensures.window c.load.ensures.spares loads.view c.requires.unread
    (tied_locked c.args.window.now c.args.rank.now c.hold.new.rank c.args.txn.now c.hold.new.held c.args.at c.hold.ensures.window c.hold.ensures.spares
    c.hold.ensures.locks c.hold.ensures.locked c.requires.begun c.requires.tied)))

pub returns-clause-chains : goal.returns-clause-chains
returns-clause-chains g c =
    let loads = c.in_ok-loaded.ensures.loads in
    let was = c.args.txn.now in
    let here = ap chain_known (measured_is c.args.at loads.known loads.history c.hold.new.rank.view c.load.new.rank.view loads.view)
    ∙ ap Some (sym loads.loaded.0) in
    let locked : KnowsChains c.hold.new.rank.view (record was { held = c.hold.new.held }) =
    chains_locked c.args.rank.now.view c.hold.new.rank.view c.args.at was c.hold.new.held c.hold.ensures.locked c.requires.chains in
    let noted : KnowsChains c.load.new.rank.view (record was { held = c.hold.new.held; chains = c.put.new.self }) =
    chains_noted c.args.at c.in_ok-loaded.loaded.blocks was.chains c.put.new.self c.in_ok-put.ensures.ok c.hold.new.rank.view c.load.new.rank.view
    (record was { held = c.hold.new.held }) refl
    (known_elsewhere c.args.at loads.known loads.history c.hold.new.rank.view c.load.new.rank.view loads.view) here
    (λ none. subst Lasts (c.in_ok-hold.ensures.locks.same c.args.at ∙ none) c.in_ok-hold.ensures.lasts) locked in
    chains_read c.load.new.rank.view (record was { held = c.hold.new.held; chains = c.put.new.self }) c.put-2.new.self c.args.at c.in_ok-copy.field-0
    c.in_ok-put-2.ensures.ok (noted_here c.args.at c.in_ok-loaded.loaded.blocks was.chains c.put.new.self c.in_ok-put.ensures.ok) noted

pub returns-clause-reads : goal.returns-clause-reads
returns-clause-reads g c =
    let loads = c.in_ok-loaded.ensures.loads in
    let words = c.in_ok-loaded.loaded.words in
    let known = ap words_in (measured_is c.args.at loads.known loads.history c.hold.new.rank.view c.load.new.rank.view loads.view)
    ∙ ap Some (sym loads.loaded.1) in
    reads_committed c.args.at c.load.new.rank.view c.args.txn.now
    (record c.args.txn.now { held = c.hold.new.held; chains = c.put.new.self; reads = c.put-2.new.self }) words c.requires.unwritten c.requires.unread known
    (c.in_ok-put-2.ensures.ok ∙ ap (with_words c.args.txn.now.reads c.args.at) c.in_ok-copy.ensures)
