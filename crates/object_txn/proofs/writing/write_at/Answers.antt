use Rattle.std.proofs.Common.{sym, ap, ◌∙◌, subst}
use Rattle.window_rule.specs.Locks.{hold_of}
use Rattle.object_words.specs.Contents.{Contents}
use Rattle.object_txn.specs.declared.txn.Txn.{Txn}
use Rattle.object_txn.specs.Tied.{IsTied, MayBeWritten}
use Rattle.object_txn.proofs.NotedFacts.{chains_locked, chains_written}
use Rattle.object_txn.proofs.TiedFacts.{tied_locked, tied_written}
use Rattle.object_txn.proofs.writing.write_at.Goals as goal

pub returns-in_err-mark-clause-tied : goal.returns-in_err-mark-clause-tied
returns-in_err-mark-clause-tied g c =
    tied_locked c.args.window.now c.args.rank.now c.mark.new.rank c.args.txn.now c.mark.new.held c.args.at c.mark.ensures.window c.mark.ensures.spares
    c.mark.ensures.locks c.mark.ensures.locked (λ idle. cc (sym c.requires.begun ∙ idle)) c.requires.tied

pub note_chain-requires-clause-tied : goal.note_chain-requires-clause-tied
note_chain-requires-clause-tied g c =
    tied_locked c.args.window.now c.args.rank.now c.mark.new.rank c.args.txn.now c.mark.new.held c.args.at c.mark.ensures.window c.mark.ensures.spares
    c.mark.ensures.locks c.mark.ensures.locked (λ idle. cc (sym c.requires.begun ∙ idle)) c.requires.tied

pub note_chain-requires-clause-chains : goal.note_chain-requires-clause-chains
note_chain-requires-clause-chains g c =
    chains_locked c.args.rank.now.view c.mark.new.rank.view c.args.at c.args.txn.now c.mark.new.held c.mark.ensures.locked c.requires.chains

pub returns-in_err-put-clause-tied : goal.returns-in_err-put-clause-tied
returns-in_err-put-clause-tied g c =
    subst (λ (writes : Contents). IsTied c.args.window.now c.note_chain.new.rank (record c.note_chain.new.txn { writes = writes })) (sym c.in_err-put.ensures.err)
    c.note_chain.ensures.tied

pub returns-clause-tied : goal.returns-clause-tied
returns-clause-tied g c =
    let same = c.note_chain.ensures.same in
    tied_written c.args.window.now c.note_chain.new.rank c.note_chain.new.txn c.put.new.self c.args.at c.args.words c.in_ok-put.ensures.ok
    (ap (λ (t : Txn). hold_of t.held c.args.at) same ∙ c.in_ok-mark.ensures.marked)
    (subst (λ (t : Txn). MayBeWritten c.args.window.now.shape t.reads t.taken.items c.args.at) (sym same) c.requires.may)
    c.requires.few (λ idle. cc (sym c.requires.begun ∙ (sym (ap (λ (t : Txn). t.phase) same) ∙ idle))) c.note_chain.ensures.tied

pub returns-clause-chains : goal.returns-clause-chains
returns-clause-chains g c =
    chains_written c.note_chain.new.rank.view c.note_chain.new.txn c.put.new.self c.args.at c.args.words c.in_ok-put.ensures.ok
    c.in_ok-note_chain.ensures.noted c.in_ok-note_chain.ensures.chains
