use Rattle.std.proofs.Common.{rules, ◌≡◌, ◌∙◌, Option, sym, subst}
use Rattle.std.specs.Option.{MatchOption}
use Rattle.rma_layout.specs.Ranges.{IsInRange}
use Rattle.object_store.proofs.Works.{access_fell, read_went, went-gave_up}
use Rattle.held_objects.proofs.Held.{finds_holder, is_held}
use Rattle.held_objects.proofs.calls.look.look.Goals as goal

pub returns-in_err-words-clause-works : goal.returns-in_err-words-clause-works
returns-in_err-words-clause-works g c =
    let read = c.in_err-words.ensures in
    let did = access_fell {state = g.S.Store.state} {explains = g.S.Store.explains} {says = g.S.Store.says} {old = c.args.store.now} {new = c.read.new.self} read.keeps read.refused read.explained read.explained_still in
    search rules

pub returns-clause-works : goal.returns-clause-works
returns-clause-works g c =
    let read = c.in_ok-words.ensures in
    record { went = tt; fell = went-gave_up (read_went {state = g.S.Store.state} {old = c.args.store.now} {new = c.read.new.self} read.keeps read.done read.explained_still) c.give_up.ensures }

pub returns-in-Ok-Some-clause-works : goal.returns-in-Ok-Some-clause-works
returns-in-Ok-Some-clause-works g c =
    let read = c.in_ok-words.ensures in
    record { went = read_went read.keeps read.done read.explained_still; fell = tt }

pub returns-in-Ok-Some-clause-found : goal.returns-in-Ok-Some-clause-found
returns-in-Ok-Some-clause-found g c =
    let new = g.S.Store.state c.read.new.self in
    let read = c.in_ok-words.ensures in
    let ranges : IsInRange new.shape = subst IsInRange (c.geometry-geometry.ensures ∙ sym read.keeps.shape) c.keeps_ranges.ensures in
    let is = subst (λ (o : Option g.row.H.Denot). MatchOption o ((held : g.row.H.Denot) → g.H.Holder.IsHolder held → c.in_ok-words.words ≡ g.H.Holder.words_of held → ⊥)
    (λ held. g.H.Holder.IsHolder held × (c.in_ok-words.words ≡ g.H.Holder.words_of held))) c.in-Ok-Some.field-0-is c.in-Ok-Some.ensures in
    finds_holder g.L.Law.fits ranges (g.met.L.KeepsGraph.keeps_graph new.shape new.seen ranges read.keeps.sound.fit read.keeps.sound.legal.reads) read.keeps read.done is.0 is.1

pub unreachable-requires : goal.unreachable-requires
unreachable-requires g c =
    let new = g.S.Store.state c.read.new.self in
    let read = c.in_ok-words.ensures in
    let ranges : IsInRange new.shape = subst IsInRange (c.geometry-geometry.ensures ∙ sym read.keeps.shape) c.keeps_ranges.ensures in
    let none = subst (λ (o : Option g.row.H.Denot). MatchOption o ((held : g.row.H.Denot) → g.H.Holder.IsHolder held → c.in_ok-words.words ≡ g.H.Holder.words_of held → ⊥)
    (λ held. g.H.Holder.IsHolder held × (c.in_ok-words.words ≡ g.H.Holder.words_of held))) c.in-Ok-None.field-0-is c.in-Ok-None.ensures in
    is_held g.L.Law.fits ranges (g.met.L.KeepsGraph.keeps_graph new.shape new.seen ranges read.keeps.sound.fit read.keeps.sound.legal.reads) read.keeps read.done c.requires.spelled none
