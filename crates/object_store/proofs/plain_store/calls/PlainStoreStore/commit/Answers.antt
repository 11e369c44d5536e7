use Rattle.std.proofs.Common.{refl, sym, subst, ap, ◌∙◌, arith, ◌<◌, ◌^◌, length}
use Rattle.rma_layout.specs.Shape.{Shape}
use Rattle.object_words.specs.Contents.{content_of}
use Rattle.object_store.specs.Plain.{plain_state}
use Rattle.object_store.specs.State.{next_entry}
use Rattle.object_store.proofs.Committing.{same-commit, commit_keeps, commit_done}
use Rattle.object_store.proofs.plain_store.calls.PlainStoreStore.commit.Goals as goal

pub place-number-requires-clause-said : goal.place-number-requires-clause-said
place-number-requires-clause-said g c =
    let self = c.args.self.now in
    let entry = next_entry (plain_state self.geometry self.ledger.seat.table_id self.txn self.ledger.seat.me.0) (g.C.Carries.note c.args.note.now) in
    (entry, refl, subst (λ (shape : Shape). g.L.Law.fits shape entry) (sym self.shape) c.requires.fits, record { reads = self.reads_in_order; writes = self.writes_in_order }, self.agrees)

pub invariant_of-self-clause-same : goal.invariant_of-self-clause-same
invariant_of-self-clause-same g c =
    let self = c.args.self.now in
    let entry = next_entry (plain_state self.geometry self.ledger.seat.table_id self.txn self.ledger.seat.me.0) (g.C.Carries.note c.args.note.now) in
    λ object. ap (λ contents. content_of contents object) c.absorb.ensures.these
    ∙ same-commit self.committed self.txn.writes self.ledger.seat.me.0 c.place-number.new.self.seat.me.0 entry
    (c.place-number.ensures.placed entry refl) refl self.writes_in_order self.same object

pub returns-clause-keeps : goal.returns-clause-keeps
returns-clause-keeps g c =
    let self = c.args.self.now in
    let entry = next_entry (plain_state self.geometry self.ledger.seat.table_id self.txn self.ledger.seat.me.0) (g.C.Carries.note c.args.note.now) in
    commit_keeps g.L.Law.fits self.geometry self.ledger.seat.table_id c.place-number.new.self.seat.table_id self.txn c.end.new.self self.ledger.seat.me.0 c.place-number.new.self.seat.me.0 entry
    c.place-number.ensures.table c.end.ensures (c.place-number.ensures.placed entry refl) c.place-number.ensures.history self.shape

pub returns-clause-done : goal.returns-clause-done
returns-clause-done g c =
    let self = c.args.self.now in
    let note = g.C.Carries.note c.args.note.now in
    let entry = next_entry (plain_state self.geometry self.ledger.seat.table_id self.txn self.ledger.seat.me.0) note in
    let room : length self.ledger.seat.me.0.seen < 2 ^ 62 = omega (arith, c.requires.allowed) in
    commit_done g.L.Law.fits self.geometry self.ledger.seat.table_id c.place-number.new.self.seat.table_id self.txn c.end.new.self self.ledger.seat.me.0 c.place-number.new.self.seat.me.0 entry
    note c.place-number.result c.place-number.ensures.number room refl c.end.ensures (c.place-number.ensures.placed entry refl)

pub invariant_of-self-clause-shape : goal.invariant_of-self-clause-shape
invariant_of-self-clause-shape g c =
    let self = c.args.self.now in
    let entry = next_entry (plain_state self.geometry self.ledger.seat.table_id self.txn self.ledger.seat.me.0) (g.C.Carries.note c.args.note.now) in
    ap (λ account. account.shape) (c.place-number.ensures.placed entry refl) ∙ self.shape
