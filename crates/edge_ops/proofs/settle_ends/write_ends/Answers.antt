use Rattle.std.proofs.Common.{rules, Ok, inl, inr}
use Rattle.object_store.specs.Works.{Nowhere}
use Rattle.object_store.proofs.Works.{access_fell, fell_wider, went_wider, went-then, went-fell, write_works}
use Rattle.edge_ops.specs.Ends.{Either}
use Rattle.edge_ops.proofs.Finding.{may_write_still}
use Rattle.edge_ops.proofs.settle_ends.write_ends.Goals as goal

pub returns-in_err-write-clause-works : goal.returns-in_err-write-clause-works
returns-in_err-write-clause-works g c =
    let write = c.in_err-write.ensures in
    let fell = access_fell {state = g.S.Store.state} {explains = g.S.Store.explains} {says = g.S.Store.says} {old = c.args.store.now} {new = c.write.new.self} write.keeps write.refused write.explained write.explained_still in
    let did = fell_wider {One = Either c.args.source c.args.target} {Homes = Nowhere} (λ place is. inl is) (λ rank never. never) fell in
    search rules

pub returns-in_default-clause-works : goal.returns-in_default-clause-works
returns-in_default-clause-works g c =
    let write = c.in_ok-write.ensures in
    let did = write_works {says = g.S.Store.says} _ (Ok c.in_ok-write.field-0) c.requires.may_source write.keeps write.done tt tt write.explained_still in
    record { went = went_wider {Whole = Either c.args.source c.args.target} (λ place is. inl is) (λ rank never. never) did.went; fell = tt }

pub write-requires-2-clause-may : goal.write-requires-2-clause-may
write-requires-2-clause-may g c = may_write_still c.args.target c.in_ok-write.ensures.done c.requires.may_target

pub returns-in_err-write-2-clause-works : goal.returns-in_err-write-2-clause-works
returns-in_err-write-2-clause-works g c =
    let first = c.in_ok-write.ensures in
    let wrote = write_works {says = g.S.Store.says} _ (Ok c.in_ok-write.field-0) c.requires.may_source first.keeps first.done tt tt first.explained_still in
    let went = went_wider {Whole = Either c.args.source c.args.target} {Homes = Nowhere} (λ place is. inl is) (λ rank never. never) wrote.went in
    let write = c.in_err-write-2.ensures in
    let fell = access_fell {state = g.S.Store.state} {explains = g.S.Store.explains} {says = g.S.Store.says} {old = c.write.new.self} {new = c.write-2.new.self} write.keeps write.refused write.explained write.explained_still in
    let did = went-fell went (fell_wider {One = Either c.args.source c.args.target} {Homes = Nowhere} (λ place is. inr is) (λ rank never. never) fell) in
    search rules

pub returns-clause-works : goal.returns-clause-works
returns-clause-works g c =
    let first = c.in_ok-write.ensures in
    let wrote = write_works {says = g.S.Store.says} _ (Ok c.in_ok-write.field-0) c.requires.may_source first.keeps first.done tt tt first.explained_still in
    let second = c.in_ok-write-2.ensures in
    let wrote_more = write_works {says = g.S.Store.says} _ (Ok c.in_ok-write-2.field-0) (may_write_still c.args.target first.done c.requires.may_target) second.keeps second.done tt tt second.explained_still in
    record {
      went = went-then (went_wider {Whole = Either c.args.source c.args.target} {Homes = Nowhere} (λ place is. inl is) (λ rank never. never) wrote.went)
          (went_wider {Whole = Either c.args.source c.args.target} {Homes = Nowhere} (λ place is. inr is) (λ rank never. never) wrote_more.went);
      fell = tt;
    }
