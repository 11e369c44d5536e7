use Rattle.std.proofs.Common.{rules}
use Rattle.std.proofs.lemmas.Result.{err_from_is_err_and}
use Rattle.object_store.proofs.Works.{fell_wider}
use Rattle.vertex_ops.specs.Vertices.{HomeOf}
use Rattle.edge_ops.specs.Opening.{IsAtRecord}
use Rattle.edge_ops.proofs.given.give.Goals as goal

pub returns-in_err-give_form-in-Ok-Form-clause-fell : goal.returns-in_err-give_form-in-Ok-Form-clause-fell
returns-in_err-give_form-in-Ok-Form-clause-fell g c =
    let did = fell_wider {One = λ _. IsAtRecord c.args.source c.args.opened.edge} {Homes = HomeOf c.args.holder.now.source} (λ place is. is) (λ rank never. absurd never) c.in_err-give_form-in-Ok-Form.ensures.works.fell in
    let p = err_from_is_err_and c.from_residual.result c.from_residual.ensures.1 in
    search (rules, did, p.1, p.2)
