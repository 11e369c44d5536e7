use Rattle.std.proofs.Common.{sym, ap, ◌∙◌, ◌≡◌, cond, None, Some, Result, Ok, Err, OnErr}
use Rattle.rma_layout.specs.Placement.{same_place}
use Rattle.object_moves.specs.Noted.{blocks_of, chains_in}
use Rattle.object_moves.proofs.HeldMaps.{blocks_of-chains_in, blocks_of-insert_entry}
use Rattle.object_moves.proofs.noted.NotedChains.put.Goals as goal

on_err : {A E : Type 0} {P : Type 0} (result : Result A E) → P → OnErr result P
on_err (Ok a) h = tt
on_err (Err e) h = h

pub returns-in_err-insert-clause-absent : goal.returns-in_err-insert-clause-absent
returns-in_err-insert-clause-absent c =
    let none : blocks_of c.args.self.now c.args.at ≡ None =
    ap (λ chains. blocks_of chains c.args.at) (sym c.self.view_is)
    ∙ (ap (blocks_of (chains_in c.self.inside.blocks.entries)) (sym c.key.ensures)
    ∙ (blocks_of-chains_in c.self.inside.blocks.entries c.key.result ∙ c.in_err-insert.ensures.absent)) in
    on_err c.from_residual.result none

pub returns-clause-ok : goal.returns-clause-ok
returns-clause-ok c = λ other.
    ap (λ entries. blocks_of (chains_in entries) other) c.in_ok-insert.ensures.entries
    ∙ (blocks_of-insert_entry c.key.result c.args.blocks other c.self.inside.blocks.entries
    ∙ (ap (λ object. cond (same_place object other) (Some c.args.blocks) (blocks_of (chains_in c.self.inside.blocks.entries) other)) c.key.ensures
    ∙ ap (λ chains. cond (same_place c.args.at other) (Some c.args.blocks) (blocks_of chains other)) c.self.view_is))
