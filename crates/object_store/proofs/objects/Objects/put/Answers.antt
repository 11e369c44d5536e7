use Rattle.std.proofs.Common.{sym, ap, ◌∙◌, ◌≡◌, None, Result, Ok, Err, OnErr}
use Rattle.std.specs.Prelude.{is_some}
use Rattle.object_words.specs.Contents.{words_at, with_words}
use Rattle.object_store.specs.Map.{contents_in}
use Rattle.object_store.proofs.Maps.{words_at-contents_in, contents_in-insert_entry}
use Rattle.object_store.proofs.objects.Objects.put.Goals as goal

on_err : {A E : Type 0} {P : Type 0} (result : Result A E) → P → OnErr result P
on_err (Ok a) h = tt
on_err (Err e) h = h

pub returns-in_err-insert-clause-absent : goal.returns-in_err-insert-clause-absent
returns-in_err-insert-clause-absent c =
    let none : words_at c.args.self.now c.args.at ≡ None =
    ap (λ contents. words_at contents c.args.at) (sym c.self.view_is)
    ∙ (ap (words_at (contents_in c.self.inside.words.entries)) (sym c.key.ensures)
    ∙ (words_at-contents_in c.self.inside.words.entries c.key.result
    ∙ c.in_err-insert.ensures.absent)) in
    on_err c.from_residual.result (ap is_some none)

pub returns-clause-ok : goal.returns-clause-ok
returns-clause-ok c =
    ap contents_in c.in_ok-insert.ensures.entries
    ∙ (contents_in-insert_entry c.self.inside.words.entries c.key.result c.args.words
    ∙ (ap (λ object. with_words (contents_in c.self.inside.words.entries) object c.args.words) c.key.ensures
    ∙ ap (λ contents. with_words contents c.args.at c.args.words) c.self.view_is))
