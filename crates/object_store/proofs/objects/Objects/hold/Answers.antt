use Rattle.std.proofs.Common.{ap, sym, ◌∙◌, ◌≡◌, List, [], ℕ}
use Rattle.std.specs.Prelude.{is_some}
use Rattle.std.proofs.lemmas.Result.{on_ok_weaker}
use Rattle.object_words.specs.Contents.{Contents, words_at, content_of, with_words}
use Rattle.rma_layout.specs.Placement.{Place}
use Rattle.object_words.proofs.Places.{words_at_here}
use Rattle.object_store.proofs.Holding.{by_result, same_held, held_still}
use Rattle.object_store.proofs.objects.Objects.hold.Goals as goal

-- what is put is no words
put_none : (contents new : Contents) (object : Place) (words : List ℕ) → words ≡ [] → new ≡ with_words contents object words → new ≡ with_words contents object []
put_none contents new object words none is = is ∙ ap (with_words contents object) none

pub returns-clause-same : goal.returns-clause-same
returns-clause-same c = λ object.
    by_result c.put.result c.put.ensures.ok c.put.ensures.err
    (λ is. ap (λ contents. content_of contents object) (put_none c.args.self.now c.put.new.self c.args.at c.new.result c.new.ensures is) ∙ same_held c.args.self.now c.args.at object (sym c.has.ensures ∙ c.if-has.false))
    (λ is. ap (λ contents. content_of contents object) is)

pub returns-clause-held : goal.returns-clause-held
returns-clause-held c =
    on_ok_weaker c.put.result
    (λ is. ap (λ contents. is_some (words_at contents c.args.at)) (put_none c.args.self.now c.put.new.self c.args.at c.new.result c.new.ensures is) ∙ ap is_some (words_at_here c.args.self.now c.args.at []))
    c.put.ensures.ok

pub returns-clause-others : goal.returns-clause-others
returns-clause-others c = λ other h.
    by_result c.put.result c.put.ensures.ok c.put.ensures.err
    (λ is. ap (λ contents. is_some (words_at contents other)) (put_none c.args.self.now c.put.new.self c.args.at c.new.result c.new.ensures is) ∙ held_still c.args.self.now c.args.at [] other h)
    (λ is. ap (λ contents. is_some (words_at contents other)) is ∙ h)
