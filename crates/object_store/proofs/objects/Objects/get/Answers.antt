use Rattle.std.proofs.Common.{sym, ap, ◌∙◌}
use Rattle.object_words.specs.Contents.{words_at}
use Rattle.object_store.specs.Map.{contents_in}
use Rattle.object_store.proofs.Maps.{words_at-contents_in}
use Rattle.object_store.proofs.objects.Objects.get.Goals as goal

pub returns : goal.returns
returns c =
    c.get.ensures.value
    ∙ (sym (words_at-contents_in c.self.inside.words.entries c.key.result)
    ∙ (ap (words_at (contents_in c.self.inside.words.entries)) c.key.ensures
    ∙ ap (λ contents. words_at contents c.args.at) c.self.view_is))
