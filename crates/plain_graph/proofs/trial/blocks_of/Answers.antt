use Rattle.std.proofs.Common.{◌≡◌, true, if◌then◌else◌, sym, ap, ◌∙◌}
use Rattle.rma_layout.specs.Shape.{Shape}
use Rattle.graph_model.specs.Capacity.{is_object, words_of}
use Rattle.graph_model.specs.Sizes.{blocks_of_words}
use Rattle.map_graph.specs.Named.{object_of, rank_in}
use Rattle.plain_graph.proofs.trial.blocks_of.Goals as goal

pub returns : goal.returns
returns c =
    let shape = c.args.map.now.shape in
    let there : is_object c.args.map.now.graph (object_of c.args.object) ≡ true = sym c.is_object.ensures ∙ c.if-not-is_object.false in
    c.blocks_of_words.ensures ∙ ap (λ (s : Shape). blocks_of_words s c.in_ok-words.words) c.requires.geometry ∙ ap (blocks_of_words shape) c.in_ok-words.ensures
    ∙ ap (λ b. if b then blocks_of_words shape (words_of shape c.args.map.now.graph (rank_in shape c.args.object) (object_of c.args.object)) else 0) (sym there)
