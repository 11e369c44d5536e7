use Rattle.std.proofs.Common.{codes, refl, sym, ◌∙◌}
use Rattle.std.proofs.lemmas.Bool.{false≢true}
use Rattle.command_words.specs.Commands.{load_options}
use Rattle.command_words.specs.Sources.{listed}
use Rattle.command_words.proofs.Sourced.{AreGiven, plain_values, no_values, numbers_of, refused_sizes}
use Rattle.command_words.proofs.sources.source_in.Goals as goal

pub returns-then-not-are_values : goal.returns-then-not-are_values
returns-then-not-are_values c = λ items holds once.
    let given : AreGiven items (listed c.value_of-vertices.result) (listed c.value_of-edges.result)
    (record { ranks = c.value_of.result; blocks = c.value_of-2.result; words = c.value_of-3.result; buckets = c.value_of-4.result; slots = c.value_of-5.result })
    = record {
      vertices = c.value_of-vertices.ensures load_options items holds refl (once (codes "vertices") refl);
      edges = c.value_of-edges.ensures load_options items holds refl (once (codes "edges") refl);
      ranks = c.value_of.ensures load_options items holds refl (once (codes "ranks") refl);
      blocks = c.value_of-2.ensures load_options items holds refl (once (codes "blocks") refl);
      words = c.value_of-3.ensures load_options items holds refl (once (codes "words") refl);
      buckets = c.value_of-4.ensures load_options items holds refl (once (codes "buckets") refl);
      slots = c.value_of-5.ensures load_options items holds refl (once (codes "slots") refl);
    } in
    no_values items _ _ _ given (λ values. false≢true (sym c.if-not-are_values.true ∙ c.are_values.ensures.1 values))

pub returns-in-Ok : goal.returns-in-Ok
returns-in-Ok c = λ items holds once.
    let given : AreGiven items (listed c.value_of-vertices.result) (listed c.value_of-edges.result)
    (record { ranks = c.value_of.result; blocks = c.value_of-2.result; words = c.value_of-3.result; buckets = c.value_of-4.result; slots = c.value_of-5.result })
    = record {
      vertices = c.value_of-vertices.ensures load_options items holds refl (once (codes "vertices") refl);
      edges = c.value_of-edges.ensures load_options items holds refl (once (codes "edges") refl);
      ranks = c.value_of.ensures load_options items holds refl (once (codes "ranks") refl);
      blocks = c.value_of-2.ensures load_options items holds refl (once (codes "blocks") refl);
      words = c.value_of-3.ensures load_options items holds refl (once (codes "words") refl);
      buckets = c.value_of-4.ensures load_options items holds refl (once (codes "buckets") refl);
      slots = c.value_of-5.ensures load_options items holds refl (once (codes "slots") refl);
    } in (
      plain_values items _ _ _ given (c.are_values.ensures.0 c.if-not-are_values.false),
      record { vertices = given.vertices; edges = given.edges; numbers = numbers_of items _ _ _ given c.in-Ok.geometry c.in-Ok.ensures.0; fits = c.in-Ok.ensures.1 },
    )

pub returns-in-Err : goal.returns-in-Err
returns-in-Err c = λ items holds once.
    let given : AreGiven items (listed c.value_of-vertices.result) (listed c.value_of-edges.result)
    (record { ranks = c.value_of.result; blocks = c.value_of-2.result; words = c.value_of-3.result; buckets = c.value_of-4.result; slots = c.value_of-5.result })
    = record {
      vertices = c.value_of-vertices.ensures load_options items holds refl (once (codes "vertices") refl);
      edges = c.value_of-edges.ensures load_options items holds refl (once (codes "edges") refl);
      ranks = c.value_of.ensures load_options items holds refl (once (codes "ranks") refl);
      blocks = c.value_of-2.ensures load_options items holds refl (once (codes "blocks") refl);
      words = c.value_of-3.ensures load_options items holds refl (once (codes "words") refl);
      buckets = c.value_of-4.ensures load_options items holds refl (once (codes "buckets") refl);
      slots = c.value_of-5.ensures load_options items holds refl (once (codes "slots") refl);
    } in
    refused_sizes items _ _ _ given c.in-Err.kind (c.are_values.ensures.0 c.if-not-are_values.false) c.in-Err.ensures
