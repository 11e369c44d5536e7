-- The store of the example represents its graph.
use Rattle.std.proofs.Common.{◌≡◌, ◌≢◌, ◌∙◌, ℕ, ◌≤◌, Bool, true, false, cond, eqb, List, [], ◌∷◌, ◌&&◌, map, slice_index, length, Some, refl, sym, ap, subst, arith, eq-eqb, eqb-true}
use Rattle.std.specs.List.{AllByRecursion, flat_map}
use Rattle.std.specs.Option.{unwrap_or}
use Rattle.std.specs.Ordering.{eq_by_cmp}
use Rattle.std.proofs.lemmas.Bool.{and_parts, and_from}
use Rattle.rma_layout.specs.Shape.{standard_shape}
use Rattle.rma_layout.specs.Placement.{Place, same_place}
use Rattle.object_words.specs.Contents.{Contents, place_cmp, content_of, words_at}
use Rattle.object_words.proofs.Places.{places_equal, same_places}
use Rattle.graph_model.specs.Graph.{Vertex}
use Rattle.graph_model.specs.Sizes.{most_words}
use Rattle.graph_model.specs.WellFormed.{IsWellFormed}
use Rattle.holder_codec.specs.Bucket.{bucket_words}
use Rattle.holder_codec.specs.Holders.{pair_words}
use Rattle.holder_codec.specs.Texts.{words_from}
use Rattle.holder_codec.specs.Represents.{VertexObjects, EdgeObjects, entries_of, pairs_of_label, IsBucket, IsSlot, HasNames, HasBuckets, HasIndex, RestIsEmpty, Represents}
use Rattle.object_view.specs.Example.{loops, words_of_loops}

-- ---- what contents have elsewhere, and at most

elsewhere : (contents : Contents) (place : Place) → AllByRecursion (λ one. one.0 ≢ place) contents → content_of contents place ≡ []
elsewhere [] place apart = refl
elsewhere (one ∷ more) place apart =
    elim (eq_by_cmp place_cmp place one.0) as (λ tie. eq_by_cmp place_cmp place one.0 ≡ tie → unwrap_or (cond tie (Some one.1) (words_at more place)) [] ≡ []) [
      | true ↦ λ tie. absurd (apart.0 (sym (places_equal place one.0 tie)))
      | false ↦ λ _. elsewhere more place apart.1
    ] refl

at_most : (contents : Contents) (most : ℕ) (place : Place) → AllByRecursion (λ one. length one.1 ≤ most) contents → length (content_of contents place) ≤ most
at_most [] most place few = omega arith
at_most (one ∷ more) most place few =
    elim (eq_by_cmp place_cmp place one.0) as (λ tie. length (unwrap_or (cond tie (Some one.1) (words_at more place)) []) ≤ most) [
      | true ↦ few.0
      | false ↦ at_most more most place few.1
    ]

-- a place is this one, or another
here_or_not : (place here : Place) (P : Place → Type 0) → P here → ((here ≢ place) → same_place here place ≡ false → P place) → P place
here_or_not place here P is isnt = cases (same_place here place) refl
  where
    itself : (p : Place) → same_place p p ≡ true
    itself p = and_from (eqb p.rank p.rank) (eqb p.block p.block) (eq-eqb p.rank p.rank refl) (eq-eqb p.block p.block refl)

    cases : (same : Bool) → same_place here place ≡ same → P place
    cases true same =
        let parts = and_parts (eqb here.rank place.rank) (eqb here.block place.block) same in
        subst P (same_places here place (eqb-true here.rank place.rank parts.0) (eqb-true here.block place.block parts.1)) is
    cases false same = isnt (λ told. absurd (cc (same, ap (λ p. same_place p place) told ∙ itself place))) same

-- ---- the parts

abbrev vertices : VertexObjects
vertices = (5, record { rank = 1; block = 81 }) ∷ []

abbrev edges : EdgeObjects
edges = (record { source = 5; ordinal = 1 }, record { rank = 1; block = 82 }) ∷ []

well_formed : IsWellFormed loops
well_formed = record {
  labels = (refl, ((λ same. omega (arith, ap (λ (bytes : List ℕ). slice_index bytes 0) same)), tt), (refl, tt, tt));
  types = tt;
  vertices = refl;
  edges = refl;
  each_vertex = (record { in_range = omega arith; next = omega arith; labels = ((tt, tt), (omega arith, tt)); props = (refl, tt) }, tt);
  each_edge = (
    record { source = omega arith; target = refl; labels = (tt, tt); props = (refl, tt) },
    (record { source = omega arith; target = refl; labels = (((omega arith, tt), (tt, tt)), (omega arith, (omega arith, tt))); props = (refl, tt) }, tt),
  );
}

names : HasNames words_of_loops loops.labels loops.types
unfolding words_from
names = refl

buckets : HasBuckets standard_shape words_of_loops vertices
buckets place is =
    here_or_not place (record { rank = 1; block = 2 }) (λ p. content_of words_of_loops p ≡ bucket_words (record { entries = entries_of standard_shape vertices p })) refl
    (λ apart off. elsewhere words_of_loops place (
      (λ same. omega (arith, is.block, ap (λ (p : Place). p.block) same)),
      (
        apart,
        (
          (λ same. omega (arith, is.block, ap (λ (p : Place). p.block) same)),
          (
            (λ same. omega (arith, is.block, ap (λ (p : Place). p.block) same)),
            ((λ same. omega (arith, is.block, ap (λ (p : Place). p.block) same)), tt),
          ),
        ),
      ),
    ) ∙ sym (ap (λ b. bucket_words (record { entries = map (λ (entry : ℕ × Place). record { id = entry.0; at = entry.1 }) (cond b vertices []) })) off))

-- the pairs of the slot, if the place is it
abbrev pairs_if : Bool → List ℕ
pairs_if here = flat_map (λ (label : ℕ). flat_map (λ (entry : ℕ × Vertex). pair_words label entry.0) (cond (eqb label 0 && here) loops.vertices [])) (0 ∷ 1 ∷ [])

index : HasIndex standard_shape words_of_loops 2 loops.vertices
index place is =
    here_or_not place (record { rank = 1; block = 66 }) (λ p. content_of words_of_loops p ≡ flat_map (pairs_of_label standard_shape loops.vertices p) (0 ∷ 1 ∷ [])) refl
    (λ apart off. elsewhere words_of_loops place (
      (λ same. omega (arith, is.block.0, ap (λ (p : Place). p.block) same)),
      (
        (λ same. omega (arith, is.block.0, ap (λ (p : Place). p.block) same)),
        (
          apart,
          (
            (λ same. omega (arith, is.block.1, ap (λ (p : Place). p.block) same)),
            ((λ same. omega (arith, is.block.1, ap (λ (p : Place). p.block) same)), tt),
          ),
        ),
      ),
    ) ∙ sym (ap pairs_if off))

rest : RestIsEmpty standard_shape words_of_loops ((record { rank = 1; block = 81 }) ∷ (record { rank = 1; block = 82 }) ∷ [])
rest place not_metadata not_bucket not_slot held = elsewhere words_of_loops place (
  (λ same. not_metadata (sym same)),
  (
    (λ same. not_bucket (subst (IsBucket standard_shape) same (record { rank = omega arith; block = (omega arith, omega arith) }))),
    (
      (λ same. not_slot (subst (IsSlot standard_shape) same (record { rank = omega arith; block = (omega arith, omega arith) }))),
      (held.0, (held.1.0, tt)),
    ),
  ),
)

pub stands : Represents standard_shape words_of_loops loops
stands = record {
  well_formed = well_formed;
  vertices = vertices;
  edges = edges;
  represented = record {
    vertex_keys = refl;
    edge_keys = refl;
    names = names;
    buckets = buckets;
    held_vertices = (record { place = record { home = refl; block = omega arith; unreserved = λ less. omega (arith, less) }; words = refl }, tt);
    held_edges = (record { place = record { home = refl; block = omega arith; unreserved = λ less. omega (arith, less) }; words = refl }, tt);
    index = index;
    apart = ((λ same. absurd (omega (arith, ap (λ (p : Place). p.block) same)), tt), (tt, tt));
    rest = rest;
    within = λ place. at_most words_of_loops most_words place (omega arith, (omega arith, (omega arith, (omega arith, (omega arith, tt)))));
  };
}
