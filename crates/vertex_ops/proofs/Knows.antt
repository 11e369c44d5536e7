-- What is known of a vertex.
use Rattle.std.proofs.Common.{◌≡◌, ℕ, Bool, true, false, not, refl}
use Rattle.rma_layout.specs.Placement.{Place}
use Rattle.object_store.specs.State.{StoreState}
use Rattle.held_objects.specs.Changes.{any}
use Rattle.holder_codec.specs.Holders.{is_marked_in}
use Rattle.vertex_ops.specs.Vertices.{HeldVertex, KnowsVertex, KnowsVertexWithSingle, is_single}

unmarked : (b : Bool) → not b ≡ true → b ≡ false
unmarked true is = absurd cc
unmarked false is = refl

module _ {N : Type 0} {object : Place} {state : StoreState N} where
  pub vertex_of_single : {number : ℕ} {passes : HeldVertex → Bool} → KnowsVertexWithSingle number object passes state → KnowsVertex object passes state
  vertex_of_single knows = record {
    always = λ store may.
        let is = knows.always store may in
        record { part = is.part; has = record { fits = is.has.fits.orderly; holder = is.has.holder; words = is.has.words; within = is.has.within }; passed = is.passed };
    ordered = knows.ordered;
  }

  pub single_of_vertex : {number : ℕ} → KnowsVertex object (is_single number) state → KnowsVertexWithSingle number object any state
  single_of_vertex {number} knows = record {
    always = λ store may.
        let is = knows.always store may in
        let single = unmarked (is_marked_in is.part.types number) is.passed in
        record { part = is.part; has = record { fits = record { orderly = is.has.fits; single = single }; holder = is.has.holder; words = is.has.words; within = is.has.within }; passed = refl };
    ordered = knows.ordered;
  }
