-- A vertex and the names, as a transaction finds them in a store of a graph.
use Rattle.std.proofs.Common.{◌≡◌, ◌∙◌, ℕ, ◌<◌, mod-lt, true, Option, Some, None, sym, ap, subst, arith, ◌⊎◌, inl, inr}
use Rattle.std.specs.Prelude.{is_some}
use Rattle.std.specs.Option.{option_map, unwrap_or}
use Rattle.std.specs.Ordering.{nat_cmp}
use Rattle.rma_layout.specs.Shape.{Shape}
use Rattle.rma_layout.specs.Ranges.{IsInRange}
use Rattle.rma_layout.specs.Placement.{IsBlock, Place, bucket_of, home_of, metadata}
use Rattle.object_words.specs.Contents.{Agrees, Contents, content_of, overlay, words_at}
use Rattle.graph_model.specs.Graph.{Graph, Vertex, is_vertex, vertex_at}
use Rattle.graph_model.specs.Maps.{at}
use Rattle.holder_codec.specs.declared.meta_holder.MetaHolder.{MetaHolder}
use Rattle.holder_codec.specs.declared.vertex_holder.VertexHolder.{VertexHolder}
use Rattle.holder_codec.specs.Meta.{IsMetaHolder, meta_words}
use Rattle.holder_codec.specs.Vertex.{IsVertexHolder, vertex_words}
use Rattle.holder_codec.specs.Represents.{IsUnreserved, Represents, holder_of, object_of}
use Rattle.holder_codec.proofs.Fitting.{holder_fits}
use Rattle.holder_codec.proofs.Leading.{buckets_fix_objects, represents_leads, vertex_held}
use Rattle.holder_codec.proofs.Lengths.{vertex_same}
use Rattle.holder_codec.proofs.Maps.{find-by_keys, none-by_keys}
use Rattle.object_store.specs.Sound.{IsSound, StaysBegun}
use Rattle.object_store.specs.State.{StoreState, committed}
use Rattle.object_store.specs.Works.{At, Reaches}
use Rattle.object_store.proofs.Works.{looks-then}
use Rattle.held_objects.specs.Held.{FindsHolder, IsSpelled}
use Rattle.held_objects.specs.Knows.{Knows}
use Rattle.held_objects.proofs.Knows.{before, still}
use Rattle.id_hash.specs.Buckets.{Finds, IsBucketFor, LeadsTo}
use Rattle.meta_tables.specs.Names.{names_of}
use Rattle.meta_tables.proofs.Naming.{meta_same, represents_names}
use Rattle.graph_law.specs.declared.law.Noted.{Noted}
use Rattle.graph_law.specs.Calls.{Stands}
use Rattle.graph_law.specs.Law.{Fits}
use Rattle.graph_law.proofs.Looking.{may_be_here}
use Rattle.graph_vertices.specs.Finding.{FindsNames, FindsVertex}

-- what was read later agrees with what was read before
pub agrees_before : {N : Type 0} {old new : StoreState N} → StaysBegun old new → (store : Contents) → Agrees new.reads store → Agrees old.reads store
agrees_before stays store agrees = λ object words is. agrees object words (stays.reads object words is)

-- ---- a vertex where an identifier leads

module _ {shape : Shape} {contents : Contents} {g : Graph} (ranges : IsInRange shape) (is : Represents shape contents g) (id : ℕ) where
  pub led_to : {found : Option Place} → LeadsTo id found shape contents → at is.vertices id ≡ found
  led_to leads = ap (λ vertices. at vertices id) (buckets_fix_objects shape contents is.vertices leads.vertices ranges (represents_leads shape contents g is ranges) leads.led) ∙ leads.is

  module _ {object : Place} (leads : at is.vertices id ≡ Some object) where
    pub vertex_here : (vertex : Vertex) × (vertex_at g id ≡ Some vertex)
    vertex_here = find-by_keys nat_cmp is.vertices g.vertices id object is.represented.vertex_keys leads

    pub object_here : object_of is.vertices id ≡ object
    object_here = ap (λ o. unwrap_or o metadata) leads

    pub holder_is : IsVertexHolder (holder_of g is.vertices is.edges id vertex_here.0)
    holder_is = holder_fits shape contents g is ranges id vertex_here.0 vertex_here.1

    pub words_here : content_of contents object ≡ vertex_words (holder_of g is.vertices is.edges id vertex_here.0)
    words_here = ap (content_of contents) (sym object_here) ∙ (vertex_held shape contents g is id vertex_here.0 vertex_here.1).words

    pub place_here : IsUnreserved shape (home_of shape id) object
    place_here = subst (IsUnreserved shape (home_of shape id)) object_here (vertex_held shape contents g is id vertex_here.0 vertex_here.1).place

  pub none_here : at is.vertices id ≡ None → vertex_at g id ≡ None
  none_here none = none-by_keys nat_cmp is.vertices g.vertices id is.represented.vertex_keys none

module _ {id : ℕ} {object : Place} {state : StoreState Noted} (ranges : IsInRange state.shape) (knows : Knows Stands state) (leads : Knows (LeadsTo id (Some object)) state) where
  pub spelled_vertex : Knows (IsSpelled IsVertexHolder vertex_words object) state
  spelled_vertex = record {
    always = λ store may.
        let stands = knows.always store may in
        let led = led_to ranges stands.represents id (leads.always store may) in
        record { held = holder_of stands.graph stands.represents.vertices stands.represents.edges id (vertex_here ranges stands.represents id led).0; is = holder_is ranges stands.represents id led; words = words_here ranges stands.represents id led };
    ordered = knows.ordered;
  }

  pub is_unreserved : IsSound Fits state → IsUnreserved state.shape (home_of state.shape id) object
  is_unreserved sound =
      let may = may_be_here ranges sound in
      let stands = knows.always (committed state) may in
      place_here ranges stands.represents id (led_to ranges stands.represents id (leads.always (committed state) may))

  pub is_block : IsSound Fits state → IsBlock state.shape object
  is_block sound =
      let there = is_unreserved sound in
      let home : home_of state.shape id < state.shape.ranks = mod-lt id {m = state.shape.ranks} (omega (arith, ranges.ranks)) in
      (omega (arith, there.home, home), there.block)

-- ---- what is found

module _ {id : ℕ} {old mid : StoreState Noted} (ranges : IsInRange old.shape) (knows : Knows Stands old) (bucket : Reaches (IsBucketFor id old.shape) (λ _. ⊥) old mid) where
  pub finds_none : Finds id old mid None → FindsVertex id old mid None
  finds_none finds = record {
    looks = finds.looks;
    stands = still finds.looks knows;
    vertex = λ store g is agrees.
        let none = none_here ranges is id (sym (finds.answer store is.vertices agrees (represents_leads old.shape (overlay store old.writes) g is ranges))) in
        sym (ap (λ o. option_map (holder_of g is.vertices is.edges id) o) none);
    reads = λ store g is agrees place. elim (bucket.reads place) [ inl here ↦ inl here | inr unread ↦ inr (inr unread) ];
  }

  module _ {new : StoreState Noted} {object : Place} {holder : VertexHolder} (finds : Finds id old mid (Some object)) (read : FindsHolder IsVertexHolder vertex_words object mid new holder)
      (reaches : Reaches (At object mid.shape) (λ _. ⊥) mid new) where
    led : (store : Contents) (g : Graph) (is : Represents old.shape (overlay store old.writes) g) → Agrees new.reads store → at is.vertices id ≡ Some object
    led store g is agrees = sym (finds.answer store is.vertices (agrees_before read.looks.stays store agrees) (represents_leads old.shape (overlay store old.writes) g is ranges))

    found_holder : (store : Contents) (g : Graph) (is : Represents old.shape (overlay store old.writes) g) → Agrees new.reads store
        → Some holder ≡ option_map (holder_of g is.vertices is.edges id) (vertex_at g id)
    found_holder store g is agrees =
        let leads = led store g is agrees in
        let vertex = vertex_here ranges is id leads in
        let same = vertex_same holder (holder_of g is.vertices is.edges id vertex.0) read.is (holder_is ranges is id leads)
        (sym (read.words store agrees) ∙ (ap (λ (writes : Contents). content_of (overlay store writes) object) finds.looks.writes ∙ words_here ranges is id leads)) in
        ap (λ (h : VertexHolder). Some h) same ∙ sym (ap (λ o. option_map (holder_of g is.vertices is.edges id) o) vertex.1)

    found_reads : (store : Contents) (g : Graph) (is : Represents old.shape (overlay store old.writes) g) → Agrees new.reads store → (place : Place)
        → (place ≡ bucket_of old.shape id) ⊎ ((is_vertex g id ≡ true) × (object_of is.vertices id ≡ place)) ⊎ (words_at new.reads place ≡ words_at old.reads place)
    found_reads store g is agrees place =
        let leads = led store g is agrees in
        elim (reaches.reads place) [
          | inl here ↦ inr (inl (ap is_some (vertex_here ranges is id leads).1, object_here ranges is id leads ∙ sym here))
          | inr unread ↦ elim (bucket.reads place) [ inl here ↦ inl here | inr before ↦ inr (inr (unread ∙ before)) ]
        ]

    pub finds_vertex : FindsVertex id old new (Some holder)
    finds_vertex = record {
      looks = looks-then finds.looks read.looks;
      stands = still (looks-then finds.looks read.looks) knows;
      vertex = found_holder;
      reads = found_reads;
    }

pub spelled_names : {N : Type 0} {state : StoreState N} {place : Place} → place ≡ metadata → Knows Stands state → Knows (IsSpelled IsMetaHolder meta_words place) state
spelled_names {N} {state} here knows = record {
  always = λ store may.
      let stands = knows.always store may in
      let held = represents_names state.shape (overlay store state.writes) stands.graph stands.represents in
      record { held = names_of stands.graph; is = held.holder; words = ap (content_of (overlay store state.writes)) here ∙ held.words };
  ordered = knows.ordered;
}

pub finds_names : {N : Type 0} {old new : StoreState N} {place : Place} {names : MetaHolder} → place ≡ metadata → Knows Stands old → FindsHolder IsMetaHolder meta_words place old new names → FindsNames old new names
finds_names {N} {old} {new} {place} {names} here knows read = record {
  looks = read.looks;
  stands = still read.looks knows;
  names = λ store g is agrees.
      let held = represents_names old.shape (overlay store old.writes) g is in
      meta_same names (names_of g) read.is held.holder (sym (read.words store agrees) ∙ (ap (content_of (overlay store old.writes)) here ∙ held.words));
}
