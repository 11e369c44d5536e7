-- The buckets of a store lead to the objects of its vertices, and fix them.
use Rattle.std.proofs.Common.{◌≡◌, ℕ, ◌/◌, ◌%◌, ◌^◌, ◌<◌, Bool, true, cond, eqb, Some, None, refl, sym, ap, ◌∙◌, eq-eqb, arith}
use Rattle.std.specs.List.{AllByRecursion, filter}
use Rattle.std.specs.Option.{unwrap_or}
use Rattle.std.specs.Ordering.{nat_cmp}
use Rattle.std.specs.Cmp.{nat_cmp_total}
use Rattle.std.specs.FinMap.{nat_cmp-IsAntisymmetric}
use Rattle.std.specs.FinMap.Entries.{find, find-where_key, same_entries}
use Rattle.std.proofs.lemmas.Bool.{and_from}
use Rattle.std.proofs.lemmas.Nat.{mod_below}
use Rattle.rma_layout.specs.Shape.{Shape}
use Rattle.rma_layout.specs.Ranges.{IsInRange}
use Rattle.rma_layout.specs.Placement.{Place, FitsOneWord, same_place, bucket_of, metadata}
use Rattle.object_words.specs.Contents.{Contents}
use Rattle.object_words.proofs.Places.{to_T}
use Rattle.graph_model.specs.Maps.{Map}
use Rattle.graph_model.specs.Graph.{Graph, Vertex, vertex_at}
use Rattle.graph_model.specs.WellFormed.{VertexFits}
use Rattle.graph_model.proofs.Entries.{All-filter, All-find, IsMap-filter}
use Rattle.holder_codec.specs.declared.bucket_entry.BucketEntry.{BucketEntry}
use Rattle.holder_codec.specs.declared.bucket_holder.BucketHolder.{BucketHolder}
use Rattle.holder_codec.specs.Bucket.{EntryFits, IsBucketHolder, is_entry_before}
use Rattle.holder_codec.specs.Represents.{VertexObjects, object_of, IsBucket, entries_of, BucketsLead, IsUnreserved, VertexIsHeld, Represents}
use Rattle.holder_codec.proofs.Lengths.{bucket_same}
use Rattle.holder_codec.proofs.Maps.{is_less, All-over_map, same_from_map, IsMap-by_keys, find-by_keys, All-from_find, rising-map}

-- an identifier with its object
abbrev pub IsEntry : ℕ × Place → Type 0
IsEntry entry = (entry.0 < 2 ^ 64) × FitsOneWord entry.1

abbrev entry_of : ℕ × Place → BucketEntry
entry_of entry = record { id = entry.0; at = entry.1 }

abbrev is_of_bucket : Shape → Place → ℕ → Bool
is_of_bucket shape place id = same_place (bucket_of shape id) place

-- ---- a bucket's entries

pub entries_fit : (shape : Shape) (store : Contents) (vertices : VertexObjects) (place : Place) → BucketsLead shape store vertices → IsBucketHolder (record { entries = entries_of shape vertices place })
entries_fit shape store vertices place leads =
    let of_place : Map ℕ Place = filter (λ entry. is_of_bucket shape place entry.0) vertices in
    let fit : AllByRecursion IsEntry of_place = All-filter IsEntry IsEntry (λ entry. is_of_bucket shape place entry.0) (λ _ _ fits. fits) vertices leads.each in
    let rising = IsMap-filter nat_cmp (λ entry. is_of_bucket shape place entry.0) vertices leads.rising in
    record {
      rising = rising-map nat_cmp IsEntry is_entry_before entry_of (λ a b _ _ less. is_less a.0 b.0 less) of_place fit rising;
      each = All-over_map EntryFits entry_of of_place (All-filter IsEntry (λ entry. EntryFits (entry_of entry)) (λ entry. is_of_bucket shape place entry.0) (λ _ _ fits. record { id = fits.0; at = fits.1 }) vertices leads.each);
    }

pub bucket_is : (shape : Shape) (id : ℕ) → IsInRange shape → IsBucket shape (bucket_of shape id)
bucket_is shape id ranges =
    let rank = mod_below id shape.ranks (omega (arith, ranges.ranks)) in
    let block = mod_below (id / shape.ranks) shape.buckets (omega (arith, ranges.buckets)) in
    record { rank = rank; block = (omega arith, omega arith) }

is_of_own_bucket : (shape : Shape) (id : ℕ) → is_of_bucket shape (bucket_of shape id) id ≡ true
is_of_own_bucket shape id =
    let place = bucket_of shape id in
    and_from (eqb place.rank place.rank) (eqb place.block place.block) (eq-eqb place.rank place.rank refl) (eq-eqb place.block place.block refl)

-- what is found at an identifier is found among the entries of its bucket
pub find-entries : (shape : Shape) (vertices : VertexObjects) (id : ℕ) → find nat_cmp id vertices ≡ find nat_cmp id (filter (λ entry. is_of_bucket shape (bucket_of shape id) entry.0) vertices)
find-entries shape vertices id =
    let passes = is_of_bucket shape (bucket_of shape id) in
    let kept = find-where_key nat_cmp passes id (λ other tied. ap passes (sym (nat_cmp-IsAntisymmetric id other tied))) vertices in
    sym (kept ∙ ap (λ b. cond b (find nat_cmp id vertices) None) (is_of_own_bucket shape id))

same_entries_of : (shape : Shape) (store : Contents) (one other : VertexObjects) (place : Place) → IsBucket shape place → BucketsLead shape store one → BucketsLead shape store other
    → filter (λ entry. is_of_bucket shape place entry.0) one ≡ filter (λ entry. is_of_bucket shape place entry.0) other
same_entries_of shape store one other place is a b =
    let of_one : BucketHolder = record { entries = entries_of shape one place } in
    let of_other : BucketHolder = record { entries = entries_of shape other place } in
    let same = bucket_same of_one of_other (entries_fit shape store one place a) (entries_fit shape store other place b) (sym (a.buckets place is) ∙ b.buckets place is) in
    same_from_map entry_of (λ entry. (entry.id, entry.at)) (λ _. refl) _ _ (ap (λ bucket. bucket.entries) same)

-- buckets that lead to two maps of objects lead to one
pub buckets_fix_objects : (shape : Shape) (store : Contents) (one other : VertexObjects) → IsInRange shape → BucketsLead shape store one → BucketsLead shape store other → one ≡ other
buckets_fix_objects shape store one other ranges a b =
    same_entries nat_cmp nat_cmp_total nat_cmp-IsAntisymmetric one other (to_T _ a.rising) (to_T _ b.rising) (λ id.
    find-entries shape one id ∙ ap (find nat_cmp id) (same_entries_of shape store one other (bucket_of shape id) (bucket_is shape id ranges) a b) ∙ sym (find-entries shape other id))

-- ---- a store that represents a graph

object_fits : (shape : Shape) (id : ℕ) (place : Place) → IsInRange shape → IsUnreserved shape (id % shape.ranks) place → FitsOneWord place
object_fits shape id place ranges free =
    let rank = mod_below id shape.ranks (omega (arith, ranges.ranks)) in
    (omega (arith, free.home, ranges.ranks), omega (arith, free.block, ranges.blocks))

module _ (shape : Shape) (store : Contents) (g : Graph) (r : Represents shape store g) where
  pub vertex_fits : (id : ℕ) (vertex : Vertex) → vertex_at g id ≡ Some vertex → VertexFits g id vertex
  vertex_fits id vertex found = All-find nat_cmp nat_cmp-IsAntisymmetric (λ entry. VertexFits g entry.0 entry.1) id vertex g.vertices r.well_formed.each_vertex found

  pub vertex_held : (id : ℕ) (vertex : Vertex) → vertex_at g id ≡ Some vertex → VertexIsHeld shape store g r.vertices r.edges id vertex
  vertex_held id vertex found =
      All-find nat_cmp nat_cmp-IsAntisymmetric (λ entry. VertexIsHeld shape store g r.vertices r.edges entry.0 entry.1) id vertex g.vertices r.represented.held_vertices found

  entry_is : IsInRange shape → (id : ℕ) (place : Place) → find nat_cmp id r.vertices ≡ Some place → IsEntry (id, place)
  entry_is ranges id place found =
      let vertex = find-by_keys nat_cmp r.vertices g.vertices id place r.represented.vertex_keys found in
      let here : object_of r.vertices id ≡ place = ap (λ o. unwrap_or o metadata) found in
      ((vertex_fits id vertex.0 vertex.1).in_range, object_fits shape id place ranges (rw here at (vertex_held id vertex.0 vertex.1).place))

  pub represents_leads : IsInRange shape → BucketsLead shape store r.vertices
  represents_leads ranges =
      let rising = IsMap-by_keys nat_cmp r.vertices g.vertices r.represented.vertex_keys r.well_formed.vertices in
      record {
        rising = rising;
        each = All-from_find nat_cmp nat_cmp_total nat_cmp-IsAntisymmetric IsEntry r.vertices rising (entry_is ranges);
        buckets = r.represented.buckets;
        within = λ place _. r.represented.within place;
      }
