-- How many words holders have, and that no two have the same.
use Rattle.std.proofs.Common.{◌≡◌, ℕ, ◌+◌, ◌*◌, List, [], ◌∷◌, ◌++◌, length, sum_by, refl, sym, ap, ◌∙◌, arith}
use Rattle.std.specs.List.{flat_map}
use Rattle.std.proofs.lemmas.List.{length-append}
use Rattle.std.proofs.lemmas.List.Concat.{flat_map-cons}
use Rattle.std.proofs.lemmas.List.Sums.{sum_by-cons}
use Rattle.gdi_kinds.specs.declared.value.Value.{Value}
use Rattle.gdi_kinds.specs.declared.value.Value.TheVariants as value
use Rattle.graph_model.specs.Sizes.{words_of_value, words_of_bytes}
use Rattle.holder_codec.specs.declared.bucket_holder.BucketHolder.{BucketHolder}
use Rattle.holder_codec.specs.declared.held_prop.HeldProp.{HeldProp}
use Rattle.holder_codec.specs.declared.edge_record.EdgeRecord.{EdgeRecord}
use Rattle.holder_codec.specs.declared.edge_holder.EdgeHolder.{EdgeHolder}
use Rattle.holder_codec.specs.declared.vertex_holder.VertexHolder.{VertexHolder}
use Rattle.holder_codec.specs.Values.{value_words, prop_words}
use Rattle.holder_codec.specs.Edges.{record_words}
use Rattle.holder_codec.specs.Bucket.{IsBucketHolder, bucket_words}
use Rattle.holder_codec.specs.Vertex.{IsVertexHolder, label_words, vertex_words}
use Rattle.holder_codec.specs.EdgeObject.{edge_object_words}
use Rattle.holder_codec.proofs.ReadLaws.{some_is}
use Rattle.holder_codec.proofs.TextLaws.{length-words_from}
use Rattle.holder_codec.proofs.Buckets.{bucket_again}
use Rattle.holder_codec.proofs.VertexLaws.{vertex_again}
use Rattle.holder_codec.specs.Reading.{bucket_of_words, vertex_of_words}

pub bucket_same : (one other : BucketHolder) → IsBucketHolder one → IsBucketHolder other → bucket_words one ≡ bucket_words other → one ≡ other
bucket_same one other f g e = some_is one other (sym (bucket_again one f) ∙ ap bucket_of_words e ∙ bucket_again other g)

pub vertex_same : (one other : VertexHolder) → IsVertexHolder one → IsVertexHolder other → vertex_words one ≡ vertex_words other → one ≡ other
vertex_same one other f g e = some_is one other (sym (vertex_again one f) ∙ ap vertex_of_words e ∙ vertex_again other g)

length-value_words : (v : Value) → length (value_words v) ≡ words_of_value v
length-value_words (value.Int n) = refl
length-value_words (value.Bool b) = refl
length-value_words (value.Text t) = length-words_from (words_of_bytes (length t)) t

pub length-label_words : (ls : List ℕ) → length (flat_map label_words ls) ≡ length ls
length-label_words [] = refl
length-label_words (l ∷ ls) = omega (arith, ap length (flat_map-cons label_words l ls), length-append (label_words l) (flat_map label_words ls), length-label_words ls)

pub length-prop_words : (ps : List HeldProp) → length (flat_map prop_words ps) ≡ sum_by (λ prop. 2 + words_of_value prop.value) ps
length-prop_words [] = refl
length-prop_words (p ∷ ps) =
    omega (arith, ap length (flat_map-cons prop_words p ps), length-append (prop_words p) (flat_map prop_words ps), length-prop_words ps, length-value_words p.value, sum_by-cons (λ (prop : HeldProp). 2 + words_of_value prop.value) p ps)

length-record_words : (es : List EdgeRecord) → length (flat_map record_words es) ≡ 5 * length es
length-record_words [] = refl
length-record_words (e ∷ es) = omega (arith, ap length (flat_map-cons record_words e es), length-append (record_words e) (flat_map record_words es), length-record_words es)

pub length-vertex_words : (vertex : VertexHolder) → length (vertex_words vertex) ≡ 5 + length vertex.labels + sum_by (λ prop. 2 + words_of_value prop.value) vertex.props + 5 * length vertex.edges
length-vertex_words vertex =
    let ls = flat_map label_words vertex.labels in
    let ps = flat_map prop_words vertex.props in
    let es = flat_map record_words vertex.edges in
    omega (arith, length-append ls (ps ++ es), length-append ps es, length-label_words vertex.labels, length-prop_words vertex.props, length-record_words vertex.edges)

pub length-edge_object_words : (edge : EdgeHolder) → length (edge_object_words edge) ≡ 5 + length edge.labels + sum_by (λ prop. 2 + words_of_value prop.value) edge.props
length-edge_object_words edge =
    let ls = flat_map label_words edge.labels in
    let ps = flat_map prop_words edge.props in
    omega (arith, length-append ls ps, length-label_words edge.labels, length-prop_words edge.props)
