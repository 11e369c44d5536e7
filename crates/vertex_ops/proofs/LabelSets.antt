-- A vertex with a label more or less.
use Rattle.std.proofs.Common.{◌≡◌, ◌≢◌, ◌∙◌, ℕ, ◌≤◌, ◌^◌, ◌<◌, true, false, cond, not, ◌||◌, eqb, List, [], ◌∷◌, length, Some, None, Result, Ok, Err, refl, sym, ap, subst, arith}
use Rattle.std.specs.Prelude.{is_some, nat_lt, slice_get, IsTrue}
use Rattle.std.specs.List.{insert, AllByRecursion}
use Rattle.std.specs.Result.{MatchResult}
use Rattle.std.specs.Ordering.{nat_cmp}
use Rattle.std.specs.Cmp.{nat_cmp_total}
use Rattle.std.specs.FinMap.{nat_cmp-IsAntisymmetric}
use Rattle.std.specs.FinMap.Entries.{by_order}
use Rattle.std.specs.declared.cmp.Ordering.TheVariants.{Less, Equal, Greater}
use Rattle.gdi_kinds.specs.declared.reply.Reply.TheVariants as reply
use Rattle.graph_model.specs.Maps.{has, add, take_out}
use Rattle.graph_model.proofs.Entries.{All-filter, IsSet-filter}
use Rattle.graph_model.proofs.Sets.{is_eq-nat_cmp, AllByRecursion-add, IsSet-add}
use Rattle.graph_model.specs.Sizes.{most_words, is_too_large}
use Rattle.std.proofs.lemmas.Bool.Decides.{nat_tests}
use Rattle.holder_codec.specs.declared.vertex_holder.VertexHolder.{VertexHolder}
use Rattle.holder_codec.specs.Order.{is_rising}
use Rattle.holder_codec.specs.Vertex.{LabelFits, IsVertexHolder, vertex_words}
use Rattle.rising_lists.specs.Rising.{item_of, with_item}
use Rattle.rising_lists.proofs.Rising.{is_rising-with_item, is_rising-where, lt_by_nat_cmp}
use Rattle.held_objects.specs.declared.change.Change.TheVariants.{Refused, Made}
use Rattle.held_objects.specs.Changes.{IfMade, map_made}
use Rattle.vertex_ops.specs.Vertices.{HeldVertex, holder_for, IsOrderly, tagged, untagged, with_labels}
use Rattle.vertex_ops.specs.Holders.{with_label, without_label}

abbrev pub itself : ℕ → ℕ
itself label = label

has_is : (labels : List ℕ) (label : ℕ) → is_some (item_of itself nat_cmp labels label) ≡ has labels label
has_is [] label = refl
has_is (m ∷ ms) label =
    let rest = item_of itself nat_cmp ms label in
    ap (λ b. is_some (cond b (Some m) rest)) (is_eq-nat_cmp label m)
    ∙ (elim (eqb m label) as (λ b. is_some (cond b (Some m) rest) ≡ (b || has ms label)) [ true ↦ refl | false ↦ has_is ms label ])

add_is : (label : ℕ) (labels : List ℕ) → with_item itself nat_cmp label labels ≡ add label labels
add_is label [] = refl
add_is label (m ∷ ms) =
    elim (nat_cmp label m) as (λ o. nat_cmp label m ≡ o → by_order o (label ∷ m ∷ ms) (label ∷ ms) (m ∷ with_item itself nat_cmp label ms) ≡ by_order o (label ∷ m ∷ ms) (m ∷ ms) (m ∷ add label ms)) [
      | Less ↦ λ _. refl
      | Equal ↦ λ tied. ap (λ (n : ℕ). n ∷ ms) (nat_cmp-IsAntisymmetric label m tied)
      | Greater ↦ λ _. ap (λ (ns : List ℕ). m ∷ ns) (add_is label ms)
    ] refl

-- where a label stands, from where an item of its key does
pub from_items : (labels : List ℕ) (label : ℕ) (r : Result ℕ ℕ)
    → MatchResult r (λ i. (found : ℕ) × (slice_get labels i ≡ Some found) × (item_of itself nat_cmp labels label ≡ Some found))
    (λ i. (i ≤ length labels) × (item_of itself nat_cmp labels label ≡ None) × ((item : ℕ) → itself item ≡ label → insert labels i item ≡ with_item itself nat_cmp item labels))
    → MatchResult r (λ i. has labels label ≡ true) (λ i. (i ≤ length labels) × (has labels label ≡ false) × (insert labels i label ≡ add label labels))
from_items labels label (Ok i) found = sym (has_is labels label) ∙ ap is_some found.2
from_items labels label (Err i) none = (none.0, sym (has_is labels label) ∙ ap is_some none.1, none.2 label refl ∙ add_is label labels)

-- ---- what has a spelling

with : (holder : VertexHolder) (labels : List ℕ) → AllByRecursion LabelFits labels → IsTrue (is_rising nat_lt labels) → IsVertexHolder holder → IsVertexHolder (record holder { labels = labels })
with holder labels fit rise is = record {
  id = is.id;
  next = is.next;
  labels = fit;
  labels_rise = rise;
  props = is.props;
  props_rise = is.props_rise;
  edges = is.edges;
  edges_rise = is.edges_rise;
}

pub label_added : (holder : VertexHolder) (label : ℕ) (labels : List ℕ) → labels ≡ add label holder.labels → label < 2 ^ 32 → IsVertexHolder holder → IsVertexHolder (record holder { labels = labels })
label_added holder label labels is small holds =
    with holder labels (subst (AllByRecursion LabelFits) (sym is) (AllByRecursion-add LabelFits label holder.labels small holds.labels))
    (subst (λ (ls : List ℕ). IsTrue (is_rising nat_lt ls)) (add_is label holder.labels ∙ sym is)
    (is_rising-with_item itself nat_cmp_total nat_cmp-IsAntisymmetric nat_lt (λ x y. lt_by_nat_cmp x y) label holder.labels holds.labels_rise)) holds

pub label_left_out : (holder : VertexHolder) (label : ℕ) (labels : List ℕ) → labels ≡ take_out label holder.labels → IsVertexHolder holder → IsVertexHolder (record holder { labels = labels })
label_left_out holder label labels is holds =
    with holder labels (subst (AllByRecursion LabelFits) (sym is) (All-filter LabelFits LabelFits (λ m. not (eqb m label)) (λ _ _ fits. fits) holder.labels holds.labels))
    (subst (λ (ls : List ℕ). IsTrue (is_rising nat_lt ls)) (sym is)
    (is_rising-where itself nat_cmp_total nat_cmp-IsAntisymmetric nat_lt (λ x y. lt_by_nat_cmp x y) (λ m. not (eqb m label)) holder.labels holds.labels_rise)) holds

-- ---- as the graph has it

pub tagged_is : (label : ℕ) (held : HeldVertex) → with_label label (holder_for held) ≡ map_made holder_for (tagged label held)
tagged_is label held =
    elim (has held.vertex.labels label) as (λ b. cond b (Refused reply.HasLabel) (Made (record (holder_for held) { labels = add label held.vertex.labels }))
    ≡ map_made holder_for (cond b (Refused reply.HasLabel) (Made (with_labels (add label held.vertex.labels) held)))) [ true ↦ refl | false ↦ refl ]

pub untagged_is : (label : ℕ) (held : HeldVertex) → without_label label (holder_for held) ≡ map_made holder_for (untagged label held)
untagged_is label held =
    elim (has held.vertex.labels label) as (λ b. cond b (Made (record (holder_for held) { labels = take_out label held.vertex.labels })) (Refused reply.LacksLabel)
    ≡ map_made holder_for (cond b (Made (with_labels (take_out label held.vertex.labels) held)) (Refused reply.LacksLabel))) [ true ↦ refl | false ↦ refl ]

pub tagged_orderly : (label : ℕ) (held : HeldVertex) → IsOrderly held → IfMade IsOrderly (tagged label held)
tagged_orderly label held is =
    elim (has held.vertex.labels label) as (λ b. IfMade IsOrderly (cond b (Refused reply.HasLabel) (Made (with_labels (add label held.vertex.labels) held)))) [
      | true ↦ tt
      | false ↦ record { labels = IsSet-add label held.vertex.labels is.labels; props = is.props; some = is.some }
    ]

pub untagged_orderly : (label : ℕ) (held : HeldVertex) → IsOrderly held → IfMade IsOrderly (untagged label held)
untagged_orderly label held is =
    elim (has held.vertex.labels label) as (λ b. IfMade IsOrderly (cond b (Made (with_labels (take_out label held.vertex.labels) held)) (Refused reply.LacksLabel))) [
      | true ↦ record { labels = IsSet-filter (λ m. not (eqb m label)) held.vertex.labels is.labels; props = is.props; some = is.some }
      | false ↦ tt
    ]

-- an object that holds a vertex isn't empty
pub some_words : (holder : VertexHolder) → vertex_words holder ≢ []
some_words holder none = cc none

-- and few enough words are taken
pub takes : (n : ℕ) → n ≤ most_words → true ≡ not (is_too_large n)
takes n few = grind (arith, nat_tests)
