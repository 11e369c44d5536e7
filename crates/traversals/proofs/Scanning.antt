-- The number of a label, and what a scan by it finds.
use Rattle.std.proofs.Common.{◌≡◌, ℕ, suc, ◌+◌, ◌<◌, Bool, true, false, not, cond, List, [], ◌∷◌, length, Some, None, if◌then◌else◌, nat_lt, refl, sym, ap, subst, ◌∙◌, arith}
use Rattle.std.specs.Option.{option_map}
use Rattle.std.specs.Str.{bytes_eq}
use Rattle.std.specs.List.{filter, position, position_or_len, prefix_len}
use Rattle.std.proofs.lemmas.Bool.{ltb-true}
use Rattle.std.proofs.lemmas.Bool.Decides.{nat_tests}
use Rattle.gdi_kinds.specs.declared.call.Call.TheVariants as call
use Rattle.gdi_kinds.specs.declared.reply.Reply.TheVariants as reply
use Rattle.graph_model.specs.Maps.{Map, keys, place_where}
use Rattle.graph_model.specs.Graph.{Name, Graph, Vertex}
use Rattle.graph_model.specs.Calls.{answer_to}
use Rattle.graph_model.specs.Steps.{Answer}
use Rattle.graph_model.specs.Lookups.{label_number}
use Rattle.graph_model.specs.ListCalls.{vertices_where}
use Rattle.graph_model.proofs.Entries.{same_value, nothing}
use Rattle.traversals.specs.Outline.{Outline, IsOf}
use Rattle.traversals.specs.Questions.{Tells}

module _ {X : Type 0} (p : X → Bool) where
  pub position-place_where : (xs : List X) → position p xs ≡ place_where p xs
  position-place_where [] = refl
  position-place_where (x ∷ xs) =
      let n = prefix_len (λ y. not (p y)) xs in
      elim (p x) as (λ b. cond (nat_lt (cond (not b) (1 + n) 0) (suc (length xs))) (Some (cond (not b) (1 + n) 0)) None ≡ (if b then Some 0 else option_map suc (place_where p xs))) [
        | true ↦ let first : nat_lt 0 (suc (length xs)) ≡ true = grind (arith, nat_tests) in ap (λ b. cond b (Some 0) None) first
        | false ↦
            let same : nat_lt (1 + n) (suc (length xs)) ≡ nat_lt n (length xs) = grind (arith, nat_tests) in
            ap (λ b. cond b (Some (1 + n)) None) same
            ∙ elim (nat_lt n (length xs)) as (λ b. cond b (Some (1 + n)) None ≡ option_map suc (cond b (Some n) None)) [ true ↦ ap Some (omega arith) | false ↦ refl ]
            ∙ ap (option_map suc) (position-place_where xs)
      ]

  passed : (test : Bool) (m n len : ℕ) → nat_lt m len ≡ test → cond test (Some m) None ≡ Some n → n < len
  passed true m n len is some = subst (λ k. k < len) (same_value m n some) (ltb-true m len is)
  passed false m n len is some = nothing n some

  pub position-below : (xs : List X) (n : ℕ) → position p xs ≡ Some n → n < length xs
  position-below xs n is = passed (nat_lt (position_or_len p xs) (length xs)) (position_or_len p xs) n (length xs) refl is

every : (vs : Map ℕ Vertex) → keys vs ≡ keys (filter (λ entry. true) vs)
every [] = refl
every (v ∷ vs) = ap (λ ks. v.0 ∷ ks) (every vs)

pub scan-all : (outline : Outline) (ids : List ℕ) → ids ≡ outline.ids → Tells outline (call.Scan None None) (reply.Ids ids)
scan-all outline ids told = λ shape g well is. ap (λ (js : List ℕ). reply.Ids js) (told ∙ is.ids ∙ every g.vertices)

module _ (outline : Outline) (name : Name) where
  number-is : (g : Graph) → IsOf g outline → label_number g name ≡ place_where (bytes_eq name) outline.names
  number-is g is = sym (ap (place_where (bytes_eq name)) is.names)

  pub scan-no_label : None ≡ place_where (bytes_eq name) outline.names → Tells outline (call.Scan (Some name) None) reply.NoLabel
  scan-no_label absent = λ shape g well is.
      let none : label_number g name ≡ None = number-is g is ∙ sym absent in
      let whole : answer_to shape g (call.Scan (Some name) None) ≡ (record { graph = g; reply = reply.NoLabel }) = rw none in
      sym (ap (λ (a : Answer). a.reply) whole)

  pub scan-done : (number : ℕ) (ids : List ℕ) → Some number ≡ place_where (bytes_eq name) outline.names → ((g : Graph) → IsOf g outline → ids ≡ vertices_where g (number ∷ []) None)
      → Tells outline (call.Scan (Some name) None) (reply.Ids ids)
  scan-done number ids there told = λ shape g well is.
      let some : label_number g name ≡ Some number = number-is g is ∙ sym there in
      let whole : answer_to shape g (call.Scan (Some name) None) ≡ (record { graph = g; reply = reply.Ids ids }) =
      rw some (ap (λ (js : List ℕ). record { graph = g; reply = reply.Ids js }) (sym (told g is))) in
      sym (ap (λ (a : Answer). a.reply) whole)
