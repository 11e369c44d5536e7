-- Lists that are shown item by item.
use Rattle.std.proofs.Common.{◌≡◌, ℕ, Bool, true, false, cond, List, [], ◌∷◌, ◌++◌, map, Option, Some, refl, sym, ap, ◌∙◌, append_assoc, arith}
use Rattle.std.specs.Prelude.{if◌then◌else◌}
use Rattle.std.specs.List.{filter, filter_map, slice_get}
use Rattle.std.specs.Option.{option_map_or, option_to_list, unwrap_or}
use Rattle.graph_model.specs.Maps.{Map, keys, item_at}
use Rattle.map_graph.proofs.Places.{slice_get-item_at}

-- the items so far, these, and those to come
pub push_more : {Y : Type 0} (before after here later whole : List Y) → after ≡ before ++ here → before ++ (here ++ later) ≡ whole → after ++ later ≡ whole
push_more before after here later whole pushed all = ap (λ ls. ls ++ later) pushed ∙ append_assoc before here later ∙ all

pub item-or : {X : Type 0} (xs : List X) (n : ℕ) (x d : X) → slice_get xs n ≡ Some x → unwrap_or (item_at xs n) d ≡ x
item-or xs n x d is = ap (λ o. unwrap_or o d) (sym (slice_get-item_at xs n) ∙ is)

pub item-map_or : {X Y : Type 0} (f : X → Y) (xs : List X) (n : ℕ) (x : X) (d : Y) → slice_get xs n ≡ Some x → option_map_or f (item_at xs n) d ≡ f x
item-map_or f xs n x d is = ap (λ o. option_map_or f o d) (sym (slice_get-item_at xs n) ∙ is)

pub filter_map-first : {X Y : Type 0} (f : X → Option Y) (x : X) (xs : List X) → filter_map f (x ∷ xs) ≡ option_to_list (f x) ++ filter_map f xs
filter_map-first f x xs = grind (arith)

pub filter-first : {X : Type 0} (p : X → Bool) (x : X) (xs : List X) → filter p (x ∷ xs) ≡ (if p x then x ∷ [] else []) ++ filter p xs
filter-first p x xs = elim (p x) as (λ b. cond b (x ∷ filter p xs) (filter p xs) ≡ (if b then x ∷ [] else []) ++ filter p xs) [ true ↦ refl | false ↦ refl ]

pub map-filter-first : {X Y : Type 0} (f : X → Y) (p : X → Bool) (x : X) (xs : List X) → map f (filter p (x ∷ xs)) ≡ (if p x then f x ∷ [] else []) ++ map f (filter p xs)
map-filter-first f p x xs = elim (p x) as (λ b. map f (cond b (x ∷ filter p xs) (filter p xs)) ≡ (if b then f x ∷ [] else []) ++ map f (filter p xs)) [ true ↦ refl | false ↦ refl ]

pub keys-filter-first : {X : Type 0} (p : ℕ × X → Bool) (e : ℕ × X) (es : Map ℕ X) → keys (filter p (e ∷ es)) ≡ keys (filter p (e ∷ [])) ++ keys (filter p es)
keys-filter-first p e es = elim (p e) as (λ b. keys (cond b (e ∷ filter p es) (filter p es)) ≡ keys (cond b (e ∷ []) []) ++ keys (filter p es)) [ true ↦ refl | false ↦ refl ]
