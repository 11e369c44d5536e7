-- The words of properties: what giving a type other values changes.
use Rattle.std.proofs.Common.{◌≡◌, ℕ, ◌+◌, ◌≤◌, List, [], ◌∷◌, ◌++◌, Option, Some, None, is_some, refl, sym, ap, ◌∙◌, arith}
use Rattle.std.specs.List.Sorted.{IsStrictlySortedBy}
use Rattle.std.specs.Option.{option_map_or, unwrap_or}
use Rattle.std.specs.Ordering.{nat_cmp}
use Rattle.std.specs.Map.{keys_of, remove_entry, lookup}
use Rattle.std.specs.BTreeMap.{is_at}
use Rattle.std.proofs.lemmas.List.Sums.{sum_by_push}
use Rattle.gdi_kinds.specs.declared.value.Value.{Value}
use Rattle.graph_model.specs.Maps.{IsMap, at, with_at, without}
use Rattle.graph_model.specs.Graph.{Props}
use Rattle.graph_model.specs.Lookups.{values_at}
use Rattle.graph_model.specs.Sizes.{words_of_value, words_of_values, words_of_props}
use Rattle.graph_parts.proofs.OrderedMaps.{lookup-at}
use Rattle.graph_parts.proofs.Rows.{taken_out-without}
use Rattle.graph_parts.proofs.Weights.{weight_at, weighed-with_at, weighed-removed}

abbrev weight : ℕ × List Value → ℕ
weight entry = words_of_values entry.1

module _ (props : Props) (ty : ℕ) where
  weighs : weight_at weight props ty ≡ words_of_values (values_at props ty)
  weighs = elim (at props ty) as (λ (o : Option (List Value)). option_map_or (λ x. words_of_values x) o 0 ≡ words_of_values (unwrap_or o [])) [ None ↦ refl | Some vs ↦ refl ]

  pub words-without : words_of_props (remove_entry (is_at (nat_cmp ty)) props) + words_of_values (values_at props ty) ≡ words_of_props props
  words-without = omega (arith, weighed-removed weight ty props, weighs)

  pub words-within : words_of_values (values_at props ty) ≤ words_of_props props
  words-within = omega (arith, words-without)

  -- without the type, where the keys rise
  pub words-left : IsMap nat_cmp props → words_of_props (without props ty) + words_of_values (values_at props ty) ≡ words_of_props props
  words-left rise = omega (arith, words-without, ap words_of_props (taken_out-without ty props rise))

  pub words-with : (values : List Value) → IsStrictlySortedBy nat_cmp (keys_of props) → words_of_props (with_at props ty values) + words_of_values (values_at props ty) ≡ words_of_props props + words_of_values values
  words-with values rises = omega (arith, weighed-with_at weight ty values props rises, weighs)

  pub words-found : (found : Option (List Value)) → found ≡ at props ty → words_of_values (unwrap_or found []) ≡ words_of_values (values_at props ty)
  words-found found is = ap (λ (o : Option (List Value)). words_of_values (unwrap_or o [])) is

pub words-one : (value : Value) → words_of_values (value ∷ []) ≡ 2 + words_of_value value
words-one value = omega arith

pub words-push : (values : List Value) (value : Value) → words_of_values (values ++ value ∷ []) ≡ words_of_values values + (2 + words_of_value value)
words-push values value = sum_by_push (λ v. 2 + words_of_value v) values value

-- one more value
pub words-added : (props : Props) (ty : ℕ) (value : Value) → IsStrictlySortedBy nat_cmp (keys_of props)
    → words_of_props (with_at props ty (values_at props ty ++ value ∷ [])) ≡ words_of_props props + (2 + words_of_value value)
words-added props ty value rises = omega (arith, words-with props ty (values_at props ty ++ value ∷ []) rises, words-push (values_at props ty) value)
