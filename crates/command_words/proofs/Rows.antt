-- What the rows of a parse hold under an id, after an argument was used.
use Rattle.std.proofs.Common.{◌≡◌, ℕ, Bool, true, false, not, List, [], ◌∷◌, ◌++◌, Option, Some, None, is_some, if◌then◌else◌, find, option_map, refl, sym, ap, subst, ◌∙◌, codes}
use Rattle.std.specs.Prelude.{unwrap_or, ◌||◌, ◌&&◌}
use Rattle.std.specs.List.{list_any}
use Rattle.std.specs.Str.{bytes_eq}
use Rattle.std.proofs.lemmas.Slice.Eq.{bytes_eq-Decides}
use Rattle.clap.specs.Walk.{Row, Rule, Text, all_of, at_row, without, with_values, more_values, has_row, reading_by, used}
use Rattle.clap.specs.Simple.{new_rule}
use Rattle.clap.specs.declared.parser.matches.ValueSource.{ValueSource}
use Rattle.clap.specs.declared.parser.matches.ValueSource.TheVariants.{CommandLine}
use Rattle.clap.specs.declared.builder.value_parser.Reading.{Reading}

pub same_bytes : (xs : Text) → bytes_eq xs xs ≡ true
same_bytes xs = (bytes_eq-Decides xs xs).1 refl

pub bytes_same : (xs ys : Text) → bytes_eq xs ys ≡ true → xs ≡ ys
bytes_same xs ys e = (bytes_eq-Decides xs ys).0 e

-- the values under an id
abbrev pub held : Text → List Row → Option (List Text)
held id rows = all_of id rows

has_row_held : (id : Text) (rows : List Row) → has_row id rows ≡ is_some (held id rows)
has_row_held id [] = refl
has_row_held id (r ∷ rows) =
    elim (bytes_eq r.id id) as (λ b. (b || has_row id rows) ≡ is_some (option_map (λ (q : Row). q.values) (if b then Some r else find (λ q. bytes_eq q.id id) rows)))
    [ true ↦ refl | false ↦ has_row_held id rows ]

pub no_row : (id : Text) (rows : List Row) → held id rows ≡ None → has_row id rows ≡ false
no_row id rows none = has_row_held id rows ∙ ap is_some none

pub no_held : (id : Text) (rows : List Row) → has_row id rows ≡ false → held id rows ≡ None
no_held id rows none = go (held id rows) (sym (has_row_held id rows) ∙ none)
  where
    go : (o : Option (List Text)) → is_some o ≡ false → o ≡ None
    go None e = refl
    go (Some v) e = absurd cc

-- where no row has the id, it is as if none was taken out
pub without_none : (id : Text) (rows : List Row) → has_row id rows ≡ false → without id rows ≡ rows
without_none id [] none = refl
without_none id (r ∷ rows) none = go (bytes_eq r.id id) refl none (without_none id rows)
  where
    go : (b : Bool) → bytes_eq r.id id ≡ b → (b || has_row id rows) ≡ false → (has_row id rows ≡ false → without id rows ≡ rows)
        → (if b then [] ++ rows else r ∷ without id rows) ≡ r ∷ rows
    go true e n rest = absurd cc
    go false e n rest = ap (λ rs. r ∷ rs) (rest n)

-- what is under ids once an argument of this id got more values
abbrev pub with_more : Text → List Text → Text → List Row → Option (List Text)
with_more id values other rows = if bytes_eq id other then Some (unwrap_or (held id rows) [] ++ values) else held other rows

module _ (how : Reading) (values : List Text) (id other : Text) where
  abbrev Holds : List Row → Type 0
  Holds rows = held other (with_values id how CommandLine values rows) ≡ with_more id values other rows

  nothing_yet : (b : Bool) → bytes_eq id other ≡ b → Holds []
  nothing_yet true e = rw e refl
  nothing_yet false e = rw e refl

  at_first : (r : Row) (rows : List Row) (b : Bool) → bytes_eq r.id id ≡ true → bytes_eq id other ≡ b → bytes_eq r.id other ≡ b → Holds (r ∷ rows)
  at_first r rows true same e f = rw (same, e, f) refl
  at_first r rows false same e f = rw (same, e, f) refl

  past : (r : Row) (rows : List Row) (b d : Bool) → bytes_eq r.id id ≡ false → bytes_eq id other ≡ b → bytes_eq r.id other ≡ d → Holds rows → Holds (r ∷ rows)
  past r rows true true differs e f h =
      let same : r.id ≡ id = bytes_same r.id other f ∙ sym (bytes_same id other e) in
      let now : bytes_eq r.id id ≡ true = ap (λ x. bytes_eq x id) same ∙ same_bytes id in absurd cc
  past r rows true false differs e f h = rw (differs, e, f) (h ∙ rw e refl)
  past r rows false true differs e f h = rw (differs, e, f) refl
  past r rows false false differs e f h = rw (differs, e, f) (h ∙ rw e refl)

  step : (r : Row) (rows : List Row) (b : Bool) → bytes_eq r.id id ≡ b → Holds rows → Holds (r ∷ rows)
  step r rows true same h = at_first r rows (bytes_eq id other) same refl (ap (λ x. bytes_eq x other) (bytes_same r.id id same))
  step r rows false differs h = past r rows (bytes_eq id other) (bytes_eq r.id other) differs refl refl h

  pub held-with : (rows : List Row) → Holds rows
  held-with [] = nothing_yet (bytes_eq id other) refl
  held-with (r ∷ rows) = step r rows (bytes_eq r.id id) refl (held-with rows)
