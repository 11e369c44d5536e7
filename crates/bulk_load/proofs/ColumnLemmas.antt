-- Columns and their fields, from the left.
use Rattle.std.proofs.Common.{◌≡◌, ℕ, ◌-◌, ◌≤◌, List, [], ◌∷◌, ◌++◌, length, map, take, drop, get_or, sym, ap, ◌∙◌, append_assoc, arith, inr}
use Rattle.std.specs.Prelude.{Result, Ok, Err, MatchResult}
use Rattle.std.proofs.lemmas.List.{take_rest}
use Rattle.gdi_kinds.specs.declared.call.Call.{Call}
use Rattle.gdi_kinds.specs.declared.value.Value.{Value}
use Rattle.bulk_load.specs.Stops.{OrNoMemory}
use Rattle.bulk_load.specs.declared.stop.Stop.{Stop}
use Rattle.bulk_load.specs.declared.stop.Stop.TheVariants as stop
use Rattle.bulk_load.specs.declared.owner.Owner.{Owner}
use Rattle.bulk_load.specs.declared.column.Column.{Column}
use Rattle.bulk_load.specs.Records.{Fields}
use Rattle.bulk_load.specs.Fields.{parts_of, SpellAll, SpellColumns, FirstWrong, some_values}
use Rattle.bulk_load.specs.Rows.{put, puts}

-- a list by its first item and the rest
pub front_of : {X : Type 0} (xs : List X) (x : X) → 1 ≤ length xs → x ≡ get_or xs 0 x → xs ≡ x ∷ take (length xs - 1) (drop 1 xs)
front_of [] x some is = absurd (omega (arith, some))
front_of (y ∷ xs) x some is = ap (λ z. z ∷ xs) (sym is) ∙ ap (λ zs. x ∷ zs) (sym (take_rest (y ∷ xs) 1))

abbrev pub Gives : Owner → List Column → Fields → List Call → List Call → Result (Unit {0}) Stop → Type 0
Gives who columns fields before after r = MatchResult r
    (λ _. (values : List (List Value)) × SpellColumns columns fields values × (after ≡ before ++ puts who columns values))
    (OrNoMemory (FirstWrong (map some_values columns) fields))

-- what the columns behind the first give is what all give
pub columns_go_on : (who : Owner) (all : List Column) (texts : Fields) (column : Column) (columns : List Column) (field : List ℕ) (fields : Fields) (before mid after : List Call) (r : Result (Unit {0}) Stop)
    → all ≡ column ∷ columns → texts ≡ field ∷ fields
    → (values : List Value) × SpellAll column.kind (parts_of column field) values × (mid ≡ before ++ map (put who column) values)
    → Gives who columns fields mid after r → Gives who all texts before after r
columns_go_on who all texts column columns field fields before mid after (Ok x) is also first told = rw (is, also) (
  first.0 ∷ told.0,
  (first.1, told.1),
  told.2 ∙ ap (λ (calls : List Call). calls ++ puts who columns told.0) first.2 ∙ append_assoc before (map (put who column) first.0) (puts who columns told.0),
)
columns_go_on who all texts column columns field fields before mid after (Err (stop.Bad kind)) is also first told = rw (is, also) (inr ((first.0, first.1), told))
columns_go_on who all texts column columns field fields before mid after (Err stop.NoMemory) is also first told = tt
