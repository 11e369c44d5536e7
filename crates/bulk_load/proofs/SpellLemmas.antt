-- What parts of fields spell.
use Rattle.std.proofs.Common.{◌≡◌, ◌≢◌, ℕ, ◌<◌, ℤ, Bool, true, false, List, [], ◌∷◌, ◌++◌, length, map, refl, sym, ap, subst, ◌∙◌, append_assoc, arith}
use Rattle.std.specs.Prelude.{FitsSigned}
use Rattle.std.specs.Prelude.{Result, Ok, Err, MatchResult}
use Rattle.std.specs.Int.{w64}
use Rattle.std.specs.Fmt.{signed_decimal}
use Rattle.gdi_kinds.specs.Texts.{IsText}
use Rattle.gdi_kinds.specs.declared.value.Kind.{Kind}
use Rattle.gdi_kinds.specs.declared.value.Kind.TheVariants as kind
use Rattle.gdi_kinds.specs.declared.value.Value.{Value}
use Rattle.gdi_kinds.specs.declared.value.Value.TheVariants as value
use Rattle.text_words.specs.Spelling.{value_text}
use Rattle.std.proofs.lemmas.List.{append-nil, map-append}
use Rattle.gdi_kinds.specs.declared.call.Call.{Call}
use Rattle.bulk_load.specs.Stops.{OrNoMemory}
use Rattle.bulk_load.specs.declared.load_fault.LoadFault.TheVariants as fault
use Rattle.bulk_load.specs.declared.stop.Stop.{Stop}
use Rattle.bulk_load.specs.declared.stop.Stop.TheVariants as stop
use Rattle.bulk_load.specs.declared.owner.Owner.{Owner}
use Rattle.bulk_load.specs.Rows.{put}
use Rattle.bulk_load.specs.declared.column.Column.{Column}
use Rattle.bulk_load.specs.Records.{Fields}
use Rattle.bulk_load.specs.Fields.{pieces_of, parts_of, Spells, SpellAll}

pub no_int : (bytes : List ℕ) → ((n : ℤ) → FitsSigned w64 n → bytes ≢ signed_decimal n) → (v : Value) → ¬ Spells kind.Int bytes v
no_int bytes none (value.Int n) spelled = none n spelled.fits spelled.text
no_int bytes none (value.Bool b) spelled = let other : kind.Bool ≡ kind.Int = spelled.kind_is in absurd (cc)
no_int bytes none (value.Text t) spelled = let other : kind.Text ≡ kind.Int = spelled.kind_is in absurd (cc)

pub no_bool : (bytes : List ℕ) → ((b : Bool) → bytes ≢ value_text (value.Bool b)) → (v : Value) → ¬ Spells kind.Bool bytes v
no_bool bytes none (value.Int n) spelled = let other : kind.Int ≡ kind.Bool = spelled.kind_is in absurd (cc)
no_bool bytes none (value.Bool b) spelled = none b spelled.text
no_bool bytes none (value.Text t) spelled = let other : kind.Text ≡ kind.Bool = spelled.kind_is in absurd (cc)

pub no_text : (bytes : List ℕ) → ¬ IsText bytes → (v : Value) → ¬ Spells kind.Text bytes v
no_text bytes none (value.Int n) spelled = let other : kind.Int ≡ kind.Text = spelled.kind_is in absurd (cc)
no_text bytes none (value.Bool b) spelled = let other : kind.Bool ≡ kind.Text = spelled.kind_is in absurd (cc)
no_text bytes none (value.Text t) spelled = none (subst IsText (sym spelled.text) spelled.fits)

pub no_parts : (column : Column) (field : List ℕ) → length field ≡ 0 → parts_of column field ≡ []
no_parts column [] none = refl
no_parts column (byte ∷ bytes) none = absurd (omega (arith, none))

pub one_part : (column : Column) (field : List ℕ) → 0 < length field → column.many ≡ false → parts_of column field ≡ field ∷ []
one_part column [] some single = absurd (omega (arith, some))
one_part column (byte ∷ bytes) some single = rw single refl

pub many_parts : (column : Column) (field : List ℕ) → 0 < length field → column.many ≡ true → parts_of column field ≡ pieces_of field
many_parts column [] some marked = absurd (omega (arith, some))
many_parts column (byte ∷ bytes) some marked = rw marked refl

pub spell_more : (k : Kind) (done : Fields) (values : List Value) (part : List ℕ) (v : Value) → SpellAll k done values → Spells k part v → SpellAll k (done ++ part ∷ []) (values ++ v ∷ [])
spell_more k [] [] part v all one = (one, tt)
spell_more k [] (w ∷ values) part v all one = absurd all
spell_more k (p ∷ done) [] part v all one = absurd all
spell_more k (p ∷ done) (w ∷ values) part v all one = (all.0, spell_more k done values part v all.1 one)

-- no values are spelled where one part spells none
pub spell_none : (k : Kind) (done : Fields) (part : List ℕ) (rest : Fields) → ((v : Value) → ¬ Spells k part v) → (values : List Value) → ¬ SpellAll k (done ++ part ∷ rest) values
spell_none k [] part rest none [] all = all
spell_none k [] part rest none (v ∷ values) all = none v all.0
spell_none k (p ∷ done) part rest none [] all = all
spell_none k (p ∷ done) part rest none (v ∷ values) all = spell_none k done part rest none values all.1

-- the calls so far are of the parts in front, and these parts are left
pub record PutSoFar (who : Owner) (column : Column) (parts : Fields) (before calls : List Call) (left : Fields) : Type 0 where
  pub done : Fields
  pub values : List Value
  pub split : parts ≡ done ++ left
  pub spelled : SpellAll column.kind done values
  pub calls_are : calls ≡ before ++ map (put who column) values

pub put_starts : (who : Owner) (column : Column) (parts : Fields) (before : List Call) → PutSoFar who column parts before before parts
put_starts who column parts before = record { done = []; values = []; split = refl; spelled = tt; calls_are = sym (append-nil before) }

pub put_goes_on : (who : Owner) (column : Column) (parts : Fields) (before calls calls_after : List Call) (part : List ℕ) (left : Fields) (v : Value)
    → PutSoFar who column parts before calls (part ∷ left) → Spells column.kind part v → calls_after ≡ calls ++ put who column v ∷ []
    → PutSoFar who column parts before calls_after left
put_goes_on who column parts before calls calls_after part left v far one pushed = record {
  done = far.done ++ part ∷ [];
  values = far.values ++ v ∷ [];
  split = far.split ∙ sym (append_assoc far.done (part ∷ []) left);
  spelled = spell_more column.kind far.done far.values part v far.spelled one;
  calls_are = pushed ∙ ap (λ (x : List Call). x ++ put who column v ∷ []) far.calls_are
      ∙ append_assoc before (map (put who column) far.values) (put who column v ∷ [])
      ∙ ap (λ (x : List Call). before ++ x) (sym (map-append (put who column) far.values (v ∷ [])));
}

pub put_ends : (who : Owner) (column : Column) (parts : Fields) (before calls : List Call) → PutSoFar who column parts before calls []
    → (values : List Value) × SpellAll column.kind parts values × (calls ≡ before ++ map (put who column) values)
put_ends who column parts before calls far =
    (far.values, subst (λ (x : Fields). SpellAll column.kind x far.values) (sym (far.split ∙ append-nil far.done)) far.spelled, far.calls_are)

pub put_stops : (who : Owner) (column : Column) (parts : Fields) (before calls : List Call) (part : List ℕ) (left : Fields)
    → PutSoFar who column parts before calls (part ∷ left) → ((v : Value) → ¬ Spells column.kind part v) → (values : List Value) → ¬ SpellAll column.kind parts values
put_stops who column parts before calls part left far none values all =
    spell_none column.kind far.done part left none values (subst (λ (x : Fields). SpellAll column.kind x values) far.split all)

-- the answer of a part that is the whole field is that of the field
pub put_alone : (who : Owner) (column : Column) (field : List ℕ) (before after : List Call) (r : Result (Unit {0}) Stop) → parts_of column field ≡ field ∷ []
    → MatchResult r (λ _. (v : Value) × Spells column.kind field v × (after ≡ before ++ map (put who column) (v ∷ [])))
    (OrNoMemory (λ told. (told ≡ fault.Value) × ((v : Value) → ¬ Spells column.kind field v)))
    → MatchResult r (λ _. (values : List Value) × SpellAll column.kind (parts_of column field) values × (after ≡ before ++ map (put who column) values))
    (OrNoMemory (λ told. (told ≡ fault.Value) × ((values : List Value) → ¬ SpellAll column.kind (parts_of column field) values)))
put_alone who column field before after (Ok x) alone told = (told.0 ∷ [], subst (λ (ps : Fields). SpellAll column.kind ps (told.0 ∷ [])) (sym alone) (told.1, tt), told.2)
put_alone who column field before after (Err (stop.Bad kind)) alone told = (told.0, λ values all. spell_none column.kind [] field [] told.1 values (subst (λ (ps : Fields). SpellAll column.kind ps values) alone all))
put_alone who column field before after (Err stop.NoMemory) alone told = tt

pub put_fails : (who : Owner) (column : Column) (parts : Fields) (before calls : List Call) (part : List ℕ) (left : Fields) (s : Stop)
    → PutSoFar who column parts before calls (part ∷ left)
    → OrNoMemory (λ told. (told ≡ fault.Value) × ((v : Value) → ¬ Spells column.kind part v)) s
    → OrNoMemory (λ told. (told ≡ fault.Value) × ((values : List Value) → ¬ SpellAll column.kind parts values)) s
put_fails who column parts before calls part left (stop.Bad kind) far told = (told.0, put_stops who column parts before calls part left far told.1)
put_fails who column parts before calls part left stop.NoMemory far told = tt
