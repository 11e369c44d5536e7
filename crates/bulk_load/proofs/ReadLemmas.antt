-- What a reader of records has given after one read more.
use Rattle.std.proofs.Common.{◌≡◌, ℕ, Bool, true, false, List, [], ◌∷◌, ◌++◌, Some, ◌<◌, ◌+◌, take, length, Bor, sym, ap, ◌∙◌}
use Rattle.std.specs.Bool.{MatchBool}
use Rattle.std.proofs.lemmas.List.{map_push, take_more}
use Rattle.csv.specs.Reading.{ReadRecord, default_config, reader_config, strip_bom}
use Rattle.csv.specs.Records.{field_at}
use Rattle.csv.specs.declared.reader.Reader.{Reader}
use Rattle.csv.specs.declared.parser.State.TheVariants as state
use Rattle.csv.proofs.ReadFacts.{rows-end, rows-more}
use Rattle.csv.proofs.RecordFacts.{field-get}
use Rattle.text_words.specs.Forms.{texts}
use Rattle.bulk_load.specs.Records.{Fields, HasRecords}
use Rattle.bulk_load.specs.Reading.{HasRead}

pub read_on : (bytes : List ℕ) (records : List Fields) (a b : Reader (Bor (List ℕ))) (found : Bool) (fields : Fields) → reader_config a ≡ default_config → HasRead bytes records a
    → ReadRecord (λ (text : Bor (List ℕ)). Some text.now) a b found fields → MatchBool found (HasRead bytes (records ++ fields ∷ []) b) (HasRecords bytes records)
read_on bytes records a b true fields plain far read =
    let more = rows-more (λ (text : Bor (List ℕ)). Some text.now) a b fields default_config state.StartRecord (strip_bom bytes) far.rest records plain far.source far.reached read in
    record { rest = more.0; source = more.1; reached = more.2 }
read_on bytes records a b false fields plain far read =
    (a.state, far.rest, far.reached, rows-end (λ (text : Bor (List ℕ)). Some text.now) a b fields default_config far.rest plain far.source read)

pub one_field_more : (read : List (Bor (List ℕ))) (field : Bor (List ℕ)) (fields : Fields) (i : ℕ) → i < length fields → texts read ≡ take i fields → field_at fields i ≡ Some field.now → texts (read ++ field ∷ []) ≡ take (i + 1) fields
one_field_more read field fields i lt far at =
    map_push (λ (w : Bor (List ℕ)). w.now) read field ∙ ap (λ (ts : Fields). ts ++ field.now ∷ []) far ∙ ap (λ (f : List ℕ). take i fields ++ f ∷ []) (sym (field-get fields i field.now at)) ∙ sym (take_more fields i [] lt)
