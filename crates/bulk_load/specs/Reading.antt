-- What a reader of records has given so far.
use Rattle.std.specs.Prelude.{◌≡◌, ℕ, true, List, Some}
use Rattle.std.specs.Borrow.{Bor}
use Rattle.csv.specs.Reading.{Reached, Ready, default_config, is_flexible, reader_config, reader_state, reader_trim, source_of, strip_bom}
use Rattle.csv.specs.declared.parser.State.TheVariants as state
use Rattle.csv.specs.declared.reader.Reader.{Reader}
use Rattle.csv.specs.declared.reader.Trim.TheVariants as trim
use Rattle.bulk_load.specs.Records.{Fields}

-- the next read of a reader is of one record of any length, which isn't trimmed
pub record IsPlain (reader : Reader (Bor (List ℕ))) : Type 0 where
  pub trim : reader_trim reader ≡ trim.None
  pub ready : Ready reader
  pub flexible : is_flexible reader ≡ true
  pub config : reader_config reader ≡ default_config

-- a reader of a file has given these records, with which the file begins
pub record HasRead (bytes : List ℕ) (records : List Fields) (reader : Reader (Bor (List ℕ))) : Type 0 where
  pub rest : List ℕ
  pub source : source_of (λ text. Some text.now) reader ≡ Some rest
  pub reached : Reached default_config state.StartRecord (strip_bom bytes) records (reader_state reader) rest
