-- The texts that a run is given.
use Rattle.std.specs.Prelude.{ℕ, List, Option}
use Rattle.std.specs.Option.{option_map}
use Rattle.plain_run.specs.declared.texts.Texts.{Texts}

-- those of the load files, where they are given, and the script's
pub record Given : Type 0 where
  pub vertices : Option (List ℕ)
  pub edges : Option (List ℕ)
  pub script : List ℕ

abbrev pub given : Texts → Given
given texts = record { vertices = option_map (λ bytes. bytes.now) texts.vertices; edges = option_map (λ bytes. bytes.now) texts.edges; script = texts.script.now }
