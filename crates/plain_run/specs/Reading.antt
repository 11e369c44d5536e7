-- How one file of a load is read.
use Rattle.std.specs.Prelude.{◌≡◌, ℕ, List, Option}
use Rattle.map_graph.specs.Plain.{Plain}
use Rattle.bulk_load.specs.declared.load_file.LoadFile.{LoadFile}
use Rattle.plain_run.specs.declared.run_refused.RunRefused.{RunRefused}
use Rattle.plain_run.specs.declared.run_refused.RunRefused.TheVariants.{BadLoad, BadScript, LoadFull, NoMemory}
use Rattle.plain_run.specs.Loading.{IsWrongFile}

-- why a file isn't read on a graph
abbrev pub TellsBadFile : LoadFile → Option (List ℕ) → Plain → RunRefused → Type 0
TellsBadFile file text before (BadLoad told row kind) = (told ≡ file) × IsWrongFile file text before row kind
TellsBadFile file text before (BadScript line kind) = ⊥
TellsBadFile file text before (LoadFull told rank) = ⊥
TellsBadFile file text before NoMemory = Unit {0}
