-- Right files and wrong ones.
use Rattle.std.specs.Prelude.{◌≡◌, ℕ, List}
use Rattle.gdi_kinds.specs.declared.txn.Txn.{Txn}
use Rattle.map_graph.specs.Plain.{Plain}
use Rattle.bulk_load.specs.declared.load_file.LoadFile.{LoadFile}
use Rattle.bulk_load.specs.declared.load_fault.LoadFault.{LoadFault}
use Rattle.bulk_load.specs.Loads.{Loads, IsFirstWrong}

-- a file that is a transaction on a graph is no other one there
abbrev pub RightFileIsOneTransaction : Type 0
RightFileIsOneTransaction = (file : LoadFile) (bytes : List ℕ) (before : Plain) (txn other : Txn) → Loads file bytes before txn → Loads file bytes before other → txn ≡ other

-- and no record of it is wrong
abbrev pub RightFileIsNotWrong : Type 0
RightFileIsNotWrong = (file : LoadFile) (bytes : List ℕ) (before : Plain) (txn : Txn) (row : ℕ) (told : LoadFault) → Loads file bytes before txn → ¬ IsFirstWrong file bytes before row told
