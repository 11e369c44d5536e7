-- A text without a fault.
use Rattle.std.specs.Prelude.{ℕ, List}
use Rattle.gdi_kinds.specs.declared.txn.Txn.{Txn}
use Rattle.script_text.specs.Scripts.{Spells}
use Rattle.script_text.specs.Faults.{IsFirstFault}

-- no line is wrong, and the text doesn't end in a transaction
abbrev pub IsFaultless : List ℕ → Type 0
IsFaultless bytes = (number kind : ℕ) → ¬ IsFirstFault bytes number kind

-- the text spells some script: it isn't so that it spells none
abbrev pub SpellsSome : List ℕ → Type 0
SpellsSome bytes = ¬ ((script : List (List Txn)) → ¬ Spells bytes script)

-- a text spells a script where it has no fault
abbrev pub FaultlessTextSpells : Type 0
FaultlessTextSpells = (bytes : List ℕ) → IsFaultless bytes → SpellsSome bytes

-- and nowhere else
abbrev pub SpellingTextIsFaultless : Type 0
SpellingTextIsFaultless = (bytes : List ℕ) → SpellsSome bytes → IsFaultless bytes
