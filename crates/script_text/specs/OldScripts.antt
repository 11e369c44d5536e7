-- Scripts as they were before a type could keep many values and an edge could be undirected.
use Rattle.std.specs.Prelude.{◌≡◌, ℕ, ◌≤◌, Bool, true, false, List, [], ◌∷◌, map, length, sum_by, codes, Option, None, Some}
use Rattle.std.specs.List.{AllByRecursion}
use Rattle.std.specs.Option.{option_map}
use Rattle.gdi_kinds.specs.Calls.{is_whole_call}
use Rattle.gdi_kinds.specs.declared.call.Call.{Call}
use Rattle.gdi_kinds.specs.declared.call.Call.TheVariants.{NewLabel, NewType, Vertex, Has, DropVertex, Tag, Untag, Tags, Set, Get, Unset, Props, Edge, Cut, Target, ETag, EUntag, ETags, ESet, EGet, EUnset, EProps, Edges, Near, Degree, Find, Hood, Levels, Parts, Scan, Vertices, Arcs}
use Rattle.gdi_kinds.specs.declared.call.Dir.{Dir}
use Rattle.gdi_kinds.specs.declared.call.Dir.TheVariants.{Outward, Inward, Undirected, Either}
use Rattle.gdi_kinds.specs.declared.txn.Txn.{Txn}
use Rattle.text_words.specs.Lines.{lines_of}
use Rattle.text_words.specs.Spelling.{kind_text, Part, word, number, name, constant, IsPart, label_parts, scope_part, test_parts, line_of_parts, atoms_in, HasAtoms}
use Rattle.script_text.specs.declared.step.Step.{Step}
use Rattle.script_text.specs.declared.step.Step.TheVariants.{Section, Begin, Does, Close}
use Rattle.script_text.specs.CallLines.{test_of}
use Rattle.script_text.specs.Scripts.{counted, steps_of_script, Spells}
use Rattle.script_text.specs.Faults.{SpellsAlone}

-- a direction had a word, unless it is that of undirected edges
abbrev pub old_dir : Dir → Option (List ℕ)
old_dir Outward = Some (codes "out")
old_dir Inward = Some (codes "in")
old_dir Undirected = None
old_dir Either = Some (codes "any")

-- a line's parts behind its direction, where that had a word
abbrev pub with_dir : Option (List ℕ) → List Part → (List ℕ → List Part → List Part) → Option (List Part)
with_dir None rest parts = None
with_dir (Some dir) rest parts = Some (parts dir rest)

-- the words of a call's line; there was none for a marked type, for `add` and `eadd`, and for what is undirected
abbrev pub old_parts : Call → Option (List Part)
old_parts (NewLabel label) = Some (word (codes "newlabel") ∷ name label ∷ [])
old_parts (NewType prop kind false) = Some (word (codes "newtype") ∷ name prop ∷ word (kind_text kind) ∷ [])
old_parts (Vertex id) = Some (word (codes "vertex") ∷ number id ∷ [])
old_parts (Has id) = Some (word (codes "has") ∷ number id ∷ [])
old_parts (DropVertex id) = Some (word (codes "drop") ∷ number id ∷ [])
old_parts (Tag id label) = Some (word (codes "tag") ∷ number id ∷ name label ∷ [])
old_parts (Untag id label) = Some (word (codes "untag") ∷ number id ∷ name label ∷ [])
old_parts (Tags id) = Some (word (codes "tags") ∷ number id ∷ [])
old_parts (Set id prop v) = Some (word (codes "set") ∷ number id ∷ name prop ∷ constant v ∷ [])
old_parts (Get id prop) = Some (word (codes "get") ∷ number id ∷ name prop ∷ [])
old_parts (Unset id prop) = Some (word (codes "unset") ∷ number id ∷ name prop ∷ [])
old_parts (Props id) = Some (word (codes "props") ∷ number id ∷ [])
old_parts (Edge source target label) = Some (word (codes "edge") ∷ number source ∷ number target ∷ label_parts label)
old_parts (Cut source ordinal) = Some (word (codes "cut") ∷ number source ∷ number ordinal ∷ [])
old_parts (Target source ordinal) = Some (word (codes "target") ∷ number source ∷ number ordinal ∷ [])
old_parts (ETag source ordinal label) = Some (word (codes "etag") ∷ number source ∷ number ordinal ∷ name label ∷ [])
old_parts (EUntag source ordinal label) = Some (word (codes "euntag") ∷ number source ∷ number ordinal ∷ name label ∷ [])
old_parts (ETags source ordinal) = Some (word (codes "etags") ∷ number source ∷ number ordinal ∷ [])
old_parts (ESet source ordinal prop v) = Some (word (codes "eset") ∷ number source ∷ number ordinal ∷ name prop ∷ constant v ∷ [])
old_parts (EGet source ordinal prop) = Some (word (codes "eget") ∷ number source ∷ number ordinal ∷ name prop ∷ [])
old_parts (EUnset source ordinal prop) = Some (word (codes "eunset") ∷ number source ∷ number ordinal ∷ name prop ∷ [])
old_parts (EProps source ordinal) = Some (word (codes "eprops") ∷ number source ∷ number ordinal ∷ [])
old_parts (Edges id dir test) = with_dir (old_dir dir) (test_parts test) (λ d rest. word (codes "edges") ∷ number id ∷ word d ∷ rest)
old_parts (Near id dir) = with_dir (old_dir dir) [] (λ d rest. word (codes "near") ∷ number id ∷ word d ∷ rest)
old_parts (Degree id dir) = with_dir (old_dir dir) [] (λ d rest. word (codes "degree") ∷ number id ∷ word d ∷ rest)
old_parts (Find label test) = Some (word (codes "find") ∷ name label ∷ test_parts test)
old_parts (Hood id depth) = Some (word (codes "hood") ∷ number id ∷ number depth ∷ [])
old_parts (Levels id) = Some (word (codes "levels") ∷ number id ∷ [])
old_parts Parts = Some (word (codes "parts") ∷ [])
old_parts (Scan label test) = Some (word (codes "scan") ∷ scope_part label ∷ test_parts test)
old_parts Vertices = Some (word (codes "vertices") ∷ [])
old_parts Arcs = Some (word (codes "arcs") ∷ [])
old_parts call = None

-- the line of a step, where it had one
abbrev pub old_line : Step → Option (List ℕ)
old_line Section = Some (codes "section")
old_line (Begin false) = Some (codes "txn")
old_line (Begin true) = Some (codes "all")
old_line (Does call) = option_map line_of_parts (old_parts call)
old_line (Close false) = Some (codes "end")
old_line (Close true) = Some (codes "abort")

-- a call that a transaction could hold
pub record IsOldCall (whole : Bool) (call : Call) : Type 0 where
  pub parts : List Part
  pub spelled : old_parts call ≡ Some parts
  pub fit : AllByRecursion IsPart parts
  pub atoms : HasAtoms (test_of call)
  pub few_atoms : atoms_in (test_of call) ≤ 64
  pub place : is_whole_call call ≡ whole

pub record IsOldTxn (txn : Txn) : Type 0 where
  pub calls : AllByRecursion (IsOldCall txn.whole) txn.calls
  pub few_calls : length txn.calls ≤ 65536

-- the bytes spelled the script
pub record OldSpells (bytes : List ℕ) (sections : List (List Txn)) : Type 0 where
  pub few_sections : length sections ≤ 4096
  pub few_txns : sum_by length sections ≤ 1048576
  pub txns : AllByRecursion (AllByRecursion IsOldTxn) sections
  pub lines : map Some (counted (lines_of bytes)) ≡ map old_line (steps_of_script sections)

-- a call that had a line
abbrev pub HadLine : Call → Type 0
HadLine call = (parts : List Part) × (old_parts call ≡ Some parts)

abbrev pub HadLines : Txn → Type 0
HadLines txn = AllByRecursion HadLine txn.calls

-- every text of that time spells the script that it spelled, and no other
abbrev pub OldScriptsStay : Type 0
OldScriptsStay = (bytes : List ℕ) (sections : List (List Txn)) → OldSpells bytes sections → SpellsAlone bytes sections

-- and a text of a script whose calls had lines was a text of that time
abbrev pub OldScriptsAreAll : Type 0
OldScriptsAreAll = (bytes : List ℕ) (sections : List (List Txn)) → Spells bytes sections → AllByRecursion (AllByRecursion HadLines) sections → OldSpells bytes sections
