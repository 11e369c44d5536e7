-- Printed runs that are legal, and two that aren't, each by the part that fails.
use Rattle.std.specs.Prelude.{ℕ, false, List, [], ◌∷◌, length, pos, codes}
use Rattle.gdi_kinds.specs.declared.call.Call.TheVariants.{NewType, Vertex, Has, DropVertex, Set, Get}
use Rattle.gdi_kinds.specs.declared.outcome.Line.{Line}
use Rattle.gdi_kinds.specs.declared.outcome.Printed.{Printed}
use Rattle.gdi_kinds.specs.declared.outcome.Outcome.TheVariants.{Wrote, Read, Aborted, Full}
use Rattle.gdi_kinds.specs.declared.reply.Reply.{Reply}
use Rattle.gdi_kinds.specs.declared.reply.Reply.TheVariants as reply
use Rattle.gdi_kinds.specs.declared.txn.Txn.{Txn}
use Rattle.gdi_kinds.specs.declared.value.Kind.TheVariants as kind
use Rattle.gdi_kinds.specs.declared.value.Value.TheVariants as value
use Rattle.rma_layout.specs.Shape.{standard_shape}
use Rattle.graph_model.specs.Placed.{transactions_of}
use Rattle.graph_model.specs.History.{load_entries}
use Rattle.graph_model.specs.LegalRun.{FitsScript, IsNumbered, KeepsSessionOrder, HasReplies, graph_of_run, IsLegalRun}
use Rattle.graph_model.specs.MovedPlaces.{MovesReadingPlaces}
use Rattle.graph_model.specs.Examples.{committed, aborted, small_shape}

abbrev pub wrote : ℕ → ℕ → ℕ → List Reply → Line
wrote section txn k replies = record { section = section; txn = txn; outcome = Wrote k replies }

abbrev pub looked : ℕ → ℕ → ℕ → List Reply → Line
looked section txn place replies = record { section = section; txn = txn; outcome = Read place replies }

abbrev pub left : ℕ → ℕ → Line
left section txn = record { section = section; txn = txn; outcome = Aborted }

abbrev pub was_full : ℕ → ℕ → ℕ → ℕ → Line
was_full section txn rank place = record { section = section; txn = txn; outcome = Full rank place }

abbrev pub printed : List Line → ℕ → Printed
printed lines writes = record { lines = lines; writes = writes }

abbrev pub EmptyScriptIsLegal : Type 0
EmptyScriptIsLegal = IsLegalRun standard_shape [] [] (printed [] 0)

abbrev pub ReadingOfTheEmptyGraphIsLegal : Type 0
ReadingOfTheEmptyGraphIsLegal = IsLegalRun standard_shape [] ((committed (Has 7 ∷ []) ∷ committed [] ∷ []) ∷ [])
    (printed (looked 1 1 0 (reply.No ∷ []) ∷ looked 1 2 0 [] ∷ []) 0)

abbrev pub AbortIsNoEntry : Type 0
AbortIsNoEntry = IsLegalRun standard_shape [] ((aborted (Vertex 7 ∷ []) ∷ committed (Has 7 ∷ []) ∷ []) ∷ [])
    (printed (left 1 1 ∷ looked 1 2 0 (reply.No ∷ []) ∷ []) 0)

-- the fourth vertex is full on rank 0, and there is room for it once another is dropped
abbrev pub FullIsLegal : Type 0
FullIsLegal = IsLegalRun small_shape []
    ((committed (Vertex 1 ∷ []) ∷ committed (Vertex 2 ∷ []) ∷ committed (Vertex 3 ∷ []) ∷ committed (Vertex 4 ∷ []) ∷ committed (DropVertex 2 ∷ []) ∷ committed (Vertex 4 ∷ []) ∷ []) ∷ [])
    (printed
    (wrote 1 1 0 (reply.Done ∷ []) ∷ wrote 1 2 1 (reply.Done ∷ []) ∷ wrote 1 3 2 (reply.Done ∷ []) ∷ was_full 1 4 0 3 ∷ wrote 1 5 3 (reply.Done ∷ []) ∷ wrote 1 6 4 (reply.Done ∷ []) ∷ [])
    5)

-- a load that sets a property to 0, and two sections that each read it and set it
abbrev pub counter_load : List Txn
counter_load = committed (NewType (codes "n") kind.Int false ∷ Vertex 1 ∷ Set 1 (codes "n") (value.Int (pos 0)) ∷ []) ∷ []

abbrev pub counter_script : List (List Txn)
counter_script =
    (committed (Get 1 (codes "n") ∷ Set 1 (codes "n") (value.Int (pos 5)) ∷ []) ∷ [])
    ∷ (committed (Get 1 (codes "n") ∷ Set 1 (codes "n") (value.Int (pos 9)) ∷ []) ∷ []) ∷ []

-- the two as entries of these numbers, each with what it read
abbrev pub counter_run : ℕ → ℕ → ℕ → ℕ → Printed
counter_run first first_read second second_read =
    printed (wrote 1 1 first (reply.Value (value.Int (pos first_read)) ∷ reply.Done ∷ []) ∷ wrote 2 1 second (reply.Value (value.Int (pos second_read)) ∷ reply.Done ∷ []) ∷ []) 3

abbrev pub FirstSectionFirstIsLegal : Type 0
FirstSectionFirstIsLegal = IsLegalRun standard_shape counter_load counter_script (counter_run 1 0 2 5)

abbrev pub SecondSectionFirstIsLegal : Type 0
SecondSectionFirstIsLegal = IsLegalRun standard_shape counter_load counter_script (counter_run 2 9 1 0)

-- both read 0: the second isn't answered so on the graph that the first left
abbrev pub LostUpdateIsIllegal : Type 0
LostUpdateIsIllegal =
    let run = counter_run 1 0 2 0 in
    let second : Txn = committed (Get 1 (codes "n") ∷ Set 1 (codes "n") (value.Int (pos 9)) ∷ []) in
    FitsScript (transactions_of counter_script) run.lines
    × IsNumbered (length (load_entries counter_load)) run
    × KeepsSessionOrder run.lines
    × (HasReplies standard_shape (graph_of_run standard_shape counter_load counter_script run) second (Wrote 2 (reply.Value (value.Int (pos 0)) ∷ reply.Done ∷ [])) → ⊥)
    × (IsLegalRun standard_shape counter_load counter_script run → ⊥)

-- a section that makes a vertex and then looks for it
abbrev pub writer_then_reader : List (List Txn)
writer_then_reader = (committed (Vertex 7 ∷ []) ∷ committed (Has 7 ∷ []) ∷ []) ∷ []

abbrev pub reader_run : ℕ → Reply → Printed
reader_run place answer = printed (wrote 1 1 0 (reply.Done ∷ []) ∷ looked 1 2 place (answer ∷ []) ∷ []) 1

abbrev pub ReaderSeesItsOwnSection : Type 0
ReaderSeesItsOwnSection = IsLegalRun standard_shape [] writer_then_reader (reader_run 1 reply.Yes)

-- the replies fit the place, and the place stands before what the section wrote
abbrev pub ReaderBeforeItsOwnSectionIsIllegal : Type 0
ReaderBeforeItsOwnSectionIsIllegal =
    let run = reader_run 0 reply.No in
    FitsScript (transactions_of writer_then_reader) run.lines
    × IsNumbered 0 run
    × HasReplies standard_shape (graph_of_run standard_shape [] writer_then_reader run) (committed (Has 7 ∷ [])) (Read 0 (reply.No ∷ []))
    × (KeepsSessionOrder run.lines → ⊥)

-- a reader in another section stands before the writer or after it, where both answer it alike
abbrev pub writer_and_other_reader : List (List Txn)
writer_and_other_reader = (committed (Vertex 7 ∷ []) ∷ []) ∷ (committed (Has 8 ∷ []) ∷ []) ∷ []

abbrev pub other_reader_run : ℕ → Printed
other_reader_run place = printed (wrote 1 1 0 (reply.Done ∷ []) ∷ looked 2 1 place (reply.No ∷ []) ∷ []) 1

abbrev pub OtherReaderStandsBefore : Type 0
OtherReaderStandsBefore = IsLegalRun standard_shape [] writer_and_other_reader (other_reader_run 0)

abbrev pub OtherReaderStandsAfter : Type 0
OtherReaderStandsAfter = MovesReadingPlaces standard_shape [] writer_and_other_reader (other_reader_run 0) (other_reader_run 1)
