-- How a command ends: whose files aren't read, that isn't done, or that has written.
use Rattle.std.proofs.Common.{◌≡◌, ◌<◌, ◌≤◌, ℕ, false, List, [], length, Option, Some, None, inl, inr, refl, sym, ap, subst, ◌∙◌, arith}
use Rattle.std.specs.Prelude.{IfSome, Ok, Err, ◌⊎◌}
use Rattle.std.specs.Borrow.{Bor}
use Rattle.std.proofs.lemmas.Bool.{false≢true}
use Rattle.gdi_kinds.specs.declared.named_bytes.NamedBytes.{NamedBytes}
use Rattle.gdi_io.specs.Faults.{Rose}
use Rattle.gdi_io.specs.Files.{bytes_of}
use Rattle.gdi_io.specs.Shelf.{Told}
use Rattle.gdi_io.specs.Sink.{Taken}
use Rattle.gdi_io.specs.Whole.{WritesAll, longest_file}
use Rattle.rma_layout.specs.Shape.{Shape}
use Rattle.command_words.specs.Items.{Text}
use Rattle.command_words.specs.declared.command.Command.{Command}
use Rattle.command_words.specs.declared.command.Command.TheVariants.{Run, Check, Report, Drill}
use Rattle.command_words.specs.declared.source.Source.{Source}
use Rattle.plain_run.specs.Given.{Given}
use Rattle.plain_run.specs.Loading.{HasRoom}
use Rattle.plain_run.specs.Running.{TellsFull, TellsWhy}
use Rattle.bulk_load.specs.declared.load_file.LoadFile.TheVariants.{Vertices, Edges}
use Rattle.plain_run.specs.declared.load.Load.{Load}
use Rattle.plain_run.specs.declared.run_refused.RunRefused.{RunRefused}
use Rattle.plain_run.specs.declared.run_refused.RunRefused.TheVariants as refused
use Rattle.plain_run.proofs.RightTexts.{right_texts}
use Rattle.run_check.specs.declared.illegal.Illegal.{Illegal as WhyIllegal}
use Rattle.plain_check.specs.Checking.{PrintsIllegalRun}
use Rattle.plain_check.specs.Refusals.{IsUnchecked}
use Rattle.plain_check.specs.declared.check_refused.CheckRefused.{CheckRefused}
use Rattle.plain_check.specs.declared.check_refused.CheckRefused.TheVariants as unchecked
use Rattle.plain_check.proofs.Accepted.{right_outputs}
use Rattle.gdi_run.specs.declared.status.FileKind.{FileKind}
use Rattle.gdi_run.specs.declared.status.FileKind.TheVariants as file
use Rattle.gdi_run.specs.declared.status.Status.{Status}
use Rattle.gdi_run.specs.declared.status.Status.TheVariants.{Done, Usage, ReadFault, TooLong, BadLoad, BadScript, BadOutput, LoadFull, WriteFault, Illegal, NoMemory}
use Rattle.drill_run.specs.Drills.{PrintsDrill, drill_shape, load_of}
use Rattle.gdi_run.specs.Commands.{FileNames, Held, held_in, name_of, names_for, names_with, no_names, texts_in}
use Rattle.gdi_run.specs.Reading.{AreUnread, IsQuiet, ReadsFiles}
use Rattle.gdi_run.specs.Statuses.{status_of, status_of_check, status_of_illegal}
use Rattle.gdi_run.specs.Answer.{AreRead, Ends, EndsCommand, IsEnd, MayBeDone, MayDo, Writes}
use Rattle.gdi_run.proofs.Unread.{if_some_more}

done_ends : (asked : Command) → IsEnd asked Done
done_ends (Run source script) = inl refl
done_ends (Check source script output) = inl refl
done_ends (Report source) = inl refl
done_ends (Drill size seed) = inl refl

pub no_memory_ends : (asked : Command) (status : Status) → status ≡ NoMemory → IsEnd asked status
no_memory_ends (Run source script) status is = inr is
no_memory_ends (Check source script output) status is = inr (inl is)
no_memory_ends (Report source) status is = inr is
no_memory_ends (Drill size seed) status is = inr is

-- ---- a command that reads names a file

a_file_is_named : (kind : FileKind) (name : Text) → name_of no_names kind ≡ Some name → ⊥
a_file_is_named file.Vertices name is = absurd (cc)
a_file_is_named file.Edges name is = absurd (cc)
a_file_is_named file.Script name is = absurd (cc)
a_file_is_named file.Output name is = absurd (cc)

pub a_script_is_named : (source : Source) (script : Text) (output : Option Text) → names_with source script output ≡ no_names → ⊥
a_script_is_named source script output is =
    let no : ◌≡◌ {A = Option Text} (Some script) None = ap (λ (names : FileNames). names.script) is in
    absurd (cc)

-- ---- files that aren't read

module _ (old new : Told) (asked : Command) (sink : Taken) where
  unread_ends : (status : Status) → AreUnread old new (names_for asked) status → Ends old new asked sink sink status
  unread_ends (ReadFault kind) unread = (unread, refl)
  unread_ends (TooLong kind) unread = (unread, refl)
  unread_ends NoMemory unread = refl
  unread_ends Done unread = absurd unread.why
  unread_ends (Usage k) unread = absurd unread.why
  unread_ends (BadLoad k row number) unread = absurd unread.why
  unread_ends (BadScript line k) unread = absurd unread.why
  unread_ends (BadOutput line) unread = absurd unread.why
  unread_ends (LoadFull k rank) unread = absurd unread.why
  unread_ends WriteFault unread = absurd unread.why
  unread_ends (Illegal clause section txn) unread = absurd unread.why

  -- a shelf that didn't fail and has short files is read, or memory isn't found
  short_read : (status : Status) (files : List NamedBytes) → AreUnread old new (names_for asked) status → old.files ≡ Some files → MayBeDone files asked → new.halted ≡ false → status ≡ NoMemory
  short_read (ReadFault kind) files unread told may quiet = absurd (false≢true (sym quiet ∙ unread.why.2.halted))
  short_read (TooLong kind) files unread told may quiet =
      let long : longest_file < length (bytes_of files unread.name) = subst (λ fs. IfSome fs (λ held. longest_file < length (bytes_of held unread.name))) told unread.why.2 in
      let short : length (bytes_of files unread.name) ≤ longest_file = may.0 unread.kind unread.name unread.is in
      absurd (omega (arith, long, short))
  short_read NoMemory files unread told may quiet = refl
  short_read Done files unread told may quiet = absurd unread.why
  short_read (Usage k) files unread told may quiet = absurd unread.why
  short_read (BadLoad k row number) files unread told may quiet = absurd unread.why
  short_read (BadScript line k) files unread told may quiet = absurd unread.why
  short_read (BadOutput line) files unread told may quiet = absurd unread.why
  short_read (LoadFull k rank) files unread told may quiet = absurd unread.why
  short_read WriteFault files unread told may quiet = absurd unread.why
  short_read (Illegal clause section txn) files unread told may quiet = absurd unread.why

  pub ends_unread : {X : Type 0} (value : List NamedBytes → X) (status : Status) → ReadsFiles old new (names_for asked) value (Err status) → EndsCommand old new asked sink sink status
  ends_unread value status reads = record {
    ends = unread_ends status reads.err.0;
    too_long = inr reads.err.1.too_long;
    files = reads.files;
    nothing = λ none. absurd (a_file_is_named reads.err.0.kind reads.err.0.name (subst (λ (names : FileNames). name_of names reads.err.0.kind ≡ Some reads.err.0.name) none reads.err.0.is));
    complete = λ files told may quiet runs. no_memory_ends asked status (short_read status files reads.err.0 told may quiet);
  }

-- ---- files that are read

-- nothing was read; or, where a byte past the longest file was, a file is too long
abbrev IsShortOrTold : Told → Told → Status → Type 0
IsShortOrTold old new status = (new ≡ old) ⊎ (longest_file < new.given → (kind : FileKind) × (status ≡ TooLong kind))

pub short_read_all : (old new : Told) (status : Status) → IsQuiet new → IsShortOrTold old new status
short_read_all old new status quiet = inr (λ over. absurd (omega (arith, over, quiet.short)))

module _ (old new : Told) (asked : Command) (held : Held) (sink sink' : Taken) (read : AreRead old asked held)
    (given : (status : Status) → IsShortOrTold old new status) (nothing : names_for asked ≡ no_names → new ≡ old) (same : new.files ≡ old.files) where
  -- what a command may do with the files that the shelf tells, it may do with what was read
  held_may : (files : List NamedBytes) → old.files ≡ Some files → MayBeDone files asked → MayDo asked held
  held_may files told may =
      let these : held ≡ held_in files (names_for asked) = subst (λ fs. IfSome fs (λ all. held ≡ held_in all (names_for asked))) told read in
      subst (MayDo asked) (sym these) may.1

  ended : (status : Status) → Ends old new asked sink sink' status → (MayDo asked held → ¬ (Rose sink.faults sink'.faults) → IsEnd asked status) → EndsCommand old new asked sink sink' status
  ended status ends complete = record {
    ends = ends;
    too_long = given status;
    files = same;
    nothing = nothing;
    complete = λ files told may still runs. complete (held_may files told may) runs;
  }

  pub ends_written : {T E : Type 0} (x : T) (written : List ℕ) → Writes asked held written → WritesAll {T = T} {E = E} sink sink' written (Ok x) → EndsCommand old new asked sink sink' Done
  ends_written x written writes all = ended Done (record { held = held; written = written; read = read; writes = writes; taken = all.ok }) (λ may runs. done_ends asked)

  pub ends_cut : {T E : Type 0} (e : E) (written : List ℕ) → Writes asked held written → WritesAll {T = T} {E = E} sink sink' written (Err e) → EndsCommand old new asked sink sink' WriteFault
  ends_cut e written writes cut =
      ended WriteFault (cut.cause.failed, (cut.err.0, record { held = held; written = written; read = read; writes = writes; taken = cut.err.2 })) (λ may runs. absurd (runs cut.cause.failed))

-- what the files of a run hold
pub run_read : (old : Told) (source : Source) (script : Bor (List ℕ)) (texts : Given) → IfSome old.files (λ files. texts ≡ texts_in files (names_with source script.now None)) → AreRead old (Run source script) (record { texts = texts; output = [] })
run_read old source script texts read =
    if_some_more old.files (λ files. texts ≡ texts_in files (names_with source script.now None)) (λ files. record { texts = texts; output = [] } ≡ held_in files (names_with source script.now None))
    (λ files are. ap (λ (t : Given). (record { texts = t; output = [] })) are) read

module _ (old new : Told) (source : Source) (script : Bor (List ℕ)) (texts : Given) (sink : Taken) (reads : ReadsFiles old new (names_with source script.now None) (λ files. texts_in files (names_with source script.now None)) (Ok texts)) where
  why_not_run : (why : RunRefused) → TellsWhy source.geometry texts why → Ends old new (Run source script) sink sink (status_of why)
  why_not_run (refused.BadLoad told row kind) tells = (record { held = record { texts = texts; output = [] }; read = run_read old source script texts reads.ok.0; fails = (refused.BadLoad told row kind, tells, refl) }, refl)
  why_not_run (refused.BadScript line kind) tells = (record { held = record { texts = texts; output = [] }; read = run_read old source script texts reads.ok.0; fails = (refused.BadScript line kind, tells, refl) }, refl)
  why_not_run (refused.LoadFull told rank) tells = (record { held = record { texts = texts; output = [] }; read = run_read old source script texts reads.ok.0; fails = (refused.LoadFull told rank, tells, refl) }, refl)
  why_not_run refused.NoMemory tells = refl

  pub run_refused : (why : RunRefused) (status : Status) → TellsWhy source.geometry texts why → status ≡ status_of why → EndsCommand old new (Run source script) sink sink status
  run_refused why status tells is =
      subst (EndsCommand old new (Run source script) sink sink) (sym is)
      (ended old new (Run source script) (record { texts = texts; output = [] }) sink sink (run_read old source script texts reads.ok.0) (λ status. short_read_all old new status reads.ok.1)
      (λ none. absurd (a_script_is_named source script.now None none)) reads.files (status_of why) (why_not_run why tells)
      (λ may runs. inr (ap status_of (right_texts source.geometry texts may.0 why may.1 may.2 tells))))

module _ (old new : Told) (source : Source) (script output : Bor (List ℕ)) (held : Held) (sink : Taken)
    (reads : ReadsFiles old new (names_with source script.now (Some output.now)) (λ files. held_in files (names_with source script.now (Some output.now))) (Ok held)) where
  why_not_checked : (why : CheckRefused) → IsUnchecked source.geometry held.texts held.output why → Ends old new (Check source script output) sink sink (status_of_check why)
  why_not_checked (unchecked.Texts (refused.BadLoad told row kind)) tells = (record { held = held; read = reads.ok.0; fails = inl (unchecked.Texts (refused.BadLoad told row kind), tells, refl) }, refl)
  why_not_checked (unchecked.Texts (refused.BadScript line kind)) tells = (record { held = held; read = reads.ok.0; fails = inl (unchecked.Texts (refused.BadScript line kind), tells, refl) }, refl)
  why_not_checked (unchecked.Texts (refused.LoadFull told rank)) tells = (record { held = held; read = reads.ok.0; fails = inl (unchecked.Texts (refused.LoadFull told rank), tells, refl) }, refl)
  why_not_checked (unchecked.Texts refused.NoMemory) tells = refl
  why_not_checked (unchecked.BadOutput line) tells = (record { held = held; read = reads.ok.0; fails = inl (unchecked.BadOutput line, tells, refl) }, refl)

  pub check_refused : (why : CheckRefused) (status : Status) → IsUnchecked source.geometry held.texts held.output why → status ≡ status_of_check why → EndsCommand old new (Check source script output) sink sink status
  check_refused why status tells is =
      subst (EndsCommand old new (Check source script output) sink sink) (sym is)
      (ended old new (Check source script output) held sink sink reads.ok.0 (λ status. short_read_all old new status reads.ok.1)
      (λ none. absurd (a_script_is_named source script.now (Some output.now) none)) reads.files (status_of_check why) (why_not_checked why tells)
      (λ may runs. inr (inl (ap status_of_check (right_outputs source.geometry held.texts held.output may.0.0 may.1.0 why may.0.1 may.0.2 may.1.1 tells)))))

  pub not_legal : (why : WhyIllegal) (status : Status) → PrintsIllegalRun source.geometry held.texts held.output why → status ≡ status_of_illegal why → EndsCommand old new (Check source script output) sink sink status
  not_legal why status prints is =
      subst (EndsCommand old new (Check source script output) sink sink) (sym is)
      (ended old new (Check source script output) held sink sink reads.ok.0 (λ status. short_read_all old new status reads.ok.1)
      (λ none. absurd (a_script_is_named source script.now (Some output.now) none)) reads.files (status_of_illegal why)
      (record { held = held; read = reads.ok.0; fails = inr (why, prints, refl) }, refl) (λ may runs. inr (inr (why, refl))))

-- ---- a drill, which reads nothing

all_hold_nothing : (told : Option (List NamedBytes)) → IfSome told (λ files. held_in [] no_names ≡ held_in files no_names)
all_hold_nothing None = tt
all_hold_nothing (Some files) = refl

room_refuses : (shape : Shape) (load : Load) (why : RunRefused) → HasRoom shape load → TellsFull shape load why → why ≡ refused.NoMemory
room_refuses shape load (refused.BadLoad told row kind) room tells = absurd tells
room_refuses shape load (refused.BadScript line kind) room tells = absurd tells
room_refuses shape load (refused.LoadFull Vertices rank) room tells = let no : ◌≡◌ {A = Option ℕ} None (Some rank) = sym room.vertices ∙ tells in absurd (cc)
room_refuses shape load (refused.LoadFull Edges rank) room tells = let no : ◌≡◌ {A = Option ℕ} None (Some rank) = sym room.edges ∙ tells.1 in absurd (cc)
room_refuses shape load refused.NoMemory room tells = refl

module _ (shelf : Told) (size seed : ℕ) (sink sink' : Taken) where
  pub drill_written : {T E : Type 0} (x : T) (written : List ℕ) → PrintsDrill drill_shape size seed written → WritesAll {T = T} {E = E} sink sink' written (Ok x) → EndsCommand shelf shelf (Drill size seed) sink sink' Done
  drill_written x written prints all = ends_written shelf shelf (Drill size seed) (held_in [] no_names) sink sink' (all_hold_nothing shelf.files) (λ status. inl refl) (λ none. refl) refl x written prints all

  pub drill_cut : {T E : Type 0} (e : E) (written : List ℕ) → PrintsDrill drill_shape size seed written → WritesAll {T = T} {E = E} sink sink' written (Err e) → EndsCommand shelf shelf (Drill size seed) sink sink' WriteFault
  drill_cut e written prints cut = ends_cut shelf shelf (Drill size seed) (held_in [] no_names) sink sink' (all_hold_nothing shelf.files) (λ status. inl refl) (λ none. refl) refl e written prints cut

module _ (shelf : Told) (size seed : ℕ) (sink : Taken) where
  why_not_drilled : (why : RunRefused) → TellsFull drill_shape (load_of size seed) why → Ends shelf shelf (Drill size seed) sink sink (status_of why)
  why_not_drilled (refused.BadLoad told row kind) tells = absurd tells
  why_not_drilled (refused.BadScript line kind) tells = absurd tells
  why_not_drilled (refused.LoadFull told rank) tells = (record { held = held_in [] no_names; read = all_hold_nothing shelf.files; fails = (refused.LoadFull told rank, tells, refl) }, refl)
  why_not_drilled refused.NoMemory tells = refl

  pub drill_refused : (why : RunRefused) (status : Status) → TellsFull drill_shape (load_of size seed) why → status ≡ status_of why → EndsCommand shelf shelf (Drill size seed) sink sink status
  drill_refused why status tells is =
      subst (EndsCommand shelf shelf (Drill size seed) sink sink) (sym is)
      (ended shelf shelf (Drill size seed) (held_in [] no_names) sink sink (all_hold_nothing shelf.files) (λ status. inl refl) (λ none. refl) refl (status_of why) (why_not_drilled why tells)
      (λ may runs. inr (ap status_of (room_refuses drill_shape (load_of size seed) why may tells))))
