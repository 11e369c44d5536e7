-- Files that are read one after the other.
use Rattle.std.proofs.Common.{◌≡◌, ℕ, ◌<◌, ◌≤◌, List, length, Option, Some, None, refl, ap, subst, ◌∙◌, arith}
use Rattle.std.specs.Prelude.{IfSome, Ok, Err}
use Rattle.std.specs.List.{AllByRecursion}
use Rattle.std.specs.Option.{option_map}
use Rattle.gdi_kinds.specs.declared.named_bytes.NamedBytes.{NamedBytes}
use Rattle.gdi_io.specs.Files.{bytes_of}
use Rattle.gdi_io.specs.Shelf.{Told}
use Rattle.gdi_io.specs.Whole.{longest_file}
use Rattle.command_words.specs.Items.{Text}
use Rattle.command_words.specs.declared.source.Source.{Source}
use Rattle.plain_run.specs.Given.{Given}
use Rattle.gdi_run.specs.declared.status.FileKind.{FileKind}
use Rattle.gdi_run.specs.declared.status.FileKind.TheVariants as file
use Rattle.gdi_run.specs.declared.status.Status.{Status}
use Rattle.gdi_run.specs.declared.status.Status.TheVariants.{Done, Usage, ReadFault, TooLong, BadLoad, BadScript, BadOutput, LoadFull, WriteFault, Illegal, NoMemory}
use Rattle.gdi_run.specs.Commands.{FileNames, Held, held_in, name_of, names_with, texts_in}
use Rattle.gdi_run.specs.Reading.{AreUnread, IsUnread, IsShort, IsGivenFile, ReadsFile, ReadsFiles, ReadsGiven, earlier}

pub if_some_more : {X : Type 0} (o : Option X) (P Q : X → Type 0) → ((x : X) → P x → Q x) → IfSome o P → IfSome o Q
if_some_more None P Q more h = h
if_some_more (Some x) P Q more h = more x h

pub if_some_both : {X : Type 0} (o : Option X) (P Q R : X → Type 0) → ((x : X) → P x → Q x → R x) → IfSome o P → IfSome o Q → IfSome o R
if_some_both None P Q R both p q = p
if_some_both (Some x) P Q R both p q = both x p q

-- a file that isn't read later isn't read from the start
unread_earlier : (old mid new : Told) (kind : FileKind) (name : Text) (status : Status) → old.faults ≤ mid.faults → mid.files ≡ old.files → IsUnread mid new kind name status → IsUnread old new kind name status
unread_earlier old mid new kind name (ReadFault told) later files (is, rose, halted) = (is, omega (arith, later, rose), halted)
unread_earlier old mid new kind name (TooLong told) later files (is, over, long) = (is, over, subst (λ fs. IfSome fs (λ held. longest_file < length (bytes_of held name))) files long)
unread_earlier old mid new kind name NoMemory later files why = tt
unread_earlier old mid new kind name Done later files why = absurd why
unread_earlier old mid new kind name (Usage k) later files why = absurd why
unread_earlier old mid new kind name (BadLoad k row number) later files why = absurd why
unread_earlier old mid new kind name (BadScript line k) later files why = absurd why
unread_earlier old mid new kind name (BadOutput line) later files why = absurd why
unread_earlier old mid new kind name (LoadFull k rank) later files why = absurd why
unread_earlier old mid new kind name WriteFault later files why = absurd why
unread_earlier old mid new kind name (Illegal clause section txn) later files why = absurd why

short_of : (old mid : Told) (names : FileNames) (kind : FileKind) (text : Option (List ℕ)) → mid.files ≡ old.files → IsGivenFile mid (name_of names kind) text → IsShort old names kind
short_of old mid names kind text files given =
    if_some_more old.files (λ held. (text ≡ option_map (bytes_of held) (name_of names kind)) × IfSome (name_of names kind) (λ n. length (bytes_of held n) ≤ longest_file))
    (λ held. IfSome (name_of names kind) (λ n. length (bytes_of held n) ≤ longest_file)) (λ held both. both.1)
    (subst (λ fs. IfSome fs (λ held. (text ≡ option_map (bytes_of held) (name_of names kind)) × IfSome (name_of names kind) (λ n. length (bytes_of held n) ≤ longest_file))) files given)

module _ {X : Type 0} (value : List NamedBytes → X) (old first second new : Told) (source : Source) (script : Text) (vertices edges : Option (List ℕ))
    (one : ReadsGiven old first file.Vertices (names_with source script None).vertices (Ok vertices)) (two : ReadsGiven first second file.Edges (names_with source script None).edges (Ok edges)) where
  -- the load's files are read, and the script isn't
  pub script_unread : (status : Status) → ReadsFile second new file.Script script (Err status) → ReadsFiles old new (names_with source script None) value (Err status)
  script_unread status three = record {
    later = omega (arith, one.later, two.later, three.later);
    files = three.files ∙ two.files ∙ one.files;
    ok = tt;
    short = tt;
    err = (
      record {
        kind = file.Script;
        name = script;
        is = refl;
        why = unread_earlier old second new file.Script script status (omega (arith, one.later, two.later)) (two.files ∙ one.files) three.err.0;
        before = (short_of old old (names_with source script None) file.Vertices vertices refl one.ok, (short_of old first (names_with source script None) file.Edges edges one.files two.ok, tt));
      },
      three.err.1,
    );
  }

module _ (old mid new : Told) (source : Source) (script output : Text) where
  -- what isn't read of a run isn't read of a check
  widened : (status : Status) (kind : FileKind) (name : Text) → name_of (names_with source script None) kind ≡ Some name → IsUnread old mid kind name status
      → AllByRecursion (IsShort old (names_with source script None)) (earlier kind) → AreUnread old mid (names_with source script (Some output)) status
  widened status file.Vertices name is why before = record { kind = file.Vertices; name = name; is = is; why = why; before = before }
  widened status file.Edges name is why before = record { kind = file.Edges; name = name; is = is; why = why; before = before }
  widened status file.Script name is why before = record { kind = file.Script; name = name; is = is; why = why; before = before }
  widened status file.Output name is why before = absurd (cc)

  pub run_unread : (value : List NamedBytes → Given) (wide : List NamedBytes → Held) (status : Status)
      → ReadsFiles old mid (names_with source script None) value (Err status) → ReadsFiles old mid (names_with source script (Some output)) wide (Err status)
  run_unread value wide status reads =
      let unread = reads.err.0 in
      record {
        later = reads.later;
        files = reads.files;
        ok = tt;
        short = tt;
        err = (widened status unread.kind unread.name unread.is unread.why unread.before, reads.err.1);
      }

  pub output_unread : (value : List NamedBytes → Given) (wide : List NamedBytes → Held) (texts : Given) (status : Status)
      → ReadsFiles old mid (names_with source script None) value (Ok texts) → ReadsFile mid new file.Output output (Err status) → ReadsFiles old new (names_with source script (Some output)) wide (Err status)
  output_unread value wide texts status run last = record {
    later = omega (arith, run.later, last.later);
    files = last.files ∙ run.files;
    ok = tt;
    short = tt;
    err = (
      record {
        kind = file.Output;
        name = output;
        is = refl;
        why = unread_earlier old mid new file.Output output status run.later run.files last.err.0;
        before = run.short;
      },
      last.err.1,
    );
  }

  pub all_read : (texts : Given) (bytes : List ℕ) → ReadsFiles old mid (names_with source script None) (λ files. texts_in files (names_with source script None)) (Ok texts)
      → ReadsFile mid new file.Output output (Ok bytes)
      → ReadsFiles old new (names_with source script (Some output)) (λ files. held_in files (names_with source script (Some output))) (Ok (record { texts = texts; output = bytes }))
  all_read texts bytes run last =
      let output_is : IfSome old.files (λ files. bytes ≡ bytes_of files output) = subst (λ fs. IfSome fs (λ files. bytes ≡ bytes_of files output)) run.files last.ok.0.whole in
      let both : List NamedBytes → Held = λ files. held_in files (names_with source script (Some output)) in
      record {
        later = omega (arith, run.later, last.later);
        files = last.files ∙ run.files;
        ok = (
          if_some_both old.files (λ files. texts ≡ texts_in files (names_with source script None)) (λ files. bytes ≡ bytes_of files output) (λ files. record { texts = texts; output = bytes } ≡ both files)
              (λ files texts_are bytes_are.
              ap (λ (t : Given). (record { texts = t; output = bytes })) texts_are ∙ ap (λ (b : List ℕ). (record { texts = texts_in files (names_with source script None); output = b })) bytes_are)
              run.ok.0 output_is,
          last.ok.1,
        );
        short = run.short;
        err = tt;
      }
