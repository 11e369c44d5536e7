-- What the top call answers, by what it did.
use Rattle.std.proofs.Common.{◌≡◌, ◌≤◌, ℕ, List, [], ◌∷◌, inl, refl, sym, subst, ◌∙◌}
use Rattle.gdi_io.specs.Shelf.{Told}
use Rattle.gdi_io.specs.Sink.{Taken}
use Rattle.command_words.specs.Items.{Text}
use Rattle.command_words.specs.Commands.{Asks, IsRefused}
use Rattle.command_words.specs.declared.command.Command.{Command}
use Rattle.command_words.specs.declared.command.Command.TheVariants.{Report, Drill}
use Rattle.command_words.specs.declared.command.CommandName.{CommandName}
use Rattle.command_words.specs.declared.command.CommandName.TheVariants as named
use Rattle.command_words.specs.declared.source.Source.{Source}
use Rattle.command_words.specs.declared.usage.UsageKind.{UsageKind}
use Rattle.gdi_run.specs.declared.status.Status.{Status}
use Rattle.gdi_run.specs.declared.status.Status.TheVariants.{Done, Usage, ReadFault, TooLong, BadLoad, BadScript, BadOutput, LoadFull, WriteFault, Illegal, NoMemory}
use Rattle.gdi_run.specs.Commands.{FileNames, IsDone, Names, held_in, names_for}
use Rattle.gdi_run.specs.Answer.{AreShort, Cause, Ends, EndsCommand, IsAnswer, MayBeDone, MayDo}
use Rattle.gdi_run.proofs.OneCommand.{alike, drill_in_range, not_refused, same_command}

-- ---- the words name one command

done_of : (words : List Text) (name : CommandName) (others : List Text) → Names words name others → IsDone name
done_of [] name others names = absurd names
done_of (word ∷ words) name others names = names.2

same_name : (words : List Text) (name other : CommandName) (others these : List Text) → Names words name others → Names words other these → other ≡ name
same_name [] name other others these one two = absurd one
same_name (word ∷ words) name other others these one two = same_command other name (sym two.0 ∙ one.0)

same_others : (words : List Text) (name other : CommandName) (others these : List Text) → Names words name others → Names words other these → these ≡ others
same_others [] name other others these one two = absurd one
same_others (word ∷ words) name other others these one two = sym two.1 ∙ one.1

-- a report isn't asked for, since it isn't done so far
no_report_asked : (name : CommandName) (words : List Text) (source : Source) → IsDone name → ¬ Asks name words (Report source)
no_report_asked named.Run words source done asks = asks.2
no_report_asked named.Check words source done asks = asks.2
no_report_asked named.Drill words source done asks = asks.2
no_report_asked named.Report words source done asks = absurd done

module _ (all : List Text) (name : CommandName) (words : List Text) (names : Names all name words) where
  -- what the words ask for by any reading, they ask for by this one
  asks_here : (other : CommandName) (others : List Text) (asked : Command) → Names all other others → Asks other others asked → Asks name words asked
  asks_here other others asked also asks =
      subst (λ n. Asks n words asked) (same_name all name other words others names also) (subst (λ ws. Asks other ws asked) (same_others all name other words others names also) asks)

  module _ (shelf shelf' : Told) (sink sink' : Taken) where
    caused : (other : CommandName) (others : List Text) (status : Status) → Names all other others → Cause shelf shelf' name words sink sink' status → Cause shelf shelf' other others sink sink' status
    caused other others status also cause =
        subst (λ n. Cause shelf shelf' n others sink sink' status) (sym (same_name all name other words others names also))
        (subst (λ ws. Cause shelf shelf' name ws sink sink' status) (sym (same_others all name other words others names also)) cause)

    cause_of : (asked : Command) (status : Status) → Asks name words asked → Ends shelf shelf' asked sink sink' status → Cause shelf shelf' name words sink sink' status
    cause_of asked Done asks ends = (asked, asks, ends)
    cause_of asked WriteFault asks ends = (asked, asks, ends)
    cause_of asked (ReadFault kind) asks ends = (asked, asks, ends)
    cause_of asked (TooLong kind) asks ends = (asked, asks, ends)
    cause_of asked (BadLoad kind row number) asks ends = (asked, asks, ends)
    cause_of asked (BadScript line kind) asks ends = (asked, asks, ends)
    cause_of asked (BadOutput line) asks ends = (asked, asks, ends)
    cause_of asked (LoadFull kind rank) asks ends = (asked, asks, ends)
    cause_of asked (Illegal clause section txn) asks ends = (asked, asks, ends)
    cause_of asked NoMemory asks ends = ends
    cause_of asked (Usage kind) asks ends = absurd ends

    -- a command was found, and done
    pub answers : (asked : Command) (status : Status) → Asks name words asked → EndsCommand shelf shelf' asked sink sink' status → IsAnswer all shelf shelf' sink sink' status
    answers asked status asks ended = record {
      command = λ none. absurd (none name words names);
      cause = λ other others also. caused other others status also (cause_of asked status asks ended.ends);
      too_long = ended.too_long;
      files = ended.files;
      nothing = λ other others wanted also wants none. ended.nothing (sym (alike name words asked wanted (done_of all name words names) asks (asks_here other others wanted also wants)).names ∙ none);
      complete = λ other others wanted files also wants told may quiet runs.
          let same = alike name words asked wanted (done_of all name words names) asks (asks_here other others wanted also wants) in
          let here : MayBeDone files asked = (
            subst (AreShort files) same.names may.0,
            same.may (held_in files (names_for asked)) (subst (λ (n : FileNames). MayDo wanted (held_in files n)) same.names may.1),
          ) in
          same.ends status (ended.complete files told here quiet runs);
    }

  pub answers_usage : (shelf : Told) (sink : Taken) (kind : UsageKind) → IsRefused name words kind → IsAnswer all shelf shelf sink sink (Usage kind)
  answers_usage shelf sink kind why = record {
    command = λ none. absurd (none name words names);
    cause = λ other others also. caused shelf shelf sink sink other others (Usage kind) also (why, refl, refl);
    too_long = inl refl;
    files = refl;
    nothing = λ other others wanted also wants none. refl;
    complete = λ other others wanted files also wants told may quiet runs.
        absurd (not_refused name words wanted kind (done_of all name words names) (asks_here other others wanted also wants) why);
  }

  pub no_report : (source : Source) → ¬ Asks name words (Report source)
  no_report source asks = no_report_asked name words source (done_of all name words names) asks

  -- a drill's size is in its range
  pub drill_range : (size seed : ℕ) → Asks name words (Drill size seed) → (1 ≤ size) × (size ≤ 10000)
  drill_range size seed asks = drill_in_range name words size seed (done_of all name words names) asks
