-- Which command the words of a command line name, and which files it reads.
use Rattle.std.specs.Prelude.{◌≡◌, ℕ, List, [], ◌∷◌, Option, Some, None}
use Rattle.std.specs.Option.{option_map, option_map_or}
use Rattle.gdi_kinds.specs.declared.named_bytes.NamedBytes.{NamedBytes}
use Rattle.gdi_io.specs.Files.{bytes_of}
use Rattle.command_words.specs.Items.{Text}
use Rattle.command_words.specs.Commands.{command_text}
use Rattle.command_words.specs.declared.command.Command.{Command}
use Rattle.command_words.specs.declared.command.Command.TheVariants.{Run, Check, Report, Drill}
use Rattle.command_words.specs.declared.command.CommandName.{CommandName}
use Rattle.command_words.specs.declared.command.CommandName.TheVariants as named
use Rattle.command_words.specs.declared.source.Source.{Source}
use Rattle.plain_run.specs.Given.{Given}
use Rattle.gdi_run.specs.declared.status.FileKind.{FileKind}
use Rattle.gdi_run.specs.declared.status.FileKind.TheVariants as file

-- the commands that are done so far
abbrev pub IsDone : CommandName → Type 0
IsDone named.Run = Unit {0}
IsDone named.Check = Unit {0}
IsDone named.Drill = Unit {0}
IsDone command = ⊥

-- the first word names a command, and these are the others
abbrev pub Names : List Text → CommandName → List Text → Type 0
Names [] name others = ⊥
Names (word ∷ words) name others = (word ≡ command_text name) × (words ≡ others) × IsDone name

-- the names of the files that a command reads, where it does
pub record FileNames : Type 0 where
  pub vertices : Option Text
  pub edges : Option Text
  pub script : Option Text
  pub output : Option Text

-- of a load, where its files are given, and a script; and of an output that is checked
abbrev pub names_with : Source → Text → Option Text → FileNames
names_with source script output = record {
  vertices = option_map (λ name. name.now) source.vertices;
  edges = option_map (λ name. name.now) source.edges;
  script = Some script;
  output = output;
}

abbrev pub no_names : FileNames
no_names = record { vertices = None; edges = None; script = None; output = None }

abbrev pub names_for : Command → FileNames
names_for (Run source script) = names_with source script.now None
names_for (Check source script output) = names_with source script.now (Some output.now)
names_for (Report source) = no_names
names_for (Drill size seed) = no_names

-- the name of the file of a kind
abbrev pub name_of : FileNames → FileKind → Option Text
name_of names file.Vertices = names.vertices
name_of names file.Edges = names.edges
name_of names file.Script = names.script
name_of names file.Output = names.output

-- what files hold for a command: the texts that are run, and the output that is checked
pub record Held : Type 0 where
  pub texts : Given
  pub output : List ℕ

abbrev pub texts_in : List NamedBytes → FileNames → Given
texts_in files names = record {
  vertices = option_map (bytes_of files) names.vertices;
  edges = option_map (bytes_of files) names.edges;
  script = option_map_or (bytes_of files) names.script [];
}

abbrev pub held_in : List NamedBytes → FileNames → Held
held_in files names = record { texts = texts_in files names; output = option_map_or (bytes_of files) names.output [] }
