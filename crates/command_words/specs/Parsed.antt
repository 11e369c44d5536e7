-- The command that the parser is given, as it reads it.
use Rattle.std.specs.Prelude.{List, [], ◌∷◌, ◌++◌, map, Some, true, codes}
use Rattle.clap.specs.Walk.{Rule}
use Rattle.clap.specs.Simple.{App, new_rule, new_shape}
use Rattle.clap.specs.declared.builder.action.ArgAction.TheVariants.{Append}
use Rattle.clap.specs.declared.error.kind.ErrorKind.{ErrorKind}
use Rattle.clap.specs.declared.error.kind.ErrorKind.TheVariants as kind
use Rattle.command_words.specs.Items.{Text}
use Rattle.command_words.specs.Matched.{NobodyUnderstands}
use Rattle.command_words.specs.declared.usage.UsageKind.TheVariants as usage
use Rattle.command_words.specs.declared.usage.WordsRefused.{WordsRefused}
use Rattle.command_words.specs.declared.usage.WordsRefused.TheVariants as refused

abbrev pub new_option : Text → Rule
new_option name = record (new_rule name) { long = Some name }

abbrev pub new_names : Rule
new_names = record (new_rule (codes "names")) { action = Some Append }

abbrev pub bare_app : App
bare_app = record { top = record (new_shape (codes "gdi")) { no_binary_name = true; disable_help_flag = true }; subs = [] }

abbrev pub new_app : List Text → App
new_app options = record {
  top = record (new_shape (codes "gdi")) {
    rules = map new_option options ++ new_names ∷ [];
    no_binary_name = true;
    disable_help_flag = true;
  };
  subs = [];
}

-- what a parse's error says
abbrev pub refusal_for : ErrorKind → WordsRefused
refusal_for kind.OutOfMemory = refused.NoMemory
refusal_for other = refused.Usage usage.Words

-- nobody understands the words, or memory ran out
abbrev pub OrMemory : List Text → List Text → WordsRefused → Type 0
OrMemory options words (refused.Usage usage.Words) = NobodyUnderstands options words
OrMemory options words (refused.Usage other) = ⊥
OrMemory options words refused.NoMemory = Unit {0}
