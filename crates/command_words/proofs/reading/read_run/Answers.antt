use Rattle.std.proofs.Common.{◌≡◌, ◌≢◌, map, List, [], ◌∷◌, length, refl, ap, subst, sym}
use Rattle.std.specs.List.{AllByRecursion}
use Rattle.command_words.specs.Commands.{load_options}
use Rattle.command_words.specs.Items.{Text, names_of}
use Rattle.command_words.specs.declared.command.CommandName.TheVariants as named
use Rattle.command_words.proofs.Forms.{misnamed, formed, plain, source_refused}
use Rattle.command_words.proofs.Refusals.{load_are}
use Rattle.command_words.proofs.reading.read_run.Goals as goal

abbrev AreFilled : List Text → Type 0
AreFilled = AllByRecursion (λ name. name ≢ [])

pub returns-in_default : goal.returns-in_default
returns-in_default c =
    let m = c.in-Ok.ensures in
    misnamed named.Run load_are (map (λ word. word.now) c.args.words.now) m.0 m.1
    (λ count filled. c.in_default.ensures (names_of m.0) (c.names_in.ensures load_options m.0 m.2) (count, filled))

pub returns-in-Ok-source_in : goal.returns-in-Ok-source_in
returns-in-Ok-source_in c =
    let m = c.in-Ok.ensures in
    let names = c.in-Some.ensures (names_of m.0) (c.names_in.ensures load_options m.0 m.2) in
    let source = c.in-Ok-source_in.ensures m.0 m.2 m.1.once in
    let form = formed named.Run load_are (map (λ word. word.now) c.args.words.now) m.0 m.1 source.0 (ap length names.0) (subst AreFilled (sym names.0) (names.1, tt)) in
    (m.0, form, (source.1, names.0))

pub returns : goal.returns
returns c =
    let m = c.in-Ok.ensures in
    let names = c.in-Some.ensures (names_of m.0) (c.names_in.ensures load_options m.0 m.2) in
    source_refused named.Run load_are refl (λ items h. h) (map (λ word. word.now) c.args.words.now) m.0 m.1 (ap length names.0) (subst AreFilled (sym names.0) (names.1, tt))
    c.in-Err-source_in.kind (c.in-Err-source_in.ensures m.0 m.2 m.1.once)
