use Rattle.std.proofs.Common.{◌≡◌, ◌≢◌, map, List, [], ◌∷◌, length, refl, ap, subst, sym, ◌∙◌}
use Rattle.std.specs.List.{AllByRecursion}
use Rattle.std.proofs.lemmas.Bool.{false≢true}
use Rattle.command_words.specs.Commands.{load_options}
use Rattle.command_words.specs.Items.{Text, names_of}
use Rattle.command_words.specs.declared.command.CommandName.TheVariants as named
use Rattle.command_words.proofs.Forms.{misnamed, formed, source_refused, nothing_there}
use Rattle.command_words.proofs.Refusals.{load_are}
use Rattle.command_words.proofs.reading.read_report.Goals as goal

abbrev AreFilled : List Text → Type 0
AreFilled = AllByRecursion (λ name. name ≢ [])

pub returns-then-not-no_names : goal.returns-then-not-no_names
returns-then-not-no_names c =
    let m = c.in-Ok.ensures in
    let none = c.no_names.ensures (names_of m.0) (c.names_in.ensures load_options m.0 m.2) in
    misnamed named.Report load_are (map (λ word. word.now) c.args.words.now) m.0 m.1
    (λ count filled. false≢true (sym c.if-not-no_names.true ∙ none.1 (nothing_there (names_of m.0) count)))

pub returns-in-Ok-source_in : goal.returns-in-Ok-source_in
returns-in-Ok-source_in c =
    let m = c.in-Ok.ensures in
    let none = (c.no_names.ensures (names_of m.0) (c.names_in.ensures load_options m.0 m.2)).0 c.if-not-no_names.false in
    let source = c.in-Ok-source_in.ensures m.0 m.2 m.1.once in
    let form = formed named.Report load_are (map (λ word. word.now) c.args.words.now) m.0 m.1 source.0 (ap length none) (subst AreFilled (sym none) tt) in
    (m.0, form, source.1)

pub returns : goal.returns
returns c =
    let m = c.in-Ok.ensures in
    let none = (c.no_names.ensures (names_of m.0) (c.names_in.ensures load_options m.0 m.2)).0 c.if-not-no_names.false in
    source_refused named.Report load_are refl (λ items h. h) (map (λ word. word.now) c.args.words.now) m.0 m.1 (ap length none) (subst AreFilled (sym none) tt)
    c.in-Err-source_in.kind (c.in-Err-source_in.ensures m.0 m.2 m.1.once)
