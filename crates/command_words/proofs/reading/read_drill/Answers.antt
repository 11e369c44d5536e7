use Rattle.std.proofs.Common.{map, [], ◌∷◌, length, ap, ap₂, subst, sym, ◌∙◌}
use Rattle.command_words.specs.Commands.{AreDrill}
use Rattle.command_words.specs.Items.{names_of}
use Rattle.command_words.specs.declared.command.CommandName.TheVariants as named
use Rattle.command_words.proofs.Forms.{misnamed, formed}
use Rattle.command_words.proofs.Refusals.{none_are}
use Rattle.command_words.proofs.reading.read_drill.Goals as goal

pub returns-in_default : goal.returns-in_default
returns-in_default c =
    let m = c.in-Ok.ensures in
    misnamed named.Drill none_are (map (λ word. word.now) c.args.words.now) m.0 m.1
    (λ count filled. c.in_default.ensures (names_of m.0) (c.names_in.ensures [] m.0 m.2) count)

pub returns-in-Some-drill_of : goal.returns-in-Some-drill_of
returns-in-Some-drill_of c =
    let m = c.in-Ok.ensures in
    let names = c.in-Some.ensures (names_of m.0) (c.names_in.ensures [] m.0 m.2) in
    let form = formed named.Drill none_are (map (λ word. word.now) c.args.words.now) m.0 m.1 (λ option there. absurd cc) (ap length names) tt in
    let texts = names ∙ sym (ap₂ (λ x y. x ∷ y ∷ []) c.as_bytes.ensures.value c.as_bytes-2.ensures.value) in
    (m.0, form, subst (λ given. AreDrill given c.in-Some-drill_of.size c.in-Some-drill_of.seed) (sym texts) c.in-Some-drill_of.ensures)

pub returns : goal.returns
returns c =
    let m = c.in-Ok.ensures in
    let names = c.in-Some.ensures (names_of m.0) (c.names_in.ensures [] m.0 m.2) in
    let form = formed named.Drill none_are (map (λ word. word.now) c.args.words.now) m.0 m.1 (λ option there. absurd cc) (ap length names) tt in
    let texts = names ∙ sym (ap₂ (λ x y. x ∷ y ∷ []) c.as_bytes.ensures.value c.as_bytes-2.ensures.value) in
    (m.0, form, λ size seed drill. c.in-None.ensures size seed (subst (λ given. AreDrill given size seed) texts drill))
