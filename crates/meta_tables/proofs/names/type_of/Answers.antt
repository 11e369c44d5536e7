use Rattle.std.proofs.Common.{◌≡◌, Some, sym, ap, ◌∙◌, arith}
use Rattle.std.specs.Prelude.{Bool}
use Rattle.std.specs.List.{position}
use Rattle.holder_codec.specs.declared.type_line.TypeLine.{TypeLine}
use Rattle.std.specs.Str.{bytes_eq}
use Rattle.std.proofs.lemmas.Slice.Eq.{bytes_eq-Decides}
use Rattle.meta_tables.specs.Names.{type_number}
use Rattle.meta_tables.proofs.Naming.{place_is, found_there, few_types}
use Rattle.meta_tables.proofs.names.type_of.Goals as goal

pub overflow_cast-result : goal.overflow_cast-result
overflow_cast-result c =
    let is_it : TypeLine → Bool = λ line. bytes_eq c.args.name.now line.name in
    let there = sym (place_is is_it c.args.meta.now.types) ∙ (ap (position is_it) (sym c.as_slice.ensures) ∙ (sym c.type_position.ensures ∙ c.in-Some.is)) in
    omega (arith, (found_there is_it c.args.meta.now.types c.in-Some.place there).0, few_types c.args.meta.now c.requires)

pub at-line-requires : goal.at-line-requires
at-line-requires c =
    let is_it : TypeLine → Bool = λ line. bytes_eq c.args.name.now line.name in
    let there = sym (place_is is_it c.args.meta.now.types) ∙ (ap (position is_it) (sym c.as_slice.ensures) ∙ (sym c.type_position.ensures ∙ c.in-Some.is)) in
    (found_there is_it c.args.meta.now.types c.in-Some.place there).0

pub returns-in-Some : goal.returns-in-Some
returns-in-Some c =
    let is_it : TypeLine → Bool = λ line. bytes_eq c.args.name.now line.name in
    let there = sym (place_is is_it c.args.meta.now.types) ∙ (ap (position is_it) (sym c.as_slice.ensures) ∙ (sym c.type_position.ensures ∙ c.in-Some.is)) in
    let line = c.at-line.result.now in
    let named = (bytes_eq-Decides c.args.name.now line.name).0 ((found_there is_it c.args.meta.now.types c.in-Some.place there).1 line c.at-line.ensures) in
    (there, c.at-line.ensures ∙ (λ i. Some (record { name = sym named i; kind = line.kind; many = line.many })))

pub returns-in-None : goal.returns-in-None
returns-in-None c =
    let is_it : TypeLine → Bool = λ line. bytes_eq c.args.name.now line.name in
    sym (place_is is_it c.args.meta.now.types) ∙ (ap (position is_it) (sym c.as_slice.ensures) ∙ (sym c.type_position.ensures ∙ c.in-None.is))
