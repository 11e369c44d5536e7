use Rattle.std.proofs.Common.{sym, subst, ◌∙◌}
use Rattle.gdi_kinds.specs.Names.{IsName}
use Rattle.bulk_load.proofs.HeaderLemmas.{name_ends, cut_at, column_joined, tail_text}
use Rattle.bulk_load.proofs.header_reader.column_of.Goals as goal

pub returns-in_default : goal.returns-in_default
returns-in_default c column is spelled =
    let ends = name_ends c.args.field.now column.name (tail_text column.kind column.many) is spelled in
    let none = sym c.position_of.ensures ∙ c.in_default.is in
    absurd (cc)

pub returns-in_default-of : goal.returns-in_default-of
returns-in_default-of c column is spelled =
    let cut = cut_at c.args.field.now column.name (tail_text column.kind column.many) c.in-Some.end is spelled (sym c.position_of.ensures ∙ c.in-Some.is) in
    c.in_default-of.ensures (subst IsName (sym cut.0) is)

pub returns-in-None : goal.returns-in-None
returns-in-None c column is spelled =
    let cut = cut_at c.args.field.now column.name (tail_text column.kind column.many) c.in-Some.end is spelled (sym c.position_of.ensures ∙ c.in-Some.is) in
    c.in-None.ensures column.kind column.many cut.1

pub returns-in-Some-kind_and_mark_of : goal.returns-in-Some-kind_and_mark_of
returns-in-Some-kind_and_mark_of c =
    let name = c.in-Some-of.ensures in
    let tail = rw (c.in-Some-kind_and_mark_of.kind-is, c.in-Some-kind_and_mark_of.many-is) at c.in-Some-kind_and_mark_of.ensures in
    (subst IsName (sym name.0) name.1, column_joined c.args.field.now c.in-Some.end (record { name = c.in-Some-of.name; kind = c.in-Some-kind_and_mark_of.kind; many = c.in-Some-kind_and_mark_of.many }) (sym c.position_of.ensures ∙ c.in-Some.is) name.0 tail)
