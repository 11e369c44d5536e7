use Rattle.std.proofs.Common.{◌<◌, length, Some, None, if◌then◌else◌, sym, ap, ◌∙◌, arith}
use Rattle.std.specs.Prelude.{◌==◌}
use Rattle.std.specs.Option.{option_or}
use Rattle.std.proofs.lemmas.List.{length-map, get_or_read}
use Rattle.graph_walks.specs.Marks.{mark_of, mark_at}
use Rattle.graph_walks.proofs.Marking.{marked}
use Rattle.graph_walks.proofs.marks.Marks.mark.Goals as goal

pub returns-clause-marks : goal.returns-clause-marks
returns-clause-marks c = λ j.
    let long = ap length c.self.view_is in
    let inside : c.args.place < length c.self.inside.marks.items = omega (arith, c.requires.place, long, length-map c.self.inside.marks.items mark_of) in
    marked c.self.inside.marks.items c.args.place c.args.mark inside c.requires.mark (sym (get_or_read c.self.inside.marks.items c.args.place c.index.result.now inside c.index.ensures 0) ∙ c.if-index.false) j
    ∙ ap (λ ms. option_or (mark_at ms j) (if c.args.place == j then Some c.args.mark else None)) c.self.view_is
