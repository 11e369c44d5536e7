use Rattle.std.proofs.Common.{◌≡◌, ◌&&◌, true, cond, Some, ap, sym, ◌∙◌}
use Rattle.std.specs.Option.{unwrap_or}
use Rattle.map_graph.specs.declared.object_name.ObjectName.{ObjectName}
use Rattle.plain_graph.specs.Touching.{Marks, mark_of}
use Rattle.plain_graph.proofs.Marking.{got, ordered, turned, told_one}
use Rattle.plain_graph.proofs.trial.touched.Touched.note.Goals as goal
use Rattle.plain_graph.proofs.trial.touched.Touched.note.Goals.{then-always, else-always}

pub returns : goal.returns
returns c = λ shape.
    let marks : Marks = c.args.self.now in
    let seen : (name : ObjectName) → mark_of c.self.inside.objects.entries name ≡ mark_of marks name = λ name. ap (λ (ms : Marks). mark_of ms name) c.self.view_is in
    let was : c.unwrap_or-always.result ≡ unwrap_or (mark_of marks c.args.object) true =
    c.unwrap_or-always.ensures ∙ ap (λ o. unwrap_or o true) (c.copied.ensures ∙ c.get.ensures.value ∙ got c.self.inside.objects c.args.object ∙ seen c.args.object) in
    let now : c.if-always.insert ≡ (unwrap_or (mark_of marks c.args.object) true && c.args.had) = elim c.if-always.branch [
      | then-always w ↦ w.insert-is ∙ ap (λ b. b && c.args.had) (sym w.if-always.true ∙ was)
      | else-always w ↦ w.insert-is ∙ w.if-always.false ∙ ap (λ b. b && c.args.had) (sym w.if-always.false ∙ was)
    ] in
    told_one shape marks c.insert.new.self.entries c.args.object c.args.had c.if-always.insert now (λ name.
    sym (got c.insert.new.self name) ∙ c.in_ok-insert.ensures.updates.0 name
    ∙ (λ i. cond ((ordered c.args.object name ∙ turned name c.args.object) i) (Some c.if-always.insert) ((got c.self.inside.objects name ∙ seen name) i)))
