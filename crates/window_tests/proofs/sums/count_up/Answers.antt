use Rattle.std.proofs.Common.{◌≡◌, [], ◌∷◌, ap, ◌∙◌}
use Rattle.window_rule.specs.View.{View, Marked}
use Rattle.window_rule.specs.Known.{without_known}
use Rattle.window_rule.specs.Lengths.{measured}
use Rattle.window_rule.specs.Steps.{locked, tried}
use Rattle.window_tests.proofs.sums.count_up.Goals as goal

pub write_marked-requires-clause-begun : goal.write_marked-requires-clause-begun
write_marked-requires-clause-begun c =
    let o = c.args.o in
    let before = c.args.rank.now.view in
    let known = c.first_word-sum.ensures.view.0 in
    let history = c.first_word-sum.ensures.view.1 in
    let base : View (Unit {0}) = record before {
      known = (o, known) ∷ without_known before.known o;
      seen = history;
      heard = [];
    } in (
      base,
      record {
        locks = c.requires.rest.locks;
        gate = c.requires.rest.gate;
        dirty = c.requires.rest.dirty;
        opened = c.requires.rest.opened;
      },
      c.first_word-sum.ensures.view.2
          ∙ ap (measured o known history)
          (c.in-Ok-mark_try.ensures.view ∙ ap (λ v. tried (locked o Marked v)) c.in-Ok.ensures.view),
    )
