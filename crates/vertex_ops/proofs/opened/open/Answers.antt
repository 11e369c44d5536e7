use Rattle.held_objects.proofs.Changes.{may_write, spelled_part}
use Rattle.vertex_ops.proofs.LabelSets.{some_words}
use Rattle.vertex_ops.proofs.opened.open.Goals as goal

pub look-requires-clause-spelled : goal.look-requires-clause-spelled
look-requires-clause-spelled g c = spelled_part c.requires.vertex

pub returns-clause-may : goal.returns-clause-may
returns-clause-may g c = may_write (some_words c.in_ok-held.held) c.in_ok-held.ensures.found
