use Rattle.std.proofs.Common.{subst}
use Rattle.rma_layout.specs.Placement.{Place}
use Rattle.holder_codec.specs.Meta.{IsMetaHolder, meta_words}
use Rattle.held_objects.specs.Held.{FindsHolder}
use Rattle.held_objects.proofs.Changes.{read_part}
use Rattle.meta_tables.proofs.Naming.{meta_same}
use Rattle.meta_tables.proofs.names.read_names.Goals as goal

pub returns-clause-few : goal.returns-clause-few
returns-clause-few g c =
    let found = subst (λ (place : Place). FindsHolder IsMetaHolder meta_words place (g.S.Store.state c.args.store.now) (g.S.Store.state c.look.new.store) c.in_ok-meta.meta) c.new.ensures c.in_ok-meta.ensures.found in
    (read_part (λ meta. meta) (λ _. Unit {0}) meta_same found c.requires.names).4
