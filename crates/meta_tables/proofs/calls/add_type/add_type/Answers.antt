use Rattle.std.proofs.Common.{◌≡◌, ◌∙◌, sym, ap}
use Rattle.object_store.proofs.Works.{went-works}
use Rattle.held_objects.proofs.Changes.{changes_ok, map_made-same, if_made-any}
use Rattle.meta_tables.specs.Names.{new_type}
use Rattle.meta_tables.proofs.Naming.{meta_same}
use Rattle.meta_tables.proofs.calls.add_type.add_type.Goals as goal

pub returns-clause-works : goal.returns-clause-works
returns-clause-works g c = went-works c.write_names.result c.in_ok-meta.ensures.works.went c.write_names.ensures.works

pub returns-clause-added : goal.returns-clause-added
returns-clause-added g c =
    let change = new_type (record { name = c.args.name.now; kind = c.args.kind; many = c.args.many }) in
    changes_ok (λ meta. meta) (λ _. Unit {0}) meta_same c.in_ok-meta.ensures.found change (λ one. one ≡ change c.in_ok-meta.meta) c.write_names.result c.with_type-made.result (g.S.Store.state c.write_names.new.store)
    (λ one is meta _ same. (is ∙ ap change same ∙ sym (map_made-same (change meta)), if_made-any (change meta))) c.requires.names c.with_type-made.ensures.made c.with_type-made.ensures.is c.write_names.ensures.settled
