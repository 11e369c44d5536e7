use Rattle.std.proofs.Common.{◌++◌, ap, sym, ◌∙◌}
use Rattle.std.specs.BTreeMap.{insert_entry}
use Rattle.std.proofs.lemmas.List.{append-nil}
use Rattle.edge_index.proofs.OrderedEntries.{copied_more}
use Rattle.edge_index.proofs.map_copy.copy_of_map.Goals as goal

pub loop-key-preserved-in_ok-insert : goal.loop-key-preserved-in_ok-insert
loop-key-preserved-in_ok-insert g c =
    let put = c.in_ok-insert.ensures.entries ∙ ap (λ value. insert_entry g.K.Ord.cmp c.loop-key.copied.entries c.in-Some.key.now value) c.in_ok-copy.ensures in
    copied_more g.met.K.Ord.total c.args.map.now.entries c.loop-key.copied.entries c.loop-key.key-iterator c.next.new.self c.insert.new.self.entries c.in-Some.key.now c.in-Some.value.now
    c.iter-key-items.ensures.ordered c.loop-key.invariant c.in-Some.ensures.steps put

pub loop-key-preserved : goal.loop-key-preserved
loop-key-preserved g c =
    let put = c.in_ok-insert.ensures.entries ∙ ap (λ value. insert_entry g.K.Ord.cmp c.loop-key.copied.entries c.in-Some.key.now value) c.in_ok-copy.ensures in
    copied_more g.met.K.Ord.total c.args.map.now.entries c.loop-key.copied.entries c.loop-key.key-iterator c.next.new.self c.insert.new.self.entries c.in-Some.key.now c.in-Some.value.now
    c.iter-key-items.ensures.ordered c.loop-key.invariant c.in-Some.ensures.steps put

pub returns : goal.returns
returns g c = sym (append-nil c.loop-key.copied.entries) ∙ ap (λ rest. c.loop-key.copied.entries ++ rest) (sym c.in-None.ensures.steps.0) ∙ c.loop-key.invariant
