use Rattle.std.proofs.Common.{◌≡◌, ◌∙◌, List, [], ℕ, ap, subst, sym, arith}
use Rattle.std.proofs.lemmas.List.{nil_from_length}
use Rattle.rma_layout.specs.Ranges.{IsInRange}
use Rattle.graph_model.specs.Maps.{has}
use Rattle.label_index.specs.Entries.{Pair}
use Rattle.label_index.proofs.Tagged.{indexes_at_first}
use Rattle.store_tests.proofs.labels.enter_and_exchange.Goals as goal

pub ids-requires-clause-indexes : goal.ids-requires-clause-indexes
ids-requires-clause-indexes g c =
    indexes_at_first (subst IsInRange (c.geometry-geometry.ensures ∙ sym c.in_ok-begin.ensures.keeps.shape) c.keeps_ranges.ensures) c.in_ok-begin.ensures.done.wrote_nothing

pub add-requires-clause-absent : goal.add-requires-clause-absent
add-requires-clause-absent g c =
    let none : c.in_ok-before.before ≡ [] = nil_from_length c.in_ok-before.before (omega arith) in
    c.in_ok-before.ensures.listed.unlisted c.args.one (ap (λ (ids : List ℕ). has ids c.args.one) none)

pub exchange-requires-clause-absent : goal.exchange-requires-clause-absent
exchange-requires-clause-absent g c =
    let none : c.in_ok-before.before ≡ [] = nil_from_length c.in_ok-before.before (omega arith) in
    c.in_ok-entered.ensures.added.others.lacks (c.args.label, c.args.other) (λ same. c.requires.apart (ap (λ (pair : Pair). pair.1) (sym same)))
    (c.in_ok-before.ensures.listed.unlisted c.args.other (ap (λ (ids : List ℕ). has ids c.args.other) none))
