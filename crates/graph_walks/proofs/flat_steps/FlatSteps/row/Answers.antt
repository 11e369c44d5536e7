use Rattle.std.proofs.Common.{ℕ, ◌+◌, ◌<◌, List, length, get_or, sym, subst, ap, ◌∙◌, arith}
use Rattle.std.specs.List.{slice_range}
use Rattle.std.proofs.lemmas.List.{get_or_read}
use Rattle.graph_model.specs.Maps.{has}
use Rattle.graph_walks.specs.Steps.{Hops, leads}
use Rattle.graph_walks.proofs.Rows.{row_is, no_row, rows-within}
use Rattle.graph_walks.proofs.flat_steps.FlatSteps.row.Goals as goal

pub returns-then-place-len-clause-hops : goal.returns-then-place-len-clause-hops
returns-then-place-len-clause-hops c = λ t.
    no_row (length c.self.inside.places) c.self.inside.starts.items c.self.inside.ends.items c.self.invariant c.args.place t (omega (arith, c.if-place-len.true, c.len.ensures.value)) ∙ ap (λ (h : Hops). leads h.hops c.args.place t) c.self.view_is

pub offset_bounds-as_slice-index : goal.offset_bounds-as_slice-index
offset_bounds-as_slice-index c =
    let below : c.args.place < length c.self.inside.places = omega (arith, c.if-place-len.false, c.len.ensures.value) in
    let first = get_or_read c.self.inside.starts.items c.args.place c.index.result.now (omega (arith, below, c.self.invariant.full)) c.index.ensures 0 in
    omega (arith, first, c.self.invariant.rise c.args.place below, c.self.invariant.within c.args.place below, ap length c.as_slice.ensures.value, c.as_slice.type_inv)

pub slice_bounds-result-count : goal.slice_bounds-result-count
slice_bounds-result-count c =
    let below : c.args.place < length c.self.inside.places = omega (arith, c.if-place-len.false, c.len.ensures.value) in
    let first = get_or_read c.self.inside.starts.items c.args.place c.index.result.now (omega (arith, below, c.self.invariant.full)) c.index.ensures 0 in
    let next = get_or_read c.self.inside.starts.items (c.args.place + 1) c.index-2.result.now (omega (arith, below, c.self.invariant.full)) c.index-2.ensures 0 in
    omega (arith, first, next, c.self.invariant.rise c.args.place below)

pub returns-clause-hops : goal.returns-clause-hops
returns-clause-hops c = λ t.
    let below : c.args.place < length c.self.inside.places = omega (arith, c.if-place-len.false, c.len.ensures.value) in
    let first = get_or_read c.self.inside.starts.items c.args.place c.index.result.now (omega (arith, below, c.self.invariant.full)) c.index.ensures 0 in
    let next = get_or_read c.self.inside.starts.items (c.args.place + 1) c.index-2.result.now (omega (arith, below, c.self.invariant.full)) c.index-2.ensures 0 in
    ap (λ (es : List ℕ). has (slice_range es c.index.result.now c.index-2.result.now) t) c.as_slice.ensures.value
    ∙ ap (λ (a : ℕ). has (slice_range c.self.inside.ends.items a c.index-2.result.now) t) first
    ∙ ap (λ (b : ℕ). has (slice_range c.self.inside.ends.items (get_or c.self.inside.starts.items c.args.place 0) b) t) next
    ∙ row_is (length c.self.inside.places) c.self.inside.starts.items c.self.inside.ends.items c.self.invariant c.args.place t below
    ∙ ap (λ (h : Hops). leads h.hops c.args.place t) c.self.view_is

pub returns-clause-within : goal.returns-clause-within
returns-clause-within c = λ t there.
    let below : c.args.place < length c.self.inside.places = omega (arith, c.if-place-len.false, c.len.ensures.value) in
    let first = get_or_read c.self.inside.starts.items c.args.place c.index.result.now (omega (arith, below, c.self.invariant.full)) c.index.ensures 0 in
    let next = get_or_read c.self.inside.starts.items (c.args.place + 1) c.index-2.result.now (omega (arith, below, c.self.invariant.full)) c.index-2.ensures 0 in
    let led =
    sym (row_is (length c.self.inside.places) c.self.inside.starts.items c.self.inside.ends.items c.self.invariant c.args.place t below)
    ∙ sym (ap (λ (b : ℕ). has (slice_range c.self.inside.ends.items (get_or c.self.inside.starts.items c.args.place 0) b) t) next)
    ∙ sym (ap (λ (a : ℕ). has (slice_range c.self.inside.ends.items a c.index-2.result.now) t) first)
    ∙ sym (ap (λ (es : List ℕ). has (slice_range es c.index.result.now c.index-2.result.now) t) c.as_slice.ensures.value)
    ∙ there in
    subst (λ (h : Hops). t < length h.ids) c.self.view_is (rows-within (length c.self.inside.places) c.self.inside.starts.items c.self.inside.ends.items c.self.invariant c.args.place t led).1
