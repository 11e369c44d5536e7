use Rattle.std.proofs.Common.{◌≡◌, suc, ◌+◌, ◌++◌, ◌∷◌, map, drop, drop-cons, sym, ap, subst, ◌∙◌, arith}
use Rattle.std.specs.List.{AllByRecursion}
use Rattle.std.specs.Option.{option_to_list}
use Rattle.std.proofs.lemmas.List.{drop_all}
use Rattle.gdi_kinds.specs.declared.call.Call.{Call}
use Rattle.rma_layout.specs.Shape.{Shape}
use Rattle.graph_model.specs.Graph.{Graph}
use Rattle.graph_model.specs.Calls.{graph_after_call}
use Rattle.graph_model.specs.Capacity.{make_of}
use Rattle.graph_model.proofs.Entries.{All-map}
use Rattle.plain_graph.specs.declared.growth.Growth.{Growth}
use Rattle.plain_graph.specs.Seen.{IsNamedThere, IsSeen, AreSeen, with_before}
use Rattle.plain_graph.proofs.Trying.{AreAlong, one_more, all_told}
use Rattle.plain_graph.proofs.trial.try_calls.Goals as goal

pub loop-call-preserved : goal.loop-call-preserved
loop-call-preserved c =
    let shape : Shape = c.args.map.now.shape in
    let calls = c.args.calls.now in
    let i = c.loop-call.call-index in
    let call : Call = c.call-item.result in
    let now = c.loop-call.map.graph in
    let next : suc i ≡ i + 1 = omega arith in
    let all : drop i calls ≡ call ∷ drop (i + 1) calls = drop-cons calls i call c.loop-call-test.true ∙ ap (λ first. first ∷ drop (suc i) calls) (sym c.call-item.is) ∙ ap (λ n. call ∷ drop n calls) next in
    let so_far : AreAlong shape c.args.map.now.graph now calls (drop i calls) c.loop-call.makes.items c.loop-call.journal =
    record { graph = c.loop-call.invariant.graph; makes = c.loop-call.invariant.makes; noted = c.loop-call.invariant.noted; sound = c.loop-call.invariant.sound } in
    let more = one_more shape c.args.map.now.graph now c.try_call.new.map.graph calls (drop i calls) (drop (i + 1) calls) call c.loop-call.makes.items c.try_call.new.makes.items c.loop-call.journal c.try_call.new.journal
    c.loop-call.invariant.well_formed so_far all (c.in_ok-try_call.ensures.graph ∙ ap (λ (s : Shape). graph_after_call s now call) c.loop-call.invariant.shape)
    (c.in_ok-try_call.ensures.makes ∙ ap (λ (s : Shape). c.loop-call.makes.items ++ option_to_list (make_of s now call)) c.loop-call.invariant.shape) c.in_ok-try_call.ensures.noted in
    record {
      shape = c.try_call.ensures.shape ∙ c.loop-call.invariant.shape;
      well_formed = c.in_ok-try_call.ensures.well_formed;
      graph = more.graph;
      makes = more.makes;
      noted = more.noted;
      sound = more.sound;
      leads = c.in_ok-try_call.ensures.leads c.args.map.now.graph c.loop-call.invariant.leads;
    }

pub grown-requires-clause-there : goal.grown-requires-clause-there
grown-requires-clause-there c =
    let shape : Shape = c.loop-call.map.shape in
    subst (λ (s : Shape). AllByRecursion (λ growth. IsNamedThere s growth.object) c.as_slice.result.now) (sym c.in_ok-roll_back.ensures.shape)
    (subst (AllByRecursion (λ (growth : Growth). IsNamedThere shape growth.object)) (sym c.as_slice.ensures.value)
    (All-map (IsSeen shape c.loop-call.map.graph c.loop-call.journal) (λ growth. IsNamedThere shape growth.object) (λ _ is. is.named) c.in_ok-seen.seen.items c.in_ok-seen.ensures.each))

pub returns-clause-tells : goal.returns-clause-tells
returns-clause-tells c =
    let shape : Shape = c.args.map.now.shape in
    let g = c.args.map.now.graph in
    let calls = c.args.calls.now in
    let left = drop c.loop-call.call-index calls in
    let now = c.loop-call.map.graph in
    let along : AreAlong shape g now calls left c.loop-call.makes.items c.loop-call.journal =
    record { graph = c.loop-call.invariant.graph; makes = c.loop-call.invariant.makes; noted = c.loop-call.invariant.noted; sound = c.loop-call.invariant.sound } in
    let back : c.roll_back.new.self.graph ≡ g = c.in_ok-roll_back.ensures.graph ∙ c.loop-call.invariant.leads.is in
    let still : c.roll_back.new.self.shape ≡ shape = c.in_ok-roll_back.ensures.shape ∙ c.loop-call.invariant.shape in
    let grown : c.in_ok-touched.touched.items ≡ map (with_before shape g) c.in_ok-seen.seen.items =
    c.in_ok-touched.ensures ∙ ap (λ (s : Shape). map (with_before s c.roll_back.new.self.graph) c.as_slice.result.now) still ∙ ap (λ (h : Graph). map (with_before shape h) c.as_slice.result.now) back ∙ ap (map (with_before shape g)) c.as_slice.ensures.value in
    all_told shape g now calls left c.loop-call.journal _ c.in_ok-seen.seen.items c.loop-call.invariant.well_formed along (drop_all c.loop-call.call-index calls c.loop-call-test.false)
    (subst (λ (s : Shape). AreSeen s now c.loop-call.journal c.in_ok-seen.seen.items) c.loop-call.invariant.shape c.in_ok-seen.ensures) grown
