use Rattle.std.proofs.Common.{ℕ, ◌<◌, List, [], ◌∷◌, ◌++◌, length, map, sym, ap, subst, ◌∙◌}
use Rattle.std.specs.List.{AllByRecursion}
use Rattle.std.specs.Option.{unwrap_or}
use Rattle.graph_model.specs.Maps.{item_at}
use Rattle.map_graph.proofs.ItemByItem.{push_more, item-or}
use Rattle.map_graph.proofs.shown.names_of.Goals as goal

pub at-requires : goal.at-requires
at-requires c = (subst (AllByRecursion (λ n. n < length c.args.names.now)) c.in-Some.ensures.steps c.loop-label.invariant.known).0

pub loop-label-preserved : goal.loop-label-preserved
loop-label-preserved c =
    let name : ℕ → List ℕ = λ n. unwrap_or (item_at c.args.names.now n) [] in
    record {
      so_far =
          push_more c.loop-label.shown c.push.new.self (name c.in-Some.label.now ∷ []) (map name c.next.new.self) (map name c.args.labels.now.keys)
          (c.in_ok-push.ensures.ok ∙ ap (λ x. c.loop-label.shown ++ x ∷ []) (sym (item-or c.args.names.now c.in-Some.label.now c.at.result.now [] c.at.ensures)))
          (ap (λ ks. c.loop-label.shown ++ map name ks) (sym c.in-Some.ensures.steps) ∙ c.loop-label.invariant.so_far);
      known = (subst (AllByRecursion (λ n. n < length c.args.names.now)) c.in-Some.ensures.steps c.loop-label.invariant.known).1;
    }
