-- A store of a graph stays one.
use Rattle.std.proofs.Common.{◌≡◌, [], refl, sym, subst}
use Rattle.object_words.specs.Contents.{Contents, IsByRisingObject, overlay}
use Rattle.gdi_kinds.specs.declared.call.Call.{Call}
use Rattle.gdi_kinds.specs.declared.reply.Reply.{Reply}
use Rattle.graph_model.specs.Calls.{graph_after_call}
use Rattle.object_store.specs.State.{StoreState}
use Rattle.object_store.specs.Sound.{StaysBegun}
use Rattle.held_objects.specs.Knows.{Knows}
use Rattle.held_objects.proofs.Knows.{knows_after}
use Rattle.graph_law.specs.Calls.{AppliesCall, Stands}

module _ {N : Type 0} where
  pub stands_first : (state : StoreState N) → state.writes ≡ [] → Knows Stands state
  stands_first state nothing = record {
    always = λ store may. subst (λ (writes : Contents). Stands state.shape (overlay store writes)) (sym nothing) (record { graph = may.graph; represents = may.represents });
    ordered = subst IsByRisingObject (sym nothing) refl;
  }

  pub stands_still : {call : Call} {reply : Reply} {old new : StoreState N} → StaysBegun old new → IsByRisingObject new.writes → AppliesCall call old new reply → Knows Stands old → Knows Stands new
  stands_still {call} {reply} {old} stays ordered applies knows = knows_after stays ordered (λ store may agrees.
      let here = knows.always store may in
      record { graph = graph_after_call old.shape here.graph call; represents = (applies.did store here.graph here.represents agrees).represents })
