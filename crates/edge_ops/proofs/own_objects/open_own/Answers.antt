use Rattle.std.proofs.Common.{refl, subst, sym}
use Rattle.object_store.specs.Works.{Looks}
use Rattle.object_store.proofs.Works.{same_went}
use Rattle.object_store.proofs.Working.{stays-same}
use Rattle.holder_codec.specs.declared.edge_form.EdgeForm.{EdgeForm}
use Rattle.edge_ops.specs.Opening.{OwnIsBlock}
use Rattle.edge_ops.proofs.EdgesFound.{spelled_by_form}
use Rattle.edge_ops.proofs.OwnsCleared.{only_light}
use Rattle.edge_ops.proofs.own_objects.open_own.Goals as goal

pub look-requires-clause-object : goal.look-requires-clause-object
look-requires-clause-object g c = subst (λ (form : EdgeForm). OwnIsBlock form (g.S.Store.state c.args.store.now).shape) c.in-Heavy.is c.requires.own.block

pub look-requires-clause-spelled : goal.look-requires-clause-spelled
look-requires-clause-spelled g c = spelled_by_form c.in-Heavy.is c.requires.own.spelled

pub returns-in_default : goal.returns-in_default
returns-in_default g c =
    let light = only_light c.args.form c.in_default.not-Heavy in
    record {
      works = record { went = same_went c.stays_sound.ensures.same c.stays_sound.ensures.sound c.stays_sound.ensures.explained_still; fell = tt };
      looks = subst (Looks (g.S.Store.state c.args.store.now)) (sym c.stays_sound.ensures.same) (record { stays = stays-same; writes = refl });
      may = light (g.S.Store.state c.stays_sound.new.self);
    }
