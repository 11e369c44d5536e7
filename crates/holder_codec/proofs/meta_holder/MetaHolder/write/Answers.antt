use Rattle.std.proofs.Common.{◌++◌, ◌∷◌, [], sym, ap, ◌∙◌}
use Rattle.holder_codec.proofs.Telling.{AreNames-each}
use Rattle.holder_codec.proofs.MetaLaws.{each_fits, written}
use Rattle.holder_codec.proofs.meta_holder.MetaHolder.write.Goals as goal

pub write_all-requires : goal.write_all-requires
write_all-requires c = rw c.as_slice.ensures (AreNames-each c.args.self.now.labels c.requires.labels)

pub write_all-requires-2 : goal.write_all-requires-2
write_all-requires-2 c = rw c.as_slice-2.ensures (each_fits c.args.self.now.types c.requires.types)

pub returns : goal.returns
returns c =
    written c.args.self.now _ _ _ _ _ _ (sym c.is_empty.ensures ∙ c.if-is_empty.false) (c.in_ok-push.ensures.ok ∙ (λ i. c.new-words.ensures i ++ c.len.ensures i ∷ []))
    (c.in_ok-push-2.ensures.ok ∙ ap (λ n. c.push.new.self ++ n ∷ []) c.len-2.ensures) c.in_ok-write_all.ensures c.in_ok-write_all-2.ensures c.as_slice.ensures c.as_slice-2.ensures
