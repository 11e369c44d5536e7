-- A spare is taken for use, or a block of the free list.
use Rattle.std.proofs.Common.{◌≡◌, ◌≢◌, ℕ, ◌<◌, List, ◌∷◌, refl, sym, ap, ◌∙◌, subst, inl, inr, arith, Some, Result, Ok, Err, MatchResult}
use Rattle.rma_layout.specs.Shape.{Shape}
use Rattle.rma_layout.specs.Placement.{Place, same_place}
use Rattle.object_words.specs.Blocks.{on_rank, one_if}
use Rattle.window_rule.specs.View.{View, OwnBlock}
use Rattle.window_rule.specs.Partition.{places_of, times}
use Rattle.window_rule.specs.Pool.{MayBeFree, Nexts, note_of, own_next_of}
use Rattle.window_rule.specs.Spares.{SpareEnds, HasSpares, IsNoSpare, first_spare_of}
use Rattle.window_rule.proofs.LockLemmas.{same_place-refl}
use Rattle.window_rule.proofs.KeptSpares.{FirstSpare, first_spare_is, popped_is_no_spare}
use Rattle.fabric.specs.Window.{RankModel}
use Rattle.block_pool.specs.Moves.{OnlyTaken}
use Rattle.block_pool.specs.Takes.{Refusal, Takes, TakesSpare, Tries}
use Rattle.block_pool.specs.declared.refused.PoolRefused.{PoolRefused}
use Rattle.block_pool.proofs.TriesKept.{noted_unmoved}

-- the first spare of a home rank, where number and block were asked for
pub spare_at : (shape other : Shape) (own : List OwnBlock) (ends : SpareEnds) (home first : ℕ)
    (block : Place) → shape ≡ other → home < 64 → first_spare_of ends home ≢ 0
    → HasSpares shape own ends → first ≡ first_spare_of ends home → block ≡ on_rank home first
    → FirstSpare other own block
spare_at shape other own ends home first block same below some has is at =
    subst (λ s. FirstSpare s own block) same
    (subst (FirstSpare shape own) (sym (at ∙ ap (on_rank home) is))
    (first_spare_is shape own ends home below some has))

pub spare_may : (shape : Shape) (own : List OwnBlock) (home : ℕ) (block : Place)
    → FirstSpare shape own block → block.rank ≡ home → MayBeFree shape home block
spare_may shape own home block h on = subst (λ r. MayBeFree shape r block) on h.may

module _ {N : Type 0} (shape : Shape) (block : Place) (before : View N) (found : ℕ)
    (after : View N) (told : Nexts shape block before found after)
    (h : FirstSpare shape before.private block) where
  same_own : after.private ≡ before.private
  same_own = ap (λ (v : View N). v.private) told.view
      ∙ ap (λ (v : View N). v.private) (noted_unmoved (note_of before.notes block.rank) block found
      before)

  pub spare_linked : own_next_of after.private block ≡ Some found
  spare_linked = ap (λ own. own_next_of own block) same_own
      ∙ (h.link ∙ ap Some (sym (told.own h.next h.link)))

  pub spare_own : 0 < times block (places_of after.private)
  spare_own = subst (λ own. 0 < times block (places_of own)) (sym same_own) h.is_own

module _ {N : Type 0} (home : ℕ) (before after : RankModel N) (below : home < 64)
    (none : first_spare_of before.spares home ≡ 0) (spares : after.spares ≡ before.spares)
    (has : HasSpares before.window.shape before.view.private before.spares) where
  pub takes_free : (answer : Result Place PoolRefused)
      → Tries before.window.shape home 64 before.view after.view answer
      → MatchResult answer (λ block. Takes home block before after)
      (λ refused. Refusal home before after refused)
  takes_free (Ok block) h =
      let new : OwnBlock = record { block = block; next = Some h.0.next } in
      let own : after.view.private ≡ new ∷ before.view.private = ap (λ (v : View N). v.private)
      h.0.view in
      let here : one_if (same_place block block) ≡ 1 = ap one_if (same_place-refl block) in
      record {
        free = h.1;
        own = subst (λ own. 0 < times block (places_of own)) (sym own) (omega arith);
        no_spare = subst (λ own. IsNoSpare before.window.shape own after.spares block) (sym own)
            (subst (λ e. IsNoSpare before.window.shape (new ∷ before.view.private) e block)
            (sym spares)
            (popped_is_no_spare before.window.shape before.view.private before.spares new
            (omega (arith, h.1.on)) h.0.nobodys has));
        from = inl (record { no_spare = none; spares = spares; pops = h.0 });
      }
  takes_free (Err refused) h =
      record { no_spare = none; spares = spares; unmoved = h.0; why = h.1 }

pub takes_spare : {N : Type 0} (shape : Shape) (home : ℕ) (block : Place)
    (before after : RankModel N) → before.window.shape ≡ shape → MayBeFree shape home block
    → 0 < times block (places_of after.view.private)
    → IsNoSpare shape after.view.private after.spares block → TakesSpare home block before after
    → Takes home block before after
takes_spare shape home block before after same may own used taken = record {
  free = subst (λ s. MayBeFree s home block) (sym same) may;
  own = own;
  no_spare = subst (λ s. IsNoSpare s after.view.private after.spares block) (sym same) used;
  from = inr taken;
}

pub only_taken : {N : Type 0} (home : ℕ) (before after : RankModel N)
    (answer : Result Place PoolRefused)
    → MatchResult answer (λ block. Takes home block before after)
    (λ refused. Refusal home before after refused) → OnlyTaken before.view after.view
only_taken home before after (Ok block) h = elim h.from [
  | inl free ↦ subst (OnlyTaken before.view) (sym free.pops.view) refl
  | inr spare ↦ subst (OnlyTaken before.view) (sym spare.unmoved) refl
]
only_taken home before after (Err refused) h =
    subst (OnlyTaken before.view) (sym h.unmoved) refl
