-- What detaching leaves can be attached again: the steps' contracts fit each other.
use Rattle.std.proofs.Common.{cond, length, refl, sym, ap, subst, arith, Some}
use Rattle.rma_layout.specs.Shape.{Shape}
use Rattle.rma_layout.specs.Placement.{Place}
use Rattle.window_rule.specs.View.{View}
use Rattle.window_rule.specs.Dirty.{dirt_of}
use Rattle.window_rule.specs.Detach.{Detaches, dirt_on, detached}
use Rattle.window_rule.specs.Attach.{MayAttach, MayAttachSome}
use Rattle.window_rule.proofs.LockLemmas.{same_place-refl}

pub detached_attaches : {N : Type 0} (shape : Shape) (object : Place) (before after : View N)
    (told : Detaches shape object before after)
    → MayAttachSome shape object (length told.known.content) after
detached_attaches {N} shape object before after told =
    let may : MayAttach shape object told.known.chain told.known.content
    (detached object told.known told.cells before) = record {
      dirt = dirt_on object told.known;
      is = ap (λ t. cond t (Some (dirt_on object told.known)) (dirt_of before.dirty object))
          (same_place-refl object);
      not_attached = refl;
      built = record {
        enough = told.blocks;
        few_words = told.few_words;
        lies = told.lies;
        spelled = told.spelled;
      };
      has = λ b. omega arith;
    } in (
      told.known.chain,
      told.known.content,
      refl,
      subst (MayAttach shape object told.known.chain told.known.content) (sym told.view) may,
    )
