-- What follows from the invariant for a user of a window.
use Rattle.std.proofs.Common.{◌≡◌, List, [], map, get_or, sym, ap, ◌∙◌, subst, Some, None}
use mathlib.Core.Option.{some}
use Rattle.atomic_table.proofs.Lists.{at_map}
use Rattle.object_words.specs.Contents.{content_of}
use Rattle.object_words.specs.Entries.{Entry, store_after}
use Rattle.rma_layout.specs.declared.word.Word.TheVariants.{Gate}
use Rattle.rma_layout.specs.Shape.{Shape}
use Rattle.window_rule.specs.View.{View}
use Rattle.window_rule.specs.Words.{Words, is_block, locks_in, sizes_in, data_in}
use Rattle.window_rule.specs.Dirty.{dirt_of}
use Rattle.window_rule.specs.Objects.{IsKept, LiesAt}
use Rattle.window_rule.specs.ContentsHold.{IsDirtOrNone}
use Rattle.window_rule.specs.Lawful.{IsLawful, locks_of, dirts_of}
use Rattle.window_rule.specs.Laws.{MarkExcludes, WriterExcludes, HasHistory, ContentIsOfHistory, KnownIsTrue, BlockHasOneHolder}
use Rattle.window_rule.proofs.WordFunctions.{is_block-true}
use Rattle.window_rule.proofs.PartitionKept.{share-none, share-here}
use Rattle.window_rule.proofs.Exclusions.{mark_excludes, writer_excludes}
use Rattle.window_rule.proofs.DetachKept.{dirty_view, is_none}
use Rattle.window_rule.proofs.GateKept.{gate_of}
use Rattle.window_rule.proofs.GetSteps.{known_kept}
use Rattle.window_rule.proofs.LengthRead.{still_known}

module _ {N : Type 0} (fits : Shape → Entry N → Type 0) (shape : Shape) (words : Words)
    (views : List (View N)) (lawful : IsLawful fits shape words views) where
  pub marks_exclude : MarkExcludes views shape
  marks_exclude object block id other one two are marked =
      mark_excludes shape (locks_in words)
      (map locks_of views) id other one.locks two.locks object lawful.holds.locks block
      (at_map locks_of views id one are.first)
      (at_map locks_of views other two are.second) are.differ marked

  pub writers_exclude : WriterExcludes views
  writers_exclude id other one two are writer =
      writer_excludes (words Gate) (map gate_of views) id other two.gate lawful.holds.gate
      (at_map gate_of views id one are.first ∙ ap some writer)
      (at_map gate_of views other two are.second)

  pub has_history : HasHistory fits shape words views lawful
  has_history = let h = lawful.holds.history in record {
    legal = h.legal;
    fitting = h.fitting;
    counted = h.counted;
    begins = λ id view there. (h.each id view there).begins;
  }

  pub content_is_of_history : ContentIsOfHistory fits shape words views lawful
  content_is_of_history object block clean =
      let h = lawful.holds in
      let standing = lawful.ground.objects object in
      let nobody : standing.writer ≡ None = is_none standing.writer (λ j e.
      let none : dirt_of (get_or (dirts_of views) j []) object ≡ None = is_none
      (dirt_of (get_or (dirts_of views) j []) object) (λ dirt is.
      let found = dirty_view views j object dirt is in
      let same : None ≡ Some dirt = sym (clean j found.0 found.1) ∙ found.2 in
      cc same) in
      subst (IsDirtOrNone (content_of (store_after lawful.ground.history) object) standing j) none
      (h.dirt j object) e) in (
        standing.chain,
        record {
          kept = subst (IsKept shape (sizes_in words) (data_in words) object standing.chain)
              (h.contents object block nobody) (h.objects object block);
          lies = h.lie object;
        },
      )

  pub known_is_true : KnownIsTrue fits shape words views lawful
  known_is_true id view object known there is =
      let h = lawful.holds in (
        record {
          kept = known_kept fits shape words views lawful.ground h id view there object known is;
          lies = subst (LiesAt object) ((h.holdings id view there).read object known is).0.chain_is
              (h.lie object);
        },
        (still_known fits shape view words views id lawful.ground h there object known is).1,
      )

  pub block_has_one_holder : BlockHasOneHolder fits shape words views lawful
  block_has_one_holder block is_b =
      let h = lawful.holds.blocks in
      let owner = lawful.ground.owner block in (
        owner,
        h.each owner block
            ∙ share-here (is_block shape block) owner (is_block-true shape block is_b),
        λ other ne. h.each other block
            ∙ share-none (is_block shape block) owner other (λ e. ne (sym e)),
      )
