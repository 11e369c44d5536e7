use Rattle.std.proofs.Common.{take}
use Rattle.outcome_text.specs.Reading.{is_mark}
use Rattle.outcome_text.proofs.CutLemmas.{no_mark, a_mark, all_before, parts_at, found_at, plain_first}
use Rattle.outcome_text.proofs.line_words.word_at.Goals as goal

pub returns-then-line-end-eq32 : goal.returns-then-line-end-eq32
returns-then-line-end-eq32 c =
    plain_first c.args.line.now (take c.args.end c.args.line.now) _ (all_before is_mark _ no_mark c.args.line.now c.args.end c.requires.at)
    (parts_at is_mark c.args.line.now c.args.end 32 c.requires.at c.if-line-end-eq32.true)

pub quoted_word-requires : goal.quoted_word-requires
quoted_word-requires c = (
  take c.args.end c.args.line.now,
  all_before is_mark _ no_mark c.args.line.now c.args.end c.requires.at,
  parts_at is_mark c.args.line.now c.args.end 34 c.requires.at (a_mark _ (found_at is_mark c.args.line.now c.args.end c.requires.at) c.if-line-end-eq32.false),
)
