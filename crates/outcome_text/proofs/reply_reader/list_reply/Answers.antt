use Rattle.text_words.specs.Forms.{texts}
use Rattle.outcome_text.specs.declared.reply_word.ReplyWord.TheVariants as word
use Rattle.outcome_text.proofs.InverseLemmas.{none_spelled}
use Rattle.outcome_text.proofs.ItemLemmas.{unread, map_same}
use Rattle.std.proofs.Common.{◌∙◌}
use Rattle.outcome_text.proofs.reply_reader.list_reply.Goals as goal

pub returns-in-None : goal.returns-in-None
returns-in-None c = rw c.in-Labels.is (none_spelled word.Labels (texts c.args.items.now) (λ fits same. unread _ _ _ c.in-None.is c.in_ok-names-in-Labels.ensures _ fits (same ∙ map_same _)))

pub returns-in-None-2 : goal.returns-in-None-2
returns-in-None-2 c = rw c.in-Props.is (none_spelled word.Props (texts c.args.items.now) (λ fits same. unread _ _ _ c.in-None-2.is c.in_ok-props-in-Props.ensures _ fits same))

pub returns-in-None-3 : goal.returns-in-None-3
returns-in-None-3 c = rw c.in-Values.is (none_spelled word.Values (texts c.args.items.now) (λ fits same. unread _ _ _ c.in-None-3.is c.in_ok-values-in-Values.ensures _ fits same))

pub returns-in-None-4 : goal.returns-in-None-4
returns-in-None-4 c = rw c.in-Edges.is (none_spelled word.Edges (texts c.args.items.now) (λ fits same. unread _ _ _ c.in-None-4.is c.in_ok-edges-in-Edges.ensures _ fits same))

pub returns-in-None-5 : goal.returns-in-None-5
returns-in-None-5 c = rw c.in-Ids.is (none_spelled word.Ids (texts c.args.items.now) (λ fits same. unread _ _ _ c.in-None-5.is c.in_ok-ids-in-Ids.ensures _ fits same))

pub returns-in-None-6 : goal.returns-in-None-6
returns-in-None-6 c = rw c.in-Levels.is (none_spelled word.Levels (texts c.args.items.now) (λ fits same. unread _ _ _ c.in-None-6.is c.in_ok-pairs-in-Levels.ensures _ fits same))

pub returns-in-None-7 : goal.returns-in-None-7
returns-in-None-7 c = rw c.in-Parts.is (none_spelled word.Parts (texts c.args.items.now) (λ fits same. unread _ _ _ c.in-None-7.is c.in_ok-pairs-in-Parts.ensures _ fits same))
