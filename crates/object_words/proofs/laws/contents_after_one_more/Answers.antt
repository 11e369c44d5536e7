use Rattle.std.proofs.Common.{[]}
use Rattle.object_words.proofs.Histories.{contents_after-push, legal-push}
use Rattle.object_words.proofs.laws.contents_after_one_more.Goals as goal

pub returns-clause-store : goal.returns-clause-store
returns-clause-store g c = λ history one. contents_after-push [] history one

pub returns-clause-legal : goal.returns-clause-legal
returns-clause-legal g c = λ counts_blocks shape history one. legal-push counts_blocks shape history one
