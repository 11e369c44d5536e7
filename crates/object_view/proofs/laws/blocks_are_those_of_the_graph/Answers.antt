use Rattle.std.proofs.Common.{ap, ◌∙◌, length}
use Rattle.object_view.proofs.Counted.{words_counted}
use Rattle.object_view.proofs.Used.{used_same}
use Rattle.object_view.proofs.laws.blocks_are_those_of_the_graph.Goals as goal

pub returns-clause-words : goal.returns-clause-words
returns-clause-words c = λ shape store g vertices edges well v rank object on. ap length (v.each rank object on).words ∙ words_counted shape g vertices edges rank object well v.vertex_keys

pub returns-clause-blocks : goal.returns-clause-blocks
returns-clause-blocks c = λ shape store g vertices edges ranges well v rank within. used_same shape g well rank within store vertices edges ranges v
