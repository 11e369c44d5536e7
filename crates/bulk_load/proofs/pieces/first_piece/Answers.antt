use Rattle.std.proofs.Common.{sym, ◌∙◌}
use Rattle.bulk_load.proofs.PieceLemmas.{piece_at_end, piece_at_none}
use Rattle.bulk_load.proofs.pieces.first_piece.Goals as goal

pub returns-in-Some-clause-pieces : goal.returns-in-Some-clause-pieces
returns-in-Some-clause-pieces c = piece_at_end c.args.text.now c.in-Some.end (sym c.position_of.ensures ∙ c.in-Some.is)

pub returns-in-None-clause-pieces : goal.returns-in-None-clause-pieces
returns-in-None-clause-pieces c = piece_at_none c.args.text.now (sym c.position_of.ensures ∙ c.in-None.is)
