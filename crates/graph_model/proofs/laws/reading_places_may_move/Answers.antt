use Rattle.graph_model.proofs.MovedPlaces.{reading_places_move}
use Rattle.graph_model.proofs.laws.reading_places_may_move.Goals as goal

pub returns : goal.returns
returns c = reading_places_move
