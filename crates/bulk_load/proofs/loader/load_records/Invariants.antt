use Rattle.std.proofs.Common.{◌≡◌, ℕ, List, [], ◌∷◌}
use Rattle.graph_model.specs.WellFormed.{IsWellFormed}
use Rattle.bulk_load.specs.Records.{Fields}
use Rattle.bulk_load.specs.Reading.{HasRead, IsPlain}
use Rattle.bulk_load.proofs.LoadLemmas.{LoadedSoFar}
use Rattle.bulk_load.proofs.loader.load_records.Given as goal

abbrev pub invariant-loop-row : goal.invariant-loop-row
invariant-loop-row l = record {
  shape : l.graph.shape ≡ l.fn.graph.shape;
  plain : IsPlain l.reader;
  well_formed : IsWellFormed l.graph.graph;
  far : (bytes : List ℕ) (first : Fields) → HasRead bytes (first ∷ []) l.fn.reader → LoadedSoFar bytes first l.fn.header l.fn.graph l.fn.calls l.reader l.row l.calls l.graph;
}
