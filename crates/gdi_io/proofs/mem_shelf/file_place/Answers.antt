use Rattle.std.proofs.Common.{◌∙◌, rules}
use Rattle.std.proofs.lemmas.Iterator.{YieldsList-from_slice}
use Rattle.std.proofs.lemmas.Iterator.Search.{position_from_yields_List}
use Rattle.std.specs.Str.{bytes_eq}
use Rattle.gdi_io.proofs.Places.{position-file_place}
use Rattle.gdi_io.proofs.mem_shelf.file_place.Goals as goal

pub returns : goal.returns
returns c =
    position_from_yields_List (λ file. bytes_eq file.name c.args.name.now) _ _ c.position.result c.position.ensures.ran (YieldsList-from_slice c.args.files.now (c.iter.ensures.rest ∙ c.as_slice.ensures)) (λ x b q k. search rules)
    ∙ position-file_place c.args.files.now c.args.name.now
