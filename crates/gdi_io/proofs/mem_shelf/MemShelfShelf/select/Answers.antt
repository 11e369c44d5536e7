use Rattle.std.proofs.Common.{◌≡◌, Some, refl, ap, arith}
use Rattle.gdi_io.specs.Files.{file_place}
use Rattle.gdi_io.specs.MemShelf.{MemFiles}
use Rattle.gdi_io.proofs.Places.{bytes_at-file_place}
use Rattle.gdi_io.proofs.mem_shelf.MemShelfShelf.select.Goals as goal

pub returns-clause-selects : goal.returns-clause-selects
returns-clause-selects c =
    let files : c.self.inside.files ≡ c.args.self.now.files = ap (λ (shelf : MemFiles). shelf.files) c.self.view_is in
    let faults : c.self.inside.faults ≡ c.args.self.now.faults = ap (λ (shelf : MemFiles). shelf.faults) c.self.view_is in
    let place : c.file_place-self-inside.result ≡ file_place c.args.self.now.files c.args.name.now = rw (← files, ← c.as_bytes.ensures.value) c.file_place-self-inside.ensures in
    record {
      cause = record { later = omega arith; failed = tt };
      halted = c.if-self.false;
      given = refl;
      files = ap (λ held. Some held) files;
      at = ap (λ at. Some at) place;
      untold = tt;
      left = ap (λ left. Some left) (rw (place, files) (bytes_at-file_place c.args.self.now.files c.args.name.now));
    }
