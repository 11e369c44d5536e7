use Rattle.gdi_run.proofs.Unread.{all_read, output_unread}
use Rattle.gdi_run.proofs.reading.read_check_files.Goals as goal

pub returns-in-Ok : goal.returns-in-Ok
returns-in-Ok g c =
    all_read (g.F.Shelf.told c.args.shelf.now) (g.F.Shelf.told c.read_files.new.shelf) (g.F.Shelf.told c.read_file.new.shelf) c.args.source.now c.args.script.now c.args.output.now
    c.in_ok-run.run' c.in-Ok.output c.in_ok-run.ensures c.in-Ok.ensures

pub returns-in-Err : goal.returns-in-Err
returns-in-Err g c =
    output_unread (g.F.Shelf.told c.args.shelf.now) (g.F.Shelf.told c.read_files.new.shelf) (g.F.Shelf.told c.read_file.new.shelf) c.args.source.now c.args.script.now c.args.output.now
    _ _ c.in_ok-run.run' c.in-Err.status c.in_ok-run.ensures c.in-Err.ensures
