use Rattle.gdi_run.proofs.Unread.{script_unread}
use Rattle.gdi_run.proofs.reading.read_files.Goals as goal

pub returns-in-Err : goal.returns-in-Err
returns-in-Err g c =
    script_unread _ (g.F.Shelf.told c.args.shelf.now) (g.F.Shelf.told c.read_given.new.shelf) (g.F.Shelf.told c.read_given-2.new.shelf) (g.F.Shelf.told c.read_file.new.shelf)
    c.args.source.now c.args.script.now c.in_ok-vertices.vertices c.in_ok-edges.edges c.in_ok-vertices.ensures c.in_ok-edges.ensures c.in-Err.status c.in-Err.ensures
