use Rattle.csv.specs.Records.{fields_of}
use Rattle.bulk_load.proofs.ReadLemmas.{read_on}
use Rattle.bulk_load.proofs.records.next_record.Goals as goal

pub returns-in-Ok-clause-reads : goal.returns-in-Ok-clause-reads
returns-in-Ok-clause-reads c bytes records far =
    read_on bytes records c.args.reader.now c.read_byte_record.new.self c.in-Ok.found (fields_of c.read_byte_record.new.row) c.requires.config far (c.in-Ok.ensures.reads c.requires.trim c.requires.ready)
