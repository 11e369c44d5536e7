-- The statuses of what isn't run, isn't checked, or isn't legal.
use Rattle.bulk_load.specs.Numbers.{number_of_fault}
use Rattle.bulk_load.specs.declared.load_file.LoadFile.{LoadFile}
use Rattle.bulk_load.specs.declared.load_file.LoadFile.TheVariants.{Vertices, Edges}
use Rattle.plain_run.specs.declared.run_refused.RunRefused.{RunRefused}
use Rattle.plain_run.specs.declared.run_refused.RunRefused.TheVariants as refused
use Rattle.run_check.specs.Clauses.{clause_number}
use Rattle.run_check.specs.declared.illegal.Illegal.{Illegal as WhyIllegal}
use Rattle.plain_check.specs.declared.check_refused.CheckRefused.{CheckRefused}
use Rattle.plain_check.specs.declared.check_refused.CheckRefused.TheVariants as unchecked
use Rattle.gdi_run.specs.declared.status.FileKind.{FileKind}
use Rattle.gdi_run.specs.declared.status.FileKind.TheVariants as file
use Rattle.gdi_run.specs.declared.status.Status.{Status}
use Rattle.gdi_run.specs.declared.status.Status.TheVariants.{BadLoad, BadScript, BadOutput, LoadFull, Illegal, NoMemory}

-- the file of a load, as a file of a command
abbrev pub kind_of_file : LoadFile → FileKind
kind_of_file Vertices = file.Vertices
kind_of_file Edges = file.Edges

-- how a command ends whose texts aren't run
abbrev pub status_of : RunRefused → Status
status_of (refused.BadLoad told row kind) = BadLoad (kind_of_file told) row (number_of_fault kind)
status_of (refused.BadScript line kind) = BadScript line kind
status_of (refused.LoadFull told rank) = LoadFull (kind_of_file told) rank
status_of refused.NoMemory = NoMemory

-- how a check ends whose output isn't checked
abbrev pub status_of_check : CheckRefused → Status
status_of_check (unchecked.Texts why) = status_of why
status_of_check (unchecked.BadOutput line) = BadOutput line

-- how a check ends whose output isn't legal
abbrev pub status_of_illegal : WhyIllegal → Status
status_of_illegal why = Illegal (clause_number why.clause) why.place.section why.place.txn
