-- What a status is to those who run the program: a fault with the number that the program ends with.
use Rattle.std.specs.Prelude.{ℕ, Option, Some, None}
use Rattle.std.specs.Option.{option_map_or}
use Rattle.std.specs.declared.io.ErrorKind.{ErrorKind}
use Rattle.std.specs.declared.io.ErrorKind.TheVariants as kind
use Rattle.gdi_run.specs.declared.status.Status.{Status}
use Rattle.gdi_run.specs.declared.status.Status.TheVariants as status
use Rattle.command_words.specs.declared.usage.UsageKind.TheVariants as usage
use Rattle.gdi_shell.specs.declared.fault.Fault.{Fault}
use Rattle.gdi_shell.specs.declared.fault.Fault.TheVariants.{Usage, Read, TooLong, BadLoad, BadScript, LoadFull, Write, Illegal, NoMemory, BadOutput}

abbrev pub fault_of : Status → Option Fault
fault_of status.Done = None
fault_of (status.Usage kind) = Some Usage
fault_of (status.ReadFault file) = Some (Read file)
fault_of (status.TooLong file) = Some (TooLong file)
fault_of (status.BadLoad file row kind) = Some (BadLoad file row kind)
fault_of (status.BadScript line kind) = Some (BadScript line kind)
fault_of (status.BadOutput line) = Some (BadOutput line)
fault_of (status.LoadFull file rank) = Some (LoadFull file rank)
fault_of status.WriteFault = Some Write
fault_of (status.Illegal clause section txn) = Some (Illegal clause section txn)
fault_of status.NoMemory = Some NoMemory

-- 0 is kept for Done, and 1 for what the system ends
abbrev pub exit_number : Fault → ℕ
exit_number Usage = 2
exit_number (Read file) = 3
exit_number (TooLong file) = 4
exit_number (BadLoad file row kind) = 5
exit_number (BadScript line kind) = 6
exit_number (LoadFull file rank) = 7
exit_number Write = 8
exit_number (Illegal clause section txn) = 9
exit_number NoMemory = 10
exit_number (BadOutput line) = 11

-- the number that the program ends with after a status: 0 where all was done
abbrev pub exit_number_of : Status → ℕ
exit_number_of status = option_map_or exit_number (fault_of status) 0

-- what it is that the words of the command line can't be had: want of memory, or a faulty command line
abbrev pub status_of : ErrorKind → Status
status_of kind.OutOfMemory = status.NoMemory
status_of _ = status.Usage usage.Words
