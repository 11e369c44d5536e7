-- The numbers of the faults.
use Rattle.std.specs.Prelude.{ℕ}
use Rattle.bulk_load.specs.declared.load_fault.LoadFault.{LoadFault}
use Rattle.bulk_load.specs.declared.load_fault.LoadFault.TheVariants as fault

abbrev pub number_of_fault : LoadFault → ℕ
number_of_fault fault.Quotes = 1
number_of_fault fault.Header = 2
number_of_fault fault.VertexThere = 3
number_of_fault fault.FieldCount = 4
number_of_fault fault.Identifier = 5
number_of_fault fault.Label = 6
number_of_fault fault.Value = 7
number_of_fault fault.NoEnd = 8
number_of_fault fault.TooLarge = 9
