-- A fault as the next layer's, with its cause and place whole.
use Rattle.fault.specs.declared.faults.ChipFault.{ChipFault}
use Rattle.fault.specs.declared.faults.PartFault.{PartFault}
use Rattle.fault.specs.declared.faults.ConsoleFault.{ConsoleFault}

abbrev pub part_fault : ChipFault → PartFault
part_fault f = record { cause = f.cause; place = f.place }

-- the call has no position yet
abbrev pub console_fault : PartFault → ConsoleFault
console_fault f = record { cause = f.cause; place = f.place; position = 0 }
