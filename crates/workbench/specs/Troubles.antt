-- Why a chip or an array was not made, as trouble.
use Rattle.chip.specs.declared.unmade.Unmade.{Unmade as ChipUnmade}
use Rattle.chip.specs.declared.unmade.Unmade.TheVariants.{Refused as ChipRefused, Memory as NoChipMemory}
use Rattle.array.specs.declared.unmade.Unmade.{Unmade as ArrayUnmade}
use Rattle.array.specs.declared.unmade.Unmade.TheVariants.{Refused as ArrayRefused, Memory as NoArrayMemory}
use Rattle.workbench.specs.declared.trouble.Trouble.{Trouble}
use Rattle.workbench.specs.declared.trouble.Trouble.TheVariants.{Chip, Part, Memory}

abbrev pub no_chip : ChipUnmade → Trouble
no_chip (ChipRefused f) = Chip f
no_chip NoChipMemory = Memory

abbrev pub no_array : ArrayUnmade → Trouble
no_array (ArrayRefused f) = Part f
no_array NoArrayMemory = Memory
