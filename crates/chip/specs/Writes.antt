-- The write cycle. It changes what the chip is doing, and no cell: a cell changes when an operation ends.
use Rattle.std.specs.Prelude.{ℕ, false, if◌then◌else◌, Ok, Err, Result, ◌==◌}
use Rattle.fault.specs.declared.cause.Cause.TheVariants.{AddressOutside}
use Rattle.fault.specs.declared.faults.ChipFault.{ChipFault}
use Rattle.geometry.specs.declared.set.BlockSet.{BlockSet}
use Rattle.geometry.specs.Sets.{union}
use Rattle.geometry.specs.Sheets.{low_bits}
use Rattle.flash.specs.declared.sequence.Mode.{Mode}
use Rattle.flash.specs.declared.sequence.Mode.TheVariants.{Read}
use Rattle.flash.specs.declared.sequence.Place.{Place}
use Rattle.flash.specs.declared.sequence.Place.TheVariants.{Start}
use Rattle.flash.specs.declared.sequence.Decision.{Decision}
use Rattle.flash.specs.declared.sequence.Decision.TheVariants.{Next, Enter, Program, Erase, GiveUp}
use Rattle.flash.specs.BlockMaps as block_maps
use Rattle.flash.specs.Limits as limits
use Rattle.flash.specs.Programs as programs
use Rattle.flash.specs.Sequences.{decided}
use Rattle.chip.specs.declared.state.Phase.{Phase}
use Rattle.chip.specs.declared.state.Phase.TheVariants.{Window, Erasing as Begun}
use Rattle.chip.specs.declared.state.Erase.{Erase as Erasure}
use Rattle.chip.specs.declared.state.State.{State}
use Rattle.chip.specs.declared.state.State.TheVariants.{Ready, Programming, Erasing, Suspending, Suspended, Failed}
use Rattle.chip.specs.Flash.{Flash, block_map_of, commands, inside}

-- read mode, with no sequence begun
abbrev pub read_mode : State
read_mode = Ready Read Start

-- how long the chip is busy with a byte
abbrev pub program_time : Flash → ℕ → ℕ → ℕ
program_time f a byte = programs.program_time (block_map_of f) f.setup.program f.cells a byte

-- the block that an address lies in, as a set
abbrev pub block_alone : Flash → ℕ → BlockSet
block_alone f a = block_maps.block_alone (block_map_of f) a

-- what a write means at a place of a sequence
abbrev pub decision : Flash → Place → ℕ → ℕ → Decision
decision f place a byte = decided (commands f) place (low_bits (commands f) a) byte

-- what the chip does after a write of a sequence
abbrev pub obeyed : Flash → Mode → ℕ → ℕ → Decision → State
obeyed f mode a byte (Next place) = Ready mode place
obeyed f mode a byte (Enter other) = Ready other Start
obeyed f mode a byte Program =
    Programming (record { address = a; byte = byte; left = program_time f a byte; toggle = false })
obeyed f mode a byte Erase =
    Erasing (record { phase = Window; selected = block_alone f a; left = limits.window; toggle = false })
obeyed f mode a byte GiveUp = Ready mode Start

-- 30h adds a block and starts the window over; B0h suspends; any other write ends the window with nothing erased.
-- Once the erasing has begun, only B0h counts.
abbrev pub interrupted : Flash → Erasure → Phase → ℕ → ℕ → State
interrupted f e Window a byte =
    if byte == 0x30 then Erasing (record e { phase = Window; selected = union e.selected (block_alone f a); left = limits.window })
    else (if byte == 0xB0 then Suspending e f.setup.suspend else read_mode)
interrupted f e Begun a byte = if byte == 0xB0 then Suspending e f.setup.suspend else Erasing e

-- A suspended chip heeds 30h alone, a failed one F0h alone, and one that programs or is about to be suspended nothing.
abbrev pub heeded : Flash → State → ℕ → ℕ → State
heeded f (Ready mode place) a byte = obeyed f mode a byte (decision f place a byte)
heeded f (Programming p) a byte = Programming p
heeded f (Erasing e) a byte = interrupted f e e.phase a byte
heeded f (Suspending e wait) a byte = Suspending e wait
heeded f (Suspended e) a byte = if byte == 0x30 then Erasing e else Suspended e
heeded f (Failed meant toggle) a byte = if byte == 0xF0 then read_mode else Failed meant toggle

-- an address outside is refused
abbrev pub at_address : {X : Type 0} → Flash → ℕ → X → Result X ChipFault
at_address f a x = if inside f a then Ok x else Err (record { cause = AddressOutside; place = a })

-- what a write cycle answers, and the chip after it
unfoldable pub heard : Flash → ℕ → Result (Unit {0}) ChipFault
heard f a = at_address f a tt

unfoldable pub written : Flash → ℕ → ℕ → Flash
written f a byte = if inside f a then record f { state = heeded f f.state a byte } else f
