-- The reset pin. It gives read mode, and what it breaks off leaves its mark.
use Rattle.std.specs.Prelude.{ℕ, List}
use Rattle.flash.specs.Erases.{after_broken_erase}
use Rattle.flash.specs.Programs.{after_program}
use Rattle.chip.specs.declared.state.Phase.{Phase}
use Rattle.chip.specs.declared.state.Phase.TheVariants.{Window, Erasing as Begun}
use Rattle.chip.specs.declared.state.Erase.{Erase}
use Rattle.chip.specs.declared.state.State.{State}
use Rattle.chip.specs.declared.state.State.TheVariants.{Ready, Programming, Erasing, Suspending, Suspended, Failed}
use Rattle.chip.specs.Flash.{Flash, block_map_of}
use Rattle.chip.specs.Writes.{read_mode}

-- An erasing begun and unfinished leaves 00h throughout its sound unprotected blocks; a window leaves no mark.
abbrev pub broken_erase : Flash → Erase → Phase → List ℕ
broken_erase f e Window = f.cells
broken_erase f e Begun = after_broken_erase (block_map_of f) e.selected f.cells

-- An unfinished program in a sound unprotected block leaves cell AND byte.
abbrev pub broken : Flash → State → List ℕ
broken f (Ready mode place) = f.cells
broken f (Programming p) = after_program (block_map_of f) f.cells p.address p.byte
broken f (Erasing e) = broken_erase f e e.phase
broken f (Suspending e wait) = broken_erase f e e.phase
broken f (Suspended e) = broken_erase f e e.phase
broken f (Failed byte toggle) = f.cells

-- the chip after a pulse on the reset pin
unfoldable pub after_reset : Flash → Flash
after_reset f = record f { cells = broken f f.state; state = read_mode }
