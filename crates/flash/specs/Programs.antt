-- Programming a byte.
use Rattle.std.specs.Prelude.{ℕ, Bool, not, ◌&&◌, ◌||◌, if◌then◌else◌, List, bit_and, slice_index, slice_set}
use Rattle.fault.specs.Limits.{needs_erase}
use Rattle.flash.specs.Limits.{longest_program, protected_program}
use Rattle.flash.specs.BlockMaps.{BlockMap, is_protected, is_worn}

-- the cells with one programmed: it becomes cell AND byte
abbrev pub burnt : List ℕ → ℕ → ℕ → List ℕ
burnt cells a byte = slice_set cells a (bit_and (slice_index cells a) byte)

-- how long the chip is busy with a byte, where a byte that does not fail takes `each`
abbrev pub program_time : BlockMap → ℕ → List ℕ → ℕ → ℕ → ℕ
program_time g each cells a byte =
    if is_protected g a then protected_program
    else (if is_worn g a || needs_erase (slice_index cells a) byte then longest_program else each)

-- In a protected block nothing happens. A program fails in a worn block, and where the byte has a 1 over a 0.
abbrev pub program_fails : BlockMap → List ℕ → ℕ → ℕ → Bool
program_fails g cells a byte = not (is_protected g a) && (is_worn g a || needs_erase (slice_index cells a) byte)

-- The cells after a program, also one that failed or that a reset broke off: in a block that is neither protected nor worn the cell is cell AND byte.
abbrev pub after_program : BlockMap → List ℕ → ℕ → ℕ → List ℕ
after_program g cells a byte = if is_protected g a || is_worn g a then cells else burnt cells a byte
