-- The numbers that a chip may be made with.
use Rattle.std.specs.Prelude.{ℕ, Bool, ◌&&◌, ◌==◌}
use Rattle.geometry.specs.declared.kinds.TheConstants.{DEAD}
use Rattle.geometry.specs.Plans.{plan_of, is_chip, blocks_of}
use Rattle.geometry.specs.Sets.{none, is_within}
use Rattle.flash.specs.Limits.{program_fits, erase_fits, suspend_fits}
use Rattle.chip.specs.declared.setup.Setup.{Setup}

-- The program time, the erase time and the suspend time fit, and the protected and the worn blocks are blocks of the chip.
abbrev pub in_limits : Setup → Bool
in_limits s =
    program_fits s.program && erase_fits s.erase && suspend_fits s.suspend
    && is_within s.protected (blocks_of s.kind) && is_within s.worn (blocks_of s.kind)

-- What a chip can be made of: a geometry, numbers inside their limits, and memory of exactly the geometry's size.
abbrev pub fit : Setup → ℕ → Bool
fit s len = is_chip s.kind && in_limits s && len == (plan_of s.kind).size

-- The numbers of a dead chip: no geometry, and the least times.
abbrev pub no_chip : Setup
no_chip = record { kind = DEAD; program = 1; erase = 1; suspend = 1; protected = none; worn = none }
