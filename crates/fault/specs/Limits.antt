-- What two causes mean in every layer.
use Rattle.std.specs.Prelude.{ℕ, Bool, not, Some, None, Option, ◌==◌, bit_and, nat_le, if◌then◌else◌}
use Rattle.fault.specs.declared.cause.Cause.{Cause}
use Rattle.fault.specs.declared.cause.Cause.TheVariants.{TimeTooLong}

-- at most this many microseconds may pass in one call
abbrev pub longest : ℕ
longest = 1000000000

-- why n microseconds may not pass in one call
abbrev pub time_no : ℕ → Option Cause
time_no n = if nat_le n longest then None else Some TimeTooLong

-- the byte has a 1 where the cell has a 0
abbrev pub needs_erase : ℕ → ℕ → Bool
needs_erase old byte = not (bit_and old byte == byte)
