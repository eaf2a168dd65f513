-- What a data sheet says of a chip, in use.
use Rattle.std.specs.Prelude.{ℕ, ◌%◌, ◌^◌}
use Rattle.geometry.specs.declared.datasheet.Commands.{Commands}

-- the low bits of an address, which are compared with the command addresses
abbrev pub low_bits : Commands → ℕ → ℕ
low_bits c a = a % 2 ^ c.bits
