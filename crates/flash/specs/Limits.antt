-- The times that the rules of the chips give, in microseconds.
use Rattle.std.specs.Prelude.{ℕ, Bool, ◌&&◌, nat_le}

-- more blocks may be added to an erase for so long after the last 30h
abbrev pub window : ℕ
window = 50

-- the longest time that a byte may take to program; also that after which a program fails
abbrev pub longest_program : ℕ
longest_program = 300

-- the longest time that a block may take to erase; also that for each block after which an erase fails
abbrev pub longest_erase : ℕ
longest_erase = 10000000

-- the longest time from the suspend command until a chip is suspended
abbrev pub longest_suspension : ℕ
longest_suspension = 15

-- the chip is busy for so long with a byte in a protected block
abbrev pub protected_program : ℕ
protected_program = 3

-- the erasing lasts so long where every selected block is protected
abbrev pub protected_erase : ℕ
protected_erase = 50

abbrev pub between : ℕ → ℕ → ℕ → Bool
between low n high = nat_le low n && nat_le n high

-- a chip's program time P, its erase time E for each block, and its suspend time S
abbrev pub program_fits : ℕ → Bool
program_fits time = between 1 time longest_program

abbrev pub erase_fits : ℕ → Bool
erase_fits time = between 1 time longest_erase

abbrev pub suspend_fits : ℕ → Bool
suspend_fits time = between 1 time longest_suspension
