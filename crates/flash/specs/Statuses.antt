-- The status that a busy or failed chip answers with.
use Rattle.std.specs.Prelude.{ℕ, ◌+◌, Bool, false, if◌then◌else◌, nat_lt}

-- DQ7 is the inverse of bit 7 of the byte that the cell is to have; DQ6 is the toggle bit; DQ5 says that the operation
-- failed; DQ3 that the erasing after the window has begun, or that the operation failed; the other bits are 0.
abbrev pub status : ℕ → Bool → Bool → Bool → ℕ
status byte toggle failed begun =
    (if nat_lt byte 128 then 128 else 0) + (if toggle then 64 else 0) + (if failed then 32 else 0) + (if begun then 8 else 0)

-- a cell of an erase is to have FFh
abbrev pub erase_status : Bool → Bool → ℕ
erase_status toggle begun = status 0xFF toggle false begun

-- a suspended chip answers so in a selected block
abbrev pub suspended_status : ℕ
suspended_status = 0x80
