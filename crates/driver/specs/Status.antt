-- The status bits, and what the driver makes of a byte that it reads. Other bits of the status it does not look at.
use Rattle.std.specs.Prelude.{◌≡◌, ℕ, ◌-◌, ◌/◌, ◌%◌, Bool, if◌then◌else◌, ◌==◌}
use Rattle.driver.specs.declared.verdict.Verdict.{Verdict}
use Rattle.driver.specs.declared.verdict.Verdict.TheVariants.{Busy, Done, Failed}

-- DQ7, DQ6 and DQ5 of a byte
abbrev pub dq7 : ℕ → ℕ
dq7 byte = byte / 128

abbrev pub dq6 : ℕ → ℕ
dq6 byte = byte / 64 % 2

abbrev pub dq5 : ℕ → ℕ
dq5 byte = byte / 32 % 2

-- The status of an operation that is to leave `wanted` in the cell: DQ7 is the inverse of its bit 7, DQ6 is the toggle bit, and DQ5 says that the
-- operation has failed.
pub record Status (byte wanted : ℕ) (toggle failed : Bool) : Type 0 where
  pub inverse : dq7 byte ≡ 1 - dq7 wanted
  pub toggles : dq6 byte ≡ (if toggle then 1 else 0)
  pub fails : dq5 byte ≡ (if failed then 1 else 0)

-- An operation that is to leave `wanted` in a cell is done when DQ7 of a read is that of `wanted`: until then it is the inverse. Only while it is the
-- inverse does DQ5 mean a failure: an erased cell has DQ5 set as well.
abbrev pub judged : ℕ → ℕ → Verdict
judged seen wanted =
    if dq7 seen == dq7 wanted then Done else
    if dq5 seen == 1 then Failed else Busy
