-- What a part refuses, by what it tells at a glance.
use Rattle.std.specs.Prelude.{ℕ, Bool, true, false, if◌then◌else◌, Some, None, Option, nat_le}
use Rattle.fault.specs.declared.cause.Cause.{Cause}
use Rattle.fault.specs.declared.cause.Cause.TheVariants.{NoSuchBlock, ErasureInTheWay, Guarded, NeedsErase}
use Rattle.fault.specs.Limits.{needs_erase}
-- what the erasure hides and bars
pub use Rattle.part.specs.InTheWay.{hid, barred, hid_beside, barred_beside}
use Rattle.part.specs.declared.answers.Shape.{Shape}
use Rattle.part.specs.declared.answers.Standing.{Standing}
use Rattle.part.specs.declared.answers.Standing.TheVariants.{Idle, Running, Suspended}

-- an erasure stands, running or not
abbrev pub stood : Standing → Bool
stood Idle = false
stood (Running b) = true
stood (Suspended b) = true

-- an erasure runs
abbrev pub ran : Standing → Bool
ran Idle = false
ran (Running b) = true
ran (Suspended b) = false

-- why a burn of a byte over a cell that is `old` is refused, at an address inside, worn blocks aside
abbrev pub burn_why : Bool → Bool → ℕ → ℕ → Option Cause
burn_why barred guarded old byte =
    if barred then Some ErasureInTheWay else
    if guarded then Some Guarded else
    if needs_erase old byte then Some NeedsErase else None

-- why a part of a shape refuses to begin the erasure of block b
abbrev pub shape_begin_no : Shape → ℕ → Bool → Option Cause
shape_begin_no s b guarded =
    if nat_le s.blocks b then Some NoSuchBlock else
    if stood s.standing then Some ErasureInTheWay else
    if guarded then Some Guarded else None
