-- How a chip is named: its geometry, its program, erase and suspend time, and its protected and worn blocks where there are some.
use Rattle.std.specs.Prelude.{ℕ, List, [], ◌∷◌, Result, Ok, Err, if◌then◌else◌, codes}
use Rattle.std.specs.Str.{bytes_eq}
use Rattle.geometry.specs.declared.set.BlockSet.{BlockSet}
use Rattle.geometry.specs.declared.kinds.TheConstants.{TOP, BOTTOM, BENCH}
use Rattle.geometry.specs.Sets.{none}
use Rattle.chip.specs.declared.setup.Setup.{Setup}
use Rattle.naming.specs.declared.wrong.Wrong.{Wrong}
use Rattle.naming.specs.declared.wrong.Wrong.TheVariants.{NoGeometry, UnknownGeometry}
use Rattle.naming.specs.Taking.{Words, ◌>>=◌, small_at}

-- the number of a geometry
abbrev pub geometry_of : List ℕ → Result ℕ Wrong
geometry_of w =
    if bytes_eq w (codes "t004") then Ok TOP else
    (if bytes_eq w (codes "b004") then Ok BOTTOM else
    (if bytes_eq w (codes "bench") then Ok BENCH else Err UnknownGeometry))

unfoldable pub geometry_at : Words → Result (ℕ × Words) Wrong
geometry_at [] = Err NoGeometry
geometry_at (w ∷ ws) = do
  kind ← geometry_of w
  Ok (kind, ws)

-- the blocks that the number behind their word names, bit b for block b, where that word is next, and else none
unfoldable pub set_at : List ℕ → Words → Result (BlockSet × Words) Wrong
set_at name [] = Ok (none, [])
set_at name (w ∷ ws) =
    if bytes_eq w name then (do
      mask ← small_at ws
      Ok (record { mask = mask.0 }, mask.1)) else Ok (none, w ∷ ws)

unfoldable pub setup_at : Words → Result (Setup × Words) Wrong
setup_at ws = do
  kind ← geometry_at ws
  program ← small_at kind.1
  erase ← small_at program.1
  suspend ← small_at erase.1
  protected ← set_at (codes "protect") suspend.1
  worn ← set_at (codes "worn") protected.1
  Ok (record { kind = kind.0; program = program.0; erase = erase.0; suspend = suspend.0; protected = protected.0; worn = worn.0 }, worn.1)
