-- Every refusal has a number, and this is the one place that says which.
use Rattle.std.specs.Prelude.{ℕ}
use Rattle.fault.specs.declared.cause.Cause.{Cause}
use Rattle.fault.specs.declared.cause.Cause.TheVariants.{AddressOutside, NoSuchBlock, TimeTooLong, UnfitMaking, ErasureInTheWay, Guarded, NeedsErase, Worn, OutOfTurn, UnfitBooks, NoReadableBook, PositionOutside, StopOutside, SpareSpoilt}

abbrev pub number_of : Cause → ℕ
number_of AddressOutside = 1
number_of NoSuchBlock = 2
number_of TimeTooLong = 3
number_of UnfitMaking = 4
number_of ErasureInTheWay = 5
number_of Guarded = 6
number_of NeedsErase = 7
number_of Worn = 8
number_of OutOfTurn = 9
number_of UnfitBooks = 10
number_of NoReadableBook = 11
number_of PositionOutside = 12
number_of StopOutside = 13
number_of SpareSpoilt = 14
