-- What the making calls answer that refuse.
use Rattle.std.specs.Prelude.{◌≡◌, ℕ, true, false, List, length, Ok, Err, Result}
use Rattle.fault.specs.declared.faults.PartFault.{PartFault}
use Rattle.array.specs.declared.array.Array.{Array}
use Rattle.array.specs.declared.array.Layout.{Layout}
use Rattle.array.specs.declared.unmade.Unmade.{Unmade}
use Rattle.array.specs.declared.unmade.Unmade.TheVariants.{Refused, Memory}
use Rattle.array.specs.Limits.{possible, fit, unfit}
use Rattle.array.specs.Means.{means, new_array, blank}

-- on given memory: a new array of what fits, and the refusal of what does not
abbrev pub MadeOn : Layout → List ℕ → Result Array PartFault → Type 0
MadeOn l cells (Ok a) = (fit l (length cells) ≡ true) × (means a ≡ new_array l cells)
MadeOn l cells (Err f) = (fit l (length cells) ≡ false) × (f ≡ unfit)

-- on memory of its own: a new array with FFh throughout, or no memory for it, or, whether there is memory or not, the refusal of numbers that do not fit
abbrev pub BlankMade : Layout → Result Array Unmade → Type 0
BlankMade l (Ok a) = (possible l ≡ true) × (means a ≡ blank l)
BlankMade l (Err (Refused f)) = (possible l ≡ false) × (f ≡ unfit)
BlankMade l (Err Memory) = possible l ≡ true
