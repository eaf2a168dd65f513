-- What is in the memory of a part when it is made.
use Rattle.std.specs.Prelude.{ℕ, ◌+◌, ◌-◌, Bool, true, false, List, [], ◌∷◌, ◌++◌, length, replicate, slice_set, Result, Ok, if◌then◌else◌, nat_lt}
use Rattle.naming.specs.declared.wrong.Wrong.TheVariants.{OutsidePart}
use Rattle.script.specs.declared.entry.Who.{Who}
use Rattle.script.specs.declared.entry.Who.TheVariants.{Quick, Slow}
use Rattle.script.specs.declared.unread.Complaint.{Complaint}
use Rattle.script.specs.Scripts.{Patch, ◌>>=◌, wrong_at}

-- memory that is at least so long, with FFh behind what there was
abbrev pub lengthened : ℕ → List ℕ → List ℕ
lengthened size memory = memory ++ replicate (size - length memory) 0xFF

-- memory with a byte at an address
abbrev pub put : ℕ → ℕ → List ℕ → List ℕ
put address byte memory = slice_set (lengthened (address + 1) memory) address byte

-- The memory of a part of this size with the bytes of a line at rising addresses; where one is outside, the number of the line is told.
unfoldable pub filled : (size line address : ℕ) → List ℕ → List ℕ → Result (List ℕ) Complaint
filled size line address [] memory = Ok memory
filled size line address (b ∷ bs) memory =
    if nat_lt address size then filled size line (address + 1) bs (put address b memory) else wrong_at line OutsidePart

abbrev pub is_same : Who → Who → Bool
is_same Quick Quick = true
is_same Slow Slow = true
is_same Quick Slow = false
is_same Slow Quick = false

-- with the bytes of a line, if it is one of this console's
abbrev pub one_filled : Who → (size : ℕ) → Patch → List ℕ → Result (List ℕ) Complaint
one_filled who size x memory = if is_same who x.fill.who then filled size x.line x.fill.address x.fill.bytes memory else Ok memory

-- with those of each line, in their order
unfoldable pub all_filled : Who → (size : ℕ) → List Patch → List ℕ → Result (List ℕ) Complaint
all_filled who size [] memory = Ok memory
all_filled who size (x ∷ xs) memory = one_filled who size x memory >>= all_filled who size xs

-- what is in the memory of a console's part of this size, from address 0 on; behind it is FFh
abbrev pub memory_of : Who → (size : ℕ) → List Patch → Result (List ℕ) Complaint
memory_of who size patches = all_filled who size patches []
