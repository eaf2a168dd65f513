-- Reading a page of a part: what it shows, or the first refusal among the bytes that have to be peeked, and how many are fetched.
use Rattle.std.specs.Prelude.{ℕ, zero, suc, ◌+◌, ◌-◌, ◌%◌, cond, if◌then◌else◌, Some, None, Ok, Err, Option, Result, is_some}
use Rattle.fault.specs.declared.cause.Cause.{Cause}
use Rattle.fault.specs.declared.faults.PartFault.{PartFault}
use Rattle.part.specs.Meaning.{Meaning, cell}
use Rattle.part.specs.Calls.{peek_no}
use Rattle.book.specs.declared.page.Page.{Page}
use Rattle.book.specs.Pages.{line_at, used, is_line, page_of}

-- the answer, unless there is a fault
abbrev pub unless : {X : Type 0} → Option PartFault → X → Result X PartFault
unless None x = Ok x
unless (Some f) x = Err f

-- the fault of a call that is refused at a place
abbrev pub fault_at : Option Cause → ℕ → Option PartFault
fault_at None place = None
fault_at (Some cause) place = Some (record { cause = cause; place = place })

-- the first of two faults
abbrev pub first : Option PartFault → Option PartFault → Option PartFault
first None g = g
first (Some f) g = Some f

-- the first refusal among k peeks from an address on
unfoldable pub peeks_no : Meaning → ℕ → ℕ → Option PartFault
peeks_no m from zero = None
peeks_no m from (suc k) = first (peeks_no m from k) (fault_at (peek_no m (from + k)) (from + k))

-- The bytes of a page that have to be peeked are the tally, and the eight of the last used line if there is one.
abbrev pub page_no : Meaning → ℕ → Option PartFault
page_no m at =
    first (fault_at (peek_no m at) at)
    (cond (is_line (used (cell m at))) (peeks_no m (line_at at (used (cell m at))) 8) None)

-- What a page shows, or why it cannot be read.
unfoldable pub reading : Meaning → ℕ → Result Page PartFault
reading m at = unless (page_no m at) (page_of m.cells at)

-- a count of bytes after k more, modulo 4,294,967,296
abbrev pub counted : ℕ → ℕ → ℕ
counted n k = (n + k) % 4294967296

-- how many of k bytes from an address on are fetched: all of them, or those before the one that is refused
abbrev pub got : Option PartFault → ℕ → ℕ → ℕ
got None from k = k
got (Some f) from k = f.place - from

-- how many bytes a page takes by its tally: the tally itself, and eight more where a line is used
abbrev pub fetched_of : ℕ → ℕ
fetched_of tally = if is_line (used tally) then 9 else 1

-- how many bytes a reading of a page fetches, up to the first that is refused
unfoldable pub page_bytes : Meaning → ℕ → ℕ
page_bytes m at =
    if is_some (peek_no m at) then 0 else
    if is_line (used (cell m at)) then 1 + got (peeks_no m (line_at at (used (cell m at))) 8) (line_at at (used (cell m at))) 8
    else 1
