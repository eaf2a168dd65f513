-- Worked examples: cycles on a chip, and calls on a console, with the bytes that come of them.
use Rattle.std.specs.Prelude.{◌≡◌, ℕ, ◌+◌, true, false, List, [], ◌∷◌, ◌++◌, map, is_ok, None, Result, slice_index}
use Rattle.geometry.specs.Plans.{bench}
use Rattle.chip.specs.Examples as chips
use Rattle.part.specs.Meaning.{Meaning, guarded, Lawful}
use Rattle.fault.specs.declared.faults.ConsoleFault.{ConsoleFault}
use Rattle.console.specs.declared.answers.Answer.{Answer}
use Rattle.console.specs.declared.call.Call.{Call}
use Rattle.console.specs.declared.call.Call.TheVariants.{Set, Clear}
use Rattle.console.specs.Desks.{Desk, closed}
use Rattle.console.specs.Opening.{Opens}
use Rattle.rehearsal.specs.declared.line.Line.{Line}
use Rattle.rehearsal.specs.Accounts.{Played}
use Rattle.rehearsal.specs.Promises.{BlankBlock, Unworn}

-- a cell: its address and its byte
pub record Cell : Type 0 where
  pub address : ℕ
  pub byte : ℕ

pub data Example : Type 0 where
  -- cycles on a fresh bench chip, and the bytes that are read
  cycles : chips.Example → Example
  -- calls on a console that is opened on blocks 1 and 2 of a bench part, and some of its cells afterwards
  calls : List Call → List Cell → Example

-- the cells from an address on
abbrev pub from : ℕ → List ℕ → List Cell
from a [] = []
from a (byte ∷ bytes) = record { address = a; byte = byte } ∷ from (a + 1) bytes

-- Position 3 of a book in block 1 is the page at 4C0h: its tally is there, line 1 at 4C8h, and line 2 at 4D0h.
abbrev pub table : List Example
table =
    map cycles chips.table
    -- Position 3 is set to 1: line 1 is 00 00 00 00 00 00 00 01, and the tally says that one line is used.
    ++ calls (Set 3 1 ∷ [])
    (from 0x4C8 (0x00 ∷ 0x00 ∷ 0x00 ∷ 0x00 ∷ 0x00 ∷ 0x00 ∷ 0x00 ∷ 0x01 ∷ []) ++ from 0x4C0 (0xFE ∷ []))
    -- Then it is cleared: the tally says that two lines are used, and line 2 is FFh throughout.
    ∷ calls (Set 3 1 ∷ Clear 3 ∷ [])
    (from 0x4C0 (0xFC ∷ []) ++ from 0x4D0 (0xFF ∷ 0xFF ∷ 0xFF ∷ 0xFF ∷ 0xFF ∷ 0xFF ∷ 0xFF ∷ 0xFF ∷ []))
    ∷ []

-- A part with the blocks of the bench chip, where block 1 begins at 400h and block 2 at 600h, 512 bytes each. The two are blank,
-- and neither guarded nor worn, and no erasure stands. What the other blocks hold does not matter.
pub record BenchPart (m : Meaning) : Type 0 where
  pub lawful : Lawful m
  pub sizes : m.sizes ≡ bench.sizes
  pub first_blank : BlankBlock m 1
  pub second_blank : BlankBlock m 2
  pub first_open : guarded m 1 ≡ false
  pub second_open : guarded m 2 ≡ false
  pub unworn : Unworn m (record { first = 1; second = 2 })
  pub still : m.erasure ≡ None

-- every call was accepted
abbrev pub AllAccepted : List Line → Type 0
AllAccepted [] = Unit {0}
AllAccepted (l ∷ log) = (is_ok l.reply ≡ true) × AllAccepted log

-- each of these cells has its byte
abbrev pub Hold : List ℕ → List Cell → Type 0
Hold cells [] = Unit {0}
Hold cells (c ∷ cs) = (slice_index cells c.address ≡ c.byte) × Hold cells cs

-- Everything was accepted, and the part has these cells.
pub record Ends (opening : Result Answer ConsoleFault) (log : List Line) (e : Desk) (cells : List Cell) : Type 0 where
  pub opened : is_ok opening ≡ true
  pub accepted : AllAccepted log
  pub holds : Hold e.part.cells cells

-- An example comes out as the table says: for calls on every bench part, whatever times its calls take.
abbrev pub ComesOut : Example → Type 0
ComesOut (cycles x) = chips.outcome chips.bench_chip x.cycles ≡ x.reads
ComesOut (calls list cells) =
    (m : Meaning) (opening : Result Answer ConsoleFault) (start e : Desk) (log : List Line)
    → BenchPart m → Opens (closed m) 1 2 opening start → Played start list log e → Ends opening log e cells

-- every example comes out as the table says
abbrev pub Each : List Example → Type 0
Each [] = Unit {0}
Each (x ∷ xs) = ComesOut x × Each xs

abbrev pub WorkedExamples : Type 0
WorkedExamples = Each table
