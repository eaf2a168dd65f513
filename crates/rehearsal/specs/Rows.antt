-- The rows of an account: the calls, and the lines of either console.
use Rattle.std.specs.Prelude.{List, map, Err}
use Rattle.fault.specs.declared.cause.Cause.TheVariants.{OutOfTurn}
use Rattle.console.specs.declared.call.Call.{Call}
use Rattle.console.specs.Faults.{no_place}
use Rattle.rehearsal.specs.declared.line.Line.{Line}
use Rattle.rehearsal.specs.declared.row.Row.{Row}
use Rattle.rehearsal.specs.declared.row.Side.{Side}
use Rattle.rehearsal.specs.declared.row.Side.TheVariants.{Quick, Slow}

-- a line that is not written yet: as a closed console answers a wait
abbrev pub unwritten : Line
unwritten = record { before = 0; after = 0; reply = Err (no_place OutOfTurn 0) }

-- a row for a call
abbrev pub row_of : Call → Row
row_of call = record { call = call; quick = unwritten; slow = unwritten }

-- the calls of an account
abbrev pub calls_of : List Row → List Call
calls_of rows = map (λ row. row.call) rows

-- the lines of one console
abbrev pub line_of : Side → Row → Line
line_of Quick row = row.quick
line_of Slow row = row.slow

abbrev pub lines_of : Side → List Row → List Line
lines_of side rows = map (line_of side) rows

abbrev pub quick_lines : List Row → List Line
quick_lines rows = lines_of Quick rows

abbrev pub slow_lines : List Row → List Line
slow_lines rows = lines_of Slow rows

-- the console beside this one
abbrev pub other : Side → Side
other Quick = Slow
other Slow = Quick

-- a row with the line of one console
abbrev pub noted : Side → Line → Row → Row
noted Quick line row = record row { quick = line }
noted Slow line row = record row { slow = line }
