-- Scripts that are one open and then a list of calls.
use Rattle.std.specs.Prelude.{List, [], ◌∷◌, Option, Some, None}
use Rattle.std.specs.Option.{option_map}
use Rattle.rehearsal.specs.declared.account.Seats.{Seats}
use Rattle.rehearsal.specs.declared.row.Row.{Row}
use Rattle.rehearsal.specs.Rows.{row_of}
use Rattle.script.specs.declared.entry.Request.{Request}
use Rattle.script.specs.declared.entry.Request.TheVariants.{Open, Call, Quiet, Anew}
use Rattle.script.specs.declared.script.Step.{Step}

-- a row more, if the request is a call
abbrev pub with_row : Request → Option (List Row) → Option (List Row)
with_row (Call c) rows = option_map (λ more. row_of c ∷ more) rows
with_row (Open a b) rows = None
with_row Quiet rows = None
with_row Anew rows = None

-- a row for each step, if all are calls
unfoldable pub rows_of : List Step → Option (List Row)
rows_of [] = Some []
rows_of (x ∷ xs) = with_row x.request (rows_of xs)

-- the seats of both consoles and the rows, if the request is an open
abbrev pub seated : Request → Option (List Row) → Option (Seats × Seats × List Row)
seated (Open a b) rows = option_map (λ list. (a, b, list)) rows
seated (Call c) rows = None
seated Quiet rows = None
seated Anew rows = None

-- one open, and then nothing but calls
unfoldable pub list_of : List Step → Option (Seats × Seats × List Row)
list_of [] = None
list_of (x ∷ xs) = seated x.request (rows_of xs)
