-- What a line of a script says.
use Rattle.std.specs.Prelude.{ℕ, List, [], ◌∷◌, Result, Ok, Err}
use Rattle.words.specs.Lines.{words_of}
use Rattle.naming.specs.declared.wrong.Wrong.{Wrong}
use Rattle.naming.specs.declared.wrong.Wrong.TheVariants.{NoNumber}
use Rattle.naming.specs.Taking.{Words, ◌>>=◌, byte_at}
use Rattle.script.specs.declared.entry.Pieces.{Pieces}
use Rattle.script.specs.declared.entry.Request.{Request as Asked}
use Rattle.script.specs.declared.entry.Who.{Who}
use Rattle.script.specs.declared.entry.Cells.{Cells as Written}
use Rattle.script.specs.declared.entry.Entry.{Entry}
use Rattle.script.specs.declared.entry.Entry.TheVariants as entries

-- bytes in the memory of a console's part, from an address on
pub record Fill : Type 0 where
  pub who : Who
  pub address : ℕ
  pub bytes : List ℕ

-- the quick console's part, the slow one's, what is in the memory of either, or what is asked of both
pub data Saying : Type 0 where
  Quick : Pieces → Saying
  Slow : Pieces → Saying
  Cells : Fill → Saying
  Request : Asked → Saying

-- each word a byte
unfoldable pub all_bytes : Words → Result (List ℕ) Wrong
all_bytes [] = Ok []
all_bytes (w ∷ ws) = do
  first ← byte_at (w ∷ [])
  rest ← all_bytes ws
  Ok (first.0 ∷ rest)

-- one byte or more, and nothing else
abbrev pub bytes_at : Words → Result (List ℕ) Wrong
bytes_at [] = Err NoNumber
bytes_at (w ∷ ws) = all_bytes (w ∷ ws)

-- the value; none of what is wrong
abbrev pub or_none : Result (List ℕ) Wrong → List ℕ
or_none (Ok bytes) = bytes
or_none (Err e) = []

-- the bytes that a line's words write
abbrev pub bytes_in : List ℕ → List ℕ
bytes_in line = or_none (bytes_at (words_of line))

abbrev pub fill : Written → Fill
fill c = record { who = c.who; address = c.address; bytes = bytes_in c.bytes.now }

-- what an entry says, wherever its words stand
abbrev pub saying_of : Entry → Saying
saying_of (entries.Quick p) = Quick p
saying_of (entries.Slow p) = Slow p
saying_of (entries.Cells c) = Cells (fill c)
saying_of (entries.Request r) = Request r
