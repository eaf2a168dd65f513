-- What a line of a script says, word by word, and the first thing that is wrong with it from left to right.
use Rattle.std.specs.Prelude.{ℕ, List, [], ◌∷◌, Option, Some, None, Result, Ok, Err, if◌then◌else◌, codes}
use Rattle.std.specs.Str.{bytes_eq}
use Rattle.rehearsal.specs.declared.account.Seats.{Seats}
use Rattle.console.specs.declared.call.Call.{Call}
use Rattle.console.specs.declared.call.Call.TheVariants as calls
use Rattle.words.specs.Lines.{is_printable, uncommented, words_of}
use Rattle.naming.specs.Taking.{Words, ◌>>=◌, small_at, large_at, ended}
use Rattle.naming.specs.Setups.{setup_at}
use Rattle.pile.specs.declared.kind.Kind.{Kind}
use Rattle.pile.specs.declared.kind.Kind.TheVariants.{Chip, Array}
use Rattle.script.specs.declared.entry.Pieces.{Pieces}
use Rattle.script.specs.declared.entry.Pieces.TheVariants.{One, Two, Three, Four}
use Rattle.script.specs.declared.entry.Request.TheVariants as requests
use Rattle.script.specs.declared.entry.Who.{Who}
use Rattle.script.specs.declared.entry.Who.TheVariants as consoles
use Rattle.script.specs.Sayings.{Fill, Saying, bytes_at}
use Rattle.script.specs.Sayings as says
use Rattle.script.specs.declared.head.Head.{Head}
use Rattle.script.specs.declared.head.Head.TheVariants.{Quick, Slow, Open, Set, Clear, Recall, Next, Wait, Quiet, Anew, Cells}
use Rattle.naming.specs.declared.wrong.Wrong.{Wrong}
use Rattle.naming.specs.declared.wrong.Wrong.TheVariants.{NotPrintable, UnknownWord, NoPiece, UnknownPiece, TooManyWords, TooManyPieces, NoConsole, UnknownConsole}

-- a chip by its setup
unfoldable pub chip_at : Words → Result (Kind × Words) Wrong
chip_at ws = do
  setup ← setup_at ws
  Ok (Chip setup.0, setup.1)

-- how many blocks, and how many bytes each has
unfoldable pub layout_at : Words → Result (Kind × Words) Wrong
layout_at ws = do
  count ← small_at ws
  width ← small_at count.1
  Ok (Array (record { count = count.0; width = width.0 }), width.1)

-- a piece of a part
unfoldable pub piece_at : Words → Result (Kind × Words) Wrong
piece_at [] = Err NoPiece
piece_at (w ∷ ws) =
    if bytes_eq w (codes "chip") then chip_at ws else
    (if bytes_eq w (codes "array") then layout_at ws else Err UnknownPiece)

-- a piece that a + joins to those before it, unless the line ends
unfoldable pub joined_at : Words → Result (Option (Kind × Words)) Wrong
joined_at [] = Ok None
joined_at (w ∷ ws) = if bytes_eq w (codes "+") then (piece_at ws >>= λ k. Ok (Some k)) else Err TooManyWords

-- After the fourth piece nothing is left.
abbrev pub four_of : Pieces → Words → Result Pieces Wrong
four_of p [] = Ok p
four_of p (w ∷ ws) = if bytes_eq w (codes "+") then Err TooManyPieces else Err TooManyWords

abbrev pub fourth : Kind → Kind → Kind → Option (Kind × Words) → Result Pieces Wrong
fourth a b c None = Ok (Three a b c)
fourth a b c (Some d) = four_of (Four a b c d.0) d.1

abbrev pub third : Kind → Kind → Option (Kind × Words) → Result Pieces Wrong
third a b None = Ok (Two a b)
third a b (Some c) = joined_at c.1 >>= fourth a b c.0

abbrev pub second : Kind → Option (Kind × Words) → Result Pieces Wrong
second a None = Ok (One a)
second a (Some b) = joined_at b.1 >>= third a b.0

-- a part, to the end of the line: one to four pieces
unfoldable pub pieces_of : Words → Result Pieces Wrong
pieces_of ws = do
  a ← piece_at ws
  b ← joined_at a.1
  second a.0 b

-- what the first word of a line names
abbrev pub head_of : List ℕ → Option Head
head_of w =
    if bytes_eq w (codes "set") then Some Set else
    (if bytes_eq w (codes "clear") then Some Clear else
    (if bytes_eq w (codes "recall") then Some Recall else
    (if bytes_eq w (codes "next") then Some Next else
    (if bytes_eq w (codes "wait") then Some Wait else
    (if bytes_eq w (codes "quiet") then Some Quiet else
    (if bytes_eq w (codes "open") then Some Open else
    (if bytes_eq w (codes "quick") then Some Quick else
    (if bytes_eq w (codes "slow") then Some Slow else
    (if bytes_eq w (codes "cells") then Some Cells else
    (if bytes_eq w (codes "anew") then Some Anew else None))))))))))

abbrev pub asked : Call → Saying
asked c = says.Request (requests.Call c)

-- the two blocks of one console's books
unfoldable pub seats_at : Words → Result (Seats × Words) Wrong
seats_at ws = do
  first ← small_at ws
  second ← small_at first.1
  Ok (record { first = first.0; second = second.0 }, second.1)

-- one position, and nothing else
unfoldable pub position_of : (ℕ → Call) → Words → Result Saying Wrong
position_of call ws = do
  position ← small_at ws
  ended (asked (call position.0)) position.1

-- which console
unfoldable pub who_at : Words → Result (Who × Words) Wrong
who_at [] = Err NoConsole
who_at (w ∷ ws) =
    if bytes_eq w (codes "quick") then Ok (consoles.Quick, ws) else
    (if bytes_eq w (codes "slow") then Ok (consoles.Slow, ws) else Err UnknownConsole)

-- a console, an address, and one byte or more
unfoldable pub fill_at : Words → Result Fill Wrong
fill_at ws = do
  who ← who_at ws
  address ← small_at who.1
  bytes ← bytes_at address.1
  Ok (record { who = who.0; address = address.0; bytes = bytes })

-- what the rest of the line says, by its first word
unfoldable pub rest_of : Head → Words → Result Saying Wrong
rest_of Quick ws = do
  pieces ← pieces_of ws
  Ok (says.Quick pieces)
rest_of Slow ws = do
  pieces ← pieces_of ws
  Ok (says.Slow pieces)
rest_of Open ws = do
  quick ← seats_at ws
  slow ← seats_at quick.1
  ended (says.Request (requests.Open quick.0 slow.0)) slow.1
rest_of Set ws = do
  position ← small_at ws
  stops ← large_at position.1
  ended (asked (calls.Set position.0 stops.0)) stops.1
rest_of Clear ws = position_of (λ p. calls.Clear p) ws
rest_of Recall ws = position_of (λ p. calls.Recall p) ws
rest_of Next ws = position_of (λ p. calls.Next p) ws
rest_of Wait ws = position_of (λ n. calls.Wait n) ws
rest_of Quiet ws = ended (says.Request requests.Quiet) ws
rest_of Anew ws = ended (says.Request requests.Anew) ws
rest_of Cells ws = do
  fill ← fill_at ws
  Ok (says.Cells fill)

abbrev pub headed : Option Head → Words → Result Saying Wrong
headed None ws = Err UnknownWord
headed (Some h) ws = rest_of h ws

-- A line of no words says nothing.
unfoldable pub words_read : Words → Result (Option Saying) Wrong
words_read [] = Ok None
words_read (w ∷ ws) = do
  entry ← headed (head_of w) ws
  Ok (Some entry)

-- what a line says, if anything
unfoldable pub line_read : List ℕ → Result (Option Saying) Wrong
line_read line = if is_printable line then words_read (words_of (uncommented line)) else Err NotPrintable
