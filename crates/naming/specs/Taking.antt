-- What is read from the front of a line's words: a value and the words after it, or the first thing that is wrong.
use Rattle.std.specs.Prelude.{◌≡◌, ℕ, List, [], ◌∷◌, Option, Some, None, Result, Ok, Err}
use Rattle.words.specs.Numbers.{number_of}
use Rattle.naming.specs.declared.wrong.Wrong.{Wrong}
use Rattle.naming.specs.declared.wrong.Wrong.TheVariants.{NoNumber, BadNumber, TooManyWords}

abbrev pub Words : Type 0
Words = List (List ℕ)

infixl 10 ◌>>=◌
abbrev pub ◌>>=◌ : {A B : Type 0} → Result A Wrong → (A → Result B Wrong) → Result B Wrong
(Ok x) >>= f = f x
(Err e) >>= f = Err e

-- What a function returned, seen by view, is what the definition gives.
abbrev pub Gives : {X Y : Type 0} → (X → Y) → Result X Wrong → Result Y Wrong → Type 0
Gives view (Ok x) read = read ≡ Ok (view x)
Gives view (Err e) read = read ≡ Err e

abbrev pub numbered : Words → Option ℕ → Result (ℕ × Words) Wrong
numbered ws None = Err BadNumber
numbered ws (Some n) = Ok (n, ws)

-- a number up to a limit
unfoldable pub number_at : ℕ → Words → Result (ℕ × Words) Wrong
number_at most [] = Err NoNumber
number_at most (w ∷ ws) = numbered ws (number_of most w)

-- a number of 8, of 32 and of 64 bits
abbrev pub byte_at : Words → Result (ℕ × Words) Wrong
byte_at ws = number_at 0xFF ws

abbrev pub small_at : Words → Result (ℕ × Words) Wrong
small_at ws = number_at 0xFFFF_FFFF ws

abbrev pub large_at : Words → Result (ℕ × Words) Wrong
large_at ws = number_at 0xFFFF_FFFF_FFFF_FFFF ws

-- nothing is left
abbrev pub ended : {A : Type 0} → A → Words → Result A Wrong
ended x [] = Ok x
ended x (w ∷ ws) = Err TooManyWords
