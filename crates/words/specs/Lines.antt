-- Lines of text. A line is the bytes between two line ends.
use Rattle.std.specs.Prelude.{◌≡◌, ℕ, Bool, true, false, not, ◌&&◌, List, [], ◌∷◌, ◌++◌, filter, ◌==◌, nat_le}
use Rattle.std.specs.List.{list_all, slice_split, before_first, join_with_byte}

-- only characters of ASCII that can be printed
abbrev pub is_printable : List ℕ → Bool
is_printable line = list_all (λ b. nat_le 32 b && nat_le b 126) line

-- what stands before the first `#`
abbrev pub uncommented : List ℕ → List ℕ
uncommented line = before_first (λ b. b == 35) line

abbrev pub is_empty : List ℕ → Bool
is_empty [] = true
is_empty (b ∷ bs) = false

-- A line is cut at each space, and what is not empty then is a word.
abbrev pub words_of : List ℕ → List (List ℕ)
words_of line = filter (λ piece. not (is_empty piece)) (slice_split (λ b. b == 32) line)

-- one byte or more, and no space
abbrev pub is_word : List ℕ → Bool
is_word word = not (is_empty word) && list_all (λ b. not (b == 32)) word

-- words with a space between each and the next
abbrev pub spaced : List (List ℕ) → List ℕ
spaced words = join_with_byte 32 words

-- Words that are written with a space between each and the next are read again.
abbrev pub WordsAgain : Type 0
WordsAgain = (words : List (List ℕ)) → list_all is_word words ≡ true → words_of (spaced words) ≡ words

-- What stands behind a `#` is not read, and a line with none is read whole.
abbrev pub CommentsSkipped : Type 0
CommentsSkipped = (line comment : List ℕ) → list_all (λ b. not (b == 35)) line ≡ true
    → (uncommented line ≡ line) × (uncommented (line ++ 35 ∷ comment) ≡ line)
