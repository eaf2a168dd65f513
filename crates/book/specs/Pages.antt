-- Which bytes a page is. A page is 64 bytes, given by the address of its first: byte 0 is the tally, bytes 1 to 7 are FFh, and
-- line k, for k from 1 to 7, is bytes 8k to 8k + 7. The tally starts as FFh, and each line that is used turns its lowest 1 bit
-- to 0.
use Rattle.std.specs.Prelude.{ℕ, zero, suc, ◌+◌, ◌-◌, ◌*◌, ◌/◌, ◌%◌, ◌^◌, ◌<◌, Bool, true, cond, ◌&&◌, ◌||◌, List, Some, None, Option, ◌==◌, bit_and, min, nat_lt, slice_index}
use Rattle.std.specs.Int.Count.{count_trailing_zeros}
use Rattle.book.specs.declared.page.Page.{Page}

-- k bytes from an address on end inside the addresses of 32 bits
abbrev pub Addressable : ℕ → ℕ → Type 0
Addressable at k = at + k < 4294967296

-- page p of a book that begins at `start`; page 0 is the head, and position p is page p
abbrev pub page_at : ℕ → ℕ → ℕ
page_at start p = start + 64 * p

abbrev pub line_at : ℕ → ℕ → ℕ
line_at at k = at + 8 * k

-- how many lines a tally says are used
abbrev pub used : ℕ → ℕ
used tally = count_trailing_zeros 8 tally

-- there is a line k
abbrev pub is_line : ℕ → Bool
is_line k = nat_lt 0 k && nat_lt k 8

-- the line that is used next: the one after the last used line, or the last line again where none is free
abbrev pub next_line : ℕ → ℕ
next_line tally = min (used tally + 1) 7

-- the tally with one line more used: its lowest 1 bit is 0
abbrev pub marked : ℕ → ℕ
marked tally = bit_and tally (tally - 1)

-- the number that k bytes spell, the highest first
unfoldable pub spelled : List ℕ → ℕ → ℕ → ℕ
spelled cells at zero = 0
spelled cells at (suc k) = spelled cells at k * 256 + slice_index cells (at + k)

-- byte i of the eight that spell a number, the highest first
abbrev pub byte_of : ℕ → ℕ → ℕ
byte_of n i = n / 2 ^ (56 - 8 * i) % 256

-- a line of FFh throughout is empty; any other is a registration, one bit for each stop
abbrev pub registration : ℕ → Option ℕ
registration n = cond (n == 18446744073709551615) None (Some n)

-- What a page shows: the last used line, or empty where none is used.
abbrev pub shown : List ℕ → ℕ → Option ℕ
shown cells at =
    cond (is_line (used (slice_index cells at))) (registration (spelled cells (line_at at (used (slice_index cells at))) 8)) None

abbrev pub page_of : List ℕ → ℕ → Page
page_of cells at = record { tally = slice_index cells at; stops = shown cells at }

-- k bytes are FFh
unfoldable pub blank : List ℕ → ℕ → ℕ → Bool
blank cells from zero = true
blank cells from (suc k) = blank cells from k && slice_index cells (from + k) == 255

-- a line holds a registration of 63 stops, or is empty
abbrev pub fit_line : ℕ → Bool
fit_line n = nat_lt n 9223372036854775808 || n == 18446744073709551615

-- A page can be read if its tally is FFh with the bits of the used lines turned to 0, bytes 1 to 7 are FFh, the last used line
-- fits, and the lines beyond it are FFh. Used lines before the last may hold anything.
abbrev pub readable_with : List ℕ → ℕ → ℕ → Bool
readable_with cells at k =
    nat_lt k 8 && slice_index cells at == 256 - 2 ^ k && blank cells (at + 1) 7
    && (k == 0 || fit_line (spelled cells (line_at at k) 8))
    && blank cells (line_at at (k + 1)) (56 - 8 * k)

unfoldable pub readable_page : List ℕ → ℕ → Bool
readable_page cells at = readable_with cells at (used (slice_index cells at))

-- the first n positions of a book can be read
unfoldable pub readable_pages : List ℕ → ℕ → ℕ → Bool
readable_pages cells start zero = true
readable_pages cells start (suc n) = readable_pages cells start n && readable_page cells (page_at start (suc n))

-- A book can be read if the rest of its head is FFh and so can each position.
abbrev pub readable_book : List ℕ → ℕ → ℕ → Bool
readable_book cells start n = blank cells (start + 1) 63 && readable_pages cells start n
