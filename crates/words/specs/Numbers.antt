-- Numbers as words write them.
use Rattle.std.specs.Prelude.{◌≡◌, ℕ, ◌^◌, ◌<◌, ◌≤◌, Bool, ◌&&◌, List, ◌++◌, length, take, drop, Option, Some, None, nat_lt, nat_le, if◌then◌else◌, codes}
use Rattle.std.specs.List.{list_all}
use Rattle.std.specs.Str.{bytes_eq}
use Rattle.std.specs.Char.{digit_value}
use Rattle.std.specs.Str.Parse.{digits_value}
use Rattle.std.specs.Fmt.{decimal, digits}

-- one digit of the base or more, and nothing else
abbrev pub is_numeral : ℕ → List ℕ → Bool
is_numeral base word = nat_lt 0 (length word) && list_all (λ c. nat_lt (digit_value c) base) word

-- the number that digits of the base write, if it is at most `most`
abbrev pub numeral_of : ℕ → ℕ → List ℕ → Option ℕ
numeral_of base most word = if is_numeral base word && nat_le (digits_value base word) most then Some (digits_value base word) else None

-- A number is written in decimal digits, or in hexadecimal ones of either case behind 0x.
unfoldable pub number_of : ℕ → List ℕ → Option ℕ
number_of most word = if bytes_eq (take 2 word) (codes "0x") then numeral_of 16 most (drop 2 word) else numeral_of 10 most word

-- A number that is printed in decimal is read again as that number.
abbrev pub DecimalAgain : Type 0
DecimalAgain = (most n : ℕ) → n ≤ most → n < 2 ^ 64 → number_of most (decimal n) ≡ Some n

-- So is one that is printed in hexadecimal, of either case.
abbrev pub HexadecimalAgain : Type 0
HexadecimalAgain = (most n : ℕ) (upper : Bool) → n ≤ most → n < 2 ^ 64 → number_of most (codes "0x" ++ digits 16 upper n) ≡ Some n

-- No number above the limit is read.
abbrev pub Limited : Type 0
Limited = (most n : ℕ) (word : List ℕ) → number_of most word ≡ Some n → n ≤ most
