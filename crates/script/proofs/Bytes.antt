-- The bytes of a line, word by word.
use Rattle.std.proofs.Common.{◌≡◌, ℕ, true, List, [], ◌∷◌, Option, Some, None, Result, Ok, Err, refl}
use Rattle.std.specs.Option.{is_some}
use Rattle.words.specs.Lines.{words_of}
use Rattle.words.specs.Numbers.{number_of}
use Rattle.naming.specs.declared.wrong.Wrong.{Wrong}
use Rattle.naming.specs.declared.wrong.Wrong.TheVariants.{BadNumber}
use Rattle.naming.specs.Taking.{Words, Gives, ◌>>=◌, number_at, ended}
use Rattle.script.specs.declared.entry.Entry.{Entry}
use Rattle.script.specs.Sayings.{all_bytes, bytes_at, or_none, bytes_in, saying_of}

-- what is wrong, if anything
abbrev pub blame : {A : Type 0} → Result A Wrong → Option Wrong
blame (Ok x) = None
blame (Err e) = Some e

one_more : (n : ℕ) (r : Result (List ℕ) Wrong) → blame (r >>= λ rest. Ok (n ∷ rest)) ≡ blame r
one_more n (Ok bytes) = refl
one_more n (Err e) = refl

pub one_byte : (line after w : List ℕ) (n : ℕ) → words_of line ≡ w ∷ words_of after → number_of 255 w ≡ Some n → blame (all_bytes (words_of line)) ≡ blame (all_bytes (words_of after))
unfolding all_bytes number_at
one_byte line after w n e is = rw (e, is) (one_more n (all_bytes (words_of after)))

pub some_of : (o : Option ℕ) → is_some o ≡ true → (n : ℕ) × (o ≡ Some n)
some_of None e = absurd cc
some_of (Some n) e = (n, refl)

pub bad_byte : (line after w : List ℕ) → words_of line ≡ w ∷ words_of after → number_of 255 w ≡ None → blame (all_bytes (words_of line)) ≡ Some BadNumber
unfolding all_bytes number_at
bad_byte line after w e is = rw (e, is) refl

pub no_bytes : (line : List ℕ) → words_of line ≡ [] → blame (all_bytes (words_of line)) ≡ None
unfolding all_bytes
no_bytes line e = rw e refl

right : (r : Result (List ℕ) Wrong) → blame r ≡ None → r ≡ Ok (or_none r)
right (Ok bytes) e = refl
right (Err w) e = absurd cc

pub all_right : (line : List ℕ) → blame (bytes_at (words_of line)) ≡ None → bytes_at (words_of line) ≡ Ok (bytes_in line)
all_right line e = right (bytes_at (words_of line)) e

wrong : (r : Result (List ℕ) Wrong) (w : Wrong) → blame r ≡ Some w → r ≡ Err w
wrong (Ok bytes) w e = absurd cc
wrong (Err v) w e = cc

pub all_wrong : (line : List ℕ) (w : Wrong) → blame (bytes_at (words_of line)) ≡ Some w → bytes_at (words_of line) ≡ Err w
all_wrong line w e = wrong (bytes_at (words_of line)) w e

pub begins : (line after w : List ℕ) → words_of line ≡ w ∷ words_of after → blame (bytes_at (words_of line)) ≡ blame (all_bytes (words_of line))
begins line after w e = rw e refl

-- An entry with nothing left of its line says the same.
pub ended_said : (x : Entry) (ws : Words) → Gives (λ e. saying_of e) (ended x ws) (ended (saying_of x) ws)
ended_said x [] = refl
ended_said x (w ∷ ws) = refl
