-- Memory that is filled byte by byte.
use Rattle.std.proofs.Common.{◌≡◌, ℕ, suc, ◌+◌, ◌-◌, ◌<◌, ◌≤◌, List, [], ◌∷◌, ◌++◌, length, get_or, drop, map, Some, None, Result, Ok, Err, refl, sym, ap, ◌∙◌, append_assoc, arith}
use Rattle.std.specs.Prelude.{replicate}
use Rattle.std.proofs.Math.Seq.{drop-cons}
use Rattle.std.proofs.lemmas.List.{append-nil, length-append, length-replicate, drop_all}
use Rattle.words.specs.Numbers.{number_of}
use Rattle.naming.specs.declared.wrong.Wrong.{Wrong}
use Rattle.naming.specs.Taking.{Words, ◌>>=◌, number_at}
use Rattle.script.specs.declared.entry.Who.{Who}
use Rattle.script.specs.declared.script.Patch.{Patch as Noted}
use Rattle.script.specs.declared.unread.Complaint.{Complaint}
use Rattle.script.specs.declared.unread.Unread.{Unread}
use Rattle.script.specs.declared.unread.Unread.TheVariants as unread
use Rattle.script.specs.Scripts.{Fails, patch}
use Rattle.script.specs.Scripts as scripts
use Rattle.script.specs.Sayings.{all_bytes, bytes_at, or_none}
use Rattle.runner.specs.Memory.{lengthened, one_filled, all_filled}

pub long : (size : ℕ) (memory : List ℕ) → size ≤ length (lengthened size memory)
long size memory = omega (arith, length-append {A = ℕ} memory (replicate (size - length memory) 0xFF), length-replicate {A = ℕ} (size - length memory) 0xFF)

-- one byte FFh more
pub longer : (size : ℕ) (memory : List ℕ) → length memory < size → lengthened size (memory ++ 0xFF ∷ []) ≡ lengthened size memory
longer size memory less = by (size - length memory - 1) (omega arith) (omega (arith, length-append {A = ℕ} memory (0xFF ∷ [])))
  where
    by : (n : ℕ) → size - length memory ≡ suc n → size - length (memory ++ 0xFF ∷ []) ≡ n → lengthened size (memory ++ 0xFF ∷ []) ≡ lengthened size memory
    by n before after = rw (before, after) (append_assoc memory (0xFF ∷ []) (replicate n 0xFF))

pub enough : (size : ℕ) (memory : List ℕ) → size ≤ length memory → lengthened size memory ≡ memory
enough size memory full = let none : size - length memory ≡ 0 = omega arith in rw none (append-nil memory)

-- what was read, and what is left to read

abbrev pub reads : List ℕ → Words → List ℕ
reads bytes ws = or_none (all_bytes ws >>= λ more. Ok (bytes ++ more))

pub at_first : (ws : Words) → or_none (bytes_at ws) ≡ reads [] ws
unfolding all_bytes
at_first [] = refl
at_first (w ∷ ws) = same (all_bytes (w ∷ ws))
  where
    same : (r : Result (List ℕ) Wrong) → or_none r ≡ or_none (r >>= λ more. Ok more)
    same (Ok bytes) = refl
    same (Err e) = refl

pub one_read : (bytes w : List ℕ) (ws : Words) (n : ℕ) → number_of 255 w ≡ Some n → reads bytes (w ∷ ws) ≡ reads (bytes ++ n ∷ []) ws
unfolding all_bytes number_at
one_read bytes w ws n is = rw is (by (all_bytes ws))
  where
    by : (r : Result (List ℕ) Wrong) → or_none ((r >>= λ rest. Ok (n ∷ rest)) >>= λ more. Ok (bytes ++ more)) ≡ or_none (r >>= λ more. Ok ((bytes ++ n ∷ []) ++ more))
    by (Ok rest) = sym (append_assoc bytes (n ∷ []) rest)
    by (Err e) = refl

pub none_read : (bytes w : List ℕ) (ws : Words) → number_of 255 w ≡ None → reads bytes (w ∷ ws) ≡ []
unfolding all_bytes number_at
none_read bytes w ws is = rw is refl

pub all_read : (bytes : List ℕ) → reads bytes [] ≡ bytes
unfolding all_bytes
all_read bytes = append-nil bytes

-- the lines one by one

pub one_line_more : (who : Who) (size : ℕ) (xs : List Noted) (i : ℕ) (d : Noted) (memory : List ℕ) → i < length xs
    → all_filled who size (map patch (drop i xs)) memory ≡ scripts.◌>>=◌ (one_filled who size (patch (get_or xs i d)) memory) (all_filled who size (map patch (drop (suc i) xs)))
unfolding all_filled
one_line_more who size xs i d memory less = rw (drop-cons xs i d less) refl

pub all_at_last : (who : Who) (size : ℕ) (xs : List Noted) (i : ℕ) (memory : List ℕ) → length xs ≤ i → all_filled who size (map patch (drop i xs)) memory ≡ Ok memory
unfolding all_filled
all_at_last who size xs i memory end = rw (drop_all i xs end) refl

-- one line was taken, or refused

pub took : (who : Who) (size : ℕ) (xs : List Noted) (i : ℕ) (d : Noted) (memory more : List ℕ) (total : Result (List ℕ) Complaint) → i < length xs
    → total ≡ all_filled who size (map patch (drop i xs)) memory → one_filled who size (patch (get_or xs i d)) memory ≡ Ok more → total ≡ all_filled who size (map patch (drop (i + 1) xs)) more
took who size xs i d memory more total less so_far is =
    let next : suc i ≡ i + 1 = omega arith in
    let taken : total ≡ all_filled who size (map patch (drop (suc i) xs)) more = so_far ∙ one_line_more who size xs i d memory less ∙ rw is refl in
    taken ∙ ap (λ (k : ℕ). all_filled who size (map patch (drop k xs)) more) next

pub refused : (e : Unread) (who : Who) (size : ℕ) (xs : List Noted) (i : ℕ) (d : Noted) (memory : List ℕ) (total : Result (List ℕ) Complaint) → i < length xs
    → total ≡ all_filled who size (map patch (drop i xs)) memory → Fails e (one_filled who size (patch (get_or xs i d)) memory) → Fails e total
refused unread.Memory who size xs i d memory total less so_far is = tt
refused (unread.Complaint k) who size xs i d memory total less so_far is = so_far ∙ one_line_more who size xs i d memory less ∙ rw is refl
