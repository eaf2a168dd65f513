-- A line is cut at its spaces.
use Rattle.std.proofs.Common.{◌≡◌, ℕ, zero, suc, ◌<◌, ◌≤◌, true, false, not, eqb, List, [], ◌∷◌, ◌++◌, length, filter, get_or, take, drop, refl, sym, ap, ◌∙◌, arith}
use Rattle.std.specs.List.{All, list_all, slice_split, position_or_len}
use Rattle.std.proofs.lemmas.Bool.{and_parts, not-true, ne_eqb}
use Rattle.std.proofs.lemmas.List.{append-nil, take-append-drop, length-take-le, get_or-take, get_or_default, take_all, take_at, get_or_at, get_or_append_left, length-append}
use Rattle.std.proofs.lemmas.List.Elements.{All-nil, All-cons}
use Rattle.std.proofs.lemmas.List.Splits.{slice_split_none, slice_split_at}
use Rattle.std.proofs.lemmas.List.Sums.{position_or_len_is}
use Rattle.words.specs.Lines.{is_empty, words_of, is_word, spaced, uncommented, WordsAgain, CommentsSkipped}

-- no byte is c
abbrev pub Without : ℕ → List ℕ → Type 0
Without c bytes = All (λ b. eqb b c ≡ false) bytes

pub without : (c : ℕ) (bytes : List ℕ) → list_all (λ b. not (eqb b c)) bytes ≡ true → Without c bytes
without c [] h = All-nil (λ b. eqb b c ≡ false)
without c (b ∷ bs) h =
    let p = and_parts (not (eqb b c)) (list_all (λ b. not (eqb b c)) bs) h in
    All-cons (λ b. eqb b c ≡ false) b bs (not-true (eqb b c) p.0) (without c bs p.1)

-- what follows a word: nothing, or a space
abbrev pub Ends : List ℕ → Type 0
Ends [] = Unit {0}
Ends (b ∷ bs) = b ≡ 32

-- what was cut off is a word, unless it is empty
kept : (b : ℕ) (bs : List ℕ) (pieces : List (List ℕ)) (line : List ℕ) → slice_split (λ b. eqb b 32) line ≡ (b ∷ bs) ∷ pieces
    → words_of line ≡ (b ∷ bs) ∷ filter (λ piece. not (is_empty piece)) pieces
kept b bs pieces line e = ap (filter (λ piece. not (is_empty piece))) e

-- a word at the front of a line is its first word
pub word_first : (word rest : List ℕ) → 0 < length word → Without 32 word → Ends rest → words_of (word ++ rest) ≡ word ∷ words_of rest
word_first [] rest some plain ends = absurd (omega arith)
word_first (b ∷ bs) [] some plain ends = ap words_of (append-nil (b ∷ bs)) ∙ kept b bs [] (b ∷ bs) (slice_split_none (λ b. eqb b 32) (b ∷ bs) plain)
word_first (b ∷ bs) (c ∷ cs) some plain ends =
    rw ends (kept b bs (slice_split (λ b. eqb b 32) cs) ((b ∷ bs) ++ 32 ∷ cs) (slice_split_at (λ b. eqb b 32) (b ∷ bs) 32 cs plain refl))

-- the first n bytes, where none is c
pub below : (c : ℕ) (xs : List ℕ) (n : ℕ) → n ≤ length xs → ((k : ℕ) → k < n → get_or xs k 0 ≡ c → ⊥) → Without c (take n xs)
below c xs n within none k d h =
    let len : length (take n xs) ≡ n = length-take-le n xs within in
    let lt : k < n = omega arith in
    let e : get_or (take n xs) k d ≡ get_or xs k 0 = get_or-take n xs k d lt ∙ get_or_default xs k d 0 (omega arith) in
    rw e (ne_eqb (get_or xs k 0) c (none k lt))

-- what stands from n on, where that is the end or a space
ends_at : (xs : List ℕ) (n : ℕ) → (n < length xs → get_or xs n 0 ≡ 32) → Ends (drop n xs)
ends_at [] zero h = tt
ends_at [] (suc n) h = tt
ends_at (x ∷ xs) zero h = h (omega arith)
ends_at (x ∷ xs) (suc n) h = ends_at xs n (λ lt. h (omega arith))

-- the first n bytes are the first word, where they have no space and one follows, or the end
pub cut : (xs : List ℕ) (n : ℕ) → 0 < n → n ≤ length xs → ((k : ℕ) → k < n → get_or xs k 0 ≡ 32 → ⊥) → (n < length xs → get_or xs n 0 ≡ 32)
    → words_of xs ≡ take n xs ∷ words_of (drop n xs)
cut xs n some within none ends =
    ap words_of (sym (take-append-drop n xs))
    ∙ word_first (take n xs) (drop n xs) (omega (arith, length-take-le n xs within)) (below 32 xs n within none) (ends_at xs n ends)

-- the law of words

pub words_again : WordsAgain
words_again [] h = refl
words_again (w ∷ []) h =
    let p = and_parts (not (is_empty w)) (list_all (λ b. not (eqb b 32)) w) (and_parts (is_word w) true h).0 in
    ap words_of (sym (append-nil w)) ∙ word_first w [] (filled w p.0) (without 32 w p.1) tt
  where
    filled : (w : List ℕ) → not (is_empty w) ≡ true → 0 < length w
    filled [] e = absurd cc
    filled (b ∷ bs) e = omega arith
words_again (w ∷ v ∷ ws) h =
    let q = and_parts (is_word w) (list_all is_word (v ∷ ws)) h in
    let p = and_parts (not (is_empty w)) (list_all (λ b. not (eqb b 32)) w) q.0 in
    word_first w (32 ∷ spaced (v ∷ ws)) (filled w p.0) (without 32 w p.1) refl ∙ ap (λ (rest : List (List ℕ)). w ∷ rest) (words_again (v ∷ ws) q.1)
  where
    filled : (w : List ℕ) → not (is_empty w) ≡ true → 0 < length w
    filled [] e = absurd cc
    filled (b ∷ bs) e = omega arith

-- words with a space before each
abbrev pub spread : List (List ℕ) → List ℕ
spread [] = []
spread (w ∷ ws) = 32 ∷ (w ++ spread ws)

-- the first word, and then the others
pub spaced_first : (w : List ℕ) (ws : List (List ℕ)) → spaced (w ∷ ws) ≡ w ++ spread ws
spaced_first w [] = sym (append-nil w)
spaced_first w (v ∷ ws) = ap (λ (rest : List ℕ). w ++ 32 ∷ rest) (spaced_first v ws)

-- the law of comments

pub comments_skipped : CommentsSkipped
comments_skipped line comment h = (whole, cut_off)
  where
    plain : (k : ℕ) → k < length line → eqb (get_or line k 0) 35 ≡ false
    plain k lt = without 35 line h k 0 lt

    whole : uncommented line ≡ line
    whole = take_all _ line (omega (arith, position_or_len_is (λ b. eqb b 35) line (length line) 0 (omega arith) plain (λ lt. absurd (omega arith))))

    cut_off : uncommented (line ++ 35 ∷ comment) ≡ line
    cut_off =
        let long : List ℕ = line ++ 35 ∷ comment in
        let place : position_or_len (λ b. eqb b 35) long ≡ length line =
        position_or_len_is (λ b. eqb b 35) long (length line) 0 (omega (arith, length-append line (35 ∷ comment)))
        (λ k lt. rw (get_or_append_left line (35 ∷ comment) 0 k lt) (plain k lt))
        (λ lt. rw (get_or_at line 35 comment 0 (length line) refl) refl)
        in
        ap (λ (n : ℕ). take n long) place ∙ take_at line (35 ∷ comment) (length line) refl
