-- Words that a line can be made of.
use Rattle.std.proofs.Common.{◌≡◌, ℕ, ◌<◌, ◌≤◌, ◌^◌, Bool, true, not, ◌&&◌, eqb, leb, List, [], ◌∷◌, ◌++◌, length, refl, ap, ◌∙◌, arith}
use Rattle.std.specs.List.{list_all}
use Rattle.std.specs.Char.{digit_value}
use Rattle.std.specs.Str.Parse.{AllDigits}
use Rattle.std.specs.Fmt.{decimal}
use Rattle.std.proofs.lemmas.Bool.{and_parts, and_from, ne_eqb, le-leb, leb-true, not_from_false, cond-true}
use Rattle.std.proofs.lemmas.Bool.Decides.{nat_tests}
use Rattle.std.proofs.lemmas.Fmt.{decimal_is_IsNumeral}
use Rattle.words.specs.Lines.{is_empty, is_printable, is_word, uncommented, words_of, spaced}
use Rattle.words.proofs.Cutting.{words_again, comments_skipped}
use Rattle.naming.specs.Taking.{Words}
use Rattle.script.specs.Grammar.{words_read, line_read}

-- what can be printed, but no space and no #
abbrev pub plain_byte : ℕ → Bool
plain_byte b = (leb 33 b && leb b 126) && not (eqb b 35)

abbrev pub is_plain : List ℕ → Bool
is_plain w = not (is_empty w) && list_all plain_byte w

-- a test that follows from another
pub weaker : {X : Type 0} (p q : X → Bool) → ((x : X) → p x ≡ true → q x ≡ true) → (xs : List X) → list_all p xs ≡ true → list_all q xs ≡ true
weaker p q h [] all = refl
weaker p q h (x ∷ xs) all =
    let s = and_parts (p x) (list_all p xs) all in
    and_from (q x) (list_all q xs) (h x s.0) (weaker p q h xs s.1)

pub all_append : {X : Type 0} (p : X → Bool) (xs ys : List X) → list_all p xs ≡ true → list_all p ys ≡ true → list_all p (xs ++ ys) ≡ true
all_append p [] ys h k = k
all_append p (x ∷ xs) ys h k =
    let s = and_parts (p x) (list_all p xs) h in
    and_from (p x) (list_all p (xs ++ ys)) s.0 (all_append p xs ys s.1 k)

-- words of bytes that pass, with spaces between them
pub spaced_all : (p : ℕ → Bool) → p 32 ≡ true → (ws : Words) → list_all (list_all p) ws ≡ true → list_all p (spaced ws) ≡ true
spaced_all p space [] h = refl
spaced_all p space (w ∷ []) h = (and_parts (list_all p w) true h).0
spaced_all p space (w ∷ v ∷ ws) h =
    let s = and_parts (list_all p w) (list_all (list_all p) (v ∷ ws)) h in
    all_append p w (32 ∷ spaced (v ∷ ws)) s.0 (and_from (p 32) (list_all p (spaced (v ∷ ws))) space (spaced_all p space (v ∷ ws) s.1))

pub plain_parts : (b : ℕ) → plain_byte b ≡ true → (33 ≤ b) × (b ≤ 126) × (not (eqb b 35) ≡ true)
plain_parts b h =
    let s = and_parts (leb 33 b && leb b 126) (not (eqb b 35)) h in
    let t = and_parts (leb 33 b) (leb b 126) s.0 in
    (leb-true 33 b t.0, leb-true b 126 t.1, s.1)

abbrev printable : ℕ → Bool
printable b = leb 32 b && leb b 126

plain_prints : (b : ℕ) → plain_byte b ≡ true → printable b ≡ true
plain_prints b h = let s = plain_parts b h in and_from (leb 32 b) (leb b 126) (le-leb 32 b (omega (arith, s.0))) (le-leb b 126 s.1)

no_hash : (b : ℕ) → plain_byte b ≡ true → not (eqb b 35) ≡ true
no_hash b h = (plain_parts b h).2

no_space : (b : ℕ) → plain_byte b ≡ true → not (eqb b 32) ≡ true
no_space b h = not_from_false (eqb b 32) (ne_eqb b 32 (λ e. absurd (omega (arith, (plain_parts b h).0))))

-- A line of such words is read word by word.
pub line_of_words : (ws : Words) → list_all is_plain ws ≡ true → line_read (spaced ws) ≡ words_read ws
unfolding line_read
line_of_words ws h =
    let bytes = λ (q : ℕ → Bool) (weak : (b : ℕ) → plain_byte b ≡ true → q b ≡ true). weaker is_plain (list_all q) (λ w g. weaker plain_byte q weak w (and_parts (not (is_empty w)) (list_all plain_byte w) g).1) ws h in
    let prints : is_printable (spaced ws) ≡ true = spaced_all printable refl ws (bytes printable plain_prints) in
    let whole : uncommented (spaced ws) ≡ spaced ws = (comments_skipped (spaced ws) [] (spaced_all (λ b. not (eqb b 35)) refl ws (bytes (λ b. not (eqb b 35)) no_hash))).0 in
    let are_words : list_all is_word ws ≡ true =
    weaker is_plain is_word
    (λ w g. let s = and_parts (not (is_empty w)) (list_all plain_byte w) g in and_from (not (is_empty w)) (list_all (λ b. not (eqb b 32)) w) s.0 (weaker plain_byte (λ b. not (eqb b 32)) no_space w s.1))
    ws h
    in
    cond-true (is_printable (spaced ws)) _ _ prints ∙ ap words_read (ap words_of whole ∙ words_again ws are_words)

-- digits are plain

digit_within : (c : ℕ) → digit_value c < 36 → (48 ≤ c) × (c ≤ 122)
digit_within c h = grind (arith, nat_tests)

digit_plain : (c : ℕ) → digit_value c < 36 → plain_byte c ≡ true
digit_plain c h =
    let s = digit_within c h in
    and_from (leb 33 c && leb c 126) (not (eqb c 35)) (and_from (leb 33 c) (leb c 126) (le-leb 33 c (omega (arith, s.0))) (le-leb c 126 (omega (arith, s.1)))) (not_from_false (eqb c 35) (ne_eqb c 35 (λ e. absurd (omega (arith, s.0)))))

pub digits_plain : (base : ℕ) (ds : List ℕ) → base ≤ 36 → AllDigits base ds → list_all plain_byte ds ≡ true
digits_plain base [] h all = refl
digits_plain base (c ∷ cs) h all = and_from (plain_byte c) (list_all plain_byte cs) (digit_plain c (omega (arith, all.0))) (digits_plain base cs h all.1)

filled : (w : List ℕ) → 0 < length w → not (is_empty w) ≡ true
filled [] h = absurd (omega arith)
filled (b ∷ bs) h = refl

pub decimal_plain : (n : ℕ) → n < 2 ^ 64 → is_plain (decimal n) ≡ true
decimal_plain n small =
    let is = (decimal_is_IsNumeral n small).0 in
    and_from (not (is_empty (decimal n))) (list_all plain_byte (decimal n)) (filled (decimal n) is.0) (digits_plain 10 (decimal n) (omega arith) is.1)

-- a number among plain words
pub number_plain : (n : ℕ) (ws : Words) → n < 2 ^ 64 → list_all is_plain ws ≡ true → list_all is_plain (decimal n ∷ ws) ≡ true
number_plain n ws small h = and_from (is_plain (decimal n)) (list_all is_plain ws) (decimal_plain n small) h
