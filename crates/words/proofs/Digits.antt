-- Digits, read from the left.
use Rattle.std.proofs.Common.{◌≡◌, ℕ, ◌+◌, ◌*◌, ◌<◌, ◌≤◌, Bool, true, false, cond, ◌&&◌, eqb, ltb, leb, List, [], ◌∷◌, ◌++◌, length, get_or, take, drop, Some, None, refl, sym, ap, subst, ◌∙◌, arith, mul-le-mul_left}
use Rattle.std.specs.Prelude.{codes}
use Rattle.std.specs.List.{list_all}
use Rattle.std.specs.Str.{bytes_eq}
use Rattle.std.specs.Char.{digit_value}
use Rattle.std.specs.Str.Parse.{IsNumeral, AllDigits, digits_value, digits_value_after}
use Rattle.std.specs.Fmt.{decimal, digits}
use Rattle.std.proofs.lemmas.Bool.{and_parts, and_from, and_right, and_left, lt-ltb, le-ltb, le-leb, lt-leb, leb-true, ne_eqb, cond-true, cond-false, cond_both}
use Rattle.std.proofs.lemmas.List.{at_drop_more, at_drop_all}
use Rattle.std.proofs.lemmas.List.Recursion.{and_from_places, and_fails_at}
use Rattle.std.proofs.lemmas.Fmt.{decimal_is_IsNumeral, digits_is_IsNumeral}
use Rattle.words.specs.Numbers.{is_numeral, numeral_of, number_of, DecimalAgain, HexadecimalAgain, Limited}

-- a digit of the base
abbrev pub in_base : ℕ → ℕ → Bool
in_base base c = ltb (digit_value c) base

-- more digits make no number smaller
grows : (base n : ℕ) (ds : List ℕ) → 1 ≤ base → n ≤ digits_value_after base n ds
grows base n [] h = omega arith
grows base n (c ∷ cs) h = omega (arith, grows base (n * base + digit_value c) cs h, mul-le-mul_left n h)

-- one more digit is read
pub one_more : (base value : ℕ) (ds : List ℕ) (i total : ℕ) → i < length ds → digits_value_after base value (drop i ds) ≡ total
    → digits_value_after base (value * base + digit_value (get_or ds i 0)) (drop (i + 1) ds) ≡ total
one_more base value ds i total lt h = sym (at_drop_more (digits_value_after base value) ds i 0 lt) ∙ h

-- a byte that is no digit spoils the numeral
pub no_digit : (base most : ℕ) (ds : List ℕ) (i : ℕ) → i < length ds → base ≤ digit_value (get_or ds i 0) → None ≡ numeral_of base most ds
no_digit base most ds i lt h =
    let all : list_all (in_base base) ds ≡ false = and_fails_at (list_all (in_base base)) (in_base base) refl (λ x xs. refl) ds i 0 lt (le-ltb (digit_value (get_or ds i 0)) base h) in
    sym (cond-false _ (Some (digits_value base ds)) None (and_left (is_numeral base ds) (leb (digits_value base ds) most) (and_right (ltb 0 (length ds)) (list_all (in_base base) ds) all)))

-- a number that is too large already stays too large
pub too_large : (base most value : ℕ) (ds : List ℕ) (i : ℕ) → i < length ds → 1 ≤ base → digits_value_after base value (drop i ds) ≡ digits_value base ds
    → most < value * base + digit_value (get_or ds i 0) → None ≡ numeral_of base most ds
too_large base most value ds i lt low h large =
    let so_far = value * base + digit_value (get_or ds i 0) in
    let over : most < digits_value base ds = omega (arith, grows base so_far (drop (i + 1) ds) low, one_more base value ds i (digits_value base ds) lt h) in
    sym (cond-false _ (Some (digits_value base ds)) None (and_right (is_numeral base ds) (leb (digits_value base ds) most) (lt-leb (digits_value base ds) most over)))

-- all is read
pub all_read : (base most value : ℕ) (ds : List ℕ) (i : ℕ) → 0 < length ds → length ds ≤ i → ((k : ℕ) → k < i → digit_value (get_or ds k 0) < base) → value ≤ most
    → digits_value_after base value (drop i ds) ≡ digits_value base ds → Some value ≡ numeral_of base most ds
all_read base most value ds i some past each fits h =
    let total : value ≡ digits_value base ds = sym (at_drop_all (digits_value_after base value) ds i past) ∙ h in
    let all : list_all (in_base base) ds ≡ true = and_from_places (list_all (in_base base)) (in_base base) refl (λ x xs. refl) ds 0 (λ k lt. lt-ltb (digit_value (get_or ds k 0)) base (each k (omega arith))) in
    ap Some total
    ∙ sym (cond-true _ (Some (digits_value base ds)) None
    (and_from (is_numeral base ds) (leb (digits_value base ds) most) (and_from (ltb 0 (length ds)) (list_all (in_base base) ds) (lt-ltb 0 (length ds) some) all) (le-leb (digits_value base ds) most (omega arith))))

-- the laws

all_digits : (base : ℕ) (ds : List ℕ) → AllDigits base ds → list_all (in_base base) ds ≡ true
all_digits base [] h = refl
all_digits base (c ∷ cs) h = and_from (in_base base c) (list_all (in_base base) cs) (lt-ltb (digit_value c) base h.0) (all_digits base cs h.1)

numeral_again : (base most n : ℕ) (ds : List ℕ) → IsNumeral base ds → digits_value base ds ≡ n → n ≤ most → numeral_of base most ds ≡ Some n
numeral_again base most n ds is e fits =
    cond-true _ (Some (digits_value base ds)) None
    (and_from (is_numeral base ds) (leb (digits_value base ds) most) (and_from (ltb 0 (length ds)) (list_all (in_base base) ds) (lt-ltb 0 (length ds) is.0) (all_digits base ds is.1)) (le-leb (digits_value base ds) most (omega arith)))
    ∙ ap Some e

-- decimal digits do not begin with 0x
no_prefix : (ds : List ℕ) → AllDigits 10 ds → bytes_eq (take 2 ds) (codes "0x") ≡ false
no_prefix [] h = refl
no_prefix (c ∷ []) h = and_right (eqb c 48) false refl
no_prefix (c ∷ d ∷ ds) h =
    and_right (eqb c 48) (eqb d 120 && true) (and_left (eqb d 120) true (ne_eqb d 120 (λ e. absurd (no_x d e h.1.0))))
  where
    no_x : (d : ℕ) → d ≡ 120 → digit_value d < 10 → ⊥
    no_x d e lt = let is : digit_value 120 < 10 = subst (λ (x : ℕ). digit_value x < 10) e lt in absurd (omega arith)

pub decimal_again : DecimalAgain
unfolding number_of
decimal_again most n fits small =
    let is = decimal_is_IsNumeral n small in
    cond-false (bytes_eq (take 2 (decimal n)) (codes "0x")) _ _ (no_prefix (decimal n) is.0.1) ∙ numeral_again 10 most n (decimal n) is.0 is.1 fits

-- hexadecimal digits behind 0x, with or without zeros before them
pub hexadecimal_read : (most n : ℕ) (ds : List ℕ) → IsNumeral 16 ds → digits_value 16 ds ≡ n → n ≤ most → number_of most (codes "0x" ++ ds) ≡ Some n
unfolding number_of
hexadecimal_read most n ds is e fits = numeral_again 16 most n ds is e fits

pub hexadecimal_again : HexadecimalAgain
hexadecimal_again most n upper fits small =
    let is = digits_is_IsNumeral 16 upper (omega arith) (omega arith) n (omega arith) in
    hexadecimal_read most n (digits 16 upper n) is.0 is.1 fits

some_fits : (base most n : ℕ) (ds : List ℕ) → numeral_of base most ds ≡ Some n → n ≤ most
some_fits base most n ds = by (is_numeral base ds && leb (digits_value base ds) most) refl
  where
    by : (b : Bool) → (is_numeral base ds && leb (digits_value base ds) most) ≡ b → cond b (Some (digits_value base ds)) None ≡ Some n → n ≤ most
    by true e h =
        let same : digits_value base ds ≡ n = cc in
        omega (arith, leb-true (digits_value base ds) most (and_parts (is_numeral base ds) (leb (digits_value base ds) most) e).1)
    by false e h = absurd cc

pub limited : Limited
unfolding number_of
limited most n word =
    cond_both (bytes_eq (take 2 word) (codes "0x")) (numeral_of 16 most (drop 2 word)) (numeral_of 10 most word) (λ o. o ≡ Some n → n ≤ most)
    (λ _. some_fits 16 most n (drop 2 word)) (λ _. some_fits 10 most n word)
