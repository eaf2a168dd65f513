-- Cells that are shared out between two sides, and the shape of new pieces end to end.
use Rattle.std.proofs.Common.{◌≡◌, ℕ, zero, suc, ◌≤◌, Bool, true, false, List, [], ◌∷◌, ◌++◌, length, take, drop, None, Result, Ok, Err, refl, ap, ◌∙◌, arith}
use Rattle.std.specs.Prelude.{replicate, IfOk}
use Rattle.std.proofs.lemmas.List.{length-append, length-drop, length-take, length-replicate}
use Rattle.part.specs.Meaning.{Meaning, size, shape_of}
use Rattle.joined.specs.Pile.{joinable, small, made}
use Rattle.pile.specs.declared.kind.Kind.{Kind}
use Rattle.pile.specs.declared.kind.Kind.TheVariants.{Chip, Array}
use Rattle.pile.specs.Pieces.{piece_of, begun_with}
use Rattle.pile.specs.Making.{beside}

-- these in front, and behind them what was there
abbrev over : List ℕ → List ℕ → List ℕ
over c xs = c ++ drop (length c) xs

over_append : (xs ys c : List ℕ) → over c (xs ++ ys) ≡ over (take (length xs) c) xs ++ over (drop (length xs) c) ys
over_append [] ys c = refl
over_append (x ∷ xs) ys [] = refl
over_append (x ∷ xs) ys (b ∷ bs) = ap (λ (zs : List ℕ). b ∷ zs) (over_append xs ys bs)

over_length : (c xs : List ℕ) → length c ≤ length xs → length (over c xs) ≡ length xs
over_length c xs few = omega (arith, length-append c (drop (length c) xs), length-drop (length c) xs)

-- memory that is filled is as long as it was
pub filled_length : (c : List ℕ) (n : ℕ) → length c ≤ n → length (c ++ drop (length c) (replicate n 0xFF)) ≡ n
filled_length c n few = omega (arith, length-append {A = ℕ} c (drop (length c) (replicate n 0xFF)), length-drop {A = ℕ} (length c) (replicate n 0xFF), length-replicate {A = ℕ} n 0xFF)

nothing : (c : List ℕ) → length c ≤ 0 → c ≡ []
nothing [] few = refl
nothing (b ∷ bs) few = absurd (omega arith)

take_none : (n : ℕ) → ◌≡◌ {A = List ℕ} (take n []) []
take_none zero = refl
take_none (suc n) = refl

drop_none : (n : ℕ) → ◌≡◌ {A = List ℕ} (drop n []) []
drop_none zero = refl
drop_none (suc n) = refl

pub front_fits : (m : Meaning) (c : List ℕ) → length (take (size m) c) ≤ size m
front_fits m c = omega (arith, length-take (size m) c)

pub back_fits : (m n : Meaning) (c : List ℕ) → length c ≤ size (made m n) → length (drop (size m) c) ≤ size n
back_fits m n c few = by (joinable m n) refl
  where
    by : (live : Bool) → joinable m n ≡ live → length (drop (size m) c) ≤ size n
    by true e = let room : length c ≤ length (m.cells ++ n.cells) = rw e at few in omega (arith, length-drop (size m) c, length-append m.cells n.cells, room)
    by false e = let none : length c ≤ 0 = rw e at few in omega (arith, length-drop (size m) c, none)

-- A joined part that begins with some cells is that of two sides that begin with theirs.
pub shared : (m n : Meaning) (c : List ℕ) → length c ≤ size (made m n) → made (begun_with (take (size m) c) m) (begun_with (drop (size m) c) n) ≡ begun_with c (made m n)
shared m n c few = by (joinable m n) refl
  where
    front : List ℕ
    front = take (size m) c

    back : List ℕ
    back = drop (size m) c

    by : (live : Bool) → joinable m n ≡ live → made (begun_with front m) (begun_with back n) ≡ begun_with c (made m n)
    by true e =
        let one : length (over front m.cells) ≡ length m.cells = over_length front m.cells (front_fits m c) in
        let two : length (over back n.cells) ≡ length n.cells = over_length back n.cells (back_fits m n c few) in
        let same : joinable (begun_with front m) (begun_with back n) ≡ true = rw (one, two) e in
        rw (same, e, over_append m.cells n.cells c) refl
    by false e =
        let empty : c ≡ [] = nothing c (rw e at few) in
        rw (empty, take_none (size m), drop_none (size m), e) refl

-- the same of what was made of two such sides
pub begun : {A E : Type 0} (means : A → Meaning) {p : Meaning} (r : Result A E) (m n : Meaning) (c front back : List ℕ) → front ≡ take (size m) c → back ≡ drop (size m) c → length c ≤ size (made m n)
    → p ≡ begun_with front m → IfOk r (λ x. means x ≡ made p (begun_with back n)) → IfOk r (λ x. means x ≡ begun_with c (made m n))
begun means (Ok x) m n c front back f b few at e = e ∙ rw (at, f, b) (shared m n c few)
begun means (Err e) m n c front back f b few at g = tt

-- no erasure stands in a new piece, nor in two end to end

piece_idle : (k : Kind) → (piece_of k).erasure ≡ None
piece_idle (Chip s) = refl
piece_idle (Array l) = refl

made_idle : (m n : Meaning) → m.erasure ≡ None → n.erasure ≡ None → (made m n).erasure ≡ None
made_idle m n p q = by (joinable m n) refl
  where
    by : (live : Bool) → joinable m n ≡ live → (made m n).erasure ≡ None
    by true e = rw (e, p, q) refl
    by false e = rw e refl

besides : (m n : Meaning) → m.erasure ≡ None → n.erasure ≡ None → beside (shape_of m) (shape_of n) ≡ shape_of (made m n)
besides m n p q = by (small (shape_of m) (shape_of n)) refl
  where
    by : (live : Bool) → small (shape_of m) (shape_of n) ≡ live → beside (shape_of m) (shape_of n) ≡ shape_of (made m n)
    by true e = rw (e, p, q, length-append m.cells n.cells, length-append m.sizes n.sizes) refl
    by false e = rw e refl

pub shape_of_two : (a b : Kind) → beside (shape_of (piece_of a)) (shape_of (piece_of b)) ≡ shape_of (made (piece_of a) (piece_of b))
shape_of_two a b = besides (piece_of a) (piece_of b) (piece_idle a) (piece_idle b)

two_idle : (a b : Kind) → (made (piece_of a) (piece_of b)).erasure ≡ None
two_idle a b = made_idle (piece_of a) (piece_of b) (piece_idle a) (piece_idle b)

pub shape_of_three : (a b c : Kind) → beside (shape_of (made (piece_of a) (piece_of b))) (shape_of (piece_of c)) ≡ shape_of (made (made (piece_of a) (piece_of b)) (piece_of c))
shape_of_three a b c = besides (made (piece_of a) (piece_of b)) (piece_of c) (two_idle a b) (piece_idle c)

pub shape_of_four : (a b c d : Kind) → beside (shape_of (made (made (piece_of a) (piece_of b)) (piece_of c))) (shape_of (piece_of d)) ≡ shape_of (made (made (made (piece_of a) (piece_of b)) (piece_of c)) (piece_of d))
shape_of_four a b c d =
    besides (made (made (piece_of a) (piece_of b)) (piece_of c)) (piece_of d)
    (made_idle (made (piece_of a) (piece_of b)) (piece_of c) (two_idle a b) (piece_idle c)) (piece_idle d)
