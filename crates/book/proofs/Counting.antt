-- Counting the bytes that are fetched.
use Rattle.std.proofs.Common.{◌≡◌, ℕ, ◌+◌, ◌-◌, ◌<◌, Bool, true, false, cond, Some, None, Ok, Err, Option, Result, sym, refl, ap, ◌∙◌, arith}
use Rattle.std.specs.Prelude.{is_ok, is_some}
use Rattle.fault.specs.declared.cause.Cause.{Cause}
use Rattle.fault.specs.declared.faults.PartFault.{PartFault}
use Rattle.part.specs.Meaning.{Meaning, cell}
use Rattle.part.specs.Calls.{answer, peek_no}
use Rattle.book.specs.Pages.{line_at, used, is_line}
use Rattle.book.specs.Reading.{peeks_no, counted, got, fetched_of, page_bytes}
use Rattle.book.proofs.Peeking.{peek_well, peeks_off}

pub counted_none : (n : ℕ) → n < 4294967296 → n ≡ counted n 0
counted_none n h = omega arith

pub counted_more : (n a b : ℕ) → counted (counted n a) b ≡ counted n (a + b)
counted_more n a b = omega arith

-- One peek more, granted or refused.
pub count_one : (b i x y : ℕ) (r : Result ℕ PartFault) (c : ℕ) → r ≡ Ok c → y ≡ cond (is_ok r) (counted x 1) x → x ≡ counted b i → y ≡ counted b (i + 1)
count_one b i x y r c e n h =
    n ∙ ap (λ (q : Result ℕ PartFault). cond (is_ok q) (counted x 1) x) e ∙ ap (λ (k : ℕ). counted k 1) h ∙ counted_more b i 1

pub count_same : (x y : ℕ) (r : Result ℕ PartFault) (f : PartFault) → r ≡ Err f → y ≡ cond (is_ok r) (counted x 1) x → y ≡ x
count_same x y r f e n = n ∙ ap (λ (q : Result ℕ PartFault). cond (is_ok q) (counted x 1) x) e

-- The bytes before the one that is refused.
refused_place : (o : Option Cause) (a b : ℕ) (f : PartFault) → answer o a b ≡ Err f → f.place ≡ a
refused_place None a b f e = let z : ◌≡◌ {A = ℕ} 0 1 = cc in absurd (omega arith)
refused_place (Some c) a b f e = cc

pub got_some : (m : Meaning) (at i : ℕ) (f : PartFault) → i < 8 → peeks_no m at i ≡ None
    → answer (peek_no m (at + i)) (at + i) (cell m (at + i)) ≡ Err f → got (peeks_no m at 8) at 8 ≡ i
got_some m at i f h e a =
    let place : f.place ≡ at + i = refused_place (peek_no m (at + i)) (at + i) (cell m (at + i)) f a in
    let before : f.place - at ≡ i = omega arith in
    ap (λ (o : Option PartFault). got o at 8) (peeks_off m at i f h e a) ∙ before

pub got_all : (m : Meaning) (at : ℕ) → peeks_no m at 8 ≡ None → got (peeks_no m at 8) at 8 ≡ 8
got_all m at e = ap (λ (o : Option PartFault). got o at 8) e

-- A page, by what was peeked of it.
refused_some : (o : Option Cause) (a b : ℕ) (f : PartFault) → answer o a b ≡ Err f → is_some o ≡ true
refused_some None a b f e = let z : ◌≡◌ {A = ℕ} 0 1 = cc in absurd (omega arith)
refused_some (Some c) a b f e = refl

granted_none : (o : Option Cause) (a b c : ℕ) → answer o a b ≡ Ok c → is_some o ≡ false
granted_none None a b c e = refl
granted_none (Some x) a b c e = let z : ◌≡◌ {A = ℕ} 0 1 = cc in absurd (omega arith)

-- how many bytes a page takes whose tally could be fetched
abbrev rest_of : Meaning → ℕ → ℕ → ℕ
rest_of m at t = cond (is_line (used t)) (1 + got (peeks_no m (line_at at (used t)) 8) (line_at at (used t)) 8) 1

pub bytes_refused : (m : Meaning) (at : ℕ) (f : PartFault) → answer (peek_no m at) at (cell m at) ≡ Err f → page_bytes m at ≡ 0
unfolding page_bytes
bytes_refused m at f e = ap (λ (b : Bool). cond b 0 (rest_of m at (cell m at))) (refused_some (peek_no m at) at (cell m at) f e)

bytes_seen : (m : Meaning) (at t : ℕ) → answer (peek_no m at) at (cell m at) ≡ Ok t → page_bytes m at ≡ rest_of m at t
unfolding page_bytes
bytes_seen m at t e =
    ap (λ (b : Bool). cond b 0 (rest_of m at (cell m at))) (granted_none (peek_no m at) at (cell m at) t e)
    ∙ ap (rest_of m at) (sym (peek_well (peek_no m at) at (cell m at) t e).1)

pub bytes_unused : (m : Meaning) (at t : ℕ) → answer (peek_no m at) at (cell m at) ≡ Ok t → is_line (used t) ≡ false → page_bytes m at ≡ 1
bytes_unused m at t e u =
    bytes_seen m at t e
    ∙ ap (λ (b : Bool). cond b (1 + got (peeks_no m (line_at at (used t)) 8) (line_at at (used t)) 8) 1) u

pub bytes_line : (m : Meaning) (at t : ℕ) → answer (peek_no m at) at (cell m at) ≡ Ok t → is_line (used t) ≡ true
    → page_bytes m at ≡ 1 + got (peeks_no m (line_at at (used t)) 8) (line_at at (used t)) 8
bytes_line m at t e u =
    bytes_seen m at t e
    ∙ ap (λ (b : Bool). cond b (1 + got (peeks_no m (line_at at (used t)) 8) (line_at at (used t)) 8) 1) u

-- Where the tally and the last used line can be peeked, these are all.
pub bytes_all : (m : Meaning) (at : ℕ) → peek_no m at ≡ None
    → (is_line (used (cell m at)) ≡ true → peeks_no m (line_at at (used (cell m at))) 8 ≡ None) → page_bytes m at ≡ fetched_of (cell m at)
unfolding page_bytes
bytes_all m at e p =
    ap (λ (o : Option Cause). cond (is_some o) 0 (rest_of m at (cell m at))) e
    ∙ by (is_line (used (cell m at))) (λ t. got_all m (line_at at (used (cell m at))) (p t))
  where
    by : (t : Bool) → (t ≡ true → got (peeks_no m (line_at at (used (cell m at))) 8) (line_at at (used (cell m at))) 8 ≡ 8)
        → cond t (1 + got (peeks_no m (line_at at (used (cell m at))) 8) (line_at at (used (cell m at))) 8) 1 ≡ cond t 9 1
    by true h = ap (λ (n : ℕ). 1 + n) (h refl)
    by false h = refl
