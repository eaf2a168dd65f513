-- Reading byte by byte.
use Rattle.std.proofs.Common.{◌≡◌, ℕ, zero, suc, ◌+◌, ◌-◌, ◌*◌, ◌^◌, ◌<◌, ◌≤◌, Bool, true, false, cond, List, get_or, Some, None, Ok, Err, Option, Result, sym, refl, ap, ◌∙◌, subst, add-one, arith, pow_mono, pow-add}
use Rattle.fault.specs.declared.cause.Cause.{Cause}
use Rattle.fault.specs.declared.faults.PartFault.{PartFault}
use Rattle.part.specs.Meaning.{Meaning, cell}
use Rattle.part.specs.Calls.{answer, peek_no}
use Rattle.book.specs.Pages.{line_at, used, is_line, registration, spelled, page_of}
use Rattle.book.specs.Reading.{unless, fault_at, first, peeks_no, reading}

pub spelled_none : (xs : List ℕ) (at : ℕ) → spelled xs at 0 ≡ 0
unfolding spelled
spelled_none xs at = refl

pub spelled_more : (xs : List ℕ) (at i : ℕ) → spelled xs at (i + 1) ≡ spelled xs at i * 256 + get_or xs (at + i) 0
unfolding spelled
spelled_more xs at i = ap (λ (k : ℕ). spelled xs at k) (add-one i)

pub peeks_none : (m : Meaning) (at : ℕ) → peeks_no m at 0 ≡ None
unfolding peeks_no
peeks_none m at = refl

pub peeks_more : (m : Meaning) (at i : ℕ) → peeks_no m at (i + 1) ≡ first (peeks_no m at i) (fault_at (peek_no m (at + i)) (at + i))
unfolding peeks_no
peeks_more m at i = ap (λ (k : ℕ). peeks_no m at k) (add-one i)

-- A refusal at one byte is that of the whole stretch.
pub peeks_stay : (m : Meaning) (at i : ℕ) (f : PartFault) → peeks_no m at i ≡ Some f → (k : ℕ) → peeks_no m at (i + k) ≡ Some f
peeks_stay m at i f e zero = subst (λ (j : ℕ). peeks_no m at j ≡ Some f) (omega arith) e
peeks_stay m at i f e (suc k) =
    let ih : peeks_no m at (i + k) ≡ Some f = peeks_stay m at i f e k in
    let n : i + k + 1 ≡ i + suc k = omega arith in
    subst (λ (j : ℕ). peeks_no m at j ≡ Some f) n
    (peeks_more m at (i + k) ∙ ap (λ (o : Option PartFault). first o (fault_at (peek_no m (at + (i + k))) (at + (i + k)))) ih)

-- What one peek says.
pub peek_fault : (o : Option Cause) (a b : ℕ) (f : PartFault) → answer o a b ≡ Err f → fault_at o a ≡ Some f
peek_fault None a b f e = let z : ◌≡◌ {A = ℕ} 0 1 = cc in absurd (omega arith)
peek_fault (Some c) a b f e = cc

pub peek_well : (o : Option Cause) (a b c : ℕ) → answer o a b ≡ Ok c → (fault_at o a ≡ None) × (c ≡ b)
peek_well None a b c e = (refl, cc)
peek_well (Some x) a b c e = let z : ◌≡◌ {A = ℕ} 0 1 = cc in absurd (omega arith)

-- One byte more, granted or refused.
pub peeks_on : (m : Meaning) (at i c : ℕ) → peeks_no m at i ≡ None → answer (peek_no m (at + i)) (at + i) (cell m (at + i)) ≡ Ok c
    → (peeks_no m at (i + 1) ≡ None) × (spelled m.cells at (i + 1) ≡ spelled m.cells at i * 256 + c)
peeks_on m at i c e a =
    let w = peek_well (peek_no m (at + i)) (at + i) (cell m (at + i)) c a in (
      peeks_more m at i ∙ ap (λ (o : Option PartFault). first o (fault_at (peek_no m (at + i)) (at + i))) e ∙ w.0,
      spelled_more m.cells at i ∙ ap (λ (b : ℕ). spelled m.cells at i * 256 + b) (sym w.1),
    )

pub peeks_off : (m : Meaning) (at i : ℕ) (f : PartFault) → i < 8 → peeks_no m at i ≡ None
    → answer (peek_no m (at + i)) (at + i) (cell m (at + i)) ≡ Err f → peeks_no m at 8 ≡ Some f
peeks_off m at i f h e a =
    let here : peeks_no m at (i + 1) ≡ Some f =
    peeks_more m at i ∙ ap (λ (o : Option PartFault). first o (fault_at (peek_no m (at + i)) (at + i))) e
    ∙ peek_fault (peek_no m (at + i)) (at + i) (cell m (at + i)) f a in
    let n : i + 1 + (7 - i) ≡ 8 = omega arith in
    subst (λ (j : ℕ). peeks_no m at j ≡ Some f) n (peeks_stay m at (i + 1) f here (7 - i))

-- Eight bytes fit 64 bits.
pub room : (i s b : ℕ) → i < 8 → s < 2 ^ (8 * i) → b < 256 → (s * 256 + b < 2 ^ (8 * (i + 1))) × (s * 256 + b < 18446744073709551616)
room i s b h l k =
    let n : 8 * (i + 1) ≡ 8 * i + 8 = omega arith in
    let e : 2 ^ (8 * (i + 1)) ≡ 2 ^ (8 * i) * 256 = ap (λ (j : ℕ). 2 ^ j) n ∙ pow-add 2 (8 * i) 8 in
    let top : 2 ^ (8 * (i + 1)) ≤ 2 ^ 64 = pow_mono {i = 8 * (i + 1)} {j = 64} (omega arith) in
    let small : s * 256 + b < 2 ^ (8 * (i + 1)) = omega arith in
    (small, omega arith)

pub unless_ok : {X : Type 0} (o : Option PartFault) (x y : X) → unless o x ≡ Ok y → (o ≡ None) × (y ≡ x)
unless_ok None x y e = (refl, cc)
unless_ok (Some f) x y e = let z : ◌≡◌ {A = ℕ} 0 1 = cc in absurd (omega arith)

pub unless_err : {X : Type 0} (o : Option PartFault) (x : X) (f : PartFault) → unless o x ≡ Err f → o ≡ Some f
unless_err None x f e = let z : ◌≡◌ {A = ℕ} 0 1 = cc in absurd (omega arith)
unless_err (Some g) x f e = cc

-- what was peeked at an address that is known by another name
pub seen_at : (m : Meaning) (a at : ℕ) {r s : Result ℕ PartFault} → a ≡ at → r ≡ answer (peek_no m a) a (cell m a) → r ≡ s
    → answer (peek_no m at) at (cell m at) ≡ s
seen_at m a at e r i = ap (λ (x : ℕ). answer (peek_no m x) x (cell m x)) (sym e) ∙ sym r ∙ i

-- A page, by what was peeked of it.
pub page_refused : (m : Meaning) (at : ℕ) (f : PartFault) → answer (peek_no m at) at (cell m at) ≡ Err f → reading m at ≡ Err f
unfolding reading
page_refused m at f e =
    ap (λ (o : Option PartFault). unless (first o (cond (is_line (used (cell m at))) (peeks_no m (line_at at (used (cell m at))) 8) None)) (page_of m.cells at))
    (peek_fault (peek_no m at) at (cell m at) f e)

module _ (m : Meaning) (at t : ℕ) (seen : answer (peek_no m at) at (cell m at) ≡ Ok t) where
  by_tally : reading m at
      ≡ unless (cond (is_line (used t)) (peeks_no m (line_at at (used t)) 8) None)
      (record { tally = t; stops = cond (is_line (used t)) (registration (spelled m.cells (line_at at (used t)) 8)) None })
  unfolding reading
  by_tally =
      let w = peek_well (peek_no m at) at (cell m at) t seen in
      ap (λ (o : Option PartFault). unless (first o (cond (is_line (used (cell m at))) (peeks_no m (line_at at (used (cell m at))) 8) None)) (page_of m.cells at)) w.0
      ∙ ap (λ (x : ℕ). unless (cond (is_line (used x)) (peeks_no m (line_at at (used x)) 8) None)
      (record { tally = x; stops = cond (is_line (used x)) (registration (spelled m.cells (line_at at (used x)) 8)) None })) (sym w.1)

  by_test : (b : Bool) → is_line (used t) ≡ b → reading m at
      ≡ unless (cond b (peeks_no m (line_at at (used t)) 8) None)
      (record { tally = t; stops = cond b (registration (spelled m.cells (line_at at (used t)) 8)) None })
  by_test b e =
      by_tally
      ∙ ap (λ (x : Bool). unless (cond x (peeks_no m (line_at at (used t)) 8) None)
      (record { tally = t; stops = cond x (registration (spelled m.cells (line_at at (used t)) 8)) None })) e

  pub page_unused : is_line (used t) ≡ false → reading m at ≡ Ok (record { tally = t; stops = None })
  page_unused e = by_test false e

  pub page_cut : is_line (used t) ≡ true → (f : PartFault)
      → unless (peeks_no m (line_at at (used t)) 8) (spelled m.cells (line_at at (used t)) 8) ≡ Err f → reading m at ≡ Err f
  page_cut e f d =
      by_test true e
      ∙ ap (λ (o : Option PartFault). unless o (record { tally = t; stops = registration (spelled m.cells (line_at at (used t)) 8) }))
      (unless_err (peeks_no m (line_at at (used t)) 8) (spelled m.cells (line_at at (used t)) 8) f d)

  pub page_whole : is_line (used t) ≡ true → (n : ℕ)
      → unless (peeks_no m (line_at at (used t)) 8) (spelled m.cells (line_at at (used t)) 8) ≡ Ok n
      → reading m at ≡ Ok (record { tally = t; stops = registration n })
  page_whole e n d =
      let w = unless_ok (peeks_no m (line_at at (used t)) 8) (spelled m.cells (line_at at (used t)) 8) n d in
      by_test true e
      ∙ ap (λ (o : Option PartFault). unless o (record { tally = t; stops = registration (spelled m.cells (line_at at (used t)) 8) })) w.0
      ∙ ap (λ (x : ℕ). Ok (record { tally = t; stops = registration x })) (sym w.1)
