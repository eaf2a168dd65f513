-- Steps one after the other.
use Rattle.std.proofs.Common.{◌≡◌, ℕ, zero, suc, ◌+◌, ◌-◌, ◌<◌, List, [], ◌∷◌, ◌++◌, Some, None, Ok, Err, Option, Result, sym, refl, ap, subst, add-one, arith}
use Rattle.fault.specs.declared.cause.Cause.{Cause}
use Rattle.fault.specs.declared.faults.PartFault.{PartFault}
use Rattle.part.specs.Meaning.{Meaning}
use Rattle.part.specs.Calls.{answer, burn_no, Burnt}
use Rattle.book.specs.Pages.{line_at, next_line, marked, byte_of}
use Rattle.book.specs.Burning.{Step, burn, Ran, done, burnt, refused, stopped, bytes_burnt, line_burnt, line_added, page_copied}

-- Some steps, and then others.
pub ran_then : (m k n : Meaning) (xs ys : List Step) (r : Result (Unit {0}) PartFault)
    → Ran m xs (Ok tt) k → Ran k ys r n → Ran m (xs ++ ys) r n
ran_then m k n xs ys r (done x) q = q
ran_then m k n xs ys r (burnt {steps = rest} e b p) q = burnt e b (ran_then _ k n rest ys r p q)

-- Steps of which one was refused.
pub ran_stops : (m n : Meaning) (xs ys : List Step) (f : PartFault) → Ran m xs (Err f) n → Ran m (xs ++ ys) (Err f) n
ran_stops m n xs ys f (burnt {steps = rest} e b p) = burnt e b (ran_stops _ n rest ys f p)
ran_stops m n xs ys f (refused e b) = refused e b
ran_stops m n xs ys f stopped = stopped

-- One burn, whatever its answer.
pub ran_one : (m n : Meaning) (a byte : ℕ) (r : Result (Unit {0}) PartFault) → r ≡ answer (burn_no m a byte) a tt → Burnt m a byte n
    → Ran m (burn a byte ∷ []) r n
ran_one m n a byte r e b = subst (λ (x : Result (Unit {0}) PartFault). Ran m (burn a byte ∷ []) x n) (sym e) (by (burn_no m a byte) refl)
  where
    by : (o : Option Cause) → burn_no m a byte ≡ o → Ran m (burn a byte ∷ []) (answer o a tt) n
    by None d = burnt d b (done n)
    by (Some cause) d = refused d b

-- The bytes of a line, one more.
pub bytes_none : (at stops : ℕ) → bytes_burnt at stops 0 ≡ []
unfolding bytes_burnt
bytes_none at stops = refl

pub bytes_more : (at stops i : ℕ) → bytes_burnt at stops (i + 1) ≡ bytes_burnt at stops i ++ (burn (at + i) (byte_of stops i) ∷ [])
unfolding bytes_burnt
bytes_more at stops i = ap (λ (k : ℕ). bytes_burnt at stops k) (add-one i)

pub bytes_by : (m k n : Meaning) (at stops i byte : ℕ) (r : Result (Unit {0}) PartFault) → byte ≡ byte_of stops i → Ran m (bytes_burnt at stops i) (Ok tt) k
    → r ≡ answer (burn_no k (at + i) byte) (at + i) tt → Burnt k (at + i) byte n → Ran m (bytes_burnt at stops (i + 1)) r n
bytes_by m k n at stops i byte r w p e b =
    subst (λ (x : List Step). Ran m x r n) (sym (bytes_more at stops i))
    (ran_then m k n (bytes_burnt at stops i) _ r p (subst (λ (v : ℕ). Ran k (burn (at + i) v ∷ []) r n) w (ran_one k n (at + i) byte r e b)))

-- A refusal at one byte is that of the line.
bytes_stay : (m n : Meaning) (at stops i : ℕ) (f : PartFault) → Ran m (bytes_burnt at stops i) (Err f) n → (k : ℕ) → Ran m (bytes_burnt at stops (i + k)) (Err f) n
bytes_stay m n at stops i f p zero = subst (λ (j : ℕ). Ran m (bytes_burnt at stops j) (Err f) n) (omega arith) p
bytes_stay m n at stops i f p (suc k) =
    let ih : Ran m (bytes_burnt at stops (i + k)) (Err f) n = bytes_stay m n at stops i f p k in
    let e : i + k + 1 ≡ i + suc k = omega arith in
    subst (λ (j : ℕ). Ran m (bytes_burnt at stops j) (Err f) n) e
    (subst (λ (x : List Step). Ran m x (Err f) n) (sym (bytes_more at stops (i + k))) (ran_stops m n (bytes_burnt at stops (i + k)) _ f ih))

pub bytes_off : (m k n : Meaning) (at stops i byte : ℕ) (f : PartFault) → i < 8 → byte ≡ byte_of stops i → Ran m (bytes_burnt at stops i) (Ok tt) k
    → (r : Result (Unit {0}) PartFault) → r ≡ Err f → r ≡ answer (burn_no k (at + i) byte) (at + i) tt → Burnt k (at + i) byte n
    → Ran m (bytes_burnt at stops 8) (Err f) n
bytes_off m k n at stops i byte f h w p r d e b =
    let j : i + 1 + (7 - i) ≡ 8 = omega arith in
    let here : Ran m (bytes_burnt at stops (i + 1)) (Err f) n =
    subst (λ (x : Result (Unit {0}) PartFault). Ran m (bytes_burnt at stops (i + 1)) x n) d (bytes_by m k n at stops i byte r w p e b) in
    subst (λ (x : ℕ). Ran m (bytes_burnt at stops x) (Err f) n) j (bytes_stay m n at stops (i + 1) f here (7 - i))

-- A line more of a page: the line was refused, or it was burnt and then the tally.
pub line_stops : (m n : Meaning) (at tally stops : ℕ) (f : PartFault) → Ran m (bytes_burnt (line_at at (next_line tally)) stops 8) (Err f) n
    → Ran m (line_added at tally (Some stops)) (Err f) n
unfolding line_added
line_stops m n at tally stops f p = ran_stops m n (bytes_burnt (line_at at (next_line tally)) stops 8) _ f p

pub line_ends : (m k n : Meaning) (at tally byte : ℕ) (new : Option ℕ) (r : Result (Unit {0}) PartFault) → byte ≡ marked tally
    → Ran m (line_burnt (line_at at (next_line tally)) new) (Ok tt) k → r ≡ answer (burn_no k at byte) at tt → Burnt k at byte n
    → Ran m (line_added at tally new) r n
unfolding line_added
line_ends m k n at tally byte new r w p e b =
    ran_then m k n (line_burnt (line_at at (next_line tally)) new) _ r p
    (subst (λ (v : ℕ). Ran k (burn at v ∷ []) r n) w (ran_one k n at byte r e b))

-- A page of the other book.
pub page_stops : (m n : Meaning) (at stops : ℕ) (f : PartFault) → Ran m (bytes_burnt (line_at at 1) stops 8) (Err f) n
    → Ran m (page_copied at (Ok (Some stops))) (Err f) n
page_stops m n at stops f p = ran_stops m n (bytes_burnt (line_at at 1) stops 8) _ f p

pub page_ends : (m k n : Meaning) (at stops : ℕ) (r : Result (Unit {0}) PartFault) → Ran m (bytes_burnt (line_at at 1) stops 8) (Ok tt) k
    → r ≡ answer (burn_no k at 254) at tt → Burnt k at 254 n → Ran m (page_copied at (Ok (Some stops))) r n
page_ends m k n at stops r p e b = ran_then m k n (bytes_burnt (line_at at 1) stops 8) _ r p (ran_one k n at 254 r e b)
