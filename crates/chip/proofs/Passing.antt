-- Time: the jump from the end of one state to the next does what the single microseconds do.
use Rattle.std.proofs.Common.{◌≡◌, ℕ, zero, suc, ◌+◌, ◌-◌, ◌%◌, ◌<◌, ◌≤◌, max, Bool, true, false, cond, leb, Some, None, Option, sym, refl, ap, ◌∙◌, add-one, arith}
use Rattle.std.proofs.lemmas.Bool.{le-leb, lt-leb, leb-true, leb-false}
use Rattle.chip.specs.declared.state.Phase.{Phase}
use Rattle.chip.specs.declared.state.Phase.TheVariants.{Window, Erasing as Begun}
use Rattle.chip.specs.declared.state.State.{State}
use Rattle.chip.specs.declared.state.State.TheVariants.{Ready, Programming, Erasing, Suspending, Suspended, Failed}
use Rattle.chip.specs.Flash.{Flash}
use Rattle.chip.proofs.Updates.{with_state}
use Rattle.chip.specs.Times.{erased, ended, due, within, lowered, step_by, step, steps, with_clock, tick, passed}

pub steps_split : (a b : ℕ) (f : Flash) → steps (a + b) f ≡ steps b (steps a f)
unfolding steps
steps_split zero b f =
    let e : 0 + b ≡ b = omega arith in
    ap (λ (n : ℕ). steps n f) e
steps_split (suc a) b f =
    let e : suc a + b ≡ suc (a + b) = omega arith in
    ap (λ (n : ℕ). steps n f) e ∙ steps_split a b (step f)

steps_last : (n : ℕ) (f : Flash) → steps (suc n) f ≡ step (steps n f)
unfolding steps
steps_last n f = ap (λ (m : ℕ). steps m f) (sym (add-one n)) ∙ steps_split n 1 f

pub steps_none : (f : Flash) → steps 0 f ≡ f
unfolding steps
steps_none f = refl

-- a state that does not end by itself lasts
pub still : (n : ℕ) (f : Flash) → due f.state ≡ None → steps n f ≡ f
unfolding steps
still zero f e = refl
still (suc n) f e = let s : step f ≡ f = rw e refl in rw s (still n f e)

lowered_zero : (s : State) → lowered 0 s ≡ s
lowered_zero (Ready m p) = refl
lowered_zero (Programming p) = ap (λ (n : ℕ). Programming (record p { left = n })) (omega arith)
lowered_zero (Erasing e) = ap (λ (n : ℕ). Erasing (record e { left = n })) (omega arith)
lowered_zero (Suspending e w) = ap (Suspending e) (omega arith)
lowered_zero (Suspended e) = refl
lowered_zero (Failed b t) = refl

lowered_more : (n : ℕ) (s : State) → lowered 1 (lowered n s) ≡ lowered (suc n) s
lowered_more n (Ready m p) = refl
lowered_more n (Programming p) = ap (λ (n : ℕ). Programming (record p { left = n })) (omega arith)
lowered_more n (Erasing e) = ap (λ (n : ℕ). Erasing (record e { left = n })) (omega arith)
lowered_more n (Suspending e w) = ap (Suspending e) (omega arith)
lowered_more n (Suspended e) = refl
lowered_more n (Failed b t) = refl

-- the time that is left falls with the time that passes
due_lowered : (s : State) (d n : ℕ) → due s ≡ Some d → n < d → due (lowered n s) ≡ Some (d - n)
due_lowered (Ready m p) d n e h = let z : ◌≡◌ {A = ℕ} 0 1 = cc in absurd (omega arith)
due_lowered (Programming p) d n e h = let k : max 1 p.left ≡ d = cc in ap Some (omega arith)
due_lowered (Erasing r) d n e h = let k : max 1 r.left ≡ d = cc in ap Some (omega arith)
due_lowered (Suspending r w) d n e h = let k : max 1 w ≡ d = cc in ap Some (omega arith)
due_lowered (Suspended r) d n e h = let z : ◌≡◌ {A = ℕ} 0 1 = cc in absurd (omega arith)
due_lowered (Failed b t) d n e h = let z : ◌≡◌ {A = ℕ} 0 1 = cc in absurd (omega arith)

pub due_positive : (s : State) (d : ℕ) → due s ≡ Some d → 1 ≤ d
due_positive (Ready m p) d e = let z : ◌≡◌ {A = ℕ} 0 1 = cc in absurd (omega arith)
due_positive (Programming p) d e = let k : max 1 p.left ≡ d = cc in omega arith
due_positive (Erasing r) d e = let k : max 1 r.left ≡ d = cc in omega arith
due_positive (Suspending r w) d e = let k : max 1 w ≡ d = cc in omega arith
due_positive (Suspended r) d e = let z : ◌≡◌ {A = ℕ} 0 1 = cc in absurd (omega arith)
due_positive (Failed b t) d e = let z : ◌≡◌ {A = ℕ} 0 1 = cc in absurd (omega arith)

-- how a state ends does not hang on the time that was left
ended_lowered : (f : Flash) (s x : State) (d n : ℕ) → due s ≡ Some d → ended (with_state f x) (lowered n s) ≡ ended f s
ended_lowered f (Ready m p) x d n e = let z : ◌≡◌ {A = ℕ} 0 1 = cc in absurd (omega arith)
ended_lowered f (Programming p) x d n e = refl
ended_lowered f (Erasing r) x d n e = refl
ended_lowered f (Suspending r w) x d n e = refl
ended_lowered f (Suspended r) x d n e = let z : ◌≡◌ {A = ℕ} 0 1 = cc in absurd (omega arith)
ended_lowered f (Failed b t) x d n e = let z : ◌≡◌ {A = ℕ} 0 1 = cc in absurd (omega arith)

-- before the end the time that is left falls, and nothing else changes
pub until : (n d : ℕ) (f : Flash) → due f.state ≡ Some d → n < d → steps n f ≡ with_state f (lowered n f.state)
until zero d f e h = steps_none f ∙ ap (with_state f) (sym (lowered_zero f.state))
until (suc n) d f e h =
    let before : steps n f ≡ with_state f (lowered n f.state) = until n d f e (omega arith) in
    let left : due (lowered n f.state) ≡ Some (d - n) = due_lowered f.state d n e (omega arith) in
    let more : leb (d - n) 1 ≡ false = lt-leb (d - n) 1 (omega arith) in
    let on : step (with_state f (lowered n f.state)) ≡ with_state f (lowered 1 (lowered n f.state)) = rw (left, more) refl in
    steps_last n f ∙ ap step before ∙ on ∙ ap (with_state f) (lowered_more n f.state)

-- Whether a state ends within n microseconds.
pub record Ends (n left : ℕ) (o : Option ℕ) : Type 0 where
  pub due : o ≡ Some left
  pub most : left ≤ n

within_by : (t : Bool) (d left : ℕ) → cond t (Some d) None ≡ Some left → (t ≡ true) × (d ≡ left)
within_by true d left e = (refl, cc)
within_by false d left e = let z : ◌≡◌ {A = ℕ} 0 1 = cc in absurd (omega arith)

within_by_none : (t : Bool) (d : ℕ) → cond t (Some d) None ≡ None → t ≡ false
within_by_none true d e = let z : ◌≡◌ {A = ℕ} 0 1 = cc in absurd (omega arith)
within_by_none false d e = refl

within_none : (n d : ℕ) → within n (Some d) ≡ None → n < d
within_none n d e = leb-false d n (within_by_none (leb d n) d e)

pub within_some : (n left : ℕ) (o : Option ℕ) → within n o ≡ Some left → Ends n left o
within_some n left None e = let z : ◌≡◌ {A = ℕ} 0 1 = cc in absurd (omega arith)
within_some n left (Some d) e =
    let k = within_by (leb d n) d left e in
    record { due = ap Some k.1; most = omega (arith, leb-true d n k.0, k.1) }

-- Time that the state outlasts, or that it stands still for.
lowered_still : (n : ℕ) (s : State) → due s ≡ None → lowered n s ≡ s
lowered_still n (Ready m p) e = refl
lowered_still n (Programming p) e = let z : ◌≡◌ {A = ℕ} 0 1 = cc in absurd (omega arith)
lowered_still n (Erasing r) e = let z : ◌≡◌ {A = ℕ} 0 1 = cc in absurd (omega arith)
lowered_still n (Suspending r w) e = let z : ◌≡◌ {A = ℕ} 0 1 = cc in absurd (omega arith)
lowered_still n (Suspended r) e = refl
lowered_still n (Failed b t) e = refl

pub outlasted : (n : ℕ) (f : Flash) → within n (due f.state) ≡ None → steps n f ≡ with_state f (lowered n f.state)
outlasted n f e = by (due f.state) refl
  where
    by : (o : Option ℕ) → due f.state ≡ o → steps n f ≡ with_state f (lowered n f.state)
    by None h = still n f h ∙ ap (with_state f) (sym (lowered_still n f.state h))
    by (Some d) h = until n d f h (within_none n d (sym (ap (within n) h) ∙ e))

-- when just what was left has passed, the state ends
pub over : (d : ℕ) (f : Flash) → due f.state ≡ Some d → steps d f ≡ ended f f.state
over zero f e = let h : 1 ≤ 0 = due_positive f.state 0 e in absurd (omega arith)
over (suc n) f e =
    let before : steps n f ≡ with_state f (lowered n f.state) = until n (suc n) f e (omega arith) in
    let left : due (lowered n f.state) ≡ Some (suc n - n) = due_lowered f.state (suc n) n e (omega arith) in
    let none : leb (suc n - n) 1 ≡ true = le-leb (suc n - n) 1 (omega arith) in
    let on : step (with_state f (lowered n f.state)) ≡ ended (with_state f (lowered n f.state)) (lowered n f.state) = rw (left, none) refl in
    steps_last n f ∙ ap step before ∙ on ∙ ended_lowered f f.state (lowered n f.state) (suc n) n e

-- The count of microseconds does not bear on anything else.
pub clock_cond : (t : Bool) (f g : Flash) (c : ℕ) → cond t (with_clock f c) (with_clock g c) ≡ with_clock (cond t f g) c
clock_cond true f g c = refl
clock_cond false f g c = refl

ended_clock : (f : Flash) (s : State) (c : ℕ) → ended (with_clock f c) s ≡ with_clock (ended f s) c
ended_clock f (Ready m p) c = refl
ended_clock f (Programming p) c = refl
ended_clock f (Erasing e) c = by_phase e.phase
  where
    by_phase : (p : Phase) → erased (with_clock f c) e p ≡ with_clock (erased f e p) c
    by_phase Window = refl
    by_phase Begun = refl
ended_clock f (Suspending e w) c = refl
ended_clock f (Suspended e) c = refl
ended_clock f (Failed b t) c = refl

step_clock : (f : Flash) (c : ℕ) → step (with_clock f c) ≡ with_clock (step f) c
step_clock f c = by (due f.state)
  where
    by : (o : Option ℕ) → step_by (with_clock f c) o ≡ with_clock (step_by f o) c
    by None = refl
    by (Some d) =
        ap (λ (x : Flash). cond (leb d 1) x (with_clock (with_state f (lowered 1 f.state)) c)) (ended_clock f f.state c)
        ∙ clock_cond (leb d 1) (ended f f.state) (with_state f (lowered 1 f.state)) c

pub steps_clock : (n : ℕ) (f : Flash) (c : ℕ) → steps n (with_clock f c) ≡ with_clock (steps n f) c
unfolding steps
steps_clock zero f c = refl
steps_clock (suc n) f c = ap (steps n) (step_clock f c) ∙ steps_clock n (step f) c

pub steps_count : (n : ℕ) (f : Flash) → (steps n f).clock ≡ f.clock
steps_count n f = ap (λ (g : Flash). g.clock) (steps_clock n f f.clock)

-- n microseconds one by one are the steps of n, with n more on the count
pub passed_is : (n : ℕ) (f : Flash) → f.clock < 4294967296 → passed n f ≡ with_clock (steps n f) ((f.clock + n) % 4294967296)
unfolding passed steps
passed_is zero f h = let e : f.clock ≡ (f.clock + 0) % 4294967296 = omega arith in ap (with_clock f) e
passed_is (suc n) f h =
    let c : ℕ = (f.clock + 1) % 4294967296 in
    let e : (c + n) % 4294967296 ≡ (f.clock + suc n) % 4294967296 = omega arith in
    passed_is n (tick f) (omega arith)
    ∙ ap (λ (g : Flash). with_clock g ((c + n) % 4294967296)) (steps_clock n (step f) c)
    ∙ ap (with_clock (steps n (step f))) e

pub counted : (n : ℕ) (f g : Flash) → f.clock < 4294967296 → g ≡ steps n f → with_clock g ((g.clock + n) % 4294967296) ≡ passed n f
counted n f g h e =
    ap (λ (x : Flash). with_clock x ((x.clock + n) % 4294967296)) e
    ∙ ap (λ (c : ℕ). with_clock (steps n f) ((c + n) % 4294967296)) (steps_count n f)
    ∙ sym (passed_is n f h)

-- the same whatever the count is
pub passed_steps : (n : ℕ) (f : Flash) → passed n f ≡ with_clock (steps n f) (passed n f).clock
unfolding passed steps
passed_steps zero f = refl
passed_steps (suc n) f =
    let c : ℕ = (f.clock + 1) % 4294967296 in
    passed_steps n (tick f) ∙ ap (λ (g : Flash). with_clock g (passed n (tick f)).clock) (steps_clock n (step f) c)

pub passed_split : (a b : ℕ) (f : Flash) → passed (a + b) f ≡ passed b (passed a f)
unfolding passed
passed_split zero b f = let e : 0 + b ≡ b = omega arith in ap (λ (n : ℕ). passed n f) e
passed_split (suc a) b f = let e : suc a + b ≡ suc (a + b) = omega arith in ap (λ (n : ℕ). passed n f) e ∙ passed_split a b (tick f)

-- What the chip is doing after n microseconds, and its cells, do not hang on the count.
pub record Same (f g : Flash) : Type 0 where
  pub state : f.state ≡ g.state
  pub cells : f.cells ≡ g.cells

pub passed_same : (n : ℕ) (f g : Flash) → steps n f ≡ g → Same (passed n f) g
passed_same n f g e =
    let all : passed n f ≡ with_clock g (passed n f).clock = passed_steps n f ∙ ap (λ (x : Flash). with_clock x (passed n f).clock) e in
    record { state = ap (λ (x : Flash). x.state) all; cells = ap (λ (x : Flash). x.cells) all }

pub passed_until : (n d : ℕ) (f : Flash) → due f.state ≡ Some d → n < d → Same (passed n f) (with_state f (lowered n f.state))
passed_until n d f e h = passed_same n f _ (until n d f e h)

pub passed_over : (d : ℕ) (f : Flash) → due f.state ≡ Some d → Same (passed d f) (ended f f.state)
passed_over d f e = passed_same d f _ (over d f e)

pub passed_still : (n : ℕ) (f : Flash) → due f.state ≡ None → Same (passed n f) f
passed_still n f e = passed_same n f f (still n f e)

-- What is at rest after d microseconds stays so.
pub rests : (d n : ℕ) (f : Flash) → d ≤ n → due (passed d f).state ≡ None → Same (passed n f) (passed d f)
rests d n f h e =
    let k : n ≡ d + (n - d) = omega arith in
    let on : passed n f ≡ passed (n - d) (passed d f) = ap (λ (m : ℕ). passed m f) k ∙ passed_split d (n - d) f in
    let s : Same (passed (n - d) (passed d f)) (passed d f) = passed_still (n - d) (passed d f) e in
    record { state = ap (λ (x : Flash). x.state) on ∙ s.state; cells = ap (λ (x : Flash). x.cells) on ∙ s.cells }
