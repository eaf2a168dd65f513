-- What the tie between the notes and the chip says of what the chip is doing.
use Rattle.std.proofs.Common.{◌≡◌, ℕ, ◌<◌, ◌≤◌, true, ◌&&◌, eqb, ltb, leb, Some, None, refl, ap}
use Rattle.std.proofs.lemmas.Bool.{and_parts, and_from, eqb-true, eq-eqb, ltb-true, lt-ltb, leb-true, le-leb, false≢true}
use Rattle.part.specs.declared.answers.Standing.TheVariants.{Idle, Running, Suspended}
use Rattle.driver.specs.Rig.{Job, Place, Doing, resting, erasing, start}
use Rattle.driver.specs.Notes.{erases, is_start, agrees}

-- an erasing of block b, which is one of n blocks, with time left
pub record Erases (n b : ℕ) (j : Job) : Type 0 where
  pub block : j.block ≡ b
  pub within : b < n
  pub lasts : 1 ≤ j.left

erases_is : (n b : ℕ) (j : Job) → erases n b j ≡ true → Erases n b j
erases_is n b j t =
    let p = and_parts (eqb j.block b && ltb b n) (leb 1 j.left) t in
    let q = and_parts (eqb j.block b) (ltb b n) p.0 in
    record { block = eqb-true _ _ q.0; within = ltb-true _ _ q.1; lasts = leb-true _ _ p.1 }

pub is_erases : (n b : ℕ) (j : Job) → Erases n b j → erases n b j ≡ true
is_erases n b j e = and_from _ _ (and_from _ _ (eq-eqb _ _ e.block) (lt-ltb _ _ e.within)) (le-leb _ _ e.lasts)

start_is : (p : Place) → is_start p ≡ true → p ≡ start
start_is start t = refl
start_is p t = absurd (false≢true t)

pub when_idle : (n : ℕ) (d : Doing) → agrees n d Idle ≡ true → d ≡ resting None start
when_idle n (resting None p) t = ap (resting None) (start_is p t)
when_idle n d t = absurd (false≢true t)

pub when_running : (n b : ℕ) (d : Doing) → agrees n d (Running b) ≡ true → (j : Job) × (d ≡ erasing j) × Erases n b j
when_running n b (erasing j) t = (j, refl, erases_is n b j t)
when_running n b (resting None p) t = absurd (false≢true t)
when_running n b (resting (Some j) p) t = absurd (false≢true t)
when_running n b d t = absurd (false≢true t)

pub when_held : (n b : ℕ) (d : Doing) → agrees n d (Suspended b) ≡ true → (j : Job) × (d ≡ resting (Some j) start) × Erases n b j
when_held n b (resting (Some j) p) t =
    let q = and_parts (is_start p) (erases n b j) t in (j, ap (resting (Some j)) (start_is p q.0), erases_is n b j q.1)
when_held n b (resting None p) t = absurd (false≢true t)
when_held n b d t = absurd (false≢true t)
