-- Proof text: a driven chip is a lawful part. It stands here since the impl of the part needs it for the law.
use Rattle.std.specs.Prelude.{◌≡◌, ℕ, ◌<◌, ◌≤◌, true, ◌&&◌, length, Some, None, ◌==◌, nat_le, nat_lt}
use Rattle.std.proofs.Common.{arith}
use Rattle.std.proofs.lemmas.Bool.{and_parts, ltb-true, eqb-true, leb-true, false≢true}
use Rattle.part.specs.declared.answers.Standing.{Standing}
use Rattle.part.specs.declared.answers.Standing.TheVariants.{Idle, Running, Suspended}
use Rattle.part.specs.Meaning.{ErasureLawful, Lawful}
use Rattle.driver.specs.declared.notes.Notes.{Notes}
use Rattle.driver.specs.Rig.{Job, Doing, resting, erasing, Rig, erasure_in, meaning}
use Rattle.driver.specs.Sound.{Sound}
use Rattle.driver.specs.Notes.{erases, is_start, agrees, Tied}

erasure_of : (n b : ℕ) (j : Job) → erases n b j ≡ true → (j.block < n) × (1 ≤ j.left)
erasure_of n b j t =
    let p = and_parts (j.block == b && nat_lt b n) (nat_le 1 j.left) t in
    let q = and_parts (j.block == b) (nat_lt b n) p.0 in
    (omega (arith, eqb-true _ _ q.0, ltb-true _ _ q.1), leb-true _ _ p.1)

lawful_erasure : (n : ℕ) (d : Doing) (st : Standing) → agrees n d st ≡ true → ErasureLawful n (erasure_in d)
lawful_erasure n (resting None p) st t = tt
lawful_erasure n (resting (Some j) p) (Suspended b) t = erasure_of n b j (and_parts (is_start p) (erases n b j) t).1
lawful_erasure n (resting (Some j) p) Idle t = absurd (false≢true t)
lawful_erasure n (resting (Some j) p) (Running b) t = absurd (false≢true t)
lawful_erasure n (erasing j) (Running b) t = erasure_of n b j t
lawful_erasure n (erasing j) Idle t = absurd (false≢true t)
lawful_erasure n (erasing j) (Suspended b) t = absurd (false≢true t)
lawful_erasure n d st t = absurd (false≢true t)

pub lawful : (r : Rig) (n : Notes) → Sound r → Tied r n → Lawful (meaning r)
lawful r n s t = record {
  whole = s.whole;
  small = s.small;
  few = omega (arith, s.few);
  guards = s.guards;
  wears = s.wears;
  erasure = lawful_erasure (length r.sheet.sizes) r.doing n.standing t.follows;
  clock = s.clock;
}
