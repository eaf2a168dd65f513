-- What is so of every array.
use Rattle.std.proofs.Common.{◌≡◌, ℕ, ◌/◌, ◌<◌, ◌≤◌, false, length, replicate, None, vec_items, leb, get_or, refl, sym, subst, ap, ◌∙◌, arith, lit≤}
use Rattle.std.proofs.lemmas.Bool.{lt-leb, le-ltb}
use Rattle.geometry.specs.Blocks.{block_of, wiped}
use Rattle.geometry.proofs.Equal.{block_equal, none_marked}
use Rattle.part.specs.declared.answers.Standing.{Standing}
use Rattle.part.specs.declared.answers.Standing.TheVariants.{Idle, Running, Suspended}
use Rattle.part.specs.declared.answers.Turn.TheVariants.{Done}
use Rattle.part.specs.declared.answers.Progress.TheVariants.{Finished}
use Rattle.part.specs.Meaning.{Meaning, with_cells, with_erasure, block, standing_of}
use Rattle.part.specs.Calls.{hides, bars, can_hold, Held, progress, run_on}
use Rattle.part.specs.Standings.{hid, barred}
use Rattle.part.proofs.Clocks.{ticked_none}
use Rattle.part.proofs.Standings.{hid_is, barred_is}
use Rattle.array.specs.declared.array.Array.{Array}
use Rattle.array.specs.Means.{erasure_of, equal_blocks, means}

module _ (s : Array) (a : ℕ) (l : a < length (vec_items s.cells)) where
  pub inside : leb (length (vec_items s.cells)) a ≡ false
  inside = lt-leb (length (vec_items s.cells)) a l

  pub own_block : block_of (replicate s.layout.count s.layout.width) a ≡ a / s.layout.width
  own_block = block_equal s.layout.count s.layout.width a (omega (arith, s.least)) (omega (arith, s.cells.ok.0, s.whole))

pub unmarked : (s : Array) (a : ℕ) → get_or (replicate s.layout.count false) (block (means s) a) false ≡ false
unmarked s a = none_marked s.layout.count (block (means s) a)

pub standing_back : (t : Standing) → standing_of (erasure_of t) ≡ t
standing_back Idle = refl
standing_back (Running b) = refl
standing_back (Suspended b) = refl

-- What an erasure hides and bars, by the standing that the array keeps.
pub hidden : (s : Array) (b : ℕ) → hides (means s) b ≡ hid s.standing b
hidden s b = sym (hid_is (means s) b) ∙ ap (λ (t : Standing). hid t b) (standing_back s.standing)

pub closed : (s : Array) (b : ℕ) → bars (means s) b ≡ barred s.standing b
closed s b = sym (barred_is (means s) b) ∙ ap (λ (t : Standing). barred t b) (standing_back s.standing)

-- A running erasure is held in no time.
pub held_running : (s : Array) (b : ℕ) → s.standing ≡ Running b
    → (n : Meaning) → n ≡ with_erasure (means s) (erasure_of (Suspended b))
    → (Done ≡ can_hold (erasure_of s.standing)) × Held (means s) n
held_running s b e n f =
    subst (λ (t : Standing). (Done ≡ can_hold (erasure_of t)) × Held (equal_blocks s.layout (vec_items s.cells) t s.clock) n) (sym e)
    (refl, record { time = 0; low = lit≤ tt; high = lit≤ tt; is = f ∙ sym (ticked_none _ s.counted) })

-- Time ends a running erasure.
pub ended : (s : Array) (b n : ℕ) → s.standing ≡ Running b → 1 ≤ n
    → (m : Meaning) → m ≡ with_erasure (with_cells (means s) (wiped (means s).sizes b 0xFF (vec_items s.cells))) None
    → (Finished ≡ progress (means s) n (means s).erasure) × (m ≡ run_on (means s) n (means s).erasure)
ended s b n e h m f =
    subst (λ (t : Standing). (Finished ≡ progress (means s) n (erasure_of t)) × (m ≡ run_on (means s) n (erasure_of t))) (sym e)
    (rw (le-ltb n 1 h, none_marked s.layout.count b) (refl, f))
