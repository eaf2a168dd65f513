-- What holds of every part.
use Rattle.std.specs.Prelude.{◌≡◌, ℕ, ◌+◌, ◌<◌, ◌≤◌, true, false, List, [], ◌∷◌, Some, None, nat_le}
use Rattle.part.specs.declared.answers.Progress.TheVariants.{Running}
use Rattle.part.specs.declared.answers.Turn.TheVariants.{Done}
use Rattle.part.specs.Meaning.{Erasure, Meaning, size, cell, block, guarded, worn, ticked, Lawful}
use Rattle.part.specs.Calls.{longest, longest_hold, stands, burn_no, Burnt, Begun, Held, can_hold, gone_on, progress, after_pass}

-- One call of a part, accepted or refused, by the meaning before and after it. Peeks and questions leave the meaning.
pub data Call : Type 0 where
  look : Call
  burn : ℕ → ℕ → Call
  begin : ℕ → Call
  hold : Call
  go_on : Call
  pass : ℕ → Call

abbrev pub Made : Meaning → Call → Meaning → Type 0
Made m look n = n ≡ m
Made m (burn a byte) n = Burnt m a byte n
Made m (begin b) n = Begun m b n
Made m hold n = Held m n
Made m go_on n = n ≡ gone_on m
Made m (pass k) n = n ≡ after_pass m k

-- any number of calls, in any order
pub data Run : Meaning → List Call → Meaning → Type 0 where
  none : (m : Meaning) → Run m [] m
  more : {m k n : Meaning} {c : Call} {cs : List Call} → Made m c k → Run k cs n → Run m (c ∷ cs) n

-- none of the calls burns address a or begins the erasure of block b
abbrev pub spares : ℕ → ℕ → Call → Type 0
spares a b look = Unit {0}
spares a b (burn x byte) = x ≡ a → ⊥
spares a b (begin x) = x ≡ b → ⊥
spares a b hold = Unit {0}
spares a b go_on = Unit {0}
spares a b (pass n) = Unit {0}

abbrev pub AllSpare : ℕ → ℕ → List Call → Type 0
AllSpare a b [] = Unit {0}
AllSpare a b (c ∷ cs) = spares a b c × AllSpare a b cs

-- the same blocks, with the same guards and worn ones, and as many cells
pub record SameBlocks (m n : Meaning) : Type 0 where
  pub sizes : n.sizes ≡ m.sizes
  pub guards : n.guards ≡ m.guards
  pub wears : n.wears ≡ m.wears
  pub size : size n ≡ size m

pub record PartLaws : Type 0 where
  -- What was burnt is in the cell until the cell is burnt again or its block is erased.
  pub lasts : (m k n : Meaning) (a byte : ℕ) (cs : List Call) → Lawful m → burn_no m a byte ≡ None → Burnt m a byte k
      → Run k cs n → AllSpare a (block m a) cs → cell n a ≡ byte
  -- Guarded blocks keep their cells, from any moment at which no erasure stands.
  pub guarded_kept : (m n : Meaning) (cs : List Call) → Lawful m → stands m ≡ false → Run m cs n
      → (a : ℕ) → a < size m → guarded m (block m a) ≡ true → cell n a ≡ cell m a
  -- Worn blocks keep their cells.
  pub worn_kept : (m n : Meaning) (cs : List Call) → Lawful m → Run m cs n
      → (a : ℕ) → a < size m → worn m (block m a) ≡ true → cell n a ≡ cell m a
  -- Where the blocks lie, and which are guarded and worn, never changes; nor does the number of cells.
  pub fixed : (m n : Meaning) (cs : List Call) → Run m cs n → SameBlocks m n
  -- An erasure never ends early: a pass that does not reach what was left answers that it runs.
  pub not_early : (m : Meaning) (e : Erasure) (n : ℕ) → m.erasure ≡ Some e → e.running ≡ true → n < e.left
      → progress m n m.erasure ≡ Running
  -- A hold and a go on with nothing between leave all but the clock as it was.
  pub held_and_gone : (m n : Meaning) → can_hold m.erasure ≡ Done → Held m n → (t : ℕ) × (t ≤ longest_hold) × (gone_on n ≡ ticked m t)
  -- Passing a and then b leaves what passing a + b leaves, where none of the three is refused.
  pub passes_add : (m : Meaning) (a b : ℕ) → Lawful m → nat_le a longest ≡ true → nat_le b longest ≡ true → nat_le (a + b) longest ≡ true
      → after_pass (after_pass m a) b ≡ after_pass m (a + b)
