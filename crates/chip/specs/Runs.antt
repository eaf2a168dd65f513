-- Runs of a chip: cycles, time and resets, one after the other, whatever they are and whatever is refused.
use Rattle.std.specs.Prelude.{◌≡◌, ℕ, true, ◌||◌, List, [], ◌∷◌}
use Rattle.chip.specs.Flash.{Flash, inside, cell, protected, worn}
use Rattle.chip.specs.Writes.{written}
use Rattle.chip.specs.Reads.{seen}
use Rattle.chip.specs.Times.{after}
use Rattle.chip.specs.Resets.{after_reset}
use Rattle.chip.specs.Laws.{Sound}

pub data Event : Type 0 where
  write : ℕ → ℕ → Event
  read : ℕ → Event
  wait : ℕ → Event
  reset : Event

abbrev pub after_event : Flash → Event → Flash
after_event f (write a byte) = written f a byte
after_event f (read a) = seen f a
after_event f (wait n) = after n f
after_event f reset = after_reset f

-- the chip after a run of events, the first one first
abbrev pub after_run : Flash → List Event → Flash
after_run f [] = f
after_run f (event ∷ rest) = after_run (after_event f event) rest

-- Over any run a chip stays sound, keeps the numbers that it was made with, and the cells of its protected and of its worn blocks.
pub record RunLaws : Type 0 where
  pub sound : (events : List Event) (f : Flash) → Sound f → Sound (after_run f events)
  pub same_setup : (events : List Event) (f : Flash) → (after_run f events).setup ≡ f.setup
  pub keeps_blocks : (events : List Event) (f : Flash) → Sound f
      → (a : ℕ) → inside f a ≡ true → (protected f a || worn f a) ≡ true → cell (after_run f events) a ≡ cell f a
