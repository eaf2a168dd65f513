-- What holds of the chip whatever it is doing. The calls' contracts name these laws; they
-- speak of the definitions that the same contracts use.
use Rattle.std.specs.Prelude.{◌≡◌, ℕ, ◌+◌, ◌-◌, ◌*◌, ◌%◌, ◌<◌, ◌≤◌, Bool, true, false, ◌||◌, length, ◌≢◌, ◌==◌}
use Rattle.geometry.specs.declared.datasheet.Commands.{Commands}
use Rattle.geometry.specs.declared.set.BlockSet.{BlockSet}
use Rattle.geometry.specs.Blocks.{block_of}
use Rattle.geometry.specs.Sets.{bit, has, count_of, union, meets}
use Rattle.geometry.specs.Sheets.{low_bits}
use Rattle.flash.specs.Limits.{window as open_for, longest_erase, protected_erase}
use Rattle.chip.specs.declared.chip.Chip.{Chip}
use Rattle.flash.specs.declared.sequence.Mode.{Mode}
use Rattle.flash.specs.declared.sequence.Mode.TheVariants.{Id}
use Rattle.flash.specs.declared.sequence.Place.{Place}
use Rattle.flash.specs.declared.sequence.Place.TheVariants.{Start, Second, Command, Data, EraseStart, EraseSecond, EraseBlock}
use Rattle.chip.specs.declared.state.Phase.TheVariants.{Window, Erasing as Begun}
use Rattle.chip.specs.declared.state.Program.{Program}
use Rattle.chip.specs.declared.state.Erase.{Erase}
use Rattle.chip.specs.declared.state.State.{State}
use Rattle.chip.specs.declared.state.State.TheVariants.{Ready, Programming, Erasing, Suspending, Suspended, Failed}
use Rattle.chip.specs.Setups.{in_limits}
use Rattle.chip.specs.Flash.{Flash, view, blocks, size, commands, inside, cell, lies_in, protected, worn, erasable}
use Rattle.chip.specs.Writes.{read_mode, program_time, block_alone, written}
use Rattle.chip.specs.Reads.{seen}
use Rattle.chip.specs.Times.{erase_time, tick, passed}
use Rattle.chip.specs.Resets.{after_reset}

-- What is true of every chip that there is: its numbers are inside their limits, it has as many cells as its geometry
-- says, and its count of microseconds is below 4,294,967,296.
pub record Sound (f : Flash) : Type 0 where
  pub limits : in_limits f.setup ≡ true
  pub whole : length f.cells ≡ size f
  pub counted : f.clock < 4294967296

-- The cells of protected and of worn blocks stay as they are.
abbrev pub KeepsBlocks : (Flash → Flash) → Type 0
KeepsBlocks g =
    (f : Flash) → Sound f → (a : ℕ) → inside f a ≡ true → (protected f a || worn f a) ≡ true → cell (g f) a ≡ cell f a

-- a block erase is under way, suspended or not
abbrev pub in_erase : State → Bool
in_erase (Ready mode place) = false
in_erase (Programming p) = false
in_erase (Erasing e) = true
in_erase (Suspending e wait) = true
in_erase (Suspended e) = true
in_erase (Failed byte toggle) = false

-- Without an erase no bit of a cell goes from 0 to 1.
abbrev pub OnlyClears : (Flash → Flash) → Type 0
OnlyClears g =
    (f : Flash) → in_erase f.state ≡ false → (a b : ℕ) → bit (cell (g f) a) b ≡ true → bit (cell f a) b ≡ true

-- The write that comes next in a sequence, where the chip takes its commands at c's addresses: command addresses are compared in the low bits that count.
pub data Fits (c : Commands) : Place → ℕ → ℕ → Type 0 where
  first_write : (a : ℕ) → low_bits c a ≡ c.first → Fits c Start a 0xAA
  second_write : (a : ℕ) → low_bits c a ≡ c.second → Fits c Second a 0x55
  to_read : (a : ℕ) → low_bits c a ≡ c.first → Fits c Command a 0xF0
  to_identify : (a : ℕ) → low_bits c a ≡ c.first → Fits c Command a 0x90
  to_program : (a : ℕ) → low_bits c a ≡ c.first → Fits c Command a 0xA0
  any_byte : (a b : ℕ) → Fits c Data a b
  to_erase : (a : ℕ) → low_bits c a ≡ c.first → Fits c Command a 0x80
  third_write : (a : ℕ) → low_bits c a ≡ c.first → Fits c EraseStart a 0xAA
  fourth_write : (a : ℕ) → low_bits c a ≡ c.second → Fits c EraseSecond a 0x55
  in_block : (a : ℕ) → Fits c EraseBlock a 0x30

-- Two writes in a row at the two command addresses: AAh and 55h.
abbrev pub unlocked : Flash → ℕ → ℕ → Flash
unlocked f x y = written (written f x 0xAA) y 0x55

-- an address that means the first, or the second, command address to the chip
abbrev pub First : Flash → ℕ → Type 0
First f a = (inside f a ≡ true) × (low_bits (commands f) a ≡ (commands f).first)

abbrev pub SecondAddress : Flash → ℕ → Type 0
SecondAddress f a = (inside f a ≡ true) × (low_bits (commands f) a ≡ (commands f).second)

-- An erasing goes on, with time left: as it began, or after a suspension.
pub record Works (f : Flash) (e : Erase) : Type 0 where
  pub erasing : f.state ≡ Erasing e
  pub phase : e.phase ≡ Begun
  pub left : 1 ≤ e.left

-- An erasing has just begun: all the time that it takes is left.
pub record Begins (f : Flash) (e : Erase) : Type 0 where
  pub erasing : f.state ≡ Erasing e
  pub phase : e.phase ≡ Begun
  pub whole : e.left ≡ erase_time f e.selected

pub record WriteLaws : Type 0 where
  -- A write changes no cell: an operation that it starts changes them when it ends.
  pub no_cell : (f : Flash) (a b : ℕ) → (written f a b).cells ≡ f.cells
  -- Cycles take no time.
  pub no_time : (f : Flash) (a b : ℕ) → (written f a b).clock ≡ f.clock
  -- A write that fits no next place in its sequence gives the sequence up, and leaves the mode that it began in.
  pub given_up : (f : Flash) (mode : Mode) (place : Place) → f.state ≡ Ready mode place
      → (a b : ℕ) → inside f a ≡ true → (Fits (commands f) place a b → ⊥) → (b ≢ 0xF0) → written f a b ≡ record f { state = Ready mode Start }
  -- F0h gives read mode, but as the byte to program.
  pub back_to_read : (f : Flash) (mode : Mode) (place : Place) → f.state ≡ Ready mode place
      → (a : ℕ) → inside f a ≡ true → (place ≢ Data) → written f a 0xF0 ≡ record f { state = read_mode }
  -- The four sequences, whole, from either mode.
  pub reads : (f : Flash) (mode : Mode) → f.state ≡ Ready mode Start
      → (x y z : ℕ) → First f x → SecondAddress f y → First f z
      → written (unlocked f x y) z 0xF0 ≡ record f { state = read_mode }
  pub identifies : (f : Flash) (mode : Mode) → f.state ≡ Ready mode Start
      → (x y z : ℕ) → First f x → SecondAddress f y → First f z
      → written (unlocked f x y) z 0x90 ≡ record f { state = Ready Id Start }
  pub programs : (f : Flash) (mode : Mode) → f.state ≡ Ready mode Start
      → (x y z a b : ℕ) → First f x → SecondAddress f y → First f z → inside f a ≡ true
      → written (written (unlocked f x y) z 0xA0) a b
      ≡ record f { state = Programming (record { address = a; byte = b; left = program_time f a b; toggle = false }) }
  pub erases : (f : Flash) (mode : Mode) → f.state ≡ Ready mode Start
      → (x y z u v a : ℕ) → First f x → SecondAddress f y → First f z → First f u → SecondAddress f v → inside f a ≡ true
      → written (unlocked (written (unlocked f x y) z 0x80) u v) a 0x30
      ≡ record f { state = Erasing (record { phase = Window; selected = block_alone f a; left = open_for; toggle = false }) }
  -- The window runs from the last 30h: however much of it was left, 49 microseconds later it is still open,
  -- and 50 microseconds later the erasing of the blocks selected before and the one that the 30h names has begun.
  pub window : (f : Flash) (e : Erase) → f.state ≡ Erasing e → e.phase ≡ Window → (a : ℕ) → inside f a ≡ true
      → (n : ℕ) → n < open_for → (g : Erase) × ((passed n (written f a 0x30)).state ≡ Erasing g) × (g.phase ≡ Window)
  pub begins : (f : Flash) (e : Erase) → f.state ≡ Erasing e → e.phase ≡ Window → (a : ℕ) → inside f a ≡ true
      → (g : Erase) × Begins (passed open_for (written f a 0x30)) g × (g.selected ≡ union e.selected (block_alone f a))
  -- 30h in the window adds the block that it names to those selected, and nothing else.
  pub adds : (f : Flash) (e : Erase) → f.state ≡ Erasing e → e.phase ≡ Window → (a : ℕ) → inside f a ≡ true
      → (g : Erase) × ((written f a 0x30).state ≡ Erasing g) × (g.phase ≡ Window) × (g.toggle ≡ e.toggle)
      × ((b : ℕ) → has g.selected b ≡ (has e.selected b || b == block_of (blocks f) a))
  -- Any write in the window but 30h and B0h gives read mode, with nothing erased.
  pub ends_window : (f : Flash) (e : Erase) → f.state ≡ Erasing e → e.phase ≡ Window → (a b : ℕ) → inside f a ≡ true
      → (b ≢ 0x30) → (b ≢ 0xB0) → written f a b ≡ record f { state = read_mode }
  -- A chip that programs, or is in the S microseconds before it is suspended, ignores every write.
  pub deaf_in_program : (f : Flash) (p : Program) → f.state ≡ Programming p → (a b : ℕ) → written f a b ≡ f
  pub deaf_in_stop : (f : Flash) (e : Erase) (wait : ℕ) → f.state ≡ Suspending e wait → (a b : ℕ) → written f a b ≡ f
  -- In the erasing after the window it ignores every write but B0h.
  pub deaf_in_erasing : (f : Flash) (e : Erase) → f.state ≡ Erasing e → e.phase ≡ Begun → (a b : ℕ) → (b ≢ 0xB0) → written f a b ≡ f
  -- B0h, in the window or the erasing, begins the S microseconds; the erase is held as it is.
  pub suspends : (f : Flash) (e : Erase) → f.state ≡ Erasing e → (a : ℕ) → inside f a ≡ true
      → written f a 0xB0 ≡ record f { state = Suspending e f.setup.suspend }
  -- A suspended chip goes on at 30h with exactly what was left, and ignores every other write.
  pub goes_on : (f : Flash) (e : Erase) → f.state ≡ Suspended e → (a : ℕ) → inside f a ≡ true → written f a 0x30 ≡ record f { state = Erasing e }
  pub deaf_in_suspension : (f : Flash) (e : Erase) → f.state ≡ Suspended e → (a b : ℕ) → (b ≢ 0x30) → written f a b ≡ f
  -- A failed chip heeds only F0h, which gives read mode.
  pub failed : (f : Flash) (byte : ℕ) (toggle : Bool) → f.state ≡ Failed byte toggle
      → (a b : ℕ) → (b ≢ 0xF0) → written f a b ≡ f
  pub mended : (f : Flash) (byte : ℕ) (toggle : Bool) → f.state ≡ Failed byte toggle
      → (a : ℕ) → inside f a ≡ true → written f a 0xF0 ≡ record f { state = read_mode }

pub record ReadLaws : Type 0 where
  -- A read changes no cell, and takes no time.
  pub no_cell : (f : Flash) (a : ℕ) → (seen f a).cells ≡ f.cells
  pub no_time : (f : Flash) (a : ℕ) → (seen f a).clock ≡ f.clock
  -- In read and ID mode it changes nothing at all, a sequence that has begun included.
  pub ready : (f : Flash) (mode : Mode) (place : Place) → f.state ≡ Ready mode place → (a : ℕ) → seen f a ≡ f

-- a byte is being programmed, or blocks are being erased
abbrev pub busy : State → Bool
busy (Ready mode place) = false
busy (Programming p) = true
busy (Erasing e) = true
busy (Suspending e wait) = false
busy (Suspended e) = false
busy (Failed byte toggle) = false

abbrev pub has_failed : State → Bool
has_failed (Ready mode place) = false
has_failed (Programming p) = false
has_failed (Erasing e) = false
has_failed (Suspending e wait) = false
has_failed (Suspended e) = false
has_failed (Failed byte toggle) = true

-- a chip holds an erase: in the S microseconds before it is suspended, and while it is
pub data Holds (e : Erase) : State → Type 0 where
  stopping : (wait : ℕ) → Holds e (Suspending e wait)
  stopped : Holds e (Suspended e)

-- From one chip to another the blocks of a set have become FFh throughout, no other cell has changed, and the chip is in read mode.
pub record Erased (f : Flash) (set : BlockSet) (g : Flash) : Type 0 where
  pub reads : g.state ≡ read_mode
  pub ones : (a : ℕ) → inside f a ≡ true → lies_in f set a ≡ true → cell g a ≡ 0xFF
  pub others : (a : ℕ) → lies_in f set a ≡ false → cell g a ≡ cell f a

-- From one chip to another an erasing has gone on for n microseconds, and no cell has changed.
pub record StillErasing (f : Flash) (e : Erase) (n : ℕ) (g : Flash) : Type 0 where
  pub erasing : g.state ≡ Erasing (record e { left = e.left - n })
  pub cells : g.cells ≡ f.cells

pub record PassLaws : Type 0 where
  -- Letting n microseconds pass is n steps of one.
  pub none : (f : Flash) → passed 0 f ≡ f
  pub one_more : (n : ℕ) (f : Flash) → passed (n + 1) f ≡ tick (passed n f)
  pub split : (a b : ℕ) (f : Flash) → passed (a + b) f ≡ passed b (passed a f)
  -- Each step is counted.
  pub counts : (n : ℕ) (f : Flash) → Sound f → (passed n f).clock ≡ (f.clock + n) % 4294967296
  pub keeps_blocks : (n : ℕ) → KeepsBlocks (passed n)
  pub only_clears : (n : ℕ) → OnlyClears (passed n)
  -- A finished operation ends in read mode.
  pub ends : (n : ℕ) (f : Flash) → busy f.state ≡ true
      → busy (passed n f).state ≡ false → has_failed (passed n f).state ≡ false → (passed n f).state ≡ read_mode
  -- A failed chip stays so.
  pub failed : (n : ℕ) (f : Flash) → has_failed f.state ≡ true → (passed n f).state ≡ f.state
  -- A program changes no cell but its own.
  pub own_cell : (n : ℕ) (f : Flash) (p : Program) → f.state ≡ Programming p → (a : ℕ) → (a ≢ p.address) → cell (passed n f) a ≡ cell f a
  -- The erase that a suspension holds stands still, window and erasing alike, however much time passes.
  pub stands_still : (n : ℕ) (f : Flash) (e : Erase) → Holds e f.state → Holds e (passed n f).state × ((passed n f).cells ≡ f.cells)
  -- The chip is suspended when its S microseconds are over, and not before.
  pub suspends : (f : Flash) (e : Erase) (wait : ℕ) → f.state ≡ Suspending e wait → 1 ≤ wait
      → ((n : ℕ) → n < wait → (passed n f).state ≡ Suspending e (wait - n)) × ((passed wait f).state ≡ Suspended e)
  -- An erasing of blocks of which none is worn has erased them when the time that is left has passed, however often it was suspended before, and has
  -- changed nothing until then.
  pub ends_erased : (f : Flash) (e : Erase) → Sound f → Works f e → meets (erasable f e.selected) f.setup.worn ≡ false
      → ((n : ℕ) → n < e.left → StillErasing f e n (passed n f)) × Erased f (erasable f e.selected) (passed e.left f)
  -- Where one of them is worn it fails then, and never changes a cell.
  pub ends_failed : (f : Flash) (e : Erase) → Works f e → meets (erasable f e.selected) f.setup.worn ≡ true
      → ((n : ℕ) → n < e.left → StillErasing f e n (passed n f)) × ((passed e.left f).state ≡ Failed 0xFF e.toggle)
      × ((n : ℕ) → (passed n f).cells ≡ f.cells)
  -- An erasing of c blocks, none of them worn, has erased them after c x E microseconds, and has changed nothing before.
  pub erases : (f : Flash) (e : Erase) → Sound f → Begins f e → 1 ≤ count_of (erasable f e.selected) → meets (erasable f e.selected) f.setup.worn ≡ false
      → ((n : ℕ) → n < count_of (erasable f e.selected) * f.setup.erase → StillErasing f e n (passed n f))
      × Erased f (erasable f e.selected) (passed (count_of (erasable f e.selected) * f.setup.erase) f)
  -- An erasing of c blocks, one of them worn, fails after c x 10,000,000 microseconds, and never changes a cell.
  pub fails : (f : Flash) (e : Erase) → Begins f e → meets (erasable f e.selected) f.setup.worn ≡ true
      → ((n : ℕ) → n < count_of (erasable f e.selected) * longest_erase → StillErasing f e n (passed n f))
      × ((passed (count_of (erasable f e.selected) * longest_erase) f).state ≡ Failed 0xFF e.toggle)
      × ((n : ℕ) → (passed n f).cells ≡ f.cells)
  -- Where all selected blocks are protected the erasing lasts 50 microseconds, and changes no cell.
  pub refuses : (f : Flash) (e : Erase) → Begins f e → count_of (erasable f e.selected) ≡ 0
      → ((n : ℕ) → n < protected_erase → StillErasing f e n (passed n f))
      × ((passed protected_erase f).state ≡ read_mode) × ((passed protected_erase f).cells ≡ f.cells)

pub record ResetLaws : Type 0 where
  -- The reset pin gives read mode, and takes no time.
  pub reads : (f : Flash) → (after_reset f).state ≡ read_mode
  pub no_time : (f : Flash) → (after_reset f).clock ≡ f.clock
  pub keeps_blocks : KeepsBlocks after_reset
  -- In a program it changes that program's cell alone.
  pub own_cell : (f : Flash) (p : Program) → f.state ≡ Programming p → (a : ℕ) → (a ≢ p.address) → cell (after_reset f) a ≡ cell f a
  -- Whatever it breaks off, no bit of a cell goes from 0 to 1.
  pub never_sets : (f : Flash) (a b : ℕ) → bit (cell (after_reset f) a) b ≡ true → bit (cell f a) b ≡ true

-- every chip is sound
abbrev pub AllSound : Type 0
AllSound = (c : Chip) → Sound (view c)
