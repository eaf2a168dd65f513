-- Proof text: the addresses that belong to a block lie where they should, and a chip is sound as a rig. It stands here since the impls of the driver's
-- traits need it for their laws.
use Rattle.std.specs.Prelude.{◌≡◌, ℕ, zero, suc, ◌+◌, ◌^◌, ◌<◌, Bool, true, ◌&&◌, length, ◌==◌, nat_lt, slice_index, refl}
use Rattle.std.proofs.Common.{sym, ap, ◌∙◌, arith}
use Rattle.std.proofs.lemmas.Bool.{and_parts, eqb-true, lt-ltb, ltb-true}
use Rattle.geometry.specs.declared.set.BlockSet.{BlockSet}
use Rattle.geometry.specs.Blocks.{start_of, block_of}
use Rattle.geometry.specs.Plans.{Plan, plan_of}
use Rattle.geometry.proofs.Bitwise.{below, at_below}
use Rattle.geometry.proofs.Placing.{every_plan, every_contiguous, every_total, every_few, table_start}
use Rattle.chip.specs.declared.chip.Chip.{Chip}
use Rattle.chip.specs.Flash.{Flash, view, blocks}
use Rattle.chip.specs.Flash as flash
use Rattle.chip.specs.Laws as laws
use Rattle.chip.proofs.Limits.{limits}
use Rattle.chip.proofs.PassLaws.{all_sound}
use Rattle.driver.specs.Rig.{inside, LiesIn}
use Rattle.driver.specs.Sound.{Addressed, Sound}
use Rattle.tc58.specs.Rigs.{marks, guard_address, sheet_of, rig_of}

-- A test that the plan of each chip passes, for each of its blocks.
pub every_plan_block : (test : Plan → ℕ → Bool) → ((kind : ℕ) → below (length (plan_of kind).sizes) (test (plan_of kind)) ≡ true)
    → (kind b : ℕ) → b < length (plan_of kind).sizes → test (plan_of kind) b ≡ true
every_plan_block test t kind b l = at_below (length (plan_of kind).sizes) (test (plan_of kind)) (t kind) b l

-- the command addresses are inside, the start of a block lies in it, and so does the address at which its guard is read
abbrev pub placed : Plan → ℕ → Bool
placed p b =
    nat_lt p.commands.first p.size && nat_lt p.commands.second p.size
    && (nat_lt (slice_index p.starts b) p.size && block_of p.sizes (slice_index p.starts b) == b)
    && (nat_lt (slice_index p.starts b + 2 ^ p.choice.middle) p.size && block_of p.sizes (slice_index p.starts b + 2 ^ p.choice.middle) == b)

all_placed : (kind b : ℕ) → b < length (plan_of kind).sizes → placed (plan_of kind) b ≡ true
all_placed = every_plan_block placed (λ kind. every_plan (λ (p : Plan). below (length p.sizes) (placed p)) refl kind)

start_is : (kind b : ℕ) → b < length (plan_of kind).sizes → slice_index (plan_of kind).starts b ≡ start_of (plan_of kind).sizes b
start_is kind b l =
    omega (arith, table_start 0 (plan_of kind).starts (plan_of kind).sizes (plan_of kind).size (every_contiguous kind) b l)

pub record Placed (kind b : ℕ) : Type 0 where
  pub first : inside (sheet_of kind) (plan_of kind).commands.first ≡ true
  pub second : inside (sheet_of kind) (plan_of kind).commands.second ≡ true
  pub start : LiesIn (sheet_of kind) (slice_index (plan_of kind).starts b) b
  pub guard : LiesIn (sheet_of kind) (guard_address kind b) b

-- an address below the size is below the end of the last block
within : (kind a : ℕ) → nat_lt a (plan_of kind).size ≡ true → inside (sheet_of kind) a ≡ true
within kind a t = ap (nat_lt a) (every_total kind) ∙ t

pub places : (kind b : ℕ) → b < length (plan_of kind).sizes → Placed kind b
places kind b l =
    let p = plan_of kind in
    let all = and_parts _ _ (all_placed kind b l) in
    let rest = and_parts _ _ all.0 in
    let commands = and_parts _ _ rest.0 in
    let start = and_parts _ _ rest.1 in
    let guard = and_parts _ _ all.1 in
    record {
      first = within kind p.commands.first commands.0;
      second = within kind p.commands.second commands.1;
      start = (within kind (slice_index p.starts b) start.0, eqb-true _ _ start.1);
      guard = (within kind (guard_address kind b) guard.0, eqb-true _ _ guard.1);
    }

-- Where there is a block, address 0 is inside.
pub first_inside : (f : Flash) (b : ℕ) → b < length (blocks f) → flash.inside f 0 ≡ true
first_inside f b l =
    lt-ltb 0 (flash.size f) (omega (arith, ltb-true _ _ (places f.setup.kind b l).start.0, every_total f.setup.kind))

addressed : (kind b : ℕ) → b < length (plan_of kind).sizes → Addressed (sheet_of kind) b
addressed kind b l =
    let p = places kind b l in
    record {
      first = p.first;
      second = p.second;
      guard = p.guard;
      start = (
        ap (λ (a : ℕ). inside (sheet_of kind) a) (sym (start_is kind b l)) ∙ p.start.0,
        ap (λ (a : ℕ). block_of (plan_of kind).sizes a) (sym (start_is kind b l)) ∙ p.start.1,
      );
    }

length_marks : (from n : ℕ) (set : BlockSet) → length (marks from n set) ≡ n
length_marks from zero set = refl
length_marks from (suc n) set = ap suc (length_marks (from + 1) n set)

pub sound : (c : Chip) → Sound (rig_of (view c))
sound c =
    let f : Flash = view c in
    let s : laws.Sound f = all_sound c in
    let l = limits f.setup s.limits in
    let n : ℕ = length (blocks f) in
    record {
      whole = every_total f.setup.kind ∙ sym s.whole;
      small = omega (arith, s.whole, ltb-true _ _ (every_plan (λ (p : Plan). nat_lt p.size 4294967296) refl f.setup.kind));
      few = every_few f.setup.kind;
      guards = length_marks 0 n f.setup.protected;
      wears = length_marks 0 n f.setup.worn;
      clock = s.counted;
      program_least = l.program_low;
      program_most = l.program_high;
      erase_least = l.erase_low;
      erase_most = l.erase_high;
      suspend_least = l.suspend_low;
      suspend_most = l.suspend_high;
      addressed = addressed f.setup.kind;
    }
