-- What a chip is after one change and another.
use Rattle.std.proofs.Common.{◌≡◌, ℕ, ◌+◌, ◌%◌, ◌<◌, true, leb, List, Ok, Result, sym, ap, ◌∙◌, subst, inl, inr, arith}
use Rattle.fault.specs.declared.faults.ChipFault.{ChipFault}
use Rattle.fault.specs.Limits.{longest}
use Rattle.driver.specs.Rig.{Doing, Rig, does, later, SameChip, inside}
use Rattle.driver.specs.Cycles.{flipped, Heeds, Writes, Shows, Reads, Elapses, Passes}

pub does_more : (r s t : Rig) (d e : Doing) → s ≡ does r d → t ≡ does s e → t ≡ does r e
does_more r s t d e p q = q ∙ ap (λ (x : Rig). does x e) p

pub later_none : (r : Rig) (d : Doing) → r.clock < 4294967296 → r.doing ≡ d → r ≡ later r 0 r.cells d
later_none r d c e =
    let z : r.clock ≡ (r.clock + 0) % 4294967296 = omega arith in
    ap (λ (n : ℕ). record r { clock = n }) z ∙ ap (λ (x : Doing). later r 0 r.cells x) e

pub later_more : (r : Rig) (a b : ℕ) (cells rest : List ℕ) (d e : Doing) → later (later r a cells d) b rest e ≡ later r (a + b) rest e
later_more r a b cells rest d e =
    let z : ((r.clock + a) % 4294967296 + b) % 4294967296 ≡ (r.clock + (a + b)) % 4294967296 = omega arith in
    ap (λ (n : ℕ). record r { cells = rest; doing = e; clock = n }) z

-- A cycle, or time, leaves the same chip.
pub same_more : (r s t : Rig) → SameChip r s → SameChip s t → SameChip r t
same_more r s t p q = q ∙ ap (λ (x : Rig). record x { cells = t.cells; doing = t.doing; clock = t.clock }) p

pub same_cycle : (r s : Rig) → s ≡ does r s.doing → SameChip r s
same_cycle r s e =
    let c : r.cells ≡ s.cells = sym (ap (λ (x : Rig). x.cells) e) in
    let k : r.clock ≡ s.clock = sym (ap (λ (x : Rig). x.clock) e) in
    e ∙ ap (λ (x : List ℕ). record r { cells = x; doing = s.doing }) c ∙ ap (λ (x : ℕ). record r { cells = s.cells; doing = s.doing; clock = x }) k

pub same_later : (r s : Rig) (n : ℕ) → s ≡ later r n s.cells s.doing → SameChip r s
same_later r s n e =
    let k : (r.clock + n) % 4294967296 ≡ s.clock = sym (ap (λ (x : Rig). x.clock) e) in
    e ∙ ap (λ (x : ℕ). record r { cells = s.cells; doing = s.doing; clock = x }) k

-- A read changes what the chip is doing at most.
pub only_read : (r s : Rig) (a byte : ℕ) → Shows r a byte s → s ≡ does r s.doing
only_read r s a byte x = elim x.only [
  | inl e ↦ e ∙ ap (does r) (ap (λ (y : Rig). y.doing) (sym e))
  | inr e ↦ e ∙ ap (does r) (ap (λ (y : Rig). y.doing) (sym e))
]

-- It changes nothing, where there is no toggle bit.
pub still_read : (r s : Rig) (a byte : ℕ) (d : Doing) → r.doing ≡ d → flipped d ≡ d → Shows r a byte s → s ≡ r
still_read r s a byte d e f x = elim x.only [
  | inl p ↦ p
  | inr p ↦ p ∙ ap (does r) (ap flipped e ∙ f ∙ sym e)
]

-- the toggle bit has turned
pub flip_read : (r s : Rig) (d : Doing) → r.doing ≡ d → s ≡ does r (flipped r.doing) → s ≡ does r (flipped d)
flip_read r s d e p = p ∙ ap (λ (x : Doing). does r (flipped x)) e

-- A cycle that was not refused.
pub heeded : (r s : Rig) (a byte : ℕ) (x : Result (Unit {0}) ChipFault) (y : Unit {0}) → Writes r a byte x s → x ≡ Ok y → Heeds r a byte s
heeded r s a byte x y w e = (subst (λ (z : Result (Unit {0}) ChipFault). Writes r a byte z s) e w).1

pub shown : (r s : Rig) (a byte : ℕ) (x : Result ℕ ChipFault) → Reads r a x s → x ≡ Ok byte → Shows r a byte s
shown r s a byte x w e = (subst (λ (z : Result ℕ ChipFault). Reads r a z s) e w).1

pub granted_read : (r s : Rig) (a byte : ℕ) (x : Result ℕ ChipFault) → Reads r a x s → x ≡ Ok byte → (inside r.sheet a ≡ true) × Shows r a byte s
granted_read r s a byte x w e = subst (λ (z : Result ℕ ChipFault). Reads r a z s) e w

pub granted_pass : (r s : Rig) (n : ℕ) (x : Result (Unit {0}) ChipFault) (y : Unit {0}) → Passes r n x s → x ≡ Ok y → (leb n longest ≡ true) × Elapses r n s
granted_pass r s n x y w e = subst (λ (z : Result (Unit {0}) ChipFault). Passes r n z s) e w
