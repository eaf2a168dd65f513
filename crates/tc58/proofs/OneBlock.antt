-- An erase of one block that is not protected.
use Rattle.std.proofs.Common.{◌≡◌, ℕ, ◌^◌, ◌<◌, Bool, true, false, cond, not, ◌&&◌, eqb, ltb, List, length, get_or, sym, refl, ap, ◌∙◌, inl, inr, arith}
use lib.Bits.{bit_and}
use Rattle.std.proofs.lemmas.Nat.{pow_pos}
use Rattle.std.proofs.lemmas.List.{ext_get_or}
use Rattle.std.proofs.lemmas.Bool.{lt-ltb, eq-eqb, ne_eqb, cases_eq, and_right}
use Rattle.geometry.specs.declared.set.BlockSet.{BlockSet}
use Rattle.geometry.specs.Blocks.{block_of, filled, wiped}
use Rattle.geometry.specs.Sets.{bit, has, count_of, meets}
use Rattle.geometry.proofs.Bitwise.{bit_one, and_one, ones_one}
use Rattle.geometry.proofs.Sets.{same_set, has_without}
use Rattle.geometry.proofs.Filling.{filled_at, length_filled}
use Rattle.geometry.proofs.Wiping.{wiped_at, length_wiped}
use Rattle.flash.specs.Limits.{longest_erase}
use Rattle.chip.specs.Flash.{Flash, erasable}
use Rattle.chip.specs.Times.{spoils, erase_time}

-- a set of one block
pub one_has : (set : BlockSet) (b c : ℕ) → set.mask ≡ 2 ^ b → has set c ≡ eqb c b
one_has set b c m = ap (λ (x : ℕ). bit x c) m ∙ bit_one b c

-- Filling the one block of a set wipes that block.
pub filled_one : (sizes : List ℕ) (set : BlockSet) (b v : ℕ) (cells : List ℕ) → set.mask ≡ 2 ^ b → b < length sizes → filled sizes set v cells ≡ wiped sizes b v cells
filled_one sizes set b v cells m l =
    ext_get_or 0 (filled sizes set v cells) (wiped sizes b v cells)
    (length_filled sizes set v cells ∙ sym (length_wiped sizes b v cells))
    (λ k h.
    let within : k < length cells = omega (arith, length_filled sizes set v cells) in
    filled_at sizes set v cells k within
    ∙ ap (λ (t : Bool). cond t v (get_or cells k 0)) (own k)
    ∙ sym (wiped_at sizes b v cells k l within))
  where
    own : (k : ℕ) → (ltb (block_of sizes k) (length sizes) && has set (block_of sizes k)) ≡ eqb (block_of sizes k) b
    own k = elim (cases_eq (block_of sizes k) b) [
      | inl e ↦ rw (one_has set b (block_of sizes k) m, eq-eqb _ _ e, lt-ltb (block_of sizes k) (length sizes) (omega arith))
      | inr n ↦
          let z : has set (block_of sizes k) ≡ false = one_has set b (block_of sizes k) m ∙ ne_eqb _ _ n in
          and_right _ _ z ∙ sym (ne_eqb _ _ n)
    ]

module _ (f : Flash) (set : BlockSet) (b : ℕ) (m : set.mask ≡ 2 ^ b) (open_block : has f.setup.protected b ≡ false) where
  pub erasable_one : erasable f set ≡ set
  erasable_one = same_set (erasable f set) set (λ c. has_without set f.setup.protected c ∙ by c)
    where
      by : (c : ℕ) → (has set c && not (has f.setup.protected c)) ≡ has set c
      by c = elim (cases_eq c b) [
        | inl e ↦ let n : has f.setup.protected c ≡ false = ap (has f.setup.protected) e ∙ open_block in rw n (and_not (has set c))
        | inr d ↦ let n : has set c ≡ false = one_has set b c m ∙ ne_eqb _ _ d in rw n refl
      ]
        where
          and_not : (t : Bool) → (t && true) ≡ t
          and_not true = refl
          and_not false = refl

  pub spoils_one : spoils f set ≡ has f.setup.worn b
  spoils_one =
      ap (λ (s : BlockSet). meets s f.setup.worn) erasable_one
      ∙ ap (λ (x : ℕ). ltb 0 (bit_and x f.setup.worn.mask)) m
      ∙ ap (ltb 0) (and_one b f.setup.worn.mask) ∙ by (has f.setup.worn b)
    where
      by : (t : Bool) → ltb 0 (cond t (2 ^ b) 0) ≡ t
      by true = lt-ltb 0 (2 ^ b) (omega (arith, pow_pos b))
      by false = refl

  pub erase_time_one : erase_time f set ≡ cond (has f.setup.worn b) longest_erase f.setup.erase
  erase_time_one =
      let one : count_of (erasable f set) ≡ 1 = ap count_of erasable_one ∙ ap (λ (x : ℕ). count_of (record { mask = x })) m ∙ ones_one b in
      rw (one, spoils_one) (omega arith)
