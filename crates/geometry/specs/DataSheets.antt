-- The data sheets in numbers. The plans are built from the constants of the source; here is what these have to be.
use Rattle.std.specs.Prelude.{◌≡◌, ℕ, ◌*◌, ◌≤◌, [], ◌++◌, map, replicate, reverse}
use Rattle.geometry.specs.Plans.{Plan, top, bottom, bench, dead, plan_of}

-- What the three chips share: Toshiba's code; commands at 5555h and 2AAAh, compared in fifteen low bits; in ID mode address bits A0, A1 and A6 choose.
pub record Family (p : Plan) : Type 0 where
  pub maker : p.maker ≡ 0x98
  pub first : p.commands.first ≡ 0x5555
  pub second : p.commands.second ≡ 0x2AAA
  pub bits : p.commands.bits ≡ 15
  pub a0 : p.choice.low ≡ 0
  pub a1 : p.choice.middle ≡ 1
  pub a6 : p.choice.high ≡ 6

-- TC58FVT004: 512 kilobytes; from address 0 on seven blocks of 64 kilobytes, one of 32, two of 8 and one of 16.
pub record TopSheet : Type 0 where
  pub family : Family top
  pub size : top.size ≡ 524288
  pub code : top.code ≡ 0x3B
  pub blocks : top.sizes ≡ replicate 7 65536 ++ replicate 1 32768 ++ replicate 2 8192 ++ replicate 1 16384

-- TC58FVB004: the same blocks in the reverse order.
pub record BottomSheet : Type 0 where
  pub family : Family bottom
  pub size : bottom.size ≡ 524288
  pub code : bottom.code ≡ 0xBA
  pub blocks : bottom.sizes ≡ reverse top.sizes

-- The bench chip: TC58FVB004 with every size divided by 16.
pub record BenchSheet : Type 0 where
  pub family : Family bench
  pub size : bench.size ≡ 32768
  pub code : bench.code ≡ 0xBA
  pub blocks : map (λ w. 16 * w) bench.sizes ≡ bottom.sizes

-- What stands for no chip: no bytes, no blocks, and 0 for its device code.
pub record NoChip : Type 0 where
  pub size : dead.size ≡ 0
  pub code : dead.code ≡ 0
  pub starts : dead.starts ≡ []
  pub sizes : dead.sizes ≡ []

-- The plain number of each chip. Every other number names none.
pub record Numbered : Type 0 where
  pub top : plan_of 0 ≡ top
  pub bottom : plan_of 1 ≡ bottom
  pub bench : plan_of 2 ≡ bench
  pub other : (kind : ℕ) → 3 ≤ kind → plan_of kind ≡ dead

pub record AsTheSheetsSay : Type 0 where
  pub numbers : Numbered
  pub no_chip : NoChip
  pub top : TopSheet
  pub bottom : BottomSheet
  pub bench : BenchSheet
