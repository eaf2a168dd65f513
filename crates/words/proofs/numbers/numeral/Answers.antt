use Rattle.std.proofs.Common.{◌≡◌, ℕ, ◌+◌, ◌*◌, ◌<◌, ◌≤◌, length, get_or, sym, ap, ◌∙◌, arith, below_more, inl, inr}
use Rattle.std.proofs.lemmas.Bool.{cases_lt, eqb-false}
use Rattle.std.specs.Char.{digit_value}
use Rattle.std.specs.Str.Parse.{digits_value}
use Rattle.words.proofs.Digits.{one_more, no_digit, too_large, all_read}
use Rattle.words.proofs.numbers.numeral.Goals as goal

pub returns-then-digit-base : goal.returns-then-digit-base
returns-then-digit-base c =
    no_digit c.args.base c.args.most c.args.digits.now c.loop-c.c-index (omega arith) (omega arith)

past : (value base digit given most : ℕ) → given ≡ digit → (value * base + given ≤ most → ⊥) → most < value * base + digit
past value base digit given most e h = elim (cases_lt most (value * base + given)) [ inl lt ↦ omega arith | inr le ↦ absurd (h le) ]

pub returns-in-None : goal.returns-in-None
returns-in-None c =
    let ds = c.args.digits.now in
    let i = c.loop-c.c-index in
    let over : c.args.most < c.loop-c.value * c.args.base + digit_value (get_or ds i 0) = past c.loop-c.value c.args.base (digit_value (get_or ds i 0)) c.digit-digit.result c.args.most c.digit-digit.ensures c.in-None.ensures in
    too_large c.args.base c.args.most c.loop-c.value ds i (omega arith) (omega arith) c.loop-c.invariant.value over

pub loop-c-preserved : goal.loop-c-preserved
loop-c-preserved c =
    let ds = c.args.digits.now in
    let i = c.loop-c.c-index in
    let is : c.in-Some.more ≡ c.loop-c.value * c.args.base + digit_value (get_or ds i 0) = c.in-Some.ensures.1 ∙ ap (λ (d : ℕ). c.loop-c.value * c.args.base + d) c.digit-digit.ensures in
    record {
      each = below_more _ _ c.loop-c.invariant.each (omega arith);
      value = rw is (one_more c.args.base c.loop-c.value ds i (digits_value c.args.base ds) (omega arith) c.loop-c.invariant.value);
      fits = omega (arith, c.in-Some.ensures.0, c.in-Some.ensures.1);
    }

pub returns : goal.returns
returns c =
    let ds = c.args.digits.now in
    let some : length ds ≡ 0 → ⊥ = eqb-false (length ds) 0 (sym c.is_empty.ensures ∙ c.if-is_empty.false) in
    all_read c.args.base c.args.most c.loop-c.value ds c.loop-c.c-index (omega arith) (omega arith) c.loop-c.invariant.each c.loop-c.invariant.fits c.loop-c.invariant.value
