use Rattle.std.proofs.Common.{◌≡◌, ℕ, ◌<◌, ◌≤◌, drop, get_or}
use Rattle.std.specs.Char.{digit_value}
use Rattle.std.specs.Str.Parse.{digits_value, digits_value_after}
use Rattle.words.proofs.numbers.numeral.Given as goal

abbrev pub invariant-loop-c : goal.invariant-loop-c
invariant-loop-c l =
    record {
      each : (k : ℕ) → k < l.c-index → digit_value (get_or l.digits k 0) < l.base;
      value : digits_value_after l.base l.value (drop l.c-index l.digits) ≡ digits_value l.base l.digits;
      fits : l.value ≤ l.most;
    }
