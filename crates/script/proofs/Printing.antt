-- What the console's answers look like.
use Rattle.std.proofs.Common.{◌≡◌, ℕ, ◌-◌, ◌^◌, true, false, List, [], ◌++◌, length, ap, ◌∙◌, arith}
use Rattle.std.proofs.lemmas.List.{append-nil}
use Rattle.std.specs.Prelude.{replicate}
use Rattle.std.specs.Fmt.{digits, char_count, padded_integral, format_spec}
use Rattle.script.specs.Answers.{sixteen}

-- sixteen places, filled with zeros from the left
pub sixteen_is : (n : ℕ) → padded_integral (format_spec 32 0 4 16 (2 ^ 64 - 1)) false [] (digits 16 true n) ≡ sixteen n
unfolding padded_integral char_count sixteen
sixteen_is n =
    let ds : List ℕ = digits 16 true n in
    let short : 16 - length ds - 0 - 0 ≡ 16 - length ds = omega arith in
    ap (λ (k : ℕ). replicate k 48 ++ (ds ++ [])) short ∙ ap (λ (rest : List ℕ). replicate (16 - length ds) 48 ++ rest) (append-nil ds)
