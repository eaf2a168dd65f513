use Rattle.std.proofs.Common.{◌++◌, List, ℕ, sym, ap, ◌∙◌, append_assoc}
use Rattle.words.specs.Lines.{words_of, spaced}
use Rattle.words.proofs.Cutting.{spread, spaced_first}
use Rattle.words.proofs.lines.push_words.Goals as goal

pub loop-word-init : goal.loop-word-init
loop-word-init c =
    let out = c.args.out.now.items in
    let first = c.in-Some.first.now in
    let others = words_of c.in-Some.after.now in
    ap (λ (x : List ℕ). x ++ spread others) c.in_ok-extend_from_slice.ensures.items
    ∙ append_assoc out first (spread others)
    ∙ ap (λ (x : List ℕ). out ++ x) (sym (spaced_first first others) ∙ ap spaced (sym c.in-Some.ensures.some))
