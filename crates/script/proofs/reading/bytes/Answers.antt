use Rattle.std.proofs.Common.{◌≡◌, ℕ, true, not, sym, ap, ◌∙◌}
use Rattle.std.specs.Option.{is_some}
use Rattle.words.specs.Numbers.{number_of}
use Rattle.script.proofs.Bytes.{some_of, one_byte}
use Rattle.script.proofs.reading.bytes.Goals as goal

pub loop-word-preserved : goal.loop-word-preserved
loop-word-preserved c =
    let read : c.number.result ≡ number_of 255 c.in-Some.word.now = c.number.ensures.value ∙ ap (λ (most : ℕ). number_of most c.in-Some.word.now) c.from.ensures in
    let there : is_some c.number.result ≡ true = c.is_none-in-Some.ensures ∙ ap not c.if-is_none-2.false in
    let is = some_of c.number.result there in
    c.loop-word.invariant ∙ one_byte c.loop-word.rest.now c.in-Some.after.now c.in-Some.word.now is.0 c.in-Some.ensures.some (sym read ∙ is.1)
