use Rattle.std.proofs.Common.{length, get_or, sym, eqb, arith}
use Rattle.std.proofs.lemmas.Bool.{ne_eqb, eq-eqb}
use Rattle.std.proofs.lemmas.List.Sums.{position_or_len_is}
use Rattle.words.proofs.lines.place_of.Goals as goal

pub returns-then-b-byte-clause-value : goal.returns-then-b-byte-clause-value
returns-then-b-byte-clause-value c =
    let bytes = c.args.bytes.now in
    sym (position_or_len_is (λ b. eqb b c.args.byte) bytes c.loop-i.i 0 (omega arith)
    (λ k lt. ne_eqb (get_or bytes k 0) c.args.byte (c.loop-i.invariant k lt))
    (λ _. eq-eqb (get_or bytes c.loop-i.i 0) c.args.byte c.if-b-byte.true))

pub returns-clause-value : goal.returns-clause-value
returns-clause-value c =
    let bytes = c.args.bytes.now in
    sym (position_or_len_is (λ b. eqb b c.args.byte) bytes (length bytes) 0 (omega arith)
    (λ k lt. ne_eqb (get_or bytes k 0) c.args.byte (c.loop-i.invariant k (omega arith)))
    (λ lt. absurd (omega arith)))
