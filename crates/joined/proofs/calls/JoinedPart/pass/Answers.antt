use Rattle.std.proofs.Common.{sym, ◌∙◌, rules}
use Rattle.joined.proofs.Whole.{sound}
use Rattle.joined.proofs.Aiming.{both_passed, pass_second}
use Rattle.joined.proofs.calls.JoinedPart.pass.Goals as goal

pub invariant_of-self-2 : goal.invariant_of-self-2
invariant_of-self-2 g c =
    let s = c.args.self.now in
    let v = sound (g.met.P.Part.lawful s.first.part) (g.met.Q.Part.lawful s.second.part) s.fit in
    record { fit = (both_passed v c.args.n c.pass.ensures.passed c.pass-2.ensures.passed).kept.fit }

pub returns-in-Some-clause-passed : goal.returns-in-Some-clause-passed
returns-in-Some-clause-passed g c =
    let s = c.args.self.now in
    let v = sound (g.met.P.Part.lawful s.first.part) (g.met.Q.Part.lawful s.second.part) s.fit in
    (both_passed v c.args.n c.pass.ensures.passed c.pass-2.ensures.passed).kept.whole

pub returns-in-Some-2-clause-passed : goal.returns-in-Some-2-clause-passed
returns-in-Some-2-clause-passed g c =
    let s = c.args.self.now in
    let v = sound (g.met.P.Part.lawful s.first.part) (g.met.Q.Part.lawful s.second.part) s.fit in
    (both_passed v c.args.n c.pass.ensures.passed c.pass-2.ensures.passed).kept.whole

pub returns-in-Some-2-clause-answer : goal.returns-in-Some-2-clause-answer
returns-in-Some-2-clause-answer g c =
    let s = c.args.self.now in
    let v = sound (g.met.P.Part.lawful s.first.part) (g.met.Q.Part.lawful s.second.part) s.fit in
    sym c.in_ok-behind.was ∙ pass_second v c.args.n c.in-Some.first c.pass-2.result (search rules) (search rules) (search rules) c.pass-2.ensures.answer
