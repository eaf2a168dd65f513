use Rattle.std.proofs.Common.{rules}
use Rattle.part.specs.Meaning.{cell}
use Rattle.joined.specs.Pile.{joined}
use Rattle.joined.proofs.Whole.{sound}
use Rattle.joined.proofs.Aiming.{peek_refused, peek_first, peek_second}
use Rattle.joined.proofs.calls.JoinedPart.peek.Goals as goal

pub returns-in_err-peek_aim-clause-answer : goal.returns-in_err-peek_aim-clause-answer
returns-in_err-peek_aim-clause-answer g c =
    let s = c.args.self.now in
    let m = g.P.Part.means s.first.part in
    let n = g.Q.Part.means s.second.part in
    let v = sound (g.met.P.Part.lawful s.first.part) (g.met.Q.Part.lawful s.second.part) s.fit in
    peek_refused v c.args.address c.peek_aim.result c.peek_aim.ensures (cell (joined s.live m n) c.args.address) c.in_err-peek_aim.field-0.0 c.from_residual.result (search rules) (search rules)

pub returns-in-First-clause-answer : goal.returns-in-First-clause-answer
returns-in-First-clause-answer g c =
    let s = c.args.self.now in
    let v = sound (g.met.P.Part.lawful s.first.part) (g.met.Q.Part.lawful s.second.part) s.fit in
    peek_first v c.args.address c.peek_aim.result c.peek_aim.ensures c.peek.result (search rules) c.peek.ensures.answer

pub returns-in-Second-clause-answer : goal.returns-in-Second-clause-answer
returns-in-Second-clause-answer g c =
    let s = c.args.self.now in
    let v = sound (g.met.P.Part.lawful s.first.part) (g.met.Q.Part.lawful s.second.part) s.fit in
    peek_second v c.args.address c.peek_aim.result c.peek_aim.ensures c.in-Second.inner c.peek-in-Second.result c.placed.result (search rules) c.peek-in-Second.ensures.answer c.placed.ensures
