use Rattle.std.proofs.Common.{rules}
use Rattle.joined.proofs.Whole.{sound}
use Rattle.joined.proofs.Aiming.{begin_refused, begin_first, begin_second, begun_neither, begun_first, begun_second}
use Rattle.joined.proofs.calls.JoinedPart.begin.Goals as goal

pub returns-in_err-begin_aim-clause-answer : goal.returns-in_err-begin_aim-clause-answer
returns-in_err-begin_aim-clause-answer g c =
    let s = c.args.self.now in
    let v = sound (g.met.P.Part.lawful s.first.part) (g.met.Q.Part.lawful s.second.part) s.fit in
    begin_refused v c.args.block c.begin_aim.result c.begin_aim.ensures c.in_err-begin_aim.field-0.0 c.from_residual.result (search rules) (search rules)

pub returns-in_err-begin_aim-clause-begun : goal.returns-in_err-begin_aim-clause-begun
returns-in_err-begin_aim-clause-begun g c =
    let s = c.args.self.now in
    let v = sound (g.met.P.Part.lawful s.first.part) (g.met.Q.Part.lawful s.second.part) s.fit in
    (begun_neither v c.args.block c.begin_aim.result c.begin_aim.ensures c.in_err-begin_aim.field-0.0 (search rules)).kept.whole

pub invariant_of-self : goal.invariant_of-self
invariant_of-self g c =
    let s = c.args.self.now in
    let v = sound (g.met.P.Part.lawful s.first.part) (g.met.Q.Part.lawful s.second.part) s.fit in
    let m' = g.P.Part.means c.begin.new.self.part in
    record { fit = (begun_first v c.args.block c.begin_aim.result c.begin_aim.ensures m' (search rules) c.begin.ensures.begun).kept.fit }

pub invariant_of-self-in-Second : goal.invariant_of-self-in-Second
invariant_of-self-in-Second g c =
    let s = c.args.self.now in
    let v = sound (g.met.P.Part.lawful s.first.part) (g.met.Q.Part.lawful s.second.part) s.fit in
    let n' = g.Q.Part.means c.begin-in-Second.new.self.part in
    record { fit = (begun_second v c.args.block c.begin_aim.result c.begin_aim.ensures c.in-Second.inner n' (search rules) c.begin-in-Second.ensures.begun).kept.fit }

pub returns-in-First-clause-answer : goal.returns-in-First-clause-answer
returns-in-First-clause-answer g c =
    let s = c.args.self.now in
    let v = sound (g.met.P.Part.lawful s.first.part) (g.met.Q.Part.lawful s.second.part) s.fit in
    begin_first v c.args.block c.begin_aim.result c.begin_aim.ensures c.begin.result (search rules) c.begin.ensures.answer

pub returns-in-First-clause-begun : goal.returns-in-First-clause-begun
returns-in-First-clause-begun g c =
    let s = c.args.self.now in
    let v = sound (g.met.P.Part.lawful s.first.part) (g.met.Q.Part.lawful s.second.part) s.fit in
    let m' = g.P.Part.means c.begin.new.self.part in
    (begun_first v c.args.block c.begin_aim.result c.begin_aim.ensures m' (search rules) c.begin.ensures.begun).kept.whole

pub returns-in-First-clause-sides : goal.returns-in-First-clause-sides
returns-in-First-clause-sides g c =
    let s = c.args.self.now in
    let v = sound (g.met.P.Part.lawful s.first.part) (g.met.Q.Part.lawful s.second.part) s.fit in
    let m' = g.P.Part.means c.begin.new.self.part in
    (begun_first v c.args.block c.begin_aim.result c.begin_aim.ensures m' (search rules) c.begin.ensures.begun).called

pub returns-in-Second-clause-answer : goal.returns-in-Second-clause-answer
returns-in-Second-clause-answer g c =
    let s = c.args.self.now in
    let v = sound (g.met.P.Part.lawful s.first.part) (g.met.Q.Part.lawful s.second.part) s.fit in
    begin_second v c.args.block c.begin_aim.result c.begin_aim.ensures c.in-Second.inner c.begin-in-Second.result c.placed.result (search rules) c.begin-in-Second.ensures.answer c.placed.ensures

pub returns-in-Second-clause-begun : goal.returns-in-Second-clause-begun
returns-in-Second-clause-begun g c =
    let s = c.args.self.now in
    let v = sound (g.met.P.Part.lawful s.first.part) (g.met.Q.Part.lawful s.second.part) s.fit in
    let n' = g.Q.Part.means c.begin-in-Second.new.self.part in
    (begun_second v c.args.block c.begin_aim.result c.begin_aim.ensures c.in-Second.inner n' (search rules) c.begin-in-Second.ensures.begun).kept.whole

pub returns-in-Second-clause-sides : goal.returns-in-Second-clause-sides
returns-in-Second-clause-sides g c =
    let s = c.args.self.now in
    let v = sound (g.met.P.Part.lawful s.first.part) (g.met.Q.Part.lawful s.second.part) s.fit in
    let n' = g.Q.Part.means c.begin-in-Second.new.self.part in
    (begun_second v c.args.block c.begin_aim.result c.begin_aim.ensures c.in-Second.inner n' (search rules) c.begin-in-Second.ensures.begun).called
