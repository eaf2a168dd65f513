use Rattle.std.proofs.Common.{◌≡◌, refl, rules}
use Rattle.part.specs.Calls.{burn_no, Burnt}
use Rattle.joined.specs.Pile.{placed}
use Rattle.joined.proofs.Whole.{sound}
use Rattle.joined.proofs.Aiming.{answered, burn_refused, burn_first, burn_second, burnt_neither, burnt_first, burnt_second}
use Rattle.joined.proofs.calls.JoinedPart.burn.Goals as goal

pub returns-in_err-burn_aim-clause-answer : goal.returns-in_err-burn_aim-clause-answer
returns-in_err-burn_aim-clause-answer g c =
    let s = c.args.self.now in
    let v = sound (g.met.P.Part.lawful s.first.part) (g.met.Q.Part.lawful s.second.part) s.fit in
    burn_refused v c.args.address c.args.byte c.burn_aim.result c.burn_aim.ensures c.in_err-burn_aim.field-0.0 c.from_residual.result (search rules) (search rules)

pub returns-in_err-burn_aim-clause-burnt : goal.returns-in_err-burn_aim-clause-burnt
returns-in_err-burn_aim-clause-burnt g c =
    let s = c.args.self.now in
    let v = sound (g.met.P.Part.lawful s.first.part) (g.met.Q.Part.lawful s.second.part) s.fit in
    (burnt_neither v c.args.address c.args.byte c.burn_aim.result c.burn_aim.ensures c.in_err-burn_aim.field-0.0 (search rules)).kept.whole

pub invariant_of-self : goal.invariant_of-self
invariant_of-self g c =
    let s = c.args.self.now in
    let m = g.P.Part.means s.first.part in
    let v = sound (g.met.P.Part.lawful s.first.part) (g.met.Q.Part.lawful s.second.part) s.fit in
    let m' = g.P.Part.means c.beside.new.busy.part in
    let n' = g.Q.Part.means c.beside.new.idle.part in
    let burnt : Burnt m c.args.address c.args.byte m' = search rules in
    record { fit = (burnt_first v c.args.address c.args.byte c.burn_aim.result c.burn_aim.ensures m' n' (search rules) burnt c.beside.ensures.waited).kept.fit }

pub invariant_of-self-in-Second : goal.invariant_of-self-in-Second
invariant_of-self-in-Second g c =
    let s = c.args.self.now in
    let n = g.Q.Part.means s.second.part in
    let v = sound (g.met.P.Part.lawful s.first.part) (g.met.Q.Part.lawful s.second.part) s.fit in
    let m' = g.P.Part.means c.beside-in-Second.new.idle.part in
    let n' = g.Q.Part.means c.beside-in-Second.new.busy.part in
    let burnt : Burnt n c.in-Second.inner c.args.byte n' = search rules in
    record { fit = (burnt_second v c.args.address c.args.byte c.burn_aim.result c.burn_aim.ensures c.in-Second.inner m' n' (search rules) burnt c.beside-in-Second.ensures.waited).kept.fit }

pub returns-in-First-clause-answer : goal.returns-in-First-clause-answer
returns-in-First-clause-answer g c =
    let s = c.args.self.now in
    let m = g.P.Part.means s.first.part in
    let v = sound (g.met.P.Part.lawful s.first.part) (g.met.Q.Part.lawful s.second.part) s.fit in
    let r : c.beside.result ≡ answered (burn_no m c.args.address c.args.byte) c.args.address = search rules in
    burn_first v c.args.address c.args.byte c.burn_aim.result c.burn_aim.ensures c.beside.result (search rules) r

pub returns-in-First-clause-burnt : goal.returns-in-First-clause-burnt
returns-in-First-clause-burnt g c =
    let s = c.args.self.now in
    let m = g.P.Part.means s.first.part in
    let v = sound (g.met.P.Part.lawful s.first.part) (g.met.Q.Part.lawful s.second.part) s.fit in
    let m' = g.P.Part.means c.beside.new.busy.part in
    let n' = g.Q.Part.means c.beside.new.idle.part in
    let burnt : Burnt m c.args.address c.args.byte m' = search rules in
    (burnt_first v c.args.address c.args.byte c.burn_aim.result c.burn_aim.ensures m' n' (search rules) burnt c.beside.ensures.waited).kept.whole

pub returns-in-First-clause-sides : goal.returns-in-First-clause-sides
returns-in-First-clause-sides g c =
    let s = c.args.self.now in
    let m = g.P.Part.means s.first.part in
    let v = sound (g.met.P.Part.lawful s.first.part) (g.met.Q.Part.lawful s.second.part) s.fit in
    let m' = g.P.Part.means c.beside.new.busy.part in
    let n' = g.Q.Part.means c.beside.new.idle.part in
    let burnt : Burnt m c.args.address c.args.byte m' = search rules in
    (burnt_first v c.args.address c.args.byte c.burn_aim.result c.burn_aim.ensures m' n' (search rules) burnt c.beside.ensures.waited).called

pub returns-in-Second-clause-answer : goal.returns-in-Second-clause-answer
returns-in-Second-clause-answer g c =
    let s = c.args.self.now in
    let n = g.Q.Part.means s.second.part in
    let v = sound (g.met.P.Part.lawful s.first.part) (g.met.Q.Part.lawful s.second.part) s.fit in
    let i = c.in-Second.inner in
    let r : c.beside-in-Second.result ≡ placed (answered (burn_no n i c.args.byte) i) c.args.address = search rules in
    burn_second v c.args.address c.args.byte c.burn_aim.result c.burn_aim.ensures i _ c.beside-in-Second.result (search rules) refl r

pub returns-in-Second-clause-burnt : goal.returns-in-Second-clause-burnt
returns-in-Second-clause-burnt g c =
    let s = c.args.self.now in
    let n = g.Q.Part.means s.second.part in
    let v = sound (g.met.P.Part.lawful s.first.part) (g.met.Q.Part.lawful s.second.part) s.fit in
    let m' = g.P.Part.means c.beside-in-Second.new.idle.part in
    let n' = g.Q.Part.means c.beside-in-Second.new.busy.part in
    let burnt : Burnt n c.in-Second.inner c.args.byte n' = search rules in
    (burnt_second v c.args.address c.args.byte c.burn_aim.result c.burn_aim.ensures c.in-Second.inner m' n' (search rules) burnt c.beside-in-Second.ensures.waited).kept.whole

pub returns-in-Second-clause-sides : goal.returns-in-Second-clause-sides
returns-in-Second-clause-sides g c =
    let s = c.args.self.now in
    let n = g.Q.Part.means s.second.part in
    let v = sound (g.met.P.Part.lawful s.first.part) (g.met.Q.Part.lawful s.second.part) s.fit in
    let m' = g.P.Part.means c.beside-in-Second.new.idle.part in
    let n' = g.Q.Part.means c.beside-in-Second.new.busy.part in
    let burnt : Burnt n c.in-Second.inner c.args.byte n' = search rules in
    (burnt_second v c.args.address c.args.byte c.burn_aim.result c.burn_aim.ensures c.in-Second.inner m' n' (search rules) burnt c.beside-in-Second.ensures.waited).called
