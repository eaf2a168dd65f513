use Rattle.std.proofs.Common.{◌-◌, ◌≤◌, ◌∙◌, arith}
use Rattle.part.proofs.Elapsing.{one_more}
use Rattle.part.proofs.neighbour.let_pass.Goals as goal

pub loop-rest-preserved : goal.loop-rest-preserved
loop-rest-preserved g c =
    let m = g.P.Part.means c.args.part.now in
    let k = g.P.Part.means c.loop-rest.part in
    let j = g.P.Part.means c.pass-in-loop-rest.new.self in
    let most : c.loop-rest.rest - c.min-some.result ≤ c.args.n = omega (arith, c.loop-rest.invariant.most) in
    let on = one_more m k j (c.args.n - c.loop-rest.rest) c.min-some.result (c.args.n - (c.loop-rest.rest - c.min-some.result)) c.loop-rest.found c.unwrap.result
    c.pass-in-loop-rest.result (omega (arith, c.min-some.ensures)) (omega (arith, c.min-some.ensures, c.loop-rest.invariant.most)) c.loop-rest.invariant.passed
    c.loop-rest.invariant.found c.pass-in-loop-rest.ensures.answer c.unwrap.ensures c.pass-in-loop-rest.ensures.passed in
    record { most = most; passed = on.meaning; found = c.then-found.ensures ∙ on.told }
