use Rattle.std.proofs.Common.{◌<◌, length, refl, arith}
use Rattle.rehearsal.proofs.Playing.{played_none, turn}
use Rattle.rehearsal.proofs.together.play.Goals as goal

pub loop-row-init : goal.loop-row-init
loop-row-init g c = record { played = played_none _ _ refl; calls = refl; beside = refl }

pub loop-row-preserved : goal.loop-row-preserved
loop-row-preserved g c =
    let i = c.loop-row.invariant in
    let here : c.loop-row.row-index < length c.loop-row.rows = omega (arith, c.loop-row.auto.rows, c.loop-row-test.true) in
    let t = turn c.args.side c.args.rows.now c.loop-row.rows c.loop-row.row-index _ c.play-line.result c.with.result
    c.play-opening.new.console c.loop-row.console c.play-line.new.console
    c.with.ensures here i.played i.calls i.beside c.play-line.ensures.plays in
    record { played = t.played; calls = t.calls; beside = t.beside }
