use Rattle.std.proofs.Common.{ℕ, List, take, drop, ap, ◌∙◌}
use Rattle.part.specs.declared.answers.Shape.{Shape}
use Rattle.joined.specs.Pile.{made}
use Rattle.pile.specs.Pieces.{piece_of}
use Rattle.pile.proofs.Sharing.{back_fits, begun}
use Rattle.pile.proofs.making.three.Goals as goal

pub put-requires-clause-few : goal.put-requires-clause-few
put-requires-clause-few c = rw (c.shares.ensures.second, c.shape_of_two.ensures) (back_fits (made (piece_of c.args.a.now) (piece_of c.args.b.now)) (piece_of c.args.c.now) c.args.cells.now c.requires.few)

pub returns : goal.returns
returns c =
    let cells : List ℕ = c.args.cells.now in
    begun _ c.put.result (made (piece_of c.args.a.now) (piece_of c.args.b.now)) (piece_of c.args.c.now) cells c.shares.result.0.now c.shares.result.1.now
    (c.shares.ensures.first ∙ ap (λ (s : Shape). take s.size cells) c.shape_of_two.ensures)
    (c.shares.ensures.second ∙ ap (λ (s : Shape). drop s.size cells) c.shape_of_two.ensures)
    c.requires.few c.in_ok-two.ensures c.put.ensures
