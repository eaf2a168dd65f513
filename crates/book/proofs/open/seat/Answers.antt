use Rattle.std.proofs.Common.{◌≡◌, false, Some, sym, ap, ◌∙◌, arith}
use Rattle.part.specs.declared.answers.Shape.{Shape}
use Rattle.part.specs.Standings.{stood}
use Rattle.part.specs.Calls.{stands, block_at}
use Rattle.part.proofs.Standings.{stood_is}
use Rattle.book.proofs.Seating.{block_known, fits_as_books, blocks_clear, seats_taken, in_reach}
use Rattle.book.proofs.open.seat.Goals as goal

pub invariant_of-result : goal.invariant_of-result
invariant_of-result g c =
    let m = g.P.Part.means c.args.part.now in
    let l = g.met.P.Part.lawful c.args.part.now in
    let p = c.in_ok-first.first in
    let q = c.in_ok-second.second in
    let x : block_at m c.args.a ≡ Some p =
    ◌∙◌ {c = Some p} (sym c.block.ensures) c.in_ok-first.ensures.ok_part in
    let y : block_at m c.args.b ≡ Some q =
    ◌∙◌ {c = Some q} (sym c.block-2.ensures) c.in_ok-second.ensures.ok_part in
    let one = block_known m c.args.a p x in
    let two = block_known m c.args.b q y in
    let f = fits_as_books m c.args.a c.args.b p q c.is_fit_size.result x y c.is_fit_size.ensures
    c.if-a-b.false c.if-first-second.false c.if-not-is_fit_size.false in
    record {
      few = omega (arith, f.few, one.2);
      current_fits = omega (arith, in_reach m c.args.a _ l one.0 f.sized, one.1, one.2);
      spare_fits = omega (arith, in_reach m c.args.b _ l two.0 (sym f.equal ∙ f.sized), two.1, one.2);
      distinct = blocks_clear m c.args.a c.args.b p q c.is_fit_size.result x y c.is_fit_size.ensures
          c.if-a-b.false c.if-first-second.false c.if-not-is_fit_size.false;
    }

pub returns : goal.returns
returns g c =
    let m = g.P.Part.means c.args.part.now in
    let p = c.in_ok-first.first in
    let q = c.in_ok-second.second in
    let x : block_at m c.args.a ≡ Some p =
    ◌∙◌ {c = Some p} (sym c.block.ensures) c.in_ok-first.ensures.ok_part in
    let y : block_at m c.args.b ≡ Some q =
    ◌∙◌ {c = Some q} (sym c.block-2.ensures) c.in_ok-second.ensures.ok_part in
    let s : stands m ≡ false =
    sym (stood_is m) ∙ ap (λ (x : Shape). stood x.standing) (sym c.shape.ensures) ∙ sym c.stands.ensures ∙ c.if-stands.false in
    seats_taken m c.args.a c.args.b p q c.is_fit_size.result x y c.is_fit_size.ensures
    c.if-a-b.false c.if-first-second.false c.if-not-is_fit_size.false
    (sym c.guarded.ensures ∙ c.if-guarded.false) (sym c.guarded-2.ensures ∙ c.if-guarded-2.false) s
