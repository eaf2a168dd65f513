use Rattle.std.proofs.Common.{arith}
use Rattle.book.proofs.spot.Spot.page.Goals as goal

pub page-requires : goal.page-requires
page-requires g = omega (arith, g.args.self.books.current_fits, g.args.self.within)
