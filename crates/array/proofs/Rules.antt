-- What the checks of an array's calls need: equal blocks, which of them are marked, and what an erasure hides and bars.
use Rattle.std.proofs.lemmas.List.{length-replicate, get_or-replicate}
use Rattle.geometry.proofs.Equal.{start_equal, none_marked}
use Rattle.array.proofs.Facts.{inside, own_block, unmarked, standing_back, hidden, closed}

pub ruleset array_rules = (length-replicate, get_or-replicate, start_equal, none_marked, inside, own_block, unmarked, standing_back, hidden, closed)
