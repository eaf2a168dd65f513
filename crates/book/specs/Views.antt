-- The pair of books that a program holds, as the definitions see it.
use Rattle.std.specs.Prelude.{Ok, Err, Result}
use Rattle.fault.specs.declared.faults.PartFault.{PartFault}
use Rattle.book.specs.declared.books.Books.{Books}
use Rattle.book.specs.Pairs.{Pair}

abbrev pub pair_of : Books → Pair
pair_of b = record { current = b.current; spare = b.spare; positions = b.positions; spoilt = b.spoilt }

abbrev pub pair_in : Result Books PartFault → Result Pair PartFault
pair_in (Ok b) = Ok (pair_of b)
pair_in (Err f) = Err f
