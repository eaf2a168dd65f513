-- Two books in blocks of a part, and what is meant by a change of some cells, for the proofs.
pub use Rattle.book.specs.Seats.{Seated, SameOutside, SameInside, Rewritten, StopsFit}
