-- The words in which is told what is wrong with a line.
use Rattle.std.specs.Prelude.{ℕ, List, codes}
use Rattle.naming.specs.declared.wrong.Wrong.{Wrong}
use Rattle.naming.specs.declared.wrong.Wrong.TheVariants.{NotPrintable, NoWord, UnknownWord, NoPiece, UnknownPiece, NoGeometry, UnknownGeometry, NoNumber, BadNumber, TooManyWords, TooManyPieces, QuickTwice, SlowTwice, TooEarly, NoQuick, NoSlow, NoConsole, UnknownConsole, CellsOutOfPlace, OutsidePart}

abbrev pub wrong_text : Wrong → List ℕ
wrong_text NotPrintable = codes "not printable ASCII"
wrong_text NoWord = codes "nothing is asked"
wrong_text UnknownWord = codes "unknown word"
wrong_text NoPiece = codes "a part is missing"
wrong_text UnknownPiece = codes "a part is a chip or an array"
wrong_text NoGeometry = codes "a geometry is missing"
wrong_text UnknownGeometry = codes "unknown geometry"
wrong_text NoNumber = codes "a number is missing"
wrong_text BadNumber = codes "a number is too large or no number"
wrong_text TooManyWords = codes "too many words"
wrong_text TooManyPieces = codes "at most four parts"
wrong_text QuickTwice = codes "quick is named twice"
wrong_text SlowTwice = codes "slow is named twice"
wrong_text TooEarly = codes "a call before quick and slow"
wrong_text NoQuick = codes "quick is missing"
wrong_text NoSlow = codes "slow is missing"
wrong_text NoConsole = codes "quick or slow is missing"
wrong_text UnknownConsole = codes "a console is quick or slow"
wrong_text CellsOutOfPlace = codes "cells out of place"
wrong_text OutsidePart = codes "an address outside the part"
