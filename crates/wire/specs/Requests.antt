-- What a line asks of the chip on the wire.
use Rattle.std.specs.Prelude.{ℕ, List, [], ◌∷◌, Result, Err, if◌then◌else◌, codes}
use Rattle.std.specs.Str.{bytes_eq}
use Rattle.words.specs.Lines.{is_printable, words_of}
use Rattle.chip.specs.declared.setup.Setup.{Setup}
use Rattle.naming.specs.declared.wrong.Wrong.{Wrong}
use Rattle.naming.specs.declared.wrong.Wrong.TheVariants.{NotPrintable, NoWord, UnknownWord, NoPiece}
use Rattle.naming.specs.Taking.{Words, ◌>>=◌, byte_at, small_at, ended}
use Rattle.naming.specs.Setups.{setup_at}
use Rattle.wire.specs.declared.request.Request.{Request}
use Rattle.wire.specs.declared.request.Request.TheVariants.{Write, Read, Pass, Reset, Count}

-- w ADDRESS BYTE, r ADDRESS, t MICROSECONDS, x, c
unfoldable pub rest_asks : List ℕ → Words → Result Request Wrong
rest_asks w ws =
    if bytes_eq w (codes "w") then (small_at ws >>= λ a. byte_at a.1 >>= λ b. ended (Write a.0 b.0) b.1) else
    (if bytes_eq w (codes "r") then (small_at ws >>= λ a. ended (Read a.0) a.1) else
    (if bytes_eq w (codes "t") then (small_at ws >>= λ n. ended (Pass n.0) n.1) else
    (if bytes_eq w (codes "x") then ended Reset ws else
    (if bytes_eq w (codes "c") then ended Count ws else Err UnknownWord))))

unfoldable pub words_ask : Words → Result Request Wrong
words_ask [] = Err NoWord
words_ask (w ∷ ws) = rest_asks w ws

unfoldable pub line_asks : List ℕ → Result Request Wrong
line_asks line = if is_printable line then words_ask (words_of line) else Err NotPrintable

-- The chip that the first line names.
unfoldable pub words_name : Words → Result Setup Wrong
words_name [] = Err NoPiece
words_name (w ∷ ws) = if bytes_eq w (codes "chip") then (setup_at ws >>= λ s. ended s.0 s.1) else Err UnknownWord

unfoldable pub line_names : List ℕ → Result Setup Wrong
line_names line = if is_printable line then words_name (words_of line) else Err NotPrintable
