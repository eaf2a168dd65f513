-- The command sequences: what a write means at each place, by the low bits of its address and its byte.
use Rattle.std.specs.Prelude.{ℕ, ◌&&◌, ◌==◌, if◌then◌else◌}
use Rattle.geometry.specs.declared.datasheet.Commands.{Commands}
use Rattle.flash.specs.declared.sequence.Mode.TheVariants.{Read, Id}
use Rattle.flash.specs.declared.sequence.Place.{Place}
use Rattle.flash.specs.declared.sequence.Place.TheVariants.{Start, Second, Command, Data, EraseStart, EraseSecond, EraseBlock}
use Rattle.flash.specs.declared.sequence.Decision.{Decision}
use Rattle.flash.specs.declared.sequence.Decision.TheVariants.{Next, Enter, Program, Erase, GiveUp}

-- the byte b at the command address c, then; F0h gives read mode; any other write gives the sequence up
abbrev pub expect : ℕ → ℕ → Decision → ℕ → ℕ → Decision
expect c b then_do low byte =
    if byte == 0xF0 then Enter Read else (if low == c && byte == b then then_do else GiveUp)

abbrev pub decided : Commands → Place → ℕ → ℕ → Decision
decided c Start low byte = expect c.first 0xAA (Next Second) low byte
decided c Second low byte = expect c.second 0x55 (Next Command) low byte
decided c Command low byte =
    if byte == 0xF0 then Enter Read
    else (if low == c.first && byte == 0x90 then Enter Id
    else (if low == c.first && byte == 0xA0 then Next Data
    else (if low == c.first && byte == 0x80 then Next EraseStart else GiveUp)))
decided c Data low byte = Program
decided c EraseStart low byte = expect c.first 0xAA (Next EraseSecond) low byte
decided c EraseSecond low byte = expect c.second 0x55 (Next EraseBlock) low byte
decided c EraseBlock low byte = if byte == 0xF0 then Enter Read else (if byte == 0x30 then Erase else GiveUp)
