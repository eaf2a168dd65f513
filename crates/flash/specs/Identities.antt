-- Reads in ID mode: three address bits choose, which the data sheet names.
use Rattle.std.specs.Prelude.{ℕ, Bool, true, false, if◌then◌else◌}
use Rattle.geometry.specs.declared.datasheet.Choice.{Choice}
use Rattle.geometry.specs.declared.datasheet.Sheet.{Sheet}
use Rattle.geometry.specs.Sets.{bit}
use Rattle.flash.specs.declared.reads.Question.{Question}
use Rattle.flash.specs.declared.reads.Question.TheVariants.{Maker, Device, Protection, Nothing}
use Rattle.flash.specs.BlockMaps.{BlockMap, is_protected}

-- what is asked, by the bits that choose: the high one, the middle one and the low one
abbrev pub question : Bool → Bool → Bool → Question
question false false false = Maker
question false false true = Device
question false true false = Protection
question false true true = Nothing
question true middle low = Nothing

abbrev pub asked : Choice → ℕ → Question
asked c a = question (bit a c.high) (bit a c.middle) (bit a c.low)

abbrev pub answer : Sheet → BlockMap → ℕ → Question → ℕ
answer sheet g a Maker = sheet.maker
answer sheet g a Device = sheet.code
answer sheet g a Protection = if is_protected g a then 1 else 0
answer sheet g a Nothing = 0

-- what a read in ID mode answers
abbrev pub identity : Sheet → BlockMap → ℕ → ℕ
identity sheet g a = answer sheet g a (asked sheet.choice a)
