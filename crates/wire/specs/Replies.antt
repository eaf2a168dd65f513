-- What the chip on the wire answers, and the text of it.
use Rattle.std.specs.Prelude.{◌≡◌, ℕ, ◌/◌, ◌%◌, List, [], ◌∷◌, ◌++◌, Result, Ok, Err, true, codes}
use Rattle.std.specs.Fmt.{decimal, digit_glyph}
use Rattle.fault.specs.Causes.{number_of}
use Rattle.fault.specs.declared.faults.ChipFault.{ChipFault}
use Rattle.chip.specs.Flash.{Flash}
use Rattle.chip.specs.Writes.{heard, written}
use Rattle.chip.specs.Reads.{answered, seen}
use Rattle.chip.specs.Times.{waited, after}
use Rattle.chip.specs.Resets.{after_reset}
use Rattle.naming.specs.declared.wrong.Wrong.{Wrong}
use Rattle.naming.specs.Complaints.{wrong_text}
use Rattle.wire.specs.declared.request.Request.{Request}
use Rattle.wire.specs.declared.request.Request.TheVariants as asks
use Rattle.wire.specs.declared.reply.Reply.{Reply}
use Rattle.wire.specs.declared.reply.Reply.TheVariants.{Done, Byte, Count, Refused, Bad}

-- ok, or the refusal
abbrev pub done : Result (Unit {0}) ChipFault → Reply
done (Ok u) = Done
done (Err fault) = Refused fault

-- the byte, or the refusal
abbrev pub told : Result ℕ ChipFault → Reply
told (Ok byte) = Byte byte
told (Err fault) = Refused fault

-- What is answered to a request, and the chip afterwards.
abbrev pub Answers : Request → Flash → Reply → Flash → Type 0
Answers (asks.Write a byte) f r g = (r ≡ done (heard f a)) × (g ≡ written f a byte)
Answers (asks.Read a) f r g = (r ≡ told (answered f a)) × (g ≡ seen f a)
Answers (asks.Pass us) f r g = (r ≡ done (waited us)) × (g ≡ after us f)
Answers asks.Reset f r g = (r ≡ Done) × (g ≡ after_reset f)
Answers asks.Count f r g = (r ≡ Count f.clock) × (g ≡ f)

-- A line that cannot be read does nothing.
abbrev pub Serves : Result Request Wrong → Flash → Reply → Flash → Type 0
Serves (Ok request) f r g = Answers request f r g
Serves (Err wrong) f r g = (r ≡ Bad wrong) × (g ≡ f)

-- two hexadecimal capitals
abbrev pub byte_text : ℕ → List ℕ
byte_text byte = digit_glyph true (byte / 16) ∷ digit_glyph true (byte % 16) ∷ []

abbrev pub reply_text : Reply → List ℕ
reply_text Done = codes "ok"
reply_text (Byte byte) = byte_text byte
reply_text (Count us) = decimal us
reply_text (Refused fault) = codes "refused " ++ decimal (number_of fault.cause) ++ codes " place " ++ decimal fault.place
reply_text (Bad wrong) = codes "bad request: " ++ wrong_text wrong
