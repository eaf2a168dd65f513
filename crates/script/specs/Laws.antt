-- What is written is read again.
use Rattle.std.specs.Prelude.{◌≡◌, ℕ, ◌^◌, ◌<◌, List, [], ◌∷◌, ◌++◌, length, map, Some, Ok, codes, if◌then◌else◌, ◌==◌}
use Rattle.std.specs.List.{flat_map, AllByRecursion}
use Rattle.std.specs.Fmt.{decimal}
use Rattle.geometry.specs.declared.kinds.TheConstants.{TOP, BOTTOM}
use Rattle.chip.specs.declared.setup.Setup.{Setup}
use Rattle.rehearsal.specs.declared.account.Seats.{Seats}
use Rattle.console.specs.declared.call.Call.{Call}
use Rattle.console.specs.declared.call.Call.TheVariants.{Set, Clear, Recall, Next, Wait}
use Rattle.words.specs.Lines.{spaced}
use Rattle.pile.specs.declared.kind.Kind.{Kind}
use Rattle.pile.specs.declared.kind.Kind.TheVariants.{Chip, Array}
use Rattle.script.specs.declared.entry.Pieces.{Pieces}
use Rattle.script.specs.declared.entry.Pieces.TheVariants.{One, Two, Three, Four}
use Rattle.script.specs.declared.entry.Request.{Request}
use Rattle.script.specs.declared.entry.Request.TheVariants as requests
use Rattle.script.specs.declared.entry.Who.{Who}
use Rattle.script.specs.declared.entry.Who.TheVariants as consoles
use Rattle.script.specs.Sayings.{Fill, Saying}
use Rattle.script.specs.Sayings as says
use Rattle.script.specs.declared.script.Step.{Step}
use Rattle.script.specs.Answers.{sixteen}
use Rattle.naming.specs.Taking.{Words}
use Rattle.script.specs.Grammar.{asked, line_read}
use Rattle.script.specs.Scripts.{Patch, Plan, script_of}

-- The words of each entry, with all its numbers in decimal and both sets of blocks, each as its mask.

abbrev pub geometry_word : ℕ → List ℕ
geometry_word kind = if kind == TOP then codes "t004" else (if kind == BOTTOM then codes "b004" else codes "bench")

abbrev pub setup_words : Setup → Words
setup_words s =
    codes "chip" ∷ geometry_word s.kind ∷ decimal s.program ∷ decimal s.erase ∷ decimal s.suspend
    ∷ codes "protect" ∷ decimal s.protected.mask ∷ codes "worn" ∷ decimal s.worn.mask ∷ []

abbrev pub kind_words : Kind → Words
kind_words (Chip s) = setup_words s
kind_words (Array l) = codes "array" ∷ decimal l.count ∷ decimal l.width ∷ []

abbrev pub pieces_words : Pieces → Words
pieces_words (One a) = kind_words a
pieces_words (Two a b) = kind_words a ++ (codes "+" ∷ kind_words b)
pieces_words (Three a b c) = kind_words a ++ (codes "+" ∷ (kind_words b ++ (codes "+" ∷ kind_words c)))
pieces_words (Four a b c d) = kind_words a ++ (codes "+" ∷ (kind_words b ++ (codes "+" ∷ (kind_words c ++ (codes "+" ∷ kind_words d)))))

abbrev pub call_words : Call → Words
call_words (Set p stops) = codes "set" ∷ decimal p ∷ decimal stops ∷ []
call_words (Clear p) = codes "clear" ∷ decimal p ∷ []
call_words (Recall p) = codes "recall" ∷ decimal p ∷ []
call_words (Next p) = codes "next" ∷ decimal p ∷ []
call_words (Wait n) = codes "wait" ∷ decimal n ∷ []

abbrev pub request_words : Request → Words
request_words (requests.Open a b) = codes "open" ∷ decimal a.first ∷ decimal a.second ∷ decimal b.first ∷ decimal b.second ∷ []
request_words (requests.Call c) = call_words c
request_words requests.Quiet = codes "quiet" ∷ []
request_words requests.Anew = codes "anew" ∷ []

abbrev pub who_word : Who → List ℕ
who_word consoles.Quick = codes "quick"
who_word consoles.Slow = codes "slow"

abbrev pub fill_words : Fill → Words
fill_words f = codes "cells" ∷ who_word f.who ∷ decimal f.address ∷ map decimal f.bytes

abbrev pub written : Saying → Words
written (says.Quick p) = codes "quick" ∷ pieces_words p
written (says.Slow p) = codes "slow" ∷ pieces_words p
written (says.Cells f) = fill_words f
written (says.Request r) = request_words r

-- The numbers fit their types, and a chip has one of the three geometries.

pub record ProperSetup (s : Setup) : Type 0 where
  pub kind : s.kind < 3
  pub program : s.program < 2 ^ 32
  pub erase : s.erase < 2 ^ 32
  pub suspend : s.suspend < 2 ^ 32
  pub protected : s.protected.mask < 2 ^ 32
  pub worn : s.worn.mask < 2 ^ 32

abbrev pub ProperKind : Kind → Type 0
ProperKind (Chip s) = ProperSetup s
ProperKind (Array l) = (l.count < 2 ^ 32) × (l.width < 2 ^ 32)

abbrev pub ProperPieces : Pieces → Type 0
ProperPieces (One a) = ProperKind a
ProperPieces (Two a b) = ProperKind a × ProperKind b
ProperPieces (Three a b c) = ProperKind a × ProperKind b × ProperKind c
ProperPieces (Four a b c d) = ProperKind a × ProperKind b × ProperKind c × ProperKind d

abbrev pub ProperSeats : Seats → Type 0
ProperSeats on = (on.first < 2 ^ 32) × (on.second < 2 ^ 32)

abbrev pub ProperCall : Call → Type 0
ProperCall (Set p stops) = (p < 2 ^ 32) × (stops < 2 ^ 64)
ProperCall (Clear p) = p < 2 ^ 32
ProperCall (Recall p) = p < 2 ^ 32
ProperCall (Next p) = p < 2 ^ 32
ProperCall (Wait n) = n < 2 ^ 32

abbrev pub ProperRequest : Request → Type 0
ProperRequest (requests.Open a b) = ProperSeats a × ProperSeats b
ProperRequest (requests.Call c) = ProperCall c
ProperRequest requests.Quiet = Unit {0}
ProperRequest requests.Anew = Unit {0}

-- one byte or more
pub record ProperFill (f : Fill) : Type 0 where
  pub address : f.address < 2 ^ 32
  pub some : 0 < length f.bytes
  pub bytes : AllByRecursion (λ b. b < 2 ^ 8) f.bytes

abbrev pub Proper : Saying → Type 0
Proper (says.Quick p) = ProperPieces p
Proper (says.Slow p) = ProperPieces p
Proper (says.Cells f) = ProperFill f
Proper (says.Request r) = ProperRequest r

-- Each entry that is written in its words is read as that entry.
abbrev pub EntriesAgain : Type 0
EntriesAgain = (e : Saying) → Proper e → line_read (spaced (written e)) ≡ Ok (Some e)

-- The stops that a recall shows, put behind 0x, set the same stops again.
abbrev pub StopsAgain : Type 0
StopsAgain = (p stops : ℕ) → p < 2 ^ 32 → stops < 2 ^ 64
    → (length (sixteen stops) ≡ 16) × (line_read (spaced (codes "set" ∷ decimal p ∷ (codes "0x" ++ sixteen stops) ∷ [])) ≡ Ok (Some (asked (Set p stops))))

-- The lines of a script that names both parts, says what is in their memory, and then makes requests.
abbrev pub script_entries : Pieces → Pieces → List Fill → List Request → List Saying
script_entries quick slow fills requests = says.Quick quick ∷ says.Slow slow ∷ (map (λ f. says.Cells f) fills ++ map (λ r. says.Request r) requests)

-- entries, each on a line of its own
abbrev pub script_text : List Saying → List ℕ
script_text es = flat_map (λ e. spaced (written e) ++ 10 ∷ []) es

-- the parts, what is in their memory, and the requests of a script
pub record IsScript (quick slow : Pieces) (fills : List Fill) (requests : List Request) (p : Plan) : Type 0 where
  pub quick_is : p.quick ≡ quick
  pub slow_is : p.slow ≡ slow
  pub fills_are : map (λ (x : Patch). x.fill) p.patches ≡ fills
  pub requests_are : map (λ (x : Step). x.request) p.steps ≡ requests

-- A script that is written line by line is read as that script.
abbrev pub ScriptsAgain : Type 0
ScriptsAgain = (quick slow : Pieces) (fills : List Fill) (requests : List Request) → AllByRecursion Proper (script_entries quick slow fills requests)
    → (p : Plan) × (script_of (script_text (script_entries quick slow fills requests)) ≡ Ok p) × IsScript quick slow fills requests p
