-- What is written is read again.
use Rattle.std.proofs.Common.{◌≡◌, ℕ, zero, suc, ◌+◌, ◌-◌, ◌*◌, ◌/◌, ◌%◌, eqb, length, ◌<◌, ◌≤◌, ◌^◌, true, List, [], ◌∷◌, ◌++◌, Some, None, Ok, refl, sym, ap, ◌∙◌, arith}
use Rattle.std.proofs.Math.Nat.{pow-suc}
use Rattle.std.specs.Prelude.{codes, replicate, map}
use Rattle.std.specs.List.{list_all, AllByRecursion}
use Rattle.std.specs.Str.Parse.{AllDigits, digits_value}
use Rattle.std.specs.Fmt.{decimal, digits, digits_onto, digit_glyph}
use Rattle.std.proofs.lemmas.Fmt.{digits_is_IsNumeral}
use Rattle.std.proofs.lemmas.Bool.{and_from, cond_both, eqb-false}
use Rattle.std.proofs.lemmas.List.{append-nil, length-append, length-replicate}
use Rattle.rehearsal.specs.declared.account.Seats.{Seats}
use Rattle.console.specs.declared.call.Call.{Call}
use Rattle.console.specs.declared.call.Call.TheVariants.{Set, Clear, Recall, Next, Wait}
use Rattle.words.proofs.Digits.{decimal_again, hexadecimal_read}
use Rattle.pile.specs.declared.kind.Kind.{Kind}
use Rattle.pile.specs.declared.kind.Kind.TheVariants.{Chip, Array}
use Rattle.script.specs.declared.entry.Pieces.{Pieces}
use Rattle.script.specs.declared.entry.Pieces.TheVariants.{One, Two, Three, Four}
use Rattle.script.specs.declared.entry.Request.{Request}
use Rattle.script.specs.declared.entry.Request.TheVariants as requests
use Rattle.script.specs.declared.entry.Who.{Who}
use Rattle.script.specs.declared.entry.Who.TheVariants as consoles
use Rattle.script.specs.Sayings.{Fill, Saying, all_bytes, bytes_at}
use Rattle.script.specs.Sayings as says
use Rattle.script.specs.Answers.{sixteen}
use Rattle.naming.specs.Taking.{Words, numbered, number_at, byte_at, small_at, large_at}
use Rattle.naming.specs.Setups.{geometry_at, set_at, setup_at}
use Rattle.script.specs.Grammar.{layout_at, piece_at, joined_at, pieces_of, seats_at, position_of, rest_of, asked, words_read, chip_at, who_at, fill_at}
use Rattle.script.specs.Laws.{geometry_word, kind_words, pieces_words, call_words, request_words, who_word, written, ProperKind, ProperPieces, ProperSeats, ProperCall, ProperRequest, ProperFill, Proper, EntriesAgain, StopsAgain}
use Rattle.script.proofs.Plain.{is_plain, all_append, digits_plain, line_of_words, number_plain}

-- numbers

small_again : (n : ℕ) (ws : Words) → n < 2 ^ 32 → small_at (decimal n ∷ ws) ≡ Ok (n, ws)
unfolding number_at
small_again n ws small = ap (numbered ws) (decimal_again 0xFFFF_FFFF n (omega arith) (omega arith))

large_again : (n : ℕ) (ws : Words) → n < 2 ^ 64 → large_at (decimal n ∷ ws) ≡ Ok (n, ws)
unfolding number_at
large_again n ws small = ap (numbered ws) (decimal_again 0xFFFF_FFFF_FFFF_FFFF n (omega arith) small)

-- parts

geometry_again : (kind : ℕ) (ws : Words) → kind < 3 → geometry_at (geometry_word kind ∷ ws) ≡ Ok (kind, ws)
unfolding geometry_at
geometry_again zero ws h = refl
geometry_again (suc zero) ws h = refl
geometry_again (suc (suc zero)) ws h = refl
geometry_again (suc (suc (suc k))) ws h = absurd (omega arith)

protect_again : (n : ℕ) (ws : Words) → n < 2 ^ 32 → set_at (codes "protect") (codes "protect" ∷ decimal n ∷ ws) ≡ Ok (record { mask = n }, ws)
unfolding set_at
protect_again n ws small = rw (small_again n ws small) refl

worn_again : (n : ℕ) (ws : Words) → n < 2 ^ 32 → set_at (codes "worn") (codes "worn" ∷ decimal n ∷ ws) ≡ Ok (record { mask = n }, ws)
unfolding set_at
worn_again n ws small = rw (small_again n ws small) refl

kind_again : (k : Kind) (ws : Words) → ProperKind k → piece_at (kind_words k ++ ws) ≡ Ok (k, ws)
unfolding piece_at setup_at layout_at chip_at
kind_again (Chip s) ws h =
    rw (
      geometry_again s.kind (decimal s.program ∷ decimal s.erase ∷ decimal s.suspend ∷ codes "protect" ∷ decimal s.protected.mask ∷ codes "worn" ∷ decimal s.worn.mask ∷ ws) h.kind,
      small_again s.program (decimal s.erase ∷ decimal s.suspend ∷ codes "protect" ∷ decimal s.protected.mask ∷ codes "worn" ∷ decimal s.worn.mask ∷ ws) h.program,
      small_again s.erase (decimal s.suspend ∷ codes "protect" ∷ decimal s.protected.mask ∷ codes "worn" ∷ decimal s.worn.mask ∷ ws) h.erase,
      small_again s.suspend (codes "protect" ∷ decimal s.protected.mask ∷ codes "worn" ∷ decimal s.worn.mask ∷ ws) h.suspend,
      protect_again s.protected.mask (codes "worn" ∷ decimal s.worn.mask ∷ ws) h.protected,
      worn_again s.worn.mask ws h.worn,
    ) refl
kind_again (Array l) ws h = rw (small_again l.count (decimal l.width ∷ ws) h.0, small_again l.width ws h.1) refl

last_again : (k : Kind) → ProperKind k → piece_at (kind_words k) ≡ Ok (k, [])
last_again k h = ap piece_at (sym (append-nil (kind_words k))) ∙ kind_again k [] h

join_again : (k : Kind) (ws : Words) → ProperKind k → joined_at (codes "+" ∷ (kind_words k ++ ws)) ≡ Ok (Some (k, ws))
unfolding joined_at
join_again k ws h = rw (kind_again k ws h) refl

join_last : (k : Kind) → ProperKind k → joined_at (codes "+" ∷ kind_words k) ≡ Ok (Some (k, []))
unfolding joined_at
join_last k h = rw (last_again k h) refl

none_joined : joined_at [] ≡ Ok None
unfolding joined_at
none_joined = refl

pieces_again : (p : Pieces) → ProperPieces p → pieces_of (pieces_words p) ≡ Ok p
unfolding pieces_of
pieces_again (One a) h = rw (last_again a h, none_joined) refl
pieces_again (Two a b) h = rw (kind_again a (codes "+" ∷ kind_words b) h.0, join_last b h.1, none_joined) refl
pieces_again (Three a b c) h =
    rw (kind_again a (codes "+" ∷ (kind_words b ++ (codes "+" ∷ kind_words c))) h.0, join_again b (codes "+" ∷ kind_words c) h.1, join_last c h.2, none_joined) refl
pieces_again (Four a b c d) h =
    rw (kind_again a (codes "+" ∷ (kind_words b ++ (codes "+" ∷ (kind_words c ++ (codes "+" ∷ kind_words d))))) h.0, join_again b (codes "+" ∷ (kind_words c ++ (codes "+" ∷ kind_words d))) h.1, join_again c (codes "+" ∷ kind_words d) h.2, join_last d h.3) refl

-- requests

seats_again : (on : Seats) (ws : Words) → ProperSeats on → seats_at (decimal on.first ∷ decimal on.second ∷ ws) ≡ Ok (on, ws)
unfolding seats_at
seats_again on ws h = rw (small_again on.first (decimal on.second ∷ ws) h.0, small_again on.second ws h.1) refl

call_again : (c : Call) → ProperCall c → words_read (call_words c) ≡ Ok (Some (asked c))
unfolding words_read rest_of position_of
call_again (Set p stops) h = rw (small_again p (decimal stops ∷ []) h.0, large_again stops [] h.1) refl
call_again (Clear p) h = rw (small_again p [] h) refl
call_again (Recall p) h = rw (small_again p [] h) refl
call_again (Next p) h = rw (small_again p [] h) refl
call_again (Wait n) h = rw (small_again n [] h) refl

request_again : (r : Request) → ProperRequest r → words_read (request_words r) ≡ Ok (Some (says.Request r))
unfolding words_read rest_of
request_again (requests.Open a b) h = rw (seats_again a (decimal b.first ∷ decimal b.second ∷ []) h.0, seats_again b [] h.1) refl
request_again (requests.Call c) h = call_again c h
request_again requests.Quiet h = refl
request_again requests.Anew h = refl

-- what is in the memory of a part

who_again : (who : Who) (ws : Words) → who_at (who_word who ∷ ws) ≡ Ok (who, ws)
unfolding who_at
who_again consoles.Quick ws = refl
who_again consoles.Slow ws = refl

byte_again : (n : ℕ) (ws : Words) → n < 2 ^ 8 → byte_at (decimal n ∷ ws) ≡ Ok (n, ws)
unfolding number_at
byte_again n ws small = ap (numbered ws) (decimal_again 0xFF n (omega arith) (omega arith))

all_again : (bytes : List ℕ) → AllByRecursion (λ b. b < 2 ^ 8) bytes → all_bytes (map decimal bytes) ≡ Ok bytes
unfolding all_bytes
all_again [] h = refl
all_again (b ∷ bs) h = rw (byte_again b [] h.0, all_again bs h.1) refl

bytes_again : (bytes : List ℕ) → 0 < length bytes → AllByRecursion (λ b. b < 2 ^ 8) bytes → bytes_at (map decimal bytes) ≡ Ok bytes
bytes_again [] some h = absurd (omega arith)
bytes_again (b ∷ bs) some h = all_again (b ∷ bs) h

fill_again : (f : Fill) → ProperFill f → fill_at (who_word f.who ∷ decimal f.address ∷ map decimal f.bytes) ≡ Ok f
unfolding fill_at
fill_again f h = rw (who_again f.who (decimal f.address ∷ map decimal f.bytes), small_again f.address (map decimal f.bytes) h.address, bytes_again f.bytes h.some h.bytes) refl

words_again : (e : Saying) → Proper e → words_read (written e) ≡ Ok (Some e)
unfolding words_read rest_of
words_again (says.Quick p) h = rw (pieces_again p h) refl
words_again (says.Slow p) h = rw (pieces_again p h) refl
words_again (says.Cells f) h = rw (fill_again f h) refl
words_again (says.Request r) h = request_again r h

-- the words are plain

geometry_plain : (kind : ℕ) → kind < 3 → is_plain (geometry_word kind) ≡ true
geometry_plain zero h = refl
geometry_plain (suc zero) h = refl
geometry_plain (suc (suc zero)) h = refl
geometry_plain (suc (suc (suc k))) h = absurd (omega arith)

kind_plain : (k : Kind) → ProperKind k → list_all is_plain (kind_words k) ≡ true
kind_plain (Chip s) h =
    let worn = number_plain s.worn.mask [] (omega (arith, h.worn)) refl in
    let protected = number_plain s.protected.mask (codes "worn" ∷ decimal s.worn.mask ∷ []) (omega (arith, h.protected)) worn in
    let suspend = number_plain s.suspend (codes "protect" ∷ decimal s.protected.mask ∷ codes "worn" ∷ decimal s.worn.mask ∷ []) (omega (arith, h.suspend)) protected in
    let erase = number_plain s.erase (decimal s.suspend ∷ codes "protect" ∷ decimal s.protected.mask ∷ codes "worn" ∷ decimal s.worn.mask ∷ []) (omega (arith, h.erase)) suspend in
    let program = number_plain s.program (decimal s.erase ∷ decimal s.suspend ∷ codes "protect" ∷ decimal s.protected.mask ∷ codes "worn" ∷ decimal s.worn.mask ∷ []) (omega (arith, h.program)) erase in
    and_from (is_plain (geometry_word s.kind)) (list_all is_plain (decimal s.program ∷ decimal s.erase ∷ decimal s.suspend ∷ codes "protect" ∷ decimal s.protected.mask ∷ codes "worn" ∷ decimal s.worn.mask ∷ [])) (geometry_plain s.kind h.kind) program
kind_plain (Array l) h = number_plain l.count (decimal l.width ∷ []) (omega (arith, h.0)) (number_plain l.width [] (omega (arith, h.1)) refl)

pieces_plain : (p : Pieces) → ProperPieces p → list_all is_plain (pieces_words p) ≡ true
pieces_plain (One a) h = kind_plain a h
pieces_plain (Two a b) h = all_append is_plain (kind_words a) (codes "+" ∷ kind_words b) (kind_plain a h.0) (kind_plain b h.1)
pieces_plain (Three a b c) h =
    all_append is_plain (kind_words a) (codes "+" ∷ (kind_words b ++ (codes "+" ∷ kind_words c))) (kind_plain a h.0)
    (all_append is_plain (kind_words b) (codes "+" ∷ kind_words c) (kind_plain b h.1) (kind_plain c h.2))
pieces_plain (Four a b c d) h =
    all_append is_plain (kind_words a) (codes "+" ∷ (kind_words b ++ (codes "+" ∷ (kind_words c ++ (codes "+" ∷ kind_words d))))) (kind_plain a h.0)
    (all_append is_plain (kind_words b) (codes "+" ∷ (kind_words c ++ (codes "+" ∷ kind_words d))) (kind_plain b h.1)
    (all_append is_plain (kind_words c) (codes "+" ∷ kind_words d) (kind_plain c h.2) (kind_plain d h.3)))

call_plain : (c : Call) → ProperCall c → list_all is_plain (call_words c) ≡ true
call_plain (Set p stops) h = number_plain p (decimal stops ∷ []) (omega (arith, h.0)) (number_plain stops [] h.1 refl)
call_plain (Clear p) h = number_plain p [] (omega arith) refl
call_plain (Recall p) h = number_plain p [] (omega arith) refl
call_plain (Next p) h = number_plain p [] (omega arith) refl
call_plain (Wait n) h = number_plain n [] (omega arith) refl

request_plain : (r : Request) → ProperRequest r → list_all is_plain (request_words r) ≡ true
request_plain (requests.Open a b) h =
    number_plain a.first (decimal a.second ∷ decimal b.first ∷ decimal b.second ∷ []) (omega (arith, h.0.0))
    (number_plain a.second (decimal b.first ∷ decimal b.second ∷ []) (omega (arith, h.0.1))
    (number_plain b.first (decimal b.second ∷ []) (omega (arith, h.1.0))
    (number_plain b.second [] (omega (arith, h.1.1)) refl)))
request_plain (requests.Call c) h = call_plain c h
request_plain requests.Quiet h = refl
request_plain requests.Anew h = refl

bytes_plain : (bytes : List ℕ) → AllByRecursion (λ b. b < 2 ^ 8) bytes → list_all is_plain (map decimal bytes) ≡ true
bytes_plain [] h = refl
bytes_plain (b ∷ bs) h = number_plain b (map decimal bs) (omega (arith, h.0)) (bytes_plain bs h.1)

fill_plain : (who : Who) (n : ℕ) (bytes : List ℕ) → n < 2 ^ 32 → AllByRecursion (λ b. b < 2 ^ 8) bytes → list_all is_plain (codes "cells" ∷ who_word who ∷ decimal n ∷ map decimal bytes) ≡ true
fill_plain consoles.Quick n bytes small h = number_plain n (map decimal bytes) (omega arith) (bytes_plain bytes h)
fill_plain consoles.Slow n bytes small h = number_plain n (map decimal bytes) (omega arith) (bytes_plain bytes h)

pub written_plain : (e : Saying) → Proper e → list_all is_plain (written e) ≡ true
written_plain (says.Quick p) h = pieces_plain p h
written_plain (says.Slow p) h = pieces_plain p h
written_plain (says.Cells f) h = fill_plain f.who f.address f.bytes h.address h.bytes
written_plain (says.Request r) h = request_plain r h

pub entries_again : EntriesAgain
entries_again e h = line_of_words (written e) (written_plain e h) ∙ words_again e h

-- the stops that a recall shows

-- zeros before digits change no number
zeros : (z n : ℕ) (ds : List ℕ) → AllDigits 16 ds → digits_value 16 ds ≡ n → AllDigits 16 (replicate z 48 ++ ds) × (digits_value 16 (replicate z 48 ++ ds) ≡ n)
zeros zero n ds all e = (all, e)
zeros (suc z) n ds all e = let more = zeros z n ds all e in ((omega arith, more.0), more.1)

-- at most j digits of a number below 16 ^ j
few_digits : (k j n : ℕ) (acc : List ℕ) → n < 16 ^ suc j → length (digits_onto k 16 true n acc) ≤ suc j + length acc
few_digits zero j n acc small = omega arith
few_digits (suc k) j n acc small =
    cond_both (eqb (n / 16) 0) (digit_glyph true (n % 16) ∷ acc) (digits_onto k 16 true (n / 16) (digit_glyph true (n % 16) ∷ acc)) (λ (ds : List ℕ). length ds ≤ suc j + length acc)
    (λ e. omega arith) (λ e. by j (few_digits k) small (eqb-false (n / 16) 0 e))
  where
    by : (j : ℕ) → ((i m : ℕ) (rest : List ℕ) → m < 16 ^ suc i → length (digits_onto k 16 true m rest) ≤ suc i + length rest) → n < 16 ^ suc j → (n / 16 ≡ 0 → ⊥)
        → length (digits_onto k 16 true (n / 16) (digit_glyph true (n % 16) ∷ acc)) ≤ suc j + length acc
    by zero more small large = absurd (large (omega arith))
    by (suc i) more small large =
        let less : n / 16 < 16 ^ suc i = let s : n < 16 ^ suc i * 16 = rw (← pow-suc 16 (suc i)) small in omega arith in
        omega (arith, more i (n / 16) (digit_glyph true (n % 16) ∷ acc) less)

sixteen_long : (n : ℕ) → n < 2 ^ 64 → length (sixteen n) ≡ 16
unfolding sixteen digits
sixteen_long n small =
    let few : length (digits_onto 64 16 true n []) ≤ 16 + 0 = few_digits 64 15 n [] (omega arith) in
    omega (arith, length-append (replicate (16 - length (digits 16 true n)) 48) (digits 16 true n), length-replicate {A = ℕ} (16 - length (digits 16 true n)) 48, few)

-- the sixteen capitals are hexadecimal digits of the number
sixteen_reads : (n : ℕ) → n < 2 ^ 64 → AllDigits 16 (sixteen n) × (digits_value 16 (sixteen n) ≡ n)
unfolding sixteen
sixteen_reads n small =
    let is = digits_is_IsNumeral 16 true (omega arith) (omega arith) n (omega arith) in
    zeros (16 - length (digits 16 true n)) n (digits 16 true n) is.0.1 is.1

stops_read : (stops : ℕ) → stops < 2 ^ 64 → large_at ((codes "0x" ++ sixteen stops) ∷ []) ≡ Ok (stops, [])
unfolding number_at
stops_read stops small =
    let is = sixteen_reads stops small in
    ap (numbered []) (hexadecimal_read 0xFFFF_FFFF_FFFF_FFFF stops (sixteen stops) (omega (arith, sixteen_long stops small), is.0) is.1 (omega arith))

set_again : (p stops : ℕ) → p < 2 ^ 32 → stops < 2 ^ 64 → words_read (codes "set" ∷ decimal p ∷ (codes "0x" ++ sixteen stops) ∷ []) ≡ Ok (Some (asked (Set p stops)))
unfolding words_read rest_of
set_again p stops at small = rw (small_again p ((codes "0x" ++ sixteen stops) ∷ []) at, stops_read stops small) refl

pub stops_again : StopsAgain
stops_again p stops at small =
    let plain : list_all is_plain ((codes "0x" ++ sixteen stops) ∷ []) ≡ true =
    and_from (is_plain (codes "0x" ++ sixteen stops)) true (digits_plain 16 (sixteen stops) (omega arith) (sixteen_reads stops small).0) refl
    in
    let words : Words = codes "set" ∷ decimal p ∷ (codes "0x" ++ sixteen stops) ∷ [] in (
      sixteen_long stops small,
      line_of_words words (number_plain p ((codes "0x" ++ sixteen stops) ∷ []) (omega arith) plain) ∙ set_again p stops at small,
    )
