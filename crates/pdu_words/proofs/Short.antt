-- The answer to a line is never long, so that it stands whole on a page that has room. Assumes nothing.
use mathlib.Core.Path.{◌≡◌, refl}
use mathlib.Core.Bool.{Bool, true, false}
use mathlib.Core.List.{List, [], ◌∷◌, ◌++◌}
use Prim.Native.Nat.{ℕ, zero, suc, ◌+◌, ◌*◌, ◌/◌, ◌%◌, ◌≤◌}
use native.Mathlib.Nat.{le_trans, min-le_left, min-le_right, mul-le-mul_right, suc-mul}
use native.Mathlib.Omega.{arith}
use lib.Dec.{eqb, ltb, leb, leb→le, lit≤}
use lib.ListN.{length, get_or, take, drop, replicate, length-append, length-take}
use Rattle.text.specs.Letters.{ascii}
use Rattle.text.specs.Text.{pick, hex_good, octets_of, hex_text, word_end, decimal}
use Rattle.text.specs.Words.{word_at, refused_text}
use Rattle.text.specs.Page.{page, Writes}
use Rattle.text.proofs.Laws.{decimal-length}
use Rattle.text.proofs.Lengths.{hex-length, refused-length, of_two}
use Rattle.text.proofs.Pages.{stands}
use Rattle.per.specs.Codec.{Codec, first, unless}
use Rattle.per.specs.Pdu.{Answer, got, refused, read_pdu, encode}
use Rattle.per.specs.Writing.{delivered, write_pdu}
use Rattle.pdu_parts.specs.declared.lists.Listed.{Listed}
use Rattle.pdu.specs.UplinkTable.{ground_c}
use Rattle.pdu.specs.DownlinkTable.{air_c}
use Rattle.pdu.specs.declared.downlink.Air.{Air}
use Rattle.pdu.specs.declared.downlink.AirPdu.{AirPdu}
use Rattle.pdu.specs.declared.uplink.Ground.{Ground}
use Rattle.host_numbers.specs.DownlinkNumbers.{flat_air}
use Rattle.host_numbers.specs.UplinkNumbers.{flat_ground}
use Rattle.pdu_words.specs.Names.{refusal_words}
use Rattle.pdu_words.specs.Ways.{Way, nothing, number, two, three, seconds, tens, octets, nth, word, list, names, tenths, signed, thousandths, quarters, mach_steps, time_steps, two_digits, three_digits, tenth_text, seconds_text, tenths_text, thousandth_text, thousandths_text, mach_text, time_text, sign_text, size_of, signed_text, tens_text, fractions, quarters_text, octets_text, ending, nth_text, plain, letter, mark, name_item, entry_item, items_text, way_text}
use Rattle.pdu_words.specs.Rows.{Row, chosen, row_text, rows_text}
use Rattle.pdu_words.specs.AirRows.{air_rows, air_words}
use Rattle.pdu_words.specs.GroundRows.{ground_rows, ground_words}
use Rattle.pdu_words.specs.LineText.{refused_line, written_text, coded_text, air_text, ground_text, air_read, ground_read, family_of, pdu_text, spelled_text, tail_text, line_text, answer_text}
use Rattle.pdu_words.specs.declared.lines.Task.{Task}
use Rattle.pdu_words.specs.declared.lines.Task.TheVariants.{Code, Tell}

-- a word has at most the letters of its list
letters : List (List ℕ) → ℕ
letters [] = 0
letters (w ∷ ws) = length w + letters ws

word-length : (ws : List (List ℕ)) (n : ℕ) → length (word_at ws n) ≤ letters ws
unfolding letters
word-length [] n = omega arith
word-length (w ∷ ws) zero = omega arith
word-length (w ∷ ws) (suc n) = omega (arith, word-length ws n)

-- the octets of a list
items-length : (item : ℕ → ℕ → List ℕ) (m : ℕ) → ((i c : ℕ) → length (item i c) ≤ m) → (i : ℕ) (os : List ℕ) → length (items_text item i os) ≤ length os * m
items-length item m most i [] = omega arith
items-length item m most i (c ∷ cs) =
    omega (arith, length-append (item i c) (items_text item (i + 1) cs), most i c, items-length item m most (i + 1) cs, suc-mul (length cs) m)

mark-length : (i : ℕ) → length (mark i) ≤ 2
unfolding mark
mark-length i = of_two (eqb i 0) 2 _ _ (lit≤ tt) (lit≤ tt)

letter-length : (c : ℕ) → length (letter c) ≤ 4
unfolding letter
letter-length c = of_two (plain c) 4 _ _ (lit≤ tt) (lit≤ tt)

name-length : (i c : ℕ) → length (name_item i c) ≤ 6
unfolding name_item
name-length i c =
    let l = letter-length c in
    of_two (eqb (i % 8) 0) 6 _ _ (omega (arith, length-append (mark i) (letter c), mark-length i, l)) (omega (arith, l))

entry_length : (ws : List (List ℕ)) (i c : ℕ) → length (entry_item ws i c) ≤ 2 + letters ws
unfolding entry_item
entry_length ws i c = omega (arith, length-append (mark i) (word_at ws c), mark-length i, word-length ws c)

-- at most k octets, of 128
few : (k : ℕ) (items : List ℕ) → length items ≤ 128 → length (take k items) ≤ 128
few k items h = omega (arith, length-take k items, min-le_right k (length items))

-- how long each way can be
way_most : Way → ℕ
way_most nothing = 0
way_most number = 20
way_most two = 2
way_most three = 3
way_most seconds = 4
way_most tens = 21
way_most octets = 6
way_most nth = 42
way_most (word ws) = letters ws
way_most (list ws) = 128 * (2 + letters ws)
way_most names = 768
way_most tenths = 22
way_most signed = 21
way_most thousandths = 24
way_most quarters = 29
way_most mach_steps = 31
way_most time_steps = 44

list_length : (item : ℕ → ℕ → List ℕ) (m k : ℕ) (items : List ℕ) → ((i c : ℕ) → length (item i c) ≤ m) → length items ≤ 128
    → length (items_text item 0 (take k items)) ≤ 128 * m
list_length item m k items most h = le_trans (items-length item m most 0 (take k items)) (mul-le-mul_right m (few k items h))

tenths-length : (n : ℕ) → length (tenths_text n) ≤ 22
unfolding tenths_text tenth_text
tenths-length n = omega (arith, length-append (decimal (n / 10)) (tenth_text n), decimal-length (n / 10))

thousandth-length : (n : ℕ) → length (thousandth_text n) ≤ 4
unfolding thousandth_text two_digits
thousandth-length n =
    let t : length (pick (eqb (n % 10) 0) [] ((48 + n % 10) ∷ [])) ≤ 1 = of_two (eqb (n % 10) 0) 1 _ _ (lit≤ tt) (lit≤ tt) in
    omega (arith, t)

thousandths-length : (n : ℕ) → length (thousandths_text n) ≤ 24
unfolding thousandths_text
thousandths-length n = omega (arith, length-append (decimal (n / 1000)) (thousandth_text n), decimal-length (n / 1000), thousandth-length n)

mach-length : (n : ℕ) → length (mach_text n) ≤ 31
unfolding mach_text
mach-length n =
    let m = n % 200 * 5 in
    of_two (eqb n 0) 31 _ _ (lit≤ tt) (omega (arith, length-append (decimal (n / 200)) (thousandth_text m), decimal-length (n / 200), thousandth-length m))

time-length : (n : ℕ) → length (time_text n) ≤ 44
unfolding time_text
time-length n = of_two (eqb n 0) 44 _ _ (lit≤ tt) (omega (arith, length-append (decimal (n * 15)) (ascii " minutes"), decimal-length (n * 15)))

-- a sign and a text of at most m letters
sign-length : (n m : ℕ) (t : List ℕ) → length t ≤ m → length (sign_text n ++ t) ≤ 1 + m
unfolding sign_text
sign-length n m t h =
    let s : length (sign_text n) ≤ 1 = of_two (ltb n 2147483648) 1 _ _ (lit≤ tt) (lit≤ tt) in
    omega (arith, length-append (sign_text n) t, s)

signed-length : (n : ℕ) → length (signed_text n) ≤ 21
unfolding signed_text
signed-length n = sign-length n 20 (decimal (size_of n)) (decimal-length (size_of n))

tens-length : (n : ℕ) → length (tens_text n) ≤ 21
unfolding tens_text
tens-length n = sign-length n 20 (decimal (size_of n * 10)) (decimal-length (size_of n * 10))

quarters-length : (n : ℕ) → length (quarters_text n) ≤ 29
unfolding quarters_text letters
quarters-length n =
    let q = decimal (size_of n / 4) in
    let w = word_at fractions (size_of n % 4) in
    sign-length n 28 (q ++ w) (omega (arith, length-append q w, decimal-length (size_of n / 4), word-length fractions (size_of n % 4)))

nth-length : (n : ℕ) → length (nth_text n) ≤ 42
unfolding nth_text letters
nth-length n =
    let ends = ascii "th" ∷ ascii "st" ∷ ascii "nd" ∷ ascii "rd" ∷ [] in
    let w = word-length ends (ending n) in
    let a = length-append (decimal n) (word_at ends (ending n) ++ ascii " report") in
    let b = length-append (word_at ends (ending n)) (ascii " report") in
    of_two (eqb n 1) 42 _ _ (lit≤ tt) (omega (arith, a, b, w, decimal-length n))

way-length : (w : Way) (n : ℕ) (items : List ℕ) → length items ≤ 128 → length (way_text w n items) ≤ way_most w
unfolding way_text way_most two_digits three_digits tenth_text seconds_text octets_text
way-length nothing n items h = lit≤ tt
way-length number n items h = decimal-length n
way-length two n items h = lit≤ tt
way-length three n items h = lit≤ tt
way-length seconds n items h = lit≤ tt
way-length tens n items h = tens-length n
way-length octets n items h = lit≤ tt
way-length nth n items h = nth-length n
way-length (word ws) n items h = word-length ws n
way-length (list ws) n items h = list_length (entry_item ws) (2 + letters ws) n items (entry_length ws) h
way-length names n items h = list_length name_item 6 (n * 8) items name-length h
way-length tenths n items h = tenths-length n
way-length signed n items h = signed-length n
way-length thousandths n items h = thousandths-length n
way-length quarters n items h = quarters-length n
way-length mach_steps n items h = mach-length n
way-length time_steps n items h = time-length n

-- and rows
row_most : Row → ℕ
row_most r = length r.label + (way_most r.way + length r.unit)

rows_most : List Row → ℕ
rows_most [] = 0
rows_most (r ∷ rs) = row_most r + rows_most rs

row-length : (r : Row) (f items : List ℕ) → length items ≤ 128 → length (row_text r f items) ≤ row_most r
unfolding row_most row_text
row-length r f items h =
    let t = way_text r.way (get_or f r.place 0) items in
    of_two (chosen r f) (row_most r) (r.label ++ (t ++ r.unit)) []
    (omega (arith, length-append r.label (t ++ r.unit), length-append t r.unit, way-length r.way (get_or f r.place 0) items h))
    (omega arith)

rows-length : (rs : List Row) (f items : List ℕ) → length items ≤ 128 → length (rows_text rs f items) ≤ rows_most rs
unfolding rows_most
rows-length [] f items h = lit≤ tt
rows-length (r ∷ rs) f items h =
    omega (arith, row-length r f items h, rows-length rs f items h, length-append (row_text r f items) (rows_text rs f items))

air-length : (f items : List ℕ) → length items ≤ 128 → length (air_words f items) ≤ 50000
unfolding air_words air_rows rows_most row_most way_most letters
air-length f items h = le_trans (rows-length air_rows f items h) (lit≤ tt)

ground-length : (f : List ℕ) → length (ground_words f) ≤ 50000
unfolding ground_words ground_rows rows_most row_most way_most letters
ground-length f = le_trans (rows-length ground_rows f [] (lit≤ tt)) (lit≤ tt)

-- refusals
reason-length : (n : ℕ) → length (word_at refusal_words n) ≤ 1000
unfolding letters refusal_words
reason-length n = le_trans (word-length refusal_words n) (lit≤ tt)

line_refused : (t : Task) (n : ℕ) → length (refused_line t n) ≤ 50000
unfolding refused_line
line_refused Code n = omega (arith, refused-length n)
line_refused Tell n = omega (arith, length-append (refused_text n) (word_at refusal_words n), refused-length n, reason-length n)

-- a PDU that is written back
written-length : (k : ℕ) (pdu o : List ℕ) → (k ≡ 0 → length pdu ≤ 128) → length (written_text (delivered k pdu o).answer (delivered k pdu o).octets) ≤ 50000
unfolding written_text
written-length zero pdu o h =
    let n = length pdu in
    let l = pdu ++ drop n o in
    omega (arith, h refl, length-append (ascii "ok ") (hex_text (take n l)), hex-length (take n l), length-take n l, min-le_left n (length l))
written-length (suc k) pdu o h = omega (arith, refused-length (suc k))

fits : (x n : ℕ) (b : Bool) → leb n 128 ≡ b → first x (unless b 6) ≡ 0 → n ≤ 128
fits x n true e z = leb→le n 128 (rw e tt)
fits zero n false e z = absurd (omega arith)
fits (suc x) n false e z = absurd (omega arith)

coded-length : {A : Type 0} (c : Codec A) (a : A) → length (coded_text c a) ≤ 50000
unfolding coded_text write_pdu
coded-length c a = written-length _ (encode c a) (replicate 128 0) (fits (c.chk a) (length (encode c a)) _ refl)

-- what reading gives
air-good : (t : Task) (k : Air) (l : Listed) → length (air_text t k l) ≤ 50000
unfolding air_text
air-good Code k l = coded-length air_c (record { kind = k; list = l })
air-good Tell k l = air-length (flat_air k l.count) (take 128 l.items) (omega (arith, length-take 128 l.items, min-le_left 128 (length l.items)))

ground-good : (t : Task) (g : Ground) → length (ground_text t g) ≤ 50000
unfolding ground_text
ground-good Code g = coded-length ground_c g
ground-good Tell g = ground-length (flat_ground g)

air-answer : (t : Task) (x : Answer AirPdu) → length (air_read t x) ≤ 50000
unfolding air_read
air-answer t (got a) = air-good t a.kind a.list
air-answer t (refused n) = line_refused t n

ground-answer : (t : Task) (x : Answer Ground) → length (ground_read t x) ≤ 50000
unfolding ground_read
ground-answer t (got g) = ground-good t g
ground-answer t (refused n) = line_refused t n

-- and a line
pdu-length : (t : Task) (w os : List ℕ) → length (pdu_text t w os) ≤ 50000
unfolding pdu_text
pdu-length t w os =
    of_two (eqb (family_of w) 1) 50000 _ _ (air-answer t (read_pdu air_c os))
    (of_two (eqb (family_of w) 2) 50000 _ _ (ground-answer t (read_pdu ground_c os)) (line_refused t 17))

spelled-length : (t : Task) (w s : List ℕ) → length (spelled_text t w s) ≤ 50000
unfolding spelled_text
spelled-length t w s = of_two (hex_good s) 50000 _ _ (pdu-length t w (octets_of s)) (line_refused t 17)

tail-length : (t : Task) (w s : List ℕ) → length (tail_text t w s) ≤ 50000
unfolding tail_text
tail-length t w s =
    of_two (eqb (length s) 0) 50000 _ _ (pdu-length t w []) (of_two (eqb (length s) 1) 50000 _ _ (line_refused t 17) (spelled-length t w (drop 1 s)))

line-length : (t : Task) (line : List ℕ) → length (line_text t line) ≤ 50000
unfolding line_text
line-length t line =
    let e = word_end line in
    of_two (ltb 4096 (length line)) 50000 _ _ (line_refused t 17) (tail-length t (take e line) (drop e line))

pub answer-length : (t : Task) (line : List ℕ) → length (answer_text t line) ≤ 50001
unfolding answer_text
answer-length t line = omega (arith, line-length t line, length-append (line_text t line) (10 ∷ []))

-- where there is room for so many octets, the answer stands behind what stood before the pen, and nothing of it is dropped
pub answer-stands : (t : Task) (line out after : List ℕ) (at r : ℕ) → at + 50001 ≤ length out → Writes (page out at) (answer_text t line) (page after r)
    → take r after ≡ take at out ++ answer_text t line
answer-stands t line out after at r room w = stands out after at r (answer_text t line) (omega (arith, answer-length t line)) w
