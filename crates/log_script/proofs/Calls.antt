-- What a line asks is a call as it may be made: its octets are octets, its number has 32 bits, and its request is as it reads. Assumes nothing.
use Prim.Native.Nat.{ℕ, zero, suc, ◌+◌, ◌-◌, ◌*◌, ◌<◌}
use mathlib.Core.Path.{◌≡◌, refl}
use mathlib.Core.Bool.{true}
use mathlib.Core.List.{List, [], ◌∷◌}
use native.Mathlib.Omega.{arith}
use borrow.Author.Tests.{leb-true, ltb-true}
use lib.Dec.{eqb, leb, ltb, lit<}
use lib.ListN.{length, drop}
use Rattle.per.specs.Pdu as per
use Rattle.per.specs.Pdu.{got, refused, read_pdu}
use Rattle.pdu.specs.declared.uplink.Ground.{Ground}
use Rattle.pdu.specs.UplinkTable.{ground_c}
use Rattle.pdu.proofs.Promises.{ground-read}
use Rattle.text.specs.Text.{both, digit_of, all_hex, hex_good, octets_of}
use Rattle.text.specs.Numbers.{number_from, number_of}
use Rattle.std.specs.Prelude.{Option, Some, None}
use Rattle.text.proofs.Laws.{both_true}
use Rattle.link.proofs.Laws.{pick-case}
use Rattle.octets.specs.Octets.{Octets}
use Rattle.ground.specs.declared.call.Call.{Call}
use Rattle.script.specs.Fields.{Field, garbled, holds, counts, alone_field, hex_field, number_after, counted, field_of}
use Rattle.script.specs.Lines.{Parsed, unread, makes, Heard, heard_line, call_of}
use Rattle.script.specs.Lines as script
use Rattle.bench_line.specs.Lines.{ground_script, request_in, octets_call, number_call, parsed_line}
use Rattle.log_blocks.specs.Log.{All}
use Rattle.log_play.specs.Records.{Callable}
use Rattle.log_script.specs.Scripts.{onto, calls_in}

none-octets : Octets []
none-octets k = lit< tt

-- ---- what stands behind a word
abbrev Small : Option ℕ → Type 0
Small (Some n) = n < 4294967296
Small None = Unit {0}

abbrev Fine : Field → Type 0
Fine (holds o) = Octets o
Fine (counts n) = n < 4294967296
Fine garbled = Unit {0}

two_digits : (a b : ℕ) (s : List ℕ) → all_hex (a ∷ b ∷ s) ≡ true → (digit_of a < 16) × (digit_of b < 16) × (all_hex s ≡ true)
two_digits a b s h =
    let x = both_true (ltb (digit_of a) 16) (all_hex (b ∷ s)) h in
    let y = both_true (ltb (digit_of b) 16) (all_hex s) x.1 in
    (ltb-true (digit_of a) 16 x.0, ltb-true (digit_of b) 16 y.0, y.1)

hex-octets : (s : List ℕ) → all_hex s ≡ true → Octets (octets_of s)
hex-octets [] h k = lit< tt
hex-octets (a ∷ []) h k = lit< tt
hex-octets (a ∷ b ∷ s) h zero =
    let x = two_digits a b s h in
    omega (arith, x.0, x.1)
hex-octets (a ∷ b ∷ s) h (suc k) = hex-octets s (two_digits a b s h).2 k

digits-small : (s : List ℕ) (v : ℕ) → v < 4294967296 → Small (number_from v s)
digits-small [] v h = h
digits-small (c ∷ cs) v h =
    pick-case Small (both (leb 48 c) (leb c 57))
    (λ d. pick-case Small (leb (v * 10 + (c - 48)) 4294967295) (λ e. digits-small cs (v * 10 + (c - 48)) (omega (arith, leb-true (v * 10 + (c - 48)) 4294967295 e))) (λ e. tt))
    (λ d. tt)

number_small : (s : List ℕ) → Small (number_of s)
unfolding number_of
number_small [] = tt
number_small (c ∷ []) = digits-small (c ∷ []) 0 (lit< tt)
number_small (c ∷ d ∷ cs) = pick-case Small (eqb c 48) (λ e. tt) (λ e. digits-small (c ∷ d ∷ cs) 0 (lit< tt))

counted-fine : (x : Option ℕ) → Small x → Fine (counted x)
unfolding counted
counted-fine (Some n) h = h
counted-fine None h = tt

hex-fine : (tail : List ℕ) → Fine (hex_field tail)
unfolding hex_field hex_good
hex-fine tail =
    pick-case Fine (eqb (length tail) 0) (λ e. none-octets)
    (λ e. pick-case Fine (eqb (length tail) 1) (λ f. tt)
    (λ f. pick-case Fine (hex_good (drop 1 tail)) (λ g. hex-octets (drop 1 tail) (both_true _ _ g).0) (λ g. tt)))

field-fine : (shape : ℕ) (tail : List ℕ) → Fine (field_of shape tail)
unfolding field_of alone_field number_after
field-fine shape tail =
    pick-case Fine (eqb shape 1) (λ e. pick-case Fine (eqb (length tail) 0) (λ f. none-octets) (λ f. tt))
    (λ e. pick-case Fine (eqb shape 2) (λ f. hex-fine tail)
    (λ f. pick-case Fine (eqb shape 3) (λ g. counted-fine _ (pick-case Small (eqb (length tail) 0) (λ i. tt) (λ i. number_small (drop 1 tail)))) (λ g. tt)))

-- ---- the call of a line
abbrev Able : Parsed Call → Type 0
Able (makes c s) = Callable (record { call = c; octets = s })
Able unread = Unit {0}

request-able : (o : List ℕ) → Octets o → (x : per.Answer Ground) → read_pdu ground_c o ≡ x → Able (request_in x)
unfolding request_in
request-able o h (got g) e = record { call = (ground-read o g h e).1; octets = none-octets }
request-able o h (refused n) e = tt

octets-able : (w : ℕ) (o : List ℕ) → Octets o → Able (octets_call w o)
unfolding octets_call
octets-able w o h =
    pick-case Able (eqb w 2) (λ e. request-able o h (read_pdu ground_c o) refl)
    (λ e. pick-case Able (eqb w 3) (λ f. record { call = tt; octets = none-octets })
    (λ f. pick-case Able (eqb w 5) (λ g. record { call = tt; octets = h })
    (λ g. pick-case Able (eqb w 6) (λ i. record { call = tt; octets = none-octets })
    (λ i. pick-case Able (eqb w 7) (λ j. record { call = tt; octets = h })
    (λ j. pick-case Able (eqb w 8) (λ k. record { call = tt; octets = none-octets })
    (λ k. pick-case Able (eqb w 9) (λ l. record { call = tt; octets = none-octets })
    (λ l. pick-case Able (eqb w 10) (λ m. record { call = tt; octets = h })
    (λ m. pick-case Able (eqb w 11) (λ n. record { call = tt; octets = none-octets }) (λ n. tt)))))))))

call-able : (w : ℕ) (f : Field) → Fine f → Able (call_of ground_script w f)
unfolding call_of number_call
call-able w (holds o) h = octets-able w o h
call-able w (counts n) h = pick-case Able (eqb w 4) (λ e. record { call = h; octets = none-octets }) (λ e. tt)
call-able w garbled h = tt

abbrev Heeds : Heard → Type 0
Heeds x = Able (call_of ground_script x.word x.field)

line-able : (line : List ℕ) → Able (parsed_line line)
unfolding script.parsed_line heard_line
line-able line = pick-case Heeds (ltb 4096 (length line)) (λ e. call-able 0 garbled tt) (λ e. call-able _ _ (field-fine _ _))

pub calls-able : (lines : List (List ℕ)) → All Callable (calls_in lines)
calls-able [] = tt
calls-able (line ∷ lines) = go (parsed_line line) (line-able line) (calls-able lines)
  where
    go : (x : Parsed Call) → Able x → All Callable (calls_in lines) → All Callable (onto x (calls_in lines))
    go (makes c s) h r = (h, r)
    go unread h r = r
