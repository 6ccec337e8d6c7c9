-- A letter that fits comes as a call that it fits; what users ask fits always. Assumes nothing.
use mathlib.Core.Path.{◌≡◌, refl, sym}
use mathlib.Core.Bool.{Bool, true, false, not}
use mathlib.Core.List.{List, [], ◌∷◌}
use Prim.Native.Nat.{ℕ}
use lib.Dec.{eqb, ltb}
use lib.ListN.{length, take, drop}
use borrow.Author.Tests.{eqb-true}
use Rattle.text.specs.Letters.{ascii}
use Rattle.text.specs.Text.{pick, same_text, word_end}
use Rattle.text.specs.Words.{found_from}
use Rattle.per.specs.Pdu as per
use Rattle.per.specs.Pdu.{got, refused, read_pdu}
use Rattle.pdu.specs.declared.uplink.Ground.{Ground}
use Rattle.pdu.specs.UplinkTable.{ground_c}
use Rattle.pdu.specs.declared.downlink.AirPdu.{AirPdu}
use Rattle.pdu.specs.DownlinkTable.{air_c}
use Rattle.link.proofs.Laws.{no_true, pick-case}
use Rattle.ground.specs.declared.call.Call as ground_call
use Rattle.ground.specs.Endings as ground_ends
use Rattle.air.specs.declared.call.Call as air_call
use Rattle.air.specs.Endings as air_ends
use Rattle.bench_line.specs.Lines as ground_lines
use Rattle.air_line.specs.Lines as air_lines
use Rattle.script.specs.Fields.{Field, garbled, holds, counts}
use Rattle.script.specs.Lines.{Parsed, unread, makes, Script, texts_of, heard, heard_line, call_of, parsed_line}
use Rattle.flight_line.specs.Users.{is_user}
use Rattle.world.specs.GroundTurns as to_ground
use Rattle.world.specs.AirTurns as to_air
use Rattle.flight_promises.specs.Fitting.{up_reads, up_fits, down_reads, down_fits}
use Rattle.flight_promises.proofs.GroundSends as ground
use Rattle.flight_promises.proofs.AirSends as air

-- on the ground
ground-abort : (x : per.Answer AirPdu) → down_reads 4 x ≡ true → not (eqb (ground_ends.reason_of x) 2) ≡ true
unfolding down_reads ground_ends.reason_of
ground-abort (got a) h = h
ground-abort (refused n) h = absurd (no_true (sym h))

ground-data : (k : ℕ) (x : per.Answer AirPdu) → down_reads k x ≡ true → down_reads 2 x ≡ true
unfolding down_reads
ground-data k (got a) h = refl
ground-data k (refused n) h = h

pub ground-hears : (k : ℕ) (s : List ℕ) → down_fits k s ≡ true → ground.heard_well (to_ground.call_for k) (pick (eqb k 3) [] s) ≡ true
unfolding to_ground.call_for ground.heard_well down_fits
ground-hears k s f =
    let Q : ground_call.Call → Type 0 = λ c. ground.heard_well c (pick (eqb k 3) [] s) ≡ true in
    pick-case Q (eqb k 1) (λ e. let z = eqb-true k 1 e in rw z (rw z at f))
    (λ n1. pick-case Q (eqb k 3) (λ e. refl)
    (λ n3. pick-case Q (eqb k 4) (λ e. let z = eqb-true k 4 e in rw z (ground-abort (read_pdu air_c s) (rw z at f)))
    (λ n4. pick-case Q (eqb k 5) (λ e. refl) (λ n5. rw n3 (ground-data k (read_pdu air_c s) (rw (n5, n3) at f))))))

-- in the aircraft
air-abort : (x : per.Answer Ground) → up_reads 4 x ≡ true → not (eqb (air_ends.reason_of x) 2) ≡ true
unfolding up_reads air_ends.reason_of
air-abort (got g) h = h
air-abort (refused n) h = absurd (no_true (sym h))

air-data : (k : ℕ) (x : per.Answer Ground) → eqb k 1 ≡ false → eqb k 3 ≡ false → eqb k 4 ≡ false → up_reads k x ≡ true → up_reads 2 x ≡ true
unfolding up_reads
air-data k (got g) a b c h = rw (a, b, c) at h
air-data k (refused n) a b c h = h

pub air-hears : (k : ℕ) (s : List ℕ) → up_fits k s ≡ true → air.heard_well (to_air.call_for k) s ≡ true
unfolding to_air.call_for air.heard_well up_fits
air-hears k s f =
    let Q : air_call.Call → Type 0 = λ c. air.heard_well c s ≡ true in
    pick-case Q (eqb k 1) (λ e. let z = eqb-true k 1 e in rw z at f)
    (λ n1. pick-case Q (eqb k 3) (λ e. let z = eqb-true k 3 e in rw z at f)
    (λ n3. pick-case Q (eqb k 4) (λ e. let z = eqb-true k 4 e in air-abort (read_pdu ground_c s) (rw z at f))
    (λ n4. pick-case Q (eqb k 5) (λ e. refl) (λ n5. air-data k (read_pdu ground_c s) n1 n3 n4 (rw (n5, n3) at f)))))

-- the words of a user are the first of a side's: what holds of the calls that they make holds of what a user asks
pub record Users {C : Type 0} (s : Script C) (well : Parsed C → Bool) : Type 0 where
  pub none : well unread ≡ true
  pub sets : (f : Field) → well (call_of s 1 f) ≡ true
  pub requests : (f : Field) → well (call_of s 2 f) ≡ true
  pub aborts : (f : Field) → well (call_of s 3 f) ≡ true
  pub more : List (List ℕ)
  pub words : texts_of s.words ≡ [] ∷ ascii "set" ∷ ascii "req" ∷ ascii "user-abort" ∷ more

module _ {C : Type 0} (s : Script C) (well : Parsed C → Bool) (u : Users s well) where
  user-word : (a b c d : Bool) (n : ℕ) (f : Field) → ltb 0 (pick a 0 (pick b 1 (pick c 2 (pick d 3 0)))) ≡ true
      → well (call_of s (pick a 0 (pick b 1 (pick c 2 (pick d 3 n)))) f) ≡ true
  user-word true b c d n f h = absurd (no_true (sym h))
  user-word false true c d n f h = u.sets f
  user-word false false true d n f h = u.requests f
  user-word false false false true n f h = u.aborts f
  user-word false false false false n f h = absurd (no_true (sym h))

  line-well : (b : Bool) (w : ℕ) (f : Field) → well (call_of s w f) ≡ true
      → well (call_of s (pick b (heard 0 garbled) (heard w f)).word (pick b (heard 0 garbled) (heard w f)).field) ≡ true
  unfolding call_of
  line-well true w f h = u.none
  line-well false w f h = h

  user-well : (line : List ℕ) → is_user line ≡ true → well (parsed_line s line) ≡ true
  unfolding is_user parsed_line heard_line
  user-well line h =
      let w = take (word_end line) line in
      rw u.words
      (line-well (ltb 4096 (length line)) _ _
      (user-word (same_text w []) (same_text w (ascii "set")) (same_text w (ascii "req")) (same_text w (ascii "user-abort")) (found_from 4 w u.more) _ h))

-- what the user of the ground asks
abbrev pub ground_well : Parsed ground_call.Call → Bool
ground_well (makes c s) = ground.heard_well c s
ground_well unread = true

ground-request : (x : per.Answer Ground) → ground_well (ground_lines.request_in x) ≡ true
unfolding ground_lines.request_in ground.heard_well
ground-request (got g) = refl
ground-request (refused n) = refl

ground-sets : (f : Field) → ground_well (call_of ground_lines.ground_script 1 f) ≡ true
unfolding call_of ground_lines.octets_call ground_lines.number_call
ground-sets (holds o) = refl
ground-sets (counts n) = refl
ground-sets garbled = refl

ground-requests : (f : Field) → ground_well (call_of ground_lines.ground_script 2 f) ≡ true
unfolding call_of ground_lines.octets_call ground_lines.number_call
ground-requests (holds o) = ground-request (read_pdu ground_c o)
ground-requests (counts n) = refl
ground-requests garbled = refl

ground-aborts : (f : Field) → ground_well (call_of ground_lines.ground_script 3 f) ≡ true
unfolding call_of ground_lines.octets_call ground_lines.number_call ground.heard_well
ground-aborts (holds o) = refl
ground-aborts (counts n) = refl
ground-aborts garbled = refl

pub ground-user : (line : List ℕ) → is_user line ≡ true → ground_well (ground_lines.parsed_line line) ≡ true
ground-user =
    user-well ground_lines.ground_script ground_well
    (record { none = refl; sets = ground-sets; requests = ground-requests; aborts = ground-aborts; more = drop 4 (texts_of (ground_lines.ground_script).words); words = refl })

-- what the user of the aircraft asks
abbrev pub air_well : Parsed air_lines.Asked → Bool
air_well (makes c s) = air.heard_well c.call s
air_well unread = true

air-request : (x : per.Answer AirPdu) → air_well (air_lines.request_in x) ≡ true
unfolding air_lines.request_in air.heard_well
air-request (got g) = refl
air-request (refused n) = refl

air-sets : (f : Field) → air_well (call_of air_lines.air_script 1 f) ≡ true
unfolding call_of air_lines.octets_call air_lines.plain_call air_lines.number_call
air-sets (holds o) = refl
air-sets (counts n) = refl
air-sets garbled = refl

air-requests : (f : Field) → air_well (call_of air_lines.air_script 2 f) ≡ true
unfolding call_of air_lines.octets_call air_lines.number_call
air-requests (holds o) = air-request (read_pdu air_c o)
air-requests (counts n) = refl
air-requests garbled = refl

air-aborts : (f : Field) → air_well (call_of air_lines.air_script 3 f) ≡ true
unfolding call_of air_lines.octets_call air_lines.plain_call air_lines.number_call air.heard_well
air-aborts (holds o) = refl
air-aborts (counts n) = refl
air-aborts garbled = refl

pub air-user : (line : List ℕ) → is_user line ≡ true → air_well (air_lines.parsed_line line) ≡ true
air-user =
    user-well air_lines.air_script air_well
    (record { none = refl; sets = air-sets; requests = air-requests; aborts = air-aborts; more = drop 4 (texts_of (air_lines.air_script).words); words = refl })
