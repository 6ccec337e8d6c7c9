-- An aircraft PDU has room in 115 octets, so writing it there gives its octets or the refusal of its fields. Assumes nothing.
use Prim.Native.Nat.{ℕ, ◌≤◌}
use mathlib.Core.Path.{◌≡◌, refl, sym, ap}
use mathlib.Core.List.{List, []}
use native.Mathlib.Omega.{arith}
use lib.ListN.{length, replicate}
use Rattle.per.specs.Pdu.{encode}
use Rattle.per.specs.Written.{Octets, Refused}
use Rattle.per.specs.Writing.{write_pdu}
use Rattle.per.proofs.RoundTrip.{length-encode}
use Rattle.std.specs.Prelude.{Result, Ok, Err}
use Rattle.refusals.specs.declared.Refusal.{Refusal}
use Rattle.refusals.specs.Refusals.{number}
use Rattle.refusals.proofs.Numbers.{number-alone, number-some}
use Rattle.pdu.specs.declared.downlink.AirPdu.{AirPdu}
use Rattle.pdu.specs.DownlinkTable.{air_c}
use Rattle.pdu.proofs.DownlinkBounds.{air-most}
use Rattle.pdu.specs.Answers.{Sends}
use Rattle.pdu.proofs.Rooms.{room-goes, room-stays}
use Rattle.air_answer.specs.Sent.{sent, letter_of, outgoing, letter, Outgoing}
use Rattle.air_answer.specs.declared.sent.Sent.{Sent}

has_room : (a : AirPdu) → length (encode air_c a) ≤ 115
has_room a = omega (arith, length-encode air_c a, air-most.bits a)

pub letter-goes : (a : AirPdu) {w : Result ℕ Refusal} {t : List ℕ} (n : ℕ) → w ≡ Ok n → Sends air_c a (replicate 115 0) w t
    → record { refusal = 0; sent = record { n = n; octets = t } } ≡ outgoing a
unfolding outgoing letter_of sent
letter-goes a n e s =
    let r = room-goes air_c 115 a (has_room a) n e s in
    rw r.fields (λ i. record { refusal = 0; sent = record { n = r.counted i; octets = r.octets i } })

pub letter-stays : (a : AirPdu) {w : Result ℕ Refusal} {t : List ℕ} (n : Refusal) → w ≡ Err n → Sends air_c a (replicate 115 0) w t
    → record { refusal = number n; sent = sent [] } ≡ outgoing a
unfolding outgoing letter_of
letter-stays a n e s =
    let r = room-stays air_c 115 a (has_room a) n e s in
    rw r.fields (λ i. record { refusal = r.is i; sent = sent [] })

-- as a search takes them
pub outgoing_octets : (a : AirPdu) (n : ℕ) → Octets n ≡ (write_pdu air_c a (replicate 115 0)).answer
    → outgoing a ≡ record { refusal = 0; sent = record { n = n; octets = (write_pdu air_c a (replicate 115 0)).octets } }
outgoing_octets a n e = sym (letter-goes a n refl (record { answer_is = e; octets_are = refl }))

pub outgoing_refused : (a : AirPdu) (r : Refusal) → Refused (number r) ≡ (write_pdu air_c a (replicate 115 0)).answer → outgoing a ≡ record { refusal = number r; sent = sent [] }
outgoing_refused a r e = sym (letter-stays a r refl (record { answer_is = e; octets_are = refl }))

-- nothing is lost where an answer is looked at as a letter
pub letter-alone : (x y : Result Sent Refusal) → letter x ≡ letter y → x ≡ y
letter-alone (Ok s) (Ok t) e = ap Ok (ap (λ (o : Outgoing). o.sent) e)
letter-alone (Ok s) (Err r) e = absurd (number-some r (sym (ap (λ (o : Outgoing). o.refusal) e)))
letter-alone (Err q) (Ok t) e = absurd (number-some q (ap (λ (o : Outgoing). o.refusal) e))
letter-alone (Err q) (Err r) e = ap Err (number-alone q r (ap (λ (o : Outgoing). o.refusal) e))
