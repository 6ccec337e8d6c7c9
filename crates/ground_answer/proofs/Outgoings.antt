-- A ground PDU has room in the octets of an answer, so writing it there gives its octets or the refusal of its fields. Assumes nothing.
use Rattle.std.proofs.Common.{◌≡◌, refl, sym, ap, ℕ, ◌≤◌, List, [], length, replicate, arith}
use Rattle.per.specs.Pdu.{encode}
use Rattle.per.specs.Written.{Octets, Refused}
use Rattle.per.specs.Writing.{write_pdu}
use Rattle.per.proofs.RoundTrip.{length-encode}
use Rattle.std.specs.Prelude.{Result, Ok, Err}
use Rattle.refusals.specs.declared.Refusal.{Refusal}
use Rattle.refusals.specs.Refusals.{number}
use Rattle.refusals.proofs.Numbers.{number-alone, number-some}
use Rattle.pdu.specs.declared.uplink.Ground.{Ground}
use Rattle.pdu.specs.UplinkTable.{ground_c}
use Rattle.pdu.proofs.UplinkBounds.{ground-most}
use Rattle.pdu.specs.Answers.{Sends}
use Rattle.pdu.proofs.Rooms.{room-goes, room-stays}
use Rattle.ground_answer.specs.Sent.{SENT-MOST, sent, letter_of, outgoing, letter, Outgoing}
use Rattle.ground_answer.specs.declared.sent.Sent.{Sent}

has_room : (g : Ground) → length (encode ground_c g) ≤ SENT-MOST
has_room g = omega (arith, length-encode ground_c g, ground-most.bits g)

pub letter-goes : (g : Ground) {w : Result ℕ Refusal} {t : List ℕ} (n : ℕ) → w ≡ Ok n → Sends ground_c g (replicate SENT-MOST 0) w t
    → record { refusal = 0; sent = record { n = n; octets = t } } ≡ outgoing g
unfolding outgoing letter_of sent
letter-goes g n e s =
    let r = room-goes ground_c SENT-MOST g (has_room g) n e s in
    rw r.fields (λ i. record { refusal = 0; sent = record { n = r.counted i; octets = r.octets i } })

pub letter-stays : (g : Ground) {w : Result ℕ Refusal} {t : List ℕ} (n : Refusal) → w ≡ Err n → Sends ground_c g (replicate SENT-MOST 0) w t
    → record { refusal = number n; sent = sent [] } ≡ outgoing g
unfolding outgoing letter_of
letter-stays g n e s =
    let r = room-stays ground_c SENT-MOST g (has_room g) n e s in
    rw r.fields (λ i. record { refusal = r.is i; sent = sent [] })

-- as a search takes them
pub outgoing_octets : (g : Ground) (n : ℕ) → Octets n ≡ (write_pdu ground_c g (replicate SENT-MOST 0)).answer
    → outgoing g ≡ record { refusal = 0; sent = record { n = n; octets = (write_pdu ground_c g (replicate SENT-MOST 0)).octets } }
outgoing_octets g n e = sym (letter-goes g n refl (record { answer_is = e; octets_are = refl }))

pub outgoing_refused : (g : Ground) (r : Refusal) → Refused (number r) ≡ (write_pdu ground_c g (replicate SENT-MOST 0)).answer → outgoing g ≡ record { refusal = number r; sent = sent [] }
outgoing_refused g r e = sym (letter-stays g r refl (record { answer_is = e; octets_are = refl }))

-- nothing is lost where an answer is looked at as a letter
pub letter-alone : (x y : Result Sent Refusal) → letter x ≡ letter y → x ≡ y
letter-alone (Ok s) (Ok t) e = ap Ok (ap (λ (o : Outgoing). o.sent) e)
letter-alone (Ok s) (Err r) e = absurd (number-some r (sym (ap (λ (o : Outgoing). o.refusal) e)))
letter-alone (Err q) (Ok t) e = absurd (number-some q (ap (λ (o : Outgoing). o.refusal) e))
letter-alone (Err q) (Err r) e = ap Err (number-alone q r (ap (λ (o : Outgoing). o.refusal) e))
