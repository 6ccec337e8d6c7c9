-- What one end sends reads well at the other, and is what may come there: so that no end ever aborts for "invalid PDU", reason 2.
use Rattle.std.specs.Prelude.{Bool, true, false, not, List, [], ◌∷◌, ℕ, eqb, length}
use Rattle.text.specs.Text.{pick, both}
use Rattle.per.specs.Pdu as per
use Rattle.per.specs.Pdu.{got, refused, read_pdu}
use Rattle.pdu.specs.Reasons.{INVALID-PDU}
use Rattle.pdu.specs.declared.uplink.Ground.{Ground}
use Rattle.pdu.specs.UplinkTable.{ground_tag, ground_c}
use Rattle.pdu.specs.declared.downlink.AirPdu.{AirPdu}
use Rattle.pdu.specs.DownlinkTable.{air_c}
use Rattle.link.specs.Names.{ABORT-REQUEST}
use Rattle.air_tables.specs.Names.{LI-START, LI-ACTIVE}
use Rattle.air_answer.specs.Events.{uplink_event, may_come, reason_in}
use Rattle.ground_answer.specs.Events as ground
use Rattle.channel.specs.declared.Letter.{Letter}
use Rattle.channel.specs.Channel.{octets_in}
use Rattle.sending.specs.Ways.{START, END, USER-ABORT}

-- the reading of a PDU from the ground, by the kind of its letter: with a start a contract, with an end cancel-all, with an abort one for another reason than
-- 2, else what may come in data (002:6106, 6110, 6114)
unfoldable pub up_reads : ℕ → per.Answer Ground → Bool
up_reads kind (got g) =
    pick (eqb kind START) (may_come LI-START (uplink_event g))
    (pick (eqb kind END) (eqb (ground_tag g) 0)
    (pick (eqb kind ABORT-REQUEST) (not (eqb (reason_in g) INVALID-PDU)) (may_come LI-ACTIVE (uplink_event g))))
up_reads kind (refused n) = false

-- an end may have no PDU, and the user's abort has none
unfoldable pub up_fits : ℕ → List ℕ → Bool
up_fits kind s =
    pick (eqb kind USER-ABORT) true (pick (both (eqb kind END) (eqb (length s) 0)) true (up_reads kind (read_pdu ground_c s)))

-- the same of a PDU from the aircraft: the ground takes all that reads well (01, LI's table), and of an end response no octets
unfoldable pub down_reads : ℕ → per.Answer AirPdu → Bool
down_reads kind (got a) = pick (eqb kind ABORT-REQUEST) (not (eqb (ground.reason_in a.kind) INVALID-PDU)) true
down_reads kind (refused n) = false

unfoldable pub down_fits : ℕ → List ℕ → Bool
down_fits kind s = pick (eqb kind USER-ABORT) true (pick (eqb kind END) true (down_reads kind (read_pdu air_c s)))

-- octets under way, up or down, of a kind
abbrev pub fits_at : Bool → ℕ → List ℕ → Bool
fits_at up kind s = pick up (up_fits kind s) (down_fits kind s)

unfoldable pub letter_fits : Letter → Bool
letter_fits l = fits_at l.up l.kind (octets_in l)

-- each letter under way fits
abbrev pub all_fit : List Letter → Bool
all_fit [] = true
all_fit (l ∷ ls) = both (letter_fits l) (all_fit ls)
