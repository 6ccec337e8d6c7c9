-- What a line of a script asks (01, "Script words").
use Rattle.std.specs.Prelude.{List, [], ℕ, eqb, take}
use Rattle.per.specs.Pdu.{Answer, got, refused, read_pdu}
use Rattle.pdu.specs.declared.uplink.Ground.{Ground}
use Rattle.pdu.specs.UplinkTable.{ground_c}
use Rattle.text.specs.Text.{pick}
use Rattle.ground.specs.declared.call.Call.{Call}
use Rattle.ground.specs.declared.call.Call.TheVariants.{Request, UserAbort, Elapse, StartConfirm, StartRejected, Data, EndConfirm, PeerAbort, AirAbort, Down}
use Rattle.script.specs.Lines.{Parsed, unread, makes, Script}
use Rattle.script.specs.Lines as script
use Rattle.bench_line.specs.Words.{ground_words}
use Rattle.bench_line.specs.declared.line.LineCall.{LineCall}
use Rattle.bench_line.specs.declared.line.LineCall.TheVariants.{Unread, Makes}

-- "`req` takes a written ground PDU: one that doesn't read is 17"
unfoldable pub request_in : Answer Ground → Parsed Call
request_in (got g) = makes (Request g) []
request_in (refused n) = unread

-- the call of the word with the number w, with the octets that follow it
unfoldable pub octets_call : ℕ → List ℕ → Parsed Call
octets_call w s =
    pick (eqb w 2) (request_in (read_pdu ground_c s))
    (pick (eqb w 3) (makes UserAbort [])
    (pick (eqb w 5) (makes StartConfirm s)
    (pick (eqb w 6) (makes StartRejected [])
    (pick (eqb w 7) (makes Data s)
    (pick (eqb w 8) (makes EndConfirm [])
    (pick (eqb w 9) (makes PeerAbort [])
    (pick (eqb w 10) (makes AirAbort s)
    (pick (eqb w 11) (makes Down []) unread))))))))

-- `elapse N`
unfoldable pub number_call : ℕ → ℕ → Parsed Call
number_call w n = pick (eqb w 4) (makes (Elapse n) []) unread

abbrev pub ground_script : Script Call
ground_script = record { words = ground_words; with_octets = octets_call; with_number = number_call }

-- a whole line, once the box has its settings
abbrev pub parsed_line : List ℕ → Parsed Call
parsed_line = script.parsed_line ground_script

-- with a buffer for `room` octets: 2,048 are enough for any line, and with fewer none is read
abbrev pub parsed_into : ℕ → List ℕ → Parsed Call
parsed_into = script.parsed_into ground_script

-- what the code's answers say, with the buffer in which the octets stand
unfoldable pub parsed_in : LineCall → List ℕ → Parsed Call
parsed_in (Makes c n) o = makes c (take n o)
parsed_in Unread o = unread

unfoldable pub request_call : Answer Ground → LineCall
request_call (got g) = Makes (Request g) 0
request_call (refused n) = Unread
