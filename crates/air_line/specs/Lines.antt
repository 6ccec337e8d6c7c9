-- What a line of an air script asks (01, "Script words"; F75).
use Rattle.std.specs.Prelude.{List, [], ℕ, eqb, take}
use Rattle.per.specs.Pdu.{Answer, got, refused, read_pdu}
use Rattle.pdu_parts.specs.Lists.{no_list}
use Rattle.pdu_parts.specs.declared.lists.Listed.{Listed}
use Rattle.pdu.specs.declared.downlink.AirPdu.{AirPdu}
use Rattle.pdu.specs.DownlinkTable.{air_c}
use Rattle.text.specs.Text.{pick}
use Rattle.air.specs.declared.call.Call.{Call}
use Rattle.air.specs.declared.call.Call.TheVariants.{Request, UserAbort, Elapse, StartInd, Data, EndInd, PeerAbort, GroundAbort, Down}
use Rattle.script.specs.Lines.{Parsed, unread, makes, Script}
use Rattle.script.specs.Lines as script
use Rattle.air_line.specs.Words.{air_words}
use Rattle.air_line.specs.declared.line.AirLine.{AirLine}
use Rattle.air_line.specs.declared.line.LineCall.{LineCall}
use Rattle.air_line.specs.declared.line.LineCall.TheVariants.{Unread, Makes}

-- a call, and the list beside it, which is a request's
pub record Asked : Type 0 where
  pub call : Call
  pub list : Listed

abbrev pub asked : Call → Asked
asked c = record { call = c; list = no_list }

-- `req HEX` is an aircraft PDU; one that does not read is 17 (F119)
unfoldable pub request_in : Answer AirPdu → Parsed Asked
request_in (got a) = makes (record { call = Request a.kind; list = a.list }) []
request_in (refused n) = unread

-- the call of the word with the number w, with the octets that follow it
unfoldable pub plain_call : ℕ → List ℕ → Parsed Asked
plain_call w s =
    pick (eqb w 3) (makes (asked UserAbort) [])
    (pick (eqb w 5) (makes (asked StartInd) s)
    (pick (eqb w 6) (makes (asked Data) s)
    (pick (eqb w 7) (makes (asked EndInd) s)
    (pick (eqb w 8) (makes (asked PeerAbort) [])
    (pick (eqb w 9) (makes (asked GroundAbort) s)
    (pick (eqb w 10) (makes (asked Down) []) unread))))))

unfoldable pub octets_call : ℕ → List ℕ → Parsed Asked
octets_call w s = pick (eqb w 2) (request_in (read_pdu air_c s)) (plain_call w s)

-- `elapse N`
unfoldable pub number_call : ℕ → ℕ → Parsed Asked
number_call w n = pick (eqb w 4) (makes (asked (Elapse n)) []) unread

abbrev pub air_script : Script Asked
air_script = record { words = air_words; with_octets = octets_call; with_number = number_call }

-- a whole line, once the box has its setting
abbrev pub parsed_line : List ℕ → Parsed Asked
parsed_line = script.parsed_line air_script

-- with a buffer for `room` octets: 2,048 are enough for any line, and with fewer none is read
abbrev pub parsed_into : ℕ → List ℕ → Parsed Asked
parsed_into = script.parsed_into air_script

-- what the code's answers say, with the buffer in which the octets stand
unfoldable pub parsed_with : LineCall → Listed → List ℕ → Parsed Asked
parsed_with (Makes c n) list o = makes (record { call = c; list = list }) (take n o)
parsed_with Unread list o = unread

unfoldable pub parsed_in : AirLine → List ℕ → Parsed Asked
parsed_in l o = parsed_with l.call l.list o

-- a line without a list
abbrev pub bare_line : LineCall → AirLine
bare_line c = record { call = c; list = no_list }

unfoldable pub request_line : Answer AirPdu → AirLine
request_line (got a) = record { call = Makes (Request a.kind) 0; list = a.list }
request_line (refused n) = bare_line Unread
