-- The calls that lines make, by the C names of include/adsc.h without `adsc_`, and what a host has after one.
use Rattle.std.specs.Prelude.{◌≡◌, List, [], ◌∷◌, ℕ, ◌%◌, eqb, ltb, get_or}
use Rattle.text.specs.Letters.{ascii}
use Rattle.text.specs.Text.{pick}
use Rattle.text.specs.Words.{found_from}
use Rattle.per.specs.Writing.{Delivered, write_pdu}
use Rattle.pdu.specs.UplinkTable.{ground_c}
use Rattle.pdu.specs.DownlinkTable.{air_c}
use Rattle.ground.specs.declared.call.Call.{Call}
use Rattle.ground.specs.declared.call.Call.TheVariants.{Request, UserAbort, Elapse, StartConfirm, StartRejected, Data, EndConfirm, PeerAbort, AirAbort, Down}
use Rattle.host_numbers.specs.UplinkNumbers.{ground_at}
use Rattle.host_numbers.specs.DownlinkNumbers.{air_at}
use Rattle.host_record.specs.Hosting.{Done, Opening, hosted, made}
use Rattle.log_blocks.specs.Record.{rec}
use Rattle.host_log.specs.Recording.{Kept, block_opened, block_appended, block_finished}
use Rattle.host_log.specs.Playing.{block_played}
use Rattle.adschost.specs.Flatness.{number_of, length_of}
use Rattle.host_lines.specs.declared.call.Called.{Called}

abbrev pub host_words : List (List ℕ)
host_words =
    ascii "write_ground" ∷ ascii "write_air" ∷ ascii "open" ∷ ascii "request" ∷ ascii "elapse" ∷ ascii "start_confirm" ∷ ascii "data" ∷ ascii "air_abort"
    ∷ ascii "user_abort" ∷ ascii "start_rejected" ∷ ascii "end_confirm" ∷ ascii "peer_abort" ∷ ascii "down" ∷ ascii "block_open" ∷ ascii "block_append" ∷ ascii "block_finish" ∷ ascii "block_play" ∷ []

-- the number of a word in that order from 1 on, 0 for any other text
unfoldable pub word_of : List ℕ → ℕ
word_of w = found_from 1 w host_words

-- the number that a call gives, the length that it tells, and its two lent buffers
pub record After : Type 0 where
  pub number : ℕ
  pub told : ℕ
  pub link : List ℕ
  pub out : List ℕ

-- writing: the length was 999 before it
unfoldable pub written : List ℕ → Delivered → After
written link d = record { number = number_of d.answer; told = length_of d.answer 999; link = link; out = d.octets }

-- a call on a record
unfoldable pub on_link : Done → After
on_link d = record { number = d.number; told = 999; link = d.link; out = d.answer }

abbrev pub opens : Opening → List ℕ → Done
opens o out = record { number = o.number; link = o.link; answer = out }

-- the calls that take octets, and those that take nothing, by their words
unfoldable pub octets_call : ℕ → Call
octets_call w = pick (eqb w 6) StartConfirm (pick (eqb w 7) Data AirAbort)

unfoldable pub plain_call : ℕ → Call
plain_call w = pick (eqb w 9) UserAbort (pick (eqb w 10) StartRejected (pick (eqb w 11) EndConfirm (pick (eqb w 12) PeerAbort Down)))

unfoldable pub other_done : ℕ → List ℕ → List ℕ → List ℕ → Done
other_done w link octets out = pick (ltb w 9) (hosted (octets_call w) octets link out) (hosted (plain_call w) [] link out)

-- `elapse` takes the first number; one that is not there counts as 0
unfoldable pub link_done : ℕ → List ℕ → List ℕ → List ℕ → List ℕ → Done
link_done w link octets numbers out =
    pick (eqb w 3) (opens (made numbers link) out)
    (pick (eqb w 4) (hosted (Request (ground_at numbers)) [] link out)
    (pick (eqb w 5) (hosted (Elapse (get_or numbers 0 0)) [] link out) (other_done w link octets out)))

-- the calls of the flight log have the block in the place of the link, and `block_play` in that of the octets; a kind is an octet: of a larger number the lowest
unfoldable pub block_done : ℕ → List ℕ → List ℕ → List ℕ → Kept
block_done w link octets numbers =
    let n = get_or numbers 0 0 in
    pick (eqb w 14) (block_opened n link)
    (pick (eqb w 15) (block_appended link (rec (n % 256) (get_or numbers 1 0) octets))
    (pick (eqb w 16) (block_finished link) (block_played link n octets)))

abbrev pub on_block : Kept → List ℕ → Done
on_block k out = record { number = k.number; link = k.block; answer = out }

unfoldable pub called : ℕ → List ℕ → List ℕ → List ℕ → List ℕ → After
called w link octets numbers out =
    pick (eqb w 1) (written link (write_pdu ground_c (ground_at numbers) out))
    (pick (eqb w 2) (written link (write_pdu air_c (air_at numbers octets) out))
    (on_link (pick (ltb 13 w) (on_block (block_done w link octets numbers) out) (link_done w link octets numbers out))))

-- what the code gives
pub record Does (a : After) (r : Called) (link out : List ℕ) : Type 0 where
  pub number_is : r.number ≡ a.number
  pub length_is : r.length ≡ a.told
  pub link_is : link ≡ a.link
  pub out_is : out ≡ a.out
