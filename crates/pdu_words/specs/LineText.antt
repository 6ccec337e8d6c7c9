-- The answer to a line `air HEX` or `ground HEX`, "one space between; HEX is a PDU in lower case, or left out when empty" (01, "Script words"): the octets of its PDU
-- written back from the value read, or the PDU in words for a person. Any other line is 17, and so is one over 4,096 octets.
use Rattle.std.specs.Prelude.{List, [], ◌∷◌, ◌++◌, ℕ, eqb, ltb, length, take, drop, replicate, Result, Ok, Err}
use Rattle.refusals.specs.Refusals.{SCRIPT-LINE}
use Rattle.text.specs.Letters.{ascii}
use Rattle.text.specs.Text.{pick, hex_good, octets_of, hex_text, word_end}
use Rattle.text.specs.Words.{word_at, found_from, refused_text}
use Rattle.text.specs.declared.HexFault.{HexFault}
use Rattle.per.specs.Codec.{Codec}
use Rattle.per.specs.Pdu.{Answer, got, refused, read_pdu}
use Rattle.per.specs.Writing.{write_pdu}
use Rattle.per.specs.Written.{Written, Octets, Refused}
use Rattle.pdu_parts.specs.declared.lists.Listed.{Listed}
use Rattle.pdu.specs.UplinkTable.{ground_c}
use Rattle.pdu.specs.DownlinkTable.{air_c}
use Rattle.pdu.specs.declared.downlink.Air.{Air}
use Rattle.pdu.specs.declared.downlink.AirPdu.{AirPdu}
use Rattle.pdu.specs.declared.uplink.Ground.{Ground}
use Rattle.host_numbers.specs.DownlinkNumbers.{flat_air}
use Rattle.host_numbers.specs.UplinkNumbers.{flat_ground}
use Rattle.pdu_words.specs.Names.{refusal_words}
use Rattle.pdu_words.specs.AirRows.{air_words}
use Rattle.pdu_words.specs.GroundRows.{ground_words}
use Rattle.pdu_words.specs.declared.lines.Task.{Task}
use Rattle.pdu_words.specs.declared.lines.Task.TheVariants.{Code, Tell}

-- `refused N`; a person is told why
unfoldable pub refused_line : Task → ℕ → List ℕ
refused_line Code n = refused_text n
refused_line Tell n = refused_text n ++ word_at refusal_words n

-- `ok HEX`, the octets that writing gives, or `refused N`
unfoldable pub written_text : Written → List ℕ → List ℕ
written_text (Octets n) back = ascii "ok " ++ hex_text (take n back)
written_text (Refused n) back = refused_text n

unfoldable pub coded_text : {A : Type 0} → Codec A → A → List ℕ
coded_text c a = written_text (write_pdu c a (replicate 128 0)).answer (write_pdu c a (replicate 128 0)).octets

-- a PDU that reads, by the task. A list has 128 octets
unfoldable pub air_text : Task → Air → Listed → List ℕ
air_text Code k l = coded_text air_c (record { kind = k; list = l })
air_text Tell k l = air_words (flat_air k l.count) (take 128 l.items)

unfoldable pub ground_text : Task → Ground → List ℕ
ground_text Code g = coded_text ground_c g
ground_text Tell g = ground_words (flat_ground g)

-- what reading gives
unfoldable pub air_read : Task → Answer AirPdu → List ℕ
air_read t (got a) = air_text t a.kind a.list
air_read t (refused n) = refused_line t n

unfoldable pub ground_read : Task → Answer Ground → List ℕ
ground_read t (got g) = ground_text t g
ground_read t (refused n) = refused_line t n

-- the word of a line: 1 is `air`, 2 is `ground`
unfoldable pub family_of : List ℕ → ℕ
family_of word = found_from 0 word ([] ∷ ascii "air" ∷ ascii "ground" ∷ [])

-- and the octets behind it
unfoldable pub pdu_text : Task → List ℕ → List ℕ → List ℕ
pdu_text t word octets =
    pick (eqb (family_of word) 1) (air_read t (read_pdu air_c octets))
    (pick (eqb (family_of word) 2) (ground_read t (read_pdu ground_c octets)) (refused_line t SCRIPT-LINE))

-- the octets as hexadecimal text
unfoldable pub spelled_text : Task → List ℕ → List ℕ → List ℕ
spelled_text t word s = pick (hex_good s) (pdu_text t word (octets_of s)) (refused_line t SCRIPT-LINE)

-- what follows the word: nothing, or a space and the octets
unfoldable pub tail_text : Task → List ℕ → List ℕ → List ℕ
tail_text t word tail =
    pick (eqb (length tail) 0) (pdu_text t word [])
    (pick (eqb (length tail) 1) (refused_line t SCRIPT-LINE) (spelled_text t word (drop 1 tail)))

-- the answer to a line
unfoldable pub line_text : Task → List ℕ → List ℕ
line_text t line =
    pick (ltb 4096 (length line)) (refused_line t SCRIPT-LINE) (tail_text t (take (word_end line) line) (drop (word_end line) line))

-- and its end
unfoldable pub answer_text : Task → List ℕ → List ℕ
answer_text t line = line_text t line ++ (10 ∷ [])

-- the answers to lines, in order
abbrev pub answers_of : Task → List (List ℕ) → List ℕ
answers_of t [] = []
answers_of t (l ∷ ls) = answer_text t l ++ answers_of t ls

-- what the code says of the octets that it read into a buffer
unfoldable pub heard_text : Task → List ℕ → Result ℕ HexFault → List ℕ → List ℕ
heard_text t word (Ok n) o = pdu_text t word (take n o)
heard_text t word (Err e) o = refused_line t SCRIPT-LINE
