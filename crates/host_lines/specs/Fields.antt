-- What follows the word of a line: " LINK OCTETS OUT N N ..". Fields are HEX as in a script (01, "Script words"): "one space between", lower case. One without octets is
-- empty, and its space stays.
use Rattle.std.specs.Prelude.{◌≡◌, Bool, true, false, List, [], ◌∷◌, ℕ, zero, suc, ◌+◌, ◌/◌, ◌≤◌, eqb, leb, length, take, drop, set, replicate, Result, Ok, Err}
use Rattle.text.specs.Text.{pick, hex_good, octets_of, word_end}
use Rattle.text.specs.Numbers.{step_of, with_step}
use Rattle.text.specs.declared.HexFault.{HexFault}
use Rattle.host_lines.specs.declared.fields.Field.{Field}
use Rattle.host_lines.specs.declared.fields.Numbers.{Numbers}
use Rattle.host_lines.specs.declared.fields.Asked.{Asked}

-- a field's octets, and how many octets of the line it takes with its space
pub record Held : Type 0 where
  pub good : Bool
  pub octets : List ℕ
  pub used : ℕ

abbrev pub unheld : Held
unheld = record { good = false; octets = []; used = 0 }

-- HEX of at most `room` octets
unfoldable pub held_of : ℕ → List ℕ → ℕ → Held
held_of room s used = pick (hex_good s) (pick (leb (length s / 2) room) (record { good = true; octets = octets_of s; used = used }) unheld) unheld

-- a space and HEX, up to the next space or the end
unfoldable pub hex_step : ℕ → List ℕ → Held
hex_step room [] = unheld
hex_step room (c ∷ cs) = pick (eqb c 32) (held_of room (take (word_end cs) cs) (word_end cs + 1)) unheld

-- what the code's answer says of a field, with the buffer in which its octets stand
abbrev pub no_field : Field
no_field = record { good = false; count = 0; used = 0 }

unfoldable pub held_by : Result ℕ HexFault → ℕ → Field
held_by (Ok n) used = record { good = true; count = n; used = used }
held_by (Err e) used = no_field

abbrev pub held_in : Field → List ℕ → Held
held_in r o = record { good = r.good; octets = take r.count o; used = r.used }

pub record Holds (room : ℕ) (s : List ℕ) (r : Field) (o : List ℕ) : Type 0 where
  pub is : held_in r o ≡ hex_step room s
  pub within : r.used ≤ length s
  pub fits : r.count ≤ room

-- fewer than 48 numbers, each after one space, and then the end
abbrev pub no_numbers : Numbers
no_numbers = record { good = false; count = 0; list = replicate 48 0 }

-- k numbers more, from the i-th of the list on
unfoldable pub numbers_from : ℕ → ℕ → List ℕ → List ℕ → Numbers
numbers_from zero i list s = no_numbers
numbers_from (suc k) i list s =
    pick (eqb (length s) 0) (record { good = true; count = i; list = list })
    (with_step (step_of s) no_numbers (λ n. numbers_from k (i + 1) (set list i n.value) (drop n.used s)))

unfoldable pub numbers_in : List ℕ → Numbers
numbers_in s = numbers_from 48 0 (replicate 48 0) s

-- what a line gives a call: its link, octets, output and numbers; or it is not readable
pub data Ask : Type 0 where
  unread : Ask
  asks : List ℕ → List ℕ → List ℕ → List ℕ → Ask

unfoldable pub numbers_asked : List ℕ → List ℕ → List ℕ → Numbers → Ask
numbers_asked link octets out n = pick n.good (asks link octets out (take n.count n.list)) unread

-- a field of at most 520 octets, and what comes of it and of the rest
unfoldable pub field_then : (List ℕ → List ℕ → Ask) → List ℕ → Ask
field_then f s = pick (hex_step 520 s).good (f (hex_step 520 s).octets (drop (hex_step 520 s).used s)) unread

unfoldable pub asked : List ℕ → Ask
asked s = field_then (λ link. field_then (λ octets. field_then (λ out t. numbers_asked link octets out (numbers_in t)))) s

-- what the code's answer says, with the buffers in which the fields stand
abbrev pub unasked : Asked
unasked = record { numbers = no_numbers; link = 0; octets = 0; out = 0 }

unfoldable pub asked_in : Asked → List ℕ → List ℕ → List ℕ → Ask
asked_in r link octets out = numbers_asked (take r.link link) (take r.octets octets) (take r.out out) r.numbers

pub record Asks (s : List ℕ) (r : Asked) (link octets out : List ℕ) : Type 0 where
  pub is : asked_in r link octets out ≡ asked s
  pub link_fits : r.link ≤ 520
  pub octets_fits : r.octets ≤ 520
  pub out_fits : r.out ≤ 520
  pub numbers_fit : r.numbers.count ≤ 48
