-- What the code's answers about a line say, as laws. Assumes nothing.
use mathlib.Core.Path.{◌≡◌, refl, ap, ◌∙◌}
use mathlib.Core.Bool.{Bool, true, false}
use mathlib.Core.List.{List}
use Prim.Native.Nat.{ℕ, ◌-◌, ◌/◌, ◌≤◌}
use native.Mathlib.Omega.{arith}
use borrow.Author.Tests.{ne_eqb, le-leb, le-ltb}
use lib.Dec.{leb}
use lib.ListN.{length, get_or, take, drop, length-drop}
use Rattle.text.specs.Text.{pick, hex_good, hex_of, hex_into, octets_of, word_end}
use Rattle.text.specs.Words.{found_from}
use Rattle.std.specs.Prelude.{Result, Ok, Err}
use Rattle.text.specs.declared.HexFault.{HexFault}
use Rattle.text.proofs.Laws.{part-all}
use Rattle.text.proofs.Trip.{read-front}
use Rattle.script.specs.Fields.{Field, garbled, holds, hex_field, field_of, held_in}
use Rattle.script.specs.Lines.{unread, Script, Heard, heard, heard_line, heard_into, heard_in, call_of, parsed_line, parsed_into, texts_of, shapes_of}
use Rattle.script.specs.declared.line.Heard as code

-- what reading hexadecimal text found, with the buffer in which the octets stand
unfoldable pub hex_in : Result ℕ HexFault → List ℕ → Field
hex_in (Ok n) o = holds (take n o)
hex_in (Err e) o = garbled

-- what was read into a buffer that is long enough
held : (s o : List ℕ) → length s / 2 ≤ length o → hex_in (hex_of (length o) s) (hex_into o s) ≡ pick (hex_good s) (holds (octets_of s)) garbled
unfolding hex_in hex_of
held s o h = go (hex_good s) refl
  where
    go : (b : Bool) → hex_good s ≡ b → hex_in (hex_of (length o) s) (hex_into o s) ≡ pick b (holds (octets_of s)) garbled
    go true e = rw (e, le-leb _ _ h) (ap holds (read-front o s e h))
    go false e = rw e

pub hex-heard : (tail o : List ℕ) → (length tail ≡ 0 → ⊥) → (length tail ≡ 1 → ⊥) → length tail ≤ 4096 → 2048 ≤ length o
    → hex_in (hex_of (length o) (take (length tail - 1) (drop 1 tail))) (hex_into o (take (length tail - 1) (drop 1 tail))) ≡ hex_field tail
unfolding hex_field
hex-heard tail o some more most room =
    rw (part-all tail 1 (length tail) refl, ne_eqb _ _ some, ne_eqb _ _ more) (held (drop 1 tail) o (omega (arith, length-drop 1 tail)))

-- a line that is not too long, with its word from its start to e
pub word-heard : (texts : List (List ℕ)) (shapes line : List ℕ) (e w s : ℕ) → length line ≤ 4096 → e ≡ word_end line → w ≡ found_from 0 (take e line) texts → s ≡ get_or shapes w 0
    → heard w (field_of s (take (length line - e) (drop e line))) ≡ heard_line texts shapes line
unfolding heard_line
word-heard texts shapes line e w s fits ends is by = rw (le-ltb _ _ fits, ← ends, ← is, by, part-all line e (length line) refl)

module _ {Call : Type 0} (s : Script Call) where
  heard-call : (room : ℕ) (line : List ℕ)
      → call_of s (heard_into room (texts_of s.words) (shapes_of s.words) line).word (heard_into room (texts_of s.words) (shapes_of s.words) line).field
      ≡ parsed_into s room line
  unfolding heard_into parsed_into parsed_line call_of
  heard-call room line = go (leb 2048 room)
    where
      go : (b : Bool) → call_of s (pick b (heard_line (texts_of s.words) (shapes_of s.words) line) (heard 0 garbled)).word (pick b (heard_line (texts_of s.words) (shapes_of s.words) line) (heard 0 garbled)).field
          ≡ pick b (parsed_line s line) unread
      go true = refl
      go false = refl

  -- what is read into a buffer makes the call
  pub heard-makes : (room : ℕ) (line o : List ℕ) (h : code.Heard) → heard_in h o ≡ heard_into room (texts_of s.words) (shapes_of s.words) line
      → call_of s h.word (held_in h.held o) ≡ parsed_into s room line
  unfolding heard_in
  heard-makes room line o h e = ap (λ (x : Heard). call_of s x.word x.field) e ∙ heard-call room line

  -- a buffer that has room for any line
  pub with-room : (room : ℕ) (line : List ℕ) → 2048 ≤ room → parsed_into s room line ≡ parsed_line s line
  unfolding parsed_into
  with-room room line h = rw (le-leb _ _ h)
