-- What reading the octets of a line into a buffer says of them. Assumes nothing.
use mathlib.Core.Path.{◌≡◌, refl, ap}
use mathlib.Core.Bool.{Bool, true, false}
use mathlib.Core.List.{List}
use Prim.Native.Nat.{ℕ, ◌/◌, ◌≤◌}
use native.Mathlib.Omega.{arith}
use borrow.Author.Tests.{le-leb}
use lib.ListN.{length}
use Rattle.text.specs.Text.{pick, hex_good, octets_of, hex_of, hex_into, HexRead}
use Rattle.std.specs.Prelude.{Result}
use Rattle.text.specs.declared.HexFault.{HexFault}
use Rattle.text.proofs.Trip.{read-front}
use Rattle.pdu_words.specs.LineText.{refused_line, pdu_text, spelled_text, heard_text}
use Rattle.pdu_words.specs.declared.lines.Task.{Task}

heard : (t : Task) (word s o : List ℕ) → length s / 2 ≤ length o → heard_text t word (hex_of (length o) s) (hex_into o s) ≡ spelled_text t word s
unfolding heard_text spelled_text hex_of
heard t word s o h = go (hex_good s) refl
  where
    go : (b : Bool) → hex_good s ≡ b
        → heard_text t word (hex_of (length o) s) (hex_into o s) ≡ pick b (pdu_text t word (octets_of s)) (refused_line t 17)
    go true e = rw (e, le-leb _ _ h) (ap (pdu_text t word) (read-front o s e h))
    go false e = rw e

-- 2,048 octets have room for those of any line
pub spelled-heard : {s o after : List ℕ} {x : Result ℕ HexFault} (t : Task) (word : List ℕ) → HexRead o s x after → length s ≤ 4096 → length o ≡ 2048
    → heard_text t word x after ≡ spelled_text t word s
spelled-heard {s} {o} t word r fits room = rw (r.found_is, r.buffer_is) (heard t word s o (omega arith))
