-- The start and the end of a PDU as the code judges them. Assumes nothing.
use Prim.Native.Nat.{ℕ, zero, suc, ◌+◌, ◌≤◌, ◌<◌}
use mathlib.Core.Path.{◌≡◌, refl, sym, ap}
use mathlib.Core.Bool.{Bool, false}
use mathlib.Core.List.{List}
use native.Mathlib.Omega.{arith}
use lib.ListN.{length, get_or-eq_default}
use borrow.Author.Tests.{eq-eqb, ne_eqb}
use Rattle.per.specs.declared.cursor.Cursor.{Cursor}
use Rattle.per.specs.Bits.{of_bit, num_at}
use Rattle.per.specs.Codec.{Codec, refuse}
use Rattle.per.specs.laws.Codec.{first-not}
use Rattle.per.specs.Pdu.{fill, window, start, ending, finish, refused, answer, read_pdu}
use Rattle.per.specs.Reading.{Reads}

-- past the end there are no ones
num-past : (bs : List Bool) (at w : ℕ) → length bs ≤ at → num_at bs at w ≡ 0
unfolding num_at of_bit
num-past bs at zero h = refl
num-past bs at (suc w) h = rw (num-past bs at w h, get_or-eq_default bs false {n = at + w} (omega arith))

pub ending-past : (bs : List Bool) (at n : ℕ) → n ≡ length bs → n < at → 14 ≡ ending bs at
ending-past bs at n l h =
    let z : num_at bs at (fill at) ≡ 0 = num-past bs at (fill at) (omega arith) in
    rw (eq-eqb (num_at bs at (fill at)) 0 z, ne_eqb (at + fill at) (length bs) (λ e. omega (arith, e)))

pub ending-13 : (bs : List Bool) (at v : ℕ) → v ≡ num_at bs at (fill at) → (v ≡ 0 → ⊥) → 13 ≡ ending bs at
ending-13 bs at v e h = rw (← e, ne_eqb v 0 h)

pub ending-14 : (bs : List Bool) (at v n : ℕ) → v ≡ num_at bs at (fill at) → v ≡ 0 → n ≡ length bs → (at + fill at ≡ n → ⊥) → 14 ≡ ending bs at
ending-14 bs at v n e z l h = rw (← e, eq-eqb v 0 z, ← l, ne_eqb (at + fill at) n h)

pub ending-0 : (bs : List Bool) (at v n : ℕ) → v ≡ num_at bs at (fill at) → v ≡ 0 → n ≡ length bs → at + fill at ≡ n → 0 ≡ ending bs at
ending-0 bs at v n e z l h = rw (← e, eq-eqb v 0 z, ← l, eq-eqb (at + fill at) n h)

pub finish-kept : (bs : List Bool) (j : Cursor) → (j.refusal ≡ 0 → ⊥) → j ≡ finish bs j
unfolding finish
finish-kept bs j h = ap (λ (n : ℕ). refuse j.at n) (sym (first-not j.refusal (ending bs j.at) h))

pub finish-judged : (bs : List Bool) (j : Cursor) (e : ℕ) → j.refusal ≡ 0 → e ≡ ending bs j.at → refuse j.at e ≡ finish bs j
unfolding finish
finish-judged bs j e z q = rw (z, q)

-- ---- a whole PDU, from what its reader and the judgement of its end say
pub answer-refused : {A : Type 0} (n : ℕ) (a : A) → (n ≡ 0 → ⊥) → answer n a ≡ refused n
answer-refused zero a h = absurd (h refl)
answer-refused (suc n) a h = refl

pub pdu-is : {A : Type 0} (c : Codec A) {s : List ℕ} {j n e : Cursor} {v : A} → j ≡ start s → Reads c s j v n → e ≡ finish (window s) n → read_pdu c s ≡ answer e.refusal v
unfolding read_pdu
pdu-is c b r f = rw (← b, ← r.value_is, ← r.next_is, f)
