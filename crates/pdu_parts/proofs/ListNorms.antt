-- What reads back of a list: its entries, and zeros past them. Assumes nothing.
use Prim.Native.Nat.{ℕ, zero, suc, ◌-◌, ◌*◌, ◌≤◌}
use mathlib.Core.Path.{◌≡◌, refl}
use mathlib.Core.Bool.{Bool, true, false}
use mathlib.Core.List.{List, [], ◌∷◌, ◌++◌}
use native.Mathlib.Nat.{mul-le-mul_right}
use native.Mathlib.Omega.{arith}
use borrow.Author.Tests.{leb-true}
use lib.Dec.{leb}
use lib.ListN.{length, take, replicate, length-append, length-replicate}
use lib.Seq.{length-take-le}
use Rattle.per.specs.Formats.{field, dep, via, absent, count, vec, vec_length, list16}
use Rattle.per.specs.laws.Codec.{first-0, first-1, unless-true}
use Rattle.pdu_parts.specs.declared.lists.Listed.{Listed}
use Rattle.pdu_parts.specs.Lists.{listed, entry_c}

entry-norm : (marked : Bool) (top v : ℕ) → (entry_c marked top).norm v ≡ v
unfolding entry_c via dep field
entry-norm true top v = refl
entry-norm false top v = refl

vec-norm : (marked : Bool) (top n : ℕ) (l : List ℕ) → length l ≡ n → (vec (entry_c marked top) n).norm l ≡ l
unfolding vec via dep absent
vec-norm marked top zero [] h = refl
vec-norm marked top zero (x ∷ l) h = absurd (omega arith)
vec-norm marked top (suc n) [] h = absurd (omega arith)
vec-norm marked top (suc n) (x ∷ l) h = rw (entry-norm marked top x, vec-norm marked top n l (omega arith))

-- entries past the count read as 0
pub listed-norm : (m : ℕ) (marked : Bool) (top : ℕ) (a : Listed) → a.count * m ≤ length a.items
    → (listed m (entry_c marked top)).norm a
    ≡ record { count = a.count; items = take (a.count * m) a.items ++ replicate (128 - length (take (a.count * m) a.items)) 0 }
unfolding listed list16 via dep field
listed-norm m marked top a h = rw (vec-norm marked top (a.count * m) (take (a.count * m) a.items) (length-take-le (a.count * m) a.items h))

-- a list that may be written reads back with all of its 128 octets
pub listed-full : (m : ℕ) (marked : Bool) (top : ℕ) (a : Listed) → m ≤ 8 → (listed m (entry_c marked top)).chk a ≡ 0
    → length ((listed m (entry_c marked top)).norm a).items ≡ 128
unfolding listed list16 via dep field
listed-full m marked top a small h =
    let t = take (a.count * m) a.items in
    let n : a.count ≤ 16 = leb-true a.count 16 (unless-true (leb a.count 16) 11 (first-0 (count.chk a.count) ((vec (entry_c marked top) (a.count * m)).chk t) h)) in
    let l : length t ≡ a.count * m = vec_length (entry_c marked top) (a.count * m) t (first-1 (count.chk a.count) ((vec (entry_c marked top) (a.count * m)).chk t) h) in
    let few : a.count * m ≤ 128 = omega (arith, mul-le-mul_right m n, small) in
    rw (vec-norm marked top (a.count * m) t l, length-append t (replicate (128 - length t) 0), length-replicate {A = ℕ} (128 - length t) 0, l)
    (omega (arith, few))
