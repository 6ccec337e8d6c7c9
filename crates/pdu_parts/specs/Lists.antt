-- Lists in arrays: the entries that are counted, and zeros.
use Rattle.std.specs.Prelude.{ℕ, ◌-◌, ◌*◌, ◌≡◌, refl, Bool, true, false, List, ◌++◌, length, take, replicate}
use Rattle.std.proofs.Common.{ap, take_at}
use Rattle.per.specs.Codec.{Codec}
use Rattle.per.specs.Formats.{dep, field, via, num, ext, count, vec, vec_length, list16}
use Rattle.per.specs.laws.Codec.{first-1}
use Rattle.pdu_parts.specs.declared.lists.Listed.{Listed}

pub listed_left : (m : ℕ) (c : Codec ℕ) (p : ℕ × List ℕ) → (list16 m c).chk p ≡ 0
    → (◌≡◌ {A = ℕ} 0 0) × (◌≡◌ {A = ℕ × List ℕ} (p.0, take (p.0 * m) (p.1 ++ replicate (128 - length p.1) 0)) p)
unfolding list16 dep field
listed_left m c p h =
    let l : length p.1 ≡ p.0 * m = vec_length c (p.0 * m) p.1 (first-1 (count.chk p.0) ((vec c (p.0 * m)).chk p.1) h) in
    (refl, ap (λ (x : List ℕ). (p.0, x)) (take_at p.1 (replicate (128 - length p.1) 0) (p.0 * m) l))

-- "Lists: 8 bits of count, 0 to 16, then the entries as sent"; "unused entries read as 0 and are no part of a value". m numbers an entry
unfoldable pub listed : ℕ → Codec ℕ → Codec Listed
listed m c =
    via (list16 m c)
    (λ p. record { count = p.0; items = p.1 ++ replicate (128 - length p.1) 0 })
    (λ a. (a.count, take (a.count * m) a.items))
    (λ a. 0)
    (λ p h s. listed_left m c p h)

-- an entry of 0..top, with an extension bit where it is marked
unfoldable pub entry_c : Bool → ℕ → Codec ℕ
entry_c true top = ext (num 0 top)
entry_c false top = num 0 top

-- "lists of report type* .., event type* .., report type and period* ..": marked entries of 0..top
abbrev pub entries_c : ℕ → Codec Listed
entries_c top = listed 1 (entry_c true top)

-- "a list of names of eight 7-bit characters"
abbrev pub names_c : Codec Listed
names_c = listed 8 (entry_c false 127)

-- no list
abbrev pub no_list : Listed
no_list = record { count = 0; items = replicate 128 0 }
