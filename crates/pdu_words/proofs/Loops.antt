-- A turn of the loops over a list and over rows, and their ends. Assumes nothing.
use mathlib.Core.Path.{◌≡◌, refl}
use mathlib.Core.Bool.{Bool, true, false}
use mathlib.Core.List.{List}
use Prim.Native.Nat.{ℕ, suc, ◌+◌, ◌*◌, ◌/◌, ◌%◌, ◌^◌, ◌≤◌, ◌<◌, min}
use borrow.Author.Tests.{ltb-true, ltb-false, le-ltb}
use Rattle.std.proofs.Math.Nat.{div-eq_of_lt, pow-le-pow_right}
use native.Mathlib.Omega.{arith}
use lib.Dec.{eqb, ltb}
use lib.ListN.{length, get_or, take, drop}
use lib.Seq.{take_all, drop-cons}
use Rattle.std.proofs.Common.{add-one}
use Rattle.text.specs.Page.{Page, wrote, Writes}
use Rattle.text.proofs.Laws.{next}
use Rattle.text.proofs.Pages.{wrote-append}
use Rattle.pdu_words.specs.Ways.{list, names, name_item, entry_item, items_text, way_text}
use Rattle.pdu_words.specs.declared.rows.Row as code
use Rattle.pdu_words.specs.CodeRows.{entries_of, item_of, octets_in, row_of, rows_of}
use Rattle.pdu_words.specs.Names.{list_at}
use Rattle.text.specs.Text.{pick}
use Rattle.pdu_words.specs.Rows.{row_text, rows_text}

-- as many octets as are there
pub take-least : (xs : List ℕ) (k n : ℕ) → n ≡ min k (length xs) → take n xs ≡ take k xs
take-least xs k n e = go (ltb k (length xs)) refl
  where
    go : (b : Bool) → ltb k (length xs) ≡ b → take n xs ≡ take k xs
    go true f = let m : n ≡ k = omega (arith, e, ltb-true k (length xs) f) in rw m
    go false f = let h = ltb-false k (length xs) f in rw (take_all n xs (omega (arith, e, h)), take_all k xs h)

-- octet i of a list
pub item_step : (item : ℕ → ℕ → List ℕ) (xs : List ℕ) (i : ℕ) {p q : Page} → i < length xs → Writes p (item i (get_or xs i 0)) q
    → wrote q (items_text item (i + 1) (drop (i + 1) xs)) ≡ wrote p (items_text item i (drop i xs))
item_step item xs i {p} {q} h w = rw (w.is, next xs i h) (wrote-append p (item i (get_or xs i 0)) (items_text item (i + 1) (drop (i + 1) xs)))

-- the entries of a list by its number
pub entries-are : (l count : ℕ) (items : List ℕ) → items_text (item_of l) 0 (take (octets_in l count) items) ≡ way_text (entries_of l) count items
unfolding item_of octets_in entries_of way_text
entries-are l count items = go (eqb l 0)
  where
    go : (b : Bool) → items_text (λ i c. pick b (name_item i c) (entry_item (list_at l) i c)) 0 (take (pick b (count * 8) count) items)
        ≡ way_text (pick b names (list (list_at l))) count items
    go true = refl
    go false = refl

-- row i
pub row_step : (table : List code.Row) (f items : List ℕ) (i : ℕ) (d : code.Row) {p q : Page} → i < length table → Writes p (row_text (row_of (get_or table i d)) f items) q
    → wrote q (rows_text (rows_of (drop (i + 1) table)) f items) ≡ wrote p (rows_text (rows_of (drop i table)) f items)
row_step table f items i d {p} {q} h w =
    rw (w.is, add-one, drop-cons table i d h) (wrote-append p (row_text (row_of (get_or table i d)) f items) (rows_text (rows_of (drop (suc i) table)) f items))

-- a number below 2^32 has no bit from 32 on
pub no-bit : (n m : ℕ) → n < 2 ^ 32 → 32 ≤ m → ltb m 32 ≡ eqb (n / 2 ^ m % 2) 1
no-bit n m h l =
    let e : n / 2 ^ m ≡ 0 = div-eq_of_lt (omega (arith, h, pow-le-pow_right {n = 2} (omega arith) l)) in
    rw (le-ltb m 32 l, e)
