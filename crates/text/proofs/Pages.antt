-- Laws of writing on a page. Assumes nothing.
use mathlib.Core.Path.{◌≡◌, refl, sym, ap, ◌∙◌}
use mathlib.Core.List.{List, [], ◌∷◌, ◌++◌}
use Prim.Native.Nat.{ℕ, suc, ◌+◌, ◌≤◌, ◌<◌}
use native.Mathlib.Omega.{arith}
use native.Mathlib.Numerals.{add-one}
use borrow.Author.Tests.{lt-ltb}
use lib.ListN.{length, take, drop, set, length-set, length-append}
use lib.Seq.{sets, sets-eq, length-take-le, take_at}
use Rattle.text.specs.Page.{Page, page, put, wrote, Writes}

pub wrote-append : (p : Page) (xs ys : List ℕ) → wrote (wrote p xs) ys ≡ wrote p (xs ++ ys)
wrote-append p [] ys = refl
wrote-append p (x ∷ xs) ys = wrote-append (put p x) xs ys

-- one text after another
pub after : {p q r : Page} {xs ys : List ℕ} → Writes p xs q → Writes q ys r → Writes p (xs ++ ys) r
after {p} {q} {r} {xs} {ys} e f = record { is = f.is ∙ ap (λ (z : Page). wrote z ys) e.is ∙ wrote-append p xs ys }

pub put-fits : (l : List ℕ) (a b : ℕ) → a < length l → put (page l a) b ≡ page (set l a b) (suc a)
unfolding put
put-fits l a b h = rw (lt-ltb a (length l) h, add-one)

-- where there is room, the text stands at the pen's place, the rest is as it was, and the pen is past it
pub wrote-fits : (l : List ℕ) (a : ℕ) (bs : List ℕ) → a + length bs ≤ length l → wrote (page l a) bs ≡ page (sets l a bs) (a + length bs)
wrote-fits l a [] h = ap (page l) (omega arith)
wrote-fits l a (b ∷ bs) h =
    let inside : a < length l = omega arith in
    let room : suc a + length bs ≤ length (set l a b) = simp length-set (omega arith) in
    let count : suc a + length bs ≡ a + suc (length bs) = omega arith in
    rw (put-fits l a b inside) (wrote-fits (set l a b) (suc a) bs room ∙ ap (page (sets (set l a b) (suc a) bs)) count)

-- so it stands behind what stood before the pen
pub stands : (l m : List ℕ) (a b : ℕ) (t : List ℕ) → a + length t ≤ length l → Writes (page l a) t (page m b) → take b m ≡ take a l ++ t
stands l m a b t h w =
    let e : page m b ≡ page (sets l a t) (a + length t) = w.is ∙ wrote-fits l a t h in
    let n : length (take a l ++ t) ≡ b = simp length-append (rw (length-take-le a l (omega arith)) (sym (ap (λ (p : Page). p.at) e))) in
    let o : m ≡ take a l ++ t ++ drop (a + length t) l = ap (λ (p : Page). p.octets) e ∙ sets-eq t l a h in
    rw o (take_at (take a l ++ t) (drop (a + length t) l) b n)
