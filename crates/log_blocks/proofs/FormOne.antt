-- Form one meets what a form has to meet. Assumes nothing.
use Prim.Native.Nat.{ℕ, zero, suc, ◌+◌, ◌≤◌, ◌<◌}
use mathlib.Core.Path.{◌≡◌, refl, sym, ap, subst, ◌∙◌}
use mathlib.Core.Bool.{Bool, true, false}
use mathlib.Core.List.{List, [], ◌∷◌, ◌++◌}
use native.Mathlib.Omega.{arith}
use borrow.Author.Tests.{le-leb, leb-true, ne_eqb}
use lib.Dec.{eqb}
use lib.ListN.{length, get_or, take, drop, length-append, length-drop, take-append-drop}
use lib.Seq.{take-append_seam, drop-append_seam, length-take-le, drop-drop}
use Rattle.link.specs.Tests.{pick}
use Rattle.octets.specs.Octets.{quad, word_at, Octets}
use Rattle.octets.specs.laws.Numbers.{quad-word, word-quad}
use Rattle.octets.specs.laws.Runs.{six, octets-take, octets-drop, octets-cons, octets-append, octets-quad}
use Rattle.log_blocks.specs.Log.{one, none, cut, Lawful}
use Rattle.log_blocks.specs.Record.{Rec, rec, Good, rec_octets, readable, rec_first, form_one}
use Rattle.text.proofs.Laws.{both_true}

rec-bytes : (r : Rec) → Good r → Octets (rec_octets r)
rec-bytes r g zero = g.kind
rec-bytes r g (suc k) =
    octets-append (quad r.seconds) (length r.octets ∷ r.octets) (octets-quad r.seconds g.seconds)
    (octets-cons (length r.octets) r.octets (omega (arith, g.short)) g.octets)
    k

-- ---- there
readable-there : (r : Rec) (rest : List ℕ) → Good r → readable (rec_octets r ++ rest) ≡ true
unfolding readable
readable-there r rest g =
    let n = length r.octets in
    let e = length-append r.octets rest in
    let h : 6 ≤ length (rec_octets r ++ rest) = omega arith in
    let k : 6 + n ≤ length (rec_octets r ++ rest) = omega (arith, e) in
    rw (le-leb 6 _ h, le-leb n 129 g.short, le-leb (6 + n) _ k)

rec-there : (r : Rec) (rest : List ℕ) → Good r → rec_first (rec_octets r ++ rest) ≡ one r rest
unfolding rec_first
rec-there r rest g =
    let n = length r.octets in
    let e : 6 + n ≡ suc (suc (suc (suc (suc (suc n))))) = omega arith in
    let z : (length (rec_octets r ++ rest) ≡ 0 → ⊥) = λ f. omega (arith, f) in
    rw (ne_eqb _ 0 z, readable-there r rest g, e, take-append_seam r.octets rest, drop-append_seam r.octets rest, quad-word r.seconds)

-- ---- back
abbrev size : List ℕ → ℕ
size p = get_or p 5 0

abbrev front : List ℕ → Rec
front p = rec (get_or p 0 0) (word_at p 1) (take (size p) (drop 6 p))

not_none : (c : Bool) (r : Rec) (rest : List ℕ) → pick c (one r rest) cut ≡ none → ⊥
not_none true r rest e = let z : ◌≡◌ {A = ℕ} 0 1 = cc in omega arith
not_none false r rest e = let z : ◌≡◌ {A = ℕ} 0 1 = cc in omega arith

rec-done : (p : List ℕ) → rec_first p ≡ none → p ≡ []
unfolding rec_first
rec-done [] e = refl
rec-done (x ∷ p) e = absurd (not_none (readable (x ∷ p)) (front (x ∷ p)) (drop (6 + size (x ∷ p)) (x ∷ p)) (rw (ne_eqb (length (x ∷ p)) 0 (λ f. omega (arith, f))) at e))

pub record Held (p : List ℕ) : Type 0 where
  pub six : 6 ≤ length p
  pub short : get_or p 5 0 ≤ 129
  pub all : 6 + get_or p 5 0 ≤ length p

pub held : (p : List ℕ) → readable p ≡ true → Held p
unfolding readable
held p e =
    let x = both_true _ _ e in
    let y = both_true _ _ x.1 in
    record { six = leb-true _ _ x.0; short = leb-true _ _ y.0; all = leb-true _ _ y.1 }

module _ (p : List ℕ) (o : Octets p) (h : Held p) where
  abbrev sz : ℕ
  sz = get_or p 5 0

  size_is : length (take sz (drop 6 p)) ≡ sz
  size_is = length-take-le sz (drop 6 p) (omega (arith, length-drop 6 p, h.all))

  front-good : Good (front p)
  front-good =
      record {
        kind = o 0;
        seconds = omega (arith, o 1, o 2, o 3, o 4);
        short = omega (arith, size_is, h.short);
        octets = octets-take sz (drop 6 p) (octets-drop 6 p o);
      }

  front-is : p ≡ rec_octets (front p) ++ drop (6 + sz) p
  front-is =
      six p h.six
      ∙ ap (λ (l : List ℕ). get_or p 0 0 ∷ get_or p 1 0 ∷ get_or p 2 0 ∷ get_or p 3 0 ∷ get_or p 4 0 ∷ sz ∷ l)
      (sym (take-append-drop sz (drop 6 p)) ∙ ap (λ (l : List ℕ). take sz (drop 6 p) ++ l) (drop-drop sz 6 p))
      ∙ ap (λ (l : List ℕ). get_or p 0 0 ∷ (l ++ (sz ∷ (take sz (drop 6 p) ++ drop (6 + sz) p)))) (sym (word-quad _ _ _ _ (o 2) (o 3) (o 4)))
      ∙ ap (λ (k : ℕ). get_or p 0 0 ∷ (quad (word_at p 1) ++ (k ∷ (take sz (drop 6 p) ++ drop (6 + sz) p)))) (sym size_is)

module _ (p rest : List ℕ) (r : Rec) (o : Octets p) where
  rec-back-by : (c d : Bool) → readable p ≡ d → pick c none (pick d (one (front p) (drop (6 + size p) p)) cut) ≡ one r rest → Good r × (p ≡ rec_octets r ++ rest)
  rec-back-by true d f g = let z : ◌≡◌ {A = ℕ} 0 1 = cc in absurd (omega arith)
  rec-back-by false true f g =
      let u : front p ≡ r = cc in
      let v : drop (6 + size p) p ≡ rest = cc in
      let h = held p f in
      (subst Good u (front-good p o h), front-is p o h ∙ ap (λ (x : Rec). rec_octets x ++ drop (6 + size p) p) u ∙ ap (λ (l : List ℕ). rec_octets r ++ l) v)
  rec-back-by false false f g = let z : ◌≡◌ {A = ℕ} 0 1 = cc in absurd (omega arith)

  rec-back : rec_first p ≡ one r rest → Good r × (p ≡ rec_octets r ++ rest)
  unfolding rec_first
  rec-back e = rec-back-by (eqb (length p) 0) (readable p) refl e

rec-shorter-by : (p rest : List ℕ) (r : Rec) (c d : Bool) → readable p ≡ d → pick c none (pick d (one (front p) (drop (6 + size p) p)) cut) ≡ one r rest
    → length rest < length p
rec-shorter-by p rest r true d f g = let z : ◌≡◌ {A = ℕ} 0 1 = cc in absurd (omega arith)
rec-shorter-by p rest r false true f g =
    let v : rest ≡ drop (6 + size p) p = cc in
    omega (arith, ap length v, length-drop (6 + size p) p, (held p f).six)
rec-shorter-by p rest r false false f g = let z : ◌≡◌ {A = ℕ} 0 1 = cc in absurd (omega arith)

rec-shorter : (p rest : List ℕ) (r : Rec) → rec_first p ≡ one r rest → length rest < length p
unfolding rec_first
rec-shorter p rest r e = rec-shorter-by p rest r (eqb (length p) 0) (readable p) refl e

pub lawful-one : Lawful form_one Good
unfolding rec_first
lawful-one =
    record {
      some = λ r g. omega arith;
      room = λ r g. omega (arith, g.short);
      bytes = rec-bytes;
      there = rec-there;
      empty = refl;
      shorter = rec-shorter;
      done = rec-done;
      back = λ p rest r o e. rec-back p rest r o e;
    }
