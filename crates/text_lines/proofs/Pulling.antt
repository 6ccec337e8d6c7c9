-- The turns of the reader, as laws. Assumes nothing.
use mathlib.Core.Path.{◌≡◌, refl, sym, ap, subst, ◌∙◌}
use mathlib.Core.Bool.{Bool, true, false}
use mathlib.Core.List.{List, [], ◌∷◌, ◌++◌, append-nil, append_assoc}
use mathlib.Core.Logic.{⊎_elim, ◌⊎◌}
use Prim.Native.Nat.{ℕ, suc, ◌≤◌, ◌<◌}
use native.Mathlib.Nat.{min-le_right}
use native.Mathlib.Omega.{arith}
use lib.Dec.{ltb}
use lib.ListN.{length, take, drop, set, length-set, length-take}
use lib.Seq.{take_all, take_at, take-suc-set, length-take-le, drop-drop}
use Rattle.text.specs.Text.{pick}
use Rattle.text.specs.Page.{Page, page, wrote, Writes}
use Rattle.text.proofs.Laws.{le-or-lt, put_full, take_min}
use Rattle.text.proofs.Pages.{put-fits}
use Rattle.text_lines.specs.Lines.{gathered, Gathers}
use Rattle.text_lines.specs.Inputs.{Shows}
use Rattle.text_lines.specs.declared.gather.Gathered.{Gathered}
use Rattle.text_lines.specs.declared.input.Input.{Input}
use Rattle.text_lines.specs.Pulls.{Left, left, left_of, kept_with, Pulled, ends, goes_on, closes, stops, Brought, shut, Starts, Extends}
use Rattle.text_lines.specs.declared.input.Line.{Line}

-- what stands before the pen after the text t was written behind the first a octets of l
abbrev Keeps : List ℕ → ℕ → List ℕ → Page → Type 0
Keeps l a t q = (take q.at q.octets ≡ take (length l) (take a l ++ t)) × (a ≤ length l → q.at ≤ length l)

kept-text : (l : List ℕ) (a : ℕ) (t : List ℕ) → Keeps l a t (wrote (page l a) t)
kept-text l a [] = (rw append-nil (sym (take_all (length l) (take a l) (rw (length-take a l) (min-le_right a (length l))))), λ h. h)
kept-text l a (x ∷ t) =
    ⊎_elim
    (λ (full : length l ≤ a).
    let n : length (take a l) ≡ length l = ap (λ (z : List ℕ). length z) (take_all a l full) in
    let k = kept-text l a t in
    subst (λ (p : Page). Keeps l a (x ∷ t) (wrote p t)) (sym (put_full l a x full))
    (k.0 ∙ take_at (take a l) t (length l) n ∙ sym (take_at (take a l) (x ∷ t) (length l) n), k.1))
    (λ (room : a < length l).
    let k = kept-text (set l a x) (suc a) t in
    let n = length-set l a x in
    subst (λ (p : Page). Keeps l a (x ∷ t) (wrote p t)) (sym (put-fits l a x room))
    (k.0 ∙ rw (n, take-suc-set l a x room) (ap (take (length l)) (append_assoc (take a l) (x ∷ []) t)), λ h. rw n at (k.1 (rw n room))))
    (le-or-lt (length l) a)

pub kept-written : {l m : List ℕ} {a b : ℕ} {t : List ℕ} → Writes (page l a) t (page m b) → (take b m ≡ take (length l) (take a l ++ t)) × (a ≤ length l → b ≤ length l)
kept-written {l} {m} {a} {b} {t} w = subst (λ (q : Page). Keeps l a t q) (sym w.is) (kept-text l a t)

-- what `extend` makes of a piece
module _ (l : Line) (chunk line out : List ℕ) (n : ℕ) (g : Gathered) (s : Shows l.input.count chunk n)
    (h : Gathers (take n chunk) l.input.from (page line l.len) g (page out g.len)) (fits : l.len ≤ length line) (same : length out ≡ length line) where
  whole : Gathers (take l.input.count chunk) l.input.from (page line l.len) g (page out g.len)
  whole = subst (λ (c : List ℕ). Gathers c l.input.from (page line l.len) g (page out g.len)) (ap (λ (z : ℕ). take z chunk) s.is ∙ take_min l.input.count chunk) h

  pub piece-extends : (f : Bool) → f ≡ pick g.ended true (pick l.input.«open» false (ltb 0 g.len))
      → Extends l chunk line (record { input = record { from = g.next; count = l.input.count; «open» = l.input.«open» }; at = l.at; len = g.len; found = f; failed = l.failed }) out
  piece-extends f e =
      let k = kept-written whole.kept_is in
      let in-line = k.1 fits in
      record {
        kept_is = k.0;
        left_is = ap (left l.input.«open») (ap (λ (z : ℕ). drop z (take l.input.count chunk)) whole.next_is ∙ sym (drop-drop _ l.input.from (take l.input.count chunk)));
        found_is = e ∙ ap (λ (b : Bool). pick b true (pick l.input.«open» false (ltb 0 g.len))) whole.ended_is;
        within = omega arith;
        at_is = refl;
        failed_is = refl;
      }

-- extending a line leaves its input as open as it was
pub as-open : {l r : Line} {chunk line out : List ℕ} → Extends l chunk line r out → r.input.«open» ≡ l.input.«open»
as-open x = ap (λ (u : Left). u.more) x.left_is

-- what did not fail did not fail
pub no-failure : {A : Type 0} {b : Bool} → b ≡ false → b ≡ true → A
no-failure e f = let z : ◌≡◌ {A = Bool} true false = sym f ∙ e in let y : ◌≡◌ {A = ℕ} 0 1 = cc in absurd (omega arith)

-- the line so far, extended by the piece
module _ {l r : Line} {chunk line out : List ℕ} (most : ℕ) (size : length line ≡ most) (x : Extends l chunk line r out) where
  abbrev p : List ℕ
  p = (left_of l.input chunk).piece

  abbrev k : List ℕ
  k = take l.len line

  kept : take r.len out ≡ kept_with most k p
  kept = x.kept_is ∙ ap (λ (n : ℕ). kept_with n k p) size

  long : length (kept_with most k p) ≡ r.len
  long = ap (λ (z : List ℕ). length z) (sym kept) ∙ length-take-le r.len out x.within

  abbrev Done : Type 0
  Done = Brought most k (left_of l.input chunk) (take r.len out) r.found (left_of r.input chunk)

  done-as : (w : List ℕ) (f : Bool) (a : Left) → take r.len out ≡ w → r.found ≡ f → left_of r.input chunk ≡ a → Pulled most k (left_of l.input chunk) [] w f a → Done
  done-as w f a e g h d = rw (e, g, h) (record { text = []; pulled = d })

  -- it is done where it is found, or where nothing more is read
  pub pull-done : (r.found ≡ true) ⊎ (r.input.«open» ≡ false) → Done
  pull-done h = go (gathered p).ended l.input.«open» refl refl
    where
      go : (b o : Bool) → (gathered p).ended ≡ b → l.input.«open» ≡ o → Done
      go true o e f = done-as _ true _ kept (x.found_is ∙ rw e) x.left_is (ends e)
      go false false e f = done-as _ (ltb 0 (length (kept_with most k p))) _ kept (x.found_is ∙ rw (e, f, long)) x.left_is (rw f (stops e))
      go false true e f =
          ⊎_elim
          (λ (g : r.found ≡ true). let z : ◌≡◌ {A = Bool} true false = sym g ∙ x.found_is ∙ rw (e, f) in let y : ◌≡◌ {A = ℕ} 0 1 = cc in absurd (omega arith))
          (λ (g : r.input.«open» ≡ false). let z : ◌≡◌ {A = Bool} true false = sym f ∙ sym (as-open x) ∙ g in let y : ◌≡◌ {A = ℕ} 0 1 = cc in absurd (omega arith))
          h

  -- otherwise it goes on in the next piece
  pub pull-more : r.found ≡ false → r.input.«open» ≡ true → (next : Left) (w : List ℕ) (f : Bool) (a : Left) → Brought most (take r.len out) next w f a
      → Brought most k (left_of l.input chunk) w f a
  pull-more g h next w f a d = go (gathered p).ended refl
    where
      is_open : l.input.«open» ≡ true
      is_open = sym (as-open x) ∙ h

      go : (b : Bool) → (gathered p).ended ≡ b → Brought most k (left_of l.input chunk) w f a
      go true e = let z : ◌≡◌ {A = Bool} true false = sym (x.found_is ∙ rw e) ∙ g in let y : ◌≡◌ {A = ℕ} 0 1 = cc in absurd (omega arith)
      go false e = rw is_open (record { text = next.piece ++ d.text; pulled = goes_on next e (rw kept at d.pulled) })

-- an input can close at any time
pub pull-shut : {most : ℕ} {k p w : List ℕ} {f : Bool} {a : Left} (m : Bool) → Brought most k (left false p) w f a → Brought most k (left m p) w f a
pull-shut true d = record { text = d.text; pulled = closes d.pulled }
pull-shut false d = d

pub pull-start : {most : ℕ} {w : List ℕ} {f : Bool} {a : Left} {i : Input} {l : Line} (line chunk : List ℕ) → Starts i l → Brought most (take l.len line) (left_of l.input chunk) w f a
    → Brought most [] (left_of i chunk) w f a
pull-start {most} {w} {f} {a} {i} {l} line chunk s d =
    let e : Brought most [] (left_of l.input chunk) w f a = rw s.empty at d in
    ⊎_elim
    (λ (q : l.input ≡ i). rw q at e)
    (λ (q : l.input ≡ shut i). pull-shut i.«open» (rw q at e))
    s.input_is
