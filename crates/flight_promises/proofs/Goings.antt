-- What the entries of an answer send, one after the other. Assumes nothing.
use mathlib.Core.Path.{◌≡◌, refl, sym, ap, ◌∙◌}
use mathlib.Core.Bool.{Bool, true, false}
use mathlib.Core.List.{List, [], ◌∷◌, ◌++◌, append-nil, append_assoc}
use mathlib.Core.Logic.{⊎_elim}
use Prim.Native.Nat.{ℕ, zero, suc, ◌+◌, ◌-◌, ◌≤◌, ◌<◌}
use native.Mathlib.Omega.{arith}
use borrow.Author.Tests.{lt-leb, le-ltb}
use lib.Dec.{leb, ltb}
use lib.ListN.{length, take, get_or, replicate, length-append}
use lib.Seq.{take_all, take_at, take-append_seam}
use Rattle.text.specs.Text.{pick, both}
use Rattle.text.proofs.Laws.{le-or-lt}
use Rattle.link.specs.Names.{timers}
use Rattle.link.specs.Acts.{acts, pushed, pushed_all, one}
use Rattle.link.specs.Clock.{stops_of}
use Rattle.link.specs.Step.{acts_of}
use Rattle.link.specs.declared.acts.Acts.{Acts}
use Rattle.link.specs.declared.moves.Move.{Move}
use Rattle.link.proofs.Laws.{pushed-list}
use Rattle.script.specs.Entries.{goes}

-- each entry that goes passes a test with its octets: the first one with s, those after it with none
abbrev pub all_go : (ℕ → List ℕ → Bool) → List ℕ → List ℕ → Bool
all_go f [] s = true
all_go f (c ∷ cs) s = pick (goes c) (both (f c s) (all_go f cs [])) (all_go f cs s)

-- the octets that are left after them
abbrev pub left_over : List ℕ → List ℕ → List ℕ
left_over [] s = s
left_over (c ∷ cs) s = pick (goes c) (left_over cs []) (left_over cs s)

pub both-on : (a b d : Bool) → (b ≡ true → d ≡ true) → both a b ≡ true → both a d ≡ true
both-on true b d f h = f h
both-on false b d f h = h

go-take : (f : ℕ → List ℕ → Bool) (n : ℕ) (es s : List ℕ) → all_go f es s ≡ true → all_go f (take n es) s ≡ true
go-take f zero es s h = refl
go-take f (suc n) [] s h = refl
go-take f (suc n) (c ∷ es) s h = go (goes c) (go-take f n es) h
  where
    go : (b : Bool) → ((u : List ℕ) → all_go f es u ≡ true → all_go f (take n es) u ≡ true) → pick b (both (f c s) (all_go f es [])) (all_go f es s) ≡ true
        → pick b (both (f c s) (all_go f (take n es) [])) (all_go f (take n es) s) ≡ true
    go true more e = both-on (f c s) (all_go f es []) (all_go f (take n es) []) (more []) e
    go false more e = more s e

-- the entries pass with the octets s, and t is left
pub record Sends (f : ℕ → List ℕ → Bool) (es s t : List ℕ) : Type 0 where
  pub pass : all_go f es s ≡ true
  pub left : left_over es s ≡ t

module _ (f : ℕ → List ℕ → Bool) where
  pub nothing : (s : List ℕ) → Sends f [] s s
  nothing s = record { pass = refl; left = refl }

  then-pass : (a b s : List ℕ) → all_go f a s ≡ true → all_go f b (left_over a s) ≡ true → all_go f (a ++ b) s ≡ true
  then-pass [] b s p q = q
  then-pass (c ∷ a) b s p q = go (goes c) (then-pass a b) p q
    where
      go : (x : Bool) → ((u : List ℕ) → all_go f a u ≡ true → all_go f b (left_over a u) ≡ true → all_go f (a ++ b) u ≡ true)
          → pick x (both (f c s) (all_go f a [])) (all_go f a s) ≡ true → all_go f b (pick x (left_over a []) (left_over a s)) ≡ true
          → pick x (both (f c s) (all_go f (a ++ b) [])) (all_go f (a ++ b) s) ≡ true
      go true more p q = both-on (f c s) (all_go f a []) (all_go f (a ++ b) []) (λ r. more [] r q) p
      go false more p q = more s p q

  then-left : (a b s : List ℕ) → left_over (a ++ b) s ≡ left_over b (left_over a s)
  then-left [] b s = refl
  then-left (c ∷ a) b s = go (goes c) (then-left a b)
    where
      go : (x : Bool) → ((u : List ℕ) → left_over (a ++ b) u ≡ left_over b (left_over a u)) → pick x (left_over (a ++ b) []) (left_over (a ++ b) s) ≡ left_over b (pick x (left_over a []) (left_over a s))
      go true more = more []
      go false more = more s

  pub after : {a b s t u : List ℕ} → Sends f a s t → Sends f b t u → Sends f (a ++ b) s u
  after {a} {b} {s} {t} {u} p q =
      record {
        pass = then-pass a b s p.pass (ap (all_go f b) p.left ∙ q.pass);
        left = then-left a b s ∙ ap (left_over b) p.left ∙ q.left;
      }

  -- an entry past 4 does not go
  far : (c : ℕ) → 4 < c → goes c ≡ false
  far c h = rw (lt-leb c 4 h) (no (leb 1 c))
    where
      no : (b : Bool) → both b false ≡ false
      no true = refl
      no false = refl

  pub stays : (b : Bool) (c : ℕ) (s : List ℕ) → 4 < c → Sends f (one b c) s s
  stays true c s h = record { pass = rw (far c h); left = rw (far c h) }
  stays false c s h = nothing s

  pub goes_one : (c : ℕ) (s : List ℕ) → goes c ≡ true → f c s ≡ true → Sends f (c ∷ []) s []
  goes_one c s g h = record { pass = rw (g, h); left = rw g }

  -- an entry that is there or not
  pub goes-if : (b : Bool) (c : ℕ) (s : List ℕ) → goes c ≡ true → f c s ≡ true → Sends f (one b c) s (pick b [] s)
  goes-if true c s g h = goes_one c s g h
  goes-if false c s g h = nothing s

  pub stops-stay : (n : ℕ) (left s : List ℕ) → Sends f (stops_of n left) s s
  unfolding stops_of
  stops-stay zero left s = nothing s
  stops-stay (suc t) left s = after (stops-stay t left s) (stays (leb 1 (get_or left t 0)) (16 + t) s (omega arith))

  -- a move: the entry for what it sends, if it does
  pub move-goes : (m : Move) (entry : ℕ) (s t : List ℕ) → Sends f (one m.send entry) s t → Sends f (acts_of m entry) s t
  unfolding acts_of
  move-goes m entry s t h =
      let a = after (stays (ltb m.stop timers) (16 + m.stop) s (omega arith)) (stays m.ind 5 s (omega arith)) in
      after (after a h) (stays (ltb m.start timers) (32 + m.start) t (omega arith))

-- no list has more than 8 entries
pushed-full : (l : List ℕ) (x : ℕ) → 8 ≤ length l → pushed (acts l) x ≡ acts l
unfolding pushed acts
pushed-full l x h = rw (le-ltb (length l) 8 h)

pushed-cut : (l xs : List ℕ) → length l ≤ 8 → pushed_all (acts l) xs ≡ acts (take 8 (l ++ xs))
unfolding pushed_all
pushed-cut l [] h = ap acts (sym (ap (take 8) (append-nil l) ∙ take_all 8 l h))
pushed-cut l (x ∷ xs) h =
    ⊎_elim
    (λ (g : 8 ≤ length l). let e : length l ≡ 8 = omega arith in
    ap (λ (a : Acts). pushed_all a xs) (pushed-full l x g) ∙ pushed-cut l xs h ∙ ap acts (take_at l xs 8 e ∙ sym (take_at l (x ∷ xs) 8 e)))
    (λ (g : length l < 8).
    ap (λ (a : Acts). pushed_all a xs) (pushed-list l (x ∷ []) (omega arith))
    ∙ pushed-cut (l ++ (x ∷ [])) xs (omega (arith, length-append l (x ∷ []))) ∙ ap (λ (r : List ℕ). acts (take 8 r)) (append_assoc l (x ∷ []) xs))
    (le-or-lt 8 (length l))

acts-list : (l : List ℕ) → take (acts l).n (acts l).list ≡ l
unfolding acts
acts-list l = take-append_seam l (replicate (8 - length l) 0)

-- what an answer's actions send
pub acts-go : (f : ℕ → List ℕ → Bool) {a : Acts} {es s t : List ℕ} → a ≡ pushed_all (acts []) es → Sends f es s t → all_go f (take a.n a.list) s ≡ true
acts-go f {a} {es} {s} e h =
    ap (λ (x : Acts). all_go f (take x.n x.list) s) (e ∙ pushed-cut [] es (omega arith))
    ∙ ap (λ (x : List ℕ). all_go f x s) (acts-list (take 8 es)) ∙ go-take f 8 es s h.pass
