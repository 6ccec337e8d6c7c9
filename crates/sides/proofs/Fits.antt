-- What the one test says: at any states that may stand, every row and every own move fits, few timers run, and where everything rests none. Assumes nothing.
use mathlib.Core.Path.{◌≡◌, refl, subst, subst₂, sym, ap, ◌∙◌}
use mathlib.Core.Bool.{Bool, true, false, not}
use mathlib.Core.List.{List, [], ◌∷◌}
use Prim.Native.Nat.{ℕ, suc, ◌+◌, ◌-◌, ◌*◌, ◌<◌, ◌≤◌}
use native.Mathlib.Omega.{arith}
use lib.Dec.{T, leb, eqb, leb→le, eqb→eq, nleb→lt, lit<}
use native.Mathlib.Nat.{le_trans}
use lib.ListN.{length, get_or, set}
use lib.Seq.{get_or-set_other}
use borrow.Author.Tests.{eqb-true, eqb-false, le-leb, lt-leb}
use Rattle.link.specs.Tests.{both, either, pick, below}
use Rattle.link.specs.Names.{timers, EM}
use Rattle.link.specs.Watch.{runs, state_ok}
use Rattle.link.specs.Moves.{Row, look, still, unlisted, move_in, does_go}
use Rattle.link.specs.Step.{rest_at}
use Rattle.link.specs.declared.moves.Move.{Move}
use Rattle.link.proofs.Laws.{both_left, both_right, below_at, no_true}
use Rattle.sides.specs.Tables.{Own, Tables, states_ok, move_of, same, on_through, after_move, timer_fits, member, all_of, near, apart, near_fits, balanced, fits, vectors, rows_fit, groups_fit, owns_fit, count, states_fit, rest_fits, all_fit}

-- a test that passes at each states passes at any
all-vectors : (ns : List ℕ) (f : List ℕ → Bool) → T (vectors ns f) → (l : List ℕ) → length l ≡ length ns
    → ((k : ℕ) → k < length ns → get_or l k 0 ≤ get_or ns k 0) → T (f l)
all-vectors [] f t [] e h = t
all-vectors [] f t (x ∷ xs) e h = absurd (omega arith)
all-vectors (n ∷ ns) f t [] e h = absurd (omega arith)
all-vectors (n ∷ ns) f t (x ∷ xs) e h =
    let q : x ≤ n = h 0 (omega arith) in
    let u = below_at (suc n) (λ k. vectors ns (λ l. f (k ∷ l))) t x (omega arith) in
    all-vectors ns (λ l. f (x ∷ l)) u xs (omega arith) (λ k lt. h (suc k) (omega arith))

look-fits : (b : Tables) (at : List ℕ) (k e : ℕ) → 16 * k ≤ e → (rs : List Row) (other : Move) → T (rows_fit b at k rs) → T (fits b at e other)
    → T (fits b at e (look rs (get_or at k 0) (e - 16 * k) other))
look-fits b at k e h [] other t o = o
look-fits b at k e h (r ∷ rs) other t o =
    pick-both (eqb (get_or at k 0) r.state) (eqb (e - 16 * k) r.event) refl (both_left first (rows_fit b at k rs) t)
    (look-fits b at k e h rs other (both_right first (rows_fit b at k rs) t) o)
  where
    first : Bool
    first = pick (eqb (get_or at k 0) r.state) (fits b at (16 * k + r.event) r.does) true

    same-event : eqb (e - 16 * k) r.event ≡ true → 16 * k + r.event ≡ e
    same-event q = let z = eqb-true (e - 16 * k) r.event q in omega arith

    pick-both : (x y : Bool) → eqb (e - 16 * k) r.event ≡ y → T (pick x (fits b at (16 * k + r.event) r.does) true)
        → T (fits b at e (look rs (get_or at k 0) (e - 16 * k) other)) → T (fits b at e (pick (both x y) r.does (look rs (get_or at k 0) (e - 16 * k) other)))
    pick-both true true q u v = subst (λ (n : ℕ). T (fits b at n r.does)) (same-event q) u
    pick-both true false q u v = v
    pick-both false y q u v = v

still-fits : (b : Tables) (at : List ℕ) (e f : ℕ) → T (fits b at e (unlisted f))
unfolding fits
still-fits b at e f = go (leb f 3)
  where
    go : (x : Bool) → T (fits b at e (pick x (still 1) (still 3)))
    go true = tt
    go false = tt

groups-fit : (b : Tables) (at : List ℕ) (k : ℕ) (rss : List (List Row)) (e : ℕ) → 16 * k ≤ e → T (groups_fit b at k rss) → T (fits b at e (move_in k rss at e))
groups-fit b at k [] e h t = still-fits b at e (e - 16 * k)
groups-fit b at k (rs ∷ rss) e h t =
    go (leb e (16 * k + 15)) refl (both_left (rows_fit b at k rs) (groups_fit b at (k + 1) rss) t)
    (λ lt. groups-fit b at (k + 1) rss e lt (both_right (rows_fit b at k rs) (groups_fit b at (k + 1) rss) t))
  where
    past : leb e (16 * k + 15) ≡ false → 16 * (k + 1) ≤ e
    past q = let z = nleb→lt e (16 * k + 15) (subst (λ (x : Bool). T (not x)) (sym q) tt) in omega arith

    go : (x : Bool) → leb e (16 * k + 15) ≡ x → T (rows_fit b at k rs) → (16 * (k + 1) ≤ e → T (fits b at e (move_in (k + 1) rss at e)))
        → T (fits b at e (pick x (look rs (get_or at k 0) (e - 16 * k) (unlisted (e - 16 * k))) (move_in (k + 1) rss at e)))
    go true q u f = look-fits b at k e h rs (unlisted (e - 16 * k)) u (still-fits b at e (e - 16 * k))
    go false q u f = f (past q)

-- the own moves, each at the states at which it may
abbrev pub OwnsFit : Tables → List ℕ → List Own → Type 0
OwnsFit b at [] = Unit {0}
OwnsFit b at (o ∷ os) = (T (o.may at) → T (balanced b at o.does)) × OwnsFit b at os

owns-fit : (b : Tables) (at : List ℕ) (os : List Own) → T (owns_fit b at os) → OwnsFit b at os
owns-fit b at [] t = tt
owns-fit b at (o ∷ os) t =
    (go (o.may at) (both_left (pick (o.may at) (balanced b at o.does) true) (owns_fit b at os) t), owns-fit b at os (both_right (pick (o.may at) (balanced b at o.does) true) (owns_fit b at os) t))
  where
    go : (x : Bool) → T (pick x (balanced b at o.does) true) → T x → T (balanced b at o.does)
    go true u v = u
    go false u v = absurd v

four : (a b c d : Bool) → T (both a (both b (both c d))) → T a × T b × T c × T d
four a b c d t =
    let u = both_right a (both b (both c d)) t in
    let v = both_right b (both c d) u in
    (both_left a (both b (both c d)) t, both_left b (both c d) u, both_left c d v, both_right c d v)

five : (a b c d e : Bool) → T (both a (both b (both c (both d e)))) → T a × T b × T c × T d × T e
five a b c d e t =
    let u = four b c d e (both_right a (both b (both c (both d e))) t) in
    (both_left a (both b (both c (both d e))) t, u.0, u.1, u.2, u.3)

pick_true : (x y : Bool) → T (pick x y true) → T x → T y
pick_true true y t u = t
pick_true false y t u = absurd u

all-member : (f : ℕ → Bool) (x : ℕ) (l : List ℕ) → T (all_of f l) → member x l ≡ true → T (f x)
all-member f x [] t e = absurd (no_true (sym e))
all-member f x (y ∷ ys) t e = go (eqb x y) refl (both_left (f y) (all_of f ys) t) e (λ q. all-member f x ys (both_right (f y) (all_of f ys) t) q)
  where
    go : (z : Bool) → eqb x y ≡ z → T (f y) → either z (member x ys) ≡ true → (member x ys ≡ true → T (f x)) → T (f x)
    go true p u q h = subst (λ (n : ℕ). T (f n)) (sym (eqb-true x y p)) u
    go false p u q h = h q

not-eq : (x : Bool) → T (not x) → x ≡ false
not-eq true t = absurd t
not-eq false t = refl

pub same-eq : (a b : Bool) → T (same a b) → a ≡ b
same-eq true true t = refl
same-eq true false t = absurd t
same-eq false true t = absurd t
same-eq false false t = refl

state-le : (b : Tables) (at : List ℕ) → T (states_ok b at) → get_or at EM 0 ≤ get_or b.tops EM 0
unfolding states_ok state_ok
state-le b at ok = leb→le _ _ (below_at 5 (state_ok b.tops at) (both_left (below 5 (state_ok b.tops at)) (b.together at) ok) 3 (lit< tt))

-- a move of a module that is apart from a timer does not matter to it
runs-apart : (b : Tables) (at : List ℕ) (who to t : ℕ) → T (apart b who t) → T (states_ok b at) → T (states_ok b (set at who to))
    → runs b.watch t (set at who to) ≡ runs b.watch t at
unfolding runs apart
runs-apart b at who to t a ok ok' =
    rw (get_or-set_other at who w to 0 (eqb-false w who (not-eq (eqb w who) (both_left (not (eqb w who)) rest a))), em (eqb EM who) refl (both_left look (not (eqb who (b.changer t))) (both_right (not (eqb w who)) rest a)))
  where
    w : ℕ
    w = get_or b.watch.who t 0

    look : Bool
    look = pick (eqb EM who) (leb (get_or b.tops EM 0) (get_or b.watch.em t 0)) true

    rest : Bool
    rest = both look (not (eqb who (b.changer t)))

    em : (x : Bool) → eqb EM who ≡ x → T (pick x (leb (get_or b.tops EM 0) (get_or b.watch.em t 0)) true)
        → leb (get_or (set at who to) EM 0) (get_or b.watch.em t 0) ≡ leb (get_or at EM 0) (get_or b.watch.em t 0)
    em true p u =
        let h = leb→le _ _ u in
        le-leb _ _ (le_trans (state-le b (set at who to) ok') h) ∙ sym (le-leb _ _ (le_trans (state-le b at ok) h))
    em false p u = ap (λ (x : ℕ). leb x (get_or b.watch.em t 0)) (get_or-set_other at who EM to 0 (eqb-false EM who p))

pub balanced-states : (b : Tables) (at : List ℕ) (m : Move) → T (balanced b at m) → T (states_ok b (set at m.who m.to))
unfolding balanced
balanced-states b at m t =
    let ok = states_ok b (set at m.who m.to) in
    let rest = both (either (leb timers m.start) (member m.start (near b m.who))) (both (either (leb timers m.stop) (member m.stop (near b m.who))) (all_of (timer_fits b at m) (near b m.who))) in
    both_left ok rest (both_right (leb m.who 4) (both ok rest) t)

-- a timer that is none of the near ones is neither started nor stopped
not-near : (t x : ℕ) (l : List ℕ) → t < timers → member t l ≡ false → T (either (leb timers x) (member x l)) → eqb t x ≡ false
not-near t x l h e u = go (eqb t x) refl
  where
    no : eqb t x ≡ true → ⊥
    no q =
        let v = subst (λ (n : ℕ). T (either (leb timers n) (member n l))) (sym (eqb-true t x q)) u in
        subst₂ (λ (y z : Bool). T (either y z)) (lt-leb timers t h) e v

    go : (y : Bool) → eqb t x ≡ y → eqb t x ≡ false
    go true q = absurd (no q)
    go false q = q

-- what a balanced move is to each timer
pub record Timed (b : Tables) (at : List ℕ) (m : Move) (t : ℕ) : Type 0 where
  pub agrees : runs b.watch t (set at m.who m.to) ≡ after_move b.watch at m t
  pub steady : eqb m.who (b.changer t) ≡ true → on_through b.watch at m t ≡ true → ⊥

module _ (b : Tables) (test : T (all_fit b)) where
  tests : T (eqb (length b.tops) 5) × T (below 5 (near_fits b)) × T (vectors b.tops (states_fit b)) × T (below (suc (get_or b.tops 4 0)) (rest_fits b))
  unfolding all_fit
  tests =
      four (eqb (length b.tops) 5) (below 5 (near_fits b)) (vectors b.tops (states_fit b)) (below (suc (get_or b.tops 4 0)) (rest_fits b)) test

  tops-five : length b.tops ≡ 5
  tops-five = eqb→eq _ 5 tests.0

  pub timed : (at : List ℕ) (m : Move) → T (states_ok b at) → T (balanced b at m) → (t : ℕ) → t < timers → Timed b at m t
  unfolding balanced near_fits timer_fits apart
  timed at m ok bal t h = go (member t (near b m.who)) refl (below_at timers (λ k. either (member k (near b m.who)) (apart b m.who k)) (below_at 5 (near_fits b) tests.1 m.who who-five) t h)
    where
      parts : T (leb m.who 4) × T (states_ok b (set at m.who m.to)) × T (either (leb timers m.start) (member m.start (near b m.who))) × T (either (leb timers m.stop) (member m.stop (near b m.who))) × T (all_of (timer_fits b at m) (near b m.who))
      parts =
          five (leb m.who 4) (states_ok b (set at m.who m.to)) (either (leb timers m.start) (member m.start (near b m.who))) (either (leb timers m.stop) (member m.stop (near b m.who))) (all_of (timer_fits b at m) (near b m.who)) bal

      who-five : m.who < 5
      who-five = let k = leb→le m.who 4 parts.0 in omega arith

      agree : Bool
      agree = same (runs b.watch t (set at m.who m.to)) (after_move b.watch at m t)

      changes : Bool
      changes = pick (eqb m.who (b.changer t)) (not (on_through b.watch at m t)) true

      no_change : (x o : Bool) → T (pick x (not o) true) → x ≡ true → o ≡ true → ⊥
      no_change true true u p q = u
      no_change true false u p q = no_true (sym q)
      no_change false o u p q = no_true (sym p)

      untimed : (r a z : Bool) → a ≡ false → z ≡ false → r ≡ either a (both r (not z))
      untimed true a z p q = rw (p, q)
      untimed false a z p q = rw p

      go : (x : Bool) → member t (near b m.who) ≡ x → T (either x (apart b m.who t)) → Timed b at m t
      go true e u =
          let f = all-member (timer_fits b at m) t (near b m.who) parts.4 e in
          record {
            agrees = same-eq _ _ (both_left agree changes f);
            steady = no_change (eqb m.who (b.changer t)) (on_through b.watch at m t) (both_right agree changes f);
          }
      go false e u =
          record {
            agrees =
                runs-apart b at m.who m.to t u ok parts.1
                ∙ untimed (runs b.watch t at) (eqb t m.start) (eqb t m.stop) (not-near t m.start (near b m.who) h e parts.2) (not-near t m.stop (near b m.who) h e parts.3);
            steady = λ p q. no_true (sym p ∙ not-eq (eqb m.who (b.changer t)) (apart-change m.who u));
          }
        where
          apart-change : (who : ℕ) → T (apart b who t) → T (not (eqb who (b.changer t)))
          apart-change who v =
              let w = not (eqb (get_or b.watch.who t 0) who) in
              let look = pick (eqb EM who) (leb (get_or b.tops EM 0) (get_or b.watch.em t 0)) true in
              both_right look (not (eqb who (b.changer t))) (both_right w (both look (not (eqb who (b.changer t)))) v)

  -- where everything rests
  pub rest-fits : (li : ℕ) → T (b.rests li) → li ≤ get_or b.tops 4 0 → T (both (states_ok b (rest_at li)) (below timers (λ t. not (runs b.watch t (rest_at li)))))
  unfolding rest_fits
  rest-fits li r h = pick_true (b.rests li) _ (below_at (suc (get_or b.tops 4 0)) (rest_fits b) tests.3 li (omega arith)) r

  module _ (at : List ℕ) (len : length at ≡ 5) (ok : T (states_ok b at)) where
    states-fit : T (states_fit b at)
    unfolding states_ok state_ok
    states-fit =
        let u = both_left (below 5 (state_ok b.tops at)) (b.together at) ok in
        let five = tops-five in
        all-vectors b.tops (states_fit b) tests.2 at (omega arith)
        (λ k lt. leb→le _ _ (below_at 5 (state_ok b.tops at) u k (omega arith)))

    parts : T (pick (b.open_to at) (groups_fit b at 0 (b.rows at)) true) × T (owns_fit b at b.owns) × T (leb (count timers (λ t. runs b.watch t at)) 4)
    unfolding states_fit states_ok
    parts =
        let g = pick (b.open_to at) (groups_fit b at 0 (b.rows at)) true in
        let o = owns_fit b at b.owns in
        let few = leb (count timers (λ t. runs b.watch t at)) 4 in
        let u = pick_true (b.together at) (both g (both o few)) states-fit (both_right (below 5 (state_ok b.tops at)) (b.together at) ok) in
        let w = both_right g (both o few) u in
        (both_left g (both o few) u, both_left o few w, both_right o few w)

    -- every event's move fits, at states at which modules may move
    pub moves-fit : T (b.open_to at) → (e : ℕ) → T (fits b at e (move_of b at e))
    unfolding move_of
    moves-fit may e = groups-fit b at 0 (b.rows at) e (omega arith) (pick_true (b.open_to at) (groups_fit b at 0 (b.rows at)) parts.0 may)

    -- and so does the link module's own, each where it may
    pub own-moves-fit : OwnsFit b at b.owns
    own-moves-fit = owns-fit b at b.owns parts.1

    pub few-run : count timers (λ t. runs b.watch t at) ≤ 4
    few-run = leb→le _ 4 parts.2

pub goes-balanced : (b : Tables) (at : List ℕ) (e : ℕ) (m : Move) → does_go m ≡ true → T (fits b at e m) → T (balanced b at m) × T (b.also at e m)
unfolding fits
goes-balanced b at e m q t =
    let u = subst (λ (x : Bool). T (pick x (both (balanced b at m) (b.also at e m)) true)) q t in
    (both_left (balanced b at m) (b.also at e m) u, both_right (balanced b at m) (b.also at e m) u)
