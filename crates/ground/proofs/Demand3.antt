-- The ground link is a lawful side, so both sentences of demand 3 hold of it, over every sequence of calls from a fresh link. Assumes nothing.
use mathlib.Core.Path.{◌≡◌, refl, sym, subst, ap, ◌∙◌}
use mathlib.Core.Bool.{Bool, true, false, not}
use mathlib.Core.List.{List, [], ◌∷◌, ◌++◌}
use Prim.Native.Nat.{ℕ, ◌+◌, ◌<◌, ◌≤◌}
use native.Mathlib.Omega.{arith}
use lib.Dec.{T, eqb, lit≤, lit<}
use lib.ListN.{length, get_or, set, length-append}
use lib.Seq.{get_or-set_other}
use borrow.Author.Tests.{eq-eqb, eqb-true, eqb-false, le-leb}
use Rattle.link.specs.Tests.{both, either, below}
use Rattle.link.specs.Names.{timers, EC, PC, LI, DATA-REQUEST}
use Rattle.link.specs.Watch.{runs, setting_ok, idle, li_is}
use Rattle.link.specs.Acts.{pushed_all}
use Rattle.link.specs.Clock.{not_due}
use Rattle.link.specs.Step.{acts_of, performed, begun, added, stopped, rest_at}
use Rattle.link.specs.declared.moves.Move.{Move}
use Rattle.link.proofs.Laws.{both_left, both_right, both-T, eq-T, T-eq}
use Rattle.link.specs.Moves.{li_to, does_go}
use Rattle.sides.specs.Tables.{balanced}
use Rattle.sides.specs.Runs.{View, Sound, Part, stepped, steps, said_of, Loads, Fit, Fits, rested, Does, waits, plays, stops, after, total, Untouched, Watched}
use Rattle.sides.specs.Runs as runs_of
use Rattle.sides.proofs.Fits.{OwnsFit, own-moves-fit}
use Rattle.sides.proofs.Keeps.{good-states, stepped-sound, rested-sound}
use Rattle.sides.proofs.Stops.{short}
use Rattle.sides.proofs.Ways.{played-said, li-set, li-silent, went-room, first-fit, first-sound, second-goes, second-fit}
use Rattle.sides.proofs.Demand3 as sides
use Rattle.sides.proofs.Demand3.{Lawful}
use Rattle.ground_tables.specs.Names.{ACTIVE, EC1, EC2, LI-IDLE, LI-START, LI-ACTIVE, LI-END}
use Rattle.ground_tables.specs.Moves.{li_end, li_over}
use Rattle.ground_tables.specs.Watch.{ground_watch}
use Rattle.ground_tables.specs.Intervals.{interval_ok, intervals_ok, agreed, interval_row}
use Rattle.ground_tables.specs.Tables.{li_busy, ground_also, tops, ground_tables}
use Rattle.ground_tables.proofs.Fitting.{ground-fits}
use Rattle.ground_tables.proofs.KeptIntervals.{asks_well, intervals-kept, agreed-other, force-most}
use Rattle.ground_answer.specs.Record.{loads, view, good, fresh, followed, cleared, turned, move_at, agreed_at, went}
use Rattle.ground_answer.specs.declared.record.Link.{Link}
use Rattle.ground_answer.specs.Answers.{END-REQUEST, LATE}
use Rattle.ground_answer.specs.Aborts.{aborted, closed}
use Rattle.ground_answer.specs.Clock.{waited, elapsed}
use Rattle.ground.specs.Requests.{cancelled}
use Rattle.ground.specs.Arrivals.{late_data}
use Rattle.ground.specs.Endings.{over}
use Rattle.ground.specs.Runs.{answered, Made, reply, ground}
use Rattle.ground.specs.declared.call.Call.TheVariants.{Elapse}
use Rattle.ground.proofs.Keeps.{Fine, good-settings, good-intervals, fine-sound, make-fine, loads-one, fine-loads, loads-steady, fresh-fine}
use Rattle.ground.proofs.Stops.{closed-list, abort-list, cancel-list}
use Rattle.ground.proofs.Every.{Way, starts, stays_open, Kinds, every}

-- a move of the link, and the entry for what it sends
abbrev part : Link → Move → ℕ → Part
part l m send = record { move = m; send = send; most = loads l }

-- LI goes to k, then the tables' move with the new intervals, and then the end request
abbrev went_parts : Link → ℕ → ℕ → ℕ → ℕ → List Part
went_parts l k e n entry = part l (li_to k) 0 ∷ part (agreed_at l k e n) (move_at l k e) entry ∷ []

abbrev ended_parts : Link → ℕ → List Part
ended_parts l e =
    part l (li_to LI-ACTIVE) 0
    ∷ part (agreed_at l LI-ACTIVE e 0) (move_at l LI-ACTIVE e) DATA-REQUEST
    ∷ part (agreed_at l LI-ACTIVE e 0) li_end END-REQUEST
    ∷ []

busy-set : (at : List ℕ) (k : ℕ) → length at ≡ 5 → either (eqb k LI-START) (eqb k LI-ACTIVE) ≡ true → T (li_busy (set at LI k))
unfolding li_busy
busy-set at k n h = subst (λ (x : ℕ). T (either (eqb x LI-START) (eqb x LI-ACTIVE))) (sym (li-set at k n)) (eq-T _ h)

idle-rest : T (both (li_is (rest_at LI-ACTIVE) LI-ACTIVE) (idle (rest_at LI-ACTIVE)))
unfolding rest_at idle
idle-rest = tt

not-eq : (x : Bool) → T (not x) → x ≡ false
not-eq true t = absurd t
not-eq false t = refl

-- no call changes a setting
pub settings-kinds : (l : Link) → Kinds l (λ s a. a.link.setting ≡ l.setting)
unfolding aborted closed cancelled late_data over waited followed cleared agreed_at
settings-kinds l =
    record {
      stays = λ n h. refl;
      aborts = λ n s g. refl;
      closes = λ entry reason g. refl;
      cancels = λ g. refl;
      goes = λ k e n entry s g w h a. refl;
      ends = λ e s g b h a i. refl;
      waits = λ n g d. refl;
      turns = λ g h. refl;
      late = λ g. refl;
    }

module _ (l : Link) (f : Fine l) where
  abbrev v : View
  v = view l

  sound : Sound ground_tables v
  sound = fine-sound l f

  own : OwnsFit ground_tables l.at ground_tables.owns
  own = own-moves-fit ground_tables ground-fits l.at f.states (good-states ground_tables v sound)

  -- LI's own move goes
  li-balanced : (k : ℕ) → Way l.at k → T (balanced ground_tables l.at (li_to k))
  unfolding ground_tables
  li-balanced k (starts h) = own.0 h
  li-balanced k (stays_open h) = own.1.0 h

  way-busy : (k : ℕ) → Way l.at k → either (eqb k LI-START) (eqb k LI-ACTIVE) ≡ true
  way-busy k (starts h) = refl
  way-busy k (stays_open h) = refl

  fit-li : (k : ℕ) → Way l.at k → Fit ground_tables v (part l (li_to k) 0)
  fit-li k w = first-fit ground_tables ground-fits v sound (fine-loads l f) (li_to k) (li-balanced k w)

  sound-li : (k : ℕ) → Way l.at k → Sound ground_tables (stepped v (part l (li_to k) 0))
  sound-li k w = first-sound ground_tables ground-fits v sound (fine-loads l f) (li_to k) (li-balanced k w)

  may-move : (k : ℕ) → Way l.at k → T (ground_tables.open_to (set l.at LI k))
  unfolding ground_tables
  may-move k w = busy-set l.at k f.states (way-busy k w)

  -- the table's move then goes, does not move LI and fits the intervals
  move-also : (k e : ℕ) → Way l.at k → does_go (move_at l k e) ≡ true → T (ground_also (set l.at LI k) e (move_at l k e))
  unfolding move_at ground_tables
  move-also k e w g = (second-goes ground_tables ground-fits v sound (fine-loads l f) (li_to k) (li-balanced k w) (may-move k w) e g).1

  -- LI's moves leave PC where it is
  li-other : (at : List ℕ) (k : ℕ) → get_or (set at LI k) PC 0 ≡ get_or at PC 0
  li-other at k = get_or-set_other at LI PC k 0 (λ q. omega arith)

  kept-li : (k : ℕ) → T (intervals_ok (get_or (set l.at LI k) PC 0) l.interval)
  kept-li k = subst (λ (x : ℕ). T (intervals_ok x l.interval)) (sym (li-other l.at k)) (good-intervals l f)

  kept_move : (k e n : ℕ) → Way l.at k → does_go (move_at l k e) ≡ true → T (asks_well e n)
      → T (intervals_ok (get_or (set (set l.at LI k) (move_at l k e).who (move_at l k e).to) PC 0) (agreed_at l k e n).interval)
  unfolding ground_also stepped agreed_at
  kept_move k e n w g a =
      let m = move_at l k e in
      intervals-kept l.interval (set l.at LI k) e n m (sound-li k w).states
      (both_right (not (eqb LI m.who)) (interval_row (set l.at LI k) e m) (move-also k e w g)) a (kept-li k)

  agreed-loads : (k e n : ℕ) → Way l.at k → does_go (move_at l k e) ≡ true → T (asks_well e n) → Loads (loads (agreed_at l k e n))
  unfolding agreed_at
  agreed-loads k e n w g a = loads-one (agreed_at l k e n) f.settings (good-settings l f) (force-most _ (agreed_at l k e n).interval (kept_move k e n w g a))

  fit-move : (k e n entry : ℕ) → Way l.at k → does_go (move_at l k e) ≡ true → T (asks_well e n)
      → Fit ground_tables (stepped v (part l (li_to k) 0)) (part (agreed_at l k e n) (move_at l k e) entry)
  unfolding move_at ground_tables agreed_at
  fit-move k e n entry w g a =
      second-fit ground_tables ground-fits v sound (fine-loads l f) (li_to k) (li-balanced k w) (may-move k w) e g entry (loads (agreed_at l k e n)) (agreed-loads k e n w g a)
      (λ t lt q. loads-steady l (agreed l.interval e n (move_at l k e)) (move_at l k e).who (agreed-other l.interval e n (move_at l k e)) t q)

  -- the end request, where all modules are IDLE then
  sound-move : (k e n entry : ℕ) → Way l.at k → does_go (move_at l k e) ≡ true → T (asks_well e n) → Sound ground_tables (steps v (went_parts l k e n entry))
  sound-move k e n entry w g a = stepped-sound ground_tables ground-fits _ _ (sound-li k w) (fit-move k e n entry w g a)

  end-may : (e : ℕ) → T (li_busy l.at) → does_go (move_at l LI-ACTIVE e) ≡ true → T (idle (went l LI-ACTIVE e 0 DATA-REQUEST).at)
      → T (both (li_is (set (set l.at LI LI-ACTIVE) (move_at l LI-ACTIVE e).who (move_at l LI-ACTIVE e).to) LI-ACTIVE) (idle (set (set l.at LI LI-ACTIVE) (move_at l LI-ACTIVE e).who (move_at l LI-ACTIVE e).to)))
  unfolding went turned performed begun ground_also
  end-may e b g i =
      let m = move_at l LI-ACTIVE e in
      let at₁ = set l.at LI LI-ACTIVE in
      let other = not-eq (eqb LI m.who) (both_left (not (eqb LI m.who)) (interval_row at₁ e m) (move-also LI-ACTIVE e (stays_open b) g)) in
      let li = get_or-set_other at₁ m.who LI m.to 0 (eqb-false LI m.who other) ∙ li-set l.at LI-ACTIVE f.states in
      both-T (li_is (set at₁ m.who m.to) LI-ACTIVE) _ (eq-T _ (eq-eqb _ LI-ACTIVE li)) i

  fit-end : (e : ℕ) → T (li_busy l.at) → does_go (move_at l LI-ACTIVE e) ≡ true → T (asks_well e 0) → T (idle (went l LI-ACTIVE e 0 DATA-REQUEST).at)
      → Fit ground_tables (steps v (went_parts l LI-ACTIVE e 0 DATA-REQUEST)) (part (agreed_at l LI-ACTIVE e 0) li_end END-REQUEST)
  unfolding stepped ground_tables
  fit-end e b g a i =
      let s = sound-move LI-ACTIVE e 0 DATA-REQUEST (stays_open b) g a in
      let w = steps v (went_parts l LI-ACTIVE e 0 DATA-REQUEST) in
      record {
        moves = (own-moves-fit ground_tables ground-fits w.at s.states (good-states ground_tables w s)).1.1.0 (end-may e b g i);
        loads = agreed-loads LI-ACTIVE e 0 (stays_open b) g a;
        steady = λ t lt q. refl;
      }

  ended-room : (e : ℕ) → length (said_of (ended_parts l e)) + 0 ≤ 8
  ended-room e =
      let m = move_at l LI-ACTIVE e in
      omega (arith, li-silent LI-ACTIVE, short m DATA-REQUEST, short li_end END-REQUEST, length-append (acts_of (li_to LI-ACTIVE) 0) (acts_of m DATA-REQUEST ++ (acts_of li_end END-REQUEST ++ [])), length-append (acts_of m DATA-REQUEST) (acts_of li_end END-REQUEST ++ []), length-append (acts_of li_end END-REQUEST) [])

  over-fits : T (li_is l.at LI-END) → Fits ground_tables v (part l li_over 0 ∷ [])
  unfolding ground_tables
  over-fits h = (record { moves = own.1.1.1.0 h; loads = fine-loads l f; steady = λ t lt e. refl }, tt)

  over-room : length (said_of (part l li_over 0 ∷ [])) + 0 ≤ 8
  over-room = omega (arith, short li_over 0, length-append (acts_of li_over 0) [])

  -- where everything rests, before the end request
  cleared-loads : Loads (loads (cleared l))
  unfolding cleared
  cleared-loads = loads-one (cleared l) f.settings (good-settings l f) (lit≤ tt)

  cancel-fits : Fits ground_tables (rested LI-ACTIVE (loads (cleared l))) (part (cleared l) li_end END-REQUEST ∷ [])
  unfolding rested rest_at ground_tables tops
  cancel-fits =
      let s = rested-sound ground_tables ground-fits LI-ACTIVE (loads (cleared l)) tt (lit≤ tt) cleared-loads in (
        record {
          moves = (own-moves-fit ground_tables ground-fits (rest_at LI-ACTIVE) s.states (good-states ground_tables (rested LI-ACTIVE (loads (cleared l))) s)).1.1.0 idle-rest;
          loads = cleared-loads;
          steady = λ t lt q. refl;
        },
        tt,
      )

  -- every call does what the machinery can
  does-kinds : Kinds l (λ s a. Does ground_tables v s a.said.acts (view a.link))
  unfolding aborted closed cancelled late_data over waited followed loads cleared agreed_at went turned pushed_all acts_of stepped performed begun added stopped rested runs_of.waited ground_tables tops
  does-kinds =
      record {
        stays = λ n h. plays [] [] tt refl refl refl;
        aborts = λ n s g. stops LI-IDLE (loads (cleared l)) [] (4 ∷ 6 ∷ []) tt (lit≤ tt) cleared-loads tt (abort-list l n f) refl;
        closes = λ entry reason g. stops LI-IDLE (loads (cleared l)) [] (entry ∷ []) tt (lit≤ tt) cleared-loads tt (closed-list l entry reason f) refl;
        cancels = λ g. stops LI-ACTIVE (loads (cleared l)) (part (cleared l) li_end END-REQUEST ∷ []) [] tt (lit≤ tt) cleared-loads cancel-fits (cancel-list l f) refl;
        goes = λ k e n entry s g w h a. plays (went_parts l k e n entry) [] (fit-li k w, (fit-move k e n entry w h a, tt)) refl (played-said l.at l.left (went_parts l k e n entry) [] (went-room (loads l) (loads (agreed_at l k e n)) k (move_at l k e) entry)) refl;
        ends = λ e s g b h a i. plays (ended_parts l e) [] (fit-li LI-ACTIVE (stays_open b), (fit-move LI-ACTIVE e 0 DATA-REQUEST (stays_open b) h a, (fit-end e b h a i, tt))) refl (played-said l.at l.left (ended_parts l e) [] (ended-room e)) refl;
        waits = λ n g d. waits d refl refl;
        turns = λ g h. plays (part l li_over 0 ∷ []) [] (over-fits h) refl (played-said l.at l.left (part l li_over 0 ∷ []) [] over-room) refl;
        late = λ g. plays [] (LATE ∷ []) tt refl (played-said l.at l.left [] (LATE ∷ []) (lit≤ tt)) refl;
      }

  -- and keeps the intervals at their states
  intervals-kinds : Kinds l (λ s a. T (intervals_ok (get_or a.link.at PC 0) a.link.interval))
  unfolding aborted closed cancelled late_data over waited followed cleared went turned performed begun added stopped rest_at intervals_ok interval_ok
  intervals-kinds =
      record {
        stays = λ n h. good-intervals l f;
        aborts = λ n s g. tt;
        closes = λ entry reason g. tt;
        cancels = λ g. tt;
        goes = λ k e n entry s g w h a. kept_move k e n w h a;
        ends = λ e s g b h a i. subst (λ (x : ℕ). T (intervals_ok x (agreed_at l LI-ACTIVE e 0).interval)) (sym (li-other (set (set l.at LI LI-ACTIVE) (move_at l LI-ACTIVE e).who (move_at l LI-ACTIVE e).to) LI-END)) (kept_move LI-ACTIVE e 0 (stays_open b) h a);
        waits = λ n g d. good-intervals l f;
        turns = λ g h. kept-li LI-IDLE;
        late = λ g. good-intervals l f;
      }

  keeps-fine : (c : Made) → Sound ground_tables (view (reply l c).link) → Fine (reply l c).link
  keeps-fine c s =
      let e = every l (λ n a. a.link.setting ≡ l.setting) (settings-kinds l) c in
      let i = every l (λ n a. T (intervals_ok (get_or a.link.at PC 0) a.link.interval)) intervals-kinds c in
      make-fine (reply l c).link (ap length e ∙ f.settings) (subst (λ (x : List ℕ). T (below timers (setting_ok x))) (sym e) (good-settings l f)) i s

  -- an elapse at which a timer is due is abort 4
  expires : (n : ℕ) → n ≤ 86400 → below timers (not_due n l.left) ≡ false → (octets : List ℕ) → answered l (Elapse n) octets ≡ aborted l 4
  unfolding answered elapsed
  expires n le d octets = rw (T-eq (good l) f.fine, le-leb n 86400 le, d)

unfoldable lawful : Lawful ground
lawful =
    record {
      fit = ground-fits;
      Fine = Fine;
      sound = fine-sound;
      keeps = λ l c f s. keeps-fine l f c s;
      does = λ l c f. every l (λ s a. Does ground_tables (view l) s a.said.acts (view a.link)) (does-kinds l f) c;
      expires = λ l n f le d. expires l f n le d [];
    }

pub after-fine : (l : Link) (cs : List Made) → Fine l → Fine (after ground l cs)
unfolding lawful
after-fine l cs f = sides.after-fine ground lawful l cs f

-- "After any sequence of calls from a fresh link with good settings, the running timers are exactly those the watch table names for the present states, each
-- with at least one second left and no more than its setting", PC2 "no more than interval plus grace": what a start loads, `pc2-loads` and `other-loads` (Keeps.antt)
pub demand3-first : (s : List ℕ) → length s ≡ timers → T (below timers (setting_ok s)) → (cs : List Made) (t : ℕ) → t < timers → Watched ground (after ground (fresh s) cs) t
unfolding lawful
demand3-first s e h = sides.demand3-first ground lawful (fresh s) (fresh-fine s e h)

-- in EC-ACTIVE no timer of EC runs
event-off : (at : List ℕ) → get_or at EC 0 ≡ ACTIVE → (runs ground_watch EC1 at ≡ false) × (runs ground_watch EC2 at ≡ false)
unfolding runs ground_watch
event-off at e = (rw e, rw e)

-- "An event contract in force has no clock": in EC-ACTIVE no timer of EC has seconds left
pub event-contract-no-clock : (s : List ℕ) → length s ≡ timers → T (below timers (setting_ok s)) → (cs : List Made) → eqb (get_or (after ground (fresh s) cs).at EC 0) ACTIVE ≡ true
    → (get_or (after ground (fresh s) cs).left EC1 0 ≡ 0) × (get_or (after ground (fresh s) cs).left EC2 0 ≡ 0)
unfolding ground_tables
event-contract-no-clock s e h cs active =
    let off = event-off (after ground (fresh s) cs).at (eqb-true _ ACTIVE active) in
    ((demand3-first s e h cs EC1 (lit< tt)).else_none off.0, (demand3-first s e h cs EC2 (lit< tt)).else_none off.1)

-- "If a timer has k seconds left, and no call starts or stops it before its accepted elapsed seconds first total k or more, then the call that gets there
-- aborts the link."
pub demand3-second : (s : List ℕ) → length s ≡ timers → T (below timers (setting_ok s)) → (before : List Made) (t : ℕ) → t < timers → (k : ℕ) → 1 ≤ k
    → get_or (after ground (fresh s) before).left t 0 ≡ k → (cs : List Made) → Untouched ground t (after ground (fresh s) before) cs
    → (n : ℕ) → n ≤ 86400 → k ≤ total ground (after ground (fresh s) before) cs + n → (octets : List ℕ)
    → answered (after ground (after ground (fresh s) before) cs) (Elapse n) octets ≡ aborted (after ground (after ground (fresh s) before) cs) 4
unfolding lawful answered
demand3-second s e h before t lt k one is cs u n most reach octets = sides.demand3-second ground lawful (fresh s) (fresh-fine s e h) before t lt k one is cs u n most reach
