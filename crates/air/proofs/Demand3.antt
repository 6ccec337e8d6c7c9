-- The air link is a lawful side, so both sentences of demand 3 hold of it, over every sequence of calls from a new link. Assumes nothing.
use mathlib.Core.Path.{◌≡◌, refl, sym, subst}
use mathlib.Core.Bool.{true, false}
use mathlib.Core.List.{List, [], ◌∷◌}
use Prim.Native.Nat.{ℕ, ◌+◌, ◌<◌, ◌≤◌}
use lib.Dec.{T, eqb, lit≤}
use lib.ListN.{length, get_or, set}
use borrow.Author.Tests.{le-leb}
use Rattle.pdu_parts.specs.declared.lists.Listed.{Listed}
use Rattle.pdu_parts.specs.Lists.{no_list}
use Rattle.link.specs.Tests.{below}
use Rattle.link.specs.Names.{timers, LI}
use Rattle.link.specs.Moves.{li_to, does_go}
use Rattle.link.specs.Watch.{seconds_ok}
use Rattle.link.specs.Acts.{pushed_all}
use Rattle.link.specs.Clock.{not_due}
use Rattle.link.specs.Step.{performed, begun, added, stopped}
use Rattle.link.proofs.Laws.{T-eq}
use Rattle.sides.specs.Tables.{balanced}
use Rattle.sides.specs.Runs.{View, Sound, stepped, Fits, rested, Does, waits, plays, stops, after, total, Untouched, Watched}
use Rattle.sides.specs.Runs as runs_of
use Rattle.sides.proofs.Fits.{OwnsFit, own-moves-fit}
use Rattle.sides.proofs.Keeps.{good-states}
use Rattle.sides.proofs.Ways.{played-said, then-said, abort-said, li-set, went-room, first-fit, second-fit}
use Rattle.sides.proofs.Demand3 as sides
use Rattle.sides.proofs.Demand3.{Lawful}
use Rattle.air_tables.specs.Names.{LI-IDLE}
use Rattle.air_tables.specs.Moves.{halts}
use Rattle.air_tables.specs.Tables.{li_busy, tops, air_tables}
use Rattle.air_tables.proofs.Fitting.{air-fits}
use Rattle.air_answer.specs.Record.{loads, view, good, fresh, followed, played, move_at, went_parts}
use Rattle.air_answer.specs.Fresh.{opened}
use Rattle.air_answer.specs.declared.record.AirLink.{AirLink}
use Rattle.air_answer.specs.Aborts.{aborted, closed}
use Rattle.air_answer.specs.Clock.{waited, elapsed}
use Rattle.air.specs.Arrivals.{end_parts, ended}
use Rattle.air.specs.Runs.{answered, Made, reply, air_side}
use Rattle.air.specs.declared.call.Call.TheVariants.{Elapse}
use Rattle.air.proofs.Keeps.{Fine, good-setting, fine-sound, make-fine, fine-loads, fresh-fine}
use Rattle.air.proofs.Every.{Way, starts, stays_open, Kinds, every}
use Rattle.air.proofs.Ends.{ended-fits, ended-room}

-- no call changes the setting
pub settings-kinds : (l : AirLink) → Kinds l (λ s a. a.link.setting ≡ l.setting)
unfolding aborted closed ended waited followed
settings-kinds l =
    record {
      stays = λ n h. refl;
      aborts = λ n s g. refl;
      closes = λ entry reason g. refl;
      goes = λ k e entry s g w h. refl;
      ends = λ told s g h. refl;
      waits = λ n g d. refl;
    }

busy-set : (at : List ℕ) (k : ℕ) → length at ≡ 5 → eqb k LI-IDLE ≡ false → T (li_busy (set at LI k))
unfolding li_busy
busy-set at k n h = rw (li-set at k n, h) tt

module _ (l : AirLink) (f : Fine l) where
  abbrev v : View
  v = view l

  sound : Sound air_tables v
  sound = fine-sound l f

  own : OwnsFit air_tables l.at air_tables.owns
  own = own-moves-fit air_tables air-fits l.at f.states (good-states air_tables v sound)

  -- LI's own move goes
  li-balanced : (k : ℕ) → Way l.at k → T (balanced air_tables l.at (li_to k))
  unfolding air_tables
  li-balanced k (starts h) = own.0 h
  li-balanced k (stays_open h) = own.1.0 h

  may-move : (k : ℕ) → Way l.at k → T (air_tables.open_to (set l.at LI k))
  unfolding air_tables
  may-move k (starts h) = busy-set l.at 1 f.states refl
  may-move k (stays_open h) = busy-set l.at 2 f.states refl

  -- and then the table's
  went-fits : (k e entry : ℕ) → Way l.at k → does_go (move_at l k e) ≡ true → Fits air_tables v (went_parts l k e entry)
  unfolding move_at
  went-fits k e entry w g =
      let li = li-balanced k w in
      let one = fine-loads l f in
      (first-fit air_tables air-fits v sound one (li_to k) li, (second-fit air_tables air-fits v sound one (li_to k) li (may-move k w) e g entry (loads l) one (λ t lt q. refl), tt))

  -- every call does what the machinery can
  pub does-kinds : Kinds l (λ s a. Does air_tables v s a.said.acts (view a.link))
  unfolding aborted closed ended end_parts halts waited followed loads played pushed_all stepped performed begun added stopped rested runs_of.waited air_tables tops
  does-kinds =
      record {
        stays = λ n h. plays [] [] tt refl refl refl;
        aborts = λ n s g. stops LI-IDLE (loads l) [] (4 ∷ 6 ∷ []) tt (lit≤ tt) (fine-loads l f) tt (abort-said air_tables air-fits v sound) refl;
        closes = λ entry reason g. stops LI-IDLE (loads l) [] (entry ∷ []) tt (lit≤ tt) (fine-loads l f) tt (then-said air_tables air-fits v sound entry) refl;
        goes = λ k e entry s g w h. plays (went_parts l k e entry) [] (went-fits k e entry w h) refl (played-said l.at l.left (went_parts l k e entry) [] (went-room (loads l) (loads l) k (move_at l k e) entry)) refl;
        ends = λ told s g h. plays (end_parts l told) [] (ended-fits l told f.states (fine-loads l f) (good-states air_tables v sound) h) refl (played-said l.at l.left (end_parts l told) [] (ended-room l told)) refl;
        waits = λ n g d. waits d refl refl;
      }

  -- an elapse at which EM3 is due is abort 4
  pub expires : (n : ℕ) → n ≤ 86400 → below timers (not_due n l.left) ≡ false → (list : Listed) (octets : List ℕ) → answered l (Elapse n) list octets ≡ aborted l 4
  unfolding answered elapsed
  expires n le d list octets = rw (T-eq (good l) f.fine, le-leb n 86400 le, d)

  pub keeps-fine : (c : Made) → Sound air_tables (view (reply l c).link) → Fine (reply l c).link
  keeps-fine c s =
      let e = every l (λ n a. a.link.setting ≡ l.setting) (settings-kinds l) c in
      make-fine (reply l c).link (subst (λ (x : ℕ). T (seconds_ok x)) (sym e) (good-setting l f)) s

unfoldable pub air-lawful : Lawful air_side
air-lawful =
    record {
      fit = air-fits;
      Fine = Fine;
      sound = fine-sound;
      keeps = λ l c f s. keeps-fine l f c s;
      does = λ l c f. every l (λ s a. Does air_tables (view l) s a.said.acts (view a.link)) (does-kinds l f) c;
      expires = λ l n f le d. expires l f n le d no_list [];
    }

-- a good link stays good
pub after-fine : (l : AirLink) (cs : List Made) → Fine l → Fine (after air_side l cs)
unfolding air-lawful
after-fine l cs f = sides.after-fine air_side air-lawful l cs f

-- a link that is opened with a good setting
pub opened-fresh : (s : ℕ) → T (seconds_ok s) → (opened s).link ≡ fresh s
unfolding opened
opened-fresh s h = rw (T-eq (seconds_ok s) h)

pub opened-fine : (s : ℕ) → T (seconds_ok s) → Fine (opened s).link
opened-fine s h = rw (opened-fresh s h) (fresh-fine s h)

-- "After any sequence of calls from a fresh link with good settings, the running timers are exactly those the watch table names for the present states, each
-- with at least one second left and no more than its setting", which is what a start loads (`em3-loads`, Keeps.antt)
pub demand3-first : (s : ℕ) → T (seconds_ok s) → (cs : List Made) (t : ℕ) → t < timers → Watched air_side (after air_side (opened s).link cs) t
unfolding air-lawful
demand3-first s h = sides.demand3-first air_side air-lawful (opened s).link (opened-fine s h)

-- "If a timer has k seconds left, and no call starts or stops it before its accepted elapsed seconds first total k or more, then the call that gets there
-- aborts the link."
pub demand3-second : (s : ℕ) → T (seconds_ok s) → (before : List Made) (t : ℕ) → t < timers → (k : ℕ) → 1 ≤ k
    → get_or (after air_side (opened s).link before).left t 0 ≡ k → (cs : List Made) → Untouched air_side t (after air_side (opened s).link before) cs
    → (n : ℕ) → n ≤ 86400 → k ≤ total air_side (after air_side (opened s).link before) cs + n → (list : Listed) (octets : List ℕ)
    → answered (after air_side (after air_side (opened s).link before) cs) (Elapse n) list octets ≡ aborted (after air_side (after air_side (opened s).link before) cs) 4
unfolding air-lawful answered
demand3-second s h before t lt k one is cs u n most reach list octets = sides.demand3-second air_side air-lawful (opened s).link (opened-fine s h) before t lt k one is cs u n most reach
