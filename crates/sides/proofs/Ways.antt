-- The action lists of parts: none is cut where there is room; and the moves of a call that begins with LI's own. Assumes nothing.
use mathlib.Core.Bool.{true, false}
use mathlib.Core.Path.{◌≡◌, refl, sym, ap, ◌∙◌}
use mathlib.Core.List.{List, [], ◌∷◌, ◌++◌}
use Prim.Native.Nat.{ℕ, ◌+◌, ◌≤◌, ◌<◌}
use native.Mathlib.Omega.{arith}
use lib.Dec.{T, eqb, lit≤}
use lib.ListN.{length, get_or, set, length-append}
use lib.Seq.{get_or-set_same}
use Rattle.link.specs.Names.{timers, LI}
use Rattle.link.specs.Moves.{li_to, does_go}
use Rattle.link.specs.Acts.{acts, pushed_all}
use Rattle.link.specs.Clock.{stops_of}
use Rattle.link.specs.Step.{acts_of, performed, begun, added, stopped, stopped_then, aborted_all}
use Rattle.link.specs.declared.acts.Acts.{Acts}
use Rattle.link.specs.declared.moves.Move.{Move}
use Rattle.link.specs.declared.executor.Step.{Step}
use Rattle.link.proofs.Laws.{pushed-append, pushed-list}
use Rattle.sides.specs.Tables.{Tables, move_of, balanced, all_fit}
use Rattle.sides.specs.Runs.{View, Sound, Part, stepped, said_of, performed_all, Loads, Fit}
use Rattle.sides.proofs.Fits.{moves-fit, goes-balanced}
use Rattle.sides.proofs.Keeps.{good-states, stepped-sound}
use Rattle.sides.proofs.Stops.{short, stops-whole}

all_said : (s : Step) (ps : List Part) → (performed_all s ps).acts ≡ pushed_all s.acts (said_of ps)
unfolding performed pushed_all
all_said s [] = refl
all_said s (p ∷ ps) = all_said (performed s p.move p.most p.send) ps ∙ sym (pushed-append s.acts (acts_of p.move p.send) (said_of ps))

-- of moves from a record
pub played-said : (at left : List ℕ) (ps : List Part) (more : List ℕ) → length (said_of ps) + length more ≤ 8
    → pushed_all (performed_all (begun at left) ps).acts more ≡ acts (said_of ps ++ more)
unfolding begun
played-said at left ps more h =
    ap (λ (a : Acts). pushed_all a more) (all_said (begun at left) ps ∙ pushed-list [] (said_of ps) (omega arith)) ∙ pushed-list (said_of ps) more h

-- of moves where everything has stopped
pub stopped-said : (b : Tables) → T (all_fit b) → (v : View) → Sound b v → (li : ℕ) (ps : List Part) (more : List ℕ) → length (said_of ps) + length more ≤ 4
    → pushed_all (performed_all (stopped li v.left) ps).acts more ≡ acts (stops_of timers v.left ++ (said_of ps ++ more))
unfolding stopped
stopped-said b test v s li ps more h =
    ap (λ (a : Acts). pushed_all a more) (all_said (stopped li v.left) ps)
    ∙ sym (pushed-append (pushed_all (acts []) (stops_of timers v.left)) (said_of ps) more)
    ∙ stops-whole b test v s (said_of ps ++ more) (omega (arith, length-append (said_of ps) more))

-- of the abort rule
module _ (b : Tables) (test : T (all_fit b)) (v : View) (s : Sound b v) where
  pub then-said : (entry : ℕ) → (stopped_then entry v.left).acts ≡ acts (stops_of timers v.left ++ (entry ∷ []))
  unfolding added pushed_all
  then-said entry = stopped-said b test v s 0 [] (entry ∷ []) (lit≤ tt)

  pub abort-said : (aborted_all v.left).acts ≡ acts (stops_of timers v.left ++ (4 ∷ 6 ∷ []))
  unfolding added pushed_all
  abort-said = stopped-said b test v s 0 [] (4 ∷ 6 ∷ []) (lit≤ tt)

-- LI at k
pub li-set : (at : List ℕ) (k : ℕ) → length at ≡ 5 → get_or (set at LI k) LI 0 ≡ k
li-set at k n = get_or-set_same at LI k 0 (omega arith)

-- LI's own move to a state says nothing, and any move after it has room
pub li-silent : (k : ℕ) → length (acts_of (li_to k) 0) ≡ 0
unfolding acts_of
li-silent k = refl

pub went-room : (most more : List ℕ) (k : ℕ) (m : Move) (entry : ℕ)
    → length (said_of (record { move = li_to k; send = 0; most = most } ∷ record { move = m; send = entry; most = more } ∷ [])) + 0 ≤ 8
went-room most more k m entry =
    omega (arith, li-silent k, short m entry, length-append (acts_of (li_to k) 0) (acts_of m entry ++ []), length-append (acts_of m entry) [])

-- the link module's own move first, and then the table's move on an event
module _ (b : Tables) (test : T (all_fit b)) (v : View) (s : Sound b v) (loads : Loads v.most) (li : Move) (own : T (balanced b v.at li)) where
  pub first-fit : Fit b v (record { move = li; send = 0; most = v.most })
  first-fit = record { moves = own; loads = loads; steady = λ t lt e. refl }

  pub first-sound : Sound b (stepped v (record { move = li; send = 0; most = v.most }))
  first-sound = stepped-sound b test v (record { move = li; send = 0; most = v.most }) s first-fit

  module _ (may : T (b.open_to (set v.at li.who li.to))) (e : ℕ) (goes : does_go (move_of b (set v.at li.who li.to) e) ≡ true) where
    pub second-goes : T (balanced b (set v.at li.who li.to) (move_of b (set v.at li.who li.to) e)) × T (b.also (set v.at li.who li.to) e (move_of b (set v.at li.who li.to) e))
    unfolding stepped
    second-goes =
        goes-balanced b (set v.at li.who li.to) e (move_of b (set v.at li.who li.to) e) goes
        (moves-fit b test (set v.at li.who li.to) first-sound.states (good-states b (stepped v (record { move = li; send = 0; most = v.most })) first-sound) may e)

    pub second-fit : (entry : ℕ) (most : List ℕ) → Loads most
        → ((t : ℕ) → t < timers → eqb (move_of b (set v.at li.who li.to) e).who (b.changer t) ≡ false → get_or most t 0 ≡ get_or v.most t 0)
        → Fit b (stepped v (record { move = li; send = 0; most = v.most })) (record { move = move_of b (set v.at li.who li.to) e; send = entry; most = most })
    unfolding stepped
    second-fit entry most l steady = record { moves = second-goes.0; loads = l; steady = steady }
