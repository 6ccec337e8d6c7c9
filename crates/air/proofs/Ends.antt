-- The parts of an end indication fit one after the other, and their actions have room. Assumes nothing.
use mathlib.Core.Path.{◌≡◌, refl, sym, subst}
use mathlib.Core.Bool.{Bool, true, false, not}
use mathlib.Core.List.{List, [], ◌∷◌}
use Prim.Native.Nat.{ℕ, ◌+◌, ◌≤◌}
use native.Mathlib.Omega.{arith}
use lib.Dec.{T, eqb, lit≤}
use lib.ListN.{length, get_or}
use Rattle.link.specs.Tests.{pick}
use Rattle.link.specs.Names.{no_timer, DC, EC, PC, EM, IDLE}
use Rattle.link.specs.Moves.{to, stop}
use Rattle.link.specs.Watch.{idle, li_is}
use Rattle.link.specs.Step.{acts_of}
use Rattle.link.proofs.Laws.{eq-T}
use Rattle.sides.specs.Tables.{states_ok, balanced}
use Rattle.sides.specs.Runs.{said_of, stepped, Loads, Fits}
use Rattle.sides.proofs.Fits.{OwnsFit, own-moves-fit, balanced-states}
use Rattle.air_tables.specs.Names.{CANCEL, EM3, LI-ACTIVE}
use Rattle.air_tables.specs.Moves.{li_answer, halts}
use Rattle.air_tables.specs.Tables.{air_tables}
use Rattle.air_tables.proofs.Fitting.{air-fits}
use Rattle.air_answer.specs.Record.{made, loads, view}
use Rattle.air_answer.specs.declared.record.AirLink.{AirLink}
use Rattle.air.specs.Arrivals.{end_parts}

-- what holds of every five states holds of a list of five
five : (P : List ℕ → Type 0) → ((a b c d e : ℕ) → P (a ∷ b ∷ c ∷ d ∷ e ∷ [])) → (at : List ℕ) → length at ≡ 5 → P at
five P f (a ∷ b ∷ c ∷ d ∷ e ∷ []) n = f a b c d e
five P f [] n = absurd (omega arith)
five P f (a ∷ []) n = absurd (omega arith)
five P f (a ∷ b ∷ []) n = absurd (omega arith)
five P f (a ∷ b ∷ c ∷ []) n = absurd (omega arith)
five P f (a ∷ b ∷ c ∷ d ∷ []) n = absurd (omega arith)
five P f (a ∷ b ∷ c ∷ d ∷ e ∷ x ∷ xs) n = absurd (omega arith)

own : (at : List ℕ) → length at ≡ 5 → T (states_ok air_tables at) → OwnsFit air_tables at air_tables.owns
own at n ok = own-moves-fit air_tables air-fits at n ok

-- the end response
answer-fits : (at : List ℕ) → length at ≡ 5 → T (states_ok air_tables at) → T (li_is at LI-ACTIVE) → (told : Bool) → T (balanced air_tables at (li_answer told))
unfolding air_tables
answer-fits at n ok h false = (own at n ok).1.1.0 h
answer-fits at n ok h true = (own at n ok).1.1.1.0 h

-- EM's stop, by its state
em-fits : (a b c d : ℕ) → T (states_ok air_tables (a ∷ b ∷ c ∷ d ∷ LI-ACTIVE ∷ []))
    → T (balanced air_tables (a ∷ b ∷ c ∷ d ∷ LI-ACTIVE ∷ []) (stop (pick (eqb d CANCEL) EM3 no_timer) (to EM IDLE)))
unfolding air_tables
em-fits a b c d ok = go (eqb d CANCEL) refl
  where
    at : List ℕ
    at = a ∷ b ∷ c ∷ d ∷ LI-ACTIVE ∷ []

    go : (x : Bool) → eqb d CANCEL ≡ x → T (balanced air_tables at (stop (pick x EM3 no_timer) (to EM IDLE)))
    go true q = (own at refl ok).1.1.1.1.1.1.1.0 (eq-T _ q)
    go false q = (own at refl ok).1.1.1.1.1.1.1.1.0 (subst (λ (x : Bool). T (not x)) (sym q) tt)

five-fit : (s : ℕ) (left : List ℕ) (told : Bool) (a b c d e : ℕ) → Loads (loads (made s left (a ∷ b ∷ c ∷ d ∷ e ∷ []))) → T (states_ok air_tables (a ∷ b ∷ c ∷ d ∷ e ∷ []))
    → T (eqb e LI-ACTIVE) → Fits air_tables (view (made s left (a ∷ b ∷ c ∷ d ∷ e ∷ []))) (end_parts (made s left (a ∷ b ∷ c ∷ d ∷ e ∷ [])) told)
unfolding end_parts halts stepped air_tables idle
five-fit s left told a b c d e one ok h =
    let m₁ = answer-fits (a ∷ b ∷ c ∷ d ∷ e ∷ []) refl ok h told in
    let ok₁ = balanced-states air_tables (a ∷ b ∷ c ∷ d ∷ e ∷ []) (li_answer told) m₁ in
    let m₂ = (own (a ∷ b ∷ c ∷ d ∷ 2 ∷ []) refl ok₁).1.1.1.1.0 tt in
    let ok₂ = balanced-states air_tables (a ∷ b ∷ c ∷ d ∷ 2 ∷ []) (to DC IDLE) m₂ in
    let m₃ = (own (0 ∷ b ∷ c ∷ d ∷ 2 ∷ []) refl ok₂).1.1.1.1.1.0 tt in
    let ok₃ = balanced-states air_tables (0 ∷ b ∷ c ∷ d ∷ 2 ∷ []) (to EC IDLE) m₃ in
    let m₄ = (own (0 ∷ 0 ∷ c ∷ d ∷ 2 ∷ []) refl ok₃).1.1.1.1.1.1.0 tt in
    let ok₄ = balanced-states air_tables (0 ∷ 0 ∷ c ∷ d ∷ 2 ∷ []) (to PC IDLE) m₄ in
    let m₅ = em-fits 0 0 0 d ok₄ in
    let ok₅ = balanced-states air_tables (0 ∷ 0 ∷ 0 ∷ d ∷ 2 ∷ []) (stop (pick (eqb d CANCEL) EM3 no_timer) (to EM IDLE)) m₅ in
    let m₆ = (own (0 ∷ 0 ∷ 0 ∷ 0 ∷ 2 ∷ []) refl ok₅).1.1.1.1.1.1.1.1.1.0 tt in (
      record { moves = m₁; loads = one; steady = λ t lt q. refl },
      (
        record { moves = m₂; loads = one; steady = λ t lt q. refl },
        (
          record { moves = m₃; loads = one; steady = λ t lt q. refl },
          (
            record { moves = m₄; loads = one; steady = λ t lt q. refl },
            (
              record { moves = m₅; loads = one; steady = λ t lt q. refl },
              (
                record { moves = m₆; loads = one; steady = λ t lt q. refl },
                tt,
              ),
            ),
          ),
        ),
      ),
    )

pub ended-fits : (l : AirLink) (told : Bool) → length l.at ≡ 5 → Loads (loads l) → T (states_ok air_tables l.at) → T (li_is l.at LI-ACTIVE) → Fits air_tables (view l) (end_parts l told)
unfolding loads
ended-fits l told n =
    five (λ (at : List ℕ). Loads (loads (made l.setting l.left at)) → T (states_ok air_tables at) → T (li_is at LI-ACTIVE) → Fits air_tables (view (made l.setting l.left at)) (end_parts (made l.setting l.left at) told))
    (five-fit l.setting l.left told) l.at n

-- at most an indication, the end response and the stop of EM3
pub ended-room : (l : AirLink) (told : Bool) → length (said_of (end_parts l told)) + 0 ≤ 8
unfolding end_parts halts acts_of
ended-room l told = go told (eqb (get_or l.at EM 0) CANCEL) refl
  where
    go : (t x : Bool) → eqb (get_or l.at EM 0) CANCEL ≡ x → length (said_of (end_parts l t)) + 0 ≤ 8
    go true true q = rw q (lit≤ tt)
    go true false q = rw q (lit≤ tt)
    go false true q = rw q (lit≤ tt)
    go false false q = rw q (lit≤ tt)
