-- What every answer of either end is shown to be, and the answers that both ends give. Assumes nothing.
use mathlib.Core.Path.{◌≡◌, refl, sym}
use mathlib.Core.Bool.{Bool, true, false}
use mathlib.Core.List.{List, [], ◌∷◌}
use Prim.Native.Nat.{ℕ, ◌≤◌}
use native.Mathlib.Omega.{arith}
use lib.Dec.{eqb}
use lib.ListN.{length, take}
use Rattle.link.specs.Names.{timers}
use Rattle.link.specs.Acts.{acts, pushed_all}
use Rattle.link.specs.Clock.{stops_of}
use Rattle.link.specs.Step.{added, stopped, stopped_then, aborted_all}
use Rattle.link.specs.declared.acts.Acts.{Acts}
use Rattle.link.proofs.Laws.{pushed-append}
use Rattle.flight_promises.proofs.Goings.{all_go, Sends, nothing, after, stays, goes_one, stops-stay, acts-go}

-- an answer that shows no abort for 2, and whose entries pass a test with its octets
pub record Clean (f : ℕ → List ℕ → Bool) (reason : ℕ) (a : Acts) (s : List ℕ) : Type 0 where
  pub no-two : eqb reason 2 ≡ false
  pub short : length s ≤ 115
  pub fits : all_go f (take a.n a.list) s ≡ true

pub no_octets : length {A = ℕ} [] ≤ 115
no_octets = omega arith

module _ (f : ℕ → List ℕ → Bool) where
  pub clean : {reason : ℕ} {a : Acts} {es s t : List ℕ} → eqb reason 2 ≡ false → length s ≤ 115 → a ≡ pushed_all (acts []) es → Sends f es s t → Clean f reason a s
  clean r h e g = record { no-two = r; short = h; fits = acts-go f e g }

  -- no action at all
  pub clean-none : Clean f 0 (acts []) []
  unfolding pushed_all
  clean-none = clean refl no_octets refl (nothing f [])

  -- an abort of an end's own, for another reason than 2
  pub clean-abort : (left s : List ℕ) (n : ℕ) → eqb n 2 ≡ false → length s ≤ 115 → f 4 s ≡ true → Clean f n (aborted_all left).acts s
  unfolding stopped added pushed_all
  clean-abort left s n r h g =
      clean r h (sym (pushed-append (acts []) (stops_of timers left) (4 ∷ 6 ∷ [])))
      (after f (stops-stay f timers left s) (after f (goes_one f 4 s refl g) (stays f true 6 [] (omega arith))))

  -- everything stops, with one entry
  pub clean_close : (left : List ℕ) (entry reason : ℕ) → eqb reason 2 ≡ false → Sends f (entry ∷ []) [] [] → Clean f reason (stopped_then entry left).acts []
  unfolding stopped added pushed_all
  clean_close left entry reason r g =
      clean r no_octets (sym (pushed-append (acts []) (stops_of timers left) (entry ∷ []))) (after f (stops-stay f timers left []) g)

  -- an abort that is shown, and the peer user's
  pub shown : Sends f (6 ∷ []) [] []
  shown = record { pass = refl; left = refl }

  pub peer-shown : Sends f (7 ∷ []) [] []
  peer-shown = record { pass = refl; left = refl }
