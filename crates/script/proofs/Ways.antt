-- The ways out of a line, as laws on the answer to it, for any box. Assumes nothing.
use mathlib.Core.Path.{◌≡◌, refl, sym, ap, ◌∙◌}
use mathlib.Core.Bool.{Bool, true, false}
use mathlib.Core.List.{List}
use Prim.Native.Nat.{ℕ, ◌-◌}
use lib.ListN.{length, take, drop}
use Rattle.text.specs.Text.{pick}
use Rattle.text.proofs.Laws.{part-all}
use Rattle.script.specs.Lines.{parsed_line, is_set, SetFrom}
use Rattle.script.specs.Replies.{Bench, refused_reply, play_reply, set_reply, line_reply}

pick-by : {X : Type 0} (f g : Bool) (x y : X) → f ≡ g → pick f x y ≡ pick g x y
pick-by f g x y e = ap (λ (h : Bool). pick h x y) e

module _ {Box Call : Type 0} (m : Bench Box Call) (b : Box) (line : List ℕ) where
  -- a box that has its settings
  pub line-play : m.ready b ≡ true → line_reply m b line ≡ play_reply m b (parsed_line m.script line)
  unfolding line_reply
  line-play r = pick-by (m.ready b) true _ _ r

  -- a box that has none: the line has them, or it does not
  module _ (new : m.ready b ≡ false) where
    pub line_set : (from : ℕ) → SetFrom line from → line_reply m b line ≡ m.sets b (take (length line - from) (drop from line))
    unfolding line_reply set_reply
    line_set from is =
        pick-by (m.ready b) false _ _ new ∙ pick-by _ true _ _ is.found_is
        ∙ ap (λ (k : ℕ). m.sets b (drop k line)) (sym is.from_is) ∙ ap (m.sets b) (sym (part-all line from (length line) refl))

    pub line_other : is_set line ≡ false → line_reply m b line ≡ refused_reply b 17
    unfolding line_reply set_reply
    line_other f = pick-by (m.ready b) false _ _ new ∙ pick-by _ false _ _ f
