-- The settings of a `set` line (01, "Script words"): "`set` (nine settings in watch order)"; and 02, L8: "The opening script line takes ten numbers".
use Rattle.std.specs.Prelude.{List, ℕ, zero, suc, ◌+◌, eqb, length, drop, set, replicate, Option, Some, None}
use Rattle.text.specs.Text.{pick}
use Rattle.text.specs.Numbers.{step_of, with_step}
use Rattle.link.specs.Names.{timers}

-- k numbers more, from the i-th of the list on, and then the end
unfoldable pub settings_from : ℕ → ℕ → List ℕ → List ℕ → Option (List ℕ)
settings_from zero i list s = pick (eqb (length s) 0) (Some list) None
settings_from (suc k) i list s = with_step (step_of s) None (λ n. settings_from k (i + 1) (set list i n.value) (drop n.used s))

-- a number for each timer, each after one space, and then the end
unfoldable pub settings_in : List ℕ → Option (List ℕ)
settings_in s = settings_from timers 0 (replicate timers 0) s
