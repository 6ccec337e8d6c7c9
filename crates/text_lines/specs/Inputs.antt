-- Standard input, and what a buffer shows up to a place.
use Rattle.std.specs.Prelude.{◌≡◌, true, List, ℕ, min, length}
use Rattle.io.specs.Counts.{IsPrefixLen}
use Rattle.text_lines.specs.declared.input.Input.{Input}

-- nothing is read yet
abbrev pub started : Input
started = record { from = 0; count = 0; «open» = true }

-- n octets stand before the place `at`, or at the end; they are there
pub record Shows (at : ℕ) (out : List ℕ) (n : ℕ) : Type 0 where
  pub is : n ≡ min at (length out)
  pub there : IsPrefixLen n out
