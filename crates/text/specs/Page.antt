-- A lent buffer and the place of the pen on it. An octet that has no room is dropped, and the pen stays.
use Rattle.std.specs.Prelude.{◌≡◌, List, [], ◌∷◌, ℕ, ◌+◌, ltb, length, set}
use Rattle.text.specs.Text.{pick}

pub record Page : Type 0 where
  pub octets : List ℕ
  pub at : ℕ

abbrev pub page : List ℕ → ℕ → Page
page o a = record { octets = o; at = a }

unfoldable pub put : Page → ℕ → Page
put p b = page (set p.octets p.at b) (pick (ltb p.at (length p.octets)) (p.at + 1) p.at)

abbrev pub wrote : Page → List ℕ → Page
wrote p [] = p
wrote p (b ∷ bs) = wrote (put p b) bs

-- writing the text t on the page p leaves the page q
pub record Writes (p : Page) (t : List ℕ) (q : Page) : Type 0 where
  pub is : q ≡ wrote p t
