-- Laws of the text of an answer. Assumes nothing.
use mathlib.Core.Path.{◌≡◌, refl}
use mathlib.Core.List.{List, [], ◌∷◌, ◌++◌}
use Prim.Native.Nat.{ℕ, ◌+◌, ◌≤◌, ◌<◌}
use native.Mathlib.Omega.{arith}
use borrow.Author.Tests.{ne_eqb, lt-ltb, le-ltb, le-leb, lt-leb}
use lib.ListN.{length, get_or, take, drop, drop_of_length-le}
use Rattle.text.specs.Text.{hex_text}
use Rattle.text.specs.Page.{Page, wrote, Writes}
use Rattle.text.specs.Words.{word_at}
use Rattle.text.proofs.Laws.{next}
use Rattle.text.proofs.Pages.{after, wrote-append}
use Rattle.script.specs.Entries.{Names, spaced, behind, timer_entry, entry_text, rest_of, entries_of}

pub spaced-none : {p : Page} (s : List ℕ) → length s ≡ 0 → Writes p (spaced s) p
unfolding spaced
spaced-none [] e = record { is = refl }
spaced-none (o ∷ os) e = absurd (omega arith)

pub spaced-some : {p q : Page} (s : List ℕ) → (length s ≡ 0 → ⊥) → Writes p ((32 ∷ []) ++ hex_text s) q → Writes p (spaced s) q
unfolding spaced
spaced-some [] e w = absurd (e refl)
spaced-some (o ∷ os) e w = w

-- an entry is its word and what follows it
pub entry-parts : {p a q : Page} (n : Names) (c : ℕ) (sent : List ℕ) (reason : ℕ) (came : List ℕ) → c < 16 → Writes p (word_at n.entries c) a
    → Writes a (behind c sent reason came) q → Writes p (entry_text n c sent reason came) q
unfolding entry_text
entry-parts n c sent reason came h w v = rw (lt-ltb c 16 h) (after w v)

-- or a timer's
pub timer-alone : (n : Names) (c : ℕ) (sent : List ℕ) (reason : ℕ) (came : List ℕ) → 16 ≤ c → entry_text n c sent reason came ≡ timer_entry n.timers c
unfolding entry_text
timer-alone n c sent reason came h = rw (le-ltb c 16 h)

-- what follows the word
module _ (c : ℕ) (sent : List ℕ) (reason : ℕ) (came : List ℕ) where
  pub behind-goes : 1 ≤ c → c < 5 → behind c sent reason came ≡ spaced sent
  unfolding behind
  behind-goes l h = rw (le-leb 1 c l, le-leb c 4 (omega arith))

  pub behind-none : c < 1 → behind c sent reason came ≡ []
  unfolding behind
  behind-none h = rw (lt-leb 1 c h, ne_eqb c 5 (λ e. omega arith), ne_eqb c 6 (λ e. omega arith))

  pub behind-over : 5 ≤ c → (c ≡ 5 → ⊥) → (c ≡ 6 → ⊥) → behind c sent reason came ≡ []
  unfolding behind
  behind-over h f s = rw (le-leb 1 c (omega arith), lt-leb c 4 (omega arith), ne_eqb c 5 f, ne_eqb c 6 s)

-- an entry and those after it
pub entry-step : {p q : Page} (ns : Names) (l octets : List ℕ) (i n r reason : ℕ) (came x : List ℕ) → i < length l → r ≡ rest_of (get_or l i 0) n
    → x ≡ take n octets → Writes p (entry_text ns (get_or l i 0) x reason came) q
    → wrote q (entries_of ns (drop (i + 1) l) octets r reason came) ≡ wrote p (entries_of ns (drop i l) octets n reason came)
entry-step {p} {q} ns l octets i n r reason came x h e m w =
    rw (w.is, m, e, next l i h) (wrote-append p (entry_text ns (get_or l i 0) (take n octets) reason came) (entries_of ns (drop (i + 1) l) octets (rest_of (get_or l i 0) n) reason came))

pub entry-end : (p : Page) (ns : Names) (l octets : List ℕ) (i n reason : ℕ) (came : List ℕ) → length l ≤ i → wrote p (entries_of ns (drop i l) octets n reason came) ≡ p
entry-end p ns l octets i n reason came h = rw (drop_of_length-le l h)
