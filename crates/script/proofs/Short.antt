-- The text of an answer is never long. Assumes nothing.
use mathlib.Core.Path.{◌≡◌}
use mathlib.Core.Bool.{true}
use mathlib.Core.List.{List, [], ◌∷◌, ◌++◌}
use Prim.Native.Nat.{ℕ, zero, suc, ◌+◌, ◌-◌, ◌*◌, ◌≤◌}
use native.Mathlib.Nat.{min-le_right}
use native.Mathlib.Omega.{arith}
use borrow.Author.Tests.{leb-true}
use lib.Dec.{eqb, leb, ltb, lit≤}
use lib.ListN.{length, take, length-append, length-take}
use Rattle.text.specs.Letters.{ascii}
use Rattle.text.specs.Text.{both}
use Rattle.text.specs.Words.{word_at}
use Rattle.text.proofs.Laws.{both_true, decimal-length}
use Rattle.text.proofs.Lengths.{hex-length, refused-length, of_two}
use Rattle.script.specs.Entries.{Names, spaced, goes, behind, timer_entry, entry_text, rest_of, entries_of, brief_text, short_words}
use Rattle.script.specs.declared.answer.Brief.{Brief}

word-length : (ws : List (List ℕ)) (k : ℕ) → short_words ws ≡ true → length (word_at ws k) ≤ 15
word-length [] k h = omega arith
word-length (w ∷ ws) zero h = leb-true (length w) 15 (both_true (leb (length w) 15) (short_words ws) h).0
word-length (w ∷ ws) (suc k) h = word-length ws k (both_true (leb (length w) 15) (short_words ws) h).1

-- the octets of all words of a table: no word of it has more
abbrev pub octets_of_all : List (List ℕ) → ℕ
octets_of_all [] = 0
octets_of_all (w ∷ ws) = length w + octets_of_all ws

pub word-within : (ws : List (List ℕ)) (k : ℕ) → length (word_at ws k) ≤ octets_of_all ws
word-within [] k = omega arith
word-within (w ∷ ws) zero = omega arith
word-within (w ∷ ws) (suc k) = omega (arith, word-within ws k)

pub spaced-length : (m : ℕ) (s : List ℕ) → length s ≤ m → length (spaced s) ≤ 2 * m + 1
unfolding spaced
spaced-length m [] h = omega arith
spaced-length m (o ∷ os) h = omega (arith, hex-length (o ∷ os))

-- an answer with which at most m octets go and came; a reason is no longer as text
module _ (m : ℕ) (some : 10 ≤ m) where
  behind-length : (c : ℕ) (sent : List ℕ) (reason : ℕ) (came : List ℕ) → length sent ≤ m → length came ≤ m → length (behind c sent reason came) ≤ 2 * m + 1
  unfolding behind
  behind-length c sent reason came p q =
      of_two (goes c) (2 * m + 1) _ _ (spaced-length m sent p)
      (of_two (eqb c 5) (2 * m + 1) _ _ (spaced-length m came q) (of_two (eqb c 6) (2 * m + 1) _ _ (omega (arith, decimal-length reason)) (omega arith)))

  module _ (n : Names) (words : short_words n.entries ≡ true) (timers : short_words n.timers ≡ true) (came : List ℕ) (few : length came ≤ m) where
    named : (t : List ℕ) (k : ℕ) → length t ≤ 7 → length (t ++ word_at n.timers k) ≤ 2 * m + 16
    named t k h = omega (arith, length-append t (word_at n.timers k), word-length n.timers k timers)

    entry_length : (c : ℕ) (sent : List ℕ) (reason : ℕ) → length sent ≤ m → length (entry_text n c sent reason came) ≤ 2 * m + 16
    unfolding entry_text timer_entry
    entry_length c sent reason p =
        of_two (ltb c 16) (2 * m + 16) _ _
        (omega (arith, length-append (word_at n.entries c) (behind c sent reason came), word-length n.entries c words, behind-length c sent reason came p few))
        (of_two (ltb c 32) (2 * m + 16) _ _ (named (ascii " stop ") (c - 16) (lit≤ tt)) (named (ascii " start ") (c - 32) (lit≤ tt)))

    entries-length : (j : ℕ) (l octets : List ℕ) (k reason : ℕ) → length l ≤ j → length octets ≤ m → length (entries_of n l octets k reason came) ≤ j * (2 * m + 16)
    entries-length j [] octets k reason h p = omega arith
    entries-length zero (c ∷ cs) octets k reason h p = absurd (omega arith)
    entries-length (suc j) (c ∷ cs) octets k reason h p =
        let a = entry_length c (take k octets) reason (omega (arith, length-take k octets, min-le_right k (length octets), p)) in
        let b = entries-length j cs octets (rest_of c k) reason (omega arith) p in
        omega (arith, length-append (entry_text n c (take k octets) reason came) (entries_of n cs octets (rest_of c k) reason came), a, b)

    all-length : (b : Brief) (sent : List ℕ) → length b.acts.list ≡ 8 → length sent ≤ m → length (brief_text n b sent came) ≤ 16 * m + 130
    unfolding brief_text
    all-length b sent e h =
        let l = take b.acts.n b.acts.list in
        let most = entries-length 8 l sent (length sent) b.reason (omega (arith, length-take b.acts.n b.acts.list, min-le_right b.acts.n (length b.acts.list))) h in
        of_two (eqb b.refusal 0) (16 * m + 130) _ _
        (omega (arith, most, length-append (ascii "ok") (entries_of n l sent (length sent) b.reason came)))
        (omega (arith, refused-length b.refusal))

  pub brief-length : (n : Names) (b : Brief) (sent came : List ℕ) → length b.acts.list ≡ 8 → both (short_words n.entries) (short_words n.timers) ≡ true → length sent ≤ m
      → length came ≤ m → length (brief_text n b sent came) ≤ 16 * m + 130
  brief-length n b sent came e h p q = let t = both_true (short_words n.entries) (short_words n.timers) h in all-length n t.0 t.1 came q b sent e p
