-- The ways out of a call on lent octets, one law each. Assumes nothing.
use Prim.Native.Nat.{ℕ, ◌≤◌, ◌<◌}
use mathlib.Core.Path.{◌≡◌, refl, ap, ◌∙◌}
use mathlib.Core.List.{List, [], ◌∷◌}
use native.Mathlib.Omega.{arith}
use lib.ListN.{length}
use lib.Seq.{sets}
use borrow.Author.Tests.{eq-eqb, ne_eqb, lt-ltb, le-ltb}
use Rattle.sides.specs.Runs.{after}
use Rattle.ground_answer.specs.declared.record.Link.{Link}
use Rattle.ground_answer.specs.declared.answer.Answer.{Answer}
use Rattle.ground_answer.specs.declared.answer.Said.{Said}
use Rattle.ground_answer.specs.declared.fresh.Opened.{Opened}
use Rattle.ground.specs.declared.call.Call.{Call}
use Rattle.ground_answer.specs.Fresh.{opened}
use Rattle.ground.specs.Runs.{answered}
use Rattle.ground.proofs.Promises.{settings-stay}
use Rattle.octets.specs.Octets.{words}
use Rattle.host_record.specs.RecordLayout.{RECORD-OCTETS, link_of, record_octets}
use Rattle.host_record.specs.AnswerLayout.{answer_octets, ANSWER-OCTETS}
use Rattle.link.specs.Names.{timers}
use Rattle.host_record.specs.Hosting.{hosted, told, Serves, settings_of, made, opens_into, Makes}

-- what a call gives has the settings that the octets spell
pub same-settings : (call : Call) (octets s : List ℕ) (a : Answer) → a ≡ answered (link_of s) call octets → a.link.setting ≡ words s 0 timers
unfolding link_of after
same-settings call octets s a e = rw e (settings-stay (link_of s) (record { call = call; octets = octets } ∷ []))

module _ (call : Call) (octets s o : List ℕ) where
  pub no_record : (length s ≡ RECORD-OCTETS → ⊥) → (r : Said) → r.refusal ≡ 29 → Serves call octets s o r s o
  unfolding hosted
  no_record h r e =
      record {
        hosts = rw (ne_eqb (length s) RECORD-OCTETS h) (record { number_is = e; link_is = refl; answer_is = refl });
        answer_is = λ (z : r.refusal ≡ 0). absurd (omega (arith, e, z));
      }

  module _ (h : length s ≡ RECORD-OCTETS) (a : Answer) (e : a ≡ answered (link_of s) call octets) where
    pub refused-so : (a.said.refusal ≡ 0 → ⊥) → Serves call octets s o a.said s o
    unfolding hosted told
    refused-so n =
        record {
          hosts = rw (eq-eqb (length s) RECORD-OCTETS h, ← e, ne_eqb a.said.refusal 0 n) (record { number_is = refl; link_is = refl; answer_is = refl });
          answer_is = λ (z : a.said.refusal ≡ 0). absurd (n z);
        }

    module _ (n : a.said.refusal ≡ 0) where
      pub no_room : length o < ANSWER-OCTETS → (r : Said) → r.refusal ≡ 6 → Serves call octets s o r s o
      unfolding hosted told
      no_room l r x =
          record {
            hosts = rw (eq-eqb (length s) RECORD-OCTETS h, ← e, eq-eqb a.said.refusal 0 n, lt-ltb (length o) ANSWER-OCTETS l) (record { number_is = x; link_is = refl; answer_is = refl });
            answer_is = λ (z : r.refusal ≡ 0). absurd (omega (arith, x, z));
          }

      pub accepted : ANSWER-OCTETS ≤ length o → link_of (record_octets a.link) ≡ a.link → (x y : List ℕ) → x ≡ record_octets a.link → y ≡ sets o 0 (answer_octets a.said)
          → Serves call octets s o a.said x y
      unfolding hosted told
      accepted l b x y p q =
          record {
            hosts = rw (eq-eqb (length s) RECORD-OCTETS h, ← e, eq-eqb a.said.refusal 0 n, le-ltb (length o) ANSWER-OCTETS l) (record { number_is = n; link_is = p; answer_is = q });
            answer_is = λ (z : a.said.refusal ≡ 0). ap (λ (t : Link). record { link = t; said = a.said }) (ap link_of p ∙ b) ∙ e;
          }

module _ (f s : List ℕ) where
  pub not-all : (length f ≡ timers → ⊥) → Makes (made f s) 3 s
  unfolding made
  not-all h = rw (ne_eqb (length f) timers h) (record { number_is = refl; link_is = refl })

  module _ (h : length f ≡ timers) (o : Opened) (e : o ≡ opened (settings_of f)) where
    pub not_made : (o.refusal ≡ 0 → ⊥) → Makes (made f s) o.refusal s
    unfolding made opens_into
    not_made n = rw (eq-eqb (length f) timers h, ← e, ne_eqb o.refusal 0 n) (record { number_is = refl; link_is = refl })

    module _ (n : o.refusal ≡ 0) where
      pub no_place : (length s ≡ RECORD-OCTETS → ⊥) → Makes (made f s) 6 s
      unfolding made opens_into
      no_place k = rw (eq-eqb (length f) timers h, ← e, eq-eqb o.refusal 0 n, ne_eqb (length s) RECORD-OCTETS k) (record { number_is = refl; link_is = refl })

      pub is_made : length s ≡ RECORD-OCTETS → (x : List ℕ) → x ≡ record_octets o.link → Makes (made f s) 0 x
      unfolding made opens_into
      is_made k x p = rw (eq-eqb (length f) timers h, ← e, eq-eqb o.refusal 0 n, eq-eqb (length s) RECORD-OCTETS k) (record { number_is = refl; link_is = p })
