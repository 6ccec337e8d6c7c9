-- The ways out of reading and writing for a host, one law each. Assumes nothing.
use Prim.Native.Nat.{ℕ, ◌≤◌, ◌<◌}
use mathlib.Core.Path.{◌≡◌, refl, ap, ◌∙◌}
use mathlib.Core.List.{List}
use lib.ListN.{length}
use lib.Seq.{sets}
use borrow.Author.Tests.{lt-ltb, le-ltb}
use Rattle.std.specs.Prelude.{Result}
use Rattle.refusals.specs.declared.Refusal.{Refusal}
use Rattle.per.specs.Codec.{Codec}
use Rattle.per.specs.Written.{Written, told}
use Rattle.per.specs.Pdu.{Answer, got, refused}
use Rattle.per.specs.Writing.{write_pdu}
use Rattle.pdu.specs.Answers.{Sends}
use Rattle.pdu.specs.declared.uplink.Ground.{Ground}
use Rattle.pdu.specs.declared.downlink.AirPdu.{AirPdu}
use Rattle.host_numbers.specs.Places.{G-NUMBERS}
use Rattle.host_numbers.specs.UplinkNumbers.{flat_ground}
use Rattle.host_numbers.specs.DownlinkNumbers.{flat_air}
use Rattle.adschost.specs.Flatness.{air_shown, ShowsAir, ground_shown, ShowsGround, number_of, length_of, WritesFlat}

-- ---- reading: what `decode_air` gave is what the definition names
module _ (x : Answer AirPdu) (f l : List ℕ) where
  module _ (a : AirPdu) (e : got a ≡ x) where
    pub few-numbers : length f < 40 → ShowsAir (air_shown x f l) 6 f l
    unfolding air_shown
    few-numbers h = rw (← e, lt-ltb (length f) 40 h) (record { number_is = refl; numbers_are = refl; list_is = refl })

    module _ (h : 40 ≤ length f) where
      pub short-list : length l < 128 → ShowsAir (air_shown x f l) 6 f l
      unfolding air_shown
      short-list m = rw (← e, le-ltb (length f) 40 h, lt-ltb (length l) 128 m) (record { number_is = refl; numbers_are = refl; list_is = refl })

      pub air-there : 128 ≤ length l → (u v : List ℕ) → u ≡ sets f 0 (flat_air a.kind a.list.count) → v ≡ sets l 0 a.list.items → ShowsAir (air_shown x f l) 0 u v
      unfolding air_shown
      air-there m u v p q = rw (← e, le-ltb (length f) 40 h, le-ltb (length l) 128 m) (record { number_is = refl; numbers_are = p; list_is = q })

  pub air-refused : (n : ℕ) → refused n ≡ x → ShowsAir (air_shown x f l) n f l
  unfolding air_shown
  air-refused n e = rw (← e) (record { number_is = refl; numbers_are = refl; list_is = refl })

module _ (x : Answer Ground) (f : List ℕ) where
  module _ (k : Ground) (e : got k ≡ x) where
    pub few-ground : length f < G-NUMBERS → ShowsGround (ground_shown x f) 6 f
    unfolding ground_shown
    few-ground h = rw (← e, lt-ltb (length f) G-NUMBERS h) (record { number_is = refl; numbers_are = refl })

    pub ground-there : G-NUMBERS ≤ length f → (u : List ℕ) → u ≡ sets f 0 (flat_ground k) → ShowsGround (ground_shown x f) 0 u
    unfolding ground_shown
    ground-there h u p = rw (← e, le-ltb (length f) G-NUMBERS h) (record { number_is = refl; numbers_are = p })

  pub ground-refused : (n : ℕ) → refused n ≡ x → ShowsGround (ground_shown x f) n f
  unfolding ground_shown
  ground-refused n e = rw (← e) (record { number_is = refl; numbers_are = refl })

-- ---- writing
pub written-so : {A : Type 0} (c : Codec A) (a b : A) (e : a ≡ b) (o : List ℕ) (w : Result ℕ Refusal) (octets : List ℕ) → Sends c a o w octets
    → (was r n : ℕ) → (r ≡ number_of (told w)) × (n ≡ length_of (told w) was) → WritesFlat (write_pdu c b o) was r octets n
written-so c a b e o w octets s was r n p =
    rw (← e) (record {
      number_is = p.0 ∙ ap number_of s.answer_is;
      octets_are = s.octets_are;
      length_is = p.1 ∙ ap (λ (x : Written). length_of x was) s.answer_is;
    })
