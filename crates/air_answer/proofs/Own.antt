-- The PDUs that the box makes itself, octet by octet. Assumes nothing.
use mathlib.Core.Path.{◌≡◌, refl}
use mathlib.Core.List.{[], ◌∷◌, map}
use Rattle.per.specs.Bits.{of_bit, to_bit, to_bits, num_at, bits_of, width_in, width}
use Rattle.per.specs.Formats.{field, dep, via, only, absent, when, has, alt_codec, never_codec, choice}
use Rattle.per.specs.Pdu.{pack, encode}
use Rattle.pdu.specs.declared.downlink.Air.{Air}
use Rattle.pdu.specs.declared.downlink.Air.TheVariants.{Positive, Abort}
use Rattle.pdu.specs.DownlinkTable.{bare_air, air_alt, air_c}
use Rattle.air_answer.specs.Sent.{sent, letter_of, outgoing}

-- the positive acks of a cancelled event contract, a cancelled periodic contract and cancel-all, and the provider aborts of the abort rule: 2 invalid PDU, 3 sequence error, 4 timer expiry
pub own : map (λ (a : Air). (outgoing (bare_air a)).sent) (Positive 3 ∷ Positive 4 ∷ Positive 6 ∷ Abort 2 ∷ Abort 3 ∷ Abort 4 ∷ [])
    ≡ map sent ((57 ∷ 128 ∷ []) ∷ (58 ∷ 0 ∷ []) ∷ (59 ∷ 0 ∷ []) ∷ (65 ∷ 0 ∷ []) ∷ (65 ∷ 128 ∷ []) ∷ (66 ∷ 0 ∷ []) ∷ [])
unfolding outgoing letter_of sent encode pack bits_of to_bits num_at of_bit to_bit width width_in field dep via only absent when has alt_codec never_codec choice air_alt air_c
own = refl
