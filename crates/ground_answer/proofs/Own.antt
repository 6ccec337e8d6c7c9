-- The PDUs that the box makes itself, octet by octet. Assumes nothing.
use Rattle.std.proofs.Common.{◌≡◌, [], ◌∷◌, map, refl}
use Rattle.per.specs.Bits.{of_bit, to_bit, to_bits, num_at, bits_of, width_in, width}
use Rattle.per.specs.Formats.{field, dep, via, only, absent, when, has, alt_codec, never_codec, choice}
use Rattle.per.specs.Pdu.{pack, encode}
use Rattle.pdu.specs.declared.uplink.Ground.{Ground}
use Rattle.pdu.specs.declared.uplink.Ground.TheVariants.{CancelAll, CancelEmergencyAck, Abort}
use Rattle.pdu.specs.UplinkTable.{ground_alt, ground_c}
use Rattle.ground_answer.specs.Sent.{sent, letter_of, outgoing}

-- cancel-all, the ack of a cancelled emergency, and the provider aborts of the abort rule: 2 unreadable data, 3 sequence error, 4 timer expiry
pub own : map (λ (g : Ground). (outgoing g).sent) (CancelAll ∷ CancelEmergencyAck ∷ Abort 2 ∷ Abort 3 ∷ Abort 4 ∷ [])
    ≡ map sent ((0 ∷ []) ∷ (32 ∷ []) ∷ (114 ∷ []) ∷ (115 ∷ []) ∷ (116 ∷ []) ∷ [])
unfolding outgoing letter_of sent encode pack bits_of to_bits num_at of_bit to_bit width width_in field dep via only absent when has alt_codec never_codec choice ground_alt ground_c
own = refl
