-- The data of a record at the front of a buffer. Assumes nothing.
use Prim.Native.Nat.{ℕ, ◌+◌, ◌≤◌}
use mathlib.Core.Path.{◌≡◌, ap, ◌∙◌}
use mathlib.Core.List.{List, append_assoc}
use native.Mathlib.Omega.{arith}
use borrow.Author.Tests.{le-leb}
use lib.Dec.{lit≤}
use lib.ListN.{length, take}
use lib.Seq.{sets, sets-eq, take_at}
use Rattle.per.specs.Pdu.{encode}
use Rattle.per.specs.Writing.{write_pdu, sent}
use Rattle.std.specs.Prelude.{Result, Ok, Err}
use Rattle.refusals.specs.declared.Refusal.{Refusal}
use Rattle.per.specs.Written.{Octets, told}
use Rattle.per.proofs.Longest.{up}
use Rattle.per.proofs.RoundTrip.{length-encode}
use Rattle.pdu.specs.declared.uplink.Ground.{Ground}
use Rattle.pdu.specs.UplinkTable.{ground_c}
use Rattle.pdu.specs.Answers.{Sends}
use Rattle.pdu.proofs.UplinkBounds.{ground-most}
use Rattle.link.specs.Names.{timers}
use Rattle.octets.specs.Octets.{quads}
use Rattle.octets.specs.laws.Numbers.{length-quads}
use Rattle.ground_answer.specs.declared.record.Link.{Link}
use Rattle.host_record.specs.RecordLayout.{RECORD-OCTETS, rest_octets, record_octets, saved}
use Rattle.host_record.proofs.Puts.{length-record, saved-record}
use Rattle.log_play.specs.Steps.{SETTINGS-OCTETS}

-- ---- a request that may be written finds room
module _ (g : Ground) (o : List ℕ) (ok : ground_c.chk g ≡ 0) (room : 2048 ≤ length o) where
  written : write_pdu ground_c g o ≡ sent (encode ground_c g) o
  unfolding write_pdu
  written =
      let m = (up {n = 1024} (lit≤ tt) ground-most).bits g in
      let fits : length (encode ground_c g) ≤ length o = omega (arith, length-encode ground_c g, m) in
      rw (ok, le-leb _ _ fits)

  module _ (w : Result ℕ Refusal) (p : List ℕ) (is : Sends ground_c g o w p) where
    answer_is : told w ≡ Octets (length (encode ground_c g))
    answer_is = is.answer_is ∙ ap (λ d. d.answer) written

    pub request-front : (n : ℕ) → w ≡ Ok n → take n p ≡ encode ground_c g
    request-front n e =
        let z = answer_is in
        let y = ap told e in
        let same : length (encode ground_c g) ≡ n = cc in
        ap (take n) (is.octets_are ∙ ap (λ d. d.octets) written) ∙ take_at (encode ground_c g) _ n same

    pub request-goes : (n : Refusal) → w ≡ Err n → ⊥
    request-goes n e = let z = answer_is in let y = ap told e in let u : ◌≡◌ {A = ℕ} 0 1 = cc in omega arith

-- ---- a link record begins with its settings
pub settings-front : (l : Link) → length l.setting ≡ timers → length l.left ≡ timers → (z r o p : List ℕ) → length z ≡ RECORD-OCTETS → r ≡ saved l z → 2048 ≤ length o → p ≡ sets o 0 r
    → take SETTINGS-OCTETS p ≡ quads l.setting
unfolding record_octets
settings-front l ten left z r o p long is room e =
    let whole = length-record l left ten in
    let fits : 0 + length (record_octets l) ≤ length o = omega (arith, whole) in
    let n : length (quads l.setting) ≡ SETTINGS-OCTETS = length-quads l.setting ∙ omega (arith, ten) in
    ap (take SETTINGS-OCTETS) (e ∙ ap (sets o 0) (is ∙ saved-record l z long) ∙ sets-eq (record_octets l) o 0 fits ∙ append_assoc (quads l.setting) (rest_octets l) _)
    ∙ take_at (quads l.setting) _ SETTINGS-OCTETS n
