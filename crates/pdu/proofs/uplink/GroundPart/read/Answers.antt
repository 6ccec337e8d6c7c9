use Prim.Native.Nat.{◌≤◌}
use native.Mathlib.Nat.{le_antisymm}
use native.Mathlib.Omega.{arith}
use Rattle.per.proofs.Compose.{after-ext, in-alt, in-choice, nothing, num-most, climb}
use Rattle.pdu.specs.UplinkTable.{ground_alt, ground_c}
use Rattle.pdu.proofs.uplink.GroundPart.read.Goals as goal

pub returns-in-0 : goal.returns-in-0
unfolding ground_c ground_alt
returns-in-0 c = after-ext c.extension.ensures (in-choice _ _ _ 0 c.in-0.is c.index-i.ensures (in-alt _ _ _ _ _ _ nothing))

pub returns-in-1 : goal.returns-in-1
unfolding ground_c ground_alt
returns-in-1 c = after-ext c.extension.ensures (in-choice _ _ _ 1 c.in-1.is c.index-i.ensures (rw (c.map.ensures.value, c.map.ensures.next) (in-alt _ _ _ _ _ _ (after-ext c.extension-in-1.ensures c.num.ensures))))

pub returns-in-2 : goal.returns-in-2
unfolding ground_c ground_alt
returns-in-2 c = after-ext c.extension.ensures (in-choice _ _ _ 2 c.in-2.is c.index-i.ensures (in-alt _ _ _ _ _ _ nothing))

pub returns-in-3 : goal.returns-in-3
unfolding ground_c ground_alt
returns-in-3 c = after-ext c.extension.ensures (in-choice _ _ _ 3 c.in-3.is c.index-i.ensures (rw (c.map-in-3.ensures.value, c.map-in-3.ensures.next) (in-alt _ _ _ _ _ _ (after-ext c.extension-in-3.ensures c.mask.ensures))))

pub returns-in-4 : goal.returns-in-4
unfolding ground_c ground_alt
returns-in-4 c = after-ext c.extension.ensures (in-choice _ _ _ 4 c.in-4.is c.index-i.ensures (rw (c.map-in-4.ensures.value, c.map-in-4.ensures.next) (in-alt _ _ _ _ _ _ (after-ext c.extension-in-4.ensures c.read.ensures))))

pub returns-in-5 : goal.returns-in-5
unfolding ground_c ground_alt
returns-in-5 c = after-ext c.extension.ensures (in-choice _ _ _ 5 c.in-5.is c.index-i.ensures (rw (c.map-in-5.ensures.value, c.map-in-5.ensures.next) (in-alt _ _ _ _ _ _ c.read-in-5.ensures)))

pub returns-in-6 : goal.returns-in-6
unfolding ground_c ground_alt
returns-in-6 c = after-ext c.extension.ensures (in-choice _ _ _ 6 c.in-6.is c.index-i.ensures (rw (c.map-in-6.ensures.value, c.map-in-6.ensures.next) (in-alt _ _ _ _ _ _ (after-ext c.extension-in-6.ensures c.read-in-6.ensures))))

pub returns-in_default : goal.returns-in_default
unfolding ground_c ground_alt
returns-in_default c = let i = c.index-i in
    let k = i.result.value in
    let r = c.in_default.in_default-own.rest in
    let h : 7 ≤ k = climb k 6 (climb k 5 (climb k 4 (climb k 3 (climb k 2 (climb k 1 (climb k 0 (omega arith) r.0.0.0.0.0.0.1) r.0.0.0.0.0.1) r.0.0.0.0.1) r.0.0.0.1) r.0.0.1) r.0.1) r.1 in
    after-ext c.extension.ensures (in-choice _ _ _ 7 (le_antisymm (num-most 0 7 i.ensures) h) i.ensures (rw (c.map-in_default.ensures.value, c.map-in_default.ensures.next) (in-alt _ _ _ _ _ _ (after-ext c.extension-in_default.ensures c.num-in_default.ensures))))
