use Prim.Native.Nat.{◌≤◌}
use native.Mathlib.Nat.{le_antisymm}
use native.Mathlib.Omega.{arith}
use Rattle.per.proofs.Compose.{after-ext, in-alt, in-choice, nothing, num-most, climb}
use mathlib.Core.Path.{◌≡◌}
use Rattle.std.proofs.Common.{rules}
use Rattle.pdu.specs.declared.downlink.Air.TheVariants.{Positive, Abort}
use Rattle.pdu.specs.DownlinkTable.{bare_air, air_alt, air_c}
use Rattle.pdu.proofs.downlink.AirPduPart.read.Goals as goal

pub returns-in-0 : goal.returns-in-0
unfolding air_c air_alt
returns-in-0 c = rw c.no_list.ensures (after-ext c.extension.ensures (in-choice _ _ _ 0 c.in-0.is c.index-i.ensures (in-alt _ _ _ _ _ _ nothing)))

pub returns-in-1 : goal.returns-in-1
unfolding air_c
returns-in-1 c = after-ext c.extension.ensures (in-choice _ _ _ 1 c.in-1.is c.index-i.ensures c.read_demand.ensures)

pub returns-in-2 : goal.returns-in-2
unfolding air_c
returns-in-2 c = after-ext c.extension.ensures (in-choice _ _ _ 2 c.in-2.is c.index-i.ensures c.read_emergency.ensures)

pub returns-in-3 : goal.returns-in-3
unfolding air_c
returns-in-3 c = after-ext c.extension.ensures (in-choice _ _ _ 3 c.in-3.is c.index-i.ensures c.read_event.ensures)

pub returns-in-4 : goal.returns-in-4
unfolding air_c
returns-in-4 c = after-ext c.extension.ensures (in-choice _ _ _ 4 c.in-4.is c.index-i.ensures c.read_refused.ensures)

pub returns-in-5 : goal.returns-in-5
unfolding air_c
returns-in-5 c = after-ext c.extension.ensures (in-choice _ _ _ 5 c.in-5.is c.index-i.ensures c.read_unmet.ensures)

pub returns-in-6 : goal.returns-in-6
unfolding air_c
returns-in-6 c = after-ext c.extension.ensures (in-choice _ _ _ 6 c.in-6.is c.index-i.ensures c.read_periodic.ensures)

pub returns-in-7 : goal.returns-in-7
unfolding air_c air_alt
returns-in-7 c = after-ext c.extension.ensures (in-choice _ _ _ 7 c.in-7.is c.index-i.ensures (let v : c.plain.result.value ≡ bare_air (Positive c.num.result.value) = search rules in rw (v, c.plain.ensures.next) (in-alt _ _ _ _ _ _ (after-ext c.extension-in-7.ensures c.num.ensures))))

pub returns-in_default : goal.returns-in_default
unfolding air_c air_alt
returns-in_default c = let i = c.index-i in
    let k = i.result.value in
    let r = c.in_default.in_default-own.rest in
    let h : 8 ≤ k = climb k 7 (climb k 6 (climb k 5 (climb k 4 (climb k 3 (climb k 2 (climb k 1 (climb k 0 (omega arith) r.0.0.0.0.0.0.0.1) r.0.0.0.0.0.0.1) r.0.0.0.0.0.1) r.0.0.0.0.1) r.0.0.0.1) r.0.0.1) r.0.1) r.1 in
    after-ext c.extension.ensures (in-choice _ _ _ 8 (le_antisymm (num-most 0 8 i.ensures) h) i.ensures (let v : c.plain-in_default.result.value ≡ bare_air (Abort c.num-in_default.result.value) = search rules in rw (v, c.plain-in_default.ensures.next) (in-alt _ _ _ _ _ _ (after-ext c.extension-in_default.ensures c.num-in_default.ensures))))
