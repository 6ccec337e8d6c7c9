use Prim.Native.Nat.{◌-◌}
use lib.ListN.{length, take, drop}
use mathlib.Core.Path.{refl}
use borrow.Author.Tests.{not-true, not-false}
use Rattle.text.proofs.Laws.{part-all}
use Rattle.host_lines.specs.Fields.{asked_in}
use Rattle.host_lines.proofs.FieldLaws.{asked-no-link, asked-no-octets, asked-no-out, asked-all, asks_nothing}
use Rattle.host_lines.proofs.NumberLaws.{numbers_fit}
use Rattle.host_lines.proofs.fields.parse.Goals as goal

pub returns-then-not-x : goal.returns-then-not-x
returns-then-not-x c = let s = c.args.s.now in
    let pre = c.requires in
    let x = c.hex_step-x in
    asks_nothing c.unread.ensures (asked-no-link s x.result _ _ pre.0 x.ensures (not-true _ c.if-not-x.true))

pub returns-then-not-y : goal.returns-then-not-y
returns-then-not-y c = let s = c.args.s.now in
    let pre = c.requires in
    let x = c.hex_step-x in
    let t = take (length s - x.result.used) (drop x.result.used s) in
    let y = c.hex_step-y in
    asks_nothing c.unread-then-not-y.ensures (asked-no-octets s x.result _ _ pre.0 x.ensures (not-false _ c.if-not-x.false) t (part-all s x.result.used (length s) refl) y.result _ _ pre.1 y.ensures (not-true _ c.if-not-y.true))

pub returns-then-not-z : goal.returns-then-not-z
returns-then-not-z c = let s = c.args.s.now in
    let pre = c.requires in
    let x = c.hex_step-x in
    let t = take (length s - x.result.used) (drop x.result.used s) in
    let y = c.hex_step-y in
    let u = take (length t - y.result.used) (drop y.result.used t) in
    let z = c.hex_step-z in
    asks_nothing c.unread-then-not-z.ensures (asked-no-out s x.result _ _ pre.0 x.ensures (not-false _ c.if-not-x.false) t (part-all s x.result.used (length s) refl) y.result _ _ pre.1 y.ensures (not-false _ c.if-not-y.false) u (part-all t y.result.used (length t) refl) z.result _ _ pre.2 z.ensures (not-true _ c.if-not-z.true))

pub returns : goal.returns
unfolding asked_in
returns c = let s = c.args.s.now in
    let pre = c.requires in
    let x = c.hex_step-x in
    let t = take (length s - x.result.used) (drop x.result.used s) in
    let y = c.hex_step-y in
    let u = take (length t - y.result.used) (drop y.result.used t) in
    let z = c.hex_step-z in
    let n = c.numbers_in-numbers in
    record {
      is = asked-all s x.result _ _ pre.0 x.ensures (not-false _ c.if-not-x.false) t (part-all s x.result.used (length s) refl) y.result _ _ pre.1 y.ensures (not-false _ c.if-not-y.false) u (part-all t y.result.used (length t) refl) z.result _ _ pre.2 z.ensures (not-false _ c.if-not-z.false) _ (part-all u z.result.used (length u) refl) n.result n.ensures;
      link_fits = rw pre.0 at x.ensures.fits;
      octets_fits = rw pre.1 at y.ensures.fits;
      out_fits = rw pre.2 at z.ensures.fits;
      numbers_fit = rw n.ensures (numbers_fit _);
    }
