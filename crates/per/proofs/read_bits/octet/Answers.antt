use native.Mathlib.Omega.{arith}
use mathlib.Core.Path.{◌∙◌}
use Rattle.per.proofs.Octets.{window-octet, octet-is}
use Rattle.per.proofs.read_bits.octet.Goals as goal

pub bounds-s-i : goal.bounds-s-i
bounds-s-i c = window-octet _ _ c.requires

pub returns : goal.returns
returns c = let h = c.shared_slice_known-2-1.given c.args.i in
    (c.wide.ensures.0 ∙ octet-is _ _ c.requires h.fits, omega arith)
