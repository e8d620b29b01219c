-- `float_of` gives the NaN for the bits of one, and else the float with these bits.
use mathlib.Core.Path.{sym}
use lib.Ieee.{div, of_bits}
use Rattle.position.proofs.Nans.{nan-bits, no-nan-bits}
use Rattle.position.proofs.float_of.Goals as goal

pub returns-then-bits-gt2139095040 : goal.returns-then-bits-gt2139095040
returns-then-bits-gt2139095040 c = unfold div of_bits in sym (nan-bits _ c.if-bits-gt2139095040.true)

pub float_from_bits-result : goal.float_from_bits-result
float_from_bits-result c = no-nan-bits _ c.if-bits-gt2139095040.false
