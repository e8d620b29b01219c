-- A power of two is a one shifted.
use Rattle.std.proofs.Common.{arith, pow_pos, pow_mono}
use Rattle.squares.specs.PowerLaws.{shifted}
use Rattle.squares.proofs.powers.two_to.Goals as goal

pub returns : goal.returns
returns c = let e = shifted c.args.j (omega (arith, c.requires)) in record { is = e; some = rw e (pow_pos _); small = rw e (pow_mono c.requires) }
