-- A power of four is a one shifted twice as far.
use Rattle.std.proofs.Common.{◌*◌, ◌∙◌, arith}
use Rattle.squares.specs.PowerLaws.{shifted, two-two, four-pos, four-small}
use Rattle.squares.proofs.powers.four_to.Goals as goal

pub returns : goal.returns
returns c = let e = shifted (2 * c.args.i) (omega (arith, c.requires)) ∙ two-two c.args.i in record { is = e; some = rw e (four-pos _); small = rw e (four-small _ 6 c.requires) }
