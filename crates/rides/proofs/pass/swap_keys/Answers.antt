-- `swap_keys` goes from block to block: what lies before a block is done, what lies after it is as it was.
use native.Mathlib.Omega.{arith}
use borrow.Author.Rules.{rules}
use Rattle.rides.specs.PassLaws.{pass-begins, pass-turns, pass-ends}
use Rattle.rides.proofs.pass.swap_keys.Goals as goal

pub loop-m-init : goal.loop-m-init
loop-m-init c = pass-begins c.requires

pub loop-m-preserved : goal.loop-m-preserved
loop-m-preserved c = pass-turns c.requires c.loop-m.invariant (omega arith) c.run_end-next.ensures (search rules) c.swap_block-from.ensures

pub returns : goal.returns
returns c = pass-ends c.requires c.loop-m.invariant (omega arith)
