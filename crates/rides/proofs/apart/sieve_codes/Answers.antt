-- `sieve_codes` moves the squares that are not in the cut to the front.
use mathlib.Core.Path.{ap, sym, ◌∙◌}
use mathlib.Core.Bool.{not}
use native.Mathlib.Omega.{arith}
use Rattle.rides.specs.ApartLaws.{sieve-begins, sieve-takes, sieve-skips}
use Rattle.rides.proofs.apart.sieve_codes.Goals.{then-not-in_cut, else-not-in_cut}
use Rattle.rides.proofs.apart.sieve_codes.Goals as goal

pub loop-i-init : goal.loop-i-init
loop-i-init c = sieve-begins _ _

pub loop-i-preserved : goal.loop-i-preserved
loop-i-preserved c = elim c.if-not-in_cut.branch [
  | then-not-in_cut w ↦ rw w.kept-is (sieve-takes c.loop-i.invariant (omega arith) (ap not (sym c.in_cut.ensures ∙ w.if-not-in_cut.true)))
  | else-not-in_cut w ↦ rw w.kept-is (sieve-skips c.loop-i.invariant (omega arith) (ap not (sym c.in_cut.ensures ∙ w.if-not-in_cut.false)))
]
