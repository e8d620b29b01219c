-- `sieve_codes`: what its loop keeps.
use Rattle.rides.specs.Apart.{code_out}
use Rattle.rides.specs.ApartLaws.{Sieving}
use Rattle.rides.proofs.apart.sieve_codes.Given as goal

abbrev pub invariant-loop-i : goal.invariant-loop-i
invariant-loop-i l = Sieving (code_out l.s l.r) l.initial.codes l.codes l.i l.kept
