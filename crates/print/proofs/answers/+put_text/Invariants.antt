-- The number falls with each call.
use Rattle.print.proofs.answers.+put_text.Given as goal

abbrev pub decreases-put_text : goal.decreases-put_text
decreases-put_text l = l.n
