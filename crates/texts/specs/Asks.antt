-- What the functions that write a text ask of an answer's values.
use Rattle.std.specs.Prelude.{ℕ}
use Rattle.squares.specs.Refusals.{Answer, refuse, accept}
use Rattle.model.specs.Answers.{Values}
use Rattle.texts.specs.Texts.{value_at}

-- value i of an answer, 0 where it is a refusal
abbrev pub value_of : ℕ → Answer Values → ℕ
value_of i (refuse n) = 0
value_of i (accept v) = value_at i v
