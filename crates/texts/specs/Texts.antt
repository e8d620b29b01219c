-- The text of a call's answer: its letter, then the refusal number alone, or 0 and the fields of the answer.
use Rattle.std.specs.Prelude.{ℕ, List, [], ◌∷◌, get_or, take}
use Rattle.squares.specs.Refusals.{Answer, refuse, accept}
use Rattle.model.specs.Answers.{Values, numbers, spot}
use Rattle.print.specs.Text.{Part, number, members, answer}

-- the letters of the records
pub data Letter : Type 0 where
  M : Letter
  A : Letter
  D : Letter
  P : Letter
  L : Letter
  S : Letter
  R : Letter

abbrev pub byte : Letter → ℕ
byte M = 77
byte A = 65
byte D = 68
byte P = 80
byte L = 76
byte S = 83
byte R = 82

-- value i of those that are answered
abbrev pub value_at : ℕ → Values → ℕ
value_at i (numbers values) = get_or values i 0
value_at i (spot p) = 0

-- the list whose length is value i, at the front of buffer j
abbrev pub list_at : ℕ → Values → ℕ → List (List ℕ) → Part
list_at i v j buffers = members (take (value_at i v) (get_or buffers j []))

-- M, D none; A squares, cars; P squares, entered, left; L squares, left; S squares, zones; R count, cars
abbrev pub fields : Letter → Values → List (List ℕ) → List Part
fields M v buffers = []
fields A v buffers = number (value_at 0 v) ∷ number (value_at 1 v) ∷ []
fields D v buffers = []
fields P v buffers = number (value_at 0 v) ∷ list_at 1 v 0 buffers ∷ list_at 2 v 1 buffers ∷ []
fields L v buffers = number (value_at 0 v) ∷ list_at 1 v 0 buffers ∷ []
fields S v buffers = number (value_at 0 v) ∷ list_at 1 v 0 buffers ∷ []
fields R v buffers = number (value_at 0 v) ∷ list_at 0 v 0 buffers ∷ []

abbrev pub parts_of : Letter → Answer Values → List (List ℕ) → List Part
parts_of letter (refuse n) buffers = number n ∷ []
parts_of letter (accept v) buffers = number 0 ∷ fields letter v buffers

abbrev pub text_of : Letter → Answer Values → List (List ℕ) → List ℕ
text_of letter said buffers = answer (byte letter) (parts_of letter said buffers)
