-- Worked answers: those of the documents' whole case, and others.
use Rattle.std.specs.Prelude.{◌≡◌, refl, [], ◌∷◌}
use Rattle.print.specs.Text.{digits, followed, listed, number, members, answer}

-- M 0
pub open-answer : answer 77 (number 0 ∷ []) ≡ 77 ∷ 9 ∷ 48 ∷ 10 ∷ []
unfolding digits followed listed
open-answer = refl

-- A 0 36 0
pub add-answer : answer 65 (number 0 ∷ number 36 ∷ number 0 ∷ []) ≡ 65 ∷ 9 ∷ 48 ∷ 9 ∷ 51 ∷ 54 ∷ 9 ∷ 48 ∷ 10 ∷ []
unfolding digits followed listed
add-answer = refl

-- P 0 3 1 -
pub enter-answer : answer 80 (number 0 ∷ number 3 ∷ members (1 ∷ []) ∷ members [] ∷ []) ≡ 80 ∷ 9 ∷ 48 ∷ 9 ∷ 51 ∷ 9 ∷ 49 ∷ 9 ∷ 45 ∷ 10 ∷ []
unfolding digits followed listed
enter-answer = refl

-- P 0 6 - -
pub move-answer : answer 80 (number 0 ∷ number 6 ∷ members [] ∷ members [] ∷ []) ≡ 80 ∷ 9 ∷ 48 ∷ 9 ∷ 54 ∷ 9 ∷ 45 ∷ 9 ∷ 45 ∷ 10 ∷ []
unfolding digits followed listed
move-answer = refl

-- R 0 1 7
pub roster-answer : answer 82 (number 0 ∷ number 1 ∷ members (7 ∷ []) ∷ []) ≡ 82 ∷ 9 ∷ 48 ∷ 9 ∷ 49 ∷ 9 ∷ 55 ∷ 10 ∷ []
unfolding digits followed listed
roster-answer = refl

-- A 6
pub refused-answer : answer 65 (number 6 ∷ []) ≡ 65 ∷ 9 ∷ 54 ∷ 10 ∷ []
unfolding digits followed listed
refused-answer = refl

-- L 0 3 1
pub leave-answer : answer 76 (number 0 ∷ number 3 ∷ members (1 ∷ []) ∷ []) ≡ 76 ∷ 9 ∷ 48 ∷ 9 ∷ 51 ∷ 9 ∷ 49 ∷ 10 ∷ []
unfolding digits followed listed
leave-answer = refl

-- ? 14
pub bad-answer : answer 63 (number 14 ∷ []) ≡ 63 ∷ 9 ∷ 49 ∷ 52 ∷ 10 ∷ []
unfolding digits followed listed
bad-answer = refl

-- S 0 6 1,10,15
pub list-answer : answer 83 (number 0 ∷ number 6 ∷ members (1 ∷ 10 ∷ 15 ∷ []) ∷ []) ≡ 83 ∷ 9 ∷ 48 ∷ 9 ∷ 54 ∷ 9 ∷ 49 ∷ 44 ∷ 49 ∷ 48 ∷ 44 ∷ 49 ∷ 53 ∷ 10 ∷ []
unfolding digits followed listed
list-answer = refl

-- A 4294967295
pub greatest-text : answer 65 (number 4294967295 ∷ []) ≡ 65 ∷ 9 ∷ 52 ∷ 50 ∷ 57 ∷ 52 ∷ 57 ∷ 54 ∷ 55 ∷ 50 ∷ 57 ∷ 53 ∷ 10 ∷ []
unfolding digits followed listed
greatest-text = refl
