-- Worked lines: those of the documents' whole case, and lines that mean nothing.
use Rattle.std.specs.Prelude.{◌≡◌, refl, [], ◌∷◌, replicate}
use Rattle.line.specs.declared.records.Record.TheVariants.{Bad, Open, Add, Remove, Report, Leave, Search, Roster}
use Rattle.line.specs.Split.{split}
use Rattle.line.specs.Grammar.{digit_of, numeral, decimal, coordinate, form, record_of, values, meaning}
use Rattle.line.specs.Lines.{lines}

-- M 2 4 4
pub open-line : meaning (77 ∷ 9 ∷ 50 ∷ 9 ∷ 52 ∷ 9 ∷ 52 ∷ []) ≡ Open 2 4 4
unfolding split digit_of numeral decimal coordinate form record_of values meaning
open-line = refl

-- A 1 5 2 8 12
pub add-line : meaning (65 ∷ 9 ∷ 49 ∷ 9 ∷ 53 ∷ 9 ∷ 50 ∷ 9 ∷ 56 ∷ 9 ∷ 49 ∷ 50 ∷ []) ≡ Add 1 5 2 8 12
unfolding split digit_of numeral decimal coordinate form record_of values meaning
add-line = refl

-- P 7 40B00000 40400000
pub report-line : meaning (80 ∷ 9 ∷ 55 ∷ 9 ∷ 52 ∷ 48 ∷ 66 ∷ 48 ∷ 48 ∷ 48 ∷ 48 ∷ 48 ∷ 9 ∷ 52 ∷ 48 ∷ 52 ∷ 48 ∷ 48 ∷ 48 ∷ 48 ∷ 48 ∷ []) ≡ Report 7 1085276160 1077936128
unfolding split digit_of numeral decimal coordinate form record_of values meaning
report-line = refl

-- L 7
pub leave-line : meaning (76 ∷ 9 ∷ 55 ∷ []) ≡ Leave 7
unfolding split digit_of numeral decimal coordinate form record_of values meaning
leave-line = refl

-- R 1
pub roster-line : meaning (82 ∷ 9 ∷ 49 ∷ []) ≡ Roster 1
unfolding split digit_of numeral decimal coordinate form record_of values meaning
roster-line = refl

-- D 15
pub remove-line : meaning (68 ∷ 9 ∷ 49 ∷ 53 ∷ []) ≡ Remove 15
unfolding split digit_of numeral decimal coordinate form record_of values meaning
remove-line = refl

-- S 41200000 41300000
pub search-line : meaning (83 ∷ 9 ∷ 52 ∷ 49 ∷ 50 ∷ 48 ∷ 48 ∷ 48 ∷ 48 ∷ 48 ∷ 9 ∷ 52 ∷ 49 ∷ 51 ∷ 48 ∷ 48 ∷ 48 ∷ 48 ∷ 48 ∷ []) ≡ Search 1092616192 1093664768
unfolding split digit_of numeral decimal coordinate form record_of values meaning
search-line = refl

-- D 4294967295
pub greatest-decimal : meaning (68 ∷ 9 ∷ 52 ∷ 50 ∷ 57 ∷ 52 ∷ 57 ∷ 54 ∷ 55 ∷ 50 ∷ 57 ∷ 53 ∷ []) ≡ Remove 4294967295
unfolding split digit_of numeral decimal coordinate form record_of values meaning
greatest-decimal = refl

-- L 0
pub zero : meaning (76 ∷ 9 ∷ 48 ∷ []) ≡ Leave 0
unfolding split digit_of numeral decimal coordinate form record_of values meaning
zero = refl

-- ---- lines that mean nothing

pub empty : meaning ([]) ≡ Bad
unfolding split digit_of numeral decimal coordinate form record_of values meaning
empty = refl

pub letter-alone : meaning (77 ∷ []) ≡ Bad
unfolding split digit_of numeral decimal coordinate form record_of values meaning
letter-alone = refl

pub no-such-letter : meaning (86 ∷ 9 ∷ 50 ∷ []) ≡ Bad
unfolding split digit_of numeral decimal coordinate form record_of values meaning
no-such-letter = refl

pub lower-case-letter : meaning (108 ∷ 9 ∷ 55 ∷ []) ≡ Bad
unfolding split digit_of numeral decimal coordinate form record_of values meaning
lower-case-letter = refl

pub two-letters : meaning (76 ∷ 76 ∷ 9 ∷ 55 ∷ []) ≡ Bad
unfolding split digit_of numeral decimal coordinate form record_of values meaning
two-letters = refl

pub field-short : meaning (77 ∷ 9 ∷ 50 ∷ 9 ∷ 52 ∷ []) ≡ Bad
unfolding split digit_of numeral decimal coordinate form record_of values meaning
field-short = refl

pub field-more : meaning (76 ∷ 9 ∷ 55 ∷ 9 ∷ 55 ∷ []) ≡ Bad
unfolding split digit_of numeral decimal coordinate form record_of values meaning
field-more = refl

pub trailing-tab : meaning (76 ∷ 9 ∷ 55 ∷ 9 ∷ []) ≡ Bad
unfolding split digit_of numeral decimal coordinate form record_of values meaning
trailing-tab = refl

pub leading-tab : meaning (9 ∷ 76 ∷ 9 ∷ 55 ∷ []) ≡ Bad
unfolding split digit_of numeral decimal coordinate form record_of values meaning
leading-tab = refl

pub doubled-tab : meaning (76 ∷ 9 ∷ 9 ∷ 55 ∷ []) ≡ Bad
unfolding split digit_of numeral decimal coordinate form record_of values meaning
doubled-tab = refl

pub blank : meaning (76 ∷ 32 ∷ 55 ∷ []) ≡ Bad
unfolding split digit_of numeral decimal coordinate form record_of values meaning
blank = refl

pub carriage-return : meaning (76 ∷ 9 ∷ 55 ∷ 13 ∷ []) ≡ Bad
unfolding split digit_of numeral decimal coordinate form record_of values meaning
carriage-return = refl

pub needless-zero : meaning (76 ∷ 9 ∷ 48 ∷ 55 ∷ []) ≡ Bad
unfolding split digit_of numeral decimal coordinate form record_of values meaning
needless-zero = refl

pub double-zero : meaning (76 ∷ 9 ∷ 48 ∷ 48 ∷ []) ≡ Bad
unfolding split digit_of numeral decimal coordinate form record_of values meaning
double-zero = refl

pub wraps-to-zero : meaning (76 ∷ 9 ∷ 52 ∷ 50 ∷ 57 ∷ 52 ∷ 57 ∷ 54 ∷ 55 ∷ 50 ∷ 57 ∷ 54 ∷ []) ≡ Bad
unfolding split digit_of numeral decimal coordinate form record_of values meaning
wraps-to-zero = refl

pub eleven-digits : meaning (76 ∷ 9 ∷ 49 ∷ 48 ∷ 48 ∷ 48 ∷ 48 ∷ 48 ∷ 48 ∷ 48 ∷ 48 ∷ 48 ∷ 48 ∷ []) ≡ Bad
unfolding split digit_of numeral decimal coordinate form record_of values meaning
eleven-digits = refl

pub sign : meaning (76 ∷ 9 ∷ 43 ∷ 55 ∷ []) ≡ Bad
unfolding split digit_of numeral decimal coordinate form record_of values meaning
sign = refl

pub letter-in-decimal : meaning (76 ∷ 9 ∷ 65 ∷ []) ≡ Bad
unfolding split digit_of numeral decimal coordinate form record_of values meaning
letter-in-decimal = refl

pub lower-case-hex : meaning (83 ∷ 9 ∷ 52 ∷ 49 ∷ 50 ∷ 48 ∷ 48 ∷ 48 ∷ 48 ∷ 97 ∷ 9 ∷ 52 ∷ 49 ∷ 51 ∷ 48 ∷ 48 ∷ 48 ∷ 48 ∷ 48 ∷ []) ≡ Bad
unfolding split digit_of numeral decimal coordinate form record_of values meaning
lower-case-hex = refl

pub seven-hex-digits : meaning (83 ∷ 9 ∷ 52 ∷ 49 ∷ 50 ∷ 48 ∷ 48 ∷ 48 ∷ 48 ∷ 9 ∷ 52 ∷ 49 ∷ 51 ∷ 48 ∷ 48 ∷ 48 ∷ 48 ∷ 48 ∷ []) ≡ Bad
unfolding split digit_of numeral decimal coordinate form record_of values meaning
seven-hex-digits = refl

pub nine-hex-digits : meaning (83 ∷ 9 ∷ 52 ∷ 49 ∷ 50 ∷ 48 ∷ 48 ∷ 48 ∷ 48 ∷ 48 ∷ 48 ∷ 9 ∷ 52 ∷ 49 ∷ 51 ∷ 48 ∷ 48 ∷ 48 ∷ 48 ∷ 48 ∷ []) ≡ Bad
unfolding split digit_of numeral decimal coordinate form record_of values meaning
nine-hex-digits = refl

-- 80 bytes are read, 81 are not, whatever they are
pub too_long : meaning (77 ∷ replicate 80 50) ≡ Bad
unfolding meaning
too_long = refl

-- ---- lines

pub two-lines : lines (76 ∷ 10 ∷ 82 ∷ 10 ∷ []) ≡ (76 ∷ []) ∷ (82 ∷ []) ∷ []
unfolding split
two-lines = refl

pub last-lacks-feed : lines (76 ∷ 10 ∷ 82 ∷ []) ≡ (76 ∷ []) ∷ (82 ∷ []) ∷ []
unfolding split
last-lacks-feed = refl

pub empty-line : lines (10 ∷ 10 ∷ 82 ∷ []) ≡ [] ∷ [] ∷ (82 ∷ []) ∷ []
unfolding split
empty-line = refl

pub no_line : lines ([]) ≡ []
unfolding split
no_line = refl
