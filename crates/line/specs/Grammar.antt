-- What a line of the log means. A line is its bytes without the feed.
use Rattle.std.specs.Prelude.{ℕ, ◌+◌, ◌-◌, ◌*◌, cond, not, ◌&&◌, List, [], ◌∷◌, ltb, leb, eqb, length, get_or, Option, Some, None}
use Rattle.line.specs.declared.records.Record.{Record}
use Rattle.line.specs.declared.records.Record.TheVariants.{Bad, Open, Add, Remove, Report, Leave, Search, Roster}
use Rattle.line.specs.Split.{split}

-- ---- a field

-- a byte's value as a digit: 0 to 9, A to F; 16 for any other byte
unfoldable pub digit_of : ℕ → ℕ
digit_of b = cond (leb 48 b && leb b 57) (b - 48) (cond (leb 65 b && leb b 70) (b - 55) 16)

-- the number that digits write in a base, after those that wrote n
unfoldable pub numeral : ℕ → ℕ → List ℕ → Option ℕ
numeral base n [] = Some n
numeral base n (b ∷ f) = cond (ltb (digit_of b) base) (numeral base (n * base + digit_of b) f) None

abbrev pub below : ℕ → Option ℕ → Option ℕ
below m None = None
below m (Some n) = cond (ltb n m) (Some n) None

-- 1 to 10 digits, no needless leading zero, below 2^32
unfoldable pub decimal : List ℕ → Option ℕ
decimal f =
    let needless = ltb 1 (length f) && eqb (get_or f 0 0) 48 in
    cond (leb 1 (length f) && (leb (length f) 10 && not needless)) (below 4294967296 (numeral 10 0 f)) None

-- 8 hex digits, the float's bits
unfoldable pub coordinate : List ℕ → Option ℕ
coordinate f = cond (eqb (length f) 8) (numeral 16 0 f) None

-- a field in base 10 is a decimal, one in base 16 a coordinate
abbrev pub value : ℕ → List ℕ → Option ℕ
value base f = cond (eqb base 10) (decimal f) (coordinate f)

-- ---- a line

-- M k P Q; A zone a b w h; D zone; P car x y; L car; S x y; R zone: the bases of the fields after the letter
unfoldable pub form : ℕ → List ℕ
form letter =
    cond (eqb letter 77) (10 ∷ 10 ∷ 10 ∷ [])
    (cond (eqb letter 65) (10 ∷ 10 ∷ 10 ∷ 10 ∷ 10 ∷ [])
    (cond (eqb letter 68) (10 ∷ [])
    (cond (eqb letter 80) (10 ∷ 16 ∷ 16 ∷ [])
    (cond (eqb letter 76) (10 ∷ [])
    (cond (eqb letter 83) (16 ∷ 16 ∷ [])
    (cond (eqb letter 82) (10 ∷ []) []))))))

-- the record with a letter and its values
unfoldable pub record_of : ℕ → List ℕ → Record
record_of letter v =
    let v₀ = get_or v 0 0 in
    let v₁ = get_or v 1 0 in
    let v₂ = get_or v 2 0 in
    cond (eqb letter 77) (Open v₀ v₁ v₂)
    (cond (eqb letter 65) (Add v₀ v₁ v₂ (get_or v 3 0) (get_or v 4 0))
    (cond (eqb letter 68) (Remove v₀)
    (cond (eqb letter 80) (Report v₀ v₁ v₂)
    (cond (eqb letter 76) (Leave v₀)
    (cond (eqb letter 83) (Search v₀ v₁)
    (cond (eqb letter 82) (Roster v₀) Bad))))))

-- a value in front of others, where there is one
abbrev pub with : Option ℕ → Option (List ℕ) → Option (List ℕ)
with None vs = None
with (Some n) None = None
with (Some n) (Some vs) = Some (n ∷ vs)

-- the values of fields, where there are as many as bases and each is right
unfoldable pub values : List ℕ → List (List ℕ) → Option (List ℕ)
values [] [] = Some []
values [] (f ∷ fs) = None
values (b ∷ bs) [] = None
values (b ∷ bs) (f ∷ fs) = with (value b f) (values bs fs)

abbrev pub recorded : ℕ → Option (List ℕ) → Record
recorded letter None = Bad
recorded letter (Some v) = record_of letter v

-- the first field is one letter
abbrev pub read : List (List ℕ) → Record
read [] = Bad
read ([] ∷ fs) = Bad
read ((letter ∷ []) ∷ fs) = recorded letter (values (form letter) fs)
read ((b ∷ c ∷ f) ∷ fs) = Bad

-- at most 80 bytes, its fields parted by one tab
unfoldable pub meaning : List ℕ → Record
meaning l = cond (ltb 80 (length l)) Bad (read (split 9 l))
