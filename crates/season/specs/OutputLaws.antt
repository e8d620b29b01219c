-- Laws of what is written: no answer has a feed but at its end, so each line answers one line.
use Rattle.std.specs.Prelude.{ℕ, zero, suc, ◌+◌, ◌/◌, ◌%◌, ◌≡◌, refl, Bool, true, false, cond, not, ◌&&◌, List, [], ◌∷◌, ◌++◌, map, ltb, eqb, length}
use Rattle.std.proofs.Common.{ap, ◌∙◌, append_assoc, arith, ne_eqb}
use Rattle.std.proofs.Math.Option.{none, some}
use Rattle.std.proofs.lemmas.Bool.{not-true}
use Rattle.order.specs.TestLaws.{and→}
use Rattle.model.specs.Model.{Town, nowhere}
use Rattle.line.specs.Split.{split, grow}
use Rattle.line.specs.Lines.{trimmed, lines}
use Rattle.line.specs.LineLaws.{trimmed-more}
use Rattle.print.specs.Text.{digits, text, followed, listed, Part, number, members, part_text, parts}
use Rattle.texts.specs.Texts.{Letter, byte, parts_of}
use Rattle.season.specs.Output.{Line, line_of, outcome_of, reply, town_after, answers, output}
use Rattle.season.specs.Season.{Told, pairs, told}

-- ---- no feed

-- no byte is a feed
abbrev plain : List ℕ → Bool
plain [] = true
plain (x ∷ l) = not (eqb x 10) && plain l

plain-append : (a b : List ℕ) → plain a ≡ true → plain b ≡ true → plain (a ++ b) ≡ true
plain-append [] b p q = q
plain-append (x ∷ a) b p q = let h = and→ (not (eqb x 10)) (plain a) p in rw h.0 (plain-append a b h.1 q)

plain-digit : (n : ℕ) → plain ((48 + n) ∷ []) ≡ true
plain-digit n = rw (ne_eqb (48 + n) 10 (λ (e : 48 + n ≡ 10). omega arith))

plain-digits : (k n : ℕ) → plain (digits k n) ≡ true
unfolding digits
plain-digits zero n = refl
plain-digits (suc k) n = go (ltb n 10) (plain-digits k (n / 10))
  where
    go : (t : Bool) → plain (digits k (n / 10)) ≡ true → plain (cond t ((48 + n) ∷ []) (digits k (n / 10) ++ ((48 + n % 10) ∷ []))) ≡ true
    go true h = plain-digit n
    go false h = plain-append (digits k (n / 10)) ((48 + n % 10) ∷ []) h (plain-digit (n % 10))

plain-followed : (l : List ℕ) → plain (followed l) ≡ true
unfolding followed
plain-followed [] = refl
plain-followed (n ∷ l) = plain-append (text n) (followed l) (plain-digits 10 n) (plain-followed l)

plain-part : (p : Part) → plain (part_text p) ≡ true
unfolding listed
plain-part (number n) = plain-digits 10 n
plain-part (members []) = refl
plain-part (members (n ∷ l)) = plain-append (text n) (followed l) (plain-digits 10 n) (plain-followed l)

plain-parts : (ps : List Part) → plain (parts ps) ≡ true
plain-parts [] = refl
plain-parts (p ∷ ps) = plain-append (part_text p) (parts ps) (plain-part p) (plain-parts ps)

-- ---- lines

split-feed : (l rest : List ℕ) → plain l ≡ true → split 10 (l ++ (10 ∷ rest)) ≡ l ∷ split 10 rest
unfolding split
split-feed [] rest p = refl
split-feed (x ∷ l) rest p = let h = and→ (not (eqb x 10)) (plain l) p in rw (not-true (eqb x 10) h.0) (ap (grow x) (split-feed l rest h.1))

lines-feed : (l rest : List ℕ) → plain l ≡ true → lines (l ++ (10 ∷ rest)) ≡ l ∷ lines rest
lines-feed l rest p = ap trimmed (split-feed l rest p) ∙ trimmed-more l rest

-- a reply without its feed
abbrev pub bare : Town → Line → List ℕ
bare m none = 63 ∷ parts (number 14 ∷ [])
bare m (some line) = let left = (outcome_of m line.1).result in byte line.0 ∷ parts (parts_of line.0 left.answer left.buffers)

bare-plain : (m : Town) (line : Line) → plain (bare m line) ≡ true
bare-plain m none = plain-parts (number 14 ∷ [])
bare-plain m (some line) = let left = (outcome_of m line.1).result in letter line.0 (parts_of line.0 left.answer left.buffers)
  where
    letter : (a : Letter) (ps : List Part) → plain (byte a ∷ parts ps) ≡ true
    letter Letter.M ps = plain-parts ps
    letter Letter.A ps = plain-parts ps
    letter Letter.D ps = plain-parts ps
    letter Letter.P ps = plain-parts ps
    letter Letter.L ps = plain-parts ps
    letter Letter.S ps = plain-parts ps
    letter Letter.R ps = plain-parts ps

reply-bare : (m : Town) (line : Line) → reply m line ≡ bare m line ++ (10 ∷ [])
reply-bare m none = refl
reply-bare m (some line) = refl

lines-reply : (m : Town) (line : Line) (rest : List ℕ) → lines (reply m line ++ rest) ≡ bare m line ∷ lines rest
lines-reply m line rest = ap (λ (l : List ℕ). lines (l ++ rest)) (reply-bare m line) ∙ ap lines (append_assoc (bare m line) (10 ∷ []) rest) ∙ lines-feed (bare m line) rest (bare-plain m line)

-- ---- the whole

-- the lines from a town on, each with its answer
abbrev pub tells : Town → List (List ℕ) → List Told
tells m [] = []
tells m (l ∷ ls) = record { line = l; answer = bare m (line_of l) } ∷ tells (town_after m (line_of l)) ls

tells-pairs : (m : Town) (ls : List (List ℕ)) → pairs ls (lines (answers m (map line_of ls))) ≡ tells m ls
unfolding answers split
tells-pairs m [] = refl
tells-pairs m (l ∷ ls) =
    let next = town_after m (line_of l) in
    ap (pairs (l ∷ ls)) (lines-reply m (line_of l) (answers next (map line_of ls))) ∙ ap (λ (ts : List Told). record { line = l; answer = bare m (line_of l) } ∷ ts) (tells-pairs next ls)

pub told-tells : (input : List ℕ) → told input ≡ tells nowhere (lines input)
unfolding output
told-tells input = tells-pairs nowhere (lines input)

-- each line answers one line
pub one_each : (m : Town) (ls : List (List ℕ)) → length (lines (answers m (map line_of ls))) ≡ length ls
unfolding answers split
one_each m [] = refl
one_each m (l ∷ ls) = let next = town_after m (line_of l) in ap length (lines-reply m (line_of l) (answers next (map line_of ls))) ∙ ap suc (one_each next ls)
