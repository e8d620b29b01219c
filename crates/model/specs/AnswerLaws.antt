-- An answer says what was told, and by which refusal: two that say the same are the same.
use Rattle.std.specs.Prelude.{ℕ, ◌≡◌, refl, Bool, true, false, List, get_or}
use Rattle.std.specs.declared.result.Result.{Result}
use Rattle.std.specs.declared.result.Result.TheVariants.{Ok, Err}
use Rattle.std.proofs.Common.{ap, sym, ◌∙◌, arith}
use Rattle.order.specs.Sums.{bit}
use Rattle.squares.specs.declared.refusal.Refusal.{Refusal}
use Rattle.squares.specs.Refusals.{number_of}
use Rattle.squares.specs.RefusalLaws.{number-same}
use Rattle.position.specs.declared.Position.{Position}
use Rattle.model.specs.declared.answers.Added.{Added}
use Rattle.model.specs.declared.answers.Ridden.{Ridden}
use Rattle.model.specs.declared.answers.Crossed.{Crossed}
use Rattle.model.specs.declared.answers.Looked.{Looked}
use Rattle.model.specs.declared.answers.Scoring.{Scoring}
use Rattle.model.specs.declared.answers.Standing.{Standing}
use Rattle.model.specs.Answers.{Values, numbers, spot, told, done_is, added_is, ridden_is, reported_is, left_is, searched_is, scored, scoring_is, count_is, standing_is, holder_is, where_is, soundness_is}

-- the numbers of what is told, by their place
abbrev nth : ℕ → Values → ℕ
nth i (numbers l) = get_or l i 0
nth i (spot p) = 0

told-same : {A : Type 0} (values : A → Values) → ((a b : A) → values a ≡ values b → a ≡ b) → (a b : Result A Refusal) → told values a ≡ told values b → a ≡ b
told-same values same (Err n) (Err m) e = ap Err (number-same n m cc)
told-same values same (Err n) (Ok b) e = cc
told-same values same (Ok a) (Err m) e = cc
told-same values same (Ok a) (Ok b) e = ap Ok (same a b cc)

pub opened-same : (a b : Result (Unit {0}) Refusal) → done_is a ≡ done_is b → a ≡ b
opened-same = told-same _ (λ a b e. refl)

pub removed-same : (a b : Result (Unit {0}) Refusal) → done_is a ≡ done_is b → a ≡ b
removed-same = opened-same

pub added-same : (a b : Result Added Refusal) → added_is a ≡ added_is b → a ≡ b
added-same = told-same _ (λ a b e. ap (λ (v : Values). record { squares = nth 0 v; cars = nth 1 v }) e)

pub ridden-same : (a b : Result Ridden Refusal) → ridden_is a ≡ ridden_is b → a ≡ b
ridden-same = told-same _ (λ a b e. ap (λ (v : Values). record { dropped = nth 0 v; taken = nth 1 v; entered = nth 2 v; left = nth 3 v }) e)

pub reported-same : (a b : Result Crossed Refusal) → reported_is a ≡ reported_is b → a ≡ b
reported-same = told-same _ (λ a b e. ap (λ (v : Values). record { squares = nth 0 v; entered = nth 1 v; left = nth 2 v }) e)

pub left-same : (a b : Result Looked Refusal) → left_is a ≡ left_is b → a ≡ b
left-same = told-same _ (λ a b e. ap (λ (v : Values). record { squares = nth 0 v; zones = nth 1 v }) e)

pub searched-same : (a b : Result Looked Refusal) → searched_is a ≡ searched_is b → a ≡ b
searched-same = told-same _ (λ a b e. ap (λ (v : Values). record { squares = nth 0 v; zones = nth 1 v }) e)

bit-same : (a b : Bool) → bit a ≡ bit b → a ≡ b
bit-same true true e = refl
bit-same true false e = absurd (omega (arith, e))
bit-same false true e = absurd (omega (arith, e))
bit-same false false e = refl

scored-same : (a b : Scoring) → scored a ≡ scored b → a ≡ b
scored-same a b e =
    let held : a.held ≡ b.held = bit-same a.held b.held (ap (nth 0) e) in
    let levels : a.levels ≡ b.levels = ap (nth 1) e in
    ap (λ (h : Bool). record { held = h; levels = a.levels }) held ∙ ap (λ (n : ℕ). record { held = b.held; levels = n }) levels

pub scoring-same : (a b : Result Scoring Refusal) → scoring_is a ≡ scoring_is b → a ≡ b
scoring-same = told-same _ scored-same

pub roster-same : (a b : Result ℕ Refusal) → count_is a ≡ count_is b → a ≡ b
roster-same = told-same _ (λ a b e. ap (nth 0) e)

pub count_same : (a b : Result ℕ Refusal) → count_is a ≡ count_is b → a ≡ b
count_same = roster-same

-- a standing by its numbers
abbrev standing_of : Values → Standing
standing_of v = record { team0 = nth 0 v; team1 = nth 1 v; team2 = nth 2 v; team3 = nth 3 v; team4 = nth 4 v; team5 = nth 5 v; team6 = nth 6 v; team7 = nth 7 v; holder = nth 8 v }

standing-same : (a b : Standing) → standing_is a ≡ standing_is b → a ≡ b
standing-same a b e = ap (λ (l : List ℕ). standing_of (numbers l)) e

pub holder-same : (a b : Result Standing Refusal) → holder_is a ≡ holder_is b → a ≡ b
holder-same = told-same _ (λ a b e. ap standing_of e)

abbrev spot_of : Position → Values → Position
spot_of p (numbers l) = p
spot_of p (spot q) = q

pub where-same : (a b : Result Position Refusal) → where_is a ≡ where_is b → a ≡ b
where-same = told-same _ (λ a b e. ap (spot_of a) e)

pub soundness-same : (a b : Result Bool Refusal) → soundness_is a ≡ soundness_is b → a ≡ b
soundness-same = told-same _ (λ a b e. bit-same a b (ap (nth 0) e))
