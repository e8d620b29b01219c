-- Laws of the climb from a unit cell to the first square that has a zone on its list: its loop, and what sound tables give.
use Rattle.std.specs.Prelude.{ℕ, zero, suc, ◌+◌, ◌<◌, ◌≤◌, ◌≡◌, refl, Bool, true, false, List, [], ◌∷◌}
use Rattle.std.proofs.Math.Path.{ap}
use Rattle.std.proofs.Common.{ap₂, sym, ◌∙◌, arith}
use Rattle.order.specs.Sums.{bit}
use Rattle.squares.specs.declared.shape.Shape.{Shape}
use Rattle.squares.specs.Squares.{squares, squares_on, number}
use Rattle.squares.specs.Leaves.{OnMap, Below}
use Rattle.squares.specs.SquareLaws.{number-below}
use Rattle.position.specs.declared.Position.{Position}
use Rattle.position.specs.Answer.{column_of, row_of}
use Rattle.position.specs.Laws.{column-below, row_below}
use Rattle.model.specs.Answers.{numbers}
use Rattle.model.specs.Model.{zones_at, zones_on, filled, climb, levels}
use Rattle.model.specs.ScoringLaws.{some_to, climb-ext, climb-here, climb-on, scores-somewhere}
use Rattle.tables.specs.Tables.{Tables, shape_of, town_of}
use Rattle.tables.specs.Derived.{place}
use Rattle.tables.specs.Sound.{Sound}
use Rattle.tables.specs.Runs.{parent_of, listed_at}
use Rattle.tables.specs.RunLaws.{listed-cut}
use Rattle.tables.specs.CheckLaws.{size_of}
use Rattle.lookup.specs.Looks.{listed_on, Climbs}
use Rattle.lookup.specs.LookLaws.{level-up, level-start}

-- ---- the loop

-- from the unit cell on no level before `level` has a zone; with this one, whose square has the place p, `looked` are looked at
pub record Climbing (s : Shape) (x y : ℕ) (starts : List ℕ) (p looked : ℕ) : Type 0 where
  pub level : ℕ
  pub sum : level + looked ≡ s.k + 1
  pub some : 0 < looked
  pub at : p ≡ place s level (number s level x y)
  pub any : some_to (listed_on s x y starts) s.k ≡ some_to (listed_on s x y starts) level
  pub count : climb (listed_on s x y starts) s.k + 1 ≡ looked + climb (listed_on s x y starts) level

module _ {s : Shape} {x y : ℕ} (map : OnMap s x y) (starts : List ℕ) where
  pub climb-begins : {n p : ℕ} → Below (number s s.k x y) (squares_on s s.k) n → Below (place s s.k n) (squares s) p → Climbing s x y starts p 1
  climb-begins h w = record { level = s.k; sum = refl; some = omega arith; at = w.is ∙ ap (place s s.k) h.is; any = refl; count = omega arith }

  module _ {p looked : ℕ} (c : Climbing s x y starts p looked) where
    few : c.level ≤ s.k
    few = omega (arith, c.sum, c.some)

    pub climb-start : {many : ℕ} → many ≡ squares s + 1 → p + 1 < many
    climb-start e = level-start map c.level few c.at e

    mark : {r t : Bool} → r ≡ listed_at starts p → r ≡ t → listed_on s x y starts c.level ≡ t
    mark e q = ap (listed_at starts) (sym c.at) ∙ sym e ∙ q

    answers : {t : Bool} → some_to (listed_on s x y starts) c.level ≡ t → climb (listed_on s x y starts) c.level ≡ 1 → numbers (bit t ∷ looked ∷ []) ≡ numbers (bit (some_to (listed_on s x y starts) s.k) ∷ climb (listed_on s x y starts) s.k ∷ [])
    answers {t} e f =
        let same : looked ≡ climb (listed_on s x y starts) s.k = omega (arith, c.count, f) in
        ap₂ (λ (a : Bool) (b : ℕ). numbers (bit a ∷ b ∷ [])) (sym (c.any ∙ e)) same

    -- at the first list that is not empty
    pub climb-found : {r : Bool} → r ≡ listed_at starts p → r ≡ true → Climbs s x y starts (record { held = true; levels = looked })
    climb-found e q = let a = climb-here (listed_on s x y starts) c.level (mark e q) in answers a.0 a.1

    -- past the block
    pub climb-ended : {r : Bool} → r ≡ listed_at starts p → r ≡ false → s.k < looked → Climbs s x y starts (record { held = false; levels = looked })
    unfolding some_to climb
    climb-ended e q h =
        let z : c.level ≡ 0 = omega (arith, c.sum) in
        answers (ap (some_to (listed_on s x y starts)) z ∙ ap (listed_on s x y starts) (sym z) ∙ mark e q) (ap (climb (listed_on s x y starts)) z)

    pub climb-turns : {p' : ℕ} {r : Bool} → r ≡ listed_at starts p → r ≡ false → looked ≤ s.k → p' ≡ parent_of s p → Climbing s x y starts p' (looked + 1)
    climb-turns {p'} e q h up = go c.level refl
      where
        go : (i : ℕ) → c.level ≡ i → Climbing s x y starts p' (looked + 1)
        go zero z = absurd (omega (arith, c.sum))
        go (suc i) z =
            let on = climb-on (listed_on s x y starts) i (ap (listed_on s x y starts) (sym z) ∙ mark e q) in
            let all = ap (climb (listed_on s x y starts)) z ∙ on.1 in
            record {
              level = i;
              sum = omega (arith, c.sum);
              some = omega arith;
              at = level-up map i (omega (arith, few)) (c.at ∙ ap (λ (j : ℕ). place s j (number s j x y)) z) up;
              any = c.any ∙ ap (some_to (listed_on s x y starts)) z ∙ on.0;
              count = omega (arith, c.count, all);
            }

-- ---- on sound tables

-- the marks are the squares that are in the cut of a standing zone
module _ {t : Tables} (sound : Sound t) (p : Position) where
  abbrev s : Shape
  s = shape_of t

  abbrev marks : ℕ → Bool
  marks = listed_on s (column_of s p) (row_of s p) t.derived.starts

  same-marks : (climb marks s.k ≡ levels (town_of t) p) × (some_to marks s.k ≡ some_to (λ (i : ℕ). filled (zones_on (town_of t) p i)) s.k)
  same-marks = climb-ext marks (λ (i : ℕ). filled (zones_on (town_of t) p i)) s.k
      (λ i h. listed-cut sound i (number s i (column_of s p) (row_of s p)) h (number-below s i (column_of s p) (row_of s p) h (column-below s p (size_of sound).shape) (row_below s p (size_of sound).shape)))

  pub climb-sound : (some_to marks s.k ≡ filled (zones_at (town_of t) p)) × (climb marks s.k ≡ levels (town_of t) p)
  climb-sound = (same-marks.1 ∙ sym (scores-somewhere (town_of t) p (size_of sound).shape), same-marks.0)
