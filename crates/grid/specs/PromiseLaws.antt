-- How a call keeps its promise: its result is that of the test that stops it, or of none.
use Rattle.std.specs.Prelude.{ℕ, ◌<◌, ◌≤◌, ◌≡◌, true, false, List, [], ◌∷◌, length}
use Rattle.std.proofs.Common.{◌∙◌, zero-add, le-leb}
use Rattle.std.proofs.lemmas.Bool.{lt-leb}
use Rattle.order.specs.Order.{Wrote}
use Rattle.order.specs.BufferLaws.{wrote-over}
use Rattle.squares.specs.declared.shape.Shape.{Shape}
use Rattle.squares.specs.declared.shape.Rect.{Rect}
use Rattle.std.specs.declared.result.Result.TheVariants.{Ok, Err}
use Rattle.squares.specs.declared.refusal.Refusal.{Refusal}
use Rattle.squares.specs.Shape.{allowed, fits}
use Rattle.squares.specs.Squares.{number, side_on, squares_on, corner_x, corner_y, is_number}
use Rattle.cuts.specs.Cut.{cut}
use Rattle.cuts.specs.Leaves.{Counted}
use Rattle.squares.specs.Refusals.{result}
use Rattle.squares.specs.RefusalLaws.{Stops, number_at, stops, below, beyond, enough, short}
use Rattle.grid.specs.Promises.{makes, number_checks, number_gives, square_checks, square_gives, cut_checks, cut_is, cut_gives}

-- ---- the result by the test that stops the call

module _ (s : Shape) (i x y : ℕ) where
  pub number-stops : (j : ℕ) → Stops j (number_checks s i x y) → result (number_at j (number_checks s i x y)) [] (number s i x y ∷ []) ≡ number_gives s i x y
  unfolding number_gives
  number-stops j h = rw (stops j (number_checks s i x y) h)

module _ (s : Shape) (i n : ℕ) where
  pub square-stops : (j : ℕ) → Stops j (square_checks s i n) → result (number_at j (square_checks s i n)) [] (corner_x s i n ∷ corner_y s i n ∷ side_on s i ∷ []) ≡ square_gives s i n
  unfolding square_gives
  square-stops j h = rw (stops j (square_checks s i n) h)

  pub level-beyond : s.k < i → is_number s i n ≡ false
  level-beyond h = rw (lt-leb i s.k h)

  pub number-beyond : {m : ℕ} → i ≤ s.k → m ≡ squares_on s i → m ≤ n → is_number s i n ≡ false
  number-beyond h e g = rw (le-leb i s.k h, beyond e g)

  pub number-there : {m : ℕ} → i ≤ s.k → m ≡ squares_on s i → n < m → is_number s i n ≡ true
  number-there h e g = rw (le-leb i s.k h, below e g)

module _ (s : Shape) (r : Rect) (b : List ℕ) where
  pub cut-stops : (j : ℕ) → Stops j (cut_checks s r b) → result (number_at j (cut_checks s r b)) ((cut s r, b) ∷ []) (length (cut s r) ∷ []) ≡ cut_gives s r b
  unfolding cut_gives
  cut-stops j h = rw (stops j (cut_checks s r b) h)

-- the cut counted, and then refused or written
module _ (s : Shape) (r : Rect) (b : List ℕ) (count : ℕ) (ok : allowed s ≡ true) (fit : fits s r ≡ true) (h : Counted s r count) where
  pub cut_short : length b < count → makes (b ∷ []) (cut_is (Err Refusal.Buffer)) ≡ cut_gives s r b
  cut_short g = cut-stops s r b 2 (ok, (fit, short h.is g))

  pub cut-listed : (b' : List ℕ) (n : ℕ) → count ≤ length b → Wrote b b' 0 n (cut s r) → makes (b' ∷ []) (cut_is (Ok n)) ≡ cut_gives s r b
  cut-listed b' n g w =
      let all : n ≡ length (cut s r) = w.next ∙ zero-add (length (cut s r)) in
      rw (wrote-over w (rw (← h.is) g), all) (cut-stops s r b 3 (ok, (fit, (enough h.is g, tt))))
