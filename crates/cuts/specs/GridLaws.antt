-- Sums over the squares of a level: of a product of what the column gives and what the row gives, it is the sum over the columns times the sum over the rows.
use Rattle.std.specs.Prelude.{ℕ, zero, suc, ◌+◌, ◌*◌, ◌/◌, ◌%◌, ◌^◌, ◌<◌, ◌≡◌}
use Rattle.std.proofs.Common.{ap₂, sym, ◌∙◌, arith, pow-suc, mul_comm, mul-add, add-mul, zero-add, lit<}
use Rattle.std.proofs.Math.Arith.{digits_div, digits_mod}
use Rattle.order.specs.Sums.{sum}
use Rattle.order.specs.SumLaws.{sum-ext, sum-times, sum-grid}
use Rattle.squares.specs.Squares.{evens}
use Rattle.squares.specs.SquareLaws.{column, row, evens-high, odds-high}

-- the column and the row of a child in its block
child-column : (i m c : ℕ) → c < 4 → evens (suc i) (m * 4 + c) ≡ evens i m * 2 + c % 2
unfolding evens
child-column i m c h =
    let e : (m * 4 + c) / 4 ≡ m = omega arith in
    rw e (omega arith)

child-row : (i m c : ℕ) → c < 4 → evens (suc i) ((m * 4 + c) / 2) ≡ evens i (m / 2) * 2 + c / 2
unfolding evens
child-row i m c h =
    let e : (m * 4 + c) / 2 / 4 ≡ m / 2 = omega arith in
    rw e (omega arith)

-- the four children of a square: two columns and two rows
children : (i m : ℕ) (f g : ℕ → ℕ) → sum (λ (c : ℕ). f (evens (suc i) (m * 4 + c)) * g (evens (suc i) ((m * 4 + c) / 2))) 4 ≡ sum (λ (c : ℕ). f (evens i m * 2 + c)) 2 * sum (λ (c : ℕ). g (evens i (m / 2) * 2 + c)) 2
unfolding sum
children i m f g =
    let at : (c : ℕ) → c < 4 → f (evens (suc i) (m * 4 + c)) * g (evens (suc i) ((m * 4 + c) / 2)) ≡ f (evens i m * 2 + c % 2) * g (evens i (m / 2) * 2 + c / 2) = λ c h. ap₂ (λ (x y : ℕ). f x * g y) (child-column i m c h) (child-row i m c h) in
    rw (at 0 (lit< tt), at 1 (lit< tt), at 2 (lit< tt), at 3 (lit< tt)) (product (f (evens i m * 2 + 0)) (f (evens i m * 2 + 1)) (g (evens i (m / 2) * 2 + 0)) (g (evens i (m / 2) * 2 + 1)))
  where
    product : (a b c d : ℕ) → 0 + a * c + b * c + a * d + b * d ≡ (0 + a + b) * (0 + c + d)
    product a b c d = rw (zero-add a, zero-add c, zero-add (a * c), mul-add (a + b) c d, add-mul a b c, add-mul a b d) (omega arith)

-- the squares of a block
in_block : (i : ℕ) (f g : ℕ → ℕ) → sum (λ (m : ℕ). f (evens i m) * g (evens i (m / 2))) (4 ^ i) ≡ sum f (2 ^ i) * sum g (2 ^ i)
unfolding evens sum
in_block zero f g = rw (zero-add (f 0), zero-add (g 0)) (zero-add (f 0 * g 0))
in_block (suc i) f g =
    let both : ℕ → ℕ = λ m. f (evens (suc i) m) * g (evens (suc i) (m / 2)) in
    let f' : ℕ → ℕ = λ x. sum (λ (c : ℕ). f (x * 2 + c)) 2 in
    let g' : ℕ → ℕ = λ x. sum (λ (c : ℕ). g (x * 2 + c)) 2 in
    rw (pow-suc 4 i, pow-suc 2 i) (
    sum-grid both (4 ^ i) 4
    ∙ sum-ext (λ (m : ℕ). sum (λ (c : ℕ). both (m * 4 + c)) 4) (λ (m : ℕ). f' (evens i m) * g' (evens i (m / 2))) (4 ^ i) (λ m l. children i m f g)
    ∙ in_block i f' g'
    ∙ sym (ap₂ ◌*◌ (sum-grid f (2 ^ i) 2) (sum-grid g (2 ^ i) 2)))

-- the blocks of a town: p columns and q rows
over-blocks : (p q : ℕ) (f g : ℕ → ℕ) → sum (λ (b : ℕ). f (b % p) * g (b / p)) (p * q) ≡ sum f p * sum g q
over-blocks p q f g =
    rw (mul_comm p q) (
    sum-grid (λ (b : ℕ). f (b % p) * g (b / p)) q p
    ∙ sum-ext (λ (y : ℕ). sum (λ (x : ℕ). f ((y * p + x) % p) * g ((y * p + x) / p)) p) (λ (y : ℕ). g y * sum f p) q (λ y l. across y)
    ∙ sum-times g q (sum f p)
    ∙ mul_comm (sum g q) (sum f p))
  where
    across : (y : ℕ) → sum (λ (x : ℕ). f ((y * p + x) % p) * g ((y * p + x) / p)) p ≡ g y * sum f p
    across y = sum-ext (λ (x : ℕ). f ((y * p + x) % p) * g ((y * p + x) / p)) (λ (x : ℕ). f x * g y) p (λ x l. rw (digits_mod y l, digits_div y l)) ∙ sum-times f p (g y) ∙ mul_comm (sum f p) (g y)

-- the squares of a level
pub over-level : (p q i : ℕ) (f g : ℕ → ℕ) → sum (λ (n : ℕ). f (column p i n) * g (row p i n)) (p * q * 4 ^ i) ≡ sum f (p * 2 ^ i) * sum g (q * 2 ^ i)
over-level p q i f g =
    let f' : ℕ → ℕ = λ x. sum (λ (c : ℕ). f (x * 2 ^ i + c)) (2 ^ i) in
    let g' : ℕ → ℕ = λ y. sum (λ (c : ℕ). g (y * 2 ^ i + c)) (2 ^ i) in
    sum-grid (λ (n : ℕ). f (column p i n) * g (row p i n)) (p * q) (4 ^ i)
    ∙ sum-ext (λ (b : ℕ). sum (λ (m : ℕ). f (column p i (b * 4 ^ i + m)) * g (row p i (b * 4 ^ i + m))) (4 ^ i)) (λ (b : ℕ). f' (b % p) * g' (b / p)) (p * q) (λ b l. block b)
    ∙ over-blocks p q f' g'
    ∙ sym (ap₂ ◌*◌ (sum-grid f p (2 ^ i)) (sum-grid g q (2 ^ i)))
  where
    block : (b : ℕ) → sum (λ (m : ℕ). f (column p i (b * 4 ^ i + m)) * g (row p i (b * 4 ^ i + m))) (4 ^ i) ≡ sum (λ (c : ℕ). f (b % p * 2 ^ i + c)) (2 ^ i) * sum (λ (c : ℕ). g (b / p * 2 ^ i + c)) (2 ^ i)
    block b =
        sum-ext (λ (m : ℕ). f (column p i (b * 4 ^ i + m)) * g (row p i (b * 4 ^ i + m))) (λ (m : ℕ). f (b % p * 2 ^ i + evens i m) * g (b / p * 2 ^ i + evens i (m / 2))) (4 ^ i) (λ m l. rw (digits_div b l, mul_comm b (4 ^ i), evens-high i b m, odds-high i b m))
        ∙ in_block i (λ (c : ℕ). f (b % p * 2 ^ i + c)) (λ (c : ℕ). g (b / p * 2 ^ i + c))
