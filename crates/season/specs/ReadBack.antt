-- A number's text reads back as the number.
use Rattle.std.specs.Prelude.{ℕ, zero, suc, ◌+◌, ◌*◌, ◌/◌, ◌%◌, ◌^◌, ◌<◌, ◌≤◌, ◌≡◌, refl, List, [], ◌∷◌, ◌++◌, length, get_or, Some, None}
use Rattle.std.proofs.Common.{ap, sym, ◌∙◌, ⊎_elim, arith, div-add-mod', zero-add, length-append, lt-ltb, le-ltb}
use Rattle.std.proofs.Math.ListN.{get_or-append}
use Rattle.order.specs.TestLaws.{lt-or-le}
use Rattle.line.specs.Grammar.{digit_of, numeral, decimal}
use Rattle.line.specs.NumberLaws.{digit-decimal, decimal-zero, decimal-is}
use Rattle.print.specs.Text.{digits, text}
use Rattle.print.specs.TextLaws.{digits-one, digits_more, tenth, text-one, text-length}

digit-text : (n : ℕ) → n < 10 → digit_of (48 + n) ≡ n
digit-text n h = digit-decimal (48 + n) (omega arith) (omega arith) ∙ omega arith

numeral-snoc : (n m b : ℕ) (f : List ℕ) → numeral 10 n f ≡ Some m → numeral 10 n (f ++ (b ∷ [])) ≡ numeral 10 m (b ∷ [])
unfolding numeral
numeral-snoc n m b [] e = let q : n ≡ m = cc in rw q
numeral-snoc n m b (x ∷ f) e = ⊎_elim
    (λ (g : digit_of x < 10). rw (lt-ltb (digit_of x) 10 g) (numeral-snoc (n * 10 + digit_of x) m b f (rw (lt-ltb (digit_of x) 10 g) at e)))
    (λ (g : 10 ≤ digit_of x). let q : None ≡ Some m = rw (le-ltb (digit_of x) 10 g) at e in let z : ◌≡◌ {A = ℕ} 0 1 = cc in absurd (omega arith))
    (lt-or-le (digit_of x) 10)

numeral-digit : (m n : ℕ) → n < 10 → numeral 10 m ((48 + n) ∷ []) ≡ Some (m * 10 + n)
unfolding numeral
numeral-digit m n h = rw (digit-text n h, lt-ltb n 10 h)

numeral-digits : (k n : ℕ) → n < 10 ^ suc k → numeral 10 0 (digits (suc k) n) ≡ Some n
numeral-digits zero n h = let g : n < 10 = omega arith in ap (numeral 10 0) (digits-one 0 n g) ∙ numeral-digit 0 n g ∙ ap Some (zero-add n)
numeral-digits (suc k) n h = ⊎_elim
    (λ (g : n < 10). ap (numeral 10 0) (digits-one (suc k) n g) ∙ numeral-digit 0 n g ∙ ap Some (zero-add n))
    (λ (g : 10 ≤ n). ap (numeral 10 0) (digits_more (suc k) n g) ∙ numeral-snoc 0 (n / 10) (48 + n % 10) (digits (suc k) (n / 10)) (numeral-digits k (n / 10) (tenth (suc k) n h)) ∙ numeral-digit (n / 10) (n % 10) (omega arith) ∙ ap Some (div-add-mod' n 10))
    (lt-or-le n 10)

-- the first digit of a number above 0 is not 0
record First (l : List ℕ) : Type 0 where
  some : 1 ≤ length l
  other : 48 < get_or l 0 0

digits-first : (k n : ℕ) → 0 < n → n < 10 ^ suc k → First (digits (suc k) n)
digits-first zero n p h = rw (digits-one 0 n (omega arith)) (record { some = omega arith; other = omega arith })
digits-first (suc k) n p h = ⊎_elim
    (λ (g : n < 10). rw (digits-one (suc k) n g) (record { some = omega arith; other = omega arith }))
    (λ (g : 10 ≤ n).
    let d = digits (suc k) (n / 10) in
    let f = digits-first k (n / 10) (omega arith) (tenth (suc k) n h) in
    rw (digits_more (suc k) n g) (record { some = rw (length-append d ((48 + n % 10) ∷ [])) (omega (arith, f.some)); other = rw (get_or-append d ((48 + n % 10) ∷ []) 0 0 f.some) f.other }))
    (lt-or-le n 10)

pub decimal-text : (n : ℕ) → n < 4294967296 → decimal (text n) ≡ Some n
decimal-text n h = ⊎_elim
    (λ (g : 0 < n). let f = digits-first 9 n g (omega arith) in sym (decimal-is (text n) n f.some (text-length n) (λ (e : get_or (text n) 0 0 ≡ 48). omega (arith, f.other)) (numeral-digits 9 n (omega arith)) h))
    (λ (g : n ≤ 0). let e : n ≡ 0 = omega arith in rw (e, text-one 0 (omega arith)) (sym (decimal-zero (48 ∷ []) refl refl)))
    (lt-or-le 0 n)
