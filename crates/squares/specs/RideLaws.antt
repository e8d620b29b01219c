-- Laws of a rectangle moved: sums of a coordinate and a signed number, as the machine has them.
use Rattle.std.specs.Prelude.{◌≡◌, ℕ, suc, ◌-◌, ◌<◌, ◌≤◌, Bool, true, false, cond, T, ℤ, pos, negsuc, ◌+ℤ◌, FitsSigned, ◌≢◌, int_lt, nat_lt, unsigned_abs, refl}
use Rattle.std.proofs.Common.{ap, ap₂, sym, subst, ◌∙◌, ⊎_elim, arith, ltb-true, ltb-false, Fits, to_z, of_z}
use Rattle.std.specs.Int.Signed.{mag, non_neg}
use Rattle.std.specs.Int.{w32, w64}
use Rattle.std.proofs.lemmas.Int.{to_z-of_z, to_z_pos}
use Rattle.std.proofs.Math.Facts.{sfits_widen}
use Rattle.order.specs.TestLaws.{lt-or-le, true-not-false, and→, both_ways}
use Rattle.squares.specs.declared.shape.Shape.{Shape}
use Rattle.squares.specs.declared.shape.Rect.{Rect}
use Rattle.squares.specs.Shape.{fits}
use Rattle.squares.specs.Bounds.{Allowed}
use Rattle.squares.specs.Ride.{ridden, lands}
use Rattle.squares.specs.Slide.{Slides, Rides}
use Rattle.squares.specs.ShapeLaws.{fits→}

-- ---- a sum

part_small : (b : Bool) (m n : ℕ) → m < 4294967296 → n < 4294967296 → mag (cond b (negsuc m) (pos n)) < 9223372036854775808
part_small true m n h g = omega arith
part_small false m n h g = omega arith

sum-small : (a : ℕ) (d : ℤ) → a < 4294967296 → mag d < 2147483648 → mag (pos a +ℤ d) < 9223372036854775808
sum-small a (pos b) h g = omega arith
sum-small a (negsuc b) h g = part_small (nat_lt a (suc b)) (suc b - suc a) (a - suc b) (omega arith) (omega arith)

module _ {a : ℕ} {d : ℤ} (h : Fits w32 a) (g : FitsSigned w32 d) where
  -- it fits, and the machine reads back what was put in
  pub wide_fits : FitsSigned w64 (to_z w32 (of_z w32 d))
  wide_fits = subst (FitsSigned w64) (sym (to_z-of_z w32 d g)) (sfits_widen tt g)

  read_a : to_z w64 a ≡ pos a
  read_a = to_z_pos w64 a (omega (arith, h.fits))

  read-d : to_z w64 (of_z w64 (to_z w32 (of_z w32 d))) ≡ d
  read-d = to_z-of_z w64 (to_z w32 (of_z w32 d)) wide_fits ∙ to_z-of_z w32 d g

  pub true-sum : FitsSigned w64 (pos a +ℤ d)
  true-sum = record { sfits = sum-small a d h.fits g.sfits }

  pub sum_fits : FitsSigned w64 (to_z w64 a +ℤ to_z w64 (of_z w64 (to_z w32 (of_z w32 d))))
  sum_fits = subst (FitsSigned w64) (sym (ap₂ ◌+ℤ◌ read_a read-d)) true-sum

  pub sum_is : to_z w64 (of_z w64 (to_z w64 a +ℤ to_z w64 (of_z w64 (to_z w32 (of_z w32 d))))) ≡ pos a +ℤ d
  sum_is = to_z-of_z w64 (to_z w64 a +ℤ to_z w64 (of_z w64 (to_z w32 (of_z w32 d)))) sum_fits ∙ ap₂ ◌+ℤ◌ read_a read-d

-- ---- a coordinate

-- the sum v of a coordinate and a signed number, tested
module _ {a : ℕ} {d v : ℤ} (h : Fits w32 a) (g : FitsSigned w32 d) (told : v ≡ pos a +ℤ to_z w32 (of_z w32 d)) where
  e : v ≡ pos a +ℤ d
  e = told ∙ ap (λ (z : ℤ). pos a +ℤ z) (to_z-of_z w32 d g)

  read : to_z w64 (of_z w64 v) ≡ v
  read = to_z-of_z w64 v (subst (FitsSigned w64) (sym e) (true-sum h g))

  below : (z : ℤ) → int_lt z (pos 0) ≡ true → non_neg z ≡ false
  below (pos n) t = absurd (omega (arith, ltb-true n 0 t))
  below (negsuc n) t = refl

  past : (z : ℤ) → int_lt (pos 256) z ≡ true → 256 ≤ unsigned_abs z
  past (pos n) t = omega (arith, ltb-true 256 n t)
  past (negsuc n) t = absurd (true-not-false false t refl)

  held : (z : ℤ) → int_lt z (pos 0) ≡ false → int_lt (pos 256) z ≡ false → (n : ℕ) × (z ≡ pos n) × (n ≤ 256)
  held (pos n) s t = (n, refl, ltb-false 256 n t)
  held (negsuc n) s t = absurd (true-not-false true refl s)

  pub slide-below : int_lt (to_z w64 (of_z w64 v)) (pos 0) ≡ true → Slides a d 256
  slide-below t = record { few = omega arith; sum = λ l. absurd (omega arith); off = λ q s. absurd (true-not-false (non_neg (pos a +ℤ d)) s (ap non_neg (sym e) ∙ below v (rw read at t))) }

  pub slide-past : int_lt (pos 256) (to_z w64 (of_z w64 v)) ≡ true → Slides a d 256
  slide-past t = record { few = omega arith; sum = λ l. absurd (omega arith); off = λ q s. subst (λ (z : ℤ). 256 ≤ unsigned_abs z) e (past v (rw read at t)) }

  module _ (s : int_lt (to_z w64 (of_z w64 v)) (pos 0) ≡ false) (t : int_lt (pos 256) (to_z w64 (of_z w64 v)) ≡ false) where
    within : (n : ℕ) × (v ≡ pos n) × (n ≤ 256)
    within = held v (rw read at s) (rw read at t)

    is_pos : to_z w64 (of_z w64 v) ≡ pos within.0
    is_pos = read ∙ within.1

    pub slide-casts : T (non_neg (to_z w64 (of_z w64 v))) × Fits w32 (unsigned_abs (to_z w64 (of_z w64 v)))
    slide-casts = rw is_pos (tt, record { fits = omega (arith, within.2) })

    pub slide-is : Slides a d (unsigned_abs (to_z w64 (of_z w64 v)))
    slide-is = rw is_pos (record { few = within.2; sum = λ l. sym e ∙ within.1; off = λ q s'. subst (λ (z : ℤ). 256 ≤ unsigned_abs z) (sym within.1 ∙ e) (omega (arith, q)) })

-- ---- a rectangle

below-most : (n : ℕ) → n ≤ 256 → (n ≢ 256) → n < 256
below-most n h f = ⊎_elim (λ (l : n < 256). l) (λ (g : 256 ≤ n). absurd (f (omega arith))) (lt-or-le n 256)

-- moved by a signed number that the machine has read back
pub slid-plain : {a r : ℕ} {d : ℤ} → FitsSigned w32 d → Slides a (to_z w32 (of_z w32 d)) r → Slides a d r
slid-plain {a} {r} {d} g k = subst (λ (z : ℤ). Slides a z r) (to_z-of_z w32 d g) k

module _ (dx dy : ℤ) (r : Rect) (a b : ℕ) (column : Slides r.a dx a) (row : Slides r.b dy b) where
  abbrev moved : Rect
  moved = record { a = a; b = b; w = r.w; h = r.h }

  same-rect : pos r.a +ℤ dx ≡ pos a → pos r.b +ℤ dy ≡ pos b → moved ≡ ridden dx dy r
  same-rect e f = ap₂ (λ (x y : ℕ). record { a = x; b = y; w = r.w; h = r.h }) (sym (ap unsigned_abs e)) (sym (ap unsigned_abs f))

  module _ (s : Shape) (h : Allowed s) where
    lands-on : fits s moved ≡ true → lands s dx dy r ≡ true
    lands-on t =
        let k = fits→ s moved t in
        let e = column.sum (omega (arith, k.columns, k.wide, h.wide)) in
        let f = row.sum (omega (arith, k.rows, k.high, h.high)) in
        rw (ap non_neg e, ap non_neg f, ap (fits s) (sym (same-rect e f)) ∙ t)

    on-lands : lands s dx dy r ≡ true → moved ≡ ridden dx dy r
    on-lands e =
        let p = and→ (non_neg (pos r.a +ℤ dx)) _ e in
        let q = and→ (non_neg (pos r.b +ℤ dy)) _ p.1 in
        let k = fits→ s (ridden dx dy r) q.1 in
        let x : a ≡ 256 → ⊥ = λ (o : a ≡ 256). let far = column.off o p.0 in omega (arith, k.columns, k.wide, h.wide) in
        let y : b ≡ 256 → ⊥ = λ (o : b ≡ 256). let far = row.off o q.0 in omega (arith, k.rows, k.high, h.high) in
        same-rect (column.sum (below-most a column.few x)) (row.sum (below-most b row.few y))

    fits_moved : lands s dx dy r ≡ true → fits s moved ≡ true
    fits_moved e = ap (fits s) (on-lands e) ∙ (and→ (non_neg (pos r.b +ℤ dy)) _ (and→ (non_neg (pos r.a +ℤ dx)) _ e).1).1

  pub rect-rides : Rides dx dy r (record { a = a; b = b; w = r.w; h = r.h })
  rect-rides = record { test = λ s h. both_ways (fits s moved) (lands s dx dy r) (lands-on s h) (fits_moved s h); is = λ s h e. on-lands s h e }
