-- A zone by its rectangle, as it was read: whether it stands, whether it fits, how many entries it has, and those of all zones.
use Rattle.std.specs.Prelude.{ℕ, ◌+◌, ◌*◌, ◌<◌, ◌≤◌, ◌≡◌, refl, Bool, true, false, List}
use Rattle.std.proofs.Common.{ap, sym, ◌∙◌, add-one, lt-ltb, le-ltb}
use native.Mathlib.Omega.{arith}
use Rattle.order.specs.Sums.{sum}
use Rattle.squares.specs.declared.shape.Shape.{Shape}
use Rattle.squares.specs.declared.shape.Rect.{Rect}
use Rattle.squares.specs.Shape.{fits}
use Rattle.squares.specs.Bounds.{Fits}
use Rattle.cuts.specs.Leaves.{Counted}
use Rattle.tables.specs.Tables.{rect_in, stands_in}
use Rattle.soundness.specs.Tests.{zone_fits, size_at, Fitting, SizeOf}

module _ (zones : List ℕ) (z : ℕ) (r : Rect) (e : r ≡ rect_in zones z) where
  pub zone-down : r.w ≡ 0 → stands_in zones z ≡ false
  zone-down f = le-ltb 0 (rect_in zones z).w (omega (arith, sym (ap (λ (q : Rect). q.w) e) ∙ f))

  pub zone-up : (r.w ≡ 0 → ⊥) → stands_in zones z ≡ true
  zone-up f = lt-ltb 0 (rect_in zones z).w (let g : 0 < r.w = omega arith in rw e at g)

  module _ (s : Shape) where
    -- what fitting zones say of it
    pub zone-fits : (Z : ℕ) → Fitting s zones Z → (r.w ≡ 0 → ⊥) → Fits s r
    zone-fits Z h f = rw e (h.fit z (zone-up f))

    pub fits-down : r.w ≡ 0 → true ≡ zone_fits s zones z
    unfolding zone_fits
    fits-down f = rw (zone-down f)

    pub fits-up : (r.w ≡ 0 → ⊥) → (b : Bool) → b ≡ fits s r → b ≡ zone_fits s zones z
    unfolding zone_fits
    fits-up f b g = rw (g, e, zone-up f)

    pub size-down : r.w ≡ 0 → SizeOf s zones z 0
    size-down f = record { is = rw (zone-down f); few = omega arith }

    pub size-up : (r.w ≡ 0 → ⊥) → (n : ℕ) → Counted s r n → SizeOf s zones z n
    size-up f n h = record { is = rw (zone-up f) (rw e at h.is); few = h.few }

-- ---- the entries of the first z zones, n together

pub record Summed (s : Shape) (zones : List ℕ) (Z n z : ℕ) : Type 0 where
  pub low : z ≤ Z
  pub is : n ≡ sum (size_at s zones) z
  pub few : n ≤ z * 87381

module _ (s : Shape) (zones : List ℕ) (Z : ℕ) where
  pub summed-none : Summed s zones Z 0 0
  unfolding sum
  summed-none = record { low = omega arith; is = refl; few = omega arith }

  pub summed-more : (n z m : ℕ) → Summed s zones Z n z → z < Z → SizeOf s zones z m → Summed s zones Z (n + m) (z + 1)
  unfolding sum
  summed-more n z m h g e = record { low = omega arith; is = rw (add-one z, h.is, e.is); few = omega (arith, h.few, e.few) }

  pub summed-end : (n z : ℕ) → Summed s zones Z n z → Z ≤ z → n ≡ sum (size_at s zones) Z
  summed-end n z h g = let e : z ≡ Z = omega (arith, h.low) in h.is ∙ ap (sum (size_at s zones)) e
