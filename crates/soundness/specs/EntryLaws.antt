-- An entry's key: down the levels to the square at its place, and whether the square is in the cut of its zone's rectangle.
use Rattle.std.specs.Prelude.{ℕ, suc, ◌+◌, ◌-◌, ◌*◌, ◌/◌, ◌%◌, ◌^◌, ◌<◌, ◌≤◌, ◌≡◌, false, List, length}
use Rattle.std.proofs.Common.{ap, sym, ◌∙◌, arith, add-one, mul-one, mul_left_comm, lt-ltb, le-ltb}
use Rattle.std.proofs.Math.Nat.{pow-succ'}
use Rattle.squares.specs.declared.shape.Shape.{Shape}
use Rattle.squares.specs.declared.shape.Rect.{Rect}
use Rattle.squares.specs.Squares.{squares, squares_on}
use Rattle.cuts.specs.Cut.{in_cut}
use Rattle.squares.specs.ShapeLaws.{blocks-small, squares-small}
use Rattle.tables.specs.Tables.{rect_in}
use Rattle.tables.specs.Derived.{before, level_at, number_at}
use Rattle.tables.specs.PlaceLaws.{before_more, before-none, before-all, level-place, number-place}
use Rattle.tables.specs.CountLaws.{past-zones}
use Rattle.soundness.specs.declared.entry.Leveled.{Leveled}
use Rattle.soundness.specs.Tests.{key_right, InTown, At}
use Rattle.soundness.specs.ZoneLaws.{zone-down, zone-up}

-- ---- down the levels to a place

pub record Walked (s : Shape) (p level number count : ℕ) : Type 0 where
  pub deep : level ≤ s.k
  pub whole : before s level + number ≡ p
  pub is : count ≡ squares_on s level
  pub small : count ≤ 65536

module _ {s : Shape} {p : ℕ} (room : InTown s p) where
  pub walk_begins : Walked s p 0 p (s.P * s.Q)
  walk_begins = record { deep = omega arith; whole = omega (arith, before-none s); is = sym (mul-one (s.P * s.Q)); small = blocks-small s room.shape }

  pub walk-turns : {level number count : ℕ} → Walked s p level number count → level < s.k → count ≤ number → Walked s p (level + 1) (number - count) (count * 4)
  walk-turns {level} {number} {count} w h g =
      let more : squares_on s (suc level) ≡ 4 * squares_on s level = rw (pow-succ' 4 level) (mul_left_comm (s.P * s.Q) 4 (4 ^ level)) in
      let is : count * 4 ≡ squares_on s (suc level) = omega (arith, w.is, more) in
      record {
        deep = omega arith;
        whole = rw (add-one level, before_more s level) (omega (arith, w.whole, w.is));
        is = rw (add-one level) is;
        small = omega (arith, is, squares-small s room.shape (suc level) h);
      }

  pub walk-found : {level number count : ℕ} → Walked s p level number count → number < count → At s p (record { level = level; number = number })
  walk-found {level} {number} {count} w h =
      let below : number < squares_on s level = omega (arith, w.is) in
      record {
        level = sym (level-place s level number w.deep below) ∙ ap (level_at s) w.whole;
        number = sym (number-place s level number w.deep below) ∙ ap (number_at s) w.whole;
        deep = w.deep;
        within = below;
      }

  pub walk_ends : {level number count : ℕ} → Walked s p level number count → s.k ≤ level → At s p (record { level = level; number = number })
  walk_ends {level} {number} {count} w h =
      let last : level ≡ s.k = omega (arith, w.deep) in
      let all : before s (suc level) ≡ squares s = rw last (before-all s) in
      walk-found w (omega (arith, w.whole, w.is, before_more s level, all, room.below))

-- ---- a key

module _ (s : Shape) (zones : List ℕ) (key : ℕ) where
  pub key-past : squares s ≤ key / 256 → false ≡ key_right s zones key
  unfolding key_right
  key-past h = rw (le-ltb (key / 256) (squares s) h)

  module _ (h : key / 256 < squares s) where
    pub key-none : (Z : ℕ) → length zones ≡ 4 * Z → Z ≤ key % 256 → false ≡ key_right s zones key
    unfolding key_right
    key-none Z l g = rw (lt-ltb (key / 256) (squares s) h, past-zones zones Z l (key % 256) g)

    module _ (r : Rect) (e : r ≡ rect_in zones (key % 256)) where
      pub key-down : r.w ≡ 0 → false ≡ key_right s zones key
      unfolding key_right
      key-down f = rw (lt-ltb (key / 256) (squares s) h, zone-down zones (key % 256) r e f)

      -- the test by the square at the key's place
      pub key-cut : (r.w ≡ 0 → ⊥) → (q : Leveled) → At s (key / 256) q → in_cut s r q.level q.number ≡ key_right s zones key
      unfolding key_right
      key-cut f q g = rw (lt-ltb (key / 256) (squares s) h, zone-up zones (key % 256) r e f, e, g.level, g.number)
