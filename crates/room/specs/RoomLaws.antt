-- What the program's room gives: the part of the starts that is lent, and tables that stay ready.
use Rattle.std.specs.Prelude.{ℕ, zero, suc, ◌+◌, ◌-◌, ◌*◌, ◌^◌, ◌≤◌, ◌≡◌, true, false, List, [], ◌∷◌, ◌++◌, length, take, drop}
use Rattle.std.proofs.Math.Path.{refl}
use Rattle.std.proofs.Common.{ap, sym, subst, ◌∙◌, ⊎_elim, arith, add-one, mul-le-mul, mul-le-mul_left, mul_left_comm, sub-le, length-take, take-append-drop, take_at}
use Rattle.std.proofs.Math.Nat.{pow-succ'}
use Rattle.order.specs.Order.{over}
use Rattle.order.specs.TestLaws.{true-or-false}
use Rattle.order.specs.BufferLaws.{length_over}
use Rattle.squares.specs.declared.shape.Shape.{Shape}
use Rattle.squares.specs.Shape.{allowed, width, height}
use Rattle.squares.specs.Bounds.{Allowed}
use Rattle.squares.specs.Squares.{squares}
use Rattle.squares.specs.ShapeLaws.{area, →allowed}
use Rattle.tables.specs.Tables.{Tables, tally, shape_in, shape_of, zone_room, car_room, entry_room, stands, placed, zone_in, car_in, town_of}
use Rattle.tables.specs.Check.{sized}
use Rattle.tables.specs.Sound.{Sound}
use Rattle.tables.specs.CheckLaws.{sized→, sized-shape, size_of}
use Rattle.room.specs.Room.{places_of, with_starts, part, into, Ready}

-- a town of at most 64 by 64 has room
pub squares-64 : (s : Shape) → Allowed s → width s ≤ 64 → height s ≤ 64 → squares s + 1 ≤ 5462
squares-64 s a w h =
    let few : s.P * s.Q * 4 ^ s.k ≤ 4096 = subst (λ (n : ℕ). n ≤ 4096) (area s a) (mul-le-mul w h) in
    let four : 4 ^ (s.k + 1) ≡ 4 * 4 ^ s.k = rw (add-one s.k) (pow-succ' 4 s.k) in
    let all : s.P * s.Q * 4 ^ (s.k + 1) ≡ 4 * (s.P * s.Q * 4 ^ s.k) = rw four (mul_left_comm (s.P * s.Q) 4 (4 ^ s.k)) in
    let most : s.P * s.Q * (4 ^ (s.k + 1) - 1) ≤ s.P * s.Q * 4 ^ (s.k + 1) = mul-le-mul_left (s.P * s.Q) (sub-le (4 ^ (s.k + 1)) 1) in
    omega arith

pub places-some : (head : List ℕ) → allowed (shape_in head) ≡ true → places_of head ≡ squares (shape_in head) + 1
unfolding places_of
places-some head e = rw e

pub places-none : (head : List ℕ) → allowed (shape_in head) ≡ false → places_of head ≡ 0
unfolding places_of
places-none head e = rw e

-- as many as a front has are that front
pub take-shown : (n : ℕ) (l : List ℕ) → take (length (take n l)) l ≡ take n l
take-shown zero l = refl
take-shown (suc n) [] = refl
take-shown (suc n) (x ∷ l) = ap (λ (k : List ℕ). x ∷ k) (take-shown n l)

-- lent and put back, a part leaves the whole as it was
pub put_back : (n : ℕ) (l : List ℕ) → over (take n l) l ≡ l
put_back n l = ap (λ (k : List ℕ). k ++ drop (length (take n l)) l) (sym (take-shown n l)) ∙ take-append-drop (length (take n l)) l

module _ (t : Tables) where
  pub kept_back : into t (part t) ≡ t
  kept_back = ap (with_starts t) (put_back (places_of t.records.head) t.derived.starts)

  -- the town is in the records
  pub town-starts : (starts : List ℕ) → town_of (with_starts t starts) ≡ town_of t
  unfolding zone_in car_in stands placed
  town-starts starts = refl

module _ {t : Tables} (ready : Ready t) where
  -- ---- a town that is open

  pub part_sound : sized (part t) ≡ true → Sound (part t)
  part_sound e = ready.sound (→allowed (shape_of t) (sized→ (part t) e).shape)

  -- check 3 passes just where a town is open
  pub sized-open : sized (part t) ≡ allowed (shape_of t)
  sized-open = ⊎_elim
      (λ (e : allowed (shape_of t) ≡ true). (ready.sound e).size ∙ sym e)
      (λ (e : allowed (shape_of t) ≡ false). sized-shape (part t) e ∙ sym e)
      (true-or-false (allowed (shape_of t)))

  module _ (sound : Sound (part t)) where
    zones-16 : zone_room t ≡ 16
    zones-16 = omega (arith, (size_of sound).lengths.zones, ready.room.zones)

    pub cars-64 : car_room t ≡ 64
    cars-64 = sym (size_of sound).lengths.cars ∙ ready.room.cars

    pub entries-2048 : entry_room t ≡ 2048
    entries-2048 = sym (size_of sound).lengths.entries ∙ ready.room.entries

    starts-room : squares (shape_of t) + 1 ≤ 5462
    starts-room = omega (arith, (size_of sound).lengths.starts, length-take (places_of t.records.head) t.derived.starts, ready.room.starts)

  -- ---- tables that stay ready

  module _ (u : Tables) (sound : Sound u) where
    pub ready-into : zone_room u ≡ 16 → car_room u ≡ 64 → entry_room u ≡ 2048 → squares (shape_of u) + 1 ≤ 5462 → Ready (into t u)
    ready-into z c e s =
        let l = (size_of sound).lengths in
        let places : places_of u.records.head ≡ length u.derived.starts = places-some u.records.head (→allowed (shape_of u) (size_of sound).shape) ∙ sym l.starts in
        record {
          room = record {
            head = l.head;
            zones = l.zones ∙ ap (λ (n : ℕ). 4 * n) z;
            cars = l.cars ∙ c;
            spots = l.spots ∙ ap (λ (n : ℕ). 2 * n) c;
            starts = length_over u.derived.starts t.derived.starts (omega (arith, l.starts, ready.room.starts)) ∙ ready.room.starts;
            entries = l.entries ∙ e;
            rosters = l.rosters ∙ rw (z, c);
            tallies = l.tallies ∙ ap (λ (n : ℕ). n * tally) z;
          };
          sound = λ _. rw (take_at u.derived.starts _ (places_of u.records.head) (sym places)) sound;
        }

    pub ready-same : Sound (part t) → u.records.head ≡ t.records.head → Ready (into t u)
    ready-same h e = ready-into (rw e (zones-16 h)) (rw e (cars-64 h)) (rw e (entries-2048 h)) (rw e (starts-room h))
