-- Laws of looking into the squares of a cell: the loops over the levels, and what sound tables give.
use Prim.Native.Nat.{ℕ, zero, suc, ◌+◌, ◌-◌, ◌*◌, ◌<◌, ◌≤◌}
use Rattle.std.specs.Prelude.{◌≡◌, refl, Bool, true, false, ◌&&◌, not, ◌||◌, List, length}
use Rattle.std.proofs.Math.Path.{ap, sym}
use Rattle.std.proofs.Common.{subst, ◌∙◌, ⊎_elim, arith}
use Rattle.std.proofs.Math.Bool.{or-true}
use Rattle.std.proofs.Math.Numerals.{add-one}
use borrow.Author.Tests.{lt-ltb}
use Rattle.order.specs.Order.{upto, keep}
use Rattle.order.specs.BufferLaws.{Front, front-none}
use Rattle.order.specs.TestLaws.{lt-or-le, true-or-false, true-not-false, both_ways, and→}
use Rattle.order.specs.KeepLaws.{span→, keep-ext, keep-none}
use Rattle.squares.specs.declared.shape.Shape.{Shape}
use Rattle.squares.specs.Shape.{width, height, holds}
use Rattle.squares.specs.Squares.{squares, squares_on, number}
use Rattle.squares.specs.Leaves.{OnMap, Below, StepsApart}
use Rattle.squares.specs.SquareLaws.{number-parent, number-below}
use Rattle.squares.specs.DifferLaws.{Apart, apart_none, steps_apart}
use Rattle.tables.specs.Tables.{Tables, shape_of, rect_of, stands, zone_room, zone_holds}
use Rattle.tables.specs.Derived.{place, on}
use Rattle.tables.specs.Sound.{Sound}
use Rattle.tables.specs.RecordLaws.{zone-holds}
use Rattle.tables.specs.PlaceLaws.{place-below, place-parent}
use Rattle.tables.specs.Runs.{parent_of, run, gathered, only, any, outside, Gathers}
use Rattle.tables.specs.RunLaws.{on_cell, holds→level, level→holds}
use Rattle.tables.specs.CheckLaws.{size_of}
use Rattle.tables.specs.GatherLaws.{front-gather, gathered-sound}
use Rattle.lookup.specs.Looks.{looked_into, Looks, Crosses}

-- ---- one level after another, from the unit cell up

-- p is the place of the cell's square after going up so many levels
abbrev pub Next : Shape → ℕ → ℕ → ℕ → ℕ → Type 0
Next s x y p up = up ≤ s.k → p ≡ place s (s.k - up) (number s (s.k - up) x y)

module _ {s : Shape} {x y : ℕ} (map : OnMap s x y) where
  up_first : {n p : ℕ} → Below (number s s.k x y) (squares_on s s.k) n → Below (place s s.k n) (squares s) p → Next s x y p 0
  up_first h w l = let e : s.k - 0 ≡ s.k = omega arith in w.is ∙ ap (place s s.k) h.is ∙ ap (λ (i : ℕ). place s i (number s i x y)) (sym e)

  -- the parent of the cell's square has the place of its square one level up
  pub level-up : (i : ℕ) {p p' : ℕ} → suc i ≤ s.k → p ≡ place s (suc i) (number s (suc i) x y) → p' ≡ parent_of s p → p' ≡ place s i (number s i x y)
  level-up i h at e = e ∙ ap (parent_of s) at ∙ place-parent s i (number s (suc i) x y) ∙ ap (place s i) (number-parent s i x y h)

  -- it has a start after it
  pub level-start : (i : ℕ) {p many : ℕ} → i ≤ s.k → p ≡ place s i (number s i x y) → many ≡ squares s + 1 → p + 1 < many
  level-start i h at e = omega (arith, at, place-below s i (number s i x y) h (number-below s i x y h map.column map.row))

  up_next : {p' : ℕ} (p up : ℕ) → Next s x y p up → p' ≡ parent_of s p → Next s x y p' (up + 1)
  up_next p up f e u =
      let k : s.k - up ≡ suc (s.k - (up + 1)) = omega arith in
      level-up (s.k - (up + 1)) (omega arith) (f (omega arith) ∙ ap (λ (j : ℕ). place s j (number s j x y)) k) e

  up_start : {many : ℕ} (p up : ℕ) → Next s x y p up → up ≤ s.k → many ≡ squares s + 1 → p + 1 < many
  up_start p up f h e = level-start (s.k - up) (omega arith) (f h) e

  -- the zones of one square more
  up-front : (f : ℕ → Bool) (starts entries : List ℕ) {b b' b'' : List ℕ} (p up : ℕ) {m r : ℕ} → Next s x y p up → up ≤ s.k → Front b b' m (looked_into f s x y starts entries (length b) up) → Gathers f starts entries p b' b'' m r → Front b b'' r (looked_into f s x y starts entries (length b) (up + 1))
  unfolding looked_into
  up-front f starts entries {b} {b'} {b''} p up {m} {r} next h front g = rw add-one (subst (λ (q : ℕ). Front b b'' r (gathered (length b) (only f (run starts entries q)) (looked_into f s x y starts entries (length b) up))) (next h) (front-gather front f g))

-- ---- the squares of one cell

-- `looked` levels are looked into, the next one's square has the place p, and m zones stand at the front
pub record Looking (s : Shape) (x y : ℕ) (starts entries b b' : List ℕ) (p looked m : ℕ) : Type 0 where
  pub few : looked ≤ s.k + 1
  pub next : Next s x y p looked
  pub front : Front b b' m (looked_into any s x y starts entries (length b) looked)

module _ {s : Shape} {x y : ℕ} (map : OnMap s x y) where
  pub look-begins : (starts entries b : List ℕ) {n p : ℕ} → Below (number s s.k x y) (squares_on s s.k) n → Below (place s s.k n) (squares s) p → Looking s x y starts entries b b p 0 0
  unfolding looked_into
  look-begins starts entries b h w = record { few = omega arith; next = up_first map h w; front = front-none b }

  module _ {starts entries b b' : List ℕ} {p looked m : ℕ} (l : Looking s x y starts entries b b' p looked m) where
    pub look-start : {many : ℕ} → looked ≤ s.k → many ≡ squares s + 1 → p + 1 < many
    look-start h e = up_start map p looked l.next h e

    pub look-turns : {b'' : List ℕ} {p' r : ℕ} → looked ≤ s.k → Gathers any starts entries p b' b'' m r → p' ≡ parent_of s p → Looking s x y starts entries b b'' p' (looked + 1) r
    look-turns h g e = record { few = omega arith; next = up_next map p looked l.next e; front = up-front map any starts entries p looked l.next h l.front g }

    pub look-ends : s.k < looked → Looks s x y starts entries b b' (record { squares = looked; zones = m })
    look-ends h =
        let e : looked ≡ s.k + 1 = omega (arith, l.few) in
        record { squares = e; found = subst (λ (i : ℕ). Front b b' m (looked_into any s x y starts entries (length b) i)) e l.front }

-- ---- the squares of two cells where they differ

-- d levels differ, `up` of them are looked into, and the next one's squares have the places p and p'
pub record Crossing (s : Shape) (zones starts entries : List ℕ) (x y x' y' : ℕ) (e e' l l' : List ℕ) (d p p' up came gone : ℕ) : Type 0 where
  pub apart : Apart s x y x' y' d
  pub few : up ≤ d
  pub old : Next s x y p up
  pub new : Next s x' y' p' up
  pub entered : Front e e' came (looked_into (outside zones x y) s x' y' starts entries (length e) up)
  pub left : Front l l' gone (looked_into (outside zones x' y') s x y starts entries (length l) up)

module _ {s : Shape} {x y x' y' : ℕ} (map : OnMap s x y) (map' : OnMap s x' y') where
  pub cross-begins : (zones starts entries e l : List ℕ) {n n' d p p' : ℕ} → Below (number s s.k x y) (squares_on s s.k) n → Below (number s s.k x' y') (squares_on s s.k) n' → StepsApart s.k x y x' y' d → Below (place s s.k n) (squares s) p → Below (place s s.k n') (squares s) p' → Crossing s zones starts entries x y x' y' e e l l d p p' 0 0 0
  unfolding looked_into
  cross-begins zones starts entries e l h h' t w w' = record { apart = steps_apart map.column map'.column t; few = omega arith; old = up_first map h w; new = up_first map' h' w'; entered = front-none e; left = front-none l }

  module _ {zones starts entries e e' l l' : List ℕ} {d p p' up came gone : ℕ} (k : Crossing s zones starts entries x y x' y' e e' l l' d p p' up came gone) where
    pub cross-few : up ≤ 6
    cross-few = omega (arith, k.few, k.apart.few, map.shape.levels)

    level : up < d → up ≤ s.k
    level h = omega (arith, k.apart.few)

    pub cross-old : {many : ℕ} → up < d → many ≡ squares s + 1 → p + 1 < many
    cross-old h q = up_start map p up k.old (level h) q

    pub cross-new : {many : ℕ} → up < d → many ≡ squares s + 1 → p' + 1 < many
    cross-new h q = up_start map' p' up k.new (level h) q

    pub cross-turns : {e'' l'' : List ℕ} {q q' r r' : ℕ} → up < d → Gathers (outside zones x y) starts entries p' e' e'' came r' → Gathers (outside zones x' y') starts entries p l' l'' gone r → q ≡ parent_of s p → q' ≡ parent_of s p' → Crossing s zones starts entries x y x' y' e e'' l l'' d q q' (up + 1) r' r
    cross-turns h g' g f f' = record {
      apart = k.apart;
      few = omega arith;
      old = up_next map p up k.old f;
      new = up_next map' p' up k.new f';
      entered = up-front map' (outside zones x y) starts entries p' up k.new (level h) k.entered g';
      left = up-front map (outside zones x' y') starts entries p up k.old (level h) k.left g;
    }

    pub cross-ends : d ≤ up → Crosses s zones starts entries x y x' y' e e' l l' (record { squares = up + up; entered = came; left = gone })
    cross-ends h =
        let q : d ≡ up = omega (arith, k.few) in
        record { levels = up; apart = rw q at k.apart; squares = omega arith; entered = k.entered; left = k.left }

-- the same cell: no square differs
pub cross-same : (s : Shape) (zones starts entries : List ℕ) (x y : ℕ) (e l : List ℕ) → Crosses s zones starts entries x y x y e e l l (record { squares = 0; entered = 0; left = 0 })
unfolding looked_into
cross-same s zones starts entries x y e l = record { levels = 0; apart = apart_none s x y; squares = refl; entered = front-none e; left = front-none l }

-- ---- on sound tables

-- a zone with f is on the list of one of the m smallest squares of a cell
unfoldable listed : (ℕ → Bool) → Tables → ℕ → ℕ → ℕ → ℕ → Bool
listed f t x y zero z = false
listed f t x y (suc m) z = listed f t x y m z || (on_cell t x y ((shape_of t).k - m) z && f z)

listed→ : (f : ℕ → Bool) (t : Tables) (x y m z : ℕ) → listed f t x y m z ≡ true → (i : ℕ) × (i ≤ (shape_of t).k) × (on_cell t x y i z ≡ true) × (f z ≡ true)
unfolding listed
listed→ f t x y zero z e = absurd (true-not-false false e refl)
listed→ f t x y (suc m) z e = ⊎_elim
    (λ (q : listed f t x y m z ≡ true). listed→ f t x y m z q)
    (λ (q : listed f t x y m z ≡ false).
    let a = and→ (on_cell t x y ((shape_of t).k - m) z) (f z) (sym (ap (λ (b : Bool). b || (on_cell t x y ((shape_of t).k - m) z && f z)) q) ∙ e) in
    ((shape_of t).k - m, omega arith, a.0, a.1))
    (true-or-false (listed f t x y m z))

→listed : (f : ℕ → Bool) (t : Tables) (x y m i z : ℕ) → i ≤ (shape_of t).k → (shape_of t).k - i < m → on_cell t x y i z ≡ true → f z ≡ true → listed f t x y m z ≡ true
unfolding listed
→listed f t x y zero i z h g e d = absurd (omega arith)
→listed f t x y (suc m) i z h g e d = ⊎_elim
    (λ (l : (shape_of t).k - i < m). ap (λ (b : Bool). b || (on_cell t x y ((shape_of t).k - m) z && f z)) (→listed f t x y m i z h l e d))
    (λ (l : m ≤ (shape_of t).k - i).
    let k : (shape_of t).k - m ≡ i = omega arith in
    ap (λ (b : Bool). listed f t x y m z || b) (ap (λ (j : ℕ). on_cell t x y j z && f z) k ∙ rw (e, d)) ∙ or-true (listed f t x y m z))
    (lt-or-le ((shape_of t).k - i) m)

module _ {t : Tables} (sound : Sound t) (x y : ℕ) (column : x < width (shape_of t)) (row : y < height (shape_of t)) (room : ℕ) (enough : zone_room t ≤ room) where
  looked-levels : (f : ℕ → Bool) (m : ℕ) → m ≤ (shape_of t).k + 1 → looked_into f (shape_of t) x y t.derived.starts t.derived.entries room m ≡ keep (listed f t x y m) (upto (zone_room t))
  unfolding looked_into listed
  looked-levels f zero h = sym (keep-none (λ (z : ℕ). false) (upto (zone_room t)) (λ z m. refl))
  looked-levels f (suc m) h =
      let i = (shape_of t).k - m in
      let n = number (shape_of t) i x y in
      let there = place-below (shape_of t) i n (omega arith) (number-below (shape_of t) i x y (omega arith) column row) in
      ap (gathered room (only f (run t.derived.starts t.derived.entries (place (shape_of t) i n)))) (looked-levels f m (omega arith)) ∙ gathered-sound sound (place (shape_of t) i n) there room enough f (listed f t x y m)

  few : (z : ℕ) → z < zone_room t → z < 256
  few z h = omega (arith, (size_of sound).room.zones-few)

  -- looking into all squares of a cell finds the standing zones that hold it
  pub looked-holds : looked_into any (shape_of t) x y t.derived.starts t.derived.entries room ((shape_of t).k + 1) ≡ keep (λ (z : ℕ). zone_holds t z x y) (upto (zone_room t))
  looked-holds =
      looked-levels any ((shape_of t).k + 1) (omega arith) ∙ keep-ext (listed any t x y ((shape_of t).k + 1)) (λ (z : ℕ). zone_holds t z x y) (upto (zone_room t))
      (λ z m.
      let small : z < 256 = few z (omega (arith, span→ 0 (zone_room t) z m)) in
      both_ways (listed any t x y ((shape_of t).k + 1) z) (zone_holds t z x y)
      (λ (e : listed any t x y ((shape_of t).k + 1) z ≡ true). let a = listed→ any t x y ((shape_of t).k + 1) z e in level→holds t x y z column row small a.0 a.1 a.2)
      (λ (e : zone_holds t z x y ≡ true). let a = holds→level t x y z column row small e in →listed any t x y ((shape_of t).k + 1) a.0 z a.1 (omega arith) a.2 refl))

  standing : (z : ℕ) → zone_holds t z x y ≡ true → stands t z ≡ true
  standing z e = (and→ (stands t z) (holds (rect_of t z) x y) (sym (zone-holds t z x y) ∙ e)).0

  -- a zone of the table holds another cell, or is outside of it
  held-or-outside : (x' y' z : ℕ) → z < zone_room t → stands t z ≡ true → outside t.records.zones x' y' z ≡ not (zone_holds t z x' y')
  unfolding outside
  held-or-outside x' y' z h e = rw (zone-holds t z x' y', e, lt-ltb (4 * z + 3) (length t.records.zones) (omega (arith, (size_of sound).lengths.zones)))

  -- looking into the squares that differ from another cell's finds those that hold the one and not the other
  module _ (x' y' d : ℕ) (column' : x' < width (shape_of t)) (row' : y' < height (shape_of t)) (above : (i : ℕ) → i ≤ (shape_of t).k → d ≤ (shape_of t).k - i → number (shape_of t) i x y ≡ number (shape_of t) i x' y') (most : d ≤ (shape_of t).k + 1) where
    abbrev away : ℕ → Bool
    away = outside t.records.zones x' y'

    found-away : (z : ℕ) → z < zone_room t → listed away t x y d z ≡ true → (zone_holds t z x y && not (zone_holds t z x' y')) ≡ true
    found-away z h e =
        let a = listed→ away t x y d z e in
        let q = level→holds t x y z column row (few z h) a.0 a.1 a.2 in
        rw (q, ← held-or-outside x' y' z h (standing z q)) a.3

    away-found : (z : ℕ) → z < zone_room t → (zone_holds t z x y && not (zone_holds t z x' y')) ≡ true → listed away t x y d z ≡ true
    away-found z h e =
        let a = and→ (zone_holds t z x y) (not (zone_holds t z x' y')) e in
        let b = holds→level t x y z column row (few z h) a.0 in
        →listed away t x y d b.0 z b.1 (⊎_elim
        (λ (l : (shape_of t).k - b.0 < d). l)
        (λ (l : d ≤ (shape_of t).k - b.0).
        let n = above b.0 b.1 l in
        let q = level→holds t x' y' z column' row' (few z h) b.0 b.1 (ap (λ (v : ℕ). on t (place (shape_of t) b.0 v * 256 + z)) (sym n) ∙ b.2) in
        absurd (true-not-false (not (zone_holds t z x' y')) a.1 (ap not q)))
        (lt-or-le ((shape_of t).k - b.0) d)) b.2 (held-or-outside x' y' z h (standing z a.0) ∙ a.1)

    pub looked-apart : looked_into away (shape_of t) x y t.derived.starts t.derived.entries room d ≡ keep (λ (z : ℕ). zone_holds t z x y && not (zone_holds t z x' y')) (upto (zone_room t))
    looked-apart =
        looked-levels away d most ∙ keep-ext (listed away t x y d) (λ (z : ℕ). zone_holds t z x y && not (zone_holds t z x' y')) (upto (zone_room t))
        (λ z m.
        let h : z < zone_room t = omega (arith, span→ 0 (zone_room t) z m) in
        both_ways (listed away t x y d z) (zone_holds t z x y && not (zone_holds t z x' y')) (found-away z h) (away-found z h))
