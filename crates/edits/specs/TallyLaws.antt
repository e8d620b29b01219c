-- Laws of the tallies by rows: what a row written and rows turned leave, and the tallies of tables of which one zone differs.
use Rattle.std.specs.Prelude.{ℕ, ◌+◌, ◌*◌, ◌<◌, ◌≤◌, ◌≡◌, ◌⊎◌, Bool, false, eqb, get_or, drop, replicate}
use Rattle.std.proofs.Math.Path.{refl, ap, sym, fun_ext}
use Rattle.std.proofs.Common.{◌∙◌, inl, inr, arith, length-drop, length-take-le, get_or-take, get_or-drop, ext_get_or, le-leb}
use Rattle.std.proofs.Math.Logic.{⊎_elim}
use mathlib.Core.List.Memᴰ
use mathlib.Core.List.{List, [], ◌∷◌, Memᴰ}
use Rattle.std.proofs.Math.Option.{Option}
use Rattle.std.proofs.Math.ListN.{length}
use Rattle.std.proofs.lemmas.List.Edits.{sets}
use Rattle.std.proofs.Math.Seq.{length-sets}
use Rattle.std.proofs.lemmas.Bool.{lt-leb}
use Rattle.order.specs.Order.{upto, span, keep}
use Rattle.order.specs.Rising.{Rising, none, more}
use Rattle.order.specs.TestLaws.{lt-or-le, same-or-other}
use Rattle.order.specs.KeepLaws.{keep-ext, keep-none}
use Rattle.model.specs.Teams.{leads, lead, ranked}
use Rattle.model.specs.Model.{Car, there, roster, drives_for, squad}
use Rattle.tables.specs.Tables.{Tables, tally, zone_room, car_room, placed, car_in, town_of, roster_has}
use Rattle.tables.specs.Slots.{tally_at}
use Rattle.tables.specs.Derived.{tally_of, tallies_of}
use Rattle.tables.specs.Steps.{zoned, without_zone}
use Rattle.tables.specs.TallyLaws.{length-tallies, tally-at, tallies-by, counts-own}
use Rattle.tallies.specs.Counts.{swung, turned, moved}
use Rattle.tallies.specs.CountLaws.{length-swung, length-turned}
use Rattle.edits.specs.ZoneLaws.{sets-apart, sets-there}
use Rattle.edits.specs.RosterLaws.{has-without-other, has-without-own}

-- ---- rows

row_at : (b : List ℕ) (z j : ℕ) → j < tally → get_or (tally_at b z) j 0 ≡ get_or b (z * tally + j) 0
row_at b z j h = get_or-take tally (drop (z * tally) b) j 0 h ∙ get_or-drop (z * tally) b j 0

row-long : (b : List ℕ) (z : ℕ) → z * tally + tally ≤ length b → length (tally_at b z) ≡ tally
row-long b z h = length-take-le tally (drop (z * tally) b) (omega (arith, length-drop (z * tally) b))

-- by its numbers
row_by : (b : List ℕ) (z : ℕ) (r : List ℕ) → z * tally + tally ≤ length b → length r ≡ tally → ((j : ℕ) → j < tally → get_or b (z * tally + j) 0 ≡ get_or r j 0) → tally_at b z ≡ r
row_by b z r h l f = ext_get_or 0 (tally_at b z) r (row-long b z h ∙ sym l) (λ j g. row_at b z j (omega (arith, row-long b z h)) ∙ f j (omega (arith, row-long b z h)))

module _ (b : List ℕ) (z : ℕ) (r : List ℕ) (there : z * tally + tally ≤ length b) (long : length r ≡ tally) where
  -- a row written
  put-own : tally_at (sets b (z * tally) r) z ≡ r
  put-own = row_by (sets b (z * tally) r) z r (omega (arith, length-sets b (z * tally) r)) long (λ j h. sets-there r b (z * tally) j (omega arith) (omega arith))

  -- the others stay
  put_other : (y : ℕ) → y * tally + tally ≤ length b → (y ≡ z → ⊥) → tally_at (sets b (z * tally) r) y ≡ tally_at b y
  put_other y h f = row_by (sets b (z * tally) r) y (tally_at b y) (omega (arith, length-sets b (z * tally) r)) (row-long b y h) (λ j g. sets-apart r b (z * tally) (y * tally + j) (apart j g) ∙ sym (row_at b y j g))
    where
      apart : (j : ℕ) → j < tally → (y * tally + j < z * tally) ⊎ (z * tally + length r ≤ y * tally + j)
      apart j g = ⊎_elim (λ (l : y < z). inl (omega arith)) (λ (l : z ≤ y). inr (omega (arith, f))) (lt-or-le y z)

-- ---- the tallies by rows

pub row_of : (t : Tables) (z : ℕ) → z < zone_room t → tally_at (tallies_of t) z ≡ tally_of t z
row_of t z h = row_by (tallies_of t) z (tally_of t z) (omega (arith, length-tallies t)) (counts-own (length (roster (town_of t) z)) (squad (town_of t) z)).long (λ j g. tally-at t z j h g)

pub rows_are : (u : Tables) (l : List ℕ) → length l ≡ zone_room u * tally → ((z : ℕ) → z < zone_room u → tally_at l z ≡ tally_of u z) → l ≡ tallies_of u
rows_are u l e f = tallies-by u l e (λ z j g h. sym (row_at l z j h) ∙ ap (λ (r : List ℕ). get_or r j 0) (f z g))

-- ---- other zones, of which only zone z differs

-- a zone that keeps its cars keeps its numbers, the cars being the same
pub tally-kept : (t u : Tables) (z : ℕ) → car_room u ≡ car_room t → ((c : ℕ) → car_in u c ≡ car_in t c) → ((c : ℕ) → roster_has u z c ≡ roster_has t z c) → tally_of u z ≡ tally_of t z
unfolding roster_has
tally-kept t u z e cars f =
    let inside : roster (town_of u) z ≡ roster (town_of t) z = keep-ext (roster_has u z) (roster_has t z) (upto (car_room u)) (λ c m. f c) ∙ rw e in
    let drives : drives_for (town_of u) ≡ drives_for (town_of t) = fun_ext (λ g. fun_ext (λ c. ap (λ (o : Option Car). there o (λ (a : Car). eqb a.team g)) (cars c))) in
    ap (λ (l : List ℕ). length l ∷ ranked (λ (g : ℕ). length (keep (drives_for (town_of u) g) l))) inside
    ∙ ap (λ (d : ℕ → ℕ → Bool). length (roster (town_of t) z) ∷ ranked (λ (g : ℕ). length (keep (d g) (roster (town_of t) z)))) drives

-- a zone with no car has ten times 0
pub tally-none : (t : Tables) (z : ℕ) → ((c : ℕ) → roster_has t z c ≡ false) → tally_of t z ≡ replicate tally 0
unfolding roster_has span keep lead leads
tally-none t z f = ap (λ (l : List ℕ). length l ∷ ranked (λ (g : ℕ). length (keep (drives_for (town_of t) g) l))) (keep-none (roster_has t z) (upto (car_room t)) (λ c m. f c))

module _ (t : Tables) (zones : List ℕ) (z : ℕ) (within : z < zone_room t) (same : (y c : ℕ) → (y ≡ z → ⊥) → roster_has (zoned t zones) y c ≡ roster_has t y c) where
  pub tallies-row : (r : List ℕ) → r ≡ tally_of (zoned t zones) z → sets (tallies_of t) (z * tally) r ≡ tallies_of (zoned t zones)
  unfolding car_in placed
  tallies-row r e =
      let u = zoned t zones in
      let long : length r ≡ tally = ap length e ∙ (counts-own (length (roster (town_of u) z)) (squad (town_of u) z)).long in
      let room : z * tally + tally ≤ length (tallies_of t) = omega (arith, length-tallies t) in
      rows_are u (sets (tallies_of t) (z * tally) r) (length-sets (tallies_of t) (z * tally) r ∙ length-tallies t) (λ y g. ⊎_elim
      (λ (q : y ≡ z). rw q (put-own (tallies_of t) z r room long ∙ e))
      (λ (f : y ≡ z → ⊥). put_other (tallies_of t) z r room long y (omega (arith, length-tallies t)) f ∙ row_of t y g ∙ sym (tally-kept t u y refl (λ c. refl) (λ c. same y c f)))
      (same-or-other y z))

-- without zone z its numbers are 0
pub tallies-without : (t : Tables) (z : ℕ) → z < zone_room t → sets (tallies_of t) (z * tally) (replicate tally 0) ≡ tallies_of (zoned t (without_zone t.records.zones z))
tallies-without t z h = tallies-row t (without_zone t.records.zones z) z h (has-without-other t z) (replicate tally 0) (sym (tally-none (zoned t (without_zone t.records.zones z)) z (has-without-own t z)))

-- ---- rows turned

module _ (b : List ℕ) (z g v : ℕ) where
  turned-own : z * tally + tally ≤ length b → tally_at (turned b z g v) z ≡ swung (tally_at b z) g v
  unfolding turned
  turned-own h = rw (le-leb (z * tally + tally) (length b) h) (put-own b z (swung (tally_at b z) g v) h (length-swung (tally_at b z) g v ∙ row-long b z h))

  turned-other : (y : ℕ) → y * tally + tally ≤ length b → (y ≡ z → ⊥) → tally_at (turned b z g v) y ≡ tally_at b y
  unfolding turned
  turned-other y h f = ⊎_elim
      (λ (l : length b < z * tally + tally). rw (lt-leb (z * tally + tally) (length b) l))
      (λ (l : z * tally + tally ≤ length b). rw (le-leb (z * tally + tally) (length b) l) (put_other b z (swung (tally_at b z) g v) l (length-swung (tally_at b z) g v ∙ row-long b z l) y h f))
      (lt-or-le (length b) (z * tally + tally))

pub length_moved : (b zs : List ℕ) (g v : ℕ) → length (moved b zs g v) ≡ length b
unfolding moved
length_moved b [] g v = refl
length_moved b (z ∷ zs) g v = length_moved (turned b z g v) zs g v ∙ length-turned b z g v

pub moved_apart : (b zs : List ℕ) (g v y : ℕ) → y * tally + tally ≤ length b → (Memᴰ y zs → ⊥) → tally_at (moved b zs g v) y ≡ tally_at b y
unfolding moved
moved_apart b [] g v y h f = refl
moved_apart b (z ∷ zs) g v y h f = moved_apart (turned b z g v) zs g v y (omega (arith, length-turned b z g v)) (λ m. f (Memᴰ.tail m)) ∙ turned-other b z g v y h (λ (e : y ≡ z). f (Memᴰ.head e))

-- a zone on a rising list is turned once
pub moved-there : (b : List ℕ) {zs : List ℕ} (g v y : ℕ) → Rising zs → Memᴰ y zs → y * tally + tally ≤ length b → tally_at (moved b zs g v) y ≡ swung (tally_at b y) g v
unfolding moved
moved-there b g v y none m h = absurd (Memᴰ.not-nil m)
moved-there b g v y (more {x = z} {xs = zs} below r) m h =
    let b' = turned b z g v in
    let h' : y * tally + tally ≤ length b' = omega (arith, length-turned b z g v) in
    ⊎_elim
    (λ (e : y ≡ z). moved_apart b' zs g v y h' (λ (k : Memᴰ y zs). omega (arith, below y k)) ∙ rw e (turned-own b z g v (rw e at h)))
    (λ (k : Memᴰ y zs). moved-there b' g v y r k h' ∙ ap (λ (l : List ℕ). swung l g v) (turned-other b z g v y h (λ (e : y ≡ z). omega (arith, below y k))))
    (Memᴰ.cases_cons m)
