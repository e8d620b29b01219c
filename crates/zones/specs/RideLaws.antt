-- What a ride that is not barred has, and how it keeps the promise: refused by 12, or with the zone moved.
use Prim.Native.Nat.{ℕ, ◌+◌, ◌*◌, ◌<◌, ◌≤◌}
use Rattle.std.specs.Prelude.{◌≡◌, Bool, true, false, ◌&&◌, ℤ, leb}
use Rattle.std.proofs.Math.Path.{refl, ap, sym}
use Rattle.std.proofs.Common.{ap₂, subst, ◌∙◌, inl, arith, SFits, to_z, of_z}
use mathlib.Core.List.{List, [], ◌∷◌}
use Rattle.std.proofs.Math.Option.{Option}
use Rattle.std.specs.Int.{w32}
use Rattle.std.proofs.lemmas.Int.{to_z-of_z}
use Rattle.std.proofs.Math.ListN.{length}
use Rattle.std.proofs.lemmas.List.Edits.{sets}
use Rattle.std.proofs.Math.Seq.{length-sets}
use borrow.Author.Tests.{le-leb, lt-leb, leb-true, ltb-true}
use Rattle.order.specs.Order.{over, lacks}
use Rattle.order.specs.TestLaws.{and→}
use Rattle.squares.specs.declared.shape.Shape.{Shape}
use Rattle.squares.specs.declared.shape.Rect.{Rect}
use Rattle.squares.specs.Shape.{fits}
use Rattle.squares.specs.Bounds.{Allowed, Fits}
use Rattle.squares.specs.Ride.{ridden, lands}
use Rattle.squares.specs.Slide.{Rides}
use Rattle.squares.specs.ShapeLaws.{fits→}
use Rattle.squares.specs.Refusals.{first, accept, Result}
use Rattle.squares.specs.RefusalLaws.{clear}
use Rattle.cuts.specs.Cut.{cut}
use Rattle.std.specs.declared.result.Result.TheVariants.{Ok, Err}
use Rattle.squares.specs.declared.refusal.Refusal.{Refusal}
use Rattle.model.specs.Answers.{Values, numbers, ridden_is}
use Rattle.model.specs.Model.{there, known, riding, cut_of, entries_used, meaning}
use Rattle.tables.specs.Tables.{Tables, tables, tally, shape_of, zone_room, car_room, entry_room, rect_of, stands, zone_in, town_of}
use Rattle.tables.specs.Sizes.{Sized}
use Rattle.tables.specs.CheckLaws.{sized→, size_of}
use Rattle.tables.specs.RecordLaws.{stands-known, zone-there}
use Rattle.tables.specs.Rows.{RowThere}
use Rattle.tables.specs.RowLaws.{row-in}
use Rattle.tables.specs.TallyLaws.{tally-in}
use Rattle.tables.specs.CountLaws.{count-used}
use Rattle.tables.specs.Asks.{Parked}
use Rattle.tables.specs.Sound.{Sound}
use Rattle.tables.specs.Steps.{with_zone}
use Rattle.tables.specs.Lent.{both}
use Rattle.entries.specs.Drops.{in_use}
use Rattle.rides.specs.Changes.{RideRoom, KeysRidden}
use Rattle.rosters.specs.Inside.{row_in}
use Rattle.rosters.specs.Ridden.{RowRidden}
use Rattle.tallies.specs.Counts.{counted}
use Rattle.edits.specs.DropLaws.{last-start}
use Rattle.edits.specs.StepLaws.{used-room}
use Rattle.edits.specs.RideLaws.{zone-in, zone-now, room_moved, ridden-is, cars-came, cars-went}
use Rattle.promises.specs.Promise.{means, bars, Keeps}
use Rattle.promises.specs.Events.{event}
use Rattle.promises.specs.PromiseLaws.{keeps-late, keeps-done}
use Rattle.zones.specs.Rooms.{has_room}

-- the zone has its place, stands, and has room where it goes
pub record Mover (t : Tables) (z : ℕ) (dx dy : ℤ) (b f : List ℕ) : Type 0 where
  pub none : bars t (riding z dx dy b f) ≡ 0
  pub size : Sized t
  pub zone : z < zone_room t
  pub stand : stands t z ≡ true
  pub lands : lands (shape_of t) dx dy (rect_of t z) ≡ true
  pub came : car_room t ≤ length b
  pub went : car_room t ≤ length f

pub mover : (t : Tables) (z : ℕ) (dx dy : ℤ) (b f : List ℕ) → bars t (riding z dx dy b f) ≡ 0 → Mover t z dx dy b f
unfolding meaning
mover t z dx dy b f none =
    let h = clear (means t (riding z dx dy b f)).checks refl none in
    let k = h.1.1.1 in
    record {
      none = none;
      size = sized→ t h.0;
      zone = ltb-true z (zone_room t) h.1.0;
      stand = sym (stands-known t z) ∙ h.1.1.0;
      lands = (and→ (stands t z) _ (sym (zone-there t z (lands (shape_of t) dx dy)) ∙ k.0)).1;
      came = leb-true (car_room t) (length b) k.1.0;
      went = leb-true (car_room t) (length f) k.1.1.0;
    }

-- ---- signed numbers that the machine has read back

module _ {dx dy : ℤ} (x : SFits w32 dx) (y : SFits w32 dy) where
  pub bars-plain : (t : Tables) (z : ℕ) (b f : List ℕ) → bars t (riding z (to_z w32 (of_z w32 dx)) (to_z w32 (of_z w32 dy)) b f) ≡ bars t (riding z dx dy b f)
  bars-plain t z b f = ap₂ (λ (i j : ℤ). bars t (riding z i j b f)) (to_z-of_z w32 dx x) (to_z-of_z w32 dy y)

  pub rides-plain : {r q : Rect} → Rides (to_z w32 (of_z w32 dx)) (to_z w32 (of_z w32 dy)) r q → Rides dx dy r q
  rides-plain {r} {q} k = subst (λ (i : ℤ). Rides i dy r q) (to_z-of_z w32 dx x) (subst (λ (j : ℤ). Rides (to_z w32 (of_z w32 dx)) j r q) (to_z-of_z w32 dy y) k)

-- check 9, as the code asks it
pub lands-told : (t : Tables) → Sized t → (z : ℕ) → known (zone_in t z) ≡ true → {dx dy : ℤ} {s : Shape} {old new : Rect} → s ≡ shape_of t → old ≡ rect_of t z → Rides dx dy old new → fits s new ≡ there (zone_in t z) (lands (shape_of t) dx dy)
lands-told t size z up {dx} {dy} {s} {old} {new} shape was k =
    ap (λ (q : Shape). fits q new) shape
    ∙ k.test (shape_of t) size.shape
    ∙ ap (lands (shape_of t) dx dy) was
    ∙ sym (zone-there t z (lands (shape_of t) dx dy) ∙ ap (λ (v : Bool). v && lands (shape_of t) dx dy (rect_of t z)) (sym (stands-known t z) ∙ up))

-- what is left, by its parts
same_left : {b b₁ f f₁ : List ℕ} {g g₁ c c₁ n n₁ m m₁ : ℕ} → b ≡ b₁ → f ≡ f₁ → g ≡ g₁ → c ≡ c₁ → n ≡ n₁ → m ≡ m₁ → ◌≡◌ {A = Result Values} (record { buffers = b ∷ f ∷ []; answer = accept (numbers (g ∷ c ∷ n ∷ m ∷ [])) }) (record { buffers = b₁ ∷ f₁ ∷ []; answer = accept (numbers (g₁ ∷ c₁ ∷ n₁ ∷ m₁ ∷ [])) })
same_left p q x y v w = rw (p, q, x, y, v, w)

-- ---- room

module _ (s : Shape) (old new : Rect) (used many : ℕ) where
  pub room-none : fits s old ≡ false → false ≡ has_room s old new used many
  unfolding has_room
  room-none e = rw e

  pub room-short : fits s old ≡ true → many < used → false ≡ has_room s old new used many
  unfolding has_room
  room-short e h = rw (e, lt-leb used many h)

  pub room-told : fits s old ≡ true → used ≤ many → (o n : ℕ) → o ≡ length (cut s old) → n ≡ length (cut s new) → leb (used + n) (many + o) ≡ has_room s old new used many
  unfolding has_room
  room-told e h o n a b = rw (e, le-leb used many h, a, b)

module _ {t : Tables} {z : ℕ} {dx dy : ℤ} {b f : List ℕ} (h : Mover t z dx dy b f) where
  pub record-there : 4 * z + 4 ≤ length t.records.zones
  record-there = omega (arith, h.size.lengths.zones, h.zone)

  -- with the shape as it was read, the old rectangle and the new one
  module _ {s : Shape} {old new : Rect} (shape : s ≡ shape_of t) (was : old ≡ rect_of t z) (rides : Rides dx dy old new) where
    new_is : new ≡ ridden dx dy (rect_of t z)
    new_is = rides.is (shape_of t) h.size.shape (ap (lands (shape_of t) dx dy) was ∙ h.lands) ∙ ap (ridden dx dy) was

    pub fit : Fits s new
    fit = rw shape (fits→ (shape_of t) new (rides.test (shape_of t) h.size.shape ∙ ap (lands (shape_of t) dx dy) was ∙ h.lands))

    fit-new : Fits (shape_of t) (ridden dx dy (rect_of t z))
    fit-new = rw (shape, new_is) at fit

    pub few-there : length t.derived.entries ≤ 16384
    few-there = omega (arith, h.size.lengths.entries, h.size.room.entries-few)

    pub allowed : Allowed s
    allowed = rw shape h.size.shape

    pub row-there : {many : ℕ} → many ≡ car_room t → Parked s t.records.cars t.records.spots many × (RowThere t.derived.rosters z many × (Fits s new × ((many ≤ length b) × (many ≤ length f))))
    row-there e = rw e (rw shape (record { shape = h.size.shape; many = h.size.lengths.cars; pairs = h.size.lengths.spots; some = h.size.room.cars-some; few = h.size.room.cars-few }), (row-in t h.size z h.zone, (fit, (h.came, h.went))))

    pub cars-there : {many n m : ℕ} {r b' f' : List ℕ} → many ≡ car_room t → RowRidden s t.records.cars t.records.spots new t.derived.rosters r z many b b' f f' n m → RowThere r z (length t.records.cars) × (z * tally + tally ≤ length t.derived.tallies)
    cars-there {many} {r = r} e k =
        let row = row-in t h.size z h.zone in
        let long : length r ≡ length t.derived.rosters = ap length k.written ∙ length-sets t.derived.rosters (z * many) (row_in s t.records.cars t.records.spots new many) in
        (rw h.size.lengths.cars (record { there = omega (arith, row.there, long); early = row.early; few = row.few }), tally-in t h.size z h.zone)

    module _ {u : ℕ} (last : u ≡ in_use t.derived.starts) where
      -- on sound tables there is room just if the model says so
      room-is : Sound t → has_room s old new u (length t.derived.entries) ≡ leb (entries_used (town_of t) + length (cut (shape_of t) (ridden dx dy (rect_of t z)))) (entry_room t + length (cut (shape_of t) (rect_of t z)))
      unfolding has_room
      room-is sound =
          let in_use_lem : u ≡ entries_used (town_of t) = last ∙ last-start sound z ∙ count-used t (size_of sound) in
          rw (shape, was, new_is, (size_of sound).lengths.entries, sound.zones z h.stand, in_use_lem, le-leb (entries_used (town_of t)) (entry_room t) (omega (arith, used-room t sound, count-used t (size_of sound))))

      pub ride-full : has_room s old new u (length t.derived.entries) ≡ false → Keeps (both t t) (event (riding z dx dy b f) (b ∷ f ∷ []) (ridden_is (Err Refusal.Entries)))
      unfolding meaning first
      ride-full e = keeps-late t (riding z dx dy b f) _ 11 h.none (inl refl) refl (λ any sound. rw (room_moved t sound z h.zone h.stand dx dy fit-new ∙ sym (room-is sound) ∙ e))

      module _ (e : has_room s old new u (length t.derived.entries) ≡ true) where
        parts : (fits s old ≡ true) × ((leb u (length t.derived.entries) ≡ true) × (leb (u + length (cut s new)) (length t.derived.entries + length (cut s old)) ≡ true))
        unfolding has_room
        parts = let a = and→ (fits s old) _ e in (a.0, and→ (leb u (length t.derived.entries)) _ a.1)

        pub keys-there : RideRoom s old new z u t.derived.starts t.derived.entries
        keys-there = record {
          changes = record { shape = allowed; old = fits→ s old parts.0; new = fit; zone = omega (arith, h.zone, h.size.room.zones-few); places = rw shape h.size.lengths.starts };
          within = leb-true u (length t.derived.entries) parts.1.0;
          room = leb-true _ _ parts.1.1;
          few = omega (arith, h.size.lengths.entries, h.size.room.entries-few);
        }

        pub ride-kept : {many gone come n m : ℕ} {w s' e' r n' b' f' : List ℕ} → many ≡ car_room t → w ≡ with_zone t.records.zones z new → KeysRidden s old new z u t.derived.starts s' t.derived.entries e' gone come → RowRidden s t.records.cars t.records.spots new t.derived.rosters r z many b b' f f' n m → n' ≡ sets t.derived.tallies (z * tally) (counted t.records.cars r (z * length t.records.cars) (length t.records.cars)) → Keeps (both t (tables t.records.head w t.records.cars t.records.spots s' e' r n')) (event (riding z dx dy b f) (b' ∷ f' ∷ []) (ridden_is (Ok (record { dropped = gone; taken = come; entered = n; left = m }))))
        unfolding meaning first
        ride-kept {many} {gone} {come} {n} {m} {w} {s'} {e'} {r} {n'} {b'} {f'} room ew ek er en = keeps-done t (riding z dx dy b f) _ _ (numbers (gone ∷ come ∷ n ∷ m ∷ [])) h.none refl (λ any sound.
            let kept : KeysRidden (shape_of t) (rect_of t z) (ridden dx dy (rect_of t z)) z (in_use t.derived.starts) t.derived.starts s' t.derived.entries e' gone come = rw (shape, was, new_is, last) at ek in
            let row : RowRidden (shape_of t) t.records.cars t.records.spots (ridden dx dy (rect_of t z)) t.derived.rosters r z (car_room t) b b' f f' n m = rw (shape, new_is, room) at er in
            let came = cars-came t sound z h.zone h.stand dx dy fit-new in
            let went = cars-went t sound z h.zone h.stand dx dy fit-new in
            let now = zone-now t sound z h.zone h.stand dx dy fit-new in
            let was-in = zone-in t sound z h.zone h.stand dx dy fit-new in
            let squares : Option Rect → Option Rect → ℕ = λ (o q : Option Rect). length (lacks (cut_of (shape_of t) o) (cut_of (shape_of t) q)) in (
              rw (room_moved t sound z h.zone h.stand dx dy fit-new ∙ sym (room-is sound) ∙ e),
              (
                same_left
                    (row.came ∙ ap (λ (l : List ℕ). over l b) came)
                    (row.went ∙ ap (λ (l : List ℕ). over l f) went)
                    (kept.dropped ∙ sym (ap₂ squares now was-in))
                    (kept.taken ∙ sym (ap₂ squares was-in now))
                    (row.came-count ∙ ap length came)
                    (row.went-count ∙ ap length went),
                rw (ew, en, h.size.lengths.cars, row.written, new_is) (ridden-is t sound z h.zone h.stand dx dy fit-new kept),
              ),
            ))
