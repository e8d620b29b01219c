-- What an add that is not barred has, and how it keeps the promise: refused by 12, or with the zone in the tables.
use Rattle.std.specs.Prelude.{ℕ, ◌+◌, ◌-◌, ◌*◌, ◌<◌, ◌≤◌, ◌≡◌, false, List, [], ◌∷◌, leb, length, get_or}
use Rattle.std.proofs.Math.Path.{refl, sym}
use Rattle.std.proofs.Common.{ap, ap₂, ◌∙◌, inl, arith}
use Rattle.std.proofs.lemmas.List.Edits.{sets}
use Rattle.std.proofs.Math.Seq.{length-sets}
use borrow.Author.Tests.{le-leb, lt-leb, ltb-true, not-true}
use Rattle.squares.specs.declared.shape.Shape.{Shape}
use Rattle.squares.specs.declared.shape.Rect.{Rect}
use Rattle.squares.specs.Bounds.{Fits}
use Rattle.squares.specs.Squares.{squares}
use Rattle.cuts.specs.Cut.{cut}
use Rattle.cuts.specs.Leaves.{AllRoom}
use Rattle.squares.specs.ShapeLaws.{fits→}
use Rattle.squares.specs.Refusals.{first}
use Rattle.squares.specs.RefusalLaws.{clear}
use Rattle.std.specs.declared.result.Result.TheVariants.{Ok, Err}
use Rattle.squares.specs.declared.refusal.Refusal.{Refusal}
use Rattle.model.specs.Answers.{numbers}
use Rattle.model.specs.Model.{adding, known, entries_used, meaning}
use Rattle.tables.specs.Tables.{Tables, tables, tally, shape_of, zone_room, car_room, entry_room, stands, zone_in, town_of}
use Rattle.tables.specs.Sizes.{Sized}
use Rattle.tables.specs.CheckLaws.{sized→, size_of}
use Rattle.tables.specs.RecordLaws.{stands-known}
use Rattle.tables.specs.Rows.{RowThere}
use Rattle.tables.specs.RowLaws.{row-in}
use Rattle.tables.specs.TallyLaws.{tally-in}
use Rattle.tables.specs.RunLaws.{start-at}
use Rattle.tables.specs.CountLaws.{count-used}
use Rattle.tables.specs.Asks.{Parked}
use Rattle.tables.specs.Sound.{Sound}
use Rattle.tables.specs.Steps.{with_zone}
use Rattle.tables.specs.Lent.{both}
use Rattle.entries.specs.Keys.{AddRoom, KeysAdded}
use Rattle.rosters.specs.Inside.{row_in, RowMarked}
use Rattle.tallies.specs.Counts.{counted}
use Rattle.edits.specs.AddLaws.{added_is, cars-added}
use Rattle.promises.specs.Promise.{means, bars, Keeps}
use Rattle.promises.specs.Events.{added}
use Rattle.promises.specs.PromiseLaws.{keeps-late, keeps-done}

-- the zone has its place in the tables and in the town
pub record New (t : Tables) (z : ℕ) (r : Rect) : Type 0 where
  pub none : bars t (adding z r) ≡ 0
  pub size : Sized t
  pub zone : z < zone_room t
  pub down : stands t z ≡ false
  pub fit : Fits (shape_of t) r

pub new-zone : (t : Tables) (z : ℕ) (r : Rect) → bars t (adding z r) ≡ 0 → New t z r
unfolding meaning
new-zone t z r none =
    let h = clear (means t (adding z r)).checks refl none in
    record { none = none; size = sized→ t h.0; zone = ltb-true z (zone_room t) h.1.0; down = sym (stands-known t z) ∙ not-true (known (zone_in t z)) h.1.1.0; fit = fits→ (shape_of t) r h.1.1.1.0 }

module _ {t : Tables} {z : ℕ} {r : Rect} (h : New t z r) where
  pub record-there : 4 * z + 4 ≤ length t.records.zones
  record-there = omega (arith, h.size.lengths.zones, h.zone)

  -- with the shape as it was read
  module _ {s : Shape} (shape : s ≡ shape_of t) where
    pub cut-room : AllRoom s r
    cut-room = rw shape (record { shape = h.size.shape; rect = h.fit })

    pub keys-there : {u n : ℕ} → n ≡ length (cut s r) → u + n ≤ length t.derived.entries → AddRoom s r z u t.derived.starts t.derived.entries
    keys-there e g = record {
      shape = rw shape h.size.shape;
      rect = rw shape h.fit;
      zone = omega (arith, h.zone, h.size.room.zones-few);
      places = rw shape h.size.lengths.starts;
      room = omega arith;
      few = omega (arith, h.size.lengths.entries, h.size.room.entries-few);
    }

    pub row-there : {many : ℕ} → many ≡ car_room t → Parked s t.records.cars t.records.spots many × (RowThere t.derived.rosters z many × Fits s r)
    row-there e = rw (shape, e) (record { shape = h.size.shape; many = h.size.lengths.cars; pairs = h.size.lengths.spots; some = h.size.room.cars-some; few = h.size.room.cars-few }, (row-in t h.size z h.zone, h.fit))

    -- the row marked, for its cars to be counted
    pub cars-there : {many inside : ℕ} {m : List ℕ} → many ≡ car_room t → RowMarked s t.records.cars t.records.spots r t.derived.rosters m z many inside → RowThere m z (length t.records.cars) × (z * tally + tally ≤ length t.derived.tallies)
    cars-there {many} {inside} {m} e k =
        let old = row-in t h.size z h.zone in
        let long : length m ≡ length t.derived.rosters = ap length k.written ∙ length-sets t.derived.rosters (z * many) (row_in s t.records.cars t.records.spots r many) in
        (rw h.size.lengths.cars (record { there = omega (arith, old.there, long); early = old.early; few = old.few }), tally-in t h.size z h.zone)

    -- the last start read and the squares counted
    module _ {u n : ℕ} (last : u ≡ get_or t.derived.starts (length t.derived.starts - 1) 0) (count : n ≡ length (cut s r)) where
      cut-is : n ≡ length (cut (shape_of t) r)
      cut-is = count ∙ ap (λ (q : Shape). length (cut q r)) shape

      -- on sound tables the last start counts the entries in use
      in_use : Sound t → u ≡ entries_used (town_of t)
      in_use sound =
          let e : length t.derived.starts - 1 ≡ squares (shape_of t) = omega (arith, (size_of sound).lengths.starts) in
          last ∙ ap (λ (i : ℕ). get_or t.derived.starts i 0) e ∙ start-at sound (squares (shape_of t)) (omega arith) ∙ count-used t (size_of sound)

      room-is : Sound t → leb (entries_used (town_of t) + length (cut (shape_of t) r)) (entry_room t) ≡ leb (u + n) (length t.derived.entries)
      room-is sound = ap₂ leb (ap₂ ◌+◌ (sym (in_use sound)) (sym cut-is)) (sym (size_of sound).lengths.entries)

      pub add-full : length t.derived.entries < u + n → Keeps (both t t) (added z r (Err Refusal.Entries))
      unfolding meaning first
      add-full l = keeps-late t (adding z r) _ 11 h.none (inl refl) refl (λ any sound. rw (room-is sound ∙ lt-leb (u + n) (length t.derived.entries) l))

      pub add_kept : u + n ≤ length t.derived.entries → {w b e m n' : List ℕ} {many inside : ℕ} → many ≡ car_room t → w ≡ with_zone t.records.zones z r → KeysAdded s r z u t.derived.starts b t.derived.entries e → RowMarked s t.records.cars t.records.spots r t.derived.rosters m z many inside → n' ≡ sets t.derived.tallies (z * tally) (counted t.records.cars m (z * length t.records.cars) (length t.records.cars)) → Keeps (both t (tables t.records.head w t.records.cars t.records.spots b e m n')) (added z r (Ok (record { squares = n; cars = inside })))
      unfolding meaning first
      add_kept l {w} {b} {e} {m} {n'} {inside = i} room ew ek em en = keeps-done t (adding z r) _ _ (numbers (n ∷ i ∷ [])) h.none refl
          (λ any sound. (rw (room-is sound ∙ le-leb (u + n) (length t.derived.entries) l), (rw (cut-is, row.count ∙ cars-added t sound z h.zone h.down r h.fit), rw (ew, en, h.size.lengths.cars, row.written) (added_is t sound z h.zone h.down r h.fit b e (rw (shape, in_use sound ∙ sym (count-used t (size_of sound))) at ek)))))
        where
          row : RowMarked (shape_of t) t.records.cars t.records.spots r t.derived.rosters m z (car_room t) i
          row = rw (shape, room) at em
