-- The tables that document 01's whole case leaves, every byte.
use Rattle.std.specs.Prelude.{ℕ, suc, ◌+◌, ◌*◌, ◌≡◌, refl, true, ◌&&◌, List, [], ◌∷◌, ◌++◌, map, length, get_or, replicate, set}
use Rattle.std.proofs.Common.{ap, ap₂, sym, ◌∙◌, eq-eqb, leb-true}
use Rattle.std.specs.Float.{binary32}
use Rattle.std.specs.Float.Ieee.{of_bits}
use Rattle.std.proofs.lemmas.List.{get_or-replicate}
use Rattle.order.specs.Order.{span, keep}
use Rattle.order.specs.Buffer.{ends_below}
use Rattle.order.specs.Sums.{sum}
use Rattle.squares.specs.Squares.{corner_x, corner_y, evens}
use Rattle.cuts.specs.Cut.{cut_to, in_cut, inside}
use Rattle.model.specs.Whole.{asked, rect, at, far}
use Rattle.model.specs.Teams.{leads, lead}
use Rattle.tables.specs.Tables.{Tables, Derived, Records, tables, shape_of, roster_has, zone_in, car_in, stands, placed}
use Rattle.tables.specs.Derived.{before, level_at, on, free}
use Rattle.tables.specs.Sound.{Sound}
use Rattle.tables.specs.Steps.{fresh, parked}
use Rattle.tables.specs.Check.{sized}
use Rattle.tables.specs.CheckLaws.{sized→}
use Rattle.tallies.specs.Counts.{counted}
use Rattle.soundness.specs.Tests.{sound, every, records_right, free_at, start_right, zone_fits, car_fits, entries_right, key_right, parts, starts_above, byte_right, has, tally_right}
use Rattle.soundness.specs.EveryLaws.{→every}
use Rattle.soundness.specs.SoundnessLaws.{sound→}
use Rattle.soundness.specs.SweepLaws.{entries-rest}
use Rattle.history.specs.History.{History, replayed}
use Rattle.history.specs.Sentences.{tables_after}
use Rattle.history.specs.Whole.{opens, adds, enters, moves, lists, refuses, leaves, ends}

-- the squares of the zone's cut, by place
abbrev places : List ℕ
places = 6 ∷ 10 ∷ 23 ∷ 26 ∷ 27 ∷ 37 ∷ 39 ∷ 53 ∷ 55 ∷ 69 ∷ 72 ∷ 73 ∷ 105 ∷ 107 ∷ 136 ∷ 138 ∷ 161 ∷ 163 ∷ 169 ∷ 171 ∷ 192 ∷ 194 ∷ 200 ∷ 202 ∷ 225 ∷ 227 ∷ 233 ∷ 235 ∷ 256 ∷ 258 ∷ 264 ∷ 266 ∷ 289 ∷ 291 ∷ 320 ∷ 322 ∷ []

-- n so many times, then the next number
abbrev stairs : ℕ → List ℕ → List ℕ
stairs n [] = []
stairs n (many ∷ rest) = replicate many n ++ stairs (suc n) rest

-- zone 1 stands with its entries; no car is on the map, and what car 7's position held stays
unfoldable pub left_behind : Tables
left_behind =
    tables
    (2 ∷ 4 ∷ 4 ∷ 16 ∷ 64 ∷ 2048 ∷ [])
    (0 ∷ 0 ∷ 0 ∷ 0 ∷ 5 ∷ 2 ∷ 8 ∷ 12 ∷ replicate 56 0)
    (replicate 64 0)
    (replicate 14 (of_bits binary32 0) ++ (far.x ∷ far.y ∷ []) ++ replicate 112 (of_bits binary32 0))
    (stairs 0 (7 ∷ 4 ∷ 13 ∷ 3 ∷ 1 ∷ 10 ∷ 2 ∷ 14 ∷ 2 ∷ 14 ∷ 3 ∷ 1 ∷ 32 ∷ 2 ∷ 29 ∷ 2 ∷ 23 ∷ 2 ∷ 6 ∷ 2 ∷ 21 ∷ 2 ∷ 6 ∷ 2 ∷ 23 ∷ 2 ∷ 6 ∷ 2 ∷ 21 ∷ 2 ∷ 6 ∷ 2 ∷ 23 ∷ 2 ∷ 29 ∷ 2 ∷ 14 ∷ []))
    (map (λ (p : ℕ). p * 256 + 1) places ++ replicate 2012 free)
    (replicate 1024 0)
    (replicate 160 0)

-- the test of soundness computes, but for the free marks

all-free : (n : ℕ) → every (free_at (replicate n free)) n ≡ true
all-free n = →every (free_at (replicate n free)) n (λ i h. eq-eqb (get_or (replicate n free) i 0) free (get_or-replicate n i free 0 h))

entries-right : entries_right (shape_of left_behind) 16 left_behind.records.zones left_behind.derived.entries 36 ≡ true
unfolding left_behind every key_right sum cut_to in_cut inside corner_x corner_y evens keep span level_at before
entries-right = sym (entries-rest (shape_of left_behind) 16 left_behind.records.zones left_behind.derived.entries 36 (leb-true 36 (length left_behind.derived.entries) refl) refl refl 36 refl refl (replicate 2012 free) refl) ∙ all-free 2012

rest-right : (every (start_right left_behind.derived.starts left_behind.derived.entries 36) 337 && (every (byte_right (shape_of left_behind) left_behind.records.zones left_behind.records.cars left_behind.records.spots left_behind.derived.rosters 64) 1024 && every (tally_right left_behind.records.cars left_behind.derived.rosters left_behind.derived.tallies 64) 16)) ≡ true
unfolding left_behind every parts ends_below starts_above byte_right has tally_right counted lead leads keep span
rest-right = refl

records-right : records_right left_behind ≡ true
unfolding left_behind every zone_fits car_fits
records-right = refl

left-sound : Sound left_behind
unfolding left_behind sized sound
left-sound = sound→ left_behind (sized→ left_behind refl) (ap₂ ◌&&◌ records-right (ap₂ ◌&&◌ entries-right rest-right))

-- what is derived goes by the records alone
fresh-same : (r q : Records) (d e : Derived) → r ≡ q → fresh (record { records = r; derived = d }) ≡ fresh (record { records = q; derived = e })
unfolding on stands roster_has zone_in car_in placed
fresh-same r q d e h = rw h

sound-fresh : (t : Tables) → Sound t → t ≡ fresh t
sound-fresh t h = ap (λ (d : Derived). record { records = t.records; derived = d }) h.derived

replay-ends : replayed ends ≡ fresh left_behind
unfolding replayed opens adds enters moves lists refuses leaves ends left_behind asked rect at
replay-ends = fresh-same (parked (replayed refuses) (set (replayed refuses).records.cars 7 0) (replayed refuses).records.spots).records left_behind.records (replayed refuses).derived left_behind.derived refl

-- every byte of the tables after the whole case
pub whole-tables : {t : Tables} → History ends t → t ≡ left_behind
whole-tables h = tables_after h ∙ replay-ends ∙ sym (sound-fresh left_behind left-sound)
