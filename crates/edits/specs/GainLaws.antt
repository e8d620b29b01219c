-- The zones that gain a car from some tables to others.
use Rattle.std.specs.Prelude.{ℕ, ◌<◌, ◌≡◌, Bool, true, false, ◌&&◌, not}
use mathlib.Core.List.{List, Memᴰ}
use Rattle.std.proofs.Common.{arith}
use Rattle.std.proofs.lemmas.Bool.{not-true}
use Rattle.order.specs.Order.{upto, keep}
use Rattle.order.specs.Rising.{Rising}
use Rattle.order.specs.RisingLaws.{rising-span, rising-keep}
use Rattle.order.specs.TestLaws.{and→}
use Rattle.order.specs.KeepLaws.{→span, keep→, →keep}
use Rattle.tables.specs.Tables.{Tables, zone_room, roster_has}

-- zones that have the car in the second tables and not in the first
abbrev pub gained : Tables → Tables → ℕ → List ℕ
gained t u c = keep (λ (z : ℕ). roster_has u z c && not (roster_has t z c)) (upto (zone_room t))

module _ (t u : Tables) (c : ℕ) where
  abbrev new : ℕ → Bool
  new z = roster_has u z c && not (roster_has t z c)

  pub gained-rise : Rising (gained t u c)
  gained-rise = rising-keep new (upto (zone_room t)) (rising-span 0 (zone_room t))

  pub gained→ : (z : ℕ) → Memᴰ z (gained t u c) → (roster_has u z c ≡ true) × (roster_has t z c ≡ false)
  gained→ z m =
      let b = and→ (roster_has u z c) (not (roster_has t z c)) (keep→ new (upto (zone_room t)) z m).1 in
      (b.0, not-true (roster_has t z c) b.1)

  pub →gained : (z : ℕ) → z < zone_room t → roster_has u z c ≡ true → roster_has t z c ≡ false → Memᴰ z (gained t u c)
  →gained z g e f = →keep new (upto (zone_room t)) z (→span 0 (zone_room t) z (omega arith) (omega arith)) (rw (e, f))
