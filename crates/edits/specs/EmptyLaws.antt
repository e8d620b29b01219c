-- An empty town is sound, and it is the model's.
use Rattle.std.specs.Prelude.{ℕ, zero, suc, ◌+◌, ◌*◌, ◌/◌, ◌%◌, ◌≡◌, refl, false, length}
use Rattle.std.proofs.Math.Path.{ap, sym, fun_ext}
use Rattle.std.proofs.Common.{ap₂, ◌∙◌}
use mathlib.Core.List.{List, [], ◌∷◌, map}
use Rattle.std.proofs.Math.Option.{Option}
use Rattle.std.proofs.Math.Nat.{sub-zero}
use Rattle.std.specs.Float.{binary32}
use Rattle.std.specs.Float.Ieee.{of_bits}
use Rattle.std.proofs.Math.ListN.{get_or, replicate}
use Rattle.std.proofs.lemmas.List.{length-replicate}
use Rattle.order.specs.Order.{span}
use Rattle.order.specs.Sums.{bit}
use Rattle.order.specs.TestLaws.{true-not-false}
use Rattle.order.specs.KeepLaws.{keep-none, length-span}
use Rattle.squares.specs.declared.shape.Rect.{Rect}
use Rattle.squares.specs.Bounds.{Allowed}
use Rattle.squares.specs.Squares.{squares}
use Rattle.model.specs.Model.{Car, Town, emptied, after}
use Rattle.model.specs.declared.opening.Opening.{Opening}
use Rattle.tables.specs.Tables.{Derived, tally, stands, placed, roster_has, town_of}
use Rattle.tables.specs.RecordLaws.{zone-out, car-out, roster-has}
use Rattle.tables.specs.Sizes.{Roomy}
use Rattle.tables.specs.Derived.{on, keys_to, free, tally_of, derived_of}
use Rattle.tables.specs.Sound.{Sound}
use Rattle.tables.specs.CheckLaws.{→sized}
use Rattle.tables.specs.Steps.{empty_town}
use Rattle.edits.specs.TallyLaws.{tally-none}

zeros : (n i : ℕ) → ◌≡◌ {A = ℕ} (get_or (replicate n 0) i 0) 0
zeros zero i = refl
zeros (suc n) zero = refl
zeros (suc n) (suc i) = zeros n i

map_same : {A : Type 0} (f : ℕ → A) (v : A) (l : List ℕ) → ((x : ℕ) → f x ≡ v) → map f l ≡ replicate (length l) v
map_same f v [] h = refl
map_same f v (x ∷ l) h = rw (h x, map_same f v l h)

derived-same : {a a' b b' c c' d d' : List ℕ} → a ≡ a' → b ≡ b' → c ≡ c' → d ≡ d' → ◌≡◌ {A = Derived} (record { starts = a; entries = b; rosters = c; tallies = d }) (record { starts = a'; entries = b'; rosters = c'; tallies = d' })
derived-same e f g h = rw (e, f, g, h)

abbrev town : Opening → (ℕ → Option Rect) → (ℕ → Option Car) → Town
town o zone car = record { opening = o; zone = zone; car = car }

module _ (o : Opening) where
  none-stands : (z : ℕ) → stands (empty_town o) z ≡ false
  unfolding stands
  none-stands z = rw (zeros (4 * o.zones) (4 * z + 2))

  none-placed : (c : ℕ) → placed (empty_town o) c ≡ false
  unfolding placed
  none-placed c = rw (zeros o.cars c)

  none-on : (key : ℕ) → on (empty_town o) key ≡ false
  unfolding on
  none-on key = rw (none-stands (key % 256))

  no_keys : (p : ℕ) → keys_to (empty_town o) p ≡ []
  no_keys p = keep-none (on (empty_town o)) (span 0 (p * 256)) (λ x m. none-on x)

  no-cars : (z c : ℕ) → roster_has (empty_town o) z c ≡ false
  no-cars z c = rw (roster-has (empty_town o) z c, none-placed c)

  starts-empty : replicate (squares o.shape + 1) 0 ≡ (derived_of (empty_town o)).starts
  starts-empty = sym (map_same (λ (p : ℕ). length (keys_to (empty_town o) p)) 0 (span 0 (squares o.shape + 1)) (λ p. ap length (no_keys p)) ∙ ap (λ (n : ℕ). replicate n 0) (length-span 0 (squares o.shape + 1)))

  entries-empty : replicate o.entries free ≡ (derived_of (empty_town o)).entries
  entries-empty = sym (rw (no_keys (squares o.shape), sub-zero o.entries))

  rosters-empty : replicate (o.zones * o.cars) 0 ≡ (derived_of (empty_town o)).rosters
  rosters-empty = sym (map_same (λ (i : ℕ). bit (roster_has (empty_town o) (i / o.cars) (i % o.cars))) 0 (span 0 (o.zones * o.cars)) (λ i. ap bit (no-cars (i / o.cars) (i % o.cars))) ∙ ap (λ (n : ℕ). replicate n 0) (length-span 0 (o.zones * o.cars)))

  tallies-empty : replicate (o.zones * tally) 0 ≡ (derived_of (empty_town o)).tallies
  unfolding roster_has
  tallies-empty =
      let none : (z : ℕ) → tally_of (empty_town o) z ≡ replicate tally 0 = λ z. tally-none (empty_town o) z (no-cars z) in
      sym (map_same (λ (i : ℕ). get_or (tally_of (empty_town o) (i / tally)) (i % tally) 0) 0 (span 0 (o.zones * tally)) (λ i. ap (λ (l : List ℕ). get_or l (i % tally) 0) (none (i / tally)) ∙ zeros tally (i % tally)) ∙ ap (λ (n : ℕ). replicate n 0) (length-span 0 (o.zones * tally)))

  pub town-empty : (m : Town) → town_of (empty_town o) ≡ after (emptied o) m
  town-empty m = ap₂ (λ (zone : ℕ → Option Rect) (car : ℕ → Option Car). town o zone car) (fun_ext (λ z. zone-out (empty_town o) z (none-stands z))) (fun_ext (λ c. car-out (empty_town o) c (none-placed c)))

  pub empty-sound : Allowed o.shape → Roomy o.zones o.cars o.entries → Sound (empty_town o)
  empty-sound a m = record {
    size = →sized (empty_town o) (record {
      shape = a;
      room = m;
      lengths = record {
        head = refl;
        zones = length-replicate (4 * o.zones) 0;
        cars = length-replicate o.cars 0;
        spots = length-replicate (2 * o.cars) (of_bits binary32 0);
        starts = length-replicate (squares o.shape + 1) 0;
        entries = length-replicate o.entries free;
        rosters = length-replicate (o.zones * o.cars) 0;
        tallies = length-replicate (o.zones * tally) 0;
      };
    });
    zones = λ z e. absurd (true-not-false _ e (none-stands z));
    cars = λ c e. absurd (true-not-false _ e (none-placed c));
    teams = λ c e. absurd (true-not-false _ e (none-placed c));
    derived = derived-same starts-empty entries-empty rosters-empty tallies-empty;
  }
