-- Laws of the tallies: what stands at each place of them, and what sound ones say.
use Rattle.std.specs.Prelude.{◌≡◌, ℕ, zero, suc, ◌+◌, ◌*◌, ◌/◌, ◌%◌, ◌<◌, ◌≤◌, Bool, true, false, ◌⊎◌, List, [], ◌∷◌, ◌++◌, map, length, ◌==◌, nat_eq, slice_index, slice_index_or, refl}
use Rattle.std.proofs.Math.Path.{ap}
use Rattle.std.proofs.Common.{sym, ◌∙◌, inl, inr, ⊎_elim, arith, add-zero, zero-add, div-add-mod', add-one, length-append, ext_get_or}
use Rattle.std.proofs.Math.Arith.{digits_lt, digits_div, digits_mod}
use Rattle.std.proofs.lemmas.List.{length-map}
use Rattle.std.proofs.Math.Seq.{get_or-append_seam}
use Rattle.order.specs.Order.{upto, span, keep}
use Rattle.order.specs.Sums.{bit}
use Rattle.order.specs.KeepLaws.{keep-ext, span→, length-span}
use Rattle.order.specs.TestLaws.{lt-or-le}
use Rattle.model.specs.Teams.{last_team, lead, ranked}
use Rattle.model.specs.Answers.{standing_is}
use Rattle.model.specs.Model.{roster, squad, holder, standing}
use Rattle.tables.specs.Tables.{Tables, tally, zone_room, car_room, town_of, roster_has}
use Rattle.tables.specs.Slots.{standing_in}
use Rattle.tables.specs.Derived.{tally_of, tallies_of}
use Rattle.tables.specs.Sizes.{Sized}
use Rattle.tables.specs.Sound.{Sound}
use Rattle.tables.specs.RecordLaws.{tallies-fresh}
use Rattle.tables.specs.RowLaws.{map-span, mapped, roster-byte}

-- ---- a row of numbers: a count n, f g for each team g, and the team that leads

-- the counts are right; what the holder is, is not said
pub record Counts (row : List ℕ) (n : ℕ) (f : ℕ → ℕ) : Type 0 where
  pub long : length row ≡ tally
  pub count : slice_index_or row 0 0 ≡ n
  pub teams : (g : ℕ) → g ≤ last_team → slice_index row (g + 1) ≡ f g

front_at : (xs ys : List ℕ) (i : ℕ) → i < length xs → slice_index (xs ++ ys) i ≡ slice_index xs i
front_at [] ys i h = absurd (omega arith)
front_at (x ∷ xs) ys zero h = refl
front_at (x ∷ xs) ys (suc i) h = front_at xs ys i (omega arith)

module _ (n : ℕ) (f : ℕ → ℕ) where
  abbrev many : ℕ
  many = last_team + 1

  length-teams : length (map f (upto many)) ≡ 8
  length-teams = length-map (upto many) f ∙ length-span 0 many

  pub counts-own : Counts (n ∷ ranked f) n f
  counts-own = record {
    long = ap suc (length-append (map f (upto many)) (lead f ∷ []) ∙ ap (λ (i : ℕ). i + 1) length-teams);
    count = refl;
    teams = λ g h. rw (add-one g) (front_at (map f (upto many)) (lead f ∷ []) g (omega (arith, length-teams)) ∙ map-span f 0 0 many g (omega arith) ∙ ap f (zero-add g));
  }

  pub holder-own : slice_index_or (n ∷ ranked f) 9 0 ≡ lead f
  holder-own = ap (λ (i : ℕ). slice_index (map f (upto many) ++ (lead f ∷ [])) i) (sym length-teams) ∙ get_or-append_seam (map f (upto many)) (lead f) [] 0

-- the first is the count, the last the holder, the others are the teams'
row-cases : (i : ℕ) → i < tally → (i ≡ 0) ⊎ ((i ≡ 9) ⊎ ((g : ℕ) × (g ≤ last_team) × (i ≡ g + 1)))
row-cases zero h = inl refl
row-cases (suc i) h = ⊎_elim (λ (l : i < 8). inr (inr (i, omega arith, omega arith))) (λ (l : 8 ≤ i). inr (inl (omega arith))) (lt-or-le i 8)

-- two rows with the same counts and the same holder
row_same : {row row' : List ℕ} {n : ℕ} {f : ℕ → ℕ} → Counts row n f → Counts row' n f → slice_index row 9 ≡ slice_index row' 9 → row ≡ row'
row_same {row} {row'} a b e = ext_get_or 0 row row' (a.long ∙ sym b.long) (λ i h. ⊎_elim
    (λ (q : i ≡ 0). rw q (a.count ∙ sym b.count))
    (⊎_elim
    (λ (q : i ≡ 9). rw q e)
    (λ (q : (g : ℕ) × (g ≤ last_team) × (i ≡ g + 1)). rw q.2 (a.teams q.0 q.1 ∙ sym (b.teams q.0 q.1))))
    (row-cases i (omega (arith, a.long))))

-- with the team that leads, a row is right
pub counts-ranked : {row : List ℕ} {n : ℕ} {f : ℕ → ℕ} → Counts row n f → slice_index row 9 ≡ lead f → row ≡ n ∷ ranked f
counts-ranked {n = n} {f} c e = row_same c (counts-own n f) (e ∙ sym (holder-own n f))

-- ---- the tallies

module _ (t : Tables) where
  abbrev number : ℕ → ℕ
  number i = slice_index (tally_of t (i / tally)) (i % tally)

  pub length-tallies : length (tallies_of t) ≡ zone_room t * tally
  length-tallies = length-map (upto (zone_room t * tally)) number ∙ length-span 0 (zone_room t * tally)

  pub tally-at : (z j : ℕ) → z < zone_room t → j < tally → slice_index (tallies_of t) (z * tally + j) ≡ slice_index (tally_of t z) j
  tally-at z j g l = map-span number 0 0 (zone_room t * tally) (z * tally + j) (digits_lt g l) ∙ rw (zero-add (z * tally + j), digits_div z l, digits_mod z l)

  -- a zone's first number is its count
  pub count_at : (z : ℕ) → z < zone_room t → slice_index (tallies_of t) (z * tally) ≡ length (roster (town_of t) z)
  count_at z g = ap (λ (i : ℕ). slice_index (tallies_of t) i) (sym (add-zero (z * tally))) ∙ tally-at z 0 g (omega arith)

  -- a list is the tallies by each number of each zone
  pub tallies-by : (l : List ℕ) → length l ≡ zone_room t * tally → ((z j : ℕ) → z < zone_room t → j < tally → slice_index l (z * tally + j) ≡ slice_index (tally_of t z) j) → l ≡ tallies_of t
  tallies-by l e f = mapped l number (zone_room t * tally) e (λ i h. ap (λ (n : ℕ). slice_index l n) (sym (div-add-mod' i tally)) ∙ f (i / tally) (i % tally) (omega arith) (omega arith))

-- a zone's count is in the table, and so is its whole row
pub tally-in : (t : Tables) → Sized t → (z : ℕ) → z < zone_room t → z * tally + tally ≤ length t.derived.tallies
tally-in t h z g = omega (arith, h.lengths.tallies)

pub count-in : (t : Tables) → Sized t → (z : ℕ) → z < zone_room t → z * tally < length t.derived.tallies
count-in t h z g = omega (arith, h.lengths.tallies)

-- ---- sound tallies

module _ (t : Tables) (sound : Sound t) (z : ℕ) (there : z < zone_room t) where
  pub count-sound : slice_index_or t.derived.tallies (z * tally) 0 ≡ length (roster (town_of t) z)
  count-sound = ap (λ (l : List ℕ). slice_index l (z * tally)) (tallies-fresh sound) ∙ count_at t z there

  at-sound : (j : ℕ) → j < tally → slice_index t.derived.tallies (z * tally + j) ≡ slice_index (tally_of t z) j
  at-sound j h = ap (λ (l : List ℕ). slice_index l (z * tally + j)) (tallies-fresh sound) ∙ tally-at t z j there h

  -- a zone's count of a team, and its holder
  pub team-sound : (g : ℕ) → g ≤ last_team → slice_index t.derived.tallies (z * tally + (g + 1)) ≡ squad (town_of t) z g
  team-sound g h = at-sound (g + 1) (omega arith) ∙ (counts-own (length (roster (town_of t) z)) (squad (town_of t) z)).teams g h

  pub holder-sound : slice_index_or t.derived.tallies (z * tally + 9) 0 ≡ holder (town_of t) z
  holder-sound = at-sound 9 (omega arith) ∙ holder-own (length (roster (town_of t) z)) (squad (town_of t) z)

  -- its numbers behind its count
  pub standing-sound : standing_is (standing_in t.derived.tallies z) ≡ standing (town_of t) z
  unfolding span
  standing-sound = rw (at-sound 1 (omega arith), at-sound 2 (omega arith), at-sound 3 (omega arith), at-sound 4 (omega arith), at-sound 5 (omega arith), at-sound 6 (omega arith), at-sound 7 (omega arith), at-sound 8 (omega arith), at-sound 9 (omega arith))

  is_one : (b : Bool) → (bit b == 1) ≡ b
  is_one true = refl
  is_one false = refl

  -- a zone's count is how many bytes of its row are 1
  pub count-row : slice_index_or t.derived.tallies (z * tally) 0 ≡ length (keep (λ (c : ℕ). nat_eq (slice_index t.derived.rosters (z * car_room t + c)) 1) (upto (car_room t)))
  unfolding roster_has
  count-row = count-sound ∙ ap length (sym (keep-ext (λ (c : ℕ). nat_eq (slice_index t.derived.rosters (z * car_room t + c)) 1) (roster_has t z) (upto (car_room t)) (λ c m. ap (λ (n : ℕ). nat_eq n 1) (roster-byte t sound z c there (omega (arith, span→ 0 (car_room t) c m))) ∙ is_one (roster_has t z c))))
