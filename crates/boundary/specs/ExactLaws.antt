-- Where a call's outcome is set, what is told is what the model gives: every number is below 2^32, so none is capped.
use Rattle.std.specs.Prelude.{ℕ, zero, suc, ◌+◌, ◌<◌, ◌≡◌, Bool, true, false, leb, length, get_or, drop, replicate}
use Rattle.std.proofs.Math.Path.{refl}
use Rattle.std.proofs.Common.{ap, ap₂, subst, ◌∙◌}
use mathlib.Core.List.{List, [], ◌∷◌, map}
use Rattle.std.proofs.Math.Option.{Option, none, some}
use Rattle.std.proofs.Math.Nat.{mul-le-mul}
use native.Mathlib.Omega.{arith}
use Rattle.std.proofs.lemmas.List.Edits.{sets}
use borrow.Author.Tests.{leb-true, ltb-true}
use Rattle.std.specs.declared.result.Result.{Result as Told}
use Rattle.std.specs.declared.result.Result.TheVariants.{Ok, Err}
use Rattle.order.specs.Order.{upto, span, keep}
use Rattle.order.specs.Sums.{bit}
use Rattle.order.specs.KeepLaws.{length-keep, length-span}
use Rattle.order.specs.TestLaws.{and→}
use Rattle.squares.specs.declared.refusal.Refusal.{Refusal}
use Rattle.squares.specs.declared.shape.Shape.{Shape}
use Rattle.squares.specs.declared.shape.Rect.{Rect}
use Rattle.squares.specs.Bounds.{Allowed}
use Rattle.squares.specs.ShapeLaws.{allowed→, corner→, squares-small, squares-few}
use Rattle.squares.specs.SquareLaws.{number-below, corner-x-fits, corner-y-fits}
use Rattle.squares.specs.Squares.{differ_at, number, squares_on, side_on, corner_x, corner_y}
use Rattle.cuts.specs.Cut.{cut}
use Rattle.cuts.specs.CutLaws.{count-few}
use Rattle.squares.specs.Refusals.{Bar, first, Answer, refuse, accept, fields, Write, result}
use Rattle.squares.specs.RefusalLaws.{Clear, numbered, clear}
use Rattle.grid.specs.Promises.{number_checks, number_gives, square_checks, square_gives, cut_checks, cut_gives}
use Rattle.position.specs.declared.Position.{Position}
use Rattle.position.specs.Answer.{column_of, row_of}
use Rattle.model.specs.Answers.{Values, soundness_is}
use Rattle.model.specs.TeamLaws.{lead-small}
use Rattle.model.specs.ScoringLaws.{climb-few}
use Rattle.model.specs.Model.{Car, holds_car, roster, drives_for, squad, standing, zones_at, zones_on, filled, looked, cut_of, spotted, Call, opening, adding, removing, riding, reporting, leaving, searching, ask_scoring, ask_roster, ask_count, ask_holder, ask_where, ask_soundness, Event, zone_moved, after, meaning}
use Rattle.tables.specs.Tables.{Tables, shape_of, zone_room, car_room, car_in, town_of}
use Rattle.tables.specs.CheckLaws.{roomy→, size_of}
use Rattle.tables.specs.Sound.{Sound}
use Rattle.tables.specs.Lent.{both}
use Rattle.promises.specs.Promise.{means, bars, Trusts}
use Rattle.promises.specs.Events.{event, soundness_told}
use Rattle.promises.specs.PromiseLaws.{refuser, outcome_in, accepted→, keeps-told}
use Rattle.values.specs.Promises.{numbers_of, said, capped, Tells}
use Rattle.values.specs.TellLaws.{capped_small}
use Rattle.boundary.specs.Promises.{Relays, Gives, lengths, lengths_checks, lengths_gives}

-- every number of a list fits in 32 bits
abbrev pub Small : List ℕ → Type 0
Small [] = Unit {0}
Small (n ∷ l) = (n < 4294967296) × Small l

-- what is said, told with no number capped
pub record Exact (says v v' : List ℕ) (r : ℕ) : Type 0 where
  pub number : r ≡ get_or says 0 0
  pub values : v' ≡ sets v 0 (drop 1 says)

small-kept : (l : List ℕ) → Small l → map capped l ≡ l
small-kept [] h = refl
small-kept (n ∷ l) h = ap₂ ◌∷◌ (capped_small n (omega (arith, h.0))) (small-kept l h.1)

exact : {says v v' : List ℕ} {r : ℕ} → Small (drop 1 says) → Tells says v v' r → Exact says v v' r
exact {says} {v} h g = record { number = g.number; values = g.values ∙ ap (λ (l : List ℕ). sets v 0 l) (small-kept (drop 1 says) h) }

zeros-small : (many : ℕ) → Small (replicate many 0)
zeros-small zero = tt
zeros-small (suc many) = (omega arith, zeros-small many)

-- a result's answer: refused, or what is given is small
module _ {A : Type 0} (says : Answer A → List ℕ) (refused : (n : ℕ) → Small (drop 1 (says (refuse n)))) where
  result-small : (n : ℕ) (writes : List Write) (gives : A) → (n ≡ 0 → Small (drop 1 (says (accept gives)))) → Small (drop 1 (says (result n writes gives).answer))
  result-small zero writes gives h = h refl
  result-small (suc n) writes gives h = refused (suc n)

-- ---- calls on the tables

module _ {t : Tables} (s : Sound t) where
  zones-few : (p : ℕ → Bool) → length (keep p (upto (zone_room t))) < 4294967296
  zones-few p = omega (arith, length-keep p (upto (zone_room t)), length-span 0 (zone_room t), (size_of s).room.zones-few)

  cars-few : (p : ℕ → Bool) → length (keep p (upto (car_room t))) < 4294967296
  cars-few p = omega (arith, length-keep p (upto (car_room t)), length-span 0 (car_room t), (size_of s).room.cars-few)

  levels-few : (shape_of t).k + 1 < 4294967296
  levels-few = omega (arith, (size_of s).shape.levels)

  looked-few : (q : Option Car) (p : Position) → looked (shape_of t) q p < 4294967296
  looked-few none p = levels-few
  looked-few (some a) p =
      let u = shape_of t in
      omega (arith, length-keep (differ_at u (column_of u a.position) (row_of u a.position) (column_of u p) (row_of u p)) (upto (u.k + 1)), length-span 0 (u.k + 1), (size_of s).shape.levels)

  -- no team has more cars than there are
  standing-few : (z : ℕ) → Small (standing (town_of t) z)
  unfolding span
  standing-few z = (team 0, (team 1, (team 2, (team 3, (team 4, (team 5, (team 6, (team 7, (omega (arith, lead-small (squad (town_of t) z)), tt)))))))))
    where
      team : (g : ℕ) → squad (town_of t) z g < 4294967296
      team g = omega (arith, length-keep (drives_for (town_of t) g) (roster (town_of t) z), cars-few (holds_car (town_of t) z))

cut-few : (s : Shape) (r : Rect) → Allowed s → length (cut s r) < 4294967296
cut-few s r h = omega (arith, (count-few s r (length (cut s r)) h refl).few)

-- of a zone's squares, where it stands, no more are kept than its cut has
kept-few : (s : Shape) (zone : Option Rect) (p : ℕ → Bool) → Allowed s → length (keep p (cut_of s zone)) < 4294967296
kept-few s none p h = omega (arith, length-keep p [])
kept-few s (some r) p h = omega (arith, length-keep p (cut s r), cut-few s r h)

bit-few : (b : Bool) → bit b < 4294967296
bit-few true = omega arith
bit-few false = omega arith

-- every number that a call gives, where its outcome is set: on sound tables that is every call's (promises' trusts-sound)
pub gives-small : (t : Tables) (call : Call) (sound : Bool) → Trusts (means t call).trusts sound t → Small (numbers_of ((means t call).gives sound))
unfolding meaning
gives-small t (opening o) sound h = tt
gives-small t (adding z r) sound h = (cut-few (shape_of t) r (size_of h).shape, (cars-few h _, tt))
gives-small t (removing z) sound h = tt
gives-small t (riding z dx dy entered left) sound h =
    let m = town_of t in
    let m' = after (zone_moved z dx dy) m in
    let squares : (zone : Option Rect) (p : ℕ → Bool) → length (keep p (cut_of (shape_of t) zone)) < 4294967296 = λ zone p. kept-few (shape_of t) zone p (size_of h).shape in
    (squares (m.zone z) _, (squares (m'.zone z) _, (cars-few h _, (cars-few h _, tt))))
gives-small t (reporting c g p entered left) sound h = (looked-few h (car_in t c) p, (zones-few h _, (zones-few h _, tt)))
gives-small t (leaving c left) sound h = (levels-few h, (zones-few h _, tt))
gives-small t (searching p found) sound h = (levels-few h, (zones-few h _, tt))
gives-small t (ask_scoring p) sound h = (bit-few (filled (zones_at (town_of t) p)), (omega (arith, climb-few (λ (i : ℕ). filled (zones_on (town_of t) p i)) (shape_of t).k, levels-few h), tt))
gives-small t (ask_roster z inside) sound h = (cars-few h _, tt)
gives-small t (ask_count z) sound h = (cars-few h _, tt)
gives-small t (ask_holder z) sound h = standing-few h z
gives-small t (ask_where c) sound h = go (car_in t c)
  where
    go : (p : Option Car) → Small (numbers_of (spotted p))
    go none = tt
    go (some p) = tt
gives-small t ask_soundness true h = (omega arith, tt)
gives-small t ask_soundness false h = (omega arith, tt)

pub relays-exact : (sound : Bool) {A : Type 0} {is : A → Answer Values} {many : ℕ} {t t' : Tables} {call : Call} {b : List (List ℕ)} {v v' : List ℕ} {r : ℕ} → Relays many (both t t') (λ (a : A). event call b (is a)) v v' r → (bars t call ≡ 0 → Trusts (means t call).trusts sound t) → Exact (said many (outcome_in t sound call).result.answer) v v' r
relays-exact sound {many = many} {t} {call = call} {v = v} {v'} {r} h trust =
    exact
    (result-small (said many) (λ n. zeros-small many) (refuser t call) (means t call).writes ((means t call).gives sound) (λ z. gives-small t call sound (trust (accepted→ t call z).0)))
    (subst (λ (e : Event). Tells (said many e.result.answer) v v' r) (keeps-told sound h.kept trust).0 h.tells)

-- soundness, on any tables
soundness-small : (a : Told Bool Refusal) → Small (drop 1 (said 1 (soundness_is a)))
soundness-small (Err r) = zeros-small 1
soundness-small (Ok sound) = (bit-few sound, tt)

pub soundness-exact : {t t' : Tables} {v v' : List ℕ} {r : ℕ} (h : Relays 1 (both t t') soundness_told v v' r) → Exact (said 1 (soundness_is h.answer)) v v' r
soundness-exact h = exact (soundness-small h.answer) h.tells

-- ---- calls without tables

module _ (many : ℕ) (checks : List Bar) (writes : List Write) (values : List ℕ) {b : List (List ℕ)} {v v' : List ℕ} {r : ℕ} where
  gives-exact : numbered checks ≡ true → (Clear checks → Small values) → Gives many (result (first checks) writes values) b v v' r → Exact (fields many (result (first checks) writes values).answer) v v' r
  gives-exact n small h = exact (result-small (fields many) (λ m. zeros-small many) (first checks) writes values (λ z. small (clear checks n z))) h.tells

module _ (s : Shape) {b : List (List ℕ)} {v v' : List ℕ} {r : ℕ} where
  pub number-exact : (i x y : ℕ) → Gives 1 (number_gives s i x y) b v v' r → Exact (fields 1 (number_gives s i x y).answer) v v' r
  unfolding number_gives
  number-exact i x y = gives-exact 1 (number_checks s i x y) [] (number s i x y ∷ []) refl (λ c. let d = corner→ s i x y c.1.0 in (omega (arith, number-below s i x y d.level d.column d.row, squares-small s (allowed→ s c.0) i d.level), tt))

  pub square-exact : (i n : ℕ) → Gives 3 (square_gives s i n) b v v' r → Exact (fields 3 (square_gives s i n).answer) v v' r
  unfolding square_gives
  square-exact i n = gives-exact 3 (square_checks s i n) [] (corner_x s i n ∷ corner_y s i n ∷ side_on s i ∷ []) refl (λ c.
      let h = allowed→ s c.0 in
      let d = and→ (leb i s.k) _ c.1.0 in
      let low = leb-true i s.k d.0 in
      let across = corner-x-fits s i n low h.columns in
      let up = corner-y-fits s i n low h.columns (ltb-true n (squares_on s i) d.1) in
      (omega (arith, h.wide), (omega (arith, h.high), (omega (arith, h.wide), tt))))

  pub cut-exact : (q : Rect) (buffer : List ℕ) → Gives 1 (cut_gives s q buffer) b v v' r → Exact (fields 1 (cut_gives s q buffer).answer) v v' r
  unfolding cut_gives
  cut-exact q buffer = gives-exact 1 (cut_checks s q buffer) ((cut s q, buffer) ∷ []) (length (cut s q) ∷ []) refl (λ c. (cut-few s q (allowed→ s c.0), tt))

  pub lengths-exact : (Z C E : ℕ) → Gives 8 (lengths_gives s Z C E) b v v' r → Exact (fields 8 (lengths_gives s Z C E).answer) v v' r
  unfolding lengths_gives
  lengths-exact Z C E = gives-exact 8 (lengths_checks s Z C E) [] (lengths s Z C E) refl (λ c.
      let room = roomy→ Z C E c.1.0 in
      let product = mul-le-mul room.zones-few room.cars-few in
      let few = squares-few s (allowed→ s c.0) in
      (omega arith, (omega arith, (omega arith, (omega arith, (omega arith, (omega arith, (omega arith, (omega arith, tt)))))))))
