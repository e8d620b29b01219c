-- The model: what a town is, and what each call asks, changes, writes and answers, over its records alone.
-- The numbers of the refusals, the letters and the words are document 01's.
use Rattle.std.specs.Prelude.{ℕ, zero, suc, ◌+◌, ◌-◌, ◌*◌, Bool, true, false, cond, not, ◌&&◌, List, [], ◌∷◌, ◌++◌, ℤ, leb, ltb, eqb, length}
use Rattle.std.proofs.Math.Option.{Option, none, some}
use Rattle.order.specs.Order.{upto, keep, lacks}
use Rattle.order.specs.Sums.{sum, bit}
use Rattle.squares.specs.declared.shape.Shape.{Shape}
use Rattle.squares.specs.declared.shape.Rect.{Rect}
use Rattle.squares.specs.Shape.{shape, allowed, fits, most_zones, most_cars, most_entries, holds}
use Rattle.squares.specs.Ride.{ridden, lands}
use Rattle.squares.specs.Squares.{number, differ}
use Rattle.cuts.specs.Cut.{in_cut, cut}
use Rattle.squares.specs.Refusals.{Bar, first, Answer, refuse, accept, Result, Write, refusing, result}
use Rattle.position.specs.declared.Position.{Position}
use Rattle.model.specs.declared.opening.Opening.{Opening}
use Rattle.position.specs.Answer.{on_town, column_of, row_of}
use Rattle.model.specs.Answers.{Values, numbers, spot}
use Rattle.model.specs.Teams.{last_team, lead, ranked}

-- ---- a town

-- a car on the map: its position, and its team, 0 for a spectator
pub record Car : Type 0 where
  pub position : Position
  pub team : ℕ

-- the opening, the rectangle of each zone that stands, each car on the map
pub record Town : Type 0 where
  pub opening : Opening
  pub zone : ℕ → Option Rect
  pub car : ℕ → Option Car

-- before the first open
abbrev pub nowhere : Town
nowhere = record { opening = record { shape = shape 0 0 0; zones = 0; cars = 0; entries = 0 }; zone = λ (z : ℕ). none; car = λ (c : ℕ). none }

-- a test of something, where it is there
abbrev pub there : {A : Type 0} → Option A → (A → Bool) → Bool
there none test = false
there (some a) test = test a

-- there is one: a zone stands, a car is on the map
abbrev pub known : {A : Type 0} → Option A → Bool
known none = false
known (some a) = true

-- a standing zone holds a cell; the cell of a position; the cell of a car on the map
abbrev pub holds_cell : Town → ℕ → ℕ → ℕ → Bool
holds_cell m z x y = there (m.zone z) (λ (r : Rect). holds r x y)

abbrev pub holds_spot : Town → ℕ → Position → Bool
holds_spot m z p = holds_cell m z (column_of m.opening.shape p) (row_of m.opening.shape p)

abbrev pub holds_car : Town → ℕ → ℕ → Bool
holds_car m z c = there (m.car c) (λ (a : Car). holds_spot m z a.position)

-- the cars of a zone
abbrev pub roster : Town → ℕ → List ℕ
roster m z = keep (holds_car m z) (upto m.opening.cars)

-- a car is on the map, for a team
abbrev pub drives_for : Town → ℕ → ℕ → Bool
drives_for m g c = there (m.car c) (λ (a : Car). eqb a.team g)

-- how many of a zone's cars drive for a team; the team that holds the zone, 0 for nobody; for each team in turn, and the holder
abbrev pub squad : Town → ℕ → ℕ → ℕ
squad m z g = length (keep (drives_for m g) (roster m z))

abbrev pub holder : Town → ℕ → ℕ
holder m z = lead (squad m z)

abbrev pub standing : Town → ℕ → List ℕ
standing m z = ranked (squad m z)

-- the zones that hold a position; those that have a car
abbrev pub zones_at : Town → Position → List ℕ
zones_at m p = keep (λ (z : ℕ). holds_spot m z p) (upto m.opening.zones)

abbrev pub zones_of : Town → ℕ → List ℕ
zones_of m c = keep (λ (z : ℕ). holds_car m z c) (upto m.opening.zones)

-- the zones that hold the new cell and not the old one; those that hold the old one and not the new
abbrev pub zones_entered : Town → ℕ → Position → List ℕ
zones_entered m c p = keep (λ (z : ℕ). holds_spot m z p && not (holds_car m z c)) (upto m.opening.zones)

abbrev pub zones_left : Town → ℕ → Position → List ℕ
zones_left m c p = keep (λ (z : ℕ). holds_car m z c && not (holds_spot m z p)) (upto m.opening.zones)

-- squares looked into: twice the levels on which the old cell and the new one lie in different squares; with no old cell, the levels
abbrev pub looked : Shape → Option Car → Position → ℕ
looked s none p = s.k + 1
looked s (some a) p = 2 * length (differ s (column_of s a.position) (row_of s a.position) (column_of s p) (row_of s p))

-- the zones whose cut has the square of a position's cell on level i: those on its list; a list that is not empty
abbrev pub zones_on : Town → Position → ℕ → List ℕ
zones_on m p i = let s = m.opening.shape in keep (λ (z : ℕ). there (m.zone z) (λ (r : Rect). in_cut s r i (number s i (column_of s p) (row_of s p)))) (upto m.opening.zones)

abbrev pub filled : List ℕ → Bool
filled l = ltb 0 (length l)

-- how many levels are looked at from level i up to 0: to and with the first that has a mark, or all; for a position, from its
-- unit cell on, to and with the first whose list is not empty
unfoldable pub climb : (ℕ → Bool) → ℕ → ℕ
climb marked zero = 1
climb marked (suc i) = cond (marked (suc i)) 1 (1 + climb marked i)

abbrev pub levels : Town → Position → ℕ
levels m p = climb (λ (i : ℕ). filled (zones_on m p i)) m.opening.shape.k

-- the squares of a zone's cut, where it stands
abbrev pub cut_of : Shape → Option Rect → List ℕ
cut_of s none = []
cut_of s (some r) = cut s r

-- standing entries: the squares of the standing zones' cuts
abbrev pub cut_size : Shape → Option Rect → ℕ
cut_size s none = 0
cut_size s (some r) = length (cut s r)

abbrev pub entries_used : Town → ℕ
entries_used m = sum (λ (z : ℕ). cut_size m.opening.shape (m.zone z)) m.opening.zones

-- ---- calls

-- a call with its arguments, and its buffers at entry
pub data Call : Type 0 where
  opening : (o : Opening) → Call
  adding : (z : ℕ) (r : Rect) → Call
  removing : (z : ℕ) → Call
  riding : (z : ℕ) (dx dy : ℤ) (entered left : List ℕ) → Call
  reporting : (c g : ℕ) (p : Position) (entered left : List ℕ) → Call
  leaving : (c : ℕ) (left : List ℕ) → Call
  searching : (p : Position) (found : List ℕ) → Call
  ask_scoring : (p : Position) → Call
  ask_roster : (z : ℕ) (inside : List ℕ) → Call
  ask_count : (z : ℕ) → Call
  ask_holder : (z : ℕ) → Call
  ask_where : (c : ℕ) → Call
  ask_soundness : Call

-- a call, and what it left: its buffers at exit and its answer
pub record Event : Type 0 where
  pub call : Call
  pub result : Result Values

-- ---- changes

pub data Change : Type 0 where
  emptied : (o : Opening) → Change
  zone_on : (z : ℕ) (r : Rect) → Change
  zone_off : (z : ℕ) → Change
  zone_moved : (z : ℕ) (dx dy : ℤ) → Change
  car_at : (c : ℕ) (a : Car) → Change
  car_off : (c : ℕ) → Change
  nothing : Change

-- what a call changes where it is accepted
abbrev pub change_of : Call → Change
change_of (opening o) = emptied o
change_of (adding z r) = zone_on z r
change_of (removing z) = zone_off z
change_of (riding z dx dy entered left) = zone_moved z dx dy
change_of (reporting c g p entered left) = car_at c (record { position = p; team = g })
change_of (leaving c left) = car_off c
change_of (searching p found) = nothing
change_of (ask_scoring p) = nothing
change_of (ask_roster z inside) = nothing
change_of (ask_count z) = nothing
change_of (ask_holder z) = nothing
change_of (ask_where c) = nothing
change_of ask_soundness = nothing

abbrev pub change_by : Answer Values → Change → Change
change_by (refuse n) d = nothing
change_by (accept values) d = d

abbrev pub change : Event → Change
change e = change_by e.result.answer (change_of e.call)

-- the old value, but for one number
abbrev pub except : {A : Type 0} → ℕ → Option A → (ℕ → Option A) → ℕ → Option A
except i new old j = cond (eqb j i) new (old j)

-- a rectangle moved, where it is there
abbrev pub carried : ℤ → ℤ → Option Rect → Option Rect
carried dx dy none = none
carried dx dy (some r) = some (ridden dx dy r)

abbrev pub after : Change → Town → Town
after (emptied o) m = record { opening = o; zone = λ (z : ℕ). none; car = λ (c : ℕ). none }
after (zone_on z r) m = record { opening = m.opening; zone = except z (some r) m.zone; car = m.car }
after (zone_off z) m = record { opening = m.opening; zone = except z none m.zone; car = m.car }
after (zone_moved z dx dy) m = record { opening = m.opening; zone = except z (carried dx dy (m.zone z)) m.zone; car = m.car }
after (car_at c a) m = record { opening = m.opening; zone = m.zone; car = except c (some a) m.car }
after (car_off c) m = record { opening = m.opening; zone = m.zone; car = except c none m.car }
after nothing m = m

-- ---- what each call means

-- the capacities of zones, cars and entries, Z, C and E, are within the bounds
abbrev pub roomy : ℕ → ℕ → ℕ → Bool
roomy Z C E = ltb 0 Z && (leb Z most_zones && (ltb 0 C && (leb C most_cars && (ltb 0 E && leb E most_entries))))

-- what a call is told of the lengths of its tables: they pass check 3; they are those that an opening calls for
pub record Lengths : Type 0 where
  pub own : Bool
  pub asked : Opening → Bool

-- on which tables a call's outcome is set: on any; on sound ones, which is document 01's one gap; by whether they are sound
pub data Gap : Type 0 where
  shut : Gap
  gap : Gap
  verdict : Gap

pub record Meaning : Type 0 where
  -- what is asked, in order, with the number of the refusal
  pub checks : List Bar
  -- what is asked after that, by the entries in use
  pub late : List Bar
  -- what is written to the front of each buffer
  pub writes : List Write
  -- what is answered, by whether the tables are sound
  pub gives : Bool → Values
  pub trusts : Gap

-- where a car is
abbrev pub spotted : Option Car → Values
spotted none = numbers []
spotted (some a) = spot a.position

-- a team that a car may report: at most 7, and on the map the one that it has
abbrev pub teamed : Option Car → ℕ → Bool
teamed none g = leb g last_team
teamed (some a) g = leb g last_team && eqb g a.team

-- the cars that a zone has in one town and not in another
abbrev pub cars_more : Town → Town → ℕ → List ℕ
cars_more m m' z = keep (λ (c : ℕ). holds_car m z c && not (holds_car m' z c)) (upto m.opening.cars)

-- the squares of its cut in one town that are not in its cut in another
abbrev pub squares_more : Town → Town → ℕ → List ℕ
squares_more m m' z = let s = m.opening.shape in lacks (cut_of s (m'.zone z)) (cut_of s (m.zone z))

unfoldable pub meaning : Lengths → Town → Call → Meaning
meaning l m (opening o) = record {
  checks = (allowed o.shape, 1) ∷ (roomy o.zones o.cars o.entries, 2) ∷ (l.asked o, 3) ∷ [];
  late = [];
  writes = [];
  gives = λ sound. numbers [];
  trusts = shut;
}
meaning l m (adding z r) = record {
  checks = (l.own, 3) ∷ (ltb z m.opening.zones, 4) ∷ (not (known (m.zone z)), 6) ∷ (fits m.opening.shape r, 9) ∷ [];
  late = (leb (entries_used m + length (cut m.opening.shape r)) m.opening.entries, 12) ∷ [];
  writes = [];
  gives = λ sound. numbers (length (cut m.opening.shape r) ∷ length (roster (after (zone_on z r) m) z) ∷ []);
  trusts = gap;
}
meaning l m (removing z) = record {
  checks = (l.own, 3) ∷ (ltb z m.opening.zones, 4) ∷ (known (m.zone z), 7) ∷ [];
  late = [];
  writes = [];
  gives = λ sound. numbers [];
  trusts = gap;
}
meaning l m (riding z dx dy entered left) = let s = m.opening.shape in let m' = after (zone_moved z dx dy) m in record {
  checks = (l.own, 3) ∷ (ltb z m.opening.zones, 4) ∷ (known (m.zone z), 7) ∷ (there (m.zone z) (lands s dx dy), 9) ∷ (leb m.opening.cars (length entered), 11) ∷ (leb m.opening.cars (length left), 11) ∷ [];
  late = (leb (entries_used m - cut_size s (m.zone z) + cut_size s (m'.zone z)) m.opening.entries, 12) ∷ [];
  writes = (cars_more m' m z, entered) ∷ (cars_more m m' z, left) ∷ [];
  gives = λ sound. numbers (length (squares_more m m' z) ∷ length (squares_more m' m z) ∷ length (cars_more m' m z) ∷ length (cars_more m m' z) ∷ []);
  trusts = gap;
}
meaning l m (reporting c g p entered left) = record {
  checks = (l.own, 3) ∷ (ltb c m.opening.cars, 5) ∷ (teamed (m.car c) g, 15) ∷ (on_town m.opening.shape p, 10) ∷ (leb m.opening.zones (length entered), 11) ∷ (leb m.opening.zones (length left), 11) ∷ [];
  late = [];
  writes = (zones_entered m c p, entered) ∷ (zones_left m c p, left) ∷ [];
  gives = λ sound. numbers (looked m.opening.shape (m.car c) p ∷ length (zones_entered m c p) ∷ length (zones_left m c p) ∷ []);
  trusts = gap;
}
meaning l m (leaving c left) = record {
  checks = (l.own, 3) ∷ (ltb c m.opening.cars, 5) ∷ (known (m.car c), 8) ∷ (leb m.opening.zones (length left), 11) ∷ [];
  late = [];
  writes = (zones_of m c, left) ∷ [];
  gives = λ sound. numbers ((m.opening.shape.k + 1) ∷ length (zones_of m c) ∷ []);
  trusts = gap;
}
meaning l m (searching p found) = record {
  checks = (l.own, 3) ∷ (on_town m.opening.shape p, 10) ∷ (leb m.opening.zones (length found), 11) ∷ [];
  late = [];
  writes = (zones_at m p, found) ∷ [];
  gives = λ sound. numbers ((m.opening.shape.k + 1) ∷ length (zones_at m p) ∷ []);
  trusts = gap;
}
meaning l m (ask_scoring p) = record {
  checks = (l.own, 3) ∷ (on_town m.opening.shape p, 10) ∷ [];
  late = [];
  writes = [];
  gives = λ sound. numbers (bit (filled (zones_at m p)) ∷ levels m p ∷ []);
  trusts = gap;
}
meaning l m (ask_roster z inside) = record {
  checks = (l.own, 3) ∷ (ltb z m.opening.zones, 4) ∷ (known (m.zone z), 7) ∷ (leb m.opening.cars (length inside), 11) ∷ [];
  late = [];
  writes = (roster m z, inside) ∷ [];
  gives = λ sound. numbers (length (roster m z) ∷ []);
  trusts = gap;
}
meaning l m (ask_count z) = record {
  checks = (l.own, 3) ∷ (ltb z m.opening.zones, 4) ∷ (known (m.zone z), 7) ∷ [];
  late = [];
  writes = [];
  gives = λ sound. numbers (length (roster m z) ∷ []);
  trusts = gap;
}
meaning l m (ask_holder z) = record {
  checks = (l.own, 3) ∷ (ltb z m.opening.zones, 4) ∷ (known (m.zone z), 7) ∷ [];
  late = [];
  writes = [];
  gives = λ sound. numbers (standing m z);
  trusts = gap;
}
meaning l m (ask_where c) = record {
  checks = (l.own, 3) ∷ (ltb c m.opening.cars, 5) ∷ (known (m.car c), 8) ∷ [];
  late = [];
  writes = [];
  gives = λ sound. spotted (m.car c);
  trusts = shut;
}
meaning l m ask_soundness = record {
  checks = (l.own, 3) ∷ [];
  late = [];
  writes = [];
  gives = λ sound. numbers (bit sound ∷ []);
  trusts = verdict;
}

-- ---- outcomes

-- the number that bars a call, on any tables, or 0; the number that refuses it
abbrev pub barred : Lengths → Town → Call → ℕ
barred l m call = first (meaning l m call).checks

abbrev pub refusal : Lengths → Town → Call → ℕ
refusal l m call = first ((meaning l m call).checks ++ (meaning l m call).late)

-- refused by a number
abbrev pub refused : Lengths → Town → Call → ℕ → Event
refused l m call n = record { call = call; result = refusing n (meaning l m call).writes }

-- what the call leaves, refused or accepted, by whether the tables are sound
abbrev pub outcome : Lengths → Bool → Town → Call → Event
outcome l sound m call = record { call = call; result = result (refusal l m call) (meaning l m call).writes ((meaning l m call).gives sound) }
