-- Any sequence of calls, sentence by sentence: what holds after every history, and that histories go on with every call.
use Rattle.std.specs.Prelude.{Bool, ℕ, suc, ◌+◌, ◌*◌, ◌<◌, ◌≤◌, ◌≡◌, false, leb, ltb, length}
use Rattle.std.proofs.Math.Path.{refl, ap, sym}
use Rattle.std.proofs.Common.{ap₂, subst, ◌∙◌, arith}
use Rattle.std.proofs.Math.Logic.{⊎_elim}
use Rattle.std.proofs.Math.Bool.{true}
use mathlib.Core.List.{List, [], ◌∷◌}
use Rattle.std.proofs.Math.Option.{some}
use Rattle.std.proofs.Math.ListN.{get_or, get_or-eq_default}
use borrow.Author.Tests.{le-leb, lt-ltb, leb-true, ltb-true, ne_eqb}
use Rattle.std.specs.declared.result.Result.{Result as Told}
use Rattle.std.specs.declared.result.Result.TheVariants.{Ok}
use Rattle.order.specs.Order.{over}
use Rattle.order.specs.Sums.{sum, bit}
use Rattle.order.specs.TestLaws.{lt-or-le, true-not-false}
use Rattle.order.specs.SumLaws.{sum-ext, count-one}
use Rattle.squares.specs.declared.refusal.Refusal.{Refusal}
use Rattle.squares.specs.declared.shape.Rect.{Rect}
use Rattle.squares.specs.Bounds.{Allowed}
use Rattle.cuts.specs.Cut.{cut}
use Rattle.squares.specs.Refusals.{first, Answer, refuse, accept, Result, giving, result}
use Rattle.squares.specs.RefusalLaws.{clear}
use Rattle.position.specs.declared.Position.{Position}
use Rattle.model.specs.declared.answers.Added.{Added}
use Rattle.model.specs.declared.answers.Crossed.{Crossed}
use Rattle.model.specs.declared.answers.Looked.{Looked}
use Rattle.model.specs.declared.answers.Scoring.{Scoring}
use Rattle.model.specs.declared.answers.Standing.{Standing}
use Rattle.model.specs.Answers.{Values, numbers, spot, added_is, reported_is, left_is, searched_is, scoring_is, count_is, holder_is, where_is, soundness_is}
use Rattle.model.specs.AnswerLaws.{added-same, reported-same, left-same, searched-same, roster-same, count_same, where-same, soundness-same}
use Rattle.model.specs.Teams.{last_team}
use Rattle.model.specs.TeamLaws.{squads-sum, teamed-own}
use Rattle.model.specs.Model.{Car, Town, there, known, holds_spot, holds_car, roster, squad, holder, standing, zones_at, zones_of, zones_entered, zones_left, looked, zones_on, filled, levels, Call, opening, adding, reporting, leaving, searching, ask_scoring, ask_roster, ask_count, ask_holder, ask_where, ask_soundness, Event, zone_on, car_at, change, after, Lengths, meaning, refusal, refused, outcome}
use Rattle.model.specs.declared.opening.Opening.{Opening}
use Rattle.model.specs.ScoringLaws.{Ends, climb-ends, climb-all, scores-somewhere}
use Rattle.model.specs.RosterLaws.{report-other, report-own, report-same, report-roster}
use Rattle.tables.specs.Tables.{Tables, tally, zone_room, car_room, stands, placed, car_in, town_of, roster_has}
use Rattle.tables.specs.RecordLaws.{stands-known, placed-known, car-in}
use Rattle.tables.specs.Sound.{Sound}
use Rattle.tables.specs.RunLaws.{stands-below}
use Rattle.tables.specs.RowLaws.{roster-byte}
use Rattle.tables.specs.TallyLaws.{count-sound, team-sound, holder-sound}
use Rattle.tables.specs.Lent.{both}
use Rattle.tables.specs.CheckLaws.{size_of}
use Rattle.tables.specs.Steps.{empty_town, step}
use Rattle.promises.specs.Promise.{means, bars, Keeps}
use Rattle.promises.specs.Events.{event, opened}
use Rattle.promises.specs.PromiseLaws.{outcome_in, keeps-done, keeps-clear, keeps-told, keeps-unique, trusts-sound, some-kept}
use Rattle.history.specs.History.{History, begins, goes, said, lengths_said, replayed}
use Rattle.history.specs.HistoryLaws.{agrees, lengths-are, next}

-- one of the buffers at exit
abbrev buffer : ℕ → Result Values → List ℕ
buffer i r = get_or r.buffers i []

module _ {es : List Event} {t : Tables} (h : History es t) where
  -- ---- the tables

  pub sound-after : Sound t
  sound-after = (agrees h).sound

  -- the opening in force, which zones stand with which rectangle, which cars are on the map and where
  pub town-after : town_of t ≡ said es
  town-after = (agrees h).town

  -- every byte
  pub tables_after : t ≡ replayed es
  tables_after = (agrees h).is

  -- ---- the next call, whatever it is

  outcome-is : (call : Call) → outcome_in t true call ≡ outcome (lengths_said es) true (said es) call
  outcome-is call = ap₂ (λ (l : Lengths) (m : Town). outcome l true m call) (lengths-are (agrees h)) town-after

  -- an outcome that its promise allows is the one that the history says, and the tables are the step of its change
  pub outcome-true : (e : Event) (t' : Tables) → Keeps (both t t') e → (e ≡ outcome (lengths_said es) true (said es) e.call) × (t' ≡ step (change e) t)
  outcome-true e t' k =
      let a = keeps-told true k (λ z. trusts-sound (means t e.call).trusts sound-after) in
      (a.0 ∙ outcome-is e.call, a.1)

  -- that one is allowed
  pub outcome-exists : (call : Call) → (t' : Tables) × Keeps (both t t') (outcome (lengths_said es) true (said es) call)
  outcome-exists call = let k = some-kept t sound-after call in (k.0, subst (λ (e : Event). Keeps (both t k.0) e) (outcome-is call) k.1)

  -- and there is no other, with other tables or buffers
  pub outcome-unique : (e f : Event) (t' t'' : Tables) → Keeps (both t t') e → Keeps (both t t'') f → e.call ≡ f.call → (e ≡ f) × (t' ≡ t'')
  outcome-unique e f t' t'' a b q = keeps-unique true a b q (λ z. trusts-sound (means t e.call).trusts sound-after)

  -- a call that the history bars answers that number, and no byte of buffers or tables changes
  pub refused-true : (e : Event) (t' : Tables) → Keeps (both t t') e → (n : ℕ) → refusal (lengths_said es) (said es) e.call ≡ suc n → (e ≡ refused (lengths_said es) (said es) e.call (suc n)) × (t' ≡ t)
  refused-true e t' k n q =
      let a = outcome-true e t' k in
      let same : e ≡ refused (lengths_said es) (said es) e.call (suc n) = a.0 ∙ ap (λ (i : ℕ). by e.call i) q in
      (same, a.1 ∙ ap (λ (x : Event). step (change x) t) same)
    where
      by : Call → ℕ → Event
      by call i = record { call = call; result = result i (meaning (lengths_said es) (said es) call).writes ((meaning (lengths_said es) (said es) call).gives true) }

  -- any other is accepted
  pub accepted-true : (e : Event) (t' : Tables) → Keeps (both t t') e → refusal (lengths_said es) (said es) e.call ≡ 0 → e.result ≡ giving (meaning (lengths_said es) (said es) e.call).writes ((meaning (lengths_said es) (said es) e.call).gives true)
  accepted-true e t' k q = ap (λ (x : Event). x.result) (outcome-true e t' k).0 ∙ ap (λ (i : ℕ). result i (meaning (lengths_said es) (said es) e.call).writes ((meaning (lengths_said es) (said es) e.call).gives true)) q

  -- ---- call by call, where the history does not refuse it

  -- a roster is the cars whose last accepted report lies in the zone, each once, lowest first
  pub roster-true : {z : ℕ} {b b' : List ℕ} {answer : Told ℕ Refusal} → Keeps (both t t) (event (ask_roster z b) (b' ∷ []) (count_is answer)) → refusal (lengths_said es) (said es) (ask_roster z b) ≡ 0 → (answer ≡ Ok (length (roster (said es) z))) × (b' ≡ over (roster (said es) z) b)
  unfolding meaning
  roster-true {z} {b} {b'} {answer} k q =
      let a = accepted-true (event (ask_roster z b) (b' ∷ []) (count_is answer)) t k q in
      (roster-same answer (Ok (length (roster (said es) z))) (ap (λ (r : Result Values). r.answer) a), ap (buffer 0) a)

  -- a count is how many cars' last accepted reports lie in the zone
  pub count-true : {z : ℕ} {answer : Told ℕ Refusal} → Keeps (both t t) (event (ask_count z) [] (count_is answer)) → refusal (lengths_said es) (said es) (ask_count z) ≡ 0 → answer ≡ Ok (length (roster (said es) z))
  unfolding meaning
  count-true {z} {answer} k q = count_same answer (Ok (length (roster (said es) z))) (ap (λ (r : Result Values). r.answer) (accepted-true (event (ask_count z) [] (count_is answer)) t k q))

  -- the holder call tells how many of them drive for each team, and the team that has strictly more of them than each other
  pub holder-true : {z : ℕ} (answer : Told Standing Refusal) → Keeps (both t t) (event (ask_holder z) [] (holder_is answer)) → refusal (lengths_said es) (said es) (ask_holder z) ≡ 0 → holder_is answer ≡ accept (numbers (standing (said es) z))
  unfolding meaning
  holder-true {z} answer k q = ap (λ (r : Result Values). r.answer) (accepted-true (event (ask_holder z) [] (holder_is answer)) t k q)

  -- a search finds the zones that stand and hold the point
  pub search-true : {p : Position} {b b' : List ℕ} {answer : Told Looked Refusal} → Keeps (both t t) (event (searching p b) (b' ∷ []) (searched_is answer)) → refusal (lengths_said es) (said es) (searching p b) ≡ 0 → (answer ≡ Ok (record { squares = (said es).opening.shape.k + 1; zones = length (zones_at (said es) p) })) × (b' ≡ over (zones_at (said es) p) b)
  unfolding meaning
  search-true {p} {b} {b'} {answer} k q =
      let a = accepted-true (event (searching p b) (b' ∷ []) (searched_is answer)) t k q in
      (searched-same answer (Ok (record { squares = (said es).opening.shape.k + 1; zones = length (zones_at (said es) p) })) (ap (λ (r : Result Values). r.answer) a), ap (buffer 0) a)

  -- a scoring says yes exactly where one of them is found, and how many levels are looked at
  pub scoring-true : {p : Position} (answer : Told Scoring Refusal) → Keeps (both t t) (event (ask_scoring p) [] (scoring_is answer)) → refusal (lengths_said es) (said es) (ask_scoring p) ≡ 0 → scoring_is answer ≡ accept (numbers (bit (filled (zones_at (said es) p)) ∷ levels (said es) p ∷ []))
  unfolding meaning
  scoring-true {p} answer k q = ap (λ (r : Result Values). r.answer) (accepted-true (event (ask_scoring p) [] (scoring_is answer)) t k q)

  -- those levels: up to and with the first, from the unit cell on, whose square is in the cut of a standing zone; or all
  shape-allowed : Allowed (said es).opening.shape
  shape-allowed = subst (λ (m : Town). Allowed m.opening.shape) town-after (size_of sound-after).shape

  pub levels-first : (p : Position) → filled (zones_at (said es) p) ≡ true → Ends (λ (i : ℕ). filled (zones_on (said es) p i)) (said es).opening.shape.k
  levels-first p e = climb-ends (λ (i : ℕ). filled (zones_on (said es) p i)) (said es).opening.shape.k (sym (scores-somewhere (said es) p shape-allowed) ∙ e)

  pub levels-all : (p : Position) → filled (zones_at (said es) p) ≡ false → levels (said es) p ≡ (said es).opening.shape.k + 1
  levels-all p e = climb-all (λ (i : ℕ). filled (zones_on (said es) p i)) (said es).opening.shape.k (sym (scores-somewhere (said es) p shape-allowed) ∙ e)

  -- a report's square count, zones entered and zones left are what its old and new cells give
  pub report-true : {t' : Tables} {c g : ℕ} {p : Position} {e e' l l' : List ℕ} {answer : Told Crossed Refusal} → Keeps (both t t') (event (reporting c g p e l) (e' ∷ l' ∷ []) (reported_is answer)) → refusal (lengths_said es) (said es) (reporting c g p e l) ≡ 0 → (answer ≡ Ok (record { squares = looked (said es).opening.shape ((said es).car c) p; entered = length (zones_entered (said es) c p); left = length (zones_left (said es) c p) })) × (e' ≡ over (zones_entered (said es) c p) e) × (l' ≡ over (zones_left (said es) c p) l)
  unfolding meaning
  report-true {t'} {c} {g} {p} {e} {e'} {l} {l'} {answer} k q =
      let a = accepted-true (event (reporting c g p e l) (e' ∷ l' ∷ []) (reported_is answer)) t' k q in
      (reported-same answer (Ok (record { squares = looked (said es).opening.shape ((said es).car c) p; entered = length (zones_entered (said es) c p); left = length (zones_left (said es) c p) })) (ap (λ (r : Result Values). r.answer) a), ap (buffer 0) a, ap (buffer 1) a)

  -- a car that leaves, leaves the zones in which its last accepted report lies
  pub leave-true : {t' : Tables} {c : ℕ} {b b' : List ℕ} {answer : Told Looked Refusal} → Keeps (both t t') (event (leaving c b) (b' ∷ []) (left_is answer)) → refusal (lengths_said es) (said es) (leaving c b) ≡ 0 → (answer ≡ Ok (record { squares = (said es).opening.shape.k + 1; zones = length (zones_of (said es) c) })) × (b' ≡ over (zones_of (said es) c) b)
  unfolding meaning
  leave-true {t'} {c} {b} {b'} {answer} k q =
      let a = accepted-true (event (leaving c b) (b' ∷ []) (left_is answer)) t' k q in
      (left-same answer (Ok (record { squares = (said es).opening.shape.k + 1; zones = length (zones_of (said es) c) })) (ap (λ (r : Result Values). r.answer) a), ap (buffer 0) a)

  -- a new zone has the squares of its cut and the cars whose last accepted report lies in it
  pub add-true : {t' : Tables} {z : ℕ} {r : Rect} {answer : Told Added Refusal} → Keeps (both t t') (event (adding z r) [] (added_is answer)) → refusal (lengths_said es) (said es) (adding z r) ≡ 0 → answer ≡ Ok (record { squares = length (cut (said es).opening.shape r); cars = length (roster (after (zone_on z r) (said es)) z) })
  unfolding meaning
  add-true {t'} {z} {r} {answer} k q =
      let a = accepted-true (event (adding z r) [] (added_is answer)) t' k q in
      added-same answer (Ok (record { squares = length (cut (said es).opening.shape r); cars = length (roster (after (zone_on z r) (said es)) z) })) (ap (λ (r : Result Values). r.answer) a)

  -- soundness says yes
  pub soundness-true : {answer : Told Bool Refusal} → Keeps (both t t) (event ask_soundness [] (soundness_is answer)) → answer ≡ Ok true
  unfolding meaning first
  soundness-true {answer} k = soundness-same answer (Ok true) (ap (λ (r : Result Values). r.answer) (accepted-true (event ask_soundness [] (soundness_is answer)) t k refl))

  -- ---- which rosters an accepted report changes

  module _ {t' : Tables} {c g : ℕ} {p : Position} {buffers : List (List ℕ)} {e l : List ℕ} {v : Values} (k : Keeps (both t t') (event (reporting c g p e l) buffers (accept v))) (z : ℕ) (same : holds_car (said es) z c ≡ holds_spot (said es) z p) where
    -- a zone that holds both cells or neither, or that does not hold the new cell of a car that was off the map, keeps its roster
    pub roster-kept : roster (said (event (reporting c g p e l) buffers (accept v) ∷ es)) z ≡ roster (said es) z
    unfolding said
    roster-kept = report-roster (said es) c z (record { position = p; team = g }) same

    -- every byte of its row
    pub row_kept : z < zone_room t → (d : ℕ) → d < car_room t → get_or t'.derived.rosters (z * car_room t + d) 0 ≡ get_or t.derived.rosters (z * car_room t + d) 0
    unfolding roster_has
    row_kept there d below =
        let n = next t sound-after t' (event (reporting c g p e l) buffers (accept v)) k in
        let room : (zone_room t' ≡ zone_room t) × (car_room t' ≡ car_room t) = (ap (λ (m : Town). m.opening.zones) n.town, ap (λ (m : Town). m.opening.cars) n.town) in
        ap (λ (i : ℕ). get_or t'.derived.rosters (z * i + d) 0) (sym room.1)
        ∙ roster-byte t' n.sound z d (omega (arith, room.0)) (omega (arith, room.1))
        ∙ ap bit (ap (λ (m : Town). holds_car m z d) n.town ∙ report-same (town_of t) c z (record { position = p; team = g }) (subst (λ (m : Town). holds_car m z c ≡ holds_spot m z p) (sym town-after) same) d)
        ∙ sym (roster-byte t sound-after z d there below)

  -- ---- the counts

  -- the stored one is how many cars' last accepted reports lie in the zone
  pub count-after : (z : ℕ) → z < zone_room t → get_or t.derived.tallies (z * tally) 0 ≡ length (roster (said es) z)
  count-after z there = count-sound t sound-after z there ∙ ap (λ (m : Town). length (roster m z)) town-after

  -- which ones an accepted report changes: one more for a zone that it enters, one less for a zone that it leaves, no other
  module _ {t' : Tables} {c g : ℕ} {p : Position} {buffers : List (List ℕ)} {e l : List ℕ} {v : Values} (k : Keeps (both t t') (event (reporting c g p e l) buffers (accept v))) (z : ℕ) where
    reporter : c < (said es).opening.cars
    unfolding meaning
    reporter =
        let none = keeps-clear (event (reporting c g p e l) buffers (accept v)) v k refl in
        omega (arith, ltb-true c (car_room t) (clear (means t (reporting c g p e l)).checks refl none).1.0, ap (λ (m : Town). m.opening.cars) town-after)

    pub count-entered : holds_car (said es) z c ≡ false → holds_spot (said es) z p ≡ true → length (roster (said (event (reporting c g p e l) buffers (accept v) ∷ es)) z) ≡ length (roster (said es) z) + 1
    unfolding said
    count-entered off on = count-one (holds_car (after (car_at c (record { position = p; team = g })) (said es)) z) (holds_car (said es) z) (said es).opening.cars c reporter (λ d f. report-other (said es) c z (record { position = p; team = g }) d (ne_eqb d c f)) (report-own (said es) c z (record { position = p; team = g }) ∙ on) off

    pub count_left : holds_car (said es) z c ≡ true → holds_spot (said es) z p ≡ false → length (roster (said es) z) ≡ length (roster (said (event (reporting c g p e l) buffers (accept v) ∷ es)) z) + 1
    unfolding said
    count_left on off = count-one (holds_car (said es) z) (holds_car (after (car_at c (record { position = p; team = g })) (said es)) z) (said es).opening.cars c reporter (λ d f. sym (report-other (said es) c z (record { position = p; team = g }) d (ne_eqb d c f))) on (report-own (said es) c z (record { position = p; team = g }) ∙ off)

    pub count_kept : holds_car (said es) z c ≡ holds_spot (said es) z p → length (roster (said (event (reporting c g p e l) buffers (accept v) ∷ es)) z) ≡ length (roster (said es) z)
    count_kept same = ap length (roster-kept k z same)

  -- ---- the teams

  -- each car on the map has one of the eight
  pub teams-few : (c : ℕ) (a : Car) → (said es).car c ≡ some a → a.team ≤ last_team
  teams-few c a e =
      let in-t : car_in t c ≡ some a = ap (λ (m : Town). m.car c) town-after ∙ e in
      let on : placed t c ≡ true = sym (placed-known t c) ∙ ap known in-t in
      let held : there (car_in t c) (λ (b : Car). leb b.team last_team) ≡ true = rw (car-in t c on) (sound-after.teams c on) in
      leb-true a.team last_team (rw in-t at held)

  -- the stored counts are how many cars of each team have their last accepted report in the zone, and add up to its count
  pub team-after : (z g : ℕ) → z < zone_room t → g ≤ last_team → get_or t.derived.tallies (z * tally + (g + 1)) 0 ≡ squad (said es) z g
  team-after z g there few = team-sound t sound-after z there g few ∙ ap (λ (m : Town). squad m z g) town-after

  pub teams-sum : (z : ℕ) → z < zone_room t → sum (λ (g : ℕ). get_or t.derived.tallies (z * tally + (g + 1)) 0) (last_team + 1) ≡ get_or t.derived.tallies (z * tally) 0
  teams-sum z there =
      sum-ext (λ (g : ℕ). get_or t.derived.tallies (z * tally + (g + 1)) 0) (squad (said es) z) (last_team + 1) (λ g l. team-after z g there (omega arith))
      ∙ squads-sum (said es) z teams-few
      ∙ sym (count-after z there)

  -- the stored holder is the team that leads by them (the model's TeamLaws say what that is)
  pub holder-after : (z : ℕ) → z < zone_room t → get_or t.derived.tallies (z * tally + 9) 0 ≡ holder (said es) z
  holder-after z there = holder-sound t sound-after z there ∙ ap (λ (m : Town). holder m z) town-after

  -- a car on the map keeps its team
  pub team-fixed : {t' : Tables} {c g : ℕ} {p : Position} {buffers : List (List ℕ)} {e l : List ℕ} {v : Values} → Keeps (both t t') (event (reporting c g p e l) buffers (accept v)) → {a : Car} → (said es).car c ≡ some a → g ≡ a.team
  unfolding meaning
  team-fixed {t'} {c} {g} {p} {buffers} {e} {l} {v} k {a} q =
      let none = keeps-clear (event (reporting c g p e l) buffers (accept v)) v k refl in
      teamed-own a g (rw (ap (λ (m : Town). m.car c) town-after ∙ q) at (clear (means t (reporting c g p e l)).checks refl none).1.1.0)

  -- ---- what stands is within the capacities

  pub car-there : {c : ℕ} {a : Car} → (said es).car c ≡ some a → c < (said es).opening.cars
  unfolding placed
  car-there {c} {a} e =
      let on : placed t c ≡ true = sym (placed-known t c) ∙ ap known (ap (λ (m : Town). m.car c) town-after ∙ e) in
      let many : car_room t ≡ (said es).opening.cars = ap (λ (m : Town). m.opening.cars) town-after in
      ⊎_elim
      (λ (l : c < car_room t). omega arith)
      (λ (l : car_room t ≤ c). absurd (true-not-false (placed t c) on (ap (ltb 0) (get_or-eq_default t.records.cars 0 {n = c} (omega (arith, (size_of sound-after).lengths.cars))))))
      (lt-or-le c (car_room t))

  pub zone-there : {z : ℕ} {r : Rect} → (said es).zone z ≡ some r → z < (said es).opening.zones
  zone-there {z} {r} e =
      let on : stands t z ≡ true = sym (stands-known t z) ∙ ap known (ap (λ (m : Town). m.zone z) town-after ∙ e) in
      let many : zone_room t ≡ (said es).opening.zones = ap (λ (m : Town). m.opening.zones) town-after in
      omega (arith, stands-below t z (size_of sound-after) on)

  -- where gives the last accepted bits
  pub where-true : {c : ℕ} {a : Car} {answer : Told Position Refusal} → Keeps (both t t) (event (ask_where c) [] (where_is answer)) → (said es).car c ≡ some a → answer ≡ Ok a.position
  unfolding meaning first
  where-true {c} {a} {answer} k e =
      let done = accepted-true (event (ask_where c) [] (where_is answer)) t k (rw (lt-ltb c (said es).opening.cars (car-there e), e)) in
      where-same answer (Ok a.position) (rw e at (ap (λ (r : Result Values). r.answer) done))

  -- the roster of a zone that stands is written wherever the buffer has room
  pub roster-accepted : (z : ℕ) {r : Rect} (b : List ℕ) → (said es).zone z ≡ some r → (said es).opening.cars ≤ length b → refusal (lengths_said es) (said es) (ask_roster z b) ≡ 0
  unfolding meaning first
  roster-accepted z b e l = rw (lt-ltb z (said es).opening.zones (zone-there e), e, le-leb (said es).opening.cars (length b) l)

  -- and so are its count and its holder told
  pub count-accepted : (z : ℕ) {r : Rect} → (said es).zone z ≡ some r → refusal (lengths_said es) (said es) (ask_count z) ≡ 0
  unfolding meaning first
  count-accepted z e = rw (lt-ltb z (said es).opening.zones (zone-there e), e)

  pub holder-accepted : (z : ℕ) {r : Rect} → (said es).zone z ≡ some r → refusal (lengths_said es) (said es) (ask_holder z) ≡ 0
  unfolding meaning first
  holder-accepted z e = rw (lt-ltb z (said es).opening.zones (zone-there e), e)

-- ---- on sound tables, however they came about

-- a scoring says yes exactly when a search of the same position writes a zone
pub scoring-search : {t t' t'' : Tables} → Sound t → {p : Position} {b : List ℕ} {buffers : List (List ℕ)} {squares zones : ℕ} → Keeps (both t t') (event (searching p b) buffers (searched_is (Ok (record { squares = squares; zones = zones })))) → (answer : Told Scoring Refusal) → Keeps (both t t'') (event (ask_scoring p) [] (scoring_is answer)) → scoring_is answer ≡ accept (numbers (bit (ltb 0 zones) ∷ levels (town_of t) p ∷ []))
unfolding meaning first
scoring-search {t} sound {p} {b} {buffers} {squares} {zones} found answer told =
    let none = keeps-clear (event (searching p b) buffers (searched_is (Ok (record { squares = squares; zones = zones })))) (numbers (squares ∷ zones ∷ [])) found refl in
    let h = clear (means t (searching p b)).checks refl none in
    let clear-too : bars t (ask_scoring p) ≡ 0 = rw (h.0, h.1.0) in
    let many : zones ≡ length (zones_at (town_of t) p) = ap (λ (x : Event). zones_told x.result.answer) (found.does none true sound).0 ∙ ap (λ (i : ℕ). zones_told (answered (searching p b) i)) none in
    ap (λ (x : Event). x.result.answer) (told.does clear-too true sound).0 ∙ ap (answered (ask_scoring p)) clear-too ∙ ap (λ (n : ℕ). accept (numbers (bit (ltb 0 n) ∷ levels (town_of t) p ∷ []))) (sym many)
  where
    answered : Call → ℕ → Answer Values
    answered call i = (result i (means t call).writes ((means t call).gives true)).answer

    zones_told : Answer Values → ℕ
    zones_told (refuse n) = 0
    zones_told (accept (numbers l)) = get_or l 1 0
    zones_told (accept (spot q)) = 0

-- ---- histories

-- an open that nothing bars begins one, whatever the tables held
pub history-begins : (o : Opening) (t : Tables) → bars t (opening o) ≡ 0 → History (opened o (Ok (tt {0})) ∷ []) (empty_town o)
unfolding meaning first
history-begins o t none = begins {t = t} (keeps-done t (opening o) _ (empty_town o) (numbers []) none refl (λ any trust. (refl, (refl, refl))))

-- and every next call goes on with it
pub history-goes : {es : List Event} {t : Tables} → History es t → (call : Call) → (t' : Tables) × History (outcome (lengths_said es) true (said es) call ∷ es) t'
history-goes {es} h call = let k = outcome-exists h call in (k.0, goes (outcome (lengths_said es) true (said es) call) h k.1)
