-- After any history the tables are sound, and they and the town in them are what the history says.
use Rattle.std.specs.Prelude.{ℕ, zero, suc, ◌+◌, ◌*◌, ◌≡◌, Bool, true, List, [], pos, ◌+ℤ◌, eqb}
use Rattle.std.proofs.Math.Path.{refl, fun_ext, sym}
use Rattle.std.proofs.Common.{ap, ap₂, subst, ◌∙◌, arith}
use Rattle.std.specs.Int.Signed.{non_neg}
use borrow.Author.Tests.{le-leb, ltb-true, not-true, eq-eqb, eqb-true}
use Rattle.std.specs.declared.result.Result.TheVariants.{Ok}
use Rattle.order.specs.TestLaws.{and→, both_ways}
use Rattle.squares.specs.Ride.{ridden, lands}
use Rattle.squares.specs.Squares.{squares}
use Rattle.squares.specs.ShapeLaws.{allowed→, fits→}
use Rattle.squares.specs.Refusals.{first, result}
use Rattle.squares.specs.RefusalLaws.{clear}
use Rattle.model.specs.Answers.{numbers}
use Rattle.model.specs.Teams.{last_team}
use Rattle.model.specs.TeamLaws.{teamed-few}
use Rattle.model.specs.Model.{Car, Town, known, Call, opening, adding, removing, riding, reporting, leaving, searching, ask_scoring, ask_roster, ask_count, ask_holder, ask_where, ask_soundness, Event, Change, emptied, nothing, change_of, change_by, change, after, Lengths, meaning}
use Rattle.model.specs.declared.opening.Opening.{Opening}
use Rattle.tables.specs.Tables.{Tables, tally, shape_of, zone_room, car_room, entry_room, rect_of, stands, zone_in, car_in, town_of, opening_in}
use Rattle.tables.specs.Check.{long}
use Rattle.tables.specs.Sizes.{Long}
use Rattle.tables.specs.CheckLaws.{roomy→, long→, →long, size_of}
use Rattle.tables.specs.RecordLaws.{stands-known, zone-there}
use Rattle.tables.specs.Sound.{Sound}
use Rattle.tables.specs.Lent.{both}
use Rattle.tables.specs.Steps.{empty_town, step}
use Rattle.edits.specs.EmptyLaws.{town-empty, empty-sound}
use Rattle.edits.specs.AddLaws.{add-sound}
use Rattle.edits.specs.StepLaws.{remove-sound}
use Rattle.edits.specs.RideLaws.{ride-sound, town-zone-moved}
use Rattle.edits.specs.CarLaws.{report-sound, leave-sound}
use Rattle.edits.specs.TownLaws.{town-zone-on, town-zone-off, town-car-at, town-car-off}
use Rattle.promises.specs.Promise.{lengths_in, means, bars, Keeps}
use Rattle.promises.specs.Events.{opened}
use Rattle.promises.specs.PromiseLaws.{refuser, accepted→, keeps-clear, keeps-told, trusts-sound}
use Rattle.history.specs.History.{History, begins, goes, said, alike, lengths_said, replayed}

-- ---- one call more

-- sound tables after a change, whose town is the model's after it
pub record Next (d : Change) (t t' : Tables) : Type 0 where
  pub is : t' ≡ step d t
  pub sound : Sound t'
  pub town : town_of t' ≡ after d (town_of t)

next-empty : (t : Tables) (o : Opening) → bars t (opening o) ≡ 0 → Next (emptied o) t (empty_town o)
unfolding meaning
next-empty t o none =
    let h = clear (means t (opening o)).checks refl none in
    record { is = refl; sound = empty-sound o (allowed→ o.shape h.0) (roomy→ o.zones o.cars o.entries h.1.0); town = town-empty o (town_of t) }

module _ (t : Tables) (sound : Sound t) where
  next-same : Next nothing t t
  next-same = record { is = refl; sound = sound; town = refl }

  -- accepted: the tests before the late ones hold, and so do those
  next-accepted : (call : Call) → bars t call ≡ 0 → first (means t call).late ≡ 0 → Next (change_of call) t (step (change_of call) t)
  unfolding meaning
  next-accepted (opening o) none late = next-empty t o none
  next-accepted (adding z r) none late =
      let h = clear (means t (adding z r)).checks refl none in
      let fit = fits→ (shape_of t) r h.1.1.1.0 in
      let there = ltb-true z (zone_room t) h.1.0 in
      record {
        is = refl;
        sound = add-sound t sound z there (sym (stands-known t z) ∙ not-true (known (zone_in t z)) h.1.1.0) r fit (clear (means t (adding z r)).late refl late).0;
        town = town-zone-on t (size_of sound) z there r fit.columns;
      }
  next-accepted (removing z) none late = record { is = refl; sound = remove-sound t sound z; town = town-zone-off t z }
  next-accepted (riding z dx dy entered left) none late =
      let h = clear (means t (riding z dx dy entered left)).checks refl none in
      let there = ltb-true z (zone_room t) h.1.0 in
      let stand = sym (stands-known t z) ∙ h.1.1.0 in
      let on = (and→ (stands t z) _ (sym (zone-there t z (lands (shape_of t) dx dy)) ∙ h.1.1.1.0)).1 in
      let fit = fits→ (shape_of t) (ridden dx dy (rect_of t z)) (and→ (non_neg (pos (rect_of t z).b +ℤ dy)) _ (and→ (non_neg (pos (rect_of t z).a +ℤ dx)) _ on).1).1 in
      record {
        is = refl;
        sound = ride-sound t sound z there stand dx dy fit (clear (means t (riding z dx dy entered left)).late refl late).0;
        town = town-zone-moved t sound z there stand dx dy fit;
      }
  next-accepted (reporting c g p entered left) none late =
      let h = clear (means t (reporting c g p entered left)).checks refl none in
      let there = ltb-true c (car_room t) h.1.0 in
      let a : Car = record { position = p; team = g } in
      record { is = refl; sound = report-sound t sound c a there h.1.1.1.0 (le-leb g last_team (teamed-few (car_in t c) g h.1.1.0)); town = town-car-at t (size_of sound) c there a }
  next-accepted (leaving c left) none late = record { is = refl; sound = leave-sound t sound c; town = town-car-off t c }
  next-accepted (searching p found) none late = next-same
  next-accepted (ask_scoring p) none late = next-same
  next-accepted (ask_roster z inside) none late = next-same
  next-accepted (ask_count z) none late = next-same
  next-accepted (ask_holder z) none late = next-same
  next-accepted (ask_where c) none late = next-same
  next-accepted ask_soundness none late = next-same

  next-outcome : (call : Call) (n : ℕ) → refuser t call ≡ n → let d = change_by (result n (means t call).writes ((means t call).gives true)).answer (change_of call) in Next d t (step d t)
  next-outcome call zero q = let a = accepted→ t call q in next-accepted call a.0 a.1
  next-outcome call (suc n) q = next-same

  pub next : (t' : Tables) (e : Event) → Keeps (both t t') e → Next (change e) t t'
  next t' e k =
      let a = keeps-told true k (λ z. trusts-sound (means t e.call).trusts sound) in
      subst (λ (u : Tables). Next (change e) t u) (sym a.1) (subst (λ (x : Event). Next (change x) t (step (change x) t)) (sym a.0) (next-outcome e.call (refuser t e.call) refl))

-- an open on any tables, where its answer is no refusal
begins-next : {o : Opening} {t t' : Tables} → Keeps (both t t') (opened o (Ok (tt {0}))) → Next (emptied o) t t'
unfolding meaning
begins-next {o} {t} {t'} k =
    let none = keeps-clear (opened o (Ok (tt {0}))) (numbers []) k refl in
    subst (λ (u : Tables). Next (emptied o) t u) (sym (k.does none true tt).1) (next-empty t o none)

-- ---- any history

pub record Agrees (es : List Event) (t : Tables) : Type 0 where
  pub sound : Sound t
  pub town : town_of t ≡ said es
  pub is : t ≡ replayed es

pub agrees : {es : List Event} {t : Tables} → History es t → Agrees es t
unfolding said replayed
agrees (begins k) = let n = begins-next k in record { sound = n.sound; town = n.town; is = n.is }
agrees (goes {t = t} {t' = t'} e h k) =
    let a = agrees h in
    let n = next t a.sound t' e k in
    record { sound = n.sound; town = n.town ∙ ap (after (change e)) a.town; is = n.is ∙ ap (step (change e)) a.is }

-- ---- the lengths

-- sound tables are as long as another open calls for just if the open in force calls for the same lengths
long-alike : (o : Opening) (t : Tables) → Sound t → long o.shape o.zones o.cars o.entries t ≡ alike (opening_in t) o
long-alike o t sound = both_ways (long o.shape o.zones o.cars o.entries t) (alike (opening_in t) o)
    (λ e. same (long→ o.shape o.zones o.cars o.entries t e))
    (λ e.
    let a = and→ (eqb (squares (shape_of t)) (squares o.shape)) _ e in
    let b = and→ (eqb (zone_room t) o.zones) _ a.1 in
    let c = and→ (eqb (car_room t) o.cars) _ b.1 in
    let l = (size_of sound).lengths in
    let zs = eqb-true (zone_room t) o.zones b.0 in
    let cs = eqb-true (car_room t) o.cars c.0 in
    →long o.shape o.zones o.cars o.entries t (record {
      head = l.head;
      zones = l.zones ∙ ap (λ (n : ℕ). 4 * n) zs;
      cars = l.cars ∙ cs;
      spots = l.spots ∙ ap (λ (n : ℕ). 2 * n) cs;
      starts = l.starts ∙ ap (λ (n : ℕ). n + 1) (eqb-true (squares (shape_of t)) (squares o.shape) a.0);
      entries = l.entries ∙ eqb-true (entry_room t) o.entries c.1;
      rosters = l.rosters ∙ ap₂ ◌*◌ zs cs;
      tallies = l.tallies ∙ ap (λ (n : ℕ). n * tally) zs;
    }))
  where
    same : Long o.shape o.zones o.cars o.entries t → alike (opening_in t) o ≡ true
    same h =
        let l = (size_of sound).lengths in
        rw (eq-eqb (squares (shape_of t)) (squares o.shape) (omega (arith, l.starts, h.starts)), eq-eqb (zone_room t) o.zones (omega (arith, l.zones, h.zones)), eq-eqb (car_room t) o.cars (omega (arith, l.cars, h.cars)), eq-eqb (entry_room t) o.entries (omega (arith, l.entries, h.entries)))

lengths-same : {a b : Bool} {f g : Opening → Bool} → a ≡ b → f ≡ g → ◌≡◌ {A = Lengths} (record { own = a; asked = f }) (record { own = b; asked = g })
lengths-same e q = rw (e, q)

pub lengths-are : {es : List Event} {t : Tables} → Agrees es t → lengths_in t ≡ lengths_said es
lengths-are {es} {t} a = lengths-same a.sound.size (fun_ext (λ o. long-alike o t a.sound) ∙ ap (λ (m : Town). alike m.opening) a.town)
