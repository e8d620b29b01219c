-- A call on a town: what it asks of the lengths, its outcome in the part that is lent, and how great its numbers are.
use Rattle.std.specs.Prelude.{ℕ, zero, suc, ◌+◌, ◌≤◌, ◌≡◌, Bool, true, List, ◌++◌}
use Rattle.std.proofs.Common.{zero-le, ap, ◌∙◌, ⊎_elim, arith}
use Rattle.std.proofs.Math.Path.{refl}
use Rattle.std.proofs.Math.Bool.{false}
use Rattle.std.proofs.Math.ListN.{length}
use borrow.Author.Tests.{leb-true}
use Rattle.order.specs.Order.{upto, keep}
use Rattle.order.specs.TestLaws.{true-or-false, true-not-false}
use Rattle.order.specs.KeepLaws.{length-keep, length-span}
use Rattle.squares.specs.declared.shape.Rect.{Rect}
use Rattle.squares.specs.Shape.{allowed}
use Rattle.cuts.specs.Cut.{cut}
use Rattle.squares.specs.Refusals.{Bar, Write, first, refuse, result}
use Rattle.squares.specs.RefusalLaws.{before, clear}
use Rattle.model.specs.Answers.{Values}
use Rattle.model.specs.Model.{Town, entries_used, Call, opening, adding, removing, riding, reporting, leaving, searching, ask_scoring, ask_roster, ask_count, ask_holder, ask_where, ask_soundness, Lengths, Meaning, meaning, barred, refusal, outcome}
use Rattle.tables.specs.Tables.{Tables, shape_of, town_of, car_room, entry_room}
use Rattle.promises.specs.Promise.{lengths_in}
use Rattle.promises.specs.PromiseLaws.{outcome_in}
use Rattle.texts.specs.Texts.{value_at}
use Rattle.texts.specs.Asks.{value_of}
use Rattle.season.specs.Output.{room_of, outcome_of}
use Rattle.room.specs.Room.{part, Ready}
use Rattle.room.specs.Leaves.{Small}
use Rattle.room.specs.RoomLaws.{town-starts, sized-open, cars-64, entries-2048}

-- a call on a town; an open asks for none
abbrev pub asks_town : Call → Bool
asks_town (opening o) = false
asks_town (adding z r) = true
asks_town (removing z) = true
asks_town (riding z dx dy entered left) = true
asks_town (reporting c g p entered left) = true
asks_town (leaving c left) = true
asks_town (searching p found) = true
asks_town (ask_scoring p) = true
asks_town (ask_roster z inside) = true
asks_town (ask_count z) = true
asks_town (ask_holder z) = true
asks_town (ask_where c) = true
asks_town ask_soundness = true

module _ (m : Town) where
  -- it is barred by 3 where check 3 fails
  closed-bars : (l : Lengths) (call : Call) → asks_town call ≡ true → l.own ≡ false → barred l m call ≡ 3
  unfolding meaning first
  closed-bars l (opening o) town e = absurd (true-not-false false town refl)
  closed-bars l (adding z r) town e = rw e
  closed-bars l (removing z) town e = rw e
  closed-bars l (riding z dx dy entered left) town e = rw e
  closed-bars l (reporting c g p entered left) town e = rw e
  closed-bars l (leaving c left) town e = rw e
  closed-bars l (searching p found) town e = rw e
  closed-bars l (ask_scoring p) town e = rw e
  closed-bars l (ask_roster z inside) town e = rw e
  closed-bars l (ask_count z) town e = rw e
  closed-bars l (ask_holder z) town e = rw e
  closed-bars l (ask_where c) town e = rw e
  closed-bars l ask_soundness town e = rw e

  pub own-passes : (l : Lengths) (call : Call) → asks_town call ≡ true → barred l m call ≡ 0 → l.own ≡ true
  own-passes l call town z = ⊎_elim
      (λ (e : l.own ≡ true). e)
      (λ (e : l.own ≡ false). absurd (omega (arith, closed-bars l call town e)))
      (true-or-false l.own)

  -- so it answers 3 where no town is open
  pub closed-3 : allowed m.opening.shape ≡ false → (call : Call) → asks_town call ≡ true → (outcome_of m call).result.answer ≡ refuse 3
  closed-3 closed call town =
      let l = room_of m in
      let a = meaning l m call in
      let b : barred l m call ≡ 3 = closed-bars l call town closed in
      let r : refusal l m call ≡ 3 = before a.checks a.late (λ z. omega arith) ∙ b in
      ap (λ (n : ℕ). (result n a.writes (a.gives true)).answer) r

  -- it asks nothing else of the lengths
  own_alone : (l l' : Lengths) (call : Call) → asks_town call ≡ true → l.own ≡ l'.own → outcome l true m call ≡ outcome l' true m call
  unfolding meaning
  own_alone l l' (opening o) town e = absurd (true-not-false false town refl)
  own_alone l l' (adding z r) town e = rw e
  own_alone l l' (removing z) town e = rw e
  own_alone l l' (riding z dx dy entered left) town e = rw e
  own_alone l l' (reporting c g p entered left) town e = rw e
  own_alone l l' (leaving c left) town e = rw e
  own_alone l l' (searching p found) town e = rw e
  own_alone l l' (ask_scoring p) town e = rw e
  own_alone l l' (ask_roster z inside) town e = rw e
  own_alone l l' (ask_count z) town e = rw e
  own_alone l l' (ask_holder z) town e = rw e
  own_alone l l' (ask_where c) town e = rw e
  own_alone l l' ask_soundness town e = rw e

-- in the part that is lent it has the town's outcome
pub outcome-part : {t : Tables} → Ready t → (call : Call) → asks_town call ≡ true → outcome_in (part t) true call ≡ outcome_of (town_of t) call
outcome-part {t} ready call town = own_alone (town_of (part t)) (lengths_in (part t)) (room_of (town_of (part t))) call town (sized-open ready) ∙ ap (λ (m : Town). outcome_of m call) (town-starts t (part t).derived.starts)

-- ---- how great the numbers of an answer are

-- of the numbers below n no more than n are kept
few-kept : (f : ℕ → Bool) (n most : ℕ) → n ≤ most → length (keep f (upto n)) ≤ most
few-kept f n most h = omega (arith, length-keep f (upto n), length-span 0 n)

-- a refusal counts nothing
few-by : (n : ℕ) (w : List Write) (v : Values) (i most : ℕ) → (n ≡ 0 → value_at i v ≤ most) → value_of i (result n w v).answer ≤ most
few-by zero w v i most f = f refl
few-by (suc n) w v i most f = zero-le

module _ {t : Tables} (ready : Ready t) where
  abbrev here : Call → Meaning
  here call = meaning (room_of (town_of t)) (town_of t) call

  abbrev tests : Call → List Bar
  tests call = (here call).checks ++ (here call).late

  few-given : (call : Call) (i most : ℕ) → (first (tests call) ≡ 0 → value_at i ((here call).gives true) ≤ most) → value_of i (outcome_of (town_of t) call).result.answer ≤ most
  few-given call i most f = few-by (first (tests call)) (here call).writes ((here call).gives true) i most f

  -- an added zone has at most 2,048 squares and 64 cars
  pub few-added : (z : ℕ) (r : Rect) → Small 2048 64 (outcome_of (town_of t) (adding z r)).result.answer
  unfolding meaning
  few-added z r =
      let call = adding z r in
      record {
        first = few-given call 0 2048 (λ e.
            let h = clear (tests call) refl e in
            let room : entries_used (town_of t) + length (cut (shape_of t) r) ≤ entry_room t = leb-true _ _ h.1.1.1.1.0 in
            omega (arith, entries-2048 ready (ready.sound h.0)));
        second = few-given call 1 64 (λ e. few-kept _ (car_room t) 64 (omega (arith, cars-64 ready (ready.sound (clear (tests call) refl e).0))));
      }

  -- a roster has no more cars than its buffer
  pub few-roster : (z : ℕ) (inside : List ℕ) → Small (length inside) 0 (outcome_of (town_of t) (ask_roster z inside)).result.answer
  unfolding meaning
  few-roster z inside =
      let call = ask_roster z inside in
      record {
        first = few-given call 0 (length inside) (λ e. few-kept _ _ _ (leb-true _ _ (clear (tests call) refl e).1.1.1.0));
        second = few-given call 1 0 (λ e. zero-le);
      }
