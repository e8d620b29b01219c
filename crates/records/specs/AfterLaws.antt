-- After a line the tables are ready again, and the town in them is the model's.
use Rattle.std.specs.Prelude.{ℕ, zero, suc, ◌≡◌, refl, true, false}
use Rattle.std.proofs.Common.{ap, sym, subst, ◌∙◌, ⊎_elim}
use Rattle.order.specs.TestLaws.{true-or-false, true-not-false}
use Rattle.squares.specs.Shape.{shape, allowed}
use Rattle.squares.specs.ShapeLaws.{allowed→}
use Rattle.squares.specs.Refusals.{Answer, refuse, accept}
use Rattle.model.specs.Answers.{Values}
use Rattle.model.specs.Model.{Call, opening, adding, removing, riding, reporting, leaving, searching, ask_scoring, ask_roster, ask_count, ask_holder, ask_where, ask_soundness, Event, Change, emptied, nothing, change_of, change_by, change, after}
use Rattle.tables.specs.Tables.{Tables, shape_of, town_of}
use Rattle.tables.specs.CheckLaws.{roomy→}
use Rattle.tables.specs.Sound.{Sound}
use Rattle.tables.specs.Steps.{empty_town, step}
use Rattle.promises.specs.PromiseLaws.{outcome_in, some-kept}
use Rattle.edits.specs.EmptyLaws.{empty-sound, town-empty}
use Rattle.history.specs.HistoryLaws.{next}
use Rattle.line.specs.declared.records.Record.{Record}
use Rattle.line.specs.declared.records.Record.TheVariants.{Bad, Open, Add, Remove, Report, Leave, Search, Roster}
use Rattle.season.specs.Output.{position_of, opening_of, blank, call_of, outcome_of, town_after}
use Rattle.room.specs.Room.{part, into, Ready}
use Rattle.room.specs.Leaves.{open_refusal}
use Rattle.room.specs.RoomLaws.{squares-64, kept_back, town-starts, ready-into, ready-same}
use Rattle.room.specs.OpenLaws.{within}
use Rattle.records.specs.Replies.{tables_after}
use Rattle.records.specs.CallLaws.{asks_town, closed-3, outcome-part}
use Rattle.records.specs.ReplyLaws.{opens-so}

-- the program's tables after a change
record Then (t : Tables) (d : Change) : Type 0 where
  ready : Ready (into t (step d (part t)))
  town : town_of (into t (step d (part t))) ≡ after d (town_of t)

-- a call on a town keeps the head
head-kept : (t : Tables) (call : Call) → asks_town call ≡ true → (a : Answer Values) → (step (change_by a (change_of call)) t).records.head ≡ t.records.head
head-kept t call town (refuse n) = refl
head-kept t (opening o) town (accept v) = absurd (true-not-false false town refl)
head-kept t (adding z r) town (accept v) = refl
head-kept t (removing z) town (accept v) = refl
head-kept t (riding z dx dy entered left) town (accept v) = refl
head-kept t (reporting c g p entered left) town (accept v) = refl
head-kept t (leaving c left) town (accept v) = refl
head-kept t (searching p found) town (accept v) = refl
head-kept t (ask_scoring p) town (accept v) = refl
head-kept t (ask_roster z inside) town (accept v) = refl
head-kept t (ask_count z) town (accept v) = refl
head-kept t (ask_holder z) town (accept v) = refl
head-kept t (ask_where c) town (accept v) = refl
head-kept t ask_soundness town (accept v) = refl

module _ {t : Tables} (ready : Ready t) where
  then_same : Then t nothing
  then_same = record { ready = subst Ready (sym (kept_back t)) ready; town = ap town_of (kept_back t) }

  -- a call on a town that is open
  then-open : Sound (part t) → (call : Call) → asks_town call ≡ true → Then t (change (outcome_in (part t) true call))
  then-open sound call town =
      let e = outcome_in (part t) true call in
      let k = some-kept (part t) sound call in
      let n = next (part t) sound k.0 e k.1 in
      let u = step (change e) (part t) in
      record {
        ready = ready-same ready u (subst Sound n.is n.sound) sound (head-kept (part t) call town e.result.answer);
        town = town-starts u _ ∙ ap town_of (sym n.is) ∙ n.town ∙ ap (after (change e)) (town-starts t _);
      }

  then-call : (call : Call) → asks_town call ≡ true → Then t (change (outcome_of (town_of t) call))
  then-call call town = ⊎_elim
      (λ (e : allowed (shape_of t) ≡ true). subst (λ (x : Event). Then t (change x)) (outcome-part ready call town) (then-open (ready.sound e) call town))
      (λ (e : allowed (shape_of t) ≡ false). subst (λ (a : Answer Values). Then t (change_by a (change_of call))) (sym (closed-3 (town_of t) e call town)) then_same)
      (true-or-false (allowed (shape_of t)))

  -- an open
  then-empty : (k P Q : ℕ) → open_refusal k P Q ≡ 0 → Then t (emptied (opening_of k P Q))
  then-empty k P Q q =
      let o = opening_of k P Q in
      let h = within k P Q q in
      let a = allowed→ (shape k P Q) h.shaped in
      record {
        ready = ready-into ready (empty_town o) (empty-sound o a (roomy→ 16 64 2048 refl)) refl refl refl (squares-64 (shape k P Q) a h.wide h.high);
        town = town-starts (empty_town o) _ ∙ town-empty o (town_of t);
      }

  then-opening : (k P Q : ℕ) → Then t (change (outcome_of (town_of t) (opening (opening_of k P Q))))
  then-opening k P Q = go (open_refusal k P Q) refl
    where
      go : (n : ℕ) → n ≡ open_refusal k P Q → Then t (change (outcome_of (town_of t) (opening (opening_of k P Q))))
      go zero q = subst (λ (x : Event). Then t (change x)) (opens-so k P Q (town_of t) zero q) (then-empty k P Q (sym q))
      go (suc n) q = subst (λ (x : Event). Then t (change x)) (opens-so k P Q (town_of t) (suc n) q) then_same

  -- ---- by the record

  pub ready-after : (r : Record) → Ready (tables_after t (call_of r))
  ready-after Bad = ready
  ready-after (Open k P Q) = (then-opening k P Q).ready
  ready-after (Add z a b w h) = (then-call (adding z (record { a = a; b = b; w = w; h = h })) refl).ready
  ready-after (Remove z) = (then-call (removing z) refl).ready
  ready-after (Report c x y) = (then-call (reporting c 0 (position_of x y) (blank 16) (blank 16)) refl).ready
  ready-after (Leave c) = (then-call (leaving c (blank 16)) refl).ready
  ready-after (Search x y) = (then-call (searching (position_of x y) (blank 16)) refl).ready
  ready-after (Roster z) = (then-call (ask_roster z (blank 64)) refl).ready

  pub town-after : (r : Record) → town_of (tables_after t (call_of r)) ≡ town_after (town_of t) (call_of r)
  town-after Bad = refl
  town-after (Open k P Q) = (then-opening k P Q).town
  town-after (Add z a b w h) = (then-call (adding z (record { a = a; b = b; w = w; h = h })) refl).town
  town-after (Remove z) = (then-call (removing z) refl).town
  town-after (Report c x y) = (then-call (reporting c 0 (position_of x y) (blank 16) (blank 16)) refl).town
  town-after (Leave c) = (then-call (leaving c (blank 16)) refl).town
  town-after (Search x y) = (then-call (searching (position_of x y) (blank 16)) refl).town
  town-after (Roster z) = (then-call (ask_roster z (blank 64)) refl).town
