-- Laws of a reply: an accepted call's has 0, changes the town and says what the model gives; a refused one's has another number
-- and changes nothing.
use Prim.Native.Nat.{ℕ, zero, suc, ◌+◌}
use Rattle.std.specs.Prelude.{◌≡◌, Bool, not, ◌&&◌, leb, ltb, length, get_or}
use Rattle.std.proofs.Math.Path.{refl, ap, ap₂}
use Rattle.std.proofs.Common.{sym, subst, ◌∙◌, arith, eqb-true}
use Rattle.std.proofs.Math.Bool.{true, false, cond}
use mathlib.Core.List.{List, [], ◌∷◌, ◌++◌}
use Rattle.std.proofs.Math.Option.{none, some}
use Rattle.std.proofs.Math.Dec.{eqb}
use Rattle.std.proofs.lemmas.Bool.{not-true}
use Rattle.order.specs.TestLaws.{and→, true-not-false}
use Rattle.order.specs.BufferLaws.{take-over}
use Rattle.squares.specs.declared.shape.Rect.{Rect}
use Rattle.squares.specs.Shape.{allowed}
use Rattle.cuts.specs.Cut.{cut}
use Rattle.squares.specs.Refusals.{Bar, unless, first, Result, result}
use Rattle.squares.specs.RefusalLaws.{stops, clear}
use Rattle.position.specs.declared.Position.{Position}
use Rattle.position.specs.Answer.{on_town}
use Rattle.model.specs.Answers.{Values}
use Rattle.model.specs.Model.{Town, known, roster, zones_at, zones_of, zones_entered, zones_left, looked, teamed, Call, opening, adding, removing, riding, reporting, leaving, searching, ask_scoring, ask_roster, ask_count, ask_holder, ask_where, ask_soundness, zone_on, change_of, change_by, carried, after, Meaning, meaning}
use Rattle.line.specs.declared.records.Record.{Record}
use Rattle.line.specs.declared.records.Record.TheVariants.{Bad, Open, Add, Remove, Report, Leave, Search, Roster}
use Rattle.print.specs.Text.{digits, number, members, parts}
use Rattle.texts.specs.Texts.{Letter, byte, parts_of}
use Rattle.season.specs.Output.{Line, position_of, blank, call_of, room_of, town_after}
use Rattle.season.specs.OutputLaws.{bare}

-- ---- 0 and the other numbers

-- an answer's number begins with 0
abbrev pub accepting : List ℕ → Bool
accepting answer = eqb (get_or answer 2 0) 48

-- a refusal by this number is seen as one
abbrev apart : ℕ → Bool
apart n = not (accepting (0 ∷ parts (number n ∷ [])))

abbrev all_apart : List Bar → Bool
all_apart [] = true
all_apart (x ∷ l) = apart x.1 && all_apart l

first-apart : (l : List Bar) (n : ℕ) → all_apart l ≡ true → first l ≡ suc n → apart (suc n) ≡ true
unfolding first
first-apart [] n h e = absurd (omega arith)
first-apart (x ∷ l) n h e = let p = and→ (apart x.1) (all_apart l) h in go x.0 e p.0 (first-apart l n p.1)
  where
    go : (t : Bool) → unless t x.1 (first l) ≡ suc n → apart x.1 ≡ true → (first l ≡ suc n → apart (suc n) ≡ true) → apart (suc n) ≡ true
    go true q a f = f q
    go false q a f = subst (λ (i : ℕ). apart i ≡ true) q a

module _ (m : Town) where
  -- what a call means on the town, and all that it asks
  abbrev means : Call → Meaning
  means call = meaning (room_of m) m call

  abbrev tests : Call → List Bar
  tests call = (means call).checks ++ (means call).late

  tests-apart : (call : Call) → all_apart (tests call) ≡ true
  unfolding meaning digits
  tests-apart (opening o) = refl
  tests-apart (adding z r) = refl
  tests-apart (removing z) = refl
  tests-apart (riding z dx dy entered left) = refl
  tests-apart (reporting c g p entered left) = refl
  tests-apart (leaving c left) = refl
  tests-apart (searching p found) = refl
  tests-apart (ask_scoring p) = refl
  tests-apart (ask_roster z inside) = refl
  tests-apart (ask_count z) = refl
  tests-apart (ask_holder z) = refl
  tests-apart (ask_where c) = refl
  tests-apart ask_soundness = refl

  module _ (letter : Letter) (call : Call) where
    -- what a call leaves and the reply, by the number that refuses it
    abbrev leaves : ℕ → Result Values
    leaves n = result {A = Values} n (means call).writes ((means call).gives true)

    abbrev replies : ℕ → List ℕ
    replies n = byte letter ∷ parts (parts_of letter (leaves n).answer (leaves n).buffers)

    refused-apart : (n : ℕ) → first (tests call) ≡ suc n → accepting (replies (suc n)) ≡ false
    refused-apart n e = not-true (accepting (replies (suc n))) (first-apart (tests call) n (tests-apart call) e)

    -- accepted: every test holds, and the reply has what the model gives
    accepted→ : accepting (bare m (some (letter, call))) ≡ true → (first (tests call) ≡ 0) × (bare m (some (letter, call)) ≡ replies 0)
    accepted→ a = let e = go (first (tests call)) refl a in (e, ap replies e)
      where
        go : (n : ℕ) → first (tests call) ≡ n → accepting (replies n) ≡ true → n ≡ 0
        go zero q h = refl
        go (suc n) q h = absurd (true-not-false (accepting (replies (suc n))) h (refused-apart n q))

    →accepted : first (tests call) ≡ 0 → accepting (bare m (some (letter, call))) ≡ true
    unfolding digits
    →accepted e = ap (λ (n : ℕ). accepting (replies n)) e

    -- refused: the reply has the number alone
    refused→ : (n : ℕ) → first (tests call) ≡ n → (n ≡ 0 → ⊥) → bare m (some (letter, call)) ≡ byte letter ∷ parts (number n ∷ [])
    refused→ n e f = ap replies e ∙ go n f
      where
        go : (n : ℕ) → (n ≡ 0 → ⊥) → replies n ≡ byte letter ∷ parts (number n ∷ [])
        go zero f = absurd (f refl)
        go (suc n) f = refl

  -- ---- the town after a line

  -- what an accepted line makes of the town
  abbrev pub changed : Line → Town
  changed none = m
  changed (some line) = after (change_of line.1) m

  pub moves : (line : Line) → town_after m line ≡ cond (accepting (bare m line)) (changed line) m
  unfolding digits
  moves none = refl
  moves (some line) = go (first (tests line.1)) refl
    where
      go : (n : ℕ) → first (tests line.1) ≡ n → after (change_by (leaves line.0 line.1 n).answer (change_of line.1)) m ≡ cond (accepting (replies line.0 line.1 n)) (after (change_of line.1) m) m
      go zero q = refl
      go (suc n) q = rw (refused-apart line.0 line.1 n q)

  -- a town is open, by what check 3 asks
  abbrev pub IsOpen : Type 0
  IsOpen = allowed m.opening.shape ≡ true

  abbrev Within : ℕ → Type 0
  Within z = IsOpen × (ltb z m.opening.zones ≡ true)

-- a zone stands in an open town, and below its capacity
abbrev pub Proper : Town → Type 0
Proper m = (z : ℕ) → known (m.zone z) ≡ true → Within m z

module _ (m : Town) (h : Proper m) where
  proper-after : (call : Call) → first (tests m call) ≡ 0 → Proper (after (change_of call) m)
  unfolding meaning
  proper-after (opening o) e = λ z k. absurd (true-not-false false k refl)
  proper-after (adding z r) e = λ j k. go j (eqb j z) refl k
    where
      go : (j : ℕ) (t : Bool) → eqb j z ≡ t → known (cond t (some r) (m.zone j)) ≡ true → Within m j
      go j true q k = let c = clear (tests m (adding z r)) refl e in (c.0, rw (eqb-true j z q) c.1.0)
      go j false q k = h j k
  proper-after (removing z) e = λ j k. go j (eqb j z) k
    where
      go : (j : ℕ) (t : Bool) → known (cond t none (m.zone j)) ≡ true → Within m j
      go j true k = absurd (true-not-false false k refl)
      go j false k = h j k
  proper-after (riding z dx dy entered left) e = λ j k. go j (eqb j z) refl k
    where
      go : (j : ℕ) (t : Bool) → eqb j z ≡ t → known (cond t (carried dx dy (m.zone z)) (m.zone j)) ≡ true → Within m j
      go j true q k = let c = clear (tests m (riding z dx dy entered left)) refl e in (c.0, rw (eqb-true j z q) c.1.0)
      go j false q k = h j k
  proper-after (reporting c g p entered left) e = h
  proper-after (leaving c left) e = h
  proper-after (searching p found) e = h
  proper-after (ask_scoring p) e = h
  proper-after (ask_roster z inside) e = h
  proper-after (ask_count z) e = h
  proper-after (ask_holder z) e = h
  proper-after (ask_where c) e = h
  proper-after ask_soundness e = h

  pub proper-next : (line : Line) → Proper (town_after m line)
  proper-next none = h
  proper-next (some line) = go (first (tests m line.1)) (proper-after line.1)
    where
      go : (n : ℕ) → (n ≡ 0 → Proper (after (change_of line.1) m)) → Proper (after (change_by (leaves m line.0 line.1 n).answer (change_of line.1)) m)
      go zero f = f refl
      go (suc n) f = h

-- ---- record by record

module _ (m : Town) where
  abbrev reply_to : Record → List ℕ
  reply_to r = bare m (call_of r)

  abbrev Closed : Line → Type 0
  Closed none = Unit {0}
  Closed (some line) = (line.0 ≡ Letter.M → ⊥) → first (tests m line.1) ≡ 3

  closed : allowed m.opening.shape ≡ false → (r : Record) → Closed (call_of r)
  unfolding meaning first
  closed e Bad = tt
  closed e (Open k P Q) = λ f. absurd (f refl)
  closed e (Add z a b w h) = λ f. rw e
  closed e (Remove z) = λ f. rw e
  closed e (Report c x y) = λ f. rw e
  closed e (Leave c) = λ f. rw e
  closed e (Search x y) = λ f. rw e
  closed e (Roster z) = λ f. rw e

  -- where no town is open every record but M gets 3
  pub closed-reply : allowed m.opening.shape ≡ false → (r : Record) (letter : Letter) (call : Call) → call_of r ≡ some (letter, call) → (letter ≡ Letter.M → ⊥) → reply_to r ≡ byte letter ∷ parts (number 3 ∷ [])
  closed-reply e r letter call q f = ap (bare m) q ∙ ap (replies m letter call) (subst Closed q (closed e r) f)

  pub roster-reply : (z : ℕ) → accepting (reply_to (Roster z)) ≡ true → IsOpen m × (reply_to (Roster z) ≡ 82 ∷ parts (number 0 ∷ number (length (roster m z)) ∷ members (roster m z) ∷ []))
  unfolding meaning
  roster-reply z a =
      let call = ask_roster z (blank 64) in
      let g = accepted→ m Letter.R call a in
      ((clear (tests m call) refl g.0).0, g.1 ∙ ap (λ (cars : List ℕ). 82 ∷ parts (number 0 ∷ number (length (roster m z)) ∷ members cars ∷ [])) (take-over (roster m z) (blank 64)))

  -- a zone's roster where the zone stands
  pub roster-accepts : Proper m → (z : ℕ) → known (m.zone z) ≡ true → leb m.opening.cars 64 ≡ true → accepting (reply_to (Roster z)) ≡ true
  unfolding meaning
  roster-accepts h z up few =
      let call = ask_roster z (blank 64) in
      let w = h z up in
      →accepted m Letter.R call (sym (stops 4 (tests m call) (w.0, (w.1, (up, (few, tt))))))

  pub search-reply : (x y : ℕ) → accepting (reply_to (Search x y)) ≡ true → IsOpen m × (reply_to (Search x y) ≡ 83 ∷ parts (number 0 ∷ number (m.opening.shape.k + 1) ∷ members (zones_at m (position_of x y)) ∷ []))
  unfolding meaning
  search-reply x y a =
      let p = position_of x y in
      let call = searching p (blank 16) in
      let g = accepted→ m Letter.S call a in
      ((clear (tests m call) refl g.0).0, g.1 ∙ ap (λ (zones : List ℕ). 83 ∷ parts (number 0 ∷ number (m.opening.shape.k + 1) ∷ members zones ∷ [])) (take-over (zones_at m p) (blank 16)))

  pub report-reply : (c x y : ℕ) → accepting (reply_to (Report c x y)) ≡ true → IsOpen m × (reply_to (Report c x y) ≡ 80 ∷ parts (number 0 ∷ number (looked m.opening.shape (m.car c) (position_of x y)) ∷ members (zones_entered m c (position_of x y)) ∷ members (zones_left m c (position_of x y)) ∷ []))
  unfolding meaning
  report-reply c x y a =
      let p = position_of x y in
      let call = reporting c 0 p (blank 16) (blank 16) in
      let g = accepted→ m Letter.P call a in
      ((clear (tests m call) refl g.0).0, g.1 ∙ ap₂ (λ (entered left : List ℕ). 80 ∷ parts (number 0 ∷ number (looked m.opening.shape (m.car c) p) ∷ members entered ∷ members left ∷ [])) (take-over (zones_entered m c p) (blank 16)) (take-over (zones_left m c p) (blank 16)))

  -- the number that refuses a report of the team that the car has, or 0
  abbrev pub report_bar : ℕ → Position → ℕ
  report_bar c p = first ((allowed m.opening.shape, 3) ∷ (ltb c m.opening.cars, 5) ∷ (on_town m.opening.shape p, 10) ∷ [])

  module _ (c x y : ℕ) (own : teamed (m.car c) 0 ≡ true) (few : leb m.opening.zones 16 ≡ true) where
    report-tests : first (tests m (reporting c 0 (position_of x y) (blank 16) (blank 16))) ≡ report_bar c (position_of x y)
    unfolding meaning first
    report-tests = rw (own, few)

    pub report-accepts : report_bar c (position_of x y) ≡ 0 → accepting (reply_to (Report c x y)) ≡ true
    report-accepts e = →accepted m Letter.P (reporting c 0 (position_of x y) (blank 16) (blank 16)) (report-tests ∙ e)

    pub report-refuses : (report_bar c (position_of x y) ≡ 0 → ⊥) → reply_to (Report c x y) ≡ 80 ∷ parts (number (report_bar c (position_of x y)) ∷ [])
    report-refuses f = refused→ m Letter.P (reporting c 0 (position_of x y) (blank 16) (blank 16)) (report_bar c (position_of x y)) report-tests f

  pub leave-reply : (c : ℕ) → accepting (reply_to (Leave c)) ≡ true → IsOpen m × (reply_to (Leave c) ≡ 76 ∷ parts (number 0 ∷ number (m.opening.shape.k + 1) ∷ members (zones_of m c) ∷ []))
  unfolding meaning
  leave-reply c a =
      let call = leaving c (blank 16) in
      let g = accepted→ m Letter.L call a in
      ((clear (tests m call) refl g.0).0, g.1 ∙ ap (λ (zones : List ℕ). 76 ∷ parts (number 0 ∷ number (m.opening.shape.k + 1) ∷ members zones ∷ [])) (take-over (zones_of m c) (blank 16)))

  pub add-reply : (z a b w h : ℕ) → accepting (reply_to (Add z a b w h)) ≡ true → let r : Rect = record { a = a; b = b; w = w; h = h } in IsOpen m × (reply_to (Add z a b w h) ≡ 65 ∷ parts (number 0 ∷ number (length (cut m.opening.shape r)) ∷ number (length (roster (after (zone_on z r) m) z)) ∷ []))
  unfolding meaning
  add-reply z a b w h ok =
      let call = adding z (record { a = a; b = b; w = w; h = h }) in
      let g = accepted→ m Letter.A call ok in
      ((clear (tests m call) refl g.0).0, g.1)
