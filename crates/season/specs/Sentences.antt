-- The log, sentence by sentence: what each line answers, from the lines before it and their answers alone.
use Rattle.std.specs.Prelude.{ℕ, ◌+◌, ◌≡◌, true, List, [], ◌∷◌, ◌++◌, length}
use Rattle.std.proofs.Common.{ap, sym, ◌∙◌}
use Rattle.std.proofs.Math.Option.{Option, none, some}
use Rattle.squares.specs.declared.shape.Shape.{Shape}
use Rattle.squares.specs.declared.shape.Rect.{Rect}
use Rattle.squares.specs.Shape.{allowed}
use Rattle.cuts.specs.Cut.{cut}
use Rattle.model.specs.Model.{Town, nowhere, known, roster, looked, Call}
use Rattle.line.specs.declared.records.Record.TheVariants.{Bad, Add, Report, Leave, Search, Roster}
use Rattle.line.specs.Grammar.{meaning}
use Rattle.line.specs.Lines.{lines}
use Rattle.print.specs.Text.{number, members, parts}
use Rattle.texts.specs.Texts.{Letter, byte}
use Rattle.season.specs.Output.{position_of, line_of, output}
use Rattle.season.specs.Season.{Told, told, accepted, last_open, last_add, last_report, car_by, cars_in, zones_over, entered, left, left_behind, report_refusal}
use Rattle.season.specs.OutputLaws.{one_each}
use Rattle.season.specs.ReplyLaws.{accepting, closed-reply, roster-reply, roster-accepts, search-reply, report-reply, report-accepts, report-refuses, leave-reply, add-reply}
use Rattle.season.specs.SeasonLaws.{opening_by, Here, town_said, here, answers-so, accepts-so, open_more, town-more, opened, few-cars, few-zones, own-team, refusal-said, shape-said, cars-said, over-said, entered-said, left-said, behind-said}

-- each line answers one line
pub one_answer : (input : List ℕ) → length (lines (output input)) ≡ length (lines input)
unfolding output
one_answer input = one_each nowhere (lines input)

-- a line of an input, between those before it and those after it
module _ (input : List ℕ) (earlier later : List Told) (l : Told) (e : told input ≡ earlier ++ (l ∷ later)) where
  abbrev town : Town
  town = town_said earlier

  at : Here town l
  at = here input earlier later l e

  -- a line that is no record
  pub bad-told : meaning l.line ≡ Bad → l.answer ≡ 63 ∷ parts (number 14 ∷ [])
  bad-told q = answers-so at q

  -- before any accepted M every record but M gets 3
  pub closed-told : last_open earlier ≡ none → (letter : Letter) (call : Call) → line_of l.line ≡ some (letter, call) → (letter ≡ Letter.M → ⊥) → l.answer ≡ byte letter ∷ parts (number 3 ∷ [])
  closed-told shut letter call q f = at.is ∙ closed-reply town (ap (λ (shape : Option Shape). allowed (opening_by shape).shape) shut) (meaning l.line) letter call q f

  -- R: the cars whose last accepted report lies in the zone, each once, lowest first
  pub roster-told : (z : ℕ) → meaning l.line ≡ Roster z → accepted l ≡ true → l.answer ≡ 82 ∷ parts (number 0 ∷ number (length (cars_in earlier z)) ∷ members (cars_in earlier z) ∷ [])
  roster-told z q a =
      let g = roster-reply town z (accepts-so at q a) in
      let s = opened (last_open earlier) g.0 in
      answers-so at q ∙ g.1 ∙ ap (λ (cars : List ℕ). 82 ∷ parts (number 0 ∷ number (length cars) ∷ members cars ∷ [])) (cars-said earlier s.1 z)

  -- it is accepted where the zone stands
  pub roster-accepted : (z : ℕ) {r : Rect} → meaning l.line ≡ Roster z → last_add z earlier ≡ some r → accepted l ≡ true
  roster-accepted z q up = ap accepting (answers-so at q) ∙ roster-accepts town at.proper z (ap known up) (few-cars (last_open earlier))

  -- S: the squares looked into, one a level, and the zones that hold the point
  pub search-told : (x y : ℕ) → meaning l.line ≡ Search x y → accepted l ≡ true → (s : Shape) × (last_open earlier ≡ some s) × (l.answer ≡ 83 ∷ parts (number 0 ∷ number (s.k + 1) ∷ members (zones_over earlier (position_of x y)) ∷ []))
  search-told x y q a =
      let g = search-reply town x y (accepts-so at q a) in
      let s = opened (last_open earlier) g.0 in
      (s.0, s.1, answers-so at q ∙ g.1 ∙ rw (over-said earlier s.1 (position_of x y), shape-said earlier s.1))

  -- P: the squares looked into, the zones entered and the zones left
  pub report-told : (c x y : ℕ) → meaning l.line ≡ Report c x y → accepted l ≡ true → (s : Shape) × (last_open earlier ≡ some s) × (l.answer ≡ 80 ∷ parts (number 0 ∷ number (looked s (car_by (last_report c earlier)) (position_of x y)) ∷ members (entered earlier c (position_of x y)) ∷ members (left earlier c (position_of x y)) ∷ []))
  report-told c x y q a =
      let p = position_of x y in
      let g = report-reply town c x y (accepts-so at q a) in
      let s = opened (last_open earlier) g.0 in
      (s.0, s.1, answers-so at q ∙ g.1 ∙ rw (entered-said earlier s.1 c p, left-said earlier s.1 c p, shape-said earlier s.1))

  -- it is accepted where nothing refuses it, and else refused by that number
  pub report-accepted : (c x y : ℕ) → meaning l.line ≡ Report c x y → report_refusal earlier c (position_of x y) ≡ 0 → accepted l ≡ true
  report-accepted c x y q e = ap accepting (answers-so at q) ∙ report-accepts town c x y (own-team (last_report c earlier)) (few-zones (last_open earlier)) (refusal-said earlier c (position_of x y) ∙ e)

  pub report-refused : (c x y : ℕ) → meaning l.line ≡ Report c x y → (report_refusal earlier c (position_of x y) ≡ 0 → ⊥) → l.answer ≡ 80 ∷ parts (number (report_refusal earlier c (position_of x y)) ∷ [])
  report-refused c x y q f =
      let said = refusal-said earlier c (position_of x y) in
      answers-so at q ∙ report-refuses town c x y (own-team (last_report c earlier)) (few-zones (last_open earlier)) (λ e. f (sym said ∙ e)) ∙ ap (λ (n : ℕ). 80 ∷ parts (number n ∷ [])) said

  -- L: the squares looked into, one a level, and the zones left
  pub leave-told : (c : ℕ) → meaning l.line ≡ Leave c → accepted l ≡ true → (s : Shape) × (last_open earlier ≡ some s) × (l.answer ≡ 76 ∷ parts (number 0 ∷ number (s.k + 1) ∷ members (left_behind earlier c) ∷ []))
  leave-told c q a =
      let g = leave-reply town c (accepts-so at q a) in
      let s = opened (last_open earlier) g.0 in
      (s.0, s.1, answers-so at q ∙ g.1 ∙ rw (behind-said earlier s.1 c, shape-said earlier s.1))

  -- A: the squares of the cut, and how many cars are in the zone now that it stands
  pub add-told : (z a b w h : ℕ) → meaning l.line ≡ Add z a b w h → accepted l ≡ true → let r : Rect = record { a = a; b = b; w = w; h = h } in (s : Shape) × (last_open earlier ≡ some s) × (l.answer ≡ 65 ∷ parts (number 0 ∷ number (length (cut s r)) ∷ number (length (cars_in (earlier ++ (l ∷ [])) z)) ∷ []))
  add-told z a b w h q ok =
      let g = add-reply town z a b w h (accepts-so at q ok) in
      let s = opened (last_open earlier) g.0 in
      let inside = ap (λ (m : Town). roster m z) (sym (town-more earlier l ok q)) ∙ cars-said (earlier ++ (l ∷ [])) (open_more earlier l ok q ∙ s.1) z in
      (s.0, s.1, answers-so at q ∙ g.1 ∙ rw (inside, shape-said earlier s.1))
