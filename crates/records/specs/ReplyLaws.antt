-- How a call's promise and the text of its answer make the reply to a line: once for the calls on a town, once for an open.
use Rattle.std.specs.Prelude.{ℕ, zero, suc, ◌≤◌, refl, List, [], ◌∷◌, ◌++◌, length, take, drop}
use Rattle.std.proofs.Math.Path.{◌≡◌, ap}
use Rattle.std.proofs.Common.{sym, subst, ◌∙◌, arith, length-take, length-take-le}
use Rattle.std.specs.declared.result.Result.TheVariants.{Ok, Err}
use Rattle.std.proofs.Math.Bool.{true}
use Rattle.std.proofs.Math.Option.{none, some}
use denote.Triple.Both.{Both}
use Rattle.order.specs.Order.{over, Wrote}
use Rattle.order.specs.BufferLaws.{count-front}
use Rattle.squares.specs.Shape.{shape}
use Rattle.squares.specs.ShapeLaws.{allowed→}
use Rattle.squares.specs.declared.refusal.Refusal.{Refusal}
use Rattle.squares.specs.Refusals.{number_of, Answer, refuse, Result, result}
use Rattle.squares.specs.RefusalLaws.{stops, some-number}
use Rattle.model.specs.Answers.{Values, numbers}
use Rattle.model.specs.Model.{Town, Call, opening, Event, change, meaning}
use Rattle.model.specs.declared.opening.Opening.{Opening}
use Rattle.tables.specs.Tables.{Tables, town_of}
use Rattle.tables.specs.Sizes.{Long}
use Rattle.tables.specs.CheckLaws.{→long}
use Rattle.tables.specs.Lent.{both}
use Rattle.tables.specs.Steps.{step}
use Rattle.promises.specs.Promise.{lengths_in, means, bars, Keeps}
use Rattle.promises.specs.PromiseLaws.{keeps-told, trusts-sound}
use Rattle.line.specs.declared.records.Record.TheVariants.{Open}
use Rattle.print.specs.Text.{number, answer, Answers}
use Rattle.texts.specs.Texts.{Letter, text_of}
use Rattle.season.specs.Output.{Line, opening_of, call_of, outcome_of}
use Rattle.room.specs.Room.{places_of, with_starts, part, into, Roomed, Ready}
use Rattle.room.specs.Leaves.{open_refusal, OpenRoom, Small, Tamed}
use Rattle.room.specs.RoomLaws.{squares-64, take-shown, put_back, part_sound}
use Rattle.room.specs.OpenLaws.{within}
use Rattle.records.specs.Replies.{Replies}
use Rattle.records.specs.CallLaws.{asks_town, own-passes, outcome-part}

-- a call that leaves the model's outcome and its step where the tables are ready; what is written may be another answer where
-- they are not
module _ {t u : Tables} {call : Call} {left : Result Values} (told : Ready t → (◌≡◌ {A = Event} (record { call = call; result = left }) (outcome_of (town_of t) call)) × (u ≡ step (change (outcome_of (town_of t) call)) (part t))) where
  replies : {letter : Letter} {said : Answer Values} {starts b b' : List ℕ} {n : ℕ} → (Ready t → said ≡ left.answer) → starts ≡ over u.derived.starts t.derived.starts → Answers b b' n (text_of letter said left.buffers) → Replies (both t (with_starts u starts)) (some (letter, call)) b b' n
  replies {letter} {said} {starts} {b} {b'} {n} same back w = subst (λ (s : List ℕ). Replies (both t (with_starts u s)) (some (letter, call)) b b' n) (sym back) (record {
    few = w.most;
    text = λ ready. subst (λ (x : Event). Wrote b b' 0 n (text_of letter x.result.answer x.result.buffers)) (told ready).0 (subst (λ (a : Answer Values). Wrote b b' 0 n (text_of letter a left.buffers)) (same ready) w.wrote);
    tables = λ ready. ap (into t) (told ready).1;
  })

-- the line may be said another way
pub replies-as : {t : Both Tables Tables} {line other : Line} {b b' : List ℕ} {n : ℕ} → Replies t line b b' n → other ≡ line → Replies t other b b' n
replies-as {t} {line} {other} {b} {b'} {n} w e = subst (λ (a : Line). Replies t a b b' n) (sym e) w

-- no record
pub bad-replies : {t : Tables} {b b' : List ℕ} {n : ℕ} → Answers b b' n (answer 63 (number 14 ∷ [])) → Replies (both t t) none b b' n
bad-replies w = record { few = w.most; text = λ ready. w.wrote; tables = λ ready. refl }

-- starts that were lent to be changed come back in front of the others, those that were lent to be read stay
pub changed-back : (l : List ℕ) (m : ℕ) → m ≤ length l → (starts : List ℕ) → length starts ≡ length (take m l) → starts ++ drop m l ≡ over starts l
changed-back l m within starts e = ap (λ (i : ℕ). starts ++ drop i l) (count-front m l within ∙ sym e)

pub read_back : (l : List ℕ) (m : ℕ) → l ≡ over (take m l) l
read_back l m = sym (put_back m l)

-- ---- a call on a town

module _ {t : Tables} (room : Roomed t) {m : ℕ} (places : m ≡ length (take (places_of t.records.head) t.derived.starts)) where
  pub lent-within : m ≤ length t.derived.starts
  lent-within = omega (arith, length-take (places_of t.records.head) t.derived.starts)

  module _ {call : Call} {left : Result Values} {u : Tables} (town : asks_town call ≡ true) (kept : Keeps (both (with_starts t (take m t.derived.starts)) u) (record { call = call; result = left })) where
    abbrev e : Event
    e = record { call = call; result = left }

    keeps : Keeps (both (part t) u) e
    keeps = subst (λ (s : List ℕ). Keeps (both (with_starts t s) u) e) (ap (λ (i : ℕ). take i t.derived.starts) places ∙ take-shown (places_of t.records.head) t.derived.starts) kept

    told : Ready t → (e ≡ outcome_of (town_of t) call) × (u ≡ step (change (outcome_of (town_of t) call)) (part t))
    told ready =
        let a = keeps-told true keeps (λ z. trusts-sound (means (part t) call).trusts (part_sound ready (own-passes (town_of (part t)) (lengths_in (part t)) call town z))) in
        let same : e ≡ outcome_of (town_of t) call = a.0 ∙ outcome-part ready call town in
        (same, a.1 ∙ ap (λ (x : Event). step (change x) (part t)) same)

    pub call-replies : {letter : Letter} {starts b b' : List ℕ} {n : ℕ} → starts ≡ over u.derived.starts t.derived.starts → Answers b b' n (text_of letter left.answer left.buffers) → Replies (both t (with_starts u starts)) (some (letter, call)) b b' n
    call-replies back w = replies told (λ ready. refl) back w

    -- an answer that is small where the tables are ready may be made so before it is written
    pub tamed-replies : {a b : ℕ} → (Ready t → Small a b (outcome_of (town_of t) call).result.answer) → {letter : Letter} {said : Answer Values} {starts c c' : List ℕ} {n : ℕ} → Tamed a b left.answer said → starts ≡ over u.derived.starts t.derived.starts → Answers c c' n (text_of letter said left.buffers) → Replies (both t (with_starts u starts)) (some (letter, call)) c c' n
    tamed-replies {a} {b} small tame back w = replies told (λ ready. tame.same (subst (λ (x : Event). Small a b x.result.answer) (sym (told ready).0) (small ready))) back w

-- ---- an open

module _ (k P Q : ℕ) where
  abbrev o : Opening
  o = opening_of k P Q

  -- what it leaves, by the number that refuses it
  abbrev opens : ℕ → Event
  opens n = record { call = opening o; result = result n [] (numbers []) }

  pub opens-so : (m : Town) (n : ℕ) → n ≡ open_refusal k P Q → opens n ≡ outcome_of m (opening o)
  unfolding meaning
  opens-so m n q = ap opens q

  -- an open that leaves what refuses it
  refused-so : {t : Tables} {r : ℕ} {b b' : List ℕ} (n : ℕ) → (n ≡ 0 → ⊥) → n ≡ open_refusal k P Q → Answers b b' r (text_of Letter.M (refuse n) []) → Replies (both t t) (call_of (Open k P Q)) b b' r
  refused-so zero f h w = absurd (f refl)
  refused-so {t} (suc n) f h w =
      let so = opens-so (town_of t) (suc n) h in
      replies (λ ready. (so, ap (λ (x : Event). step (change x) (part t)) so)) (λ ready. refl) (read_back t.derived.starts (places_of t.records.head)) w

  pub open-refused : {t : Tables} {r : ℕ} {b b' : List ℕ} (n : Refusal) → OpenRoom k P Q (Err n) → Answers b b' r (text_of Letter.M (refuse (number_of n)) []) → Replies (both t t) (call_of (Open k P Q)) b b' r
  open-refused n h w = refused-so (number_of n) (some-number n) h w

  module _ {t : Tables} (room : Roomed t) {m : ℕ} (many : OpenRoom k P Q (Ok m)) where
    pub open-within : m ≤ length t.derived.starts
    open-within = let h = within k P Q many.0 in omega (arith, squares-64 (shape k P Q) (allowed→ (shape k P Q) h.shaped) h.wide h.high, many.1, room.starts)

    abbrev offered : Tables
    offered = with_starts t (take m t.derived.starts)

    offered-long : Long (shape k P Q) 16 64 2048 offered
    offered-long = record {
      head = room.head;
      zones = room.zones;
      cars = room.cars;
      spots = room.spots;
      starts = length-take-le m t.derived.starts open-within ∙ many.1;
      entries = room.entries;
      rosters = room.rosters;
      tallies = room.tallies;
    }

    open-passes : 0 ≡ bars offered (opening o)
    unfolding meaning
    open-passes = stops 3 (means offered (opening o)).checks ((within k P Q many.0).shaped, (refl, (→long (shape k P Q) 16 64 2048 offered offered-long, tt)))

    pub open-replies : {u : Tables} {left : Result Values} {starts b b' : List ℕ} {n : ℕ} → Keeps (both offered u) (record { call = opening o; result = left }) → starts ≡ over u.derived.starts t.derived.starts → Answers b b' n (text_of Letter.M left.answer left.buffers) → Replies (both t (with_starts u starts)) (call_of (Open k P Q)) b b' n
    unfolding meaning
    open-replies {u} {left} kept back w =
        let d = kept.does (sym open-passes) true tt in
        let so : ◌≡◌ {A = Event} (record { call = opening o; result = left }) (opens 0) = d.0 ∙ ap opens (sym open-passes) in
        let done = opens-so (town_of t) 0 (sym many.0) in
        replies (λ ready. (so ∙ done, d.1 ∙ ap (λ (x : Event). step (change x) offered) so ∙ ap (λ (x : Event). step (change x) (part t)) done)) (λ ready. refl) back w
