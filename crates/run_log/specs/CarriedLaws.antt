-- Laws of what the program's functions promise: a piece is carried out part by part.
use Rattle.std.specs.Prelude.{ℕ, ◌+◌, ◌-◌, ◌<◌, ◌≤◌, ◌≡◌, refl, is_ok, Bool, true, false, cond, ltb, eqb, length, get_or, take, drop, replicate}
use Rattle.std.specs.declared.result.Result.{Result}
use Rattle.std.specs.declared.result.Result.TheVariants.{Ok, Err}
use Rattle.std.proofs.Common.{ap, sym, ◌∙◌, arith, le-ltb, length-append, length-take, length-drop, take_all, take-add, eqb-true, eq-eqb}
use Rattle.std.proofs.Math.Path.{subst}
use mathlib.Core.List.{List, [], ◌∷◌, ◌++◌}
use Rattle.std.proofs.lemmas.List.{length-replicate}
use Rattle.std.proofs.Math.Seq.{take-append_seam}
use Rattle.order.specs.TestLaws.{true-not-false}
use Rattle.squares.specs.declared.refusal.Refusal.{Refusal}
use Rattle.squares.specs.Refusals.{first}
use Rattle.tables.specs.Tables.{Tables, town_of}
use Rattle.tables.specs.Lent.{both}
use Rattle.line.specs.Lines.{Fed, before, feed}
use Rattle.line.specs.LineLaws.{feed-append}
use Rattle.season.specs.Output.{line_of, reply}
use Rattle.room.specs.Room.{Ready}
use Rattle.records.specs.Replies.{tables_after}
use Rattle.pieces.specs.declared.pieces.Filled.{Filled as Counts}
use Rattle.pieces.specs.Pieces.{held_in, holding, Filled, writing, fill, checks, Fills}
use Rattle.pieces.specs.FillLaws.{stopped}
use Rattle.pieces.specs.Leaves.{Refuses}
use Rattle.pieces.specs.PromiseLaws.{refused_none}
use Rattle.replay.specs.Run.{start, after_lines}
use Rattle.replay.specs.RunLaws.{tables_of, ready-lines, tables-append, read_in, wrote_in, Reads, fill-seen, held-few, held_back, ready-start}
use Rattle.run_log.specs.Carried.{Carries, Carried}

rest-is : (bytes : List ℕ) (at : ℕ) → take (length bytes - at) (drop at bytes) ≡ drop at bytes
rest-is bytes at = take_all (length bytes - at) (drop at bytes) (omega (arith, length-drop at bytes))

-- bytes of the rest that were moved
pub moved-rest : (bytes : List ℕ) (at : ℕ) {n : ℕ} → at ≤ length bytes → n ≤ length (take (length bytes - at) (drop at bytes)) → at + n ≤ length bytes
moved-rest bytes at h w = omega (arith, ap length (rest-is bytes at), length-drop at bytes)

-- ---- a call

pub carries-long : {t : Tables} {b o : List ℕ} → Carries t b o → length b ≡ 82
carries-long {b = b} c =
    let zeros = replicate {A = ℕ} (81 - length (held_in b)) 0 in
    ap length c.held ∙ length-append (held_in b) (zeros ++ (length (held_in b) ∷ []))
    ∙ omega (arith, c.few, length-append zeros (length (held_in b) ∷ []), length-replicate {A = ℕ} (81 - length (held_in b)) 0)

-- it is not refused
clear : {t : Tables} {b o : List ℕ} → Carries t b o → first (checks t b o) ≡ 0
clear {t} {b} {o} c =
    let many : get_or b 81 0 ≤ 81 = omega (arith, c.few, carries-long c, length-take (get_or b 81 0) b) in
    let r : Refuses t b o 0 = refused_none c.ready.room (carries-long c) many c.room in
    sym r.is

-- so it answers how much it read and wrote
pub not-refused : {f : Filled} {t t' : Tables} {piece b b' o o' : List ℕ} {said : Result Counts Refusal} {r : Refusal} → Carries t b o → Fills f (both t t') piece b b' o o' said → said ≡ Err r → ⊥
not-refused c f e = true-not-false true refl (ap is_ok (sym (f.passes (clear c)).2) ∙ ap is_ok e)

-- what it fills the buffer with is of the buffer
pub filled_within : {f : Filled} {t t' : Tables} {piece b b' o : List ℕ} (o' : List ℕ) {said : Result Counts Refusal} {k : Counts} → Carries t b o → Fills f (both t t') piece b b' o o' said → length o' ≡ length o → said ≡ Ok k → k.wrote ≤ length o'
filled_within o' c f e is = let p = f.passes (clear c) in let q = ap wrote_in (sym is ∙ p.2) in omega (arith, q, p.4)

-- ---- how much of a piece is read

rest-few : (room : ℕ) (t : Tables) (h piece : List ℕ) → length (fill room t h piece).rest ≤ length piece
unfolding fill
rest-few room t h [] = omega arith
rest-few room t h (x ∷ m) =
    let text = reply (town_of t) (line_of h) in
    go (ltb room 768) (eqb x 10) (fill (room - length text) (tables_after t (line_of h)) [] m) (fill room t (take 81 (h ++ (x ∷ []))) m)
    (rest-few (room - length text) (tables_after t (line_of h)) [] m)
    (rest-few room t (take 81 (h ++ (x ∷ []))) m)
  where
    go : (a b : Bool) (f g : Filled) → length f.rest ≤ length m → length g.rest ≤ length m → length (cond a (stopped t h (x ∷ m)) (cond b (writing (reply (town_of t) (line_of h)) f) g)).rest ≤ length (x ∷ m)
    go true b f g p q = omega arith
    go false true f g p q = omega arith
    go false false f g p q = omega arith

-- some, where there is any and an answer has room
rest-fewer : (room : ℕ) (t : Tables) (h piece : List ℕ) → 768 ≤ room → 0 < length piece → length (fill room t h piece).rest < length piece
unfolding fill
rest-fewer room t h [] wide more = absurd (omega (arith, more))
rest-fewer room t h (x ∷ m) wide more =
    let text = reply (town_of t) (line_of h) in
    rw (le-ltb room 768 wide)
    (go (eqb x 10) (fill (room - length text) (tables_after t (line_of h)) [] m) (fill room t (take 81 (h ++ (x ∷ []))) m)
    (rest-few (room - length text) (tables_after t (line_of h)) [] m)
    (rest-few room t (take 81 (h ++ (x ∷ []))) m))
  where
    go : (b : Bool) (f g : Filled) → length f.rest ≤ length m → length g.rest ≤ length m → length (cond b (writing (reply (town_of t) (line_of h)) f) g).rest < length (x ∷ m)
    go true f g p q = omega arith
    go false f g p q = omega arith

-- ---- the walk through a piece

pub record Carrying (t u : Tables) (piece b c o o' : List ℕ) (at : ℕ) : Type 0 where
  pub began : Carries t b o
  pub carries : Carries u c o'
  pub wide : length o' ≡ length o
  pub within : at ≤ length piece
  pub tables : u ≡ tables_of t (feed (held_in b) (take at piece)).ended
  pub held : c ≡ holding (feed (held_in b) (take at piece)).held

pub carry-begins : {t : Tables} {b o : List ℕ} (piece : List ℕ) → Carries t b o → Carrying t t piece b b o o 0
unfolding after_lines feed
carry-begins piece c = record { began = c; carries = c; wide = refl; within = omega arith; tables = refl; held = c.held }

-- a call on the rest of the piece
module _ {t u v : Tables} {piece b c c' o o' o'' : List ℕ} {at : ℕ} {said : Result Counts Refusal} {k : Counts} (w : Carrying t u piece b c o o' at) (f : Fills (fill (length o') u (held_in c) (take (length piece - at) (drop at piece))) (both u v) (take (length piece - at) (drop at piece)) c c' o' o'' said) (is : said ≡ Ok k) (wide : length o'' ≡ length o') where
  call : Filled
  call = fill (length o') u (held_in c) (drop at piece)

  fills : Fills call (both u v) (drop at piece) c c' o' o'' said
  unfolding call
  fills = subst (λ (m : List ℕ). Fills (fill (length o') u (held_in c) m) (both u v) m c c' o' o'' said) (rest-is piece at) f

  read : k.read ≡ length (drop at piece) - length call.rest
  read = ap read_in (sym is ∙ (fills.does (clear w.carries) w.carries.ready).0)

  -- some is read where some is left
  pub carry-further : at < length piece → 0 < k.read
  unfolding call
  carry-further more =
      let left : 0 < length (drop at piece) = omega (arith, length-drop at piece) in
      let fewer = rest-fewer (length o') u (held_in c) (drop at piece) w.carries.room left in
      omega (arith, read, fewer)

  -- what it has seen of the rest
  module _ (x : Reads u (held_in c) (drop at piece) call) where
    size : length x.seen + length call.rest ≡ length piece - at
    size = sym (length-append x.seen call.rest) ∙ sym (ap length x.all) ∙ length-drop at piece

    all : k.read ≡ length x.seen
    all = omega (arith, read, size, length-drop at piece)

    further : at + k.read ≤ length piece
    further = omega (arith, all, size, w.within)

    next : v ≡ tables_of u (feed (held_in c) x.seen).ended
    next = (fills.does (clear w.carries) w.carries.ready).1 ∙ x.tables

    kept : c' ≡ holding (feed (held_in c) x.seen).held
    kept = (fills.does (clear w.carries) w.carries.ready).2 ∙ ap holding x.held

    carries : Carries v c' o''
    carries =
        let few : length (feed (held_in c) x.seen).held ≤ 81 = held-few (held_in c) x.seen w.carries.few in
        let back : held_in c' ≡ (feed (held_in c) x.seen).held = ap held_in kept ∙ held_back (feed (held_in c) x.seen).held few in
        record {
          ready = subst Ready (sym next) (ready-lines w.carries.ready (feed (held_in c) x.seen).ended);
          held = kept ∙ ap holding (sym back);
          few = rw back few;
          room = omega (arith, w.carries.room);
        }

    -- what was fed up to here, and what was seen now
    whole : feed (held_in b) (take (at + k.read) piece) ≡ before (feed (held_in b) (take at piece)).ended (feed (held_in c) x.seen)
    whole =
        let was : held_in c ≡ (feed (held_in b) (take at piece)).held = ap held_in w.held ∙ held_back (feed (held_in b) (take at piece)).held (held-few (held_in b) (take at piece) w.began.few) in
        let seen : take (length x.seen) (drop at piece) ≡ x.seen = ap (take (length x.seen)) x.all ∙ take-append_seam x.seen call.rest in
        ap (λ (n : ℕ). feed (held_in b) (take (at + n) piece)) all
        ∙ ap (feed (held_in b)) (take-add at (length x.seen) piece ∙ ap (λ (l : List ℕ). take at piece ++ l) seen)
        ∙ feed-append (held_in b) (take at piece) x.seen
        ∙ ap (λ (h : List ℕ). before (feed (held_in b) (take at piece)).ended (feed h x.seen)) (sym was)

    turned : Carrying t v piece b c' o o'' (at + k.read)
    turned = record {
      began = w.began;
      carries = carries;
      wide = wide ∙ w.wide;
      within = further;
      tables =
          next ∙ ap (λ (y : Tables). tables_of y (feed (held_in c) x.seen).ended) w.tables
          ∙ sym (tables-append t (feed (held_in b) (take at piece)).ended (feed (held_in c) x.seen).ended)
          ∙ ap (λ (y : Fed). tables_of t y.ended) (sym whole);
      held = kept ∙ ap (λ (y : Fed). holding y.held) (sym whole);
    }

  pub carry-turns : Carrying t v piece b c' o o'' (at + k.read)
  unfolding call
  carry-turns = turned (fill-seen (length o') w.carries.ready (held_in c) (drop at piece))

  -- another call can follow, whether or not the answers are written
  pub carry-stops : Carried (both t v) piece b c' o'' false
  carry-stops = record { tables = λ e. absurd (true-not-false false e refl); held = λ e. absurd (true-not-false false e refl); carries = carry-turns.carries }

pub carry-ends : {t u : Tables} {piece b c o o' : List ℕ} {at : ℕ} → Carrying t u piece b c o o' at → Carried (both t u) piece b c o' (eqb at (length piece))
carry-ends {t} {u} {piece} {b} {c} {o} {o'} {at} w = record {
  tables = λ e. w.tables ∙ ap (λ (l : List ℕ). tables_of t (feed (held_in b) l).ended) (all (ended e));
  held = λ e. w.held ∙ ap (λ (l : List ℕ). holding (feed (held_in b) l).held) (all (ended e));
  carries = w.carries;
}
  where
    ended : eqb at (length piece) ≡ true → at ≡ length piece
    ended e = eqb-true _ _ e

    all : at ≡ length piece → take at piece ≡ piece
    all e = take_all at piece (omega arith)

-- gone through whole
pub carry-done : {t u : Tables} {piece b c o o' : List ℕ} {at : ℕ} → Carrying t u piece b c o o' at → length piece ≤ at → Carried (both t u) piece b c o' true
carry-done {piece = piece} {at = at} w h =
    let all : eqb at (length piece) ≡ true = eq-eqb _ _ (omega (arith, w.within)) in
    rw all at (carry-ends w)

-- ---- piece after piece

pub record Running (t : Tables) (p b o : List ℕ) : Type 0 where
  pub carries : Carries t b o
  pub piece : 65536 ≡ length p
  pub wide : 65536 ≡ length o

-- no town is open, and nothing is held
pub run-begins : Running start (replicate 65536 0) (holding []) (replicate 65536 0)
run-begins =
    let e = length-replicate {A = ℕ} 65536 0 in
    record { carries = record { ready = ready-start; held = refl; few = omega arith; room = omega arith }; piece = sym e; wide = sym e }

pub run-turns : {t u : Tables} {p p' part b b' o o' : List ℕ} {written : Bool} → Running t p b o → Carried (both t u) part b b' o' written → length o' ≡ length o → length p' ≡ length p → Running u p' b' o'
run-turns w c wide piece = record { carries = c.carries; piece = w.piece ∙ sym piece; wide = w.wide ∙ sym wide }
