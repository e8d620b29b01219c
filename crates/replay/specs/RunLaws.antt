-- Laws of calls one after another: what was read is lines and a part of one, and the lines are answered one after another.
use Rattle.std.specs.Prelude.{ℕ, zero, suc, ◌+◌, ◌*◌, ◌-◌, ◌≤◌, ◌≡◌, refl, Bool, true, false, cond, List, [], ◌∷◌, ◌++◌, map, eqb, ltb, length, get_or, take, replicate}
use Rattle.std.specs.declared.result.Result.TheVariants.{Ok, Err}
use Rattle.std.specs.declared.result.Result.{Result}
use Rattle.std.proofs.Common.{ap, ap₂, sym, subst, ◌∙◌, append_assoc, append-nil, arith, length-append, take_at}
use Rattle.std.proofs.Math.Path.{fun_ext}
use Rattle.std.proofs.Math.Option.{Option, none, some}
use Rattle.std.specs.Float.{binary32}
use Rattle.std.specs.Float.Ieee.{of_bits}
use Rattle.std.proofs.lemmas.List.{length-replicate, get_or_at}
use Rattle.order.specs.TestLaws.{true-not-false}
use Rattle.order.specs.BufferLaws.{take-over}
use Rattle.squares.specs.declared.shape.Rect.{Rect}
use Rattle.squares.specs.Shape.{allowed}
use Rattle.squares.specs.declared.refusal.Refusal.{Refusal}
use Rattle.squares.specs.Refusals.{first}
use Rattle.squares.specs.RefusalLaws.{by-refusal}
use Rattle.model.specs.Model.{Car, Town, nowhere}
use Rattle.tables.specs.Tables.{Tables, tally, stands, placed, zone_in, car_in, rect_of, spot_of, shape_of, town_of}
use Rattle.tables.specs.Lent.{both}
use Rattle.line.specs.Grammar.{meaning}
use Rattle.line.specs.Lines.{last, lines, Fed, before, feed, ending}
use Rattle.line.specs.LineLaws.{feed-append, lines-mean, hold-few}
use Rattle.season.specs.Output.{Line, call_of, line_of, reply, answers}
use Rattle.room.specs.Room.{Ready}
use Rattle.records.specs.Replies.{tables_after}
use Rattle.pieces.specs.declared.pieces.Filled.{Filled as Counts}
use Rattle.pieces.specs.Pieces.{held_in, holding, Filled, writing, fill, finish, checks, counts, Fills}
use Rattle.replay.specs.Run.{start, after_lines, Ran}
use Rattle.records.specs.AfterLaws.{ready-after, town-after}
use Rattle.pieces.specs.FillLaws.{stopped}

-- ---- lines one after another

-- the text of their answers, and the tables then
abbrev pub replies_of : Tables → List (List ℕ) → List ℕ
replies_of t ls = answers (town_of t) (map line_of ls)

abbrev pub tables_of : Tables → List (List ℕ) → Tables
tables_of t ls = after_lines t (map line_of ls)

pub ready-lines : {t : Tables} → Ready t → (ls : List (List ℕ)) → Ready (tables_of t ls)
unfolding after_lines
ready-lines r [] = r
ready-lines {t = t} r (l ∷ ls) = ready-lines {t = tables_after t (line_of l)} (ready-after r (meaning l)) ls

pub tables-append : (t : Tables) (ls ms : List (List ℕ)) → tables_of t (ls ++ ms) ≡ tables_of (tables_of t ls) ms
unfolding after_lines
tables-append t [] ms = refl
tables-append t (l ∷ ls) ms = tables-append (tables_after t (line_of l)) ls ms

text-more : {t : Tables} → Ready t → (l : List ℕ) (ls : List (List ℕ)) → replies_of t (l ∷ ls) ≡ reply (town_of t) (line_of l) ++ replies_of (tables_after t (line_of l)) ls
unfolding answers
text-more {t} r l ls = ap (λ (m : Town). reply (town_of t) (line_of l) ++ answers m (map line_of ls)) (sym (town-after r (meaning l)))

text-append : {t : Tables} → Ready t → (ls ms : List (List ℕ)) → replies_of t (ls ++ ms) ≡ replies_of t ls ++ replies_of (tables_of t ls) ms
unfolding after_lines answers
text-append r [] ms = refl
text-append {t = t} r (l ∷ ls) ms =
    text-more r l (ls ++ ms) ∙ ap (λ (x : List ℕ). reply (town_of t) (line_of l) ++ x) (text-append {t = tables_after t (line_of l)} (ready-after r (meaning l)) ls ms)
    ∙ sym (append_assoc (reply (town_of t) (line_of l)) (replies_of (tables_after t (line_of l)) ls) (replies_of (tables_of (tables_after t (line_of l)) ls) ms))
    ∙ ap (λ (x : List ℕ). x ++ replies_of (tables_of (tables_after t (line_of l)) ls) ms) (sym (text-more r l ls))

-- ---- what was read of a piece

pub record Reads (t : Tables) (h piece : List ℕ) (f : Filled) : Type 0 where
  pub seen : List ℕ
  pub all : piece ≡ seen ++ f.rest
  pub text : f.text ≡ replies_of t (feed h seen).ended
  pub tables : f.tables ≡ tables_of t (feed h seen).ended
  pub held : f.held ≡ (feed h seen).held

reads_none : (t : Tables) (h piece : List ℕ) → Reads t h piece (stopped t h piece)
unfolding feed answers after_lines
reads_none t h piece = record { seen = []; all = refl; text = refl; tables = refl; held = refl }

reads-feed : {t : Tables} → Ready t → (h : List ℕ) (x : ℕ) (m : List ℕ) (f : Filled) → eqb x 10 ≡ true → Reads (tables_after t (line_of h)) [] m f → Reads t h (x ∷ m) (writing (reply (town_of t) (line_of h)) f)
unfolding feed after_lines
reads-feed {t} ready h x m f e r = record {
  seen = x ∷ r.seen;
  all = ap (λ (l : List ℕ). x ∷ l) r.all;
  text = rw e (ap (λ (l : List ℕ). reply (town_of t) (line_of h) ++ l) r.text ∙ sym (text-more ready h (feed [] r.seen).ended));
  tables = rw e r.tables;
  held = rw e r.held;
}

reads_more : {t : Tables} → (h : List ℕ) (x : ℕ) (m : List ℕ) (f : Filled) → eqb x 10 ≡ false → Reads t (take 81 (h ++ (x ∷ []))) m f → Reads t h (x ∷ m) f
unfolding feed
reads_more h x m f e r = record { seen = x ∷ r.seen; all = ap (λ (l : List ℕ). x ∷ l) r.all; text = rw e r.text; tables = rw e r.tables; held = rw e r.held }

pub fill-seen : (room : ℕ) {t : Tables} → Ready t → (h piece : List ℕ) → Reads t h piece (fill room t h piece)
unfolding fill
fill-seen room {t} ready h [] = reads_none t h []
fill-seen room {t} ready h (x ∷ m) =
    go (ltb room 768) (eqb x 10) refl (fill (room - length (reply (town_of t) (line_of h))) (tables_after t (line_of h)) [] m) (fill room t (take 81 (h ++ (x ∷ []))) m)
    (fill-seen (room - length (reply (town_of t) (line_of h))) (ready-after ready (meaning h)) [] m)
    (fill-seen room ready (take 81 (h ++ (x ∷ []))) m)
  where
    go : (a b : Bool) → eqb x 10 ≡ b → (f g : Filled) → Reads (tables_after t (line_of h)) [] m f → Reads t (take 81 (h ++ (x ∷ []))) m g → Reads t h (x ∷ m) (cond a (stopped t h (x ∷ m)) (cond b (writing (reply (town_of t) (line_of h)) f) g))
    go true b e f g p q = reads_none t h (x ∷ m)
    go false true e f g p q = reads-feed ready h x m f e p
    go false false e f g p q = reads_more h x m g e q

-- ---- the bytes held

pub held-few : (h l : List ℕ) → length h ≤ 81 → length (feed h l).held ≤ 81
unfolding feed
held-few h [] k = k
held-few h (x ∷ l) k = go (eqb x 10) (feed [] l) (feed (take 81 (h ++ (x ∷ []))) l) (held-few [] l (omega arith)) (held-few (take 81 (h ++ (x ∷ []))) l (hold-few (h ++ (x ∷ []))))
  where
    go : (b : Bool) (f g : Fed) → length f.held ≤ 81 → length g.held ≤ 81 → length (cond b (before (h ∷ []) f) g).held ≤ 81
    go true f g p q = p
    go false f g p q = q

-- what is held is found again
pub held_back : (h : List ℕ) → length h ≤ 81 → held_in (holding h) ≡ h
held_back h k =
    let zeros = replicate {A = ℕ} (81 - length h) 0 in
    let size : length (h ++ zeros) ≡ 81 = length-append h zeros ∙ omega (arith, length-replicate {A = ℕ} (81 - length h) 0) in
    let e : holding h ≡ (h ++ zeros) ++ (length h ∷ []) = sym (append_assoc h zeros (length h ∷ [])) in
    let many : get_or (holding h) 81 0 ≡ length h = ap (λ (l : List ℕ). get_or l 81 0) e ∙ get_or_at (h ++ zeros) (length h) [] 0 81 size in
    ap (λ (n : ℕ). take n (holding h)) many ∙ take_at h (zeros ++ (length h ∷ [])) (length h) refl

-- ---- the start

zeros-at : (n i : ℕ) → get_or (replicate {A = ℕ} n 0) i 0 ≡ 0
zeros-at zero i = refl
zeros-at (suc n) zero = refl
zeros-at (suc n) (suc i) = zeros-at n i

pub town-start : town_of start ≡ nowhere
unfolding zone_in car_in stands placed
town-start = ap₂ (λ (zone : ℕ → Option Rect) (car : ℕ → Option Car). record { opening = nowhere.opening; zone = zone; car = car }) (fun_ext zone-none) (fun_ext car-none)
  where
    zone-none : (z : ℕ) → zone_in start z ≡ none
    zone-none z = ap (λ (w : ℕ). cond (ltb 0 w) (some (rect_of start z)) none) (zeros-at 64 (4 * z + 2))

    car-none : (c : ℕ) → car_in start c ≡ none
    car-none c = ap (λ (w : ℕ). cond (ltb 0 w) (some (record { position = spot_of start c; team = w - 1 })) none) (zeros-at 64 c)

closed : allowed (shape_of start) ≡ false
closed = refl

pub ready-start : Ready start
ready-start = record {
  room = record {
    head = length-replicate {A = ℕ} 6 0;
    zones = length-replicate {A = ℕ} 64 0;
    cars = length-replicate {A = ℕ} 64 0;
    spots = length-replicate 128 (of_bits binary32 0);
    starts = length-replicate {A = ℕ} 5462 0;
    entries = length-replicate {A = ℕ} 2048 0;
    rosters = length-replicate {A = ℕ} 1024 0;
    tallies = length-replicate {A = ℕ} (16 * tally) 0;
  };
  sound = λ e. absurd (true-not-false _ e closed);
}

-- ---- calls one after another

-- how much was read, and written
abbrev pub read_in : Result Counts Refusal → ℕ
read_in (Ok said) = said.read
read_in (Err r) = 0

abbrev pub wrote_in : Result Counts Refusal → ℕ
wrote_in (Ok said) = said.wrote
wrote_in (Err r) = 0

-- what was read is answered, up to the bytes that are held
pub record So (input text : List ℕ) (t : Tables) (b : List ℕ) : Type 0 where
  pub said : text ≡ replies_of start (feed [] input).ended
  pub tables : t ≡ tables_of start (feed [] input).ended
  pub held : b ≡ holding (feed [] input).held

module _ {input text : List ℕ} {t : Tables} {b : List ℕ} (so : So input text t b) where
  pub so-ready : Ready t
  so-ready = subst Ready (sym so.tables) (ready-lines ready-start (feed [] input).ended)

  pub so-held : held_in b ≡ (feed [] input).held
  so-held = ap held_in so.held ∙ held_back (feed [] input).held (held-few [] input (omega arith))

  -- lines more
  pub so-text : (ls : List (List ℕ)) → text ++ replies_of t ls ≡ replies_of start ((feed [] input).ended ++ ls)
  so-text ls = ap₂ (λ (x : List ℕ) (u : Tables). x ++ replies_of u ls) so.said so.tables ∙ sym (text-append ready-start (feed [] input).ended ls)

  pub so-tables : (ls : List (List ℕ)) → tables_of t ls ≡ tables_of start ((feed [] input).ended ++ ls)
  so-tables ls = ap (λ (u : Tables). tables_of u ls) so.tables ∙ sym (tables-append start (feed [] input).ended ls)

  -- a call that was not refused
  module _ {f : Filled} {piece b' o o' : List ℕ} {t' : Tables} {read wrote : ℕ} (fills : Fills f (both t t') piece b b' o o' (Ok (counts read wrote))) where
    passed : first (checks t b o) ≡ 0
    passed = by-refusal (first (checks t b o)) (λ (e : first (checks t b o) ≡ 0). e) (λ (g : first (checks t b o) ≡ 0 → ⊥). absurd (g (sym (fills.refuses g).0)))

    pub call-read : read ≡ length piece - length f.rest
    call-read = ap read_in (fills.does passed so-ready).0

    pub call-text : take wrote o' ≡ f.text
    call-text =
        let d = fills.does passed so-ready in
        ap₂ take (ap wrote_in d.0) d.3 ∙ take-over f.text o

    pub call-tables : t' ≡ f.tables
    call-tables = (fills.does passed so-ready).1

    pub call-held : b' ≡ holding f.held
    call-held = (fills.does passed so-ready).2

  -- a piece
  pub so-goes : {piece b' o o' : List ℕ} {t' : Tables} {read wrote : ℕ} → Fills (fill (length o) t (held_in b) piece) (both t t') piece b b' o o' (Ok (counts read wrote)) → So (input ++ take read piece) (text ++ take wrote o') t' b'
  so-goes {piece} {b'} {o} {o'} {t'} {read} {wrote} fills =
      let f = fill (length o) t (held_in b) piece in
      let r = fill-seen (length o) so-ready (held_in b) piece in
      let n : read ≡ length r.seen = omega (arith, call-read fills, ap length r.all, length-append r.seen f.rest) in
      let seen : take read piece ≡ r.seen = ap₂ take n r.all ∙ take_at r.seen f.rest (length r.seen) refl in
      let g : feed [] (input ++ r.seen) ≡ before (feed [] input).ended (feed (held_in b) r.seen) = feed-append [] input r.seen ∙ ap (λ (h : List ℕ). before (feed [] input).ended (feed h r.seen)) (sym so-held) in
      subst (λ (l : List ℕ). So (input ++ l) (text ++ take wrote o') t' b') (sym seen)
      (record {
        said = ap (λ (l : List ℕ). text ++ l) (call-text fills ∙ r.text) ∙ so-text (feed (held_in b) r.seen).ended ∙ ap (λ (x : Fed). replies_of start x.ended) (sym g);
        tables = call-tables fills ∙ r.tables ∙ so-tables (feed (held_in b) r.seen).ended ∙ ap (λ (x : Fed). tables_of start x.ended) (sym g);
        held = call-held fills ∙ ap holding r.held ∙ ap (λ (x : Fed). holding x.held) (sym g);
      })

so-begun : So [] [] start (holding [])
unfolding feed answers after_lines
so-begun = record { said = refl; tables = refl; held = refl }

pub ran-so : {input text b : List ℕ} {t : Tables} → Ran input text t b → So input text t b
ran-so Ran.begun = so-begun
ran-so (Ran.goes r fills) = so-goes (ran-so r) fills

-- ---- the input's end

finish-text : (t : Tables) (h : List ℕ) → (finish t h).text ≡ replies_of t (last h)
unfolding answers
finish-text t [] = refl
finish-text t (x ∷ h) = sym (append-nil (reply (town_of t) (line_of (x ∷ h))))

finish-tables : (t : Tables) (h : List ℕ) → (finish t h).tables ≡ tables_of t (last h)
unfolding after_lines
finish-tables t [] = refl
finish-tables t (x ∷ h) = refl

-- lines that are cut to 81 bytes ask the same
lines-ask : (input : List ℕ) → map line_of (ending (feed [] input)) ≡ map line_of (lines input)
lines-ask input = split-map (ending (feed [] input)) ∙ ap (map call_of) (lines-mean input) ∙ sym (split-map (lines input))
  where
    split-map : (ls : List (List ℕ)) → map line_of ls ≡ map call_of (map meaning ls)
    split-map [] = refl
    split-map (l ∷ ls) = ap (λ (rest : List Line). line_of l ∷ rest) (split-map ls)

module _ {input text : List ℕ} {t : Tables} {b : List ℕ} (so : So input text t b) {b' o o' : List ℕ} {t' : Tables} {read wrote : ℕ} (fills : Fills (finish t (held_in b)) (both t t') [] b b' o o' (Ok (counts read wrote))) where
  ended : (feed [] input).ended ++ last (held_in b) ≡ ending (feed [] input)
  ended = ap (λ (h : List ℕ). (feed [] input).ended ++ last h) (so-held so)

  pub end-text : text ++ take wrote o' ≡ answers nowhere (map line_of (lines input))
  end-text = ap (λ (l : List ℕ). text ++ l) (call-text so fills ∙ finish-text t (held_in b)) ∙ so-text so (last (held_in b)) ∙ ap (replies_of start) ended ∙ ap₂ answers town-start (lines-ask input)

  pub end-tables : t' ≡ after_lines start (map line_of (lines input))
  end-tables = call-tables so fills ∙ finish-tables t (held_in b) ∙ so-tables so (last (held_in b)) ∙ ap (tables_of start) ended ∙ ap (after_lines start) (lines-ask input)
