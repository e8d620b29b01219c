-- Laws of a piece answered into a buffer: it goes line by line.
use Rattle.std.specs.Prelude.{ℕ, suc, ◌-◌, ◌<◌, ◌≤◌, ◌≡◌, refl, Bool, true, false, cond, List, [], ◌∷◌, ◌++◌, eqb, ltb, length, take, drop}
use Rattle.std.proofs.Common.{ap, ap₂, sym, ◌∙◌, ⊎_elim, append_assoc, append-nil, arith, drop_of_length-le, take_all, lt-ltb, le-ltb}
use Rattle.order.specs.TestLaws.{true-or-false}
use Rattle.tables.specs.Tables.{Tables, town_of}
use Rattle.line.specs.Fields.{front}
use Rattle.line.specs.Takes.{Takes}
use Rattle.line.specs.LineLaws.{hold-more, hold-few}
use Rattle.season.specs.Output.{line_of, reply}
use Rattle.records.specs.Replies.{tables_after}
use Rattle.pieces.specs.Pieces.{Filled, writing, fill, finish}
use Rattle.pieces.specs.Leaves.{text_if, tables_if}

-- no more is read
abbrev pub stopped : Tables → List ℕ → List ℕ → Filled
stopped t held rest = record { tables = t; held = held; text = []; rest = rest }

pub writing-writing : (a b : List ℕ) (f : Filled) → writing a (writing b f) ≡ writing (a ++ b) f
writing-writing a b f = ap (λ (text : List ℕ). record { tables = f.tables; held = f.held; text = text; rest = f.rest }) (sym (append_assoc a b f.text))

-- a line is answered, and then the rest of the piece
abbrev answered : ℕ → Tables → List ℕ → List ℕ → Filled
answered room t line rest = writing (reply (town_of t) (line_of line)) (fill (room - length (reply (town_of t) (line_of line))) (tables_after t (line_of line)) [] rest)

pub fill_end : (room : ℕ) (t : Tables) (h : List ℕ) → fill room t h [] ≡ stopped t h []
unfolding fill
fill_end room t h = refl

pub fill-full : (room : ℕ) (t : Tables) (h m : List ℕ) → room < 768 → fill room t h m ≡ stopped t h m
unfolding fill
fill-full room t h [] k = refl
fill-full room t h (x ∷ m) k = rw (lt-ltb room 768 k)

-- up to a feed
fill-line : (room : ℕ) (t : Tables) (h m : List ℕ) → 768 ≤ room → length h ≤ 81 → length (front 10 m) < length m → fill room t h m ≡ answered room t (take 81 (h ++ front 10 m)) (drop (suc (length (front 10 m))) m)
unfolding fill front
fill-line room t h [] k s g = absurd (omega arith)
fill-line room t h (x ∷ m) k s g = rw (le-ltb room 768 k) (go (eqb x 10) g (fill-line room t (take 81 (h ++ (x ∷ []))) m k (hold-few (h ++ (x ∷ [])))))
  where
    go : (b : Bool) → length (cond b [] (x ∷ front 10 m)) < suc (length m) → (length (front 10 m) < length m → fill room t (take 81 (h ++ (x ∷ []))) m ≡ answered room t (take 81 ((take 81 (h ++ (x ∷ []))) ++ front 10 m)) (drop (suc (length (front 10 m))) m))
        → cond b (answered room t h m) (fill room t (take 81 (h ++ (x ∷ []))) m) ≡ answered room t (take 81 (h ++ cond b [] (x ∷ front 10 m))) (drop (length (cond b [] (x ∷ front 10 m))) m)
    go true a f = ap (λ (l : List ℕ). answered room t l m) (sym (ap (take 81) (append-nil h) ∙ take_all 81 h s))
    go false a f = f (omega arith) ∙ ap (λ (l : List ℕ). answered room t l (drop (suc (length (front 10 m))) m)) (hold-more h x (front 10 m))

-- where there is no feed
fill-part : (room : ℕ) (t : Tables) (h m : List ℕ) → 768 ≤ room → length h ≤ 81 → front 10 m ≡ m → fill room t h m ≡ stopped t (take 81 (h ++ m)) []
unfolding fill front
fill-part room t h [] k s g = ap (λ (l : List ℕ). stopped t l []) (sym (ap (take 81) (append-nil h) ∙ take_all 81 h s))
fill-part room t h (x ∷ m) k s g = rw (le-ltb room 768 k) (go (eqb x 10) g (fill-part room t (take 81 (h ++ (x ∷ []))) m k (hold-few (h ++ (x ∷ [])))))
  where
    go : (b : Bool) → cond b [] (x ∷ front 10 m) ≡ x ∷ m → (front 10 m ≡ m → fill room t (take 81 (h ++ (x ∷ []))) m ≡ stopped t (take 81 ((take 81 (h ++ (x ∷ []))) ++ m)) [])
        → cond b (answered room t h m) (fill room t (take 81 (h ++ (x ∷ []))) m) ≡ stopped t (take 81 (h ++ (x ∷ m))) []
    go true e f = let z = ap length e in absurd (omega arith)
    go false e f = let d : front 10 m ≡ m = cc in f d ∙ ap (λ (l : List ℕ). stopped t l []) (hold-more h x m)

-- a line taken out of a piece, with room for its answer
module _ {p : List ℕ} {at : ℕ} {b b' : List ℕ} {n next bytes : ℕ} {ended : Bool} {r : ℕ} (k : Takes p at b b' n next bytes ended r) (room : ℕ) (t : Tables) (wide : 768 ≤ room) (small : length (take n b) ≤ 81) where
  pub fill-takes : fill room t (take n b) (drop at p) ≡ writing (text_if ended t (line_of (take bytes b'))) (fill (room - length (text_if ended t (line_of (take bytes b')))) (tables_if ended t (line_of (take bytes b'))) (take r b') (drop next p))
  fill-takes = ⊎_elim
      (λ (e : ended ≡ true).
      let f = k.ended e in
      rw (e, f.2) (fill-line room t (take n b) (drop at p) wide small f.0 ∙ ap₂ (λ (l m : List ℕ). answered room t l m) (sym k.line) (sym f.1)))
      (λ (e : ended ≡ false).
      let f = k.part e in
      let g : length p ≤ next = omega (arith, f.1) in
      let d : drop next p ≡ [] = drop_of_length-le p g in
      rw (e, f.2, d) (fill-part room t (take n b) (drop at p) wide small f.0 ∙ ap (λ (l : List ℕ). stopped t l []) (ap (λ (l : List ℕ). take 81 (take n b ++ l)) (sym f.0) ∙ sym k.line) ∙ sym (fill_end (room - 0) t (take bytes b'))))
      (true-or-false ended)

-- what is held, at the end
pub finish-is : (t : Tables) (l : List ℕ) (n : ℕ) → length l ≡ n → finish t l ≡ record { tables = tables_if (ltb 0 n) t (line_of l); held = []; text = text_if (ltb 0 n) t (line_of l); rest = [] }
finish-is t [] n e = rw (le-ltb 0 n (omega arith))
finish-is t (x ∷ l) n e = rw (lt-ltb 0 n (omega arith))

-- ---- a caller's loop ends

rest_le : (room : ℕ) (t : Tables) (h m : List ℕ) → length (fill room t h m).rest ≤ length m
unfolding fill
rest_le room t h [] = omega arith
rest_le room t h (x ∷ m) =
    go (ltb room 768) (eqb x 10) (fill (room - length (reply (town_of t) (line_of h))) (tables_after t (line_of h)) [] m) (fill room t (take 81 (h ++ (x ∷ []))) m)
    (rest_le (room - length (reply (town_of t) (line_of h))) (tables_after t (line_of h)) [] m)
    (rest_le room t (take 81 (h ++ (x ∷ []))) m)
  where
    go : (a b : Bool) (f g : Filled) → length f.rest ≤ length m → length g.rest ≤ length m → length (cond a (stopped t h (x ∷ m)) (cond b (writing (reply (town_of t) (line_of h)) f) g)).rest ≤ suc (length m)
    go true b f g p q = omega arith
    go false true f g p q = omega arith
    go false false f g p q = omega arith

-- where there is room for an answer, a byte at least is read
pub fill-reads : (room : ℕ) (t : Tables) (held piece : List ℕ) → 768 ≤ room → 0 < length piece → length (fill room t held piece).rest < length piece
unfolding fill
fill-reads room t h [] k s = absurd (omega arith)
fill-reads room t h (x ∷ m) k s =
    rw (le-ltb room 768 k)
    (go (eqb x 10) (fill (room - length (reply (town_of t) (line_of h))) (tables_after t (line_of h)) [] m) (fill room t (take 81 (h ++ (x ∷ []))) m)
    (rest_le (room - length (reply (town_of t) (line_of h))) (tables_after t (line_of h)) [] m)
    (rest_le room t (take 81 (h ++ (x ∷ []))) m))
  where
    go : (b : Bool) (f g : Filled) → length f.rest ≤ length m → length g.rest ≤ length m → length (cond b (writing (reply (town_of t) (line_of h)) f) g).rest < suc (length m)
    go true f g p q = omega arith
    go false f g p q = omega arith
