-- Laws of the lines of an input: pieces of any size give the same lines, and a line cut to 81 bytes means the same.
use Rattle.std.specs.Prelude.{ℕ, zero, suc, ◌+◌, ◌-◌, ◌<◌, ◌≤◌, ◌≡◌, refl, Bool, true, false, cond, List, [], ◌∷◌, ◌++◌, map, eqb, length, get_or, take, drop, set}
use Rattle.std.proofs.Common.{ap, ap₂, sym, ◌∙◌, ⊎_elim, append_assoc, append-nil, arith, add-one, length-set, length-drop, take-append-drop, take_all, take_at, take-suc, take-suc-set, length-take-le, drop-drop}
use Rattle.std.proofs.Math.Seq.{append_snoc}
use Rattle.order.specs.TestLaws.{lt-or-le, true-or-false, true-not-false}
use Rattle.line.specs.declared.records.Record.{Record}
use Rattle.line.specs.Split.{split, grow}
use Rattle.line.specs.Grammar.{meaning}
use Rattle.line.specs.Fields.{front}
use Rattle.line.specs.Leaves.{Ends, Holds}
use Rattle.line.specs.SplitLaws.{front-take}
use Rattle.line.specs.RecordLaws.{meaning-long}
use Rattle.line.specs.Lines.{last, trimmed, lines, Fed, before, feed, ending}
use Rattle.line.specs.Takes.{Room, Takes}

-- ---- the pieces do not matter

pub feed-append : (h a b : List ℕ) → feed h (a ++ b) ≡ before (feed h a).ended (feed (feed h a).held b)
unfolding feed
feed-append h [] b = refl
feed-append h (x ∷ a) b = go (eqb x 10) (feed [] a) (feed (take 81 (h ++ (x ∷ []))) a) (feed-append [] a b) (feed-append (take 81 (h ++ (x ∷ []))) a b)
  where
    go : (t : Bool) (f g : Fed) {f' g' : Fed} → f' ≡ before f.ended (feed f.held b) → g' ≡ before g.ended (feed g.held b)
        → cond t (before (h ∷ []) f') g' ≡ before (cond t (before (h ∷ []) f) g).ended (feed (cond t (before (h ∷ []) f) g).held b)
    go true f g p q = ap (before (h ∷ [])) p
    go false f g p q = q

-- ---- what is held is the line, cut to 81 bytes

take-take-append : (n : ℕ) (a b : List ℕ) → take n (take n a ++ b) ≡ take n (a ++ b)
take-take-append zero a b = refl
take-take-append (suc n) [] b = refl
take-take-append (suc n) (x ∷ a) b = ap (λ (l : List ℕ). x ∷ l) (take-take-append n a b)

-- a byte more
pub hold-more : (h : List ℕ) (x : ℕ) (l : List ℕ) → take 81 (take 81 (h ++ (x ∷ [])) ++ l) ≡ take 81 (h ++ (x ∷ l))
hold-more h x l = take-take-append 81 (h ++ (x ∷ [])) l ∙ ap (take 81) (append_snoc h x l)

pub hold-few : (l : List ℕ) → length (take 81 l) ≤ 81
hold-few l = ⊎_elim
    (λ (h : length l < 81). rw (take_all 81 l (omega arith)) (omega arith))
    (λ (h : 81 ≤ length l). omega (arith, length-take-le 81 l h))
    (lt-or-le (length l) 81)

-- g before the first part
abbrev prepend : List ℕ → List (List ℕ) → List (List ℕ)
prepend g [] = g ∷ []
prepend g (p ∷ ps) = (g ++ p) ∷ ps

prepend-grow : (g : List ℕ) (x : ℕ) (ps : List (List ℕ)) → prepend (g ++ (x ∷ [])) ps ≡ prepend g (grow x ps)
prepend-grow g x [] = refl
prepend-grow g x (p ∷ ps) = ap (λ (l : List ℕ). l ∷ ps) (append_snoc g x p)

-- a split list has a first part
prepend-none : (l : List ℕ) → prepend [] (split 10 l) ≡ split 10 l
unfolding split
prepend-none [] = refl
prepend-none (x ∷ l) = go (eqb x 10) (split 10 l)
  where
    go : (t : Bool) (s : List (List ℕ)) → prepend [] (cond t ([] ∷ s) (grow x s)) ≡ cond t ([] ∷ s) (grow x s)
    go true s = refl
    go false [] = refl
    go false (p ∷ ps) = refl

pub trimmed-more : (p l : List ℕ) → trimmed (p ∷ split 10 l) ≡ p ∷ trimmed (split 10 l)
unfolding split
trimmed-more p [] = refl
trimmed-more p (x ∷ l) = go (eqb x 10) (split 10 l)
  where
    go : (t : Bool) (s : List (List ℕ)) → trimmed (p ∷ cond t ([] ∷ s) (grow x s)) ≡ p ∷ trimmed (cond t ([] ∷ s) (grow x s))
    go true s = refl
    go false [] = refl
    go false (q ∷ ps) = refl

last-cut : (g : List ℕ) → last (take 81 g) ≡ map (take 81) (last g)
last-cut [] = refl
last-cut (x ∷ g) = refl

-- a line's first bytes g stood before l
feed-lines : (g l : List ℕ) → ending (feed (take 81 g) l) ≡ map (take 81) (trimmed (prepend g (split 10 l)))
unfolding feed split
feed-lines g [] = last-cut g ∙ ap (λ (t : List ℕ). map (take 81) (last t)) (sym (append-nil g))
feed-lines g (x ∷ l) = ⊎_elim
    (λ (e : eqb x 10 ≡ true).
    rw e
    (ap (λ (t : List (List ℕ)). take 81 g ∷ t) (feed-lines [] l ∙ ap (λ (t : List (List ℕ)). map (take 81) (trimmed t)) (prepend-none l))
    ∙ sym (ap (λ (k : List ℕ). map (take 81) (trimmed (k ∷ split 10 l))) (append-nil g) ∙ ap (map (take 81)) (trimmed-more g l))))
    (λ (e : eqb x 10 ≡ false).
    rw e (ap (λ (t : List ℕ). ending (feed t l)) (take-take-append 81 g (x ∷ [])) ∙ feed-lines (g ++ (x ∷ [])) l ∙ ap (λ (t : List (List ℕ)). map (take 81) (trimmed t)) (prepend-grow g x (split 10 l))))
    (true-or-false (eqb x 10))

-- the lines that come out are those of the input, each cut to 81 bytes
pub lines_cut : (input : List ℕ) → ending (feed [] input) ≡ map (take 81) (lines input)
lines_cut input = feed-lines [] input ∙ ap (λ (t : List (List ℕ)). map (take 81) (trimmed t)) (prepend-none input)

pub meaning-cut : (l : List ℕ) → meaning (take 81 l) ≡ meaning l
meaning-cut l = ⊎_elim
    (λ (h : length l < 81). ap meaning (take_all 81 l (omega arith)))
    (λ (h : 81 ≤ length l). sym (meaning-long (take 81 l) (omega (arith, length-take-le 81 l h))) ∙ meaning-long l (omega arith))
    (lt-or-le (length l) 81)

-- and so mean the same
pub lines-mean : (input : List ℕ) → map meaning (ending (feed [] input)) ≡ map meaning (lines input)
lines-mean input = ap (map meaning) (lines_cut input) ∙ same (lines input)
  where
    same : (ls : List (List ℕ)) → map meaning (map (take 81) ls) ≡ map meaning ls
    same [] = refl
    same (l ∷ ls) = ap₂ (λ (r : Record) (rs : List Record). r ∷ rs) (meaning-cut l) (same ls)

-- ---- bytes held in a buffer

-- i bytes of the part are held
pub record Holding (part b b' : List ℕ) (n m i : ℕ) : Type 0 where
  pub is : take m b' ≡ take n b ++ take i part
  pub sum : m ≡ n + i
  pub within : i ≤ length part
  pub most : m ≤ 81
  pub room : length b' ≡ length b

pub hold-begins : (part b : List ℕ) (n : ℕ) → Room b n → Holding part b b n n 0
hold-begins part b n r = record { is = sym (append-nil (take n b)); sum = omega arith; within = omega arith; most = r.few; room = refl }

module _ {part b b' : List ℕ} {n m i : ℕ} (r : Room b n) (s : Holding part b b' n m i) where
  pub hold-turns : i < length part → (m ≡ 81 → ⊥) → Holding part b (set b' m (get_or part i 0)) n (m + 1) (i + 1)
  hold-turns h f =
      record {
        is = rw (add-one m, add-one i, take-suc-set b' m (get_or part i 0) (omega (arith, s.most, r.long, s.room)), take-suc part i 0 h, s.is) (append_assoc (take n b) (take i part) (get_or part i 0 ∷ []));
        sum = omega (arith, s.sum);
        within = omega arith;
        most = omega (arith, s.most);
        room = length-set b' m (get_or part i 0) ∙ s.room;
      }

  size : length (take n b ++ take i part) ≡ m
  size = sym (ap length s.is) ∙ length-take-le m b' (omega (arith, s.most, r.long, s.room))

  pub hold-ends : length part ≤ i → Holds part b b' n m
  hold-ends h =
      let e : take i part ≡ part = take_all i part h in
      let w : take n b ++ part ≡ take n b ++ take i part = ap (λ (l : List ℕ). take n b ++ l) (sym e) in
      record { is = s.is ∙ sym (ap (take 81) w ∙ take_all 81 (take n b ++ take i part) (omega (arith, size, s.most))); most = s.most; room = s.room }

  pub hold-full : m ≡ 81 → Holds part b b' n 81
  hold-full e =
      let w : take n b ++ part ≡ (take n b ++ take i part) ++ drop i part = ap (λ (l : List ℕ). take n b ++ l) (sym (take-append-drop i part)) ∙ sym (append_assoc (take n b) (take i part) (drop i part)) in
      record { is = ap (λ (x : ℕ). take x b') (sym e) ∙ s.is ∙ sym (ap (take 81) w ∙ take_at (take n b ++ take i part) (drop i part) 81 (size ∙ e)); most = omega arith; room = s.room }

-- ---- a line taken from a piece

module _ {p : List ℕ} {at : ℕ} {b b' : List ℕ} {n e m : ℕ} (k : Room b n) (f : Ends 10 p at e) (h : Holds (take (e - at) (drop at p)) b b' n m) where
  found : length (front 10 (drop at p)) ≡ e - at
  found = omega (arith, f.is)

  front-is : front 10 (drop at p) ≡ take (e - at) (drop at p)
  front-is = front-take 10 (drop at p) ∙ ap (λ (x : ℕ). take x (drop at p)) found

  line-is : take m b' ≡ take 81 (take n b ++ front 10 (drop at p))
  line-is = h.is ∙ ap (λ (x : List ℕ). take 81 (take n b ++ x)) (sym front-is)

  pub takes-line : e < length p → Takes p at b b' n (e + 1) m true 0
  takes-line g =
      let d : at + suc (length (front 10 (drop at p))) ≡ e + 1 = omega (arith, f.is) in
      record {
        within = omega arith;
        further = λ (_ : at < length p). omega (arith, f.from);
        most = h.most;
        few = omega arith;
        room = h.room;
        line = line-is;
        ended = λ (_ : true ≡ true). (omega (arith, found, f.from, length-drop at p), sym (drop-drop (suc (length (front 10 (drop at p)))) at p ∙ ap (λ (x : ℕ). drop x p) d), refl);
        part = λ (w : true ≡ false). absurd (true-not-false true refl w);
      }

  pub takes_part : length p ≤ e → Takes p at b b' n e m false m
  takes_part g = record {
    within = f.within;
    further = λ (x : at < length p). omega arith;
    most = h.most;
    few = omega arith;
    room = h.room;
    line = line-is;
    ended = λ (x : false ≡ true). absurd (true-not-false false x refl);
    part = λ (_ : false ≡ false). (front-is ∙ take_all (e - at) (drop at p) (omega (arith, length-drop at p)), omega (arith, f.within), refl);
  }
