-- Laws of the keys dropped and taken up: two lists of keys at the front of the starts, parted or written apart.
use Rattle.std.specs.Prelude.{ℕ, ◌+◌, ◌-◌, ◌≤◌, ◌≡◌, List, ◌++◌, length, get_or, take, drop}
use Rattle.std.proofs.Common.{ap, sym, ◌∙◌, append-nil, arith, length-append, length-drop, drop_of_length-le, length-take-le, take_all, get_or-append-add, get_or-drop, take_at, drop_at}
use borrow.Rule.Slice.PartMut.{mid_of, put_mid}
use Rattle.squares.specs.declared.shape.Shape.{Shape}
use Rattle.squares.specs.declared.shape.Rect.{Rect}
use Rattle.squares.specs.ShapeLaws.{squares-few}
use Rattle.cuts.specs.Cut.{cut}
use Rattle.entries.specs.Keys.{zone_keys, Keyed}
use Rattle.entries.specs.KeyLaws.{length-keys, cut-few, keys-rise}
use Rattle.entries.specs.FrontLaws.{keys-shown, starts-kept, starts-long}
use Rattle.rides.specs.Part.{Parted}
use Rattle.rides.specs.Apart.{Larger, ApartRoom, WroteApart}
use Rattle.rides.specs.Changes.{ChangeRoom, Changed}
use Rattle.rides.specs.ApartLaws.{apart-few}

-- ---- a list and what is lent of it from a place on

tail_of : (n : ℕ) (l : List ℕ) → mid_of n (length l - n) l ≡ drop n l
tail_of n l = take_all (length l - n) (drop n l) (omega (arith, length-drop n l))

-- written anew from there
put-tail : (n : ℕ) (l m : List ℕ) → put_mid n (length l - n) l m ≡ take n l ++ m
put-tail n l m = let h : length (drop n l) ≤ length l - n = omega (arith, length-drop n l) in rw (drop_of_length-le (drop n l) h, append-nil m)

tail-kept : (n : ℕ) (l m : List ℕ) → n ≤ length l → (q : ℕ) → n ≤ q → get_or (take n l ++ m) q 0 ≡ get_or m (q - n) 0
tail-kept n l m h q g =
    let e : q ≡ length (take n l) + (q - n) = omega (arith, length-take-le n l h) in
    ap (λ (i : ℕ). get_or (take n l ++ m) i 0) e ∙ get_or-append-add (take n l) m (q - n) 0

-- ---- all keys of both, parted

-- the keys of r at the front and those of r' after them
module _ {s : Shape} {r r' : Rect} {z : ℕ} {b : List ℕ} (k : ChangeRoom s r r' z b) {n m : ℕ} (old : n ≡ length (cut s r)) (new : m ≡ length (cut s r')) (fit : n + m ≤ length b) {b' : List ℕ} {i : ℕ} (w : Keyed s r z b b' i) where
  count-old : i ≡ n
  count-old = w.count ∙ length-keys s r k.shape z ∙ sym old

  within : n ≤ length b'
  within = omega (arith, starts-long w)

  front : length (take n b') ≡ n
  front = length-take-le n b' within

  module _ {l : List ℕ} {j : ℕ} (v : Keyed s r' z (drop n b') l j) where
    count-new : j ≡ m
    count-new = v.count ∙ length-keys s r' k.shape z ∙ sym new

    both_long : length (take n b' ++ l) ≡ length b
    both_long = length-append (take n b') l ∙ omega (arith, front, starts-long v, length-drop n b', starts-long w)

    first : take n (take n b' ++ l) ≡ zone_keys s r z
    first = take_at (take n b') l n front ∙ ap (λ (x : ℕ). take x b') (sym count-old) ∙ keys-shown w

    second : take m (drop n (take n b' ++ l)) ≡ zone_keys s r' z
    second = ap (take m) (drop_at (take n b') l n front) ∙ ap (λ (x : ℕ). take x l) (sym count-new) ∙ keys-shown v

    parted : {e : List ℕ} {g c : ℕ} → Parted (take n b' ++ l) e n m g c → Changed s r r' z b e g n c (n + m)
    parted p =
        let up = keys-rise s r k.shape z in
        let up' = keys-rise s r' k.shape z in
        record {
          fewer = omega (arith, p.fewer);
          few = omega (arith, p.few);
          within = fit;
          long = p.long ∙ both_long;
          rest = λ (q : ℕ) (h : n + m ≤ q).
              let x : n + (q - n) ≡ q = omega arith in
              p.rest q h ∙ tail-kept n b' l within q (omega arith) ∙ starts-kept v (q - n) (omega (arith, count-new)) ∙ get_or-drop n b' (q - n) 0 ∙ ap (λ (y : ℕ). get_or b' y 0) x ∙ starts-kept w q (omega (arith, count-old));
          dropped = rw (first, second) at (p.gone-is (rw first up) (rw second up'));
          taken = rw (first, second) at (p.come-is (rw first up) (rw second up'));
        }

  pub changes-parted : {l e : List ℕ} {j g c : ℕ} → Keyed s r' z (mid_of n (length b' - n) b') l j → Parted (put_mid n (length b' - n) b' l) e n m g c → Changed s r r' z b e g n c (n + m)
  changes-parted {l} v p = parted (rw (tail_of n b') at v) (rw (put-tail n b' l) at p)

-- ---- only those that one has

-- the keys that only r has at the front, and those that only r' has after them
module _ {s : Shape} {r r' : Rect} {z : ℕ} {b : List ℕ} (k : ChangeRoom s r r' z b) where
  pub room-first : ApartRoom s r r' z b
  room-first = record { room = record { shape = k.shape; rect = k.old; zone = k.zone; room = omega (arith, cut-few s r k.shape, k.places) }; other = k.new }

  module _ {b' : List ℕ} {g : ℕ} (w : WroteApart s r r' z b b' g) where
    -- all keys of r' have room there
    behind : g + length (cut s r') ≤ length b
    behind = omega (arith, w.count, apart-few s r r' k.shape z k.zone, k.places)

    pub gone-fits : g ≤ length b'
    gone-fits = omega (arith, behind, w.long)

    pub gone-few : g ≤ 87381
    gone-few = omega (arith, w.fewer, cut-few s r k.shape, squares-few s k.shape)

    pub room-second : ApartRoom s r' r z (mid_of g (length b' - g) b')
    room-second = rw (tail_of g b') (record { room = record { shape = k.shape; rect = k.new; zone = k.zone; room = omega (arith, behind, w.long, length-drop g b') }; other = k.old })

    tight : {l : List ℕ} {c x y n : ℕ} → WroteApart s r' r z (drop g b') l c → x ≡ length (cut s r) → y ≡ length (cut s r') → Larger x (g + y) n → Changed s r r' z b (take g b' ++ l) g g c n
    tight {l} {c} {x} {y} {n} v old new top =
        let front : length (take g b') ≡ g = length-take-le g b' gone-fits in
        record {
          fewer = omega (arith, w.fewer, top.first);
          few = omega (arith, v.fewer, top.second);
          within = top.within (length b) (omega (arith, cut-few s r k.shape, k.places)) (omega (arith, behind));
          long = length-append (take g b') l ∙ omega (arith, front, v.long, length-drop g b', w.long, gone-fits);
          rest = λ (q : ℕ) (h : n ≤ q).
              let e : g + (q - g) ≡ q = omega (arith, top.second) in
              tail-kept g b' l gone-fits q (omega (arith, top.second)) ∙ v.rest (q - g) (omega (arith, top.second)) ∙ get_or-drop g b' (q - g) 0 ∙ ap (λ (i : ℕ). get_or b' i 0) e ∙ w.rest q (omega (arith, top.first));
          dropped = take_at (take g b') l g front ∙ w.front;
          taken = ap (take c) (drop_at (take g b') l g front) ∙ v.front;
        }

    pub changes-tight : {l : List ℕ} {c x y n : ℕ} → WroteApart s r' r z (mid_of g (length b' - g) b') l c → x ≡ length (cut s r) → y ≡ length (cut s r') → Larger x (g + y) n → Changed s r r' z b (put_mid g (length b' - g) b' l) g g c n
    changes-tight {l} v old new top = rw (put-tail g b' l) (tight (rw (tail_of g b') at v) old new top)
