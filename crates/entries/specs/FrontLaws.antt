-- Laws of a zone's keys written over the front of the starts: the starts after them, and those under them counted anew.
use Rattle.std.specs.Prelude.{◌≡◌, ℕ, ◌+◌, ◌-◌, ◌*◌, ◌<◌, ◌≤◌, List, ◌++◌, length, take, drop, slice_index}
use Rattle.std.proofs.Common.{ap, ap₂, sym, ◌∙◌, arith, length-append, length-take, length-drop, get_or-append-add, get_or-drop, length-take-le}
use Rattle.std.proofs.lemmas.List.{length-map}
use Rattle.std.proofs.Math.ListN.{get_or-append}
use Rattle.order.specs.Order.{upto}
use Rattle.order.specs.Buffer.{rank}
use Rattle.order.specs.BufferLaws.{take-over, drop-over, length_over}
use Rattle.order.specs.KeepLaws.{length-span}
use Rattle.squares.specs.declared.shape.Shape.{Shape}
use Rattle.squares.specs.declared.shape.Rect.{Rect}
use Rattle.squares.specs.Bounds.{Allowed}
use Rattle.squares.specs.Squares.{squares}
use Rattle.squares.specs.ShapeLaws.{squares-few}
use Rattle.tables.specs.RowLaws.{mapped_at}
use Rattle.starts.specs.Starts.{ranks}
use Rattle.starts.specs.Shift.{shifted, Moved}
use Rattle.entries.specs.Keys.{zone_keys, Keyed}

-- so many numbers at the front of a list l counted anew
module _ (n : ℕ) (e l : List ℕ) {f : List ℕ} (within : n ≤ length l) (counted : f ≡ ranks e (length (take n l))) where
  front_long : length (take n l) ≡ n
  front_long = length-take-le n l within

  anew-long : length f ≡ n
  anew-long = ap length counted ∙ length-map (upto (length (take n l))) (λ (p : ℕ). rank (p * 256) e) ∙ length-span 0 (length (take n l)) ∙ front_long

  pub anew-all : length (f ++ drop n l) ≡ length l
  anew-all = length-append f (drop n l) ∙ omega (arith, anew-long, length-drop n l)

  pub anew-front : (p : ℕ) → p < n → slice_index (f ++ drop n l) p ≡ rank (p * 256) e
  anew-front p h = get_or-append f (drop n l) 0 p (omega (arith, anew-long)) ∙ mapped_at f (λ (x : ℕ). rank (x * 256) e) (length (take n l)) p counted (omega (arith, front_long))

  -- those after them are as they were
  pub anew-after : (p : ℕ) → n ≤ p → slice_index (f ++ drop n l) p ≡ slice_index l p
  anew-after p h =
      let x : p ≡ length f + (p - n) = omega (arith, anew-long) in
      let y : n + (p - n) ≡ p = omega arith in
      ap (λ (i : ℕ). slice_index (f ++ drop n l) i) x ∙ get_or-append-add f (drop n l) (p - n) 0 ∙ get_or-drop n l (p - n) 0 ∙ ap (λ (i : ℕ). slice_index l i) y

module _ {s : Shape} {r : Rect} {z : ℕ} {starts starts' : List ℕ} {n : ℕ} (w : Keyed s r z starts starts' n) where
  pub keys-shown : take n starts' ≡ zone_keys s r z
  keys-shown = rw (w.written, w.count) (take-over (zone_keys s r z) starts)

  -- the starts after them are as they were
  pub starts-kept : (q : ℕ) → n ≤ q → slice_index starts' q ≡ slice_index starts q
  starts-kept q h =
      let e : q ≡ n + (q - n) = omega arith in
      let d : drop n starts' ≡ drop n starts = rw (w.written, w.count) (drop-over (zone_keys s r z) starts) in
      rw e (sym (get_or-drop n starts' (q - n) 0) ∙ ap (λ (l : List ℕ). slice_index l (q - n)) d ∙ get_or-drop n starts (q - n) 0)

  pub starts-long : length starts' ≡ length starts
  starts-long = ap length w.written ∙ length_over (zone_keys s r z) starts (omega (arith, w.count, w.within))

  -- the starts moved by the keys, and those under them counted anew
  module _ {c : ℕ → ℕ} (e : List ℕ) {l f : List ℕ} (m : Moved c (take n starts') n starts' l) (counted : f ≡ ranks e (length (take n l))) where
    moved-within : n ≤ length l
    moved-within = omega (arith, m.long, starts-long, w.within)

    counted-long : length f ≡ n
    counted-long = anew-long n e l moved-within counted

    pub counted-all : length (f ++ drop n l) ≡ length starts
    counted-all = anew-all n e l moved-within counted ∙ m.long ∙ starts-long

    pub counted-front : (p : ℕ) → p < n → slice_index (f ++ drop n l) p ≡ rank (p * 256) e
    counted-front = anew-front n e l moved-within counted

    pub moved-after : (p : ℕ) → n ≤ p → p < length starts → slice_index (f ++ drop n l) p ≡ shifted (c (rank (p * 256) (zone_keys s r z))) (slice_index starts p)
    moved-after p h g =
        anew-after n e l moved-within counted p h
        ∙ m.each p h (omega (arith, starts-long))
        ∙ ap₂ (λ (k : List ℕ) (o : ℕ). shifted (c (rank (p * 256) k)) o) keys-shown (starts-kept p h)

  -- so many are few
  pub front-few : Allowed s → length starts ≡ squares s + 1 → (l : List ℕ) → length (take n l) ≤ 87382
  front-few h e l = omega (arith, length-take n l, w.within, squares-few s h)
