-- Laws of a zone's keys taken out where the tables are right: what is left, and the starts that count it.
use Rattle.std.specs.Prelude.{◌≡◌, ℕ, ◌+◌, ◌-◌, ◌*◌, ◌<◌, ◌≤◌, List, ◌++◌, length, take, drop, replicate, slice_index, slice_index_or}
use Rattle.std.proofs.Common.{ap, ◌∙◌, ⊎_elim, arith, mul-le-mul, length-take-le, Fits}
use Rattle.std.proofs.lemmas.List.{replicate-append-replicate}
use Rattle.std.specs.Int.{w64}
use Rattle.order.specs.Buffer.{rank}
use Rattle.order.specs.BufferLaws.{rank-le}
use Rattle.order.specs.KeepLaws.{length-keep}
use Rattle.order.specs.TestLaws.{lt-or-le}
use Rattle.squares.specs.declared.shape.Shape.{Shape}
use Rattle.squares.specs.declared.shape.Rect.{Rect}
use Rattle.squares.specs.Shape.{largest_k}
use Rattle.squares.specs.ShapeLaws.{squares-few}
use Rattle.tables.specs.Derived.{free}
use Rattle.tables.specs.RowLaws.{mapped}
use Rattle.starts.specs.Starts.{ranks}
use Rattle.starts.specs.Shift.{shifted, less, Moved}
use Rattle.entries.specs.Keys.{Keyed}
use Rattle.entries.specs.FrontLaws.{keys-shown, starts-kept, starts-long, counted-all, counted-front, moved-after}
use Rattle.entries.specs.Drops.{of_other, own, others, dropped, Passed, Ordered, DropRoom, Listed, Dropped}
use Rattle.entries.specs.Gaps.{Closes}
use Rattle.entries.specs.GapLaws.{rank-marks, rank-parts}

-- ---- what is left

module _ {s : Shape} {r : Rect} {z u : ℕ} {starts entries : List ℕ} (k : DropRoom s z starts entries) (l : Listed s r z u starts entries) where
  abbrev kept : List ℕ
  kept = others z (take u entries)

  all-kept : {e : List ℕ} → e ≡ dropped z u entries → e ≡ kept ++ replicate (length entries - length kept) free
  all-kept q =
      let n : u - length kept + (length entries - u) ≡ length entries - length kept = omega (arith, l.within, length-keep (of_other z) (take u entries), length-take-le u entries l.within) in
      q ∙ ap (λ (m : List ℕ). kept ++ (replicate (u - length kept) free ++ m)) l.marks ∙ ap (λ (m : List ℕ). kept ++ m) (replicate-append-replicate (u - length kept) (length entries - u) free ∙ ap (λ (i : ℕ). replicate i free) n)

  -- a start lowered by zone z's keys counts it
  start-counts : {e : List ℕ} → e ≡ dropped z u entries → (p : ℕ) → p < length starts → (x : ℕ) → x ≡ shifted (less (rank (p * 256) (own z (take u entries)))) (slice_index starts p) → x ≡ rank (p * 256) e
  start-counts {e} q p h x f =
      let a = rank (p * 256) kept in
      let b = rank (p * 256) (own z (take u entries)) in
      let low : p * 256 ≤ free = omega (arith, k.places, squares-few s k.shape) in
      let now : rank (p * 256) e ≡ a = ap (rank (p * 256)) (all-kept q) ∙ rank-marks (p * 256) kept (length entries - length kept) low in
      let was : slice_index_or starts p 0 ≡ a + b = l.ordered.starts p (omega arith) h ∙ rank-parts z (p * 256) (take u entries) l.ordered.rising in
      let few : a + b ≤ 16384 = omega (arith, rank-le (p * 256) (take u entries), rank-parts z (p * 256) (take u entries) l.ordered.rising, length-take-le u entries l.within, l.within, k.few) in
      f ∙ ap (shifted (less b)) was ∙ omega arith

  pub passed-drops : {starts' entries' : List ℕ} → Passed z u starts starts' entries entries' → Dropped z u starts starts' entries entries'
  passed-drops {starts'} {entries'} d = record {
    left = all-kept d.entries;
    counted = mapped starts' (λ (p : ℕ). rank (p * 256) entries') (length starts) d.starts.long (λ p h. start-counts d.entries p h (slice_index starts' p) (d.starts.each p (omega arith) h));
  }

  -- the keys written, the gaps closed, the starts after the keys lowered, those under them counted anew
  pub cut-drops : {starts' : List ℕ} {n : ℕ} → Keyed s r z starts starts' n → {e m f : List ℕ} → Closes n u starts' entries e → Moved less (take n starts') n starts' m → f ≡ ranks e (length (take n m)) → Dropped z u starts (f ++ drop n m) entries e
  cut-drops {starts'} {n} w {e} {m} {f} closes d counted =
      let right : Ordered n u starts' entries = record { rising = l.ordered.rising; starts = λ p h g. starts-kept w p h ∙ l.ordered.starts p (omega arith) (omega (arith, starts-long w)) } in
      let q : e ≡ dropped z u entries = closes z right (keys-shown w ∙ l.keys) in
      record {
        left = all-kept q;
        counted = mapped (f ++ drop n m) (λ (p : ℕ). rank (p * 256) e) (length starts) (counted-all w e d counted) (λ p h. ⊎_elim
            (λ (g : p < n). counted-front w e d counted p g)
            (λ (g : n ≤ p). start-counts q p h (slice_index (f ++ drop n m) p) (moved-after w e d counted p g h ∙ ap (λ (i : List ℕ). shifted (less (rank (p * 256) i)) (slice_index starts p)) l.keys))
            (lt-or-le p n));
      }

-- ---- what the call works out

-- so many entries for each key, 8 a level
pub few-fits : (k n : ℕ) → k ≤ largest_k → n ≤ 87381 → Fits w64 (8 * (k + 1) * n)
few-fits k n h g = let e : 8 * (k + 1) ≤ 48 = omega arith in record { fits = omega (arith, mul-le-mul e g) }
