-- Where a key parts a rising list: how many of its numbers are below the key.
use Rattle.std.specs.Prelude.{ℕ, ◌-◌, ◌<◌, ◌≤◌, ◌≡◌, false, List, leb, ltb, eqb, length, get_or, take}
use Rattle.std.proofs.Math.Logic.{⊎_elim}
use Rattle.std.proofs.Math.Bool.{Bool, true, cond, ◌&&◌}
use Rattle.std.proofs.Common.{ap₂, arith, length-take-le, get_or-take}
use borrow.Author.Tests.{le-leb, lt-leb, lt-ltb, eq-eqb, ne_eqb, leb-true, ltb-true}
use Rattle.order.specs.Rising.{Rising}
use Rattle.order.specs.Buffer.{rank, ends_below}
use Rattle.order.specs.RankLaws.{rank_is, rank-low, rank-high}
use Rattle.order.specs.BufferLaws.{rank-le}
use Rattle.order.specs.TestLaws.{lt-or-le, and→}
use Rattle.soundness.specs.Tests.{starts_above, parts}

-- ---- the test of a start

record Parts (entries : List ℕ) (u key n : ℕ) : Type 0 where
  few : n ≤ u
  low : 0 < n → get_or entries (n - 1) 0 < key
  high : n < u → key ≤ get_or entries n 0

module _ (entries : List ℕ) (u key n : ℕ) where
  parts→ : parts entries u key n ≡ true → Parts entries u key n
  unfolding parts ends_below starts_above
  parts→ e =
      let a = and→ (leb n u) _ e in
      let b = and→ (ends_below entries key n) _ a.1 in
      record {
        few = leb-true _ _ a.0;
        low = λ h. ltb-true _ _ (rw (ne_eqb n 0 (λ (q : n ≡ 0). omega arith)) at b.0);
        high = λ h. leb-true _ _ (rw (ne_eqb n u (λ (q : n ≡ u). omega arith)) at b.1);
      }

  →parts : Parts entries u key n → parts entries u key n ≡ true
  unfolding parts ends_below starts_above
  →parts h = rw (le-leb n u h.few, first, second)
    where
      first : cond (eqb n 0) true (ltb (get_or entries (n - 1) 0) key) ≡ true
      first = ⊎_elim (λ (l : 0 < n). rw (ne_eqb n 0 (λ (q : n ≡ 0). omega arith)) (lt-ltb _ _ (h.low l))) (λ (l : n ≤ 0). rw (eq-eqb n 0 (omega arith))) (lt-or-le 0 n)

      second : cond (eqb n u) true (leb key (get_or entries n 0)) ≡ true
      second = ⊎_elim (λ (l : n < u). rw (ne_eqb n u (λ (q : n ≡ u). omega arith)) (le-leb _ _ (h.high l))) (λ (l : u ≤ n). rw (eq-eqb n u (omega (arith, h.few)))) (lt-or-le n u)

  -- it says that n is the key's rank among the first u entries
  pub parts-rank : u ≤ length entries → Rising (take u entries) → parts entries u key n ≡ true → n ≡ rank key (take u entries)
  parts-rank h r e =
      let a = parts→ e in
      let l = length-take-le u entries h in
      rank_is key (take u entries) n r (omega (arith, a.few))
      (λ i q. rw (get_or-take u entries i 0 (omega (arith, a.few))) (let z : n - 1 ≡ i = omega arith in rw z at (a.low (omega arith))))
      (λ g. rw (get_or-take u entries n 0 (omega arith)) (a.high (omega arith)))

  pub rank-parts : u ≤ length entries → n ≡ rank key (take u entries) → parts entries u key n ≡ true
  rank-parts h e =
      let l = length-take-le u entries h in
      let few : n ≤ u = omega (arith, rank-le key (take u entries)) in
      →parts (record {
        few = few;
        low = λ g. rw (get_or-take u entries (n - 1) 0 (omega arith)) at (rank-low key (take u entries) (n - 1) (omega arith));
        high = λ g. rw (← get_or-take u entries n 0 g) (rw e (rank-high key (take u entries) (omega arith)));
      })

  -- so it goes by those alone
  pub parts-front : u ≤ length entries → parts (take u entries) (length (take u entries)) key n ≡ parts entries u key n
  unfolding parts ends_below starts_above
  parts-front h = rw (length-take-le u entries h) (⊎_elim (λ (a : u < n). rw (lt-leb n u a)) (λ (a : n ≤ u). ap₂ (λ (x y : Bool). leb n u && (x && y)) (low a) (high a)) (lt-or-le u n))
    where
      low : n ≤ u → cond (eqb n 0) true (ltb (get_or (take u entries) (n - 1) 0) key) ≡ cond (eqb n 0) true (ltb (get_or entries (n - 1) 0) key)
      low a = ⊎_elim (λ (l : 0 < n). rw (get_or-take u entries (n - 1) 0 (omega arith))) (λ (l : n ≤ 0). rw (eq-eqb n 0 (omega arith))) (lt-or-le 0 n)

      high : n ≤ u → cond (eqb n u) true (leb key (get_or (take u entries) n 0)) ≡ cond (eqb n u) true (leb key (get_or entries n 0))
      high a = ⊎_elim (λ (l : n < u). rw (get_or-take u entries n 0 l)) (λ (l : u ≤ n). rw (eq-eqb n u (omega arith))) (lt-or-le n u)

  -- test by test
  pub above-none : n ≡ u → true ≡ starts_above entries u key n
  unfolding starts_above
  above-none e = rw (eq-eqb n u e)

  pub above-some : (n ≡ u → ⊥) → (x : ℕ) → x ≡ get_or entries n 0 → leb key x ≡ starts_above entries u key n
  unfolding starts_above
  above-some f x e = rw (ne_eqb n u f, e)

  pub parts-many : u < n → false ≡ parts entries u key n
  unfolding parts
  parts-many h = rw (lt-leb n u h)

  pub parts_low : n ≤ u → ends_below entries key n ≡ false → false ≡ parts entries u key n
  unfolding parts
  parts_low h e = rw (le-leb n u h, e)

  pub parts-high : n ≤ u → ends_below entries key n ≡ true → starts_above entries u key n ≡ parts entries u key n
  unfolding parts
  parts-high h e = rw (le-leb n u h, e)
