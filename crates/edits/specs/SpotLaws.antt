-- Laws of a car's record and its position written.
use Rattle.std.specs.Prelude.{ℕ, suc, ◌+◌, ◌-◌, ◌*◌, ◌<◌, ◌≤◌, ◌≡◌, true, false, List, [], ◌∷◌, ltb, Float, length, get_or, set}
use Rattle.std.proofs.Common.{ap, ◌∙◌, ⊎_elim, arith, length-set, get_or-set_same, get_or-set_other, lt-ltb}
use Rattle.std.specs.Float.{nan}
use Rattle.std.proofs.Math.ListN.{get_or-eq_default}
use Rattle.std.proofs.Math.Seq.{length-sets}
use Rattle.order.specs.TestLaws.{lt-or-le}
use Rattle.position.specs.declared.Position.{Position}
use Rattle.tables.specs.Tables.{placed_in, team_in, spot_in}
use Rattle.tables.specs.Steps.{with_spot}

-- ---- a position stored

spot-same : {x x' y y' : Float} → x ≡ x' → y ≡ y' → ◌≡◌ {A = Position} (record { x = x; y = y }) (record { x = x'; y = y' })
spot-same e f = rw (e, f)

module _ (spots : List Float) (c : ℕ) (p : Position) where
  -- two floats set one after the other
  pub spot-stored : set (set spots (2 * c) p.x) (2 * c + 1) p.y ≡ with_spot spots c p
  spot-stored = let one : 2 * c + 1 ≡ suc (2 * c) = omega arith in rw one

  pub length-with-spot : length (with_spot spots c p) ≡ length spots
  length-with-spot = length-sets spots (2 * c) (p.x ∷ p.y ∷ [])

  -- the car's position is p
  pub spot-with : 2 * c + 2 ≤ length spots → spot_in (with_spot spots c p) c ≡ p
  spot-with h =
      let one : 2 * c + 1 ≡ suc (2 * c) = omega arith in
      spot-same
      (get_or-set_other (set spots (2 * c) p.x) (suc (2 * c)) (2 * c) p.y nan (λ (e : 2 * c ≡ suc (2 * c)). omega arith) ∙ get_or-set_same spots (2 * c) p.x nan (omega arith))
      (ap (λ (i : ℕ). get_or (with_spot spots c p) i nan) one ∙ get_or-set_same (set spots (2 * c) p.x) (suc (2 * c)) p.y nan (omega (arith, length-set spots (2 * c) p.x)))

  -- the others' stay
  pub spot-with-other : (d : ℕ) → (d ≡ c → ⊥) → spot_in (with_spot spots c p) d ≡ spot_in spots d
  spot-with-other d f = spot-same (apart (2 * d) (λ (e : 2 * d ≡ 2 * c). f (omega arith)) (λ (e : 2 * d ≡ suc (2 * c)). omega arith)) (apart (2 * d + 1) (λ (e : 2 * d + 1 ≡ 2 * c). omega arith) (λ (e : 2 * d + 1 ≡ suc (2 * c)). f (omega arith)))
    where
      apart : (i : ℕ) → (i ≡ 2 * c → ⊥) → (i ≡ suc (2 * c) → ⊥) → get_or (with_spot spots c p) i nan ≡ get_or spots i nan
      apart i g h = get_or-set_other (set spots (2 * c) p.x) (suc (2 * c)) i p.y nan h ∙ get_or-set_other spots (2 * c) i p.x nan g

-- ---- a car's mark

module _ (cars : List ℕ) (c : ℕ) where
  pub placed-with : (g : ℕ) → c < length cars → placed_in (set cars c (g + 1)) c ≡ true
  placed-with g h = ap (ltb 0) (get_or-set_same cars c (g + 1) 0 h) ∙ lt-ltb 0 (g + 1) (omega arith)

  -- its team
  pub team-with : (g : ℕ) → c < length cars → team_in (set cars c (g + 1)) c ≡ g
  team-with g h = ap (λ (n : ℕ). n - 1) (get_or-set_same cars c (g + 1) 0 h) ∙ omega arith

  pub placed-without : placed_in (set cars c 0) c ≡ false
  placed-without = ap (ltb 0) (⊎_elim
      (λ (h : c < length cars). get_or-set_same cars c 0 0 h)
      (λ (h : length cars ≤ c). get_or-eq_default (set cars c 0) 0 {n = c} (omega (arith, length-set cars c 0)))
      (lt-or-le c (length cars)))

  pub placed-other : (mark d : ℕ) → (d ≡ c → ⊥) → placed_in (set cars c mark) d ≡ placed_in cars d
  placed-other mark d f = ap (ltb 0) (get_or-set_other cars c d mark 0 f)

  pub team-other : (mark d : ℕ) → (d ≡ c → ⊥) → team_in (set cars c mark) d ≡ team_in cars d
  team-other mark d f = ap (λ (n : ℕ). n - 1) (get_or-set_other cars c d mark 0 f)
