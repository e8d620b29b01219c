-- Laws of a lead over a range of teams, joined range by range until it is the holder.
use Rattle.std.specs.Prelude.{◌≡◌, ℕ, ◌+◌, ◌<◌, ◌≤◌, ◌⊎◌, List, ◌≢◌, slice_index, refl}
use Rattle.std.proofs.Common.{ap, sym, ◌∙◌, inl, inr, ⊎_elim, arith}
use Rattle.order.specs.TestLaws.{lt-or-le, lt-or-eq-or-gt}
use Rattle.model.specs.Teams.{last_team, lead}
use Rattle.model.specs.TeamLaws.{lead_is, level-nobody}
use Rattle.tallies.specs.declared.holder.Lead.{Lead}
use Rattle.tallies.specs.Holder.{lead_of, Foremost}

-- ---- the foremost of two, by the two tests

pub second-foremost : {a b : Lead} → a.cars < b.cars → Foremost a b b
second-foremost {a} {b} l = record { second = λ k. refl; first = λ (k : b.cars < a.cars). absurd (omega arith); level = λ (e : a.cars ≡ b.cars). absurd (omega arith) }

pub first-foremost : {a b : Lead} → b.cars < a.cars → Foremost a b a
first-foremost {a} {b} l = record { second = λ (k : a.cars < b.cars). absurd (omega arith); first = λ k. refl; level = λ (e : a.cars ≡ b.cars). absurd (omega arith) }

pub level-foremost : {a b : Lead} → b.cars ≤ a.cars → a.cars ≤ b.cars → Foremost a b (record { cars = a.cars; team = 0 })
level-foremost {a} {b} l k = record { second = λ (i : a.cars < b.cars). absurd (omega arith); first = λ (i : b.cars < a.cars). absurd (omega arith); level = λ e. refl }

-- ---- a range of teams

-- with n g cars for each team g, of the teams from lo to below hi: the most cars, and the team that alone has them, or 0 for two
pub record Front (n : ℕ → ℕ) (lo hi : ℕ) (a : Lead) : Type 0 where
  pub most : (g : ℕ) → lo ≤ g → g < hi → n g ≤ a.cars
  pub reached : (g : ℕ) × (lo ≤ g) × (g < hi) × (n g ≡ a.cars)
  pub alone : (a.team ≢ 0) → (lo ≤ a.team) × (a.team < hi) × (n a.team ≡ a.cars) × ((g : ℕ) → lo ≤ g → g < hi → (g ≢ a.team) → n g < a.cars)
  pub level : a.team ≡ 0 → (g : ℕ) × (h : ℕ) × (lo ≤ g) × (g < h) × (h < hi) × (n g ≡ a.cars) × (n h ≡ a.cars)

module _ (n : ℕ → ℕ) where
  -- one team
  pub front-one : (g : ℕ) → 0 < g → Front n g (g + 1) (record { cars = n g; team = g })
  front-one g pos = record {
    most = λ h l k. let e : h ≡ g = omega arith in omega (arith, ap n e);
    reached = (g, omega arith, omega arith, refl);
    alone = λ f. (omega arith, omega arith, refl, (λ h l k o. absurd (o (omega arith))));
    level = λ (e : g ≡ 0). absurd (omega arith);
  }

  -- a wider range, all others in which have fewer
  front-wide : {lo hi lo' hi' : ℕ} {a : Lead} → Front n lo hi a → lo' ≤ lo → hi ≤ hi' → ((g : ℕ) → lo' ≤ g → g < hi' → ((lo ≤ g) × (g < hi)) ⊎ (n g < a.cars)) → Front n lo' hi' a
  front-wide {a = a} f low high fewer = record {
    most = λ g l k. ⊎_elim (λ w. f.most g w.0 w.1) (λ (w : n g < a.cars). omega arith) (fewer g l k);
    reached = let w = f.reached in (w.0, omega arith, omega arith, w.3);
    alone = λ t. let w = f.alone t in (omega arith, omega arith, w.2, (λ g l k o. ⊎_elim (λ i. w.3 g i.0 i.1 o) (λ (i : n g < a.cars). i) (fewer g l k)));
    level = λ e. let w = f.level e in (w.0, w.1, omega arith, w.3, omega arith, w.5, w.6);
  }

  -- two ranges side by side
  pub front-join : {lo mid hi : ℕ} {a b r : Lead} → Front n lo mid a → Front n mid hi b → Foremost a b r → Front n lo hi r
  front-join {lo} {mid} {hi} {a} {b} {r} f g m = ⊎_elim
      (λ (l : a.cars < b.cars). rw (m.second l) (front-wide g (omega (arith, f.reached)) (omega arith) (λ i j k. right l i j k)))
      (⊎_elim
      (λ (e : a.cars ≡ b.cars). rw (m.level e) (both e))
      (λ (l : b.cars < a.cars). rw (m.first l) (front-wide f (omega arith) (omega (arith, g.reached)) (λ i j k. left l i j k))))
      (lt-or-eq-or-gt a.cars b.cars)
    where
      right : a.cars < b.cars → (i : ℕ) → lo ≤ i → i < hi → ((mid ≤ i) × (i < hi)) ⊎ (n i < b.cars)
      right l i j k = ⊎_elim (λ (s : i < mid). inr (omega (arith, f.most i j s))) (λ (s : mid ≤ i). inl (s, k)) (lt-or-le i mid)

      left : b.cars < a.cars → (i : ℕ) → lo ≤ i → i < hi → ((lo ≤ i) × (i < mid)) ⊎ (n i < a.cars)
      left l i j k = ⊎_elim (λ (s : i < mid). inl (j, s)) (λ (s : mid ≤ i). inr (omega (arith, g.most i s k))) (lt-or-le i mid)

      both : a.cars ≡ b.cars → Front n lo hi (record { cars = a.cars; team = 0 })
      both e = let x = f.reached in let y = g.reached in record {
        most = λ i j k. ⊎_elim (λ (s : i < mid). f.most i j s) (λ (s : mid ≤ i). omega (arith, g.most i s k)) (lt-or-le i mid);
        reached = (x.0, x.1, omega arith, x.3);
        alone = λ t. absurd (t refl);
        level = λ t. (x.0, y.0, x.1, omega arith, y.2, x.3, omega arith);
      }

  -- all that can lead
  pub front-all : {a : Lead} → Front n 1 (last_team + 1) a → a.team ≡ lead n
  front-all {a} f = ⊎_elim
      (λ (e : a.team ≡ 0). let w = f.level e in e ∙ sym (level-nobody n w.0 w.1 (omega arith, omega arith) (omega arith, omega arith) (λ (q : w.0 ≡ w.1). omega arith) (omega arith) (λ i r. omega (arith, f.most i r.0 (omega arith)))))
      (λ (o : 0 < a.team). let w = f.alone (λ (e : a.team ≡ 0). omega arith) in sym (lead_is n a.team (omega arith, omega arith) (λ h r q. omega (arith, w.3 h r.0 (omega arith) q))))
      (zero-or-more a.team)
    where
      zero-or-more : (t : ℕ) → (t ≡ 0) ⊎ (0 < t)
      zero-or-more t = ⊎_elim (λ (l : 0 < t). inr l) (λ (l : t ≤ 0). inl (omega arith)) (lt-or-le 0 t)

-- a team alone, by the row that has its cars
pub row_one : (row : List ℕ) (g : ℕ) {a : Lead} → 0 < g → a ≡ lead_of row g → Front (λ (h : ℕ). slice_index row (h + 1)) g (g + 1) a
row_one row g pos e = rw e (front-one (λ (h : ℕ). slice_index row (h + 1)) g pos)
