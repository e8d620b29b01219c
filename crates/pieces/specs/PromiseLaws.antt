-- Laws of the promise: what is asked, a call that is refused and one that is not, and that it leaves one outcome.
use Rattle.std.specs.Prelude.{ℕ, ◌<◌, ◌≤◌, ◌≡◌, refl, Bool, true, false, ◌&&◌, List, leb, eqb, length, get_or}
use Rattle.std.specs.declared.result.Result.{Result}
use Rattle.std.specs.declared.result.Result.TheVariants.{Ok, Err}
use Rattle.std.proofs.Common.{ap, sym, ◌∙◌, ⊎_elim, eqb-true, leb-true, eq-eqb, le-leb}
use Rattle.std.proofs.lemmas.Bool.{lt-leb}
use Rattle.order.specs.TestLaws.{and→, fails, true-or-false}
use Rattle.squares.specs.declared.refusal.Refusal.{Refusal}
use Rattle.squares.specs.Refusals.{first, number_of, refused_by}
use Rattle.squares.specs.RefusalLaws.{clear, stops, by-refusal, number-same, some-number}
use Rattle.tables.specs.Tables.{Tables}
use Rattle.tables.specs.Lent.{both}
use Rattle.room.specs.Room.{Roomed, Ready}
use Rattle.pieces.specs.declared.pieces.Filled.{Filled as Counts}
use Rattle.pieces.specs.Pieces.{Filled, roomed, counted, checks, Fills}
use Rattle.pieces.specs.Leaves.{Refuses, Lending, Passes}

-- ---- what is asked

roomed→ : (t : Tables) → roomed t ≡ true → Roomed t
roomed→ t e =
    let a = and→ _ _ e in
    let b = and→ _ _ a.1 in
    let c = and→ _ _ b.1 in
    let d = and→ _ _ c.1 in
    let f = and→ _ _ d.1 in
    let g = and→ _ _ f.1 in
    let h = and→ _ _ g.1 in
    record {
      head = eqb-true _ _ a.0;
      zones = eqb-true _ _ b.0;
      cars = eqb-true _ _ c.0;
      spots = eqb-true _ _ d.0;
      starts = eqb-true _ _ f.0;
      entries = eqb-true _ _ g.0;
      rosters = eqb-true _ _ h.0;
      tallies = eqb-true _ _ h.1;
    }

→roomed : (t : Tables) → Roomed t → roomed t ≡ true
→roomed t room = simp (eq-eqb _ _ room.head, eq-eqb _ _ room.zones, eq-eqb _ _ room.cars, eq-eqb _ _ room.spots, eq-eqb _ _ room.starts, eq-eqb _ _ room.entries, eq-eqb _ _ room.rosters, eq-eqb _ _ room.tallies)

counted→ : (b : List ℕ) → counted b ≡ true → (length b ≡ 82) × (get_or b 81 0 ≤ 81)
counted→ b e = let h = and→ (eqb (length b) 82) (leb (get_or b 81 0) 81) e in (eqb-true _ _ h.0, leb-true _ _ h.1)

→counted : (b : List ℕ) → length b ≡ 82 → get_or b 81 0 ≤ 81 → counted b ≡ true
→counted b long few = rw (eq-eqb (length b) 82 long, le-leb (get_or b 81 0) 81 few)

pub lending : {t : Tables} {b o : List ℕ} {n : ℕ} → Refuses t b o n → n ≡ 0 → Lending t b o
lending {t} {b} {o} r z =
    let k = clear (checks t b o) refl (sym r.is ∙ z) in
    let h = counted→ b k.1.0 in
    record { room = roomed→ t k.0; long = h.0; few = h.1; wide = leb-true _ _ k.1.1.0 }

-- a call that is refused, and one that is not
module _ {t : Tables} {b o : List ℕ} where
  pub refused-room : (Roomed t → ⊥) → Refuses t b o 3
  refused-room f = record { is = stops 0 (checks t b o) (fails (roomed t) (λ (e : roomed t ≡ true). f (roomed→ t e))) }

  -- the tables and the held bytes are refused by the same number
  pub refused-held : (length b ≡ 82 → get_or b 81 0 ≤ 81 → ⊥) → Refuses t b o 3
  refused-held f =
      let g : counted b ≡ false = fails (counted b) (λ (e : counted b ≡ true). let h = counted→ b e in f h.0 h.1) in
      record { is = ⊎_elim (λ (e : roomed t ≡ true). stops 1 (checks t b o) (e, g)) (λ (e : roomed t ≡ false). stops 0 (checks t b o) e) (true-or-false (roomed t)) }

  module _ (room : Roomed t) (long : length b ≡ 82) (few : get_or b 81 0 ≤ 81) where
    pub refused-out : length o < 768 → Refuses t b o 11
    refused-out h = record { is = stops 2 (checks t b o) (→roomed t room, (→counted b long few, lt-leb 768 (length o) h)) }

    pub refused_none : 768 ≤ length o → Refuses t b o 0
    refused_none h = record { is = stops 3 (checks t b o) (→roomed t room, (→counted b long few, (le-leb 768 (length o) h, tt))) }

-- ---- what is promised

pub fills-refused : {f : Filled} {t : Tables} {piece b o : List ℕ} {r : Refusal} → Refuses t b o (number_of r) → Fills f (both t t) piece b b o o (Err r)
fills-refused {r = r} e = record {
  refuses = λ g. (e.is, refl, refl, refl);
  passes = λ g. absurd (some-number r (e.is ∙ g));
  does = λ g ready. absurd (some-number r (e.is ∙ g));
}

pub fills-passed : {f : Filled} {t u : Tables} {piece b b' o o' : List ℕ} {said : Counts} {n : ℕ} → Refuses t b o n → n ≡ 0 → Passes f (both t u) piece b' o o' said → Fills f (both t u) piece b b' o o' (Ok said)
fills-passed {said = said} e h p = record {
  refuses = λ g. absurd (g (sym e.is ∙ h));
  passes = λ g. (said.read, said.wrote, refl, p.passes.0, p.passes.1);
  does = λ g ready. let d = p.does ready in (ap Ok d.0, d.1, d.2, d.3);
}

-- two answers that are refused by one number are the same
refused-same : {A : Type 0} (r s : Result A Refusal) {n : ℕ} → refused_by r ≡ n → refused_by s ≡ n → (n ≡ 0 → ⊥) → r ≡ s
refused-same (Ok a) s e f g = absurd (g (sym e))
refused-same (Err r) (Ok a) e f g = absurd (g (sym f))
refused-same (Err r) (Err s) e f g = ap Err (number-same r s (e ∙ sym f))

-- two outcomes that are allowed on the same ready tables, piece and buffers are equal
pub fills-unique : {f : Filled} {t u v : Tables} {piece b b₁ b₂ o o₁ o₂ : List ℕ} {r s : Result Counts Refusal} → Ready t → Fills f (both t u) piece b b₁ o o₁ r → Fills f (both t v) piece b b₂ o o₂ s → (r ≡ s) × (u ≡ v) × (b₁ ≡ b₂) × (o₁ ≡ o₂)
fills-unique {f} {t} {u} {v} {piece} {b} {b₁} {b₂} {o} {o₁} {o₂} {r} {s} ready x y =
    by-refusal (first (checks t b o))
    (λ (e : first (checks t b o) ≡ 0). let p = x.does e ready in let q = y.does e ready in (p.0 ∙ sym q.0, p.1 ∙ sym q.1, p.2 ∙ sym q.2, p.3 ∙ sym q.3))
    (λ (g : first (checks t b o) ≡ 0 → ⊥). let p = x.refuses g in let q = y.refuses g in (refused-same r s p.0 q.0 g, p.1 ∙ sym q.1, p.2 ∙ sym q.2, p.3 ∙ sym q.3))
