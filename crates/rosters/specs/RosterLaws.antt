-- Laws of a row cleared, and of a car's bytes set in the rows of a list of zones: how the loop begins, turns and ends.
use Rattle.std.specs.Prelude.{ℕ, ◌+◌, ◌-◌, ◌*◌, ◌<◌, ◌≤◌, ◌≡◌, refl, replicate, get_or, drop}
use Rattle.std.proofs.Math.Path.{ap, sym}
use Rattle.std.proofs.Common.{◌∙◌, arith, drop_of_length-le, drop-cons}
use mathlib.Core.List.{List}
use Rattle.std.proofs.Math.ListN.{length, set, length-set}
use Rattle.std.proofs.lemmas.List.{length-replicate}
use Rattle.std.proofs.lemmas.List.Edits.{sets}
use borrow.Rule.Slice.PartMut.{mid_of, put_mid, mid_len}
use Rattle.std.proofs.Math.Numerals.{add-one}
use Rattle.tables.specs.Rows.{RowThere}
use Rattle.rosters.specs.Rosters.{row_cleared, stamped}
use Rattle.tables.specs.RowLaws.{part-stored}

-- ---- a part lent and written

-- a zone's row filled with 0
pub row-filled : {rosters : List ℕ} {z many : ℕ} → RowThere rosters z many → (f : List ℕ) → f ≡ replicate (length (mid_of (z * many) (z * many + many - z * many) rosters)) 0 → put_mid (z * many) (z * many + many - z * many) rosters f ≡ row_cleared rosters z many
row-filled {rosters} {z} {many} h f e =
    let n : length (mid_of (z * many) (z * many + many - z * many) rosters) ≡ z * many + many - z * many = mid_len (z * many) (z * many + many) rosters h.there in
    let d : z * many + many - z * many ≡ many = omega arith in
    let q : f ≡ replicate many 0 = e ∙ ap (λ (m : ℕ). replicate m 0) (n ∙ d) in
    part-stored rosters f (z * many) (z * many + many) (omega arith) h.there (ap length e ∙ length-replicate _ 0 ∙ n) ∙ ap (sets rosters (z * many)) q

-- ---- the bytes set one by one

-- of a list of zones those before place i are done
pub record Stamping (b zs : List ℕ) (many c v : ℕ) (b' : List ℕ) (i : ℕ) : Type 0 where
  pub left : stamped b' (drop i zs) many c v ≡ stamped b zs many c v
  pub long : length b' ≡ length b

module _ (b zs : List ℕ) (many c v : ℕ) where
  pub stamp-begins : Stamping b zs many c v b 0
  stamp-begins = record { left = refl; long = refl }

  pub stamp-turns : {b' b'' : List ℕ} {i at : ℕ} → Stamping b zs many c v b' i → i < length zs → at ≡ get_or zs i 0 * many + c → b'' ≡ set b' at v → Stamping b zs many c v b'' (i + 1)
  unfolding stamped
  stamp-turns {b'} {b''} {i} s h f g = let e = g ∙ ap (λ (n : ℕ). set b' n v) f in record { left = ap (λ (l : List ℕ). stamped l (drop (i + 1) zs) many c v) e ∙ rw (drop-cons zs i 0 h, ← add-one i) at s.left; long = ap length e ∙ length-set b' (get_or zs i 0 * many + c) v ∙ s.long }

  pub stamp-ends : {b' : List ℕ} {i : ℕ} → Stamping b zs many c v b' i → length zs ≤ i → b' ≡ stamped b zs many c v
  unfolding stamped
  stamp-ends {b'} {i} s h = sym (ap (λ (l : List ℕ). stamped b' l many c v) (drop_of_length-le zs h)) ∙ s.left
