-- Laws of the lower one of two numbers that may be left.
use Rattle.std.specs.Prelude.{ℕ, ◌<◌, ◌≤◌, ◌≡◌, refl, Bool, true, false, List, ltb, get_or}
use Rattle.std.proofs.Common.{sym, ◌∙◌, arith, ltb-true, ltb-false}
use Rattle.order.specs.Buffer.{Lower}
use Rattle.order.specs.TestLaws.{true-not-false}

pub lower-none : {l : List ℕ} {i n j end : ℕ} → n ≤ i → Lower l i n j end false
lower-none h = record { yes = λ (e : false ≡ true). absurd (true-not-false false e refl); no = λ e g. absurd (omega arith) }

pub lower-alone : {l : List ℕ} {i n j end : ℕ} → i < n → end ≤ j → Lower l i n j end true
lower-alone h g = record { yes = λ e. (h, λ k. absurd (omega arith)); no = λ (e : true ≡ false). absurd (true-not-false true refl e) }

pub lower-told : {l : List ℕ} {i n j end : ℕ} {r : Bool} → i < n → j < end → r ≡ ltb (get_or l i 0) (get_or l j 0) → Lower l i n j end r
lower-told {l} {i} {n} {j} {end} h g e = record {
  yes = λ f. (h, λ k. ltb-true (get_or l i 0) (get_or l j 0) (sym e ∙ f));
  no = λ f k. (g, ltb-false (get_or l i 0) (get_or l j 0) (sym e ∙ f));
}
