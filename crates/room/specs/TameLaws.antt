-- An answer made small, by the case of its enum.
use Rattle.std.specs.Prelude.{ℕ, ◌≡◌}
use Rattle.std.proofs.Common.{ap, sym, subst, ◌∙◌}
use Rattle.squares.specs.Refusals.{Answer}
use Rattle.model.specs.Answers.{Values}
use Rattle.room.specs.Leaves.{Small, Tamed}

module _ {A : Type 0} (is : A → Answer Values) {said case : A} (e : said ≡ case) {a b : ℕ} where
  -- a small one stays
  pub tame-stays : {tame : Answer Values} → tame ≡ is case → Small a b (is case) → Tamed a b (is said) tame
  tame-stays q h = record { small = subst (Small a b) (sym q) h; same = λ s. q ∙ sym (ap is e) }

  -- another becomes one that is small
  pub tame-made : {tame : Answer Values} → Small a b tame → (Small a b (is case) → ⊥) → Tamed a b (is said) tame
  tame-made h f = record { small = h; same = λ s. absurd (f (subst (λ (x : A). Small a b (is x)) e s)) }
