-- An answer that is a case of its enum is written as that case.
use Rattle.std.specs.Prelude.{ℕ, ◌≤◌, ◌≡◌, List}
use Rattle.std.proofs.Common.{ap, subst}
use Rattle.squares.specs.Refusals.{Answer}
use Rattle.model.specs.Answers.{Values}
use Rattle.print.specs.Text.{Answers}
use Rattle.print.specs.TextLaws.{answers-as}
use Rattle.texts.specs.Texts.{Letter, parts_of, text_of}
use Rattle.texts.specs.Asks.{value_of}

module _ {A : Type 0} (is : A → Answer Values) {said case : A} (e : said ≡ case) where
  pub said-text : (letter : Letter) (buffers : List (List ℕ)) {b b' : List ℕ} {n : ℕ} → Answers b b' n (text_of letter (is case) buffers) → Answers b b' n (text_of letter (is said) buffers)
  said-text letter buffers w = answers-as w (ap (λ (a : A). parts_of letter (is a) buffers) e)

  pub said-few : (i most : ℕ) → value_of i (is said) ≤ most → value_of i (is case) ≤ most
  said-few i most h = subst (λ (a : A). value_of i (is a) ≤ most) e h
