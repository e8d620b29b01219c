-- What the leaves promise.
use Rattle.std.specs.Prelude.{ℕ, ◌+◌, ◌≤◌, ◌≡◌, Bool, ◌&&◌, leb}
use Rattle.std.specs.declared.result.Result.{Result}
use Rattle.std.specs.declared.result.Result.TheVariants.{Ok, Err}
use Rattle.squares.specs.declared.shape.Shape.{Shape}
use Rattle.squares.specs.Shape.{shape, width, height}
use Rattle.squares.specs.Squares.{squares}
use Rattle.squares.specs.declared.refusal.Refusal.{Refusal}
use Rattle.squares.specs.Refusals.{Answer, number_of}
use Rattle.model.specs.Answers.{Values}
use Rattle.model.specs.Model.{nowhere, opening, refusal}
use Rattle.texts.specs.Asks.{value_of}
use Rattle.season.specs.Output.{opening_of, room_of}

-- the number that refuses an M, or 0: it is the same whatever the town
abbrev pub open_refusal : ℕ → ℕ → ℕ → ℕ
open_refusal k P Q = refusal (room_of nowhere) nowhere (opening (opening_of k P Q))

-- within 64 by 64
abbrev pub roomy : Shape → Bool
roomy s = leb (width s) 64 && leb (height s) 64

-- the room for an M: what refuses it, or how many starts its town needs
abbrev pub OpenRoom : ℕ → ℕ → ℕ → Result ℕ Refusal → Type 0
OpenRoom k P Q (Err r) = number_of r ≡ open_refusal k P Q
OpenRoom k P Q (Ok m) = (open_refusal k P Q ≡ 0) × (m ≡ squares (shape k P Q) + 1)

-- the first value of an answer is at most a, the second at most b
pub record Small (a b : ℕ) (said : Answer Values) : Type 0 where
  pub first : value_of 0 said ≤ a
  pub second : value_of 1 said ≤ b

-- an answer is made small; one that is small stays
pub record Tamed (a b : ℕ) (said tame : Answer Values) : Type 0 where
  pub small : Small a b tame
  pub same : Small a b said → tame ≡ said
