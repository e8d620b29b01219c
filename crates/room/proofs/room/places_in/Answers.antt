-- `places_in` counts the squares of an allowed shape as far as there are starts, and none for another.
use Prim.Native.Nat.{ℕ, ◌+◌}
use mathlib.Core.Path.{◌≡◌, ap, sym, ◌∙◌}
use native.Mathlib.Omega.{arith}
use lib.ListN.{length, take, length-take}
use Rattle.squares.specs.Shape.{allowed}
use Rattle.squares.specs.Squares.{squares}
use Rattle.room.specs.Room.{places_of}
use Rattle.room.specs.RoomLaws.{places-none, places-some}
use Rattle.room.proofs.room.places_in.Goals as goal

pub returns-then-allowed : goal.returns-then-allowed
returns-then-allowed c =
    let needed : c.squares.result + 1 ≡ places_of c.args.head.now = ap (λ (n : ℕ). n + 1) (c.squares.ensures.is ∙ ap squares c.shape_in-s.ensures) ∙ sym (places-some _ (ap allowed (sym c.shape_in-s.ensures) ∙ sym c.allowed.ensures ∙ c.if-allowed.true)) in
    omega (arith, length-take (places_of c.args.head.now) c.args.starts.now, needed)

pub returns-else-allowed : goal.returns-else-allowed
returns-else-allowed c = sym (ap (λ (n : ℕ). length (take n c.args.starts.now)) (places-none _ (ap allowed (sym c.shape_in-s.ensures) ∙ sym c.allowed.ensures ∙ c.if-allowed.false)))
