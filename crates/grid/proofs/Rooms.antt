-- What the proof of `cut_of_rectangle` cites: a cut that has no room is refused.
use Rattle.std.specs.Prelude.{ℕ, ◌<◌, ◌≡◌, refl, true, List, [], ◌∷◌, length}
use Rattle.std.proofs.Common.{sym}
use Rattle.squares.specs.declared.shape.Shape.{Shape}
use Rattle.squares.specs.declared.shape.Rect.{Rect}
use Rattle.std.specs.declared.result.Result.TheVariants.{Ok}
use Rattle.squares.specs.Shape.{shape, allowed, fits}
use Rattle.squares.specs.Made.{shaped}
use Rattle.squares.specs.ShapeLaws.{shaped→}
use Rattle.squares.specs.Refusals.{refuse}
use Rattle.squares.specs.RefusalLaws.{short}
use Rattle.cuts.specs.Cut.{cut}
use Rattle.grid.specs.Promises.{makes, cut_gives}
use Rattle.grid.specs.PromiseLaws.{cut-stops}

pub made : (k P Q : ℕ) (s : Shape) → shaped k P Q ≡ Ok s → s ≡ shape k P Q
made k P Q s h = sym (shaped→ k P Q refl h).0

pub is_allowed : (k P Q : ℕ) (s : Shape) → shaped k P Q ≡ Ok s → allowed s ≡ true
is_allowed k P Q s h = (shaped→ k P Q refl h).1

pub no_room : (s : Shape) (r : Rect) (b : List ℕ) → allowed s ≡ true → fits s r ≡ true → length b < length (cut s r) → cut_gives s r b ≡ makes (b ∷ []) (refuse 11)
no_room s r b a f l = sym (cut-stops s r b 2 (a, (f, short refl l)))
