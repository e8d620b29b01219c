-- The room for an M: what refuses it, and what a town that is let in has.
use Rattle.std.specs.Prelude.{ℕ, ◌+◌, ◌<◌, ◌≤◌, ◌≡◌, Bool, false, ◌&&◌, List, leb}
use Rattle.std.specs.declared.result.Result.TheVariants.{Ok, Err}
use Rattle.std.proofs.Math.Path.{refl, ap}
use Rattle.std.proofs.Common.{sym, ◌∙◌, arith}
use Rattle.std.proofs.Math.Bool.{true}
use borrow.Author.Tests.{le-leb, lt-leb, leb-true}
use Rattle.order.specs.TestLaws.{and→}
use Rattle.squares.specs.declared.shape.Shape.{Shape}
use Rattle.squares.specs.Shape.{shape, allowed, width, height}
use Rattle.squares.specs.Squares.{squares}
use Rattle.squares.specs.declared.refusal.Refusal.{Refusal}
use Rattle.squares.specs.Refusals.{Bar}
use Rattle.squares.specs.RefusalLaws.{clear, stops}
use Rattle.model.specs.Model.{nowhere, opening, meaning}
use Rattle.season.specs.Output.{opening_of, room_of}
use Rattle.room.specs.Leaves.{open_refusal, roomy, OpenRoom}

module _ (k P Q : ℕ) where
  abbrev tests : List Bar
  tests = (meaning (room_of nowhere) nowhere (opening (opening_of k P Q))).checks

  -- 1 for a shape beyond the bounds
  pub beyond-1 : allowed (shape k P Q) ≡ false → OpenRoom k P Q (Err Refusal.Shape)
  unfolding meaning
  beyond-1 e = stops 0 tests e

  module _ {s : Shape} (made : (shape k P Q ≡ s) × (allowed s ≡ true)) where
    -- 3 for one beyond the room
    pub beyond-3 : roomy s ≡ false → OpenRoom k P Q (Err Refusal.Tables)
    unfolding meaning
    beyond-3 e = stops 2 tests (ap allowed made.0 ∙ made.1, (refl, ap roomy made.0 ∙ e))

    pub too_wide : 64 < width s → OpenRoom k P Q (Err Refusal.Tables)
    too_wide h = beyond-3 (rw (lt-leb (width s) 64 h))

    pub too-high : width s ≤ 64 → 64 < height s → OpenRoom k P Q (Err Refusal.Tables)
    too-high w h = beyond-3 (rw (le-leb (width s) 64 w, lt-leb (height s) 64 h))

    -- any other is let in
    pub let-roomy : {m : ℕ} → roomy s ≡ true → m ≡ squares s → OpenRoom k P Q (Ok (m + 1))
    unfolding meaning
    let-roomy room e = (sym (stops 3 tests (ap allowed made.0 ∙ made.1, (refl, (ap roomy made.0 ∙ room, tt)))), ap (λ (n : ℕ). n + 1) (e ∙ ap squares (sym made.0)))

    pub let-in : {m : ℕ} → width s ≤ 64 → height s ≤ 64 → m ≡ squares s → OpenRoom k P Q (Ok (m + 1))
    let-in w h e = let-roomy (rw (le-leb (width s) 64 w, le-leb (height s) 64 h)) e

  -- within the bounds and the room
  pub record Within : Type 0 where
    pub shaped : allowed (shape k P Q) ≡ true
    pub wide : width (shape k P Q) ≤ 64
    pub high : height (shape k P Q) ≤ 64

  pub within : open_refusal k P Q ≡ 0 → Within
  unfolding meaning
  within q =
      let h = clear tests refl q in
      let s = and→ (leb (width (shape k P Q)) 64) (leb (height (shape k P Q)) 64) h.1.1.0 in
      record { shaped = h.0; wide = leb-true _ _ s.0; high = leb-true _ _ s.1 }
