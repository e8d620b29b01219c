-- Soundness keeps the promise, on any tables.
use Rattle.std.specs.Prelude.{◌≡◌, Bool, true, false, [], ◌∷◌}
use Rattle.std.proofs.Math.Path.{refl}
use Rattle.std.proofs.Common.{sym, ◌∙◌, arith}
use Rattle.std.specs.declared.result.Result.TheVariants.{Err}
use Rattle.order.specs.Sums.{bit}
use Rattle.squares.specs.declared.refusal.Refusal.{Refusal}
use Rattle.squares.specs.Refusals.{first, accept}
use Rattle.squares.specs.RefusalLaws.{stops}
use Rattle.model.specs.Answers.{numbers}
use Rattle.model.specs.Model.{ask_soundness, verdict, meaning}
use Rattle.tables.specs.Tables.{Tables}
use Rattle.tables.specs.Check.{sized}
use Rattle.tables.specs.CheckLaws.{sized→}
use Rattle.tables.specs.Lent.{both}
use Rattle.soundness.specs.Tests.{sound}
use Rattle.soundness.specs.SoundnessLaws.{sound→, →sound}
use Rattle.promises.specs.Promise.{means, Trusts, Keeps}
use Rattle.promises.specs.Events.{event, soundness_told}
use Rattle.promises.specs.PromiseLaws.{keeps-refused, keeps-done}

module _ (t : Tables) where
  pub soundness-refused : sized t ≡ false → Keeps (both t t) (soundness_told (Err Refusal.Tables))
  unfolding meaning
  soundness-refused e = keeps-refused t ask_soundness _ 3 (λ (z : 3 ≡ 0). omega arith) (stops 0 (means t ask_soundness).checks e) refl

  -- the test gives the verdict, whether the tables are sound or not
  verdict-is : sized t ≡ true → (b : Bool) → Trusts verdict b t → sound t ≡ b
  verdict-is e true h = →sound t (sized→ t e) h
  verdict-is e false h = fails (sound t) refl
    where
      fails : (b : Bool) → sound t ≡ b → sound t ≡ false
      fails true q = absurd (h (sound→ t (sized→ t e) q))
      fails false q = q

  pub soundness-done : sized t ≡ true → (b : Bool) → sound t ≡ b → Keeps (both t t) (event ask_soundness [] (accept (numbers (bit b ∷ []))))
  unfolding meaning first
  soundness-done e b q = keeps-done t ask_soundness _ t (numbers (bit b ∷ [])) (sym (stops 1 (means t ask_soundness).checks (e, tt))) refl (λ c h. (refl, (rw (sym q ∙ verdict-is e c h), refl)))
