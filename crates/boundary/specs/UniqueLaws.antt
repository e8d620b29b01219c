-- Two outcomes that the promise of an exported call allows are one: the number returned, every value or float, every buffer, every table.
use Rattle.std.specs.Prelude.{ℕ, refl, Bool, List, [], map, Float, get_or, drop}
use Rattle.std.proofs.Math.Path.{◌≡◌}
use Rattle.std.proofs.Common.{ap, sym, ◌∙◌}
use Rattle.std.proofs.Math.Bool.{true, false}
use native.Mathlib.Omega.{arith}
use Rattle.std.proofs.lemmas.List.Edits.{sets}
use Rattle.std.specs.declared.result.Result.{Result as Told}
use Rattle.std.specs.declared.result.Result.TheVariants.{Ok, Err}
use Rattle.squares.specs.declared.refusal.Refusal.{Refusal}
use Rattle.squares.specs.Refusals.{number_of, Answer, refuse, Result}
use Rattle.squares.specs.RefusalLaws.{by-refusal}
use Rattle.model.specs.Answers.{Values, soundness_is}
use Rattle.model.specs.Model.{Call, ask_soundness, Event, verdict, meaning}
use Rattle.tables.specs.Tables.{Tables}
use Rattle.tables.specs.Sound.{Sound}
use Rattle.tables.specs.Lent.{both}
use Rattle.promises.specs.Promise.{means, bars, Trusts, Keeps}
use Rattle.promises.specs.Events.{event, soundness_told}
use Rattle.promises.specs.PromiseLaws.{keeps-unique}
use Rattle.values.specs.Promises.{said, capped, Tells, coordinates, Points}
use Rattle.room.specs.Room.{Ready}
use Rattle.pieces.specs.Pieces.{Filled}
use Rattle.pieces.specs.PromiseLaws.{fills-unique}
use Rattle.boundary.specs.Promises.{Relays, Pointed, Gives, filling_says, Logs}

-- ---- the same is told the same way

tells-same : {x y v v' v'' : List ℕ} {r r' : ℕ} → x ≡ y → Tells x v v' r → Tells y v v'' r' → (r ≡ r') × (v' ≡ v'')
tells-same {v = v} e h g =
    (h.number ∙ ap (λ (l : List ℕ). get_or l 0 0) e ∙ sym g.number, h.values ∙ ap (λ (l : List ℕ). sets v 0 (map capped (drop 1 l))) e ∙ sym g.values)

points-same : {x y : Answer Values} {v v' v'' : List Float} {r r' : ℕ} → x ≡ y → Points x v v' r → Points y v v'' r' → (r ≡ r') × (v' ≡ v'')
points-same {v = v} e h g =
    (h.number ∙ ap (λ (a : Answer Values). get_or (said 0 a) 0 0) e ∙ sym g.number, h.position ∙ ap (λ (a : Answer Values). sets v 0 (coordinates a)) e ∙ sym g.position)

-- ---- calls on the tables, where their outcome is set: on sound tables that is every call's (promises' trusts-sound)

kept_same : (sound : Bool) {t u w : Tables} {call : Call} {b c : List (List ℕ)} {x y : Answer Values} → Keeps (both t u) (event call b x) → Keeps (both t w) (event call c y) → (bars t call ≡ 0 → Trusts (means t call).trusts sound t) → (x ≡ y) × ((b ≡ c) × (u ≡ w))
kept_same sound k l trust = let h = keeps-unique sound k l refl trust in (ap (λ (e : Event). e.result.answer) h.0, (ap (λ (e : Event). e.result.buffers) h.0, h.1))

pub relays-unique : (sound : Bool) {A : Type 0} {is : A → Answer Values} {many : ℕ} {t u w : Tables} {call : Call} {b c : List (List ℕ)} {v v' v'' : List ℕ} {r r' : ℕ} → Relays many (both t u) (λ (a : A). event call b (is a)) v v' r → Relays many (both t w) (λ (a : A). event call c (is a)) v v'' r' → (bars t call ≡ 0 → Trusts (means t call).trusts sound t) → (r ≡ r') × ((v' ≡ v'') × ((b ≡ c) × (u ≡ w)))
relays-unique sound {many = many} h g trust =
    let same = kept_same sound h.kept g.kept trust in
    let told = tells-same (ap (said many) same.0) h.tells g.tells in
    (told.0, (told.1, same.1))

-- where, on any tables
pub pointed-unique : {t u w : Tables} {car : ℕ} {v v' v'' : List Float} {r r' : ℕ} → Pointed (both t u) car v v' r → Pointed (both t w) car v v'' r' → (r ≡ r') × ((v' ≡ v'') × (u ≡ w))
unfolding meaning
pointed-unique h g =
    let same = kept_same true h.kept g.kept (λ z. tt) in
    let told = points-same same.0 h.tells g.tells in
    (told.0, (told.1, same.1.1))

-- soundness, on any tables: they are not both sound and not
module _ {t : Tables} where
  yes-and-no : Keeps (both t t) (soundness_told (Ok true)) → Keeps (both t t) (soundness_told (Ok false)) → ⊥
  unfolding meaning
  yes-and-no k l = never false (λ (s : Sound t). never true s)
    where
      never : (sound : Bool) → Trusts verdict sound t → ⊥
      never sound trust = let e = (kept_same sound k l (λ z. trust)).0 in let z : ◌≡◌ {A = ℕ} 0 1 = cc in omega arith

  refused-same : (n : ℕ) {y : Answer Values} → Keeps (both t t) (event ask_soundness [] (refuse n)) → Keeps (both t t) (event ask_soundness [] y) → refuse n ≡ y
  unfolding meaning
  refused-same n k l = by-refusal (bars t ask_soundness) (λ z. absurd (k.passes z n refl).0) (λ f. (kept_same true k l (λ z. absurd (f z))).0)

  verdict-same : (x y : Told Bool Refusal) → Keeps (both t t) (soundness_told x) → Keeps (both t t) (soundness_told y) → soundness_is x ≡ soundness_is y
  verdict-same (Err r) y k l = refused-same (number_of r) k l
  verdict-same (Ok a) (Err r) k l = sym (refused-same (number_of r) l k)
  verdict-same (Ok true) (Ok true) k l = refl
  verdict-same (Ok true) (Ok false) k l = absurd (yes-and-no k l)
  verdict-same (Ok false) (Ok true) k l = absurd (yes-and-no l k)
  verdict-same (Ok false) (Ok false) k l = refl

  pub soundness-unique : {v v' v'' : List ℕ} {r r' : ℕ} → Relays 1 (both t t) soundness_told v v' r → Relays 1 (both t t) soundness_told v v'' r' → (r ≡ r') × (v' ≡ v'')
  soundness-unique h g = tells-same (ap (said 1) (verdict-same h.answer g.answer h.kept g.kept)) h.tells g.tells

-- ---- calls without tables

pub gives-unique : {many : ℕ} {given : Result (List ℕ)} {b c : List (List ℕ)} {v v' v'' : List ℕ} {r r' : ℕ} → Gives many given b v v' r → Gives many given c v v'' r' → (r ≡ r') × ((v' ≡ v'') × (b ≡ c))
gives-unique h g = let told = tells-same refl h.tells g.tells in (told.0, (told.1, h.left ∙ sym g.left))

-- ---- the log, on ready tables

pub logs-unique : {f : Filled} {t u w : Tables} {piece b b₁ b₂ o o₁ o₂ v v₁ v₂ : List ℕ} {r r' : ℕ} → Ready t → Logs f (both t u) piece b b₁ o o₁ v v₁ r → Logs f (both t w) piece b b₂ o o₂ v v₂ r' → (r ≡ r') × (v₁ ≡ v₂) × (u ≡ w) × (b₁ ≡ b₂) × (o₁ ≡ o₂)
logs-unique {v = v} ready h g =
    let same = fills-unique ready h.kept g.kept in
    let says = ap filling_says same.0 in
    (h.tells.number ∙ ap (λ (l : List ℕ). get_or l 0 0) says ∙ sym g.tells.number, h.tells.values ∙ ap (λ (l : List ℕ). sets v 0 (drop 1 l)) says ∙ sym g.tells.values, same.1, same.2, same.3)
