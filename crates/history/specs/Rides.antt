-- Rides after any history, sentence by sentence.
use Rattle.std.specs.Prelude.{ℕ, ◌<◌, ◌≡◌, List, [], ◌∷◌, ℤ, pos, length}
use Rattle.std.proofs.Math.Path.{refl, ap}
use Rattle.std.proofs.Common.{sym, subst, ◌∙◌, arith}
use Rattle.std.proofs.Math.ListN.{get_or}
use borrow.Author.Tests.{ltb-true}
use Rattle.std.specs.declared.result.Result.{Result as Told}
use Rattle.std.specs.declared.result.Result.TheVariants.{Ok}
use Rattle.order.specs.Order.{over}
use Rattle.squares.specs.declared.refusal.Refusal.{Refusal}
use Rattle.squares.specs.Ride.{ridden}
use Rattle.squares.specs.Refusals.{accept, Result}
use Rattle.squares.specs.RefusalLaws.{clear}
use Rattle.model.specs.declared.answers.Ridden.{Ridden}
use Rattle.model.specs.Answers.{Values, ridden_is}
use Rattle.model.specs.AnswerLaws.{ridden-same}
use Rattle.model.specs.Model.{Town, roster, adding, removing, riding, Event, zone_moved, zone_on, after, cars_more, squares_more, meaning, refusal}
use Rattle.model.specs.RideLaws.{ride-other, none_more, no-squares}
use Rattle.tables.specs.Tables.{Tables, zone_room, rect_of, town_of}
use Rattle.tables.specs.CheckLaws.{size_of}
use Rattle.tables.specs.Lent.{both}
use Rattle.tables.specs.Steps.{step}
use Rattle.edits.specs.RideLaws.{ride-again, ride-still}
use Rattle.promises.specs.Promise.{means, bars, Keeps}
use Rattle.promises.specs.Events.{event}
use Rattle.promises.specs.PromiseLaws.{keeps-clear}
use Rattle.history.specs.History.{History, said, lengths_said}
use Rattle.history.specs.HistoryLaws.{next}
use Rattle.history.specs.Sentences.{sound-after, town-after, accepted-true}

module _ {es : List Event} {t : Tables} (h : History es t) where
  -- a ride drops the squares of the old cut that are not in the new one and takes up those of the new one that are not in the old; the
  -- cars that it writes are inside after it and not before, and inside before and not after
  pub ride-true : {t' : Tables} {z : ℕ} {dx dy : ℤ} {e e' l l' : List ℕ} {answer : Told Ridden Refusal} → Keeps (both t t') (event (riding z dx dy e l) (e' ∷ l' ∷ []) (ridden_is answer)) → refusal (lengths_said es) (said es) (riding z dx dy e l) ≡ 0 → let m = said es in let m' = after (zone_moved z dx dy) m in (answer ≡ Ok (record { dropped = length (squares_more m m' z); taken = length (squares_more m' m z); entered = length (cars_more m' m z); left = length (cars_more m m' z) })) × (e' ≡ over (cars_more m' m z) e) × (l' ≡ over (cars_more m m' z) l)
  unfolding meaning
  ride-true {t'} {z} {dx} {dy} {e} {e'} {l} {l'} {answer} k q =
      let m = said es in
      let m' = after (zone_moved z dx dy) m in
      let a = accepted-true h (event (riding z dx dy e l) (e' ∷ l' ∷ []) (ridden_is answer)) t' k q in
      (ridden-same answer (Ok (record { dropped = length (squares_more m m' z); taken = length (squares_more m' m z); entered = length (cars_more m' m z); left = length (cars_more m m' z) })) (ap (λ (r : Result Values). r.answer) a), ap (λ (r : Result Values). get_or r.buffers 0 []) a, ap (λ (r : Result Values). get_or r.buffers 1 []) a)

  module _ {t' : Tables} {z : ℕ} {dx dy : ℤ} {buffers : List (List ℕ)} {e l : List ℕ} {v : Values} (k : Keeps (both t t') (event (riding z dx dy e l) buffers (accept v))) where
    none : bars t (riding z dx dy e l) ≡ 0
    none = keeps-clear (event (riding z dx dy e l) buffers (accept v)) v k refl

    there : z < zone_room t
    unfolding meaning
    there = ltb-true z (zone_room t) (clear (means t (riding z dx dy e l)).checks refl none).1.0

    is : t' ≡ step (zone_moved z dx dy) t
    is = (next t (sound-after h) t' (event (riding z dx dy e l) buffers (accept v)) k).is

    moved : town_of t' ≡ after (zone_moved z dx dy) (town_of t)
    moved = (next t (sound-after h) t' (event (riding z dx dy e l) buffers (accept v)) k).town

    -- another zone's roster stays
    pub ride-roster : (y : ℕ) → (y ≡ z → ⊥) → roster (said (event (riding z dx dy e l) buffers (accept v) ∷ es)) y ≡ roster (said es) y
    unfolding said
    ride-roster y f = ride-other (said es) z dx dy y f

    -- the tables are those that a remove and an add at the new place with the same number leave, where both are accepted: every byte
    pub ride-as-two : {t₁ t₂ : Tables} {v₁ v₂ : Values} → Keeps (both t t₁) (event (removing z) [] (accept v₁)) → Keeps (both t₁ t₂) (event (adding z (ridden dx dy (rect_of t z))) [] (accept v₂)) → t' ≡ t₂
    ride-as-two {t₁} {t₂} {v₁} {v₂} a b =
        let one = next t (sound-after h) t₁ (event (removing z) [] (accept v₁)) a in
        let two = next t₁ one.sound t₂ (event (adding z (ridden dx dy (rect_of t z))) [] (accept v₂)) b in
        is
        ∙ sym (ride-again t z (omega (arith, (size_of (sound-after h)).lengths.zones, there)) dx dy)
        ∙ ap (step (zone_on z (ridden dx dy (rect_of t z)))) (sym one.is)
        ∙ sym two.is

  -- a ride of nothing changes no byte, writes nothing and answers 0 four times
  pub ride-nothing : {t' : Tables} {z : ℕ} {e e' l l' : List ℕ} {answer : Told Ridden Refusal} → Keeps (both t t') (event (riding z (pos 0) (pos 0) e l) (e' ∷ l' ∷ []) (ridden_is answer)) → refusal (lengths_said es) (said es) (riding z (pos 0) (pos 0) e l) ≡ 0 → (answer ≡ Ok (record { dropped = 0; taken = 0; entered = 0; left = 0 })) × (e' ≡ e) × (l' ≡ l) × (t' ≡ t)
  ride-nothing {t'} {z} {e} {e'} {l} {l'} {answer} k q =
      let m = said es in
      let m' = after (zone_moved z (pos 0) (pos 0)) m in
      let told = ride-true k q in
      let done = subst (λ (a : Told Ridden Refusal). Keeps (both t t') (event (riding z (pos 0) (pos 0) e l) (e' ∷ l' ∷ []) (ridden_is a))) told.0 k in
      let same : t' ≡ t = is done ∙ ride-still t (sound-after h) z (there done) in
      let town : m' ≡ m = ap (after (zone_moved z (pos 0) (pos 0))) (sym (town-after h)) ∙ sym (moved done) ∙ ap town_of same ∙ town-after h in
      (told.0 ∙ ap (λ (n : Town). Ok (record { dropped = length (squares_more m n z); taken = length (squares_more n m z); entered = length (cars_more n m z); left = length (cars_more m n z) })) town ∙ rw (no-squares m z, none_more m z), told.1 ∙ ap (λ (n : Town). over (cars_more n m z) e) town ∙ ap (λ (cars : List ℕ). over cars e) (none_more m z), told.2 ∙ ap (λ (n : Town). over (cars_more m n z) l) town ∙ ap (λ (cars : List ℕ). over cars l) (none_more m z), same)
