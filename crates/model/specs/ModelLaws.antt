-- Laws of the model: no refusal has the number 0, and only soundness answers by whether the tables are sound.
use Rattle.std.specs.Prelude.{◌≡◌, true, false}
use Rattle.std.proofs.Math.Path.{refl}
use Rattle.squares.specs.RefusalLaws.{numbered}
use Rattle.model.specs.Model.{Town, Call, opening, adding, removing, riding, reporting, leaving, searching, ask_scoring, ask_roster, ask_count, ask_holder, ask_where, ask_soundness, Lengths, verdict, meaning}

module _ (l : Lengths) (m : Town) where
  pub checks-numbered : (call : Call) → numbered (meaning l m call).checks ≡ true
  unfolding meaning
  checks-numbered (opening o) = refl
  checks-numbered (adding z r) = refl
  checks-numbered (removing z) = refl
  checks-numbered (riding z dx dy entered left) = refl
  checks-numbered (reporting c g p entered left) = refl
  checks-numbered (leaving c left) = refl
  checks-numbered (searching p found) = refl
  checks-numbered (ask_scoring p) = refl
  checks-numbered (ask_roster z inside) = refl
  checks-numbered (ask_count z) = refl
  checks-numbered (ask_holder z) = refl
  checks-numbered (ask_where c) = refl
  checks-numbered ask_soundness = refl

  pub steady : (call : Call) → ((meaning l m call).trusts ≡ verdict → ⊥) → (meaning l m call).gives true ≡ (meaning l m call).gives false
  unfolding meaning
  steady (opening o) f = refl
  steady (adding z r) f = refl
  steady (removing z) f = refl
  steady (riding z dx dy entered left) f = refl
  steady (reporting c g p entered left) f = refl
  steady (leaving c left) f = refl
  steady (searching p found) f = refl
  steady (ask_scoring p) f = refl
  steady (ask_roster z inside) f = refl
  steady (ask_count z) f = refl
  steady (ask_holder z) f = refl
  steady (ask_where c) f = refl
  steady ask_soundness f = absurd (f refl)
