-- What every call on the tables promises: one promise, read by the call.
use Rattle.std.specs.Prelude.{ℕ, ◌≡◌, ◌⊎◌, Bool, true, false, List, [], ◌∷◌}
use denote.Triple.Both.{Both}
use Rattle.squares.specs.Refusals.{Bar, refuse}
use Rattle.model.specs.Model.{Call, Event, change, Lengths, Gap, shut, gap, verdict, Meaning, meaning, barred, refused, outcome}
use Rattle.model.specs.declared.opening.Opening.{Opening}
use Rattle.tables.specs.Tables.{Tables, town_of}
use Rattle.tables.specs.Check.{long, sized}
use Rattle.tables.specs.Sound.{Sound}
use Rattle.tables.specs.Steps.{step}

-- what a call is told of the lengths of the tables
abbrev pub lengths_in : Tables → Lengths
lengths_in t = record { own = sized t; asked = λ (o : Opening). long o.shape o.zones o.cars o.entries t }

-- what a call means on the tables; the number that bars it, or 0
abbrev pub means : Tables → Call → Meaning
means t call = meaning (lengths_in t) (town_of t) call

abbrev pub bars : Tables → Call → ℕ
bars t call = barred (lengths_in t) (town_of t) call

-- where an outcome is set. On unsound tables that of most calls is free: document 01's one gap
abbrev pub Trusts : Gap → Bool → Tables → Type 0
Trusts shut sound t = Unit {0}
Trusts gap sound t = Sound t
Trusts verdict true t = Sound t
Trusts verdict false t = Sound t → ⊥

-- n is the number of one of some tests
abbrev pub Named : ℕ → List Bar → Type 0
Named n [] = ⊥
Named n (x ∷ l) = (n ≡ x.1) ⊎ Named n l

-- t has the tables at entry and at exit; e is the call with what it left
pub record Keeps (t : Both Tables Tables) (e : Event) : Type 0 where
  -- on any tables a call that is barred answers that number, and nothing changes
  pub refuses : (bars t.entry e.call ≡ 0 → ⊥) → (e ≡ refused (lengths_in t.entry) (town_of t.entry) e.call (bars t.entry e.call)) × (t.exit ≡ t.entry)
  -- on any tables a call that is not barred is not refused, a late number apart, and then nothing changes
  pub passes : bars t.entry e.call ≡ 0 → (n : ℕ) → e.result.answer ≡ refuse n → Named n (means t.entry e.call).late × (e ≡ refused (lengths_in t.entry) (town_of t.entry) e.call n) × (t.exit ≡ t.entry)
  -- where its outcome is set it leaves the model's, and the tables are the step of its change
  pub does : bars t.entry e.call ≡ 0 → (sound : Bool) → Trusts (means t.entry e.call).trusts sound t.entry → (e ≡ outcome (lengths_in t.entry) sound (town_of t.entry) e.call) × (t.exit ≡ step (change e) t.entry)
