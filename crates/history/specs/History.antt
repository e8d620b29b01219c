-- Any sequence of calls, each with what its promise allows; and what such a history says, from the calls and answers alone.
use Rattle.std.specs.Prelude.{Bool, true, ◌&&◌, List, [], ◌∷◌, eqb}
use Rattle.std.specs.declared.result.Result.TheVariants.{Ok}
use Rattle.squares.specs.Squares.{squares}
use Rattle.model.specs.Model.{Town, nowhere, Event, change, after, Lengths}
use Rattle.model.specs.declared.opening.Opening.{Opening}
use Rattle.tables.specs.Tables.{Tables, tables}
use Rattle.tables.specs.Lent.{both}
use Rattle.tables.specs.Steps.{step}
use Rattle.promises.specs.Promise.{Keeps}
use Rattle.promises.specs.Events.{opened}

-- from an accepted open on, the newest call first, with the tables then
pub data History : List Event → Tables → Type 0 where
  begins : {o : Opening} {t t' : Tables} → Keeps (both t t') (opened o (Ok (tt {0}))) → History (opened o (Ok (tt {0})) ∷ []) t'
  goes : {es : List Event} {t t' : Tables} (e : Event) → History es t → Keeps (both t t') e → History (e ∷ es) t'

-- the town that it says: the last accepted open, the zones that stand, each car's last accepted report
unfoldable pub said : List Event → Town
said [] = nowhere
said (e ∷ es) = after (change e) (said es)

-- what it says of the lengths: they are the last open's, and another open's where that calls for the same
abbrev pub alike : Opening → Opening → Bool
alike o q = eqb (squares o.shape) (squares q.shape) && (eqb o.zones q.zones && (eqb o.cars q.cars && eqb o.entries q.entries))

abbrev pub lengths_said : List Event → Lengths
lengths_said es = record { own = true; asked = alike (said es).opening }

-- the tables that it says, to the byte; the first call is an open, which asks nothing of what was there
unfoldable pub replayed : List Event → Tables
replayed [] = tables [] [] [] [] [] [] [] []
replayed (e ∷ es) = step (change e) (replayed es)
