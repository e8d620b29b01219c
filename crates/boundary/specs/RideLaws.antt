-- A ride's signed numbers come to the call beneath as the machine has them, and are read back as they were lent.
use Rattle.std.specs.Prelude.{ℕ, List, ℤ}
use denote.Triple.Both.{Both}
use Rattle.std.specs.Int.{w32}
use Rattle.std.proofs.Common.{SFits, to_z, of_z}
use Rattle.std.proofs.lemmas.Int.{to_z-of_z}
use Rattle.squares.specs.Refusals.{Answer}
use Rattle.model.specs.Answers.{Values}
use Rattle.model.specs.Model.{riding}
use Rattle.tables.specs.Tables.{Tables}
use Rattle.promises.specs.Promise.{Keeps}
use Rattle.promises.specs.Events.{event}

pub ride-kept : {t : Both Tables Tables} {z : ℕ} {dx dy : ℤ} {entered left : List ℕ} {buffers : List (List ℕ)} {a : Answer Values} → SFits w32 dx → SFits w32 dy → Keeps t (event (riding z (to_z w32 (of_z w32 dx)) (to_z w32 (of_z w32 dy)) entered left) buffers a) → Keeps t (event (riding z dx dy entered left) buffers a)
ride-kept {dx = dx} {dy = dy} f g k = rw (to_z-of_z w32 dx f, to_z-of_z w32 dy g) at k
