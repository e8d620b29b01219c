-- What the functions that write a zone's numbers make of the tallies, over plain lists.
use Rattle.std.specs.Prelude.{ℕ, ◌+◌, ◌*◌, ◌%◌, cond, List, [], ◌∷◌, length, nat_eq, nat_le, nat_lt, slice_index, slice_set}
use Rattle.std.proofs.lemmas.List.Edits.{sets}
use Rattle.order.specs.Order.{keep}
use Rattle.model.specs.Teams.{lead, ranked}
use Rattle.tables.specs.Tables.{tally}
use Rattle.tables.specs.Slots.{slot_in, tally_at}
use Rattle.tables.specs.Rows.{row}

-- ---- a zone's row of numbers

-- v added, around 2^32, to one of them; to its count and to that of team g
abbrev pub bumped : List ℕ → ℕ → ℕ → List ℕ
bumped r i v = slice_set r i ((slice_index r i + v) % 4294967296)

unfoldable pub raised : List ℕ → ℕ → ℕ → List ℕ
raised r g v = bumped (bumped r 0 v) (g + 1) v

-- its holder worked out from its counts
unfoldable pub settled : List ℕ → List ℕ
settled r = slice_set r 9 (lead (λ (g : ℕ). slice_index r (g + 1)))

-- both; a spectator's coming or going does not change the holder
unfoldable pub swung : List ℕ → ℕ → ℕ → List ℕ
swung r g v = cond (nat_lt 0 g) (settled (raised r g v)) (raised r g v)

-- a car of team g more, where its byte is not 0
abbrev pub joined : ℕ → ℕ → List ℕ → List ℕ
joined byte g r = cond (nat_lt 0 byte) (raised r g 1) r

-- the numbers of the cars whose bytes in a row of the rosters are not 0, by their records
abbrev pub squad_in : List ℕ → List ℕ → ℕ → ℕ → ℕ → ℕ
squad_in cars rosters from many g = length (keep (λ (c : ℕ). nat_eq (slot_in cars c) g) (row rosters from many))

unfoldable pub counted : List ℕ → List ℕ → ℕ → ℕ → List ℕ
counted cars rosters from many = length (row rosters from many) ∷ ranked (squad_in cars rosters from many)

-- ---- the tallies

-- zone z has v cars of team g more, where its row is there
unfoldable pub turned : List ℕ → ℕ → ℕ → ℕ → List ℕ
turned tallies z g v = cond (nat_le (z * tally + tally) (length tallies)) (sets tallies (z * tally) (swung (tally_at tallies z) g v)) tallies

-- and so has each zone of a list
unfoldable pub moved : List ℕ → List ℕ → ℕ → ℕ → List ℕ
moved tallies [] g v = tallies
moved tallies (z ∷ zs) g v = moved (turned tallies z g v) zs g v
