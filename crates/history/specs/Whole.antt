-- Document 01's whole case is a history, and its answers compute.
use Rattle.std.specs.Prelude.{◌≡◌, refl, true, List, [], ◌∷◌, replicate}
use Rattle.std.proofs.Common.{sym}
use Rattle.std.specs.Float.Ieee.{of_bits, to_bits, is_nan}
use Rattle.std.specs.declared.result.Result.TheVariants.{Ok, Err}
use Rattle.order.specs.Order.{span, keep}
use Rattle.order.specs.Sums.{sum}
use Rattle.squares.specs.declared.refusal.Refusal.{Refusal}
use Rattle.squares.specs.Squares.{number, corner_x, corner_y, interleave, evens}
use Rattle.cuts.specs.Cut.{cut_to, in_cut, inside}
use Rattle.squares.specs.ShapeLaws.{allowed→}
use Rattle.squares.specs.Refusals.{first}
use Rattle.squares.specs.RefusalLaws.{stops}
use Rattle.position.specs.Cell.{whole, in_range, on_map, cell_of}
use Rattle.position.specs.Answer.{on_town, column_of, row_of}
use Rattle.model.specs.Answers.{done_is, added_is, reported_is, left_is, count_is}
use Rattle.model.specs.Model.{Call, opening, adding, reporting, leaving, ask_roster, Event, meaning, outcome}
use Rattle.model.specs.Whole.{asked, rect, at, near, far, zones, cars}
use Rattle.tables.specs.Tables.{Tables}
use Rattle.tables.specs.CheckLaws.{roomy→, →long, size_of}
use Rattle.tables.specs.Steps.{empty_town}
use Rattle.edits.specs.EmptyLaws.{empty-sound}
use Rattle.promises.specs.Promise.{means, bars}
use Rattle.promises.specs.Events.{event}
use Rattle.history.specs.History.{History, said, lengths_said}
use Rattle.history.specs.Sentences.{history-begins, history-goes}

-- M 2 4 4                  -> M 0
unfoldable pub opens : List Event
opens = event (opening asked) [] (done_is (Ok (tt {0}))) ∷ []

-- A 1 5 2 8 12             -> A 0 36 0
unfoldable pub adds : List Event
adds = event (adding 1 (rect 5 2 8 12)) [] (added_is (Ok (record { squares = 36; cars = 0 }))) ∷ opens

-- P 7 40B00000 40400000    -> P 0 3 1 -
unfoldable pub enters : List Event
enters = event (reporting 7 0 near zones zones) ((1 ∷ replicate 15 0) ∷ zones ∷ []) (reported_is (Ok (record { squares = 3; entered = 1; left = 0 }))) ∷ adds

-- P 7 41200000 41300000    -> P 0 6 - -
unfoldable pub moves : List Event
moves = event (reporting 7 0 far zones zones) (zones ∷ zones ∷ []) (reported_is (Ok (record { squares = 6; entered = 0; left = 0 }))) ∷ enters

-- R 1                      -> R 0 1 7
unfoldable pub lists : List Event
lists = event (ask_roster 1 cars) ((7 ∷ replicate 63 0) ∷ []) (count_is (Ok 1)) ∷ moves

-- A 1 0 0 1 1              -> A 6
unfoldable pub refuses : List Event
refuses = event (adding 1 (rect 0 0 1 1)) [] (added_is (Err Refusal.ZoneStands)) ∷ lists

-- L 7                      -> L 0 3 1
unfoldable pub leaves : List Event
leaves = event (leaving 7 zones) ((1 ∷ replicate 15 0) ∷ []) (left_is (Ok (record { squares = 3; zones = 1 }))) ∷ refuses

-- R 1                      -> R 0 0 -
unfoldable pub ends : List Event
ends = event (ask_roster 1 cars) (cars ∷ []) (count_is (Ok 0)) ∷ leaves

-- ---- the answers compute

adds-computes : outcome (lengths_said opens) true (said opens) (adding 1 (rect 5 2 8 12)) ∷ opens ≡ adds
unfolding opens adds said first meaning asked rect at keep span sum on_town column_of row_of on_map in_range whole cell_of of_bits to_bits is_nan number interleave cut_to in_cut inside corner_x corner_y evens
adds-computes = refl

enters-computes : outcome (lengths_said adds) true (said adds) (reporting 7 0 near zones zones) ∷ adds ≡ enters
unfolding opens adds enters said first meaning asked rect at keep span sum on_town column_of row_of on_map in_range whole cell_of of_bits to_bits is_nan number interleave cut_to in_cut inside corner_x corner_y evens
enters-computes = refl

moves-computes : outcome (lengths_said enters) true (said enters) (reporting 7 0 far zones zones) ∷ enters ≡ moves
unfolding opens adds enters moves said first meaning asked rect at keep span sum on_town column_of row_of on_map in_range whole cell_of of_bits to_bits is_nan number interleave cut_to in_cut inside corner_x corner_y evens
moves-computes = refl

lists-computes : outcome (lengths_said moves) true (said moves) (ask_roster 1 cars) ∷ moves ≡ lists
unfolding opens adds enters moves lists said first meaning asked rect at keep span sum on_town column_of row_of on_map in_range whole cell_of of_bits to_bits is_nan number interleave cut_to in_cut inside corner_x corner_y evens
lists-computes = refl

refuses-computes : outcome (lengths_said lists) true (said lists) (adding 1 (rect 0 0 1 1)) ∷ lists ≡ refuses
unfolding opens adds enters moves lists refuses said first meaning asked rect at keep span sum on_town column_of row_of on_map in_range whole cell_of of_bits to_bits is_nan number interleave cut_to in_cut inside corner_x corner_y evens
refuses-computes = refl

leaves-computes : outcome (lengths_said refuses) true (said refuses) (leaving 7 zones) ∷ refuses ≡ leaves
unfolding opens adds enters moves lists refuses leaves said first meaning asked rect at keep span sum on_town column_of row_of on_map in_range whole cell_of of_bits to_bits is_nan number interleave cut_to in_cut inside corner_x corner_y evens
leaves-computes = refl

ends-computes : outcome (lengths_said leaves) true (said leaves) (ask_roster 1 cars) ∷ leaves ≡ ends
unfolding opens adds enters moves lists refuses leaves ends said first meaning asked rect at keep span sum on_town column_of row_of on_map in_range whole cell_of of_bits to_bits is_nan number interleave cut_to in_cut inside corner_x corner_y evens
ends-computes = refl

-- ---- and they are a history

goes_on : {es fs : List Event} → (t : Tables) × History es t → (call : Call) → outcome (lengths_said es) true (said es) call ∷ es ≡ fs → (t : Tables) × History fs t
goes_on k call e = rw e at (history-goes k.1 call)

-- on tables of the lengths that the open calls for
open-taken : bars (empty_town asked) (opening asked) ≡ 0
unfolding asked meaning
open-taken = sym (stops 3 (means (empty_town asked) (opening asked)).checks (refl, (refl, (→long asked.shape 16 64 2048 (empty_town asked) (size_of (empty-sound asked (allowed→ asked.shape refl) (roomy→ 16 64 2048 refl))).lengths, tt))))

pub history : (t : Tables) × History ends t
unfolding opens
history =
    let a : (t : Tables) × History opens t = (empty_town asked, history-begins asked (empty_town asked) open-taken) in
    let b = goes_on a (adding 1 (rect 5 2 8 12)) adds-computes in
    let c = goes_on b (reporting 7 0 near zones zones) enters-computes in
    let d = goes_on c (reporting 7 0 far zones zones) moves-computes in
    let e = goes_on d (ask_roster 1 cars) lists-computes in
    let f = goes_on e (adding 1 (rect 0 0 1 1)) refuses-computes in
    let g = goes_on f (leaving 7 zones) leaves-computes in
    goes_on g (ask_roster 1 cars) ends-computes
