-- `sound`: the zones fit, and so do the cars, the entries, the starts, the rosters and the tallies are right, asked in this order.
use mathlib.Core.Bool.{true}
use mathlib.Core.Path.{◌≡◌, sym, ◌∙◌}
use borrow.Author.Tests.{not-true, not-false}
use lib.ListN.{length}
use Rattle.order.specs.BufferLaws.{count-front}
use Rattle.tables.specs.Lent.{given_read}
use Rattle.soundness.specs.Tests.{every, zone_fits, car_fits, entries_right, start_right, in_use}
use Rattle.soundness.specs.SweepLaws.{starts-front, Known, zoned, parked, fitting, riding, starts-few, bytes-many, rows-there, numbers-many, last-start, entries-few, unsound-zones, unsound-cars, unsound-entries, unsound-starts, unsound-rosters, sound-tallies}
use Rattle.soundness.proofs.sweep.sound.Goals as goal

pub all_fit-requires : goal.all_fit-requires
all_fit-requires c =
    let known : Known (given_read c.args.town) c.shape_in-s.result c.wide-Z.result c.wide-C.result = record { size = c.requires; shape = c.shape_in-s.ensures; zones = c.wide-Z.ensures ∙ c.zone_room.ensures; cars = c.wide-C.ensures ∙ c.car_room.ensures } in
    zoned known

pub returns-then-not-all_fit : goal.returns-then-not-all_fit
returns-then-not-all_fit c =
    let known : Known (given_read c.args.town) c.shape_in-s.result c.wide-Z.result c.wide-C.result = record { size = c.requires; shape = c.shape_in-s.ensures; zones = c.wide-Z.ensures ∙ c.zone_room.ensures; cars = c.wide-C.ensures ∙ c.car_room.ensures } in
    unsound-zones known (sym c.all_fit.ensures ∙ not-true _ c.if-not-all_fit.true-raw)

pub all_fit-requires-2 : goal.all_fit-requires-2
all_fit-requires-2 c =
    let known : Known (given_read c.args.town) c.shape_in-s.result c.wide-Z.result c.wide-C.result = record { size = c.requires; shape = c.shape_in-s.ensures; zones = c.wide-Z.ensures ∙ c.zone_room.ensures; cars = c.wide-C.ensures ∙ c.car_room.ensures } in
    parked known

pub returns-then-not-all_fit-2 : goal.returns-then-not-all_fit-2
returns-then-not-all_fit-2 c =
    let zones-right : every (zone_fits c.shape_in-s.result (given_read c.args.town).records.zones) c.wide-Z.result ≡ true = sym c.all_fit.ensures ∙ not-false _ c.if-not-all_fit.false-raw in
    let known : Known (given_read c.args.town) c.shape_in-s.result c.wide-Z.result c.wide-C.result = record { size = c.requires; shape = c.shape_in-s.ensures; zones = c.wide-Z.ensures ∙ c.zone_room.ensures; cars = c.wide-C.ensures ∙ c.car_room.ensures } in
    unsound-cars known zones-right (sym c.all_fit-2.ensures ∙ not-true _ c.if-not-all_fit-2.true-raw)

pub entries_right-requires : goal.entries_right-requires
entries_right-requires c =
    let zones-right : every (zone_fits c.shape_in-s.result (given_read c.args.town).records.zones) c.wide-Z.result ≡ true = sym c.all_fit.ensures ∙ not-false _ c.if-not-all_fit.false-raw in
    let known : Known (given_read c.args.town) c.shape_in-s.result c.wide-Z.result c.wide-C.result = record { size = c.requires; shape = c.shape_in-s.ensures; zones = c.wide-Z.ensures ∙ c.zone_room.ensures; cars = c.wide-C.ensures ∙ c.car_room.ensures } in
    fitting known zones-right

pub returns-then-not-entries_right : goal.returns-then-not-entries_right
returns-then-not-entries_right c =
    let known : Known (given_read c.args.town) c.shape_in-s.result c.wide-Z.result c.wide-C.result = record { size = c.requires; shape = c.shape_in-s.ensures; zones = c.wide-Z.ensures ∙ c.zone_room.ensures; cars = c.wide-C.ensures ∙ c.car_room.ensures } in
    let last : c.wide-u.result ≡ in_use (given_read c.args.town) = last-start known _ c.wide-u.ensures in
    let cars-right : every (car_fits c.shape_in-s.result (given_read c.args.town).records.cars (given_read c.args.town).records.spots) c.wide-C.result ≡ true = sym c.all_fit-2.ensures ∙ not-false _ c.if-not-all_fit-2.false-raw in
    let zones-right : every (zone_fits c.shape_in-s.result (given_read c.args.town).records.zones) c.wide-Z.result ≡ true = sym c.all_fit.ensures ∙ not-false _ c.if-not-all_fit.false-raw in
    unsound-entries known zones-right cars-right _ last (sym c.entries_right.ensures ∙ not-true _ c.if-not-entries_right.true-raw)

pub slice_bounds-starts_right-end : goal.slice_bounds-starts_right-end
slice_bounds-starts_right-end c =
    let lists-right : entries_right c.shape_in-s.result c.wide-Z.result (given_read c.args.town).records.zones (given_read c.args.town).derived.entries c.wide-u.result ≡ true = sym c.entries_right.ensures ∙ not-false _ c.if-not-entries_right.false-raw in
    count-front _ _ (entries-few _ _ _ _ _ lists-right)

pub starts_right-requires : goal.starts_right-requires
starts_right-requires c =
    let known : Known (given_read c.args.town) c.shape_in-s.result c.wide-Z.result c.wide-C.result = record { size = c.requires; shape = c.shape_in-s.ensures; zones = c.wide-Z.ensures ∙ c.zone_room.ensures; cars = c.wide-C.ensures ∙ c.car_room.ensures } in
    starts-few known

pub returns-then-not-starts_right : goal.returns-then-not-starts_right
returns-then-not-starts_right c =
    let lists-right : entries_right c.shape_in-s.result c.wide-Z.result (given_read c.args.town).records.zones (given_read c.args.town).derived.entries c.wide-u.result ≡ true = sym c.entries_right.ensures ∙ not-false _ c.if-not-entries_right.false-raw in
    let known : Known (given_read c.args.town) c.shape_in-s.result c.wide-Z.result c.wide-C.result = record { size = c.requires; shape = c.shape_in-s.ensures; zones = c.wide-Z.ensures ∙ c.zone_room.ensures; cars = c.wide-C.ensures ∙ c.car_room.ensures } in
    let last : c.wide-u.result ≡ in_use (given_read c.args.town) = last-start known _ c.wide-u.ensures in
    let cars-right : every (car_fits c.shape_in-s.result (given_read c.args.town).records.cars (given_read c.args.town).records.spots) c.wide-C.result ≡ true = sym c.all_fit-2.ensures ∙ not-false _ c.if-not-all_fit-2.false-raw in
    let zones-right : every (zone_fits c.shape_in-s.result (given_read c.args.town).records.zones) c.wide-Z.result ≡ true = sym c.all_fit.ensures ∙ not-false _ c.if-not-all_fit.false-raw in
    unsound-starts known zones-right cars-right _ last lists-right (sym (c.starts_right.ensures ∙ starts-front _ _ (entries-few _ _ _ _ _ lists-right) _) ∙ not-true _ c.if-not-starts_right.true-raw)

pub rosters_right-requires : goal.rosters_right-requires
rosters_right-requires c =
    let cars-right : every (car_fits c.shape_in-s.result (given_read c.args.town).records.cars (given_read c.args.town).records.spots) c.wide-C.result ≡ true = sym c.all_fit-2.ensures ∙ not-false _ c.if-not-all_fit-2.false-raw in
    let zones-right : every (zone_fits c.shape_in-s.result (given_read c.args.town).records.zones) c.wide-Z.result ≡ true = sym c.all_fit.ensures ∙ not-false _ c.if-not-all_fit.false-raw in
    let known : Known (given_read c.args.town) c.shape_in-s.result c.wide-Z.result c.wide-C.result = record { size = c.requires; shape = c.shape_in-s.ensures; zones = c.wide-Z.ensures ∙ c.zone_room.ensures; cars = c.wide-C.ensures ∙ c.car_room.ensures } in
    let k = known in
    record { fitting = fitting k zones-right; riding = riding k cars-right; rosters_len = bytes-many k }

pub returns-then-not-rosters_right : goal.returns-then-not-rosters_right
returns-then-not-rosters_right c =
    let lists-right : entries_right c.shape_in-s.result c.wide-Z.result (given_read c.args.town).records.zones (given_read c.args.town).derived.entries c.wide-u.result ≡ true = sym c.entries_right.ensures ∙ not-false _ c.if-not-entries_right.false-raw in
    let starts-right : let at = (given_read c.args.town) in every (start_right at.derived.starts at.derived.entries c.wide-u.result) (length at.derived.starts) ≡ true = sym (c.starts_right.ensures ∙ starts-front _ _ (entries-few _ _ _ _ _ lists-right) _) ∙ not-false _ c.if-not-starts_right.false-raw in
    let known : Known (given_read c.args.town) c.shape_in-s.result c.wide-Z.result c.wide-C.result = record { size = c.requires; shape = c.shape_in-s.ensures; zones = c.wide-Z.ensures ∙ c.zone_room.ensures; cars = c.wide-C.ensures ∙ c.car_room.ensures } in
    let last : c.wide-u.result ≡ in_use (given_read c.args.town) = last-start known _ c.wide-u.ensures in
    let cars-right : every (car_fits c.shape_in-s.result (given_read c.args.town).records.cars (given_read c.args.town).records.spots) c.wide-C.result ≡ true = sym c.all_fit-2.ensures ∙ not-false _ c.if-not-all_fit-2.false-raw in
    let zones-right : every (zone_fits c.shape_in-s.result (given_read c.args.town).records.zones) c.wide-Z.result ≡ true = sym c.all_fit.ensures ∙ not-false _ c.if-not-all_fit.false-raw in
    unsound-rosters known zones-right cars-right _ last lists-right starts-right (sym c.rosters_right.ensures ∙ not-true _ c.if-not-rosters_right.true-raw)

pub tallies_right-requires : goal.tallies_right-requires
tallies_right-requires c =
    let known : Known (given_read c.args.town) c.shape_in-s.result c.wide-Z.result c.wide-C.result = record { size = c.requires; shape = c.shape_in-s.ensures; zones = c.wide-Z.ensures ∙ c.zone_room.ensures; cars = c.wide-C.ensures ∙ c.car_room.ensures } in
    let k = known in record { by_index = rows-there k; tallies_len = numbers-many k }

pub returns : goal.returns
returns c =
    let lists-right : entries_right c.shape_in-s.result c.wide-Z.result (given_read c.args.town).records.zones (given_read c.args.town).derived.entries c.wide-u.result ≡ true = sym c.entries_right.ensures ∙ not-false _ c.if-not-entries_right.false-raw in
    let starts-right : let at = (given_read c.args.town) in every (start_right at.derived.starts at.derived.entries c.wide-u.result) (length at.derived.starts) ≡ true = sym (c.starts_right.ensures ∙ starts-front _ _ (entries-few _ _ _ _ _ lists-right) _) ∙ not-false _ c.if-not-starts_right.false-raw in
    let known : Known (given_read c.args.town) c.shape_in-s.result c.wide-Z.result c.wide-C.result = record { size = c.requires; shape = c.shape_in-s.ensures; zones = c.wide-Z.ensures ∙ c.zone_room.ensures; cars = c.wide-C.ensures ∙ c.car_room.ensures } in
    let last : c.wide-u.result ≡ in_use (given_read c.args.town) = last-start known _ c.wide-u.ensures in
    let cars-right : every (car_fits c.shape_in-s.result (given_read c.args.town).records.cars (given_read c.args.town).records.spots) c.wide-C.result ≡ true = sym c.all_fit-2.ensures ∙ not-false _ c.if-not-all_fit-2.false-raw in
    let zones-right : every (zone_fits c.shape_in-s.result (given_read c.args.town).records.zones) c.wide-Z.result ≡ true = sym c.all_fit.ensures ∙ not-false _ c.if-not-all_fit.false-raw in
    c.tallies_right.ensures ∙ sound-tallies known zones-right cars-right _ last lists-right starts-right (sym c.rosters_right.ensures ∙ not-false _ c.if-not-rosters_right.false-raw)
