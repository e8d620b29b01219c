-- `see` enters where the car is off the map, sees nothing in its own cell, and crosses to any other.
use mathlib.Core.Bool.{true}
use mathlib.Core.Path.{◌≡◌}
use Rattle.std.proofs.Common.{rules}
use Rattle.squares.specs.RefusalLaws.{holds}
use Rattle.tables.specs.Tables.{placed_in}
use Rattle.cars.specs.SeeLaws.{old-map, sees-lost, sees-same, sees-crossing}
use Rattle.cars.proofs.report.see.Goals as goal

pub returns-in_default : goal.returns-in_default
returns-in_default c =
    let on : placed_in c.args.town.cars.now c.args.c ≡ true = holds c.placed_in.ensures (search rules) in
    sees-lost on c.requires.on_map.shape c.spot_in.ensures c.locate.ensures c.in_default.is c.enter-in_default.ensures

pub returns-then-eq : goal.returns-then-eq
returns-then-eq c =
    let on : placed_in c.args.town.cars.now c.args.c ≡ true = holds c.placed_in.ensures (search rules) in
    sees-same on c.requires.on_map.shape c.spot_in.ensures c.locate.ensures c.in-Some.is (search rules) (search rules)

pub cross-requires-clause-on_map : goal.cross-requires-clause-on_map
cross-requires-clause-on_map c =
    old-map c.requires.on_map.shape c.spot_in.ensures c.locate.ensures c.in-Some.is

pub returns : goal.returns
returns c =
    let on : placed_in c.args.town.cars.now c.args.c ≡ true = holds c.placed_in.ensures (search rules) in
    sees-crossing on c.requires.on_map.shape c.spot_in.ensures c.locate.ensures c.in-Some.is c.cross.ensures
