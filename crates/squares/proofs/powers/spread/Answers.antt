-- The bits of a number spread: each number of the table is its own by the definition.
use Rattle.std.proofs.Common.{refl}
use Rattle.squares.specs.Squares.{interleave}
use Rattle.squares.specs.SquareLaws.{spread_at}
use Rattle.squares.proofs.powers.spread.Goals as goal

pub returns-in-0 : goal.returns-in-0
unfolding interleave
returns-in-0 c = spread_at c.requires c.in-0.is refl

pub returns-in-1 : goal.returns-in-1
unfolding interleave
returns-in-1 c = spread_at c.requires c.in-1.is refl

pub returns-in-2 : goal.returns-in-2
unfolding interleave
returns-in-2 c = spread_at c.requires c.in-2.is refl

pub returns-in-3 : goal.returns-in-3
unfolding interleave
returns-in-3 c = spread_at c.requires c.in-3.is refl

pub returns-in-4 : goal.returns-in-4
unfolding interleave
returns-in-4 c = spread_at c.requires c.in-4.is refl

pub returns-in-5 : goal.returns-in-5
unfolding interleave
returns-in-5 c = spread_at c.requires c.in-5.is refl

pub returns-in-6 : goal.returns-in-6
unfolding interleave
returns-in-6 c = spread_at c.requires c.in-6.is refl

pub returns-in-7 : goal.returns-in-7
unfolding interleave
returns-in-7 c = spread_at c.requires c.in-7.is refl

pub returns-in-8 : goal.returns-in-8
unfolding interleave
returns-in-8 c = spread_at c.requires c.in-8.is refl

pub returns-in-9 : goal.returns-in-9
unfolding interleave
returns-in-9 c = spread_at c.requires c.in-9.is refl

pub returns-in-10 : goal.returns-in-10
unfolding interleave
returns-in-10 c = spread_at c.requires c.in-10.is refl

pub returns-in-11 : goal.returns-in-11
unfolding interleave
returns-in-11 c = spread_at c.requires c.in-11.is refl

pub returns-in-12 : goal.returns-in-12
unfolding interleave
returns-in-12 c = spread_at c.requires c.in-12.is refl

pub returns-in-13 : goal.returns-in-13
unfolding interleave
returns-in-13 c = spread_at c.requires c.in-13.is refl

pub returns-in-14 : goal.returns-in-14
unfolding interleave
returns-in-14 c = spread_at c.requires c.in-14.is refl

pub returns-in-15 : goal.returns-in-15
unfolding interleave
returns-in-15 c = spread_at c.requires c.in-15.is refl

pub returns-in-16 : goal.returns-in-16
unfolding interleave
returns-in-16 c = spread_at c.requires c.in-16.is refl

pub returns-in-17 : goal.returns-in-17
unfolding interleave
returns-in-17 c = spread_at c.requires c.in-17.is refl

pub returns-in-18 : goal.returns-in-18
unfolding interleave
returns-in-18 c = spread_at c.requires c.in-18.is refl

pub returns-in-19 : goal.returns-in-19
unfolding interleave
returns-in-19 c = spread_at c.requires c.in-19.is refl

pub returns-in-20 : goal.returns-in-20
unfolding interleave
returns-in-20 c = spread_at c.requires c.in-20.is refl

pub returns-in-21 : goal.returns-in-21
unfolding interleave
returns-in-21 c = spread_at c.requires c.in-21.is refl

pub returns-in-22 : goal.returns-in-22
unfolding interleave
returns-in-22 c = spread_at c.requires c.in-22.is refl

pub returns-in-23 : goal.returns-in-23
unfolding interleave
returns-in-23 c = spread_at c.requires c.in-23.is refl

pub returns-in-24 : goal.returns-in-24
unfolding interleave
returns-in-24 c = spread_at c.requires c.in-24.is refl

pub returns-in-25 : goal.returns-in-25
unfolding interleave
returns-in-25 c = spread_at c.requires c.in-25.is refl

pub returns-in-26 : goal.returns-in-26
unfolding interleave
returns-in-26 c = spread_at c.requires c.in-26.is refl

pub returns-in-27 : goal.returns-in-27
unfolding interleave
returns-in-27 c = spread_at c.requires c.in-27.is refl

pub returns-in-28 : goal.returns-in-28
unfolding interleave
returns-in-28 c = spread_at c.requires c.in-28.is refl

pub returns-in-29 : goal.returns-in-29
unfolding interleave
returns-in-29 c = spread_at c.requires c.in-29.is refl

pub returns-in-30 : goal.returns-in-30
unfolding interleave
returns-in-30 c = spread_at c.requires c.in-30.is refl

pub returns-in-31 : goal.returns-in-31
unfolding interleave
returns-in-31 c = spread_at c.requires c.in-31.is refl
