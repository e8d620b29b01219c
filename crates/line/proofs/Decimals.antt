-- What the proof of `read_decimal` cites: a zero alone is a decimal.
use Rattle.line.specs.NumberLaws.{decimal-zero}

pub ruleset zero_alone = (decimal-zero)
