-- The bits of a number spread.
use Rattle.std.specs.Prelude.{ℕ}
use Rattle.squares.specs.Squares.{interleave}

-- a number of five bits, each bit with a 0 above it
abbrev pub spread : ℕ → ℕ
spread a = interleave 5 a 0
