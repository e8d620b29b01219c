-- A town's shape and rectangle as document 01 has them, with the limits.
use Rattle.std.specs.Prelude.{ℕ, ◌+◌, ◌*◌, ◌^◌, Bool, ◌&&◌, nat_le, nat_lt}
use Rattle.squares.specs.declared.shape.Shape.{Shape}
use Rattle.squares.specs.declared.shape.Rect.{Rect}

-- the limits
abbrev pub largest_k : ℕ
largest_k = 5

abbrev pub largest_side : ℕ
largest_side = 256

abbrev pub most_zones : ℕ
most_zones = 256

abbrev pub most_cars : ℕ
most_cars = 1024

abbrev pub most_entries : ℕ
most_entries = 16384

abbrev pub shape : ℕ → ℕ → ℕ → Shape
shape k P Q = record { k = k; P = P; Q = Q }

-- the side of a block, L
abbrev pub side : Shape → ℕ
side s = 2 ^ s.k

-- the columns and the rows of the town, W and H
abbrev pub width : Shape → ℕ
width s = s.P * side s

abbrev pub height : Shape → ℕ
height s = s.Q * side s

-- within the limits
abbrev pub allowed : Shape → Bool
allowed s = nat_le s.k largest_k && (nat_lt 0 s.P && (nat_lt 0 s.Q && (nat_le (width s) largest_side && nat_le (height s) largest_side)))

-- a rectangle has cells and lies in the town: what check 9 asks
abbrev pub fits : Shape → Rect → Bool
fits s r = nat_lt 0 r.w && (nat_lt 0 r.h && (nat_le (r.a + r.w) (width s) && nat_le (r.b + r.h) (height s)))

-- the cells of a rectangle
abbrev pub holds : Rect → ℕ → ℕ → Bool
holds r x y = nat_le r.a x && (nat_lt x (r.a + r.w) && (nat_le r.b y && nat_lt y (r.b + r.h)))

-- the square with corner (x, y) and side d lies wholly inside
abbrev pub within : Rect → ℕ → ℕ → ℕ → Bool
within r x y d = nat_le r.a x && (nat_le (x + d) (r.a + r.w) && (nat_le r.b y && nat_le (y + d) (r.b + r.h)))
