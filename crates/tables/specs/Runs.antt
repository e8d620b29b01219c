-- What is gathered from a square's run of entries, over plain lists.
use Rattle.std.specs.Prelude.{◌≡◌, ℕ, ◌+◌, ◌-◌, ◌*◌, ◌/◌, ◌%◌, ◌≤◌, Bool, true, false, cond, not, ◌&&◌, List, [], ◌∷◌, length, take, drop, nat_le, nat_lt, slice_index}
use Rattle.order.specs.Order.{keep, over}
use Rattle.order.specs.Buffer.{put_in, Put}
use Rattle.squares.specs.declared.shape.Shape.{Shape}
use Rattle.squares.specs.Shape.{holds}
use Rattle.tables.specs.Tables.{rect_in}

-- the place of the parent of the square at a place
abbrev pub parent_of : Shape → ℕ → ℕ
parent_of s p = (p - s.P * s.Q) / 4

-- the list of the square at a place has a zone: the next start is higher
unfoldable pub listed_at : List ℕ → ℕ → Bool
listed_at starts p = nat_lt (slice_index starts p) (slice_index starts (p + 1))

-- the entries from one start up to the next, or none where the next start lies past the entries' end
unfoldable pub run : List ℕ → List ℕ → ℕ → List ℕ
run starts entries p = cond (nat_le (slice_index starts (p + 1)) (length entries)) (take (slice_index starts (p + 1) - slice_index starts p) (drop (slice_index starts p) entries)) []

-- the zones of keys put one by one into a rising list that has room for so many
unfoldable pub gathered : ℕ → List ℕ → List ℕ → List ℕ
gathered room [] l = l
gathered room (key ∷ keys) l = gathered room keys (put_in room (key % 256) l)

-- of keys those whose zone has f
abbrev pub only : (ℕ → Bool) → List ℕ → List ℕ
only f keys = keep (λ (key : ℕ). f (key % 256)) keys

-- every zone
abbrev pub any : ℕ → Bool
any z = true

-- no zone z of the table holds the cell (x, y)
unfoldable pub outside : List ℕ → ℕ → ℕ → ℕ → Bool
outside zones x y z = not (nat_lt (4 * z + 3) (length zones) && holds (rect_in zones z) x y)

-- a number put where a test says so, else nothing
pub record PutIf (test : Bool) (b b' : List ℕ) (n x r : ℕ) : Type 0 where
  pub taken : test ≡ true → Put b b' n x r
  pub passed : test ≡ false → (b' ≡ b) × (r ≡ n)
  pub within : r ≤ length b

-- the zones with f of a run: the buffer at entry and at exit, how many of its numbers are in order at entry, the answer
pub record Gathers (f : ℕ → Bool) (starts entries : List ℕ) (p : ℕ) (b b' : List ℕ) (n r : ℕ) : Type 0 where
  pub written : b' ≡ over (gathered (length b) (only f (run starts entries p)) (take n b)) b
  pub count : r ≡ length (gathered (length b) (only f (run starts entries p)) (take n b))
  pub within : r ≤ length b
