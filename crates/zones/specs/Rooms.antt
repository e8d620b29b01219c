-- What is asked of the entries before a zone moves.
use Rattle.std.specs.Prelude.{ℕ, ◌+◌, Bool, ◌&&◌, leb, length}
use Rattle.squares.specs.declared.shape.Shape.{Shape}
use Rattle.squares.specs.declared.shape.Rect.{Rect}
use Rattle.squares.specs.Shape.{fits}
use Rattle.cuts.specs.Cut.{cut}

-- the old rectangle lies in the town, no more entries are in use than there are, and the new one's squares have room in its squares' place
unfoldable pub has_room : Shape → Rect → Rect → ℕ → ℕ → Bool
has_room s old new used many = fits s old && (leb used many && leb (used + length (cut s new)) (many + length (cut s old)))
