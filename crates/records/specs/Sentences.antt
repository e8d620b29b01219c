-- A line has one reply.
use Rattle.std.specs.Prelude.{ℕ, ◌≡◌, List}
use Rattle.std.proofs.Common.{sym, ◌∙◌}
use Rattle.tables.specs.Tables.{Tables}
use Rattle.tables.specs.Lent.{both}
use Rattle.season.specs.Output.{Line}
use Rattle.room.specs.Room.{Ready}
use Rattle.records.specs.Replies.{Replies}

-- two outcomes that are allowed on the same ready tables and buffer are equal: the tables, every byte of the buffer, the answer's
-- length
pub replies-unique : {t u v : Tables} {line : Line} {b c d : List ℕ} {n m : ℕ} → Ready t → Replies (both t u) line b c n → Replies (both t v) line b d m → (u ≡ v) × (c ≡ d) × (n ≡ m)
replies-unique ready p q = (p.tables ready ∙ sym (q.tables ready), (p.text ready).stored ∙ sym (q.text ready).stored, (p.text ready).next ∙ sym (q.text ready).next)
