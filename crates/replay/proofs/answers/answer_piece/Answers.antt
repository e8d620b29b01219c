-- `answer_piece` is refused, or answers line after line.
use mathlib.Core.Path.{ap, subst}
use Rattle.squares.specs.Refusals.{refused_by}
use Rattle.tables.specs.Tables.{Tables}
use Rattle.pieces.specs.Leaves.{Refuses}
use Rattle.pieces.specs.PromiseLaws.{lending}
use Rattle.replay.proofs.answers.answer_piece.Goals as goal

pub fill_lines-filled-requires : goal.fill_lines-filled-requires
fill_lines-filled-requires c =
    let a = c.args in
    lending (subst (λ (t : Tables). Refuses t a.held.now a.out.now (refused_by c.refuse.result)) c.seen.ensures c.refuse.ensures) (ap refused_by c.in_ok-refuse.was)
