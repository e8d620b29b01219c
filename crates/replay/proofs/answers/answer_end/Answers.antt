-- `answer_end` is refused, or answers what is held.
use mathlib.Core.Path.{ap, subst}
use Rattle.squares.specs.Refusals.{refused_by}
use Rattle.tables.specs.Tables.{Tables}
use Rattle.pieces.specs.Leaves.{Refuses}
use Rattle.pieces.specs.PromiseLaws.{lending}
use Rattle.replay.proofs.answers.answer_end.Goals as goal

pub fill_last-filled-requires : goal.fill_last-filled-requires
fill_last-filled-requires c =
    let a = c.args in
    lending (subst (λ (t : Tables). Refuses t a.held.now a.out.now (refused_by c.refuse.result)) c.seen.ensures c.refuse.ensures) (ap refused_by c.in_ok-refuse.was)
