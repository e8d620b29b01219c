-- `open_record` writes a refusal, and opens any other town in as many starts as it needs.
use mathlib.Core.Path.{subst}
use Rattle.std.specs.declared.result.Result.TheVariants.{Ok, Err}
use Rattle.order.specs.BufferLaws.{count-front}
use Rattle.room.specs.Leaves.{OpenRoom}
use Rattle.records.specs.ReplyLaws.{changed-back, open-refused, open-within, open-replies}
use Rattle.records.proofs.changes.open_record.Goals as goal

pub slice_bounds-open_in-end : goal.slice_bounds-open_in-end
slice_bounds-open_in-end c =
    let a = c.args in
    let needed : OpenRoom a.k a.P a.Q (Ok c.in-Ok.many) = subst (OpenRoom a.k a.P a.Q) c.in-Ok.is c.open_room.ensures in
    open-within a.k a.P a.Q c.requires needed

pub slice_bounds-open_in-end-in-Ok : goal.slice_bounds-open_in-end-in-Ok
slice_bounds-open_in-end-in-Ok c =
    let a = c.args in
    let needed : OpenRoom a.k a.P a.Q (Ok c.in-Ok.many) = subst (OpenRoom a.k a.P a.Q) c.in-Ok.is c.open_room.ensures in
    count-front _ _ (open-within a.k a.P a.Q c.requires needed)

pub returns-in-Err : goal.returns-in-Err
returns-in-Err c =
    let a = c.args in
    let refuses : OpenRoom a.k a.P a.Q (Err c.in-Err.r) = subst (OpenRoom a.k a.P a.Q) c.in-Err.is c.open_room.ensures in
    open-refused a.k a.P a.Q c.in-Err.r refuses c.write_opened.ensures

pub returns-in-Ok : goal.returns-in-Ok
returns-in-Ok c =
    let a = c.args in
    let needed : OpenRoom a.k a.P a.Q (Ok c.in-Ok.many) = subst (OpenRoom a.k a.P a.Q) c.in-Ok.is c.open_room.ensures in
    open-replies a.k a.P a.Q c.requires needed c.open_in-answer.ensures (changed-back _ _ (open-within a.k a.P a.Q c.requires needed) c.open_in-answer.new.starts c.open_in-answer.auto.starts) c.write_opened-in-Ok.ensures
