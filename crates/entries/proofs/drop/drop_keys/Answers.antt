-- `drop_keys` takes a zone's keys out, in one pass or one by one; where the tables are not right it may leave them.
use Rattle.std.proofs.Common.{◌-◌, length, arith}
use Rattle.squares.specs.Bounds.{Fits}
use Rattle.squares.specs.ShapeLaws.{fits→, →fits}
use Rattle.squares.specs.RefusalLaws.{holds, fails}
use Rattle.order.specs.TestLaws.{true-not-false}
use Rattle.entries.specs.ListedLaws.{passed-drops, few-fits}
use Rattle.entries.proofs.drop.drop_keys.Goals as goal

pub overflow_cast-u : goal.overflow_cast-u
overflow_cast-u c = let a = c.args.starts.now in omega (arith, c.slice_known-3-1.given (length a - 1))

pub returns-then-entries-u : goal.returns-then-entries-u
returns-then-entries-u c listed = absurd (omega (arith, listed.within))

pub returns-then-not-fits : goal.returns-then-not-fits
returns-then-not-fits c listed = absurd (true-not-false _ (→fits _ _ listed.rect) (fails c.fits.ensures c.if-not-fits.true-raw))

pub cut_count-requires : goal.cut_count-requires
cut_count-requires c =
    let rect-fits : Fits c.args.s c.args.r = fits→ _ _ (holds c.fits.ensures c.if-not-fits.false-raw) in
    record { shape = c.requires.shape; rect = rect-fits }

pub overflow_mul-few-2 : goal.overflow_mul-few-2
overflow_mul-few-2 c = few-fits _ _ c.requires.shape.levels c.cut_count.ensures.few

pub returns-then-u-few : goal.returns-then-u-few
returns-then-u-few c listed = passed-drops c.requires listed c.pass_keys.ensures

pub cut_keys-requires : goal.cut_keys-requires
cut_keys-requires c =
    let rect-fits : Fits c.args.s c.args.r = fits→ _ _ (holds c.fits.ensures c.if-not-fits.false-raw) in
    record { room = c.requires; rect = rect-fits; within = omega arith }
