-- `take_line` holds what stands before the next feed, which is a line, or before the end of the piece, which is a part of one.
use Rattle.line.specs.LineLaws.{takes-line, takes_part}
use Rattle.line.proofs.lines.take_line.Goals as goal

pub returns-then-end-piece : goal.returns-then-end-piece
returns-then-end-piece c = takes-line c.requires.room c.end_of-end.ensures c.hold-m.ensures c.if-end-piece.true

pub returns : goal.returns
returns c = takes_part c.requires.room c.end_of-end.ensures c.hold-m.ensures c.if-end-piece.false
