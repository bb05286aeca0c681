-- `write` meets its contract: the number of strokes is tested, then the room; then the text is written. Assumes nothing.
use native.Mathlib.Omega.{arith}
use Rattle.buffer_graph.proofs.EndLaws.{ends_outside, ends-short, ends-written}
use Rattle.buffer_graph.proofs.write.Goals as goal

pub returns-then-strokes-lt1 : goal.returns-then-strokes-lt1
returns-then-strokes-lt1 c =
    let p = ends_outside c.args.strokes c.args.text.now (λ some few. omega (arith, c.then-strokes-lt1.either)) in record { text_after = p.0; buffer = p.1 }

pub returns-then-text-bytes_due : goal.returns-then-text-bytes_due
returns-then-text-bytes_due c =
    let p = ends-short
    c.args.strokes
    c.args.text.now
    c.if-strokes-lt1.false
    c.if-strokes-gt-MAX_STROKES.false
    (omega (arith, c.if-text-bytes_due.true, c.bytes_due.ensures)) in record { text_after = p.0; buffer = p.1 }

pub returns : goal.returns
returns c =
    let p = ends-written
    c.args.strokes
    c.args.text.now
    c.if-strokes-lt1.false
    c.if-strokes-gt-MAX_STROKES.false
    (omega (arith, c.well_formed))
    (omega (arith, c.if-text-bytes_due.false, c.bytes_due.ensures))
    c.fill.ensures in record { text_after = p.0; buffer = p.1 }
