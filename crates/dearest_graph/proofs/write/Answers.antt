-- `write` meets its contract: the number of edges is tested, then the room; then the text is written. Assumes nothing.
use native.Mathlib.Omega.{arith}
use Rattle.dearest_graph.proofs.EndLaws.{ends_outside, ends-short, ends-written}
use Rattle.dearest_graph.proofs.write.Goals as goal

pub returns-then-edges-lt1 : goal.returns-then-edges-lt1
returns-then-edges-lt1 c =
    let p = ends_outside c.args.edges c.args.text.now (λ some few. omega (arith, c.then-edges-lt1.either)) in record { text_after = p.0; dearest = p.1 }

pub returns-then-text-edges : goal.returns-then-text-edges
returns-then-text-edges c =
    let p = ends-short c.args.edges c.args.text.now c.if-edges-lt1.false c.if-edges-gt-MAX_EDGES.false c.if-text-edges.true in
    record { text_after = p.0; dearest = p.1 }

pub returns : goal.returns
returns c =
    let p = ends-written c.args.edges c.args.text.now c.if-edges-lt1.false c.if-edges-gt-MAX_EDGES.false (omega (arith, c.well_formed)) c.if-text-edges.false c.fill.ensures in
    record { text_after = p.0; dearest = p.1 }
