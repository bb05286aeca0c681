-- `session_page::lines::put_cycle` meets its contract. Assumes nothing.
use native.Mathlib.Omega.{arith}
use Rattle.text.proofs.WritingLaws.{then, none}
use Rattle.session_page.proofs.CellLaws.{cycle-accepted, cycle_tenth, cycle-other}
use Rattle.session_page.proofs.lines.put_cycle.Goals as goal

pub returns-then-verdict-ne1 : goal.returns-then-verdict-ne1
returns-then-verdict-ne1 c =
    let a = c.args in
    rw (cycle-accepted a.cells a.verdict a.cycle c.if-verdict-ne1.true) (none a.page.now (omega (arith, c.well_formed)))

pub returns-then-cells-eq9 : goal.returns-then-cells-eq9
returns-then-cells-eq9 c =
    let a = c.args in
    rw (cycle_tenth a.cells a.verdict a.cycle c.if-verdict-ne1.false c.if-cells-eq9.true) (then c.put_right.ensures c.byte.ensures)

pub returns-else-cells-eq9 : goal.returns-else-cells-eq9
returns-else-cells-eq9 c =
    let a = c.args in
    rw (cycle-other a.cells a.verdict a.cycle c.if-verdict-ne1.false c.if-cells-eq9.false) c.put_right.ensures
