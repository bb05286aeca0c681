-- `graph::modes::add_mode` meets its contract. Assumes nothing.
use Rattle.graph.proofs.ArrayLaws.{mode_late, mode_new}
use Rattle.graph.proofs.modes.add_mode.Goals as goal

pub returns-then-first-g-gt0 : goal.returns-then-first-g-gt0
returns-then-first-g-gt0 c =
    let m = c.mode_lines-first in
    λ text graph h. mode_late text _ graph h _ m.ensures.0 c.if-first-g-gt0.true

pub returns : goal.returns
returns c =
    let m = c.mode_lines-first in
    λ text graph h. rw c.set_mode.ensures (mode_new text _ graph h _ m.ensures.0 c.if-first-g-gt0.false)
