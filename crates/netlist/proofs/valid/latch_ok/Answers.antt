-- `latch_ok` meets its contract. Assumes nothing.
use mathlib.Core.Bool.{false}
use borrow.Author.Tests.{le-leb, lt-leb}
use Rattle.netlist.proofs.LiteralLaws.{made}
use Rattle.netlist.specs.Valid.{is_within, is_free, latch_ok}
use Rattle.netlist.proofs.valid.latch_ok.Goals as goal

pub returns-then-net-at : goal.returns-then-net-at
unfolding latch_ok is_within is_free
returns-then-net-at c = let p = c.requires.own_value in rw (← p.1, lt-leb _ _ c.if-net-at.true)

pub returns-then-reset-le1 : goal.returns-then-reset-le1
unfolding latch_ok is_within is_free
returns-then-reset-le1 c = let p = c.requires.own_value in rw (← p.1, le-leb _ _ c.if-net-at.false, le-leb _ _ c.if-reset-le1.true)

pub returns : goal.returns
unfolding latch_ok is_within is_free
returns c =
    let p = c.requires.own_value in
    rw (← p.1, ← p.0, ← (made _ false c.requires.k_in_bounds.1 c.literal-lit.ensures), le-leb _ _ c.if-net-at.false, lt-leb _ _ c.if-reset-le1.false)
