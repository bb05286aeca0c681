-- `netlist::Header::is_within_limits` meets its contract. Assumes nothing.
use borrow.Author.Tests.{eq-eqb, ne_eqb, le-leb, lt-leb}
use Rattle.netlist.specs.Valid.{header_ok}
use Rattle.netlist.proofs.header.Header.is_within_limits.Goals as goal

pub returns-then-self-sum : goal.returns-then-self-sum
unfolding header_ok
returns-then-self-sum c = simp (ne_eqb _ _ c.if-self-sum.true)

pub returns-then-self-gt-MAX_VARIABLES : goal.returns-then-self-gt-MAX_VARIABLES
unfolding header_ok
returns-then-self-gt-MAX_VARIABLES c = simp (eq-eqb _ _ c.if-self-sum.false, lt-leb _ _ c.if-self-gt-MAX_VARIABLES.true)

pub returns-then-self-lt1 : goal.returns-then-self-lt1
unfolding header_ok
returns-then-self-lt1 c = simp (eq-eqb _ _ c.if-self-sum.false, le-leb _ _ c.if-self-gt-MAX_VARIABLES.false, lt-leb _ _ c.if-self-lt1.true)

pub returns-then-self-gt-MAX_INPUTS : goal.returns-then-self-gt-MAX_INPUTS
unfolding header_ok
returns-then-self-gt-MAX_INPUTS c = simp (eq-eqb _ _ c.if-self-sum.false, le-leb _ _ c.if-self-gt-MAX_VARIABLES.false, le-leb _ _ c.if-self-lt1.false, lt-leb _ _ c.if-self-gt-MAX_INPUTS.true)

pub returns-then-self-lt1-2 : goal.returns-then-self-lt1-2
unfolding header_ok
returns-then-self-lt1-2 c = simp (eq-eqb _ _ c.if-self-sum.false, le-leb _ _ c.if-self-gt-MAX_VARIABLES.false, le-leb _ _ c.if-self-lt1.false, le-leb _ _ c.if-self-gt-MAX_INPUTS.false, lt-leb _ _ c.if-self-lt1-2.true)

pub returns : goal.returns
unfolding header_ok
returns c = simp (eq-eqb _ _ c.if-self-sum.false, le-leb _ _ c.if-self-gt-MAX_VARIABLES.false, le-leb _ _ c.if-self-lt1.false, le-leb _ _ c.if-self-gt-MAX_INPUTS.false, le-leb _ _ c.if-self-lt1-2.false)
