-- `graph_length` meets its contract: what is passed and the bytes before a `T` from here make the graph part. Assumes nothing.
use mathlib.Core.Path.{◌≡◌, sym, ◌∙◌}
use mathlib.Core.Bool.{true}
use Prim.Native.Nat.{◌+◌}
use native.Mathlib.Omega.{arith}
use lib.ListN.{get_or}
use Rattle.page_text.proofs.PartLaws.{mark-here, mark-later, mark_nowhere}
use Rattle.page_text.proofs.ClaimLaws.{length-parts}
use Rattle.std.proofs.lemmas.Bool.{false≢true}
use Rattle.page_text.proofs.parts.graph_length.Goals as goal
use Rattle.page_text.proofs.parts.graph_length.Goals.{else-starts-via-then-starts+then-b-eq84+else-byte_at-eq10, else-starts-via-then-starts+else-b-eq84, else-starts-via-else-starts}

pub returns-then-byte_at-eq10-clause-value : goal.returns-then-byte_at-eq10-clause-value
returns-then-byte_at-eq10-clause-value c =
    let s = c.args.input.now in
    sym (mark-here c.loop-i.starts s c.loop-i.i (omega arith) c.if-starts.true (omega arith) (omega arith)) ∙ c.loop-i.invariant

pub returns-then-byte_at-eq10-clause-parts : goal.returns-then-byte_at-eq10-clause-parts
returns-then-byte_at-eq10-clause-parts c = length-parts c.args.input.now (returns-then-byte_at-eq10-clause-value c)

pub loop-i-preserved : goal.loop-i-preserved
loop-i-preserved c =
    let s = c.args.input.now in
    let i = c.loop-i.i in
    let never : c.loop-i.starts ≡ true → get_or s i 0 ≡ 84 → get_or s (i + 1) 0 ≡ 10 → ⊥ = λ x y z. elim c.else-starts.branch [
      | else-starts-via-then-starts+then-b-eq84+else-byte_at-eq10 w ↦ w.if-byte_at-eq10.false (w.byte_at.ensures ∙ z)
      | else-starts-via-then-starts+else-b-eq84 w ↦ w.if-b-eq84.false y
      | else-starts-via-else-starts w ↦ absurd (false≢true (sym w.if-starts.false ∙ x))
    ] in
    sym (mark-later c.loop-i.starts s i (omega arith) never) ∙ c.loop-i.invariant

pub returns-clause-value : goal.returns-clause-value
returns-clause-value c =
    let s = c.args.input.now in
    omega (arith, mark_nowhere c.loop-i.starts s c.loop-i.i (omega arith), c.loop-i.invariant)

pub returns-clause-parts : goal.returns-clause-parts
returns-clause-parts c = length-parts c.args.input.now (returns-clause-value c)
