-- The measure of the readers `expression`, `operand` and `rest` is twice the bytes left over, and one more
-- for `expression`, which begins with an operand at its own place. Assumes nothing.
use Prim.Native.Nat.{◌+◌, ◌*◌, ◌-◌}
use lib.ListN.{length}
use Rattle.formula.proofs.readers.+expression_operand_rest.Given as goal

abbrev pub decreases-expression : goal.decreases-expression
decreases-expression l = 2 * (length l.s.now - l.at) + 1

abbrev pub decreases-operand : goal.decreases-operand
decreases-operand l = 2 * (length l.s.now - l.at)

abbrev pub decreases-rest : goal.decreases-rest
decreases-rest l = 2 * (length l.s.now - l.left.next)
