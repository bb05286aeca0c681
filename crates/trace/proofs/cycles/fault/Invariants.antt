-- `trace::cycles::fault` meets its contract: what is left of the trace has the same first wrong line as the whole. Assumes nothing.
use mathlib.Core.Path.{◌≡◌}
use Prim.Native.Nat.{◌+◌, ◌≤◌}
use lib.ListN.{drop}
use Rattle.trace.specs.Traces.{fault_from, fault_of}
use Rattle.trace.proofs.cycles.fault.Given as goal

abbrev pub invariant-loop-b : goal.invariant-loop-b
invariant-loop-b l = (l.line ≤ l.b-index + 1) × (l.col ≤ l.b-index) × (fault_from l.n l.line l.col (drop l.b-index l.trace) ≡ fault_of l.n l.trace)
