-- `put_header` meets its contract. Assumes nothing.
use lib.ListN.{length-set}
use native.Mathlib.Omega.{arith}
use Rattle.builder.proofs.layout.put_header.Goals as goal

pub bounds-net-1 : goal.bounds-net-1
bounds-net-1 c = rw length-set (omega arith)

pub bounds-net-2 : goal.bounds-net-2
bounds-net-2 c = rw (length-set, length-set) (omega arith)

pub bounds-net-3 : goal.bounds-net-3
bounds-net-3 c = rw (length-set, length-set, length-set) (omega arith)
