-- `bench::numbers::next_machine` meets its contract. Assumes nothing.
use mathlib.Core.Path.{◌≡◌}
use Prim.Native.Nat.{◌+◌}
use Rattle.bench_turns.specs.Numbers.{last_of}
use Rattle.bench_turns.specs.Refusals.{next_machine}
use Rattle.bench.proofs.RoundLaws.{next_up_to}
use Rattle.bench.proofs.numbers.next_machine.Given as goal

abbrev pub invariant-loop-from : goal.invariant-loop-from
invariant-loop-from l = next_up_to l.from (last_of l.bench + 1 + 8) l.bench ≡ next_machine l.bench
