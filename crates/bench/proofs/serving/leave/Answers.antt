-- `bench::serving::leave` meets its contract. Assumes nothing.
use mathlib.Core.Path.{ap, ◌∙◌}
use Prim.Native.Nat.{ℕ, ◌-◌}
use Rattle.bench_turns.specs.Parts.{part_of, with_part, shifted}
use Rattle.bench_turns.specs.Numbers.{with_waiting, with_tally, with_last}
use Rattle.bench.proofs.serving.leave.Goals as goal

pub returns : goal.returns
returns c =
    let w = c.waiting-left in
    (c.move_up.ensures ∙ ap (λ (z : ℕ). with_part c.args.k (shifted (z - 1) (part_of c.args.k c.args.queues.now)) c.args.queues.now) w.ensures, c.served.ensures ∙ ap (λ (z : ℕ). with_last c.args.k (with_tally c.args.k c.args.after (with_waiting c.args.k (z - 1) c.args.bench.now))) w.ensures)
