-- `trace::cycles::cycle_at` meets its contract. Assumes nothing.
use mathlib.Core.Path.{◌≡◌, sym, ap, ◌∙◌}
use Prim.Native.Nat.{ℕ, ◌+◌, ◌-◌}
use native.Mathlib.Omega.{arith}
use lib.ListN.{length, take, drop, drop_of_length-le, length-drop}
use lib.Seq.{take-nil, take_all}
use Rattle.trace.proofs.cycles.cycle_at.Goals as goal

pub returns-then-at-trace : goal.returns-then-at-trace
returns-then-at-trace c =
    let x = c.args in
    sym (ap (take x.n) (drop_of_length-le x.trace.now c.if-at-trace.true) ∙ take-nil x.n)

pub returns-then-n-trace : goal.returns-then-n-trace
returns-then-n-trace c =
    let x = c.args in
    let l = length-drop x.at x.trace.now in
    take_all (length x.trace.now - x.at) (drop x.at x.trace.now) (omega arith) ∙ sym (take_all x.n (drop x.at x.trace.now) (omega (arith, c.if-n-trace.true)))

pub returns : goal.returns
returns c =
    let x = c.args in
    let e : x.at + x.n - x.at ≡ x.n = omega arith in
    ap (λ (m : ℕ). take m (drop x.at x.trace.now)) e
