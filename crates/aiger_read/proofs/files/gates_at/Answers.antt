-- `gates_at` meets its contract. Assumes nothing.
use mathlib.Core.Path.{◌≡◌}
use Rattle.std.specs.Prelude.{Err}
use Prim.Native.Nat.{◌+◌, ◌*◌, ◌≤◌}
use native.Mathlib.Omega.{arith}
use lib.ListN.{length}
use Rattle.aiger_lines.proofs.PassLaws.{took_then, took-failed, took_end, took-extra}
use Rattle.aiger_read.specs.Private.Steps.{gates_of}
use Rattle.aiger_read.proofs.PassLaws.{filled-took}
use borrow.Author.Rules.{rules}
use Rattle.aiger_read.proofs.files.gates_at.Goals as goal

pub returns-then-end-s : goal.returns-then-end-s
unfolding gates_of
returns-then-end-s c =
    let room : c.args.from.place + 2 * c.args.head.gates ≤ length c.args.net.now = omega (arith, c.requires.1) in
    let t = filled-took _ c.args.net.now _ c.args.from.place (2 * c.args.head.gates) _ room c.all_gates.auto.ops c.all_gates.ensures in
    took_then _ _ _ _ _ _ _ _ _ t c.in_ok-end.was (took_end _ _ _ _ (omega arith))

pub returns-else-end-s : goal.returns-else-end-s
unfolding gates_of
returns-else-end-s c =
    let room : c.args.from.place + 2 * c.args.head.gates ≤ length c.args.net.now = omega (arith, c.requires.1) in
    let t = filled-took _ c.args.net.now _ c.args.from.place (2 * c.args.head.gates) _ room c.all_gates.auto.ops c.all_gates.ensures in
    took_then _ _ _ _ _ _ _ _ _ t c.in_ok-end.was (took-extra _ _ _ _ _ _ _ c.if-end-s.false (omega (arith, c.requires.0.0)))

pub returns-in_err-end : goal.returns-in_err-end
unfolding gates_of
returns-in_err-end c =
    let r : c.from_residual.result ≡ Err c.in_err-end.field-0.0 = search rules in
    let room : c.args.from.place + 2 * c.args.head.gates ≤ length c.args.net.now = omega (arith, c.requires.1) in
    let t = filled-took _ c.args.net.now _ c.args.from.place (2 * c.args.head.gates) _ room c.all_gates.auto.ops c.all_gates.ensures in
    rw r (took-failed _ _ _ _ _ _ _ t c.in_err-end.was)
