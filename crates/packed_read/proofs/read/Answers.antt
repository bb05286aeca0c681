-- `read` meets its contract: two passes, the first over no numbers. Assumes nothing.
use mathlib.Core.Path.{◌≡◌, refl}
use borrow.Author.Rules.{rules}
use Rattle.std.specs.Prelude.{Err}
use Rattle.packed_read.specs.Private.Steps.{cause_of}
use native.Mathlib.Omega.{arith}
use Rattle.packed_read.proofs.ClaimLaws.{read-means}
use Rattle.packed_read.proofs.ReadLaws.{read-long, read-failed, read_short, read-again, read_done}
use Rattle.packed_read.proofs.read.Goals as goal

pub returns-then-text-gt-MAX_TEXT : goal.returns-then-text-gt-MAX_TEXT
returns-then-text-gt-MAX_TEXT c = record { net_after = read-long _ _ c.if-text-gt-MAX_TEXT.true; bytes = λ k. omega (arith, c.type_inv.text k); exact = read-means }

pub returns-then-end-net : goal.returns-then-end-net
returns-then-end-net c = record { net_after = read_short c.args.text.now c.args.net.now c.if-text-gt-MAX_TEXT.false _ _ c.read_file.ensures _ c.in_ok-end.was (omega arith); bytes = λ k. omega (arith, c.type_inv.text k); exact = read-means }

pub returns : goal.returns
returns c = record { net_after = read_done c.args.text.now c.args.net.now c.if-text-gt-MAX_TEXT.false _ _ c.read_file.ensures _ _ _ c.in_ok-end.was (omega arith) c.read_file-2.ensures; bytes = λ k. omega (arith, c.type_inv.text k); exact = read-means }

pub returns-in_err-end : goal.returns-in_err-end
returns-in_err-end c =
    let f = c.in_err-end.field-0.0 in
    let r : c.from_residual.result ≡ Err (cause_of f.0 f.1) = search rules in
    record { net_after = rw r (read-failed c.args.text.now c.args.net.now c.if-text-gt-MAX_TEXT.false _ _ c.read_file.ensures _ _ _ c.in_err-end.was refl); bytes = λ k. omega (arith, c.type_inv.text k); exact = read-means }

pub returns-in_err-read_file : goal.returns-in_err-read_file
returns-in_err-read_file c = absurd (read-again c.args.text.now c.args.net.now c.if-text-gt-MAX_TEXT.false _ _ c.read_file.ensures _ _ _ _ _ c.in_ok-end.was c.read_file-2.ensures c.in_err-read_file.was)
