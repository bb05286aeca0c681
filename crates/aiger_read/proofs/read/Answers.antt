-- `read` meets its contract: one pass over the lines, and then the gates are placed. Assumes nothing.
use mathlib.Core.Path.{◌≡◌, refl, sym}
use borrow.Author.Rules.{rules}
use lib.Seq.{length-take-le}
use Rattle.std.specs.Prelude.{Err}
use Rattle.aiger_read.specs.declared.Cause.TheVariants.{FaultyLine}
use Rattle.aiger_read.specs.Private.Steps.{cause_of}
use Rattle.aiger_read.proofs.ClaimLaws.{read-means}
use Rattle.aiger_read.proofs.ReadLaws.{outcome_of, read-long, read-failed, read-few, read-placed}
use Rattle.aiger_read.proofs.read.Goals as goal

pub returns-then-text-gt-MAX_TEXT : goal.returns-then-text-gt-MAX_TEXT
returns-then-text-gt-MAX_TEXT c = record { net_after = read-long _ _ c.if-text-gt-MAX_TEXT.true; exact = read-means }

pub returns-in_err-end : goal.returns-in_err-end
returns-in_err-end c =
    let f = c.in_err-end.field-0.0 in
    let r : c.from_residual.result ≡ Err (FaultyLine f.0 f.1) = search rules in
    record { net_after = rw r (read-failed c.args.text.now c.args.net.now c.if-text-gt-MAX_TEXT.false _ _ _ c.read_file.ensures _ _ c.in_err-end.was); exact = read-means }

pub slice_bounds-loose-end : goal.slice_bounds-loose-end
slice_bounds-loose-end c =
    read-few c.args.text.now c.args.net.now c.if-text-gt-MAX_TEXT.false _ _ _ c.read_file.ensures refl _ c.in_ok-end.was

pub slice_bounds-place-end : goal.slice_bounds-place-end
slice_bounds-place-end c =
    sym (length-take-le _ _ (read-few c.args.text.now c.args.net.now c.if-text-gt-MAX_TEXT.false _ _ _ c.read_file.ensures refl _ c.in_ok-end.was))

pub returns-in_err-count : goal.returns-in_err-count
unfolding outcome_of
returns-in_err-count c =
    let r : c.from_residual-in_err-count.result ≡ Err (cause_of c.in_err-count.field-0.0) = search rules in
    let done = read-placed c.args.text.now c.args.net.now c.if-text-gt-MAX_TEXT.false _ _ _ c.read_file.ensures refl _ c.in_ok-end.was _ _ c.place.ensures.net_after in
    record { net_after = rw r (rw c.in_err-count.was at done); exact = read-means }

pub returns : goal.returns
unfolding outcome_of
returns c =
    let done = read-placed c.args.text.now c.args.net.now c.if-text-gt-MAX_TEXT.false _ _ _ c.read_file.ensures refl _ c.in_ok-end.was _ _ c.place.ensures.net_after in
    record { net_after = rw c.in_ok-count.was at done; exact = read-means }
