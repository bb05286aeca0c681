-- `read` meets its contract: the reader of the form answers. Assumes nothing.
use mathlib.Core.Path.{◌≡◌}
use native.Mathlib.Omega.{arith}
use borrow.Author.Rules.{rules}
use Rattle.std.specs.Prelude.{Err}
use Rattle.aiger_file.specs.Read.{text_cause, packed_cause, text_outcome, packed_outcome, text_read_end, packed_read_end, read_of}
use Rattle.aiger_file.proofs.ClaimLaws.{read-means}
use Rattle.aiger_file.proofs.read.Goals as goal

pub returns-in_err-read : goal.returns-in_err-read
unfolding read_of packed_read_end packed_outcome
returns-in_err-read c =
    let r : c.from_residual.result ≡ Err (packed_cause c.in_err-read.field-0.0) = search rules in
    record {
      net_after = rw (← c.has_tag.ensures, c.if-has_tag.true, ← c.read.ensures.net_after, c.in_err-read.was, r);
      bytes = λ k. omega (arith, c.type_inv.text k);
      exact = read-means;
    }

pub returns-in_ok-read : goal.returns-in_ok-read
unfolding read_of packed_read_end packed_outcome
returns-in_ok-read c = record {
  net_after = rw (← c.has_tag.ensures, c.if-has_tag.true, ← c.read.ensures.net_after, c.in_ok-read.was);
  bytes = λ k. omega (arith, c.type_inv.text k);
  exact = read-means;
}

pub returns-in_err-read-2 : goal.returns-in_err-read-2
unfolding read_of text_read_end text_outcome
returns-in_err-read-2 c =
    let r : c.from_residual-in_err-read-2.result ≡ Err (text_cause c.in_err-read-2.field-0.0) = search rules in
    record {
      net_after = rw (← c.has_tag.ensures, c.if-has_tag.false, ← c.read-else-has_tag.ensures.net_after, c.in_err-read-2.was, r);
      bytes = λ k. omega (arith, c.type_inv.text k);
      exact = read-means;
    }

pub returns-in_ok-read-2 : goal.returns-in_ok-read-2
unfolding read_of text_read_end text_outcome
returns-in_ok-read-2 c = record {
  net_after = rw (← c.has_tag.ensures, c.if-has_tag.false, ← c.read-else-has_tag.ensures.net_after, c.in_ok-read-2.was);
  bytes = λ k. omega (arith, c.type_inv.text k);
  exact = read-means;
}
