-- `read_file` meets its contract. Assumes nothing.
use mathlib.Core.Path.{◌≡◌}
use borrow.Author.Rules.{rules}
use Rattle.std.specs.Prelude.{Err}
use Rattle.aiger_lines.proofs.PassLaws.{took-head, took-misheaded, told_good, told_bad}
use Rattle.aiger_read.specs.Files.{body_of, file_read}
use Rattle.aiger_read.specs.Private.Steps.{inputs_of}
use Rattle.aiger_read.proofs.PassLaws.{headed}
use Rattle.aiger_read.proofs.files.read_file.Goals as goal

pub returns-in_err-head : goal.returns-in_err-head
unfolding file_read
returns-in_err-head c =
    let r : c.from_residual.result ≡ Err c.in_err-head.field-0.0 = search rules in
    let w = told_bad c.header_at.result (λ e. (e, 1)) c.map_err.ensures.cases (λ g p. search rules) (λ e q. search rules) _ c.in_err-head.was in
    took-misheaded _ _ c.header_at.ensures (body_of _) _ _ _ _ r w

pub inputs_at-requires : goal.inputs_at-requires
inputs_at-requires c =
    let w = told_good c.header_at.result (λ e. (e, 1)) c.map_err.ensures.cases (λ g p. search rules) (λ e q. search rules) _ c.in_ok-head.was in
    let k = headed _ _ _ _ c.header_at.ensures w in
    search rules

pub returns : goal.returns
unfolding file_read inputs_of
returns c =
    let w = told_good c.header_at.result (λ e. (e, 1)) c.map_err.ensures.cases (λ g p. search rules) (λ e q. search rules) _ c.in_ok-head.was in
    took-head _ _ c.header_at.ensures (body_of _) _ _ _ _ _ w c.store_head.ensures c.inputs_at.ensures
