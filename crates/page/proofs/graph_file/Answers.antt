-- `graph_file` meets its contract: a build into numbers that are enough leaves a netlist whose file is the page. Assumes nothing.
use Rattle.std.specs.Prelude.{Err}
use mathlib.Core.Path.{◌≡◌}
use native.Mathlib.Omega.{arith}
use borrow.Author.Rules.{rules}
use Rattle.circuit.specs.Numbers.{numbers_of}
use Rattle.page.specs.Private.Files.{file_in, file_text}
use Rattle.page.proofs.PageLaws.{file-page}
use Rattle.page.proofs.AnswerLaws.{refused-text, netlist-text, file_text_lem, file-within}
use Rattle.page.proofs.graph_file.Goals as goal

pub returns-in-Ok : goal.returns-in-Ok
returns-in-Ok g c = λ packed writes.
    let text = c.args.input.now in
    let net = c.build.new.net in
    let is = netlist-text text c.build.ensures.demand c.build.ensures.net_after (omega arith) c.in-Ok.is in
    let page = file_text_lem text c.build.ensures.demand c.build.ensures.net_after (omega arith) packed c.in-Ok.is in
    let file = file-page (file_in packed net) net c.args.out.now is (writes _ _ _ _ c.write.ensures) in
    record { out_after = rw (← c.in_ok-end-in-Ok.was, c.or.ensures, ← page) file; fits = file-within text c.build.ensures.demand c.build.ensures.net_after (omega arith) packed }

pub returns-in_err-end-in-Ok : goal.returns-in_err-end-in-Ok
returns-in_err-end-in-Ok g c = λ packed writes.
    let text = c.args.input.now in
    let net = c.build.new.net in
    let is = netlist-text text c.build.ensures.demand c.build.ensures.net_after (omega arith) c.in-Ok.is in
    let page = file_text_lem text c.build.ensures.demand c.build.ensures.net_after (omega arith) packed c.in-Ok.is in
    let file = file-page (file_in packed net) net c.args.out.now is (writes _ _ _ _ c.write.ensures) in
    let r : c.from_residual.result ≡ Err c.in_err-end-in-Ok.field-0.0 = search rules in
    record { out_after = rw (r, ← c.in_err-end-in-Ok.was, c.or.ensures, ← page) file; fits = file-within text c.build.ensures.demand c.build.ensures.net_after (omega arith) packed }

pub returns : goal.returns
unfolding file_text
returns g c = λ packed writes.
    let text = c.args.input.now in
    let page = refused-text text c.build.ensures.demand c.build.ensures.net_after (omega arith) (λ g. file_in packed (numbers_of g)) c.in-Err.is in
    record { out_after = rw (c.refusal.ensures, page) at c.refused_page.ensures; fits = file-within text c.build.ensures.demand c.build.ensures.net_after (omega arith) packed }
