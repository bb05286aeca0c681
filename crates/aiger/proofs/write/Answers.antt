-- `write` meets its contract: the file is measured over no bytes, and written where there is room. Assumes nothing.
use mathlib.Core.Path.{sym, ◌∙◌}
use native.Mathlib.Omega.{arith}
use borrow.Author.Tests.{not-true, not-false}
use borrow.Author.Rules.{rules}
use Rattle.text.proofs.WriterLaws.{measured, too_long}
use Rattle.netlist.proofs.ValidLaws.{valid}
use Rattle.aiger.specs.Format.{file_of}
use Rattle.aiger.specs.Write.{write_of}
use Rattle.aiger.proofs.ClaimLaws.{write_means}
use Rattle.aiger.proofs.WriteLaws.{no_netlist, too_short, written}
use Rattle.aiger.proofs.write.Goals as goal

pub returns-then-not-is_netlist : goal.returns-then-not-is_netlist
unfolding write_of
returns-then-not-is_netlist c = record { text_after = sym (no_netlist _ _ _ (sym c.is_netlist.ensures.value ∙ not-true _ c.if-not-is_netlist.true-raw)); exact = write_means }

pub fill-need-requires : goal.fill-need-requires
fill-need-requires c =
    let v = valid _ (sym c.is_netlist.ensures.value ∙ not-false _ c.if-not-is_netlist.false-raw) in
    search rules

pub returns-then-need-text : goal.returns-then-need-text
unfolding write_of
returns-then-need-text c =
    let net = c.args.net.now in
    let text = c.args.text.now in
    let is = sym c.is_netlist.ensures.value ∙ not-false _ c.if-not-is_netlist.false-raw in
    let m = too_long text (file_of net) (omega (arith, c.well_formed)) c.fill-need.ensures c.if-need-text.true in
    record { text_after = rw m.1 (sym (too_short (file_of net) net text is m.0)); exact = write_means }

pub fill-requires : goal.fill-requires
fill-requires c =
    let v = valid _ (sym c.is_netlist.ensures.value ∙ not-false _ c.if-not-is_netlist.false-raw) in
    search rules

pub returns : goal.returns
unfolding write_of
returns c =
    let net = c.args.net.now in
    let text = c.args.text.now in
    let is = sym c.is_netlist.ensures.value ∙ not-false _ c.if-not-is_netlist.false-raw in
    let m = measured text (file_of net) (omega (arith, c.well_formed)) c.fill-need.ensures c.if-need-text.false c.fill.ensures in
    record { text_after = rw (m.1, m.2) (sym (written (file_of net) net text is m.0)); exact = write_means }
