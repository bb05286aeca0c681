-- `write` meets its contract: the file is measured over no bytes, and written where there is room. Assumes nothing.
use mathlib.Core.Path.{sym, ◌∙◌}
use native.Mathlib.Omega.{arith}
use borrow.Author.Tests.{not-true, not-false}
use Rattle.text.proofs.WriterLaws.{measured, too_long}
use Rattle.aiger.proofs.WriteLaws.{no_netlist, too_short, written}
use Rattle.packed.specs.Format.{packed_of}
use Rattle.packed.proofs.FormatLaws.{file_asked}
use Rattle.packed.proofs.ClaimLaws.{write_means}
use Rattle.packed.proofs.write.Goals as goal

pub returns-then-not-is_netlist : goal.returns-then-not-is_netlist
returns-then-not-is_netlist c = record { bytes_after = sym (no_netlist _ _ _ (sym c.is_netlist.ensures.value ∙ not-true _ c.if-not-is_netlist.true-raw)); exact = write_means }

pub fill-need-requires : goal.fill-need-requires
fill-need-requires c = let p = file_asked _ (sym c.is_netlist.ensures.value ∙ not-false _ c.if-not-is_netlist.false-raw) in record { net_in_bounds = p.0; net_value = p.1 }

pub returns-then-need-bytes : goal.returns-then-need-bytes
returns-then-need-bytes c =
    let net = c.args.net.now in
    let bytes = c.args.bytes.now in
    let is = sym c.is_netlist.ensures.value ∙ not-false _ c.if-not-is_netlist.false-raw in
    let m = too_long bytes (packed_of net) (omega (arith, c.well_formed)) c.fill-need.ensures c.if-need-bytes.true in
    record { bytes_after = rw m.1 (sym (too_short (packed_of net) net bytes is m.0)); exact = write_means }

pub fill-requires : goal.fill-requires
fill-requires c = let p = file_asked _ (sym c.is_netlist.ensures.value ∙ not-false _ c.if-not-is_netlist.false-raw) in record { net_in_bounds = p.0; net_value = p.1 }

pub returns : goal.returns
returns c =
    let net = c.args.net.now in
    let bytes = c.args.bytes.now in
    let is = sym c.is_netlist.ensures.value ∙ not-false _ c.if-not-is_netlist.false-raw in
    let m = measured bytes (packed_of net) (omega (arith, c.well_formed)) c.fill-need.ensures c.if-need-bytes.false c.fill.ensures in
    record { bytes_after = rw (m.1, m.2) (sym (written (packed_of net) net bytes is m.0)); exact = write_means }
