-- `sheet_page` meets its contract: the input has a fault, or the monitor's input after its name is judged. Assumes nothing.
use mathlib.Core.Path.{sym, ◌∙◌}
use native.Mathlib.Omega.{arith}
use lib.Seq.{length-take-le}
use Rattle.sheet_page.proofs.SheetLaws.{name-found, faulty-sheet, taken-sheet}
use Rattle.sheet_page.proofs.NameLaws.{tested_name}
use Rattle.sheet_page.proofs.MeanLaws.{page-means}
use Rattle.sheet_page.proofs.sheet_page.Goals as goal

pub slice_bounds-named_sheet-end : goal.slice_bounds-named_sheet-end
slice_bounds-named_sheet-end c =
    let s = c.args.input.now in
    let f = name-found s (sym c.name_end.ensures ∙ c.in-Ok.is) in
    sym (length-take-le _ s (omega (arith, f.ends.place, f.ends.within)))

pub slice_bounds-named_sheet-count : goal.slice_bounds-named_sheet-count
slice_bounds-named_sheet-count c =
    let f = name-found c.args.input.now (sym c.name_end.ensures ∙ c.in-Ok.is) in
    omega (arith, f.ends.place, f.ends.within)

pub overflow_add-end : goal.overflow_add-end
overflow_add-end c =
    let f = name-found c.args.input.now (sym c.name_end.ensures ∙ c.in-Ok.is) in
    omega (arith, f.ends.place, f.ends.within)

pub slice_bounds-named_sheet-start : goal.slice_bounds-named_sheet-start
slice_bounds-named_sheet-start c =
    let f = name-found c.args.input.now (sym c.name_end.ensures ∙ c.in-Ok.is) in
    omega (arith, f.ends.place, f.ends.within)

pub named_sheet-requires : goal.named_sheet-requires
named_sheet-requires c =
    let f = name-found c.args.input.now (sym c.name_end.ensures ∙ c.in-Ok.is) in
    (tested_name c.args.input.now f.ends f.named, omega (arith, f.short))

pub returns-in-Ok : goal.returns-in-Ok
returns-in-Ok c =
    let s = c.args.input.now in
    let f = name-found s (sym c.name_end.ensures ∙ c.in-Ok.is) in
    let p = page-means s c.args.out.now c.named_sheet.ensures (taken-sheet s f.short f.ends f.named) in record { out_after = p.0; fits = p.1.0; paths = p.1.1.0; sheet = p.1.1.1.0; monitor = p.1.1.1.1 }

pub returns-in-Err : goal.returns-in-Err
returns-in-Err c =
    let s = c.args.input.now in
    let p = page-means s c.args.out.now (rw c.refusal.ensures at c.refused_page.ensures) (sym (faulty-sheet s (sym c.name_end.ensures ∙ c.in-Err.is))) in record { out_after = p.0; fits = p.1.0; paths = p.1.1.0; sheet = p.1.1.1.0; monitor = p.1.1.1.1 }
