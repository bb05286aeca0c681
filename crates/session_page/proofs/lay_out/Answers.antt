-- `session_page::lay_out` meets its contract. Assumes nothing.
use mathlib.Core.Path.{sym, ◌∙◌}
use borrow.Author.Tests.{not-true, not-false}
use native.Mathlib.Omega.{arith}
use Rattle.session_text.proofs.RejectedLaws.{rejected-most}
use Rattle.session_page.proofs.EndLaws.{counted-bits, may_print, ends_many, ends_unnamed, ends_uncounted, ends-short, ends_laid}
use Rattle.session_page.proofs.lay_out.Goals as goal

pub returns-then-verdicts-gt-MAX_CYCLES : goal.returns-then-verdicts-gt-MAX_CYCLES
returns-then-verdicts-gt-MAX_CYCLES c =
    let a = c.args in
    let p = ends_many a.name.now a.verdicts.now a.page.now c.if-verdicts-gt-MAX_CYCLES.true in record { page_after = p.0; lays = p.1.0; tells = p.1.1.0; widths = p.1.1.1 }

pub returns-then-not-is_graph_name : goal.returns-then-not-is_graph_name
returns-then-not-is_graph_name c =
    let a = c.args in
    let p = ends_unnamed a.name.now a.verdicts.now a.page.now c.if-verdicts-gt-MAX_CYCLES.false (sym c.is_graph_name.ensures.value ∙ not-true _ c.if-not-is_graph_name.true-raw) in record { page_after = p.0; lays = p.1.0; tells = p.1.1.0; widths = p.1.1.1 }

pub returns-in_default : goal.returns-in_default
returns-in_default c =
    let a = c.args in
    let p = ends_uncounted a.name.now a.verdicts.now a.page.now c.if-verdicts-gt-MAX_CYCLES.false (sym c.count_rejected.ensures ∙ c.in_default.is) in record { page_after = p.0; lays = p.1.0; tells = p.1.1.0; widths = p.1.1.1 }

pub overflow_add-rejected : goal.overflow_add-rejected
overflow_add-rejected c =
    let v = c.args.verdicts.now in
    omega (arith, c.if-verdicts-gt-MAX_CYCLES.false, rejected-most 1 v, (counted-bits v (sym c.count_rejected.ensures ∙ c.in-Some.is)).all)

pub overflow_mul-rejected : goal.overflow_mul-rejected
overflow_mul-rejected c =
    let v = c.args.verdicts.now in
    omega (arith, c.if-verdicts-gt-MAX_CYCLES.false, rejected-most 1 v, (counted-bits v (sym c.count_rejected.ensures ∙ c.in-Some.is)).all)

pub returns-then-rejected-page : goal.returns-then-rejected-page
returns-then-rejected-page c =
    let a = c.args in
    let p = ends-short a.name.now a.verdicts.now a.page.now c.if-verdicts-gt-MAX_CYCLES.false (sym c.is_graph_name.ensures.value ∙ not-false _ c.if-not-is_graph_name.false-raw) (sym c.count_rejected.ensures ∙ c.in-Some.is) c.if-rejected-page.true in record { page_after = p.0; lays = p.1.0; tells = p.1.1.0; widths = p.1.1.1 }

pub fill-requires : goal.fill-requires
fill-requires c =
    let a = c.args in
    let h = sym c.count_rejected.ensures ∙ c.in-Some.is in
    (may_print a.name.now a.verdicts.now a.page.now c.if-verdicts-gt-MAX_CYCLES.false (sym c.is_graph_name.ensures.value ∙ not-false _ c.if-not-is_graph_name.false-raw) h, c.if-verdicts-gt-MAX_CYCLES.false, (counted-bits a.verdicts.now h).all)

pub returns : goal.returns
returns c =
    let a = c.args in
    let h = sym c.count_rejected.ensures ∙ c.in-Some.is in
    let p = ends_laid a.name.now a.verdicts.now a.page.now c.if-verdicts-gt-MAX_CYCLES.false (sym c.is_graph_name.ensures.value ∙ not-false _ c.if-not-is_graph_name.false-raw) h (omega (arith, c.well_formed)) c.if-rejected-page.false c.fill.ensures in record { page_after = p.0; lays = p.1.0; tells = p.1.1.0; widths = p.1.1.1 }
