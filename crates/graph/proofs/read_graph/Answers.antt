-- `graph::read_graph` meets its contract: before each line the arrays hold the graph of the lines before it, and the result of the lines that are left is the result of all. Assumes nothing.
use Rattle.std.specs.Prelude.{Err}
use mathlib.Core.Path.{◌≡◌, ap, ◌∙◌}
use native.Mathlib.Omega.{arith}
use borrow.Author.Rules.{rules}
use Rattle.graph.proofs.AnswerLaws.{finish_none, finish_some}
use Rattle.std.proofs.lemmas.Result.{err_from_is_err_and}
use Rattle.graph.specs.declared.Cause.TheVariants.{FaultyLine}
use Rattle.graph.proofs.OptionLaws.{mapped_ok, mapped_err}
use Rattle.graph.proofs.ChosenLaws.{claimed}
use Rattle.graph.proofs.TextLaws.{going_start, going_holds, going_kept, going_next, read-long, read_unended, read-fault, read_end_lem}
use Rattle.graph.proofs.read_graph.Goals as goal

pub returns-then-text-gt-LONGEST_TEXT : goal.returns-then-text-gt-LONGEST_TEXT
returns-then-text-gt-LONGEST_TEXT c =
    let t = c.args.text.now in
    let p = claimed t (read-long t c.if-text-gt-LONGEST_TEXT.true) in record { value = p.0; sound = p.1.0; modes = p.1.1.0; widths = p.1.1.1.0; formulas = p.1.1.1.1 }

pub loop-at-init : goal.loop-at-init
loop-at-init c =
    let t = c.args.text.now in
    (omega arith, omega arith, omega arith, going_start t (c.empty-g.ensures t))

pub returns-then-end-text : goal.returns-then-end-text
returns-then-end-text c =
    let l = c.loop-at in
    let t = c.args.text.now in
    let p = claimed t (read_unended t l.invariant.0 l.g l.at l.line l.invariant.3 c.loop-at-test.true c.end_at-end.ensures.0 c.if-end-text.true) in record { value = p.0; sound = p.1.0; modes = p.1.1.0; widths = p.1.1.1.0; formulas = p.1.1.1.1 }

pub add_line-requires : goal.add_line-requires
add_line-requires c =
    let l = c.loop-at in
    let t = c.args.text.now in
    (going_kept t l.g l.at l.line l.invariant.3, c.end_at-end.ensures.0, c.end_at-end.ensures.1, c.end_at-end.ensures.2, l.invariant.0)

pub returns-in_err-map_err : goal.returns-in_err-map_err
returns-in_err-map_err c =
    let l = c.loop-at in
    let t = c.args.text.now in
    let i = l.invariant.3 in
    let m = mapped_err c.add_line.result _ c.map_err.ensures.cases c.in_err-map_err.was in
    let told : c.in_err-map_err.field-0.0 ≡ FaultyLine m.0 l.line = search rules in
    let r = err_from_is_err_and c.from_residual.result c.from_residual.ensures.1 in
    let p = claimed t (r.1 ∙ ap Err (r.2 ∙ told) ∙ read-fault t l.invariant.0 l.g l.at l.line i c.end_at-end.ensures.0 (omega (arith, c.end_at-end.ensures.2, c.if-end-text.false)) (c.add_line.ensures i.graph (going_holds t l.g l.at l.line i) i.start) m.1) in record { value = p.0; sound = p.1.0; modes = p.1.1.0; widths = p.1.1.1.0; formulas = p.1.1.1.1 }

pub loop-at-preserved : goal.loop-at-preserved
loop-at-preserved c =
    let l = c.loop-at in
    let t = c.args.text.now in
    let i = l.invariant.3 in
    let went = mapped_ok c.add_line.result _ c.map_err.ensures.cases c.in_ok-map_err.was in
    (l.invariant.0, omega arith, omega arith, going_next t l.g l.at l.line i c.end_at-end.ensures.0 (omega (arith, c.end_at-end.ensures.2, c.if-end-text.false)) (c.add_line.ensures i.graph (going_holds t l.g l.at l.line i) i.start) went)

pub choose-requires : goal.choose-requires
choose-requires c =
    let l = c.loop-at in
    going_kept c.args.text.now l.g l.at l.line l.invariant.3

pub returns-then-g-eq0 : goal.returns-then-g-eq0
returns-then-g-eq0 c =
    let l = c.loop-at in
    let t = c.args.text.now in
    let i = l.invariant.3 in
    let p = claimed t (finish_none t l.g i.graph i.arrays c.if-g-eq0.true ∙ read_end_lem t l.invariant.0 l.g l.at l.line i c.loop-at-test.false) in record { value = p.0; sound = p.1.0; modes = p.1.1.0; widths = p.1.1.1.0; formulas = p.1.1.1.1 }

pub returns : goal.returns
returns c =
    let l = c.loop-at in
    let t = c.args.text.now in
    let i = l.invariant.3 in
    let p = claimed t (finish_some t l.g i.graph i.arrays c.if-g-eq0.false c.choose.ensures ∙ read_end_lem t l.invariant.0 l.g l.at l.line i c.loop-at-test.false) in record { value = p.0; sound = p.1.0; modes = p.1.1.0; widths = p.1.1.1.0; formulas = p.1.1.1.1 }
