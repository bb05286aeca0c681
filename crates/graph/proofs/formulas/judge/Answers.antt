-- `graph::formulas::judge` meets its contract. Assumes nothing.
use mathlib.Core.Path.{◌≡◌, sym, ◌∙◌}
use mathlib.Core.Bool.{true, false}
use mathlib.Core.List.{[]}
use Prim.Native.Nat.{ℕ}
use native.Mathlib.Omega.{arith}
use borrow.Author.Rules.{rules}
use borrow.Author.Tests.{tests}
use lib.ListN.{take}
use Rattle.std.proofs.lemmas.Result.{err_from_is_err_and}
use Rattle.std.proofs.lemmas.Iterator.{YieldsList-from_slice, cases_from_all}
use Rattle.graph.specs.declared.Fault.TheVariants.{NotFormula}
use Rattle.graph.specs.Private.Steps.{held, word_fits, word_known}
use Rattle.graph.proofs.OptionLaws.{refused_none, taken_some}
use Rattle.graph.proofs.SearchLaws.{all_by}
use Rattle.graph.proofs.WordLaws.{judge_unformed, judge_formed}
use Rattle.graph.proofs.formulas.judge.Goals as goal

pub returns-in_err-f : goal.returns-in_err-f
returns-in_err-f c =
    let p = err_from_is_err_and c.from_residual.result c.from_residual.ensures.1 in
    let n = refused_none c.read.result c.ok_or.ensures.value c.in_err-f.was in
    λ narrow. rw (p.1, p.2, n.1) (judge_unformed _ _ c.read.ensures.value n.0)

pub returns-then-f-gt-DEEPEST : goal.returns-then-f-gt-DEEPEST
returns-then-f-gt-DEEPEST c =
    let f = taken_some c.read.result NotFormula c.ok_or.ensures.value c.in_ok-f.was in
    λ narrow. (judge_formed _ _ c.read.ensures.value f).depth (omega arith)

pub shared_ref_as_front-words : goal.shared_ref_as_front-words
shared_ref_as_front-words c =
    let f = taken_some c.read.result NotFormula c.ok_or.ensures.value c.in_ok-f.was in
    (judge_formed [] _ c.read.ensures.value f).few

pub returns-then-all : goal.returns-then-all
returns-then-all c =
    let a = c.args in
    let ns = held a.text.now a.symbols.now in
    let ws = take c.in_ok-f.f.count c.in_ok-f.f.words in
    let f = taken_some c.read.result NotFormula c.ok_or.ensures.value c.in_ok-f.was in
    let fit = all_by (word_fits ns a.field.now) ws c.all.result (cases_from_all _ _ _ (λ (w : ℕ). word_fits ns a.field.now w ≡ true) (λ (w : ℕ). word_fits ns a.field.now w ≡ false) c.all.ensures.ran (YieldsList-from_slice ws cc) (λ x q k. search (rules, tests)) (λ x q k. search (rules, tests))) in
    λ narrow. (judge_formed _ _ c.read.ensures.value f).fine (sym c.if-all.true ∙ fit) (omega arith) narrow

pub returns-then-all-2 : goal.returns-then-all-2
returns-then-all-2 c =
    let a = c.args in
    let ns = held a.text.now a.symbols.now in
    let ws = take c.in_ok-f.f.count c.in_ok-f.f.words in
    let f = taken_some c.read.result NotFormula c.ok_or.ensures.value c.in_ok-f.was in
    let fit = all_by (word_fits ns a.field.now) ws c.all.result (cases_from_all _ _ _ (λ (w : ℕ). word_fits ns a.field.now w ≡ true) (λ (w : ℕ). word_fits ns a.field.now w ≡ false) c.all.ensures.ran (YieldsList-from_slice ws cc) (λ x q k. search (rules, tests)) (λ x q k. search (rules, tests))) in
    let known = all_by (word_known ns a.field.now) ws c.all-2.result (cases_from_all _ _ _ (λ (w : ℕ). word_known ns a.field.now w ≡ true) (λ (w : ℕ). word_known ns a.field.now w ≡ false) c.all-2.ensures.ran (YieldsList-from_slice ws cc) (λ x q k. search (rules, tests)) (λ x q k. search (rules, tests))) in
    (judge_formed _ _ c.read.ensures.value f).widths (sym c.if-all.false ∙ fit) (sym c.if-all-2.true ∙ known) (omega arith)

pub returns : goal.returns
returns c =
    let a = c.args in
    let ns = held a.text.now a.symbols.now in
    let ws = take c.in_ok-f.f.count c.in_ok-f.f.words in
    let f = taken_some c.read.result NotFormula c.ok_or.ensures.value c.in_ok-f.was in
    let known = all_by (word_known ns a.field.now) ws c.all-2.result (cases_from_all _ _ _ (λ (w : ℕ). word_known ns a.field.now w ≡ true) (λ (w : ℕ). word_known ns a.field.now w ≡ false) c.all-2.ensures.ran (YieldsList-from_slice ws cc) (λ x q k. search (rules, tests)) (λ x q k. search (rules, tests))) in
    λ narrow. (judge_formed _ _ c.read.ensures.value f).unknown (sym c.if-all-2.false ∙ known) (omega arith)
