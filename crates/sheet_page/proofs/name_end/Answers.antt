-- `name_end` meets its contract. Assumes nothing.
use mathlib.Core.Path.{◌≡◌, sym, ◌∙◌}
use mathlib.Core.List.{[], ◌∷◌}
use Prim.Native.Nat.{ℕ}
use native.Mathlib.Omega.{arith}
use types.Run.{OneOf, miss}
use borrow.Enum.Refused.{opened}
use denote.Enum.Declared.{tag_of}
use borrow.Author.Tests.{not-true, not-false}
use lib.Seq.{length-take-le}
use Rattle.text.specs.declared.Line.{Line}
use Rattle.text.specs.declared.Line.TheVariants.{Ended, Unended, End}
use Rattle.text.specs.contracts.Line.{the_type}
use Rattle.sheet_page.proofs.NameLaws.{line-ended, line_unnamed, has_tested}
use Rattle.sheet_page.proofs.SheetLaws.{end_long, end_unnamed, end_named}
use Rattle.sheet_page.proofs.name_end.Goals as goal

-- a line that is not ended
not-ended : (x : Line) → OneOf (1 ∷ 2 ∷ []) (tag_of the_type x) → (end : ℕ) → x ≡ Ended end → ⊥
not-ended (Ended n) k end e = miss (1 ∷ 2 ∷ []) 0 tt k
not-ended Unended k end e = let z : ◌≡◌ {A = ℕ} 0 1 = cc in omega arith
not-ended End k end e = let z : ◌≡◌ {A = ℕ} 0 1 = cc in omega arith

pub returns-then-input-gt-MAX_INPUT : goal.returns-then-input-gt-MAX_INPUT
returns-then-input-gt-MAX_INPUT c = end_long c.args.input.now (omega arith)

pub returns-in_default : goal.returns-in_default
returns-in_default c =
    let s = c.args.input.now in
    end_unnamed s (omega arith) (line_unnamed s (λ end h. not-ended _ (opened c.in_default.in_default-own.keys2) end (c.line_at.ensures ∙ h)))

pub slice_bounds-is_graph_name-end : goal.slice_bounds-is_graph_name-end
slice_bounds-is_graph_name-end c =
    let s = c.args.input.now in
    let f = line-ended s (sym c.line_at.ensures ∙ c.in-Ended.is) in
    sym (length-take-le _ s (omega (arith, f.place, f.within)))

pub returns-then-not-is_graph_name : goal.returns-then-not-is_graph_name
returns-then-not-is_graph_name c =
    let s = c.args.input.now in
    let f = line-ended s (sym c.line_at.ensures ∙ c.in-Ended.is) in
    end_unnamed s (omega arith) (has_tested s f c.is_graph_name.ensures.value ∙ not-true _ c.if-not-is_graph_name.true-raw)

pub returns : goal.returns
returns c =
    let s = c.args.input.now in
    let f = line-ended s (sym c.line_at.ensures ∙ c.in-Ended.is) in
    end_named s (omega arith) f (has_tested s f c.is_graph_name.ensures.value ∙ not-false _ c.if-not-is_graph_name.false-raw)
