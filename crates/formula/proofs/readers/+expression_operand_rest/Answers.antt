-- The readers `expression`, `operand` and `rest`, which call each other, meet their contracts. Each return is
-- a step of `Steps`. Assumes nothing.
use Rattle.std.specs.Prelude.{None, Some}
use mathlib.Core.Path.{◌≡◌, refl, ap, sym, subst, ◌∙◌}
use Prim.Native.Nat.{ℕ, ◌+◌, ◌*◌, ◌-◌}
use native.Mathlib.Omega.{arith}
use lib.ListN.{length, get_or, drop, set}
use Rattle.formula.specs.declared.Start.TheVariants.{Not, Group, Bit, Name, Nothing}
use Rattle.formula.specs.declared.readers.Read.{Read}
use Rattle.formula.specs.Classes.{start_of, strength_of, run}
use Rattle.formula.specs.Grammar.{bit, got, name_of, expression_of}
use Rattle.formula.specs.Reading.{byte_word}
use Rattle.formula.specs.Private.Readers.{Bounds, counted_of}
use Rattle.formula.proofs.Steps as steps
use Rattle.formula.proofs.readers.+expression_operand_rest.Goals as goal

pub expression-returns-in_err-left-clause-by_index : goal.expression-returns-in_err-left-clause-by_index
expression-returns-in_err-left-clause-by_index t c =
    let a = c.args in
    rw c.from_residual.ensures (steps.step_expression-none a.s.now a.above a.at a.out.now a.n c.operand.new.out c.operand.new.out c.in_err-left.ensures.by_index)

pub expression-returns-clause-by_index : goal.expression-returns-clause-by_index
expression-returns-clause-by_index t c =
    let a = c.args in
    let b = c.in_ok-left.ensures.bounds in
    steps.step_expression a.s.now a.above a.at a.out.now a.n c.operand.new.out c.rest.new.out c.in_ok-left.left c.rest.result
    c.in_ok-left.ensures.by_index
    (omega arith)
    c.rest.ensures.by_index

pub operand-operand-requires : goal.operand-operand-requires
operand-operand-requires t c =
    let e : start_of (get_or c.args.s.now c.args.at 0) ≡ Not = cc in
    let w = steps.starts c.args.s.now c.args.at Not e (omega arith) in
    omega arith

pub operand-expression-requires : goal.operand-expression-requires
operand-expression-requires t c =
    let e : start_of (get_or c.args.s.now c.args.at 0) ≡ Group = cc in
    let w = steps.starts c.args.s.now c.args.at Group e (omega arith) in
    omega arith

pub operand-with_byte-requires-in-Bit : goal.operand-with_byte-requires-in-Bit
operand-with_byte-requires-in-Bit t c =
    let e : start_of (get_or c.args.s.now c.args.at 0) ≡ Bit = cc in
    let w = steps.starts c.args.s.now c.args.at Bit e (omega arith) in
    omega arith

pub operand-returns-in_err-inner-in-Not-clause-by_index : goal.operand-returns-in_err-inner-in-Not-clause-by_index
operand-returns-in_err-inner-in-Not-clause-by_index t c =
    let a = c.args in
    let e : start_of (get_or a.s.now a.at 0) ≡ Not = cc in
    rw c.from_residual.ensures (steps.step_not-none a.s.now a.at a.out.now a.n c.operand.new.out c.operand.new.out e c.in_err-inner-in-Not.ensures.by_index)

pub operand-returns-in_ok-inner-in-Not-clause-by_index : goal.operand-returns-in_ok-inner-in-Not-clause-by_index
operand-returns-in_ok-inner-in-Not-clause-by_index t c =
    let a = c.args in
    let o = c.in_ok-inner-in-Not in
    let w = c.with_byte in
    let e : start_of (get_or a.s.now a.at 0) ≡ Not = cc in
    steps.step_not a.s.now a.at a.out.now a.n w.new.out c.operand.new.out e o.inner c.deeper.result w.result
    o.ensures.by_index c.deeper.ensures w.ensures.0 w.ensures.1

pub operand-returns-in_err-inner-in-Group-clause-by_index : goal.operand-returns-in_err-inner-in-Group-clause-by_index
operand-returns-in_err-inner-in-Group-clause-by_index t c =
    let a = c.args in
    let e : start_of (get_or a.s.now a.at 0) ≡ Group = cc in
    rw c.from_residual-in_err-inner-in-Group.ensures
    (steps.step_group-none a.s.now a.at a.out.now a.n c.expression.new.out c.expression.new.out e c.in_err-inner-in-Group.ensures.by_index)

pub operand-returns-in_err-group-in-Group-clause-by_index : goal.operand-returns-in_err-group-in-Group-clause-by_index
operand-returns-in_err-group-in-Group-clause-by_index t c =
    let a = c.args in
    let i = c.in_ok-inner-in-Group in
    let e : start_of (get_or a.s.now a.at 0) ≡ Group = cc in
    rw c.from_residual-in_err-group-in-Group.ensures
    (steps.step_unclosed a.s.now a.at a.out.now a.n c.expression.new.out c.expression.new.out e i.inner
    (sym c.closed.ensures ∙ c.in_err-group-in-Group.was)
    i.ensures.by_index
    refl)

pub operand-returns-in_ok-group-in-Group-clause-by_index : goal.operand-returns-in_ok-group-in-Group-clause-by_index
operand-returns-in_ok-group-in-Group-clause-by_index t c =
    let a = c.args in
    let i = c.in_ok-inner-in-Group in
    let g = c.in_ok-group-in-Group in
    let e : start_of (get_or a.s.now a.at 0) ≡ Group = cc in
    steps.step_group a.s.now a.at a.out.now a.n c.expression.new.out c.expression.new.out e i.inner g.group c.deeper-in-Group.result
    (sym c.closed.ensures ∙ g.was)
    i.ensures.by_index
    c.deeper-in-Group.ensures
    refl

pub operand-returns-in-Bit-clause-bounds : goal.operand-returns-in-Bit-clause-bounds
operand-returns-in-Bit-clause-bounds t c =
    let e : start_of (get_or c.args.s.now c.args.at 0) ≡ Bit = cc in
    let w = steps.starts c.args.s.now c.args.at Bit e (omega arith) in
    subst (λ (r : Read). Bounds (length c.args.s.now) c.args.at c.args.n (Some r)) (sym c.with_byte-in-Bit.ensures.0) (omega arith)

pub operand-returns-in-Bit-clause-by_index : goal.operand-returns-in-Bit-clause-by_index
operand-returns-in-Bit-clause-by_index t c =
    let s = c.args.s.now in
    let at = c.args.at in
    let n = c.args.n in
    let out = c.args.out.now in
    let w = c.with_byte-in-Bit in
    let b = get_or s at 0 in
    let e : start_of (get_or s at 0) ≡ Bit = cc in
    steps.leaf s at out n w.new.out (Some w.result) (got (bit b) (at + 1))
    (λ (f : ℕ). steps.operand_bit f s at e)
    (steps.starts s at Bit e (omega arith))
    (steps.reads-bit out w.new.out w.result at n b w.ensures.0 (w.ensures.1 ∙ ap (λ (x : ℕ). set out n (byte_word x)) c.byte_at-b.ensures))

pub operand-returns-in-Name-clause-by_index : goal.operand-returns-in-Name-clause-by_index
operand-returns-in-Name-clause-by_index t c =
    let s = c.args.s.now in
    let at = c.args.at in
    let e : start_of (get_or s at 0) ≡ Name = cc in
    steps.leaf s at c.args.out.now c.args.n c.name.new.out c.name.result (name_of s at (run (drop at s)))
    (λ (f : ℕ). steps.operand_name f s at e)
    (steps.starts s at Name e (omega arith))
    c.name.ensures.reads

pub operand-returns-in-Nothing-clause-by_index : goal.operand-returns-in-Nothing-clause-by_index
operand-returns-in-Nothing-clause-by_index t c =
    let e : start_of (get_or c.args.s.now c.args.at 0) ≡ Nothing = cc in
    steps.nothing c.args.s.now c.args.at c.args.out.now c.args.n c.args.out.now e

pub rest-expression-requires : goal.rest-expression-requires
rest-expression-requires t c =
    let k : c.strength-k.result ≡ strength_of (get_or c.args.s.now c.args.left.next 0) = cc in
    let w = steps.joins c.args.s.now c.args.left.next c.args.above (omega arith) in
    omega arith

pub rest-returns-then-k-above-clause-by_index : goal.rest-returns-then-k-above-clause-by_index
rest-returns-then-k-above-clause-by_index t c =
    let k : c.strength-k.result ≡ strength_of (get_or c.args.s.now c.args.left.next 0) = cc in
    steps.step_stop c.args.s.now c.args.above c.args.left c.args.out.now (omega arith)

pub rest-returns-in_err-right-clause-by_index : goal.rest-returns-in_err-right-clause-by_index
rest-returns-in_err-right-clause-by_index t c =
    let s = c.args.s.now in
    let l = c.args.left in
    let x = c.expression in
    let k : c.strength-k.result ≡ strength_of (get_or s l.next 0) = cc in
    let rd = subst (λ (m : ℕ). steps.Holds (2 * (length s - (l.next + 1)) + 1) (λ (f : ℕ). expression_of f s m (l.next + 1)) c.args.out.now l.count x.new.out None) k c.in_err-right.ensures.by_index in
    rw c.from_residual.ensures (steps.step_none s c.args.above l c.args.out.now x.new.out (omega arith) rd)

pub rest-returns-clause-by_index : goal.rest-returns-clause-by_index
rest-returns-clause-by_index t c =
    let s = c.args.s.now in
    let l = c.args.left in
    let x = c.expression in
    let i = c.in_ok-right in
    let w = c.with_byte-both in
    let k : c.strength-k.result ≡ strength_of (get_or s l.next 0) = cc in
    let rd = subst (λ (m : ℕ). steps.Holds (2 * (length s - (l.next + 1)) + 1) (λ (f : ℕ). expression_of f s m (l.next + 1)) c.args.out.now l.count x.new.out (Some i.right)) k i.ensures.by_index in
    let b = i.ensures.bounds in
    let q = w.ensures.0 ∙ ap counted_of c.beside.ensures in
    steps.step_go s c.args.above l c.args.out.now x.new.out (omega arith) w.new.out c.rest.new.out i.right c.beside.result w.result c.rest.result
    rd
    c.beside.ensures
    w.ensures.0
    (w.ensures.1 ∙ ap (λ (y : ℕ). set x.new.out c.beside.result.count (byte_word y)) c.byte_at-b.ensures)
    (omega (arith, ap (λ (y : Read). y.next) q))
    c.rest.ensures.by_index
