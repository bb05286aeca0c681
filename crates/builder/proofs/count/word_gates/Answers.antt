-- `builder::count::word_gates` meets its contract. Assumes nothing.
use mathlib.Core.Path.{sym, ◌∙◌}
use native.Mathlib.Omega.{arith}
use Prim.Native.Nat.{◌-◌, ◌/◌}
use Rattle.builder.specs.Private.Machine.{named}
use Rattle.builder.proofs.CountLaws.{gates-name, gates-byte, gates-bit, gates-alike}
use Rattle.builder.proofs.FormulaLaws.{found-bounded}
use Rattle.builder.proofs.count.word_gates.Goals as goal

pub returns-then-w-lt-BYTES : goal.returns-then-w-lt-BYTES
returns-then-w-lt-BYTES c = (sym (gates-name _ _ _ c.if-w-lt-BYTES.true), omega arith)

pub returns-then-w-lt-BITS : goal.returns-then-w-lt-BITS
returns-then-w-lt-BITS c =
    (c.byte_gates.ensures.0 ∙ sym (gates-byte _ _ _ c.if-w-lt-BYTES.false c.if-w-lt-BITS.true), omega (arith, c.byte_gates.ensures.1))

pub returns-then-w-lt-ALIKE : goal.returns-then-w-lt-ALIKE
returns-then-w-lt-ALIKE c = (sym (gates-bit _ _ _ c.if-w-lt-BITS.false c.if-w-lt-ALIKE.true), omega arith)

pub overflow_mul-width : goal.overflow_mul-width
overflow_mul-width c =
    let a = c.args in
    omega (arith, (found-bounded (named a.names.now) a.field.now ((a.w - 16777216) / 4096) c.requires).1, c.width_of-width.ensures)

pub returns : goal.returns
returns c =
    let a = c.args in
    let f = c.width_of-width.ensures in
    (c.saturating_sub.ensures ∙ rw f (sym (gates-alike _ _ _ c.if-w-lt-ALIKE.false)), omega (arith, c.saturating_sub.ensures, f, (found-bounded (named a.names.now) a.field.now ((a.w - 16777216) / 4096) c.requires).1))
