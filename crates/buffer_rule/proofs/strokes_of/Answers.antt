-- An input is a number of strokes only as a line of a number, and nothing after it.
use Rattle.std.proofs.Common.{sym, ◌∙◌}
use Rattle.buffer_rule.proofs.StrokesLaws.{no_number, no_line_lem, a-line}
use Rattle.buffer_rule.proofs.strokes_of.Goals as goal
use Rattle.buffer_rule.proofs.strokes_of.Goals.{then-byte_at-ne10-via-then-byte_at-ne10, then-byte_at-ne10-via-else-byte_at-ne10+then-input-end}

pub returns-in_default : goal.returns-in_default
returns-in_default c = no_number c.args.input.now (sym c.read_number.ensures.value ∙ c.in_default.is)

pub returns-then-byte_at-ne10 : goal.returns-then-byte_at-ne10
returns-then-byte_at-ne10 c =
    no_line_lem c.args.input.now (sym c.in-Some.ensures.value)
    (λ l e. elim c.then-byte_at-ne10.branch [
      | then-byte_at-ne10-via-then-byte_at-ne10 w ↦ w.if-byte_at-ne10.true (c.byte_at.ensures ∙ l)
      | then-byte_at-ne10-via-else-byte_at-ne10+then-input-end w ↦ w.if-input-end.true e
    ])

pub returns : goal.returns
returns c = a-line c.args.input.now (sym c.in-Some.ensures.value) (sym c.byte_at.ensures ∙ c.if-byte_at-ne10.false) c.if-input-end.false
