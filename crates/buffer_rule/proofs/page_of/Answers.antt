-- Seven bytes of an input settle its page.
use Rattle.std.proofs.Common.{ap, ◌∙◌}
use Rattle.buffer_rule.specs.Page.{strokes_page}
use Rattle.buffer_rule.proofs.StrokesLaws.{read-page}
use Rattle.buffer_rule.proofs.page_of.Goals as goal

pub returns : goal.returns
returns c = (
  c.put_page.ensures.0,
  λ s d. c.put_page.ensures.1 ∙ ap strokes_page c.strokes_of.ensures ∙ read-page c.args.input.now s c.args.n c.requires.1 d,
)
