-- `session_page::lines::put_last` meets its contract. Assumes nothing.
use mathlib.Core.Path.{◌∙◌}
use Rattle.text.proofs.WritingLaws.{then}
use Rattle.rate.proofs.RateLaws.{rate-unchecked}
use Rattle.session_text.proofs.LastLaws.{last-is}
use Rattle.session_page.proofs.lines.put_last.Goals as goal

pub returns : goal.returns
returns c =
    let t = c.args.tally in
    rw (last-is t.cycles t.rejected c.requires.1 c.requires.0)
    (then c.put_right.ensures (then (rw (c.per_million-rated.ensures.value ∙ rate-unchecked t) at c.put_rate.ensures) c.put_rest.ensures))
