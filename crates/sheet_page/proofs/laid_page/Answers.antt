-- `laid_page` meets its contract: what may be printed is refused only for its buffer. Assumes nothing.
use Rattle.sheet_page.proofs.LaidLaws.{laid_page_lem}
use Rattle.sheet_page.proofs.laid_page.Goals as goal

pub returns : goal.returns
returns c =
    rw c.or.ensures (laid_page_lem c.args.name.now c.args.verdicts.now c.args.out.now c.requires.0 c.requires.1 c.lay_out.ensures.page_after)
