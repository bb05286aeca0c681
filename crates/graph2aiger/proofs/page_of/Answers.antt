-- A page always fits, so what is printed is the whole page.
use Rattle.std.proofs.Common.{arith}
use Rattle.page.specs.Pages.{aiger_text}
use Rattle.page.proofs.ProgramLaws.{printed, aiger-cut}
use Rattle.graph2aiger.proofs.page_of.Goals as goal

pub returns : goal.returns
returns c =
    let e = c.aiger_page.ensures in
    printed aiger_text 32769 65536 aiger-cut c.args.input.now c.args.n c.args.out.now e.out_after e.fits (omega arith) (omega arith) c.unwrap_or.ensures
