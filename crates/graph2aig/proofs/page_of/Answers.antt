-- A page always fits, so what is printed is the whole page.
use Rattle.std.proofs.Common.{arith}
use Rattle.page.specs.Pages.{packed_text}
use Rattle.page.proofs.ProgramLaws.{printed, packed-cut}
use Rattle.graph2aig.proofs.page_of.Goals as goal

pub returns : goal.returns
returns c =
    let e = c.packed_page.ensures in
    printed packed_text 32769 65536 packed-cut c.args.input.now c.args.n c.args.out.now e.out_after e.fits (omega arith) (omega arith) c.unwrap_or.ensures
