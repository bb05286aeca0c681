-- A page always fits, so what is printed is the whole page.
use Rattle.std.proofs.Common.{arith}
use Rattle.sheet_page.specs.Sheets.{sheet_text}
use Rattle.page.proofs.ProgramLaws.{printed}
use Rattle.sheet_page.proofs.ProgramLaws.{sheet-cut}
use Rattle.sheet.proofs.page_of.Goals as goal

pub returns : goal.returns
returns c =
    let e = c.sheet_page.ensures in
    printed sheet_text 65537 265518 sheet-cut c.args.input.now c.args.n c.args.out.now e.out_after e.fits (omega arith) (omega arith) c.unwrap_or.ensures
