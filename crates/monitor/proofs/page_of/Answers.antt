-- A page always fits, so what is printed is the whole page.
use Rattle.std.proofs.Common.{arith}
use Rattle.page.specs.Pages.{monitor_text}
use Rattle.page.proofs.ProgramLaws.{printed, monitor_cut}
use Rattle.monitor.proofs.page_of.Goals as goal

pub returns : goal.returns
returns c =
    let e = c.monitor_page.ensures in
    printed monitor_text 65537 250991 monitor_cut c.args.input.now c.args.n c.args.out.now e.out_after e.fits (omega arith) (omega arith) c.unwrap_or.ensures
