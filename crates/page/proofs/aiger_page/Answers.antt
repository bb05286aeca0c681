-- `aiger_page` meets its contract. Assumes nothing.
use mathlib.Core.Bool.{false}
use borrow.Author.Rules.{rules}
use Rattle.aiger.specs.Write.{write_of}
use Rattle.page.specs.Pages.{aiger_text}
use Rattle.page.specs.Private.Files.{file_in, file_text}
use Rattle.page.proofs.FileLaws.{file-page}
use Rattle.page.proofs.aiger_page.Goals as goal

pub returns : goal.returns
unfolding aiger_text file_text file_in write_of
returns c =
    let e = c.graph_file.ensures false (λ net shown left answer met. search rules) in
    record { out_after = e.out_after; fits = e.fits; prints = file-page _ _ }
