-- `packed_page` meets its contract. Assumes nothing.
use mathlib.Core.Bool.{true}
use borrow.Author.Rules.{rules}
use Rattle.aiger.specs.Write.{write_of}
use Rattle.page.specs.Pages.{packed_text}
use Rattle.page.specs.Private.Files.{file_in, file_text}
use Rattle.page.proofs.FileLaws.{file-page}
use Rattle.page.proofs.packed_page.Goals as goal

pub returns : goal.returns
unfolding packed_text file_text file_in write_of
returns c =
    let e = c.graph_file.ensures true (λ net shown left answer met. search rules) in
    record { out_after = e.out_after; fits = e.fits; prints = file-page _ _ }
