-- Where the line of an input ends that is its graph name. Assumes nothing.
use Rattle.std.specs.Prelude.{Result, Ok, Err, cond, not, ℕ, leb, length}
use Rattle.text.specs.Lines.{to_lf}
use Rattle.assertion.specs.Graph.{Bytes}
use Rattle.sheet_page.specs.declared.InputFault.{InputFault}
use Rattle.sheet_page.specs.declared.InputFault.TheVariants.{TooLong, NoGraphName}
use Rattle.sheet_page.specs.Sheets.{has_name}

-- the first fault that an input has, or the place of the LF after its name
unfoldable pub name_end : Bytes → Result ℕ InputFault
name_end input = cond (not (leb (length input) 65536)) (Err TooLong) (cond (not (has_name input)) (Err NoGraphName) (Ok (to_lf input)))
