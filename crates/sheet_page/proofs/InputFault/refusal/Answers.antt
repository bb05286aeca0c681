-- `refusal` meets its contract. Assumes nothing.
use mathlib.Core.Path.{sym, ap}
use Rattle.sheet_page.specs.Sheets.{input_refusal}
use Rattle.sheet_page.proofs.InputFault.refusal.Goals as goal

pub returns-in-TooLong : goal.returns-in-TooLong
unfolding input_refusal
returns-in-TooLong c = sym (ap input_refusal c.in-TooLong.is)

pub returns-in-NoGraphName : goal.returns-in-NoGraphName
unfolding input_refusal
returns-in-NoGraphName c = sym (ap input_refusal c.in-NoGraphName.is)
