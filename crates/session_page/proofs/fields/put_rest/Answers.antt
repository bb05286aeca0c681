-- `session_page::fields::put_rest` meets its contract. Assumes nothing.
use Rattle.text.proofs.WritingLaws.{then}
use Rattle.session_page.proofs.fields.put_rest.Goals as goal

pub returns : goal.returns
returns c = search then
