-- `session_page::printable::is_graph_name` meets its contract. Assumes nothing.
use mathlib.Core.Path.{sym}
use native.Mathlib.Omega.{arith}
use Rattle.session_page.proofs.PrintableLaws.{name-empty, name-long, name_bytes_lem, name-answered}
use Rattle.session_page.proofs.printable.is_graph_name.Goals as goal

pub returns-then-name-eq0 : goal.returns-then-name-eq0
returns-then-name-eq0 c = let p = name-answered _ (sym (name-empty _ c.if-name-eq0.true)) in record { value = p.0; named = p.1 }

pub returns-then-name-gt-LONGEST_NAME : goal.returns-then-name-gt-LONGEST_NAME
returns-then-name-gt-LONGEST_NAME c = let p = name-answered _ (sym (name-long _ c.if-name-gt-LONGEST_NAME.true)) in record { value = p.0; named = p.1 }

pub returns : goal.returns
returns c =
    let name = c.args.name.now in
    let p = name-answered name (rw c.name_end.ensures (name_bytes_lem name (omega arith) c.if-name-gt-LONGEST_NAME.false)) in record { value = p.0; named = p.1 }
