-- `session_page::lines::put_title` meets its contract. Assumes nothing.
use mathlib.Core.List.{List, ◌++◌}
use Prim.Native.Nat.{ℕ, ◌-◌}
use lib.ListN.{length}
use Rattle.text.specs.declared.writer.Writer.{Writer}
use Rattle.text.specs.Writer.{Writes}
use Rattle.text.proofs.WritingLaws.{then}
use Rattle.session_text.specs.Fields.{blanks, left}
use Rattle.session_text.proofs.TitleLaws.{title-is}
use Rattle.session_page.proofs.lines.put_title.Goals as goal

-- a name and the blanks after it
left-written : {l r : Writer} (name : List ℕ) → Writes l r (name ++ blanks (24 - length name)) → Writes l r (left 24 name)
unfolding left
left-written name w = w

pub returns : goal.returns
returns c =
    let name = c.args.name.now in
    rw (title-is name c.requires.0 c.args.cycles c.requires.1)
    (then (left-written name (then c.bytes.ensures c.put_blanks.ensures)) (then c.put_right.ensures c.put_rest.ensures))
