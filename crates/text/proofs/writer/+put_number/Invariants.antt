-- `text::writer::put_number` meets its contract; the number falls. Assumes nothing.
use Rattle.text.proofs.writer.+put_number.Given as goal

abbrev pub decreases-put_number : goal.decreases-put_number
decreases-put_number l = l.n
