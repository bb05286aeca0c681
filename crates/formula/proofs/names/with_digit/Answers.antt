-- `with_digit` meets its contract. Assumes nothing.
use Rattle.text.proofs.NumberLaws.{digit_range}
use Rattle.formula.proofs.names.with_digit.Goals as goal

pub overflow_sub-v : goal.overflow_sub-v
overflow_sub-v c = (digit_range _ c.requires.1).0
