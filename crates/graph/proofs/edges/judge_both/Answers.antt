-- `graph::edges::judge_both` meets its contract. Assumes nothing.
use Rattle.graph.proofs.edges.judge_both.Goals as goal

pub returns : goal.returns
returns c =
    λ narrow. rw (← c.part.ensures, ← c.part-2.ensures, ← c.judge-a.ensures narrow, ← c.judge-c.ensures narrow) c.lower_of.ensures
