-- `put_gate_runs` meets its contract. Assumes nothing.
use Rattle.text.proofs.WritingLaws.{then}
use Rattle.packed.specs.Format.{gate_runs}
use Rattle.packed.proofs.put_gate_runs.Goals as goal

pub returns : goal.returns
unfolding gate_runs
returns c =
    then c.put_run.ensures c.put_run-2.ensures
