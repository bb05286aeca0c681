-- Whatever keeps the equation of start, step or run is the call that demand 3 speaks of. Assumes nothing.
use mathlib.Core.Path.{◌≡◌, sym, ap}
use mathlib.Core.List.{List, []}
use Prim.Native.Nat.{ℕ}
use Rattle.netlist.specs.Layout.{input_count}
use Rattle.simulator.specs.Start.{StartEnd}
use Rattle.simulator.specs.Step.{StepEnd}
use Rattle.simulator.specs.Run.{RunEnd}
use Rattle.demand.specs.Calls.{Kept, stepped, ran, Called, called, step_gives, run_gives}
use Rattle.demand.specs.Demand.{kept_by}
use Rattle.demand.specs.Forms.{EitherForm}

pub either_form : EitherForm
unfolding called
either_form =
    record {
      starts = λ net latches l' t t' r e. ap kept_by (sym e);
      steps = λ net cycle latches values l' v' t t' r e.
          ap {B = Called} (λ (d : StepEnd). record { kept = record { latches = d.latches; tally = d.answer.tally }; answer = stepped d.answer.outcome; cycles = step_gives d.answer.outcome cycle; verdicts = [] }) (sym e);
      runs = λ net trace latches values bytes l' v' b' t t' r e.
          ap {B = Called} (λ (d : RunEnd). record { kept = record { latches = d.latches; tally = d.answer.tally }; answer = ran d.answer.outcome; cycles = run_gives d.answer.outcome (input_count net) trace; verdicts = d.verdicts }) (sym e);
    }
