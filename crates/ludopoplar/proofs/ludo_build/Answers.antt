-- `ludo_build` meets its contract: `build` answers what `build_of` gives, which fixes code and result. Assumes nothing.
use mathlib.Core.Path.{refl}
use Rattle.builder.specs.Build.{refusal_of}
use Rattle.ludopoplar.specs.Circuits.{build_as, build_with, build_call}
use Rattle.ludopoplar.proofs.CallLaws.{builds, answers}
use Rattle.ludopoplar.proofs.CountLaws.{ends, accepts}
use Rattle.ludopoplar.proofs.NumberLaws.{numbered}
use Rattle.ludopoplar.proofs.ludo_build.Goals as goal

pub returns : goal.returns
unfolding build_call build_with build_as
returns c =
    let b = c.build.ensures in
    let n = c.counted.ensures in
    let m = c.map_err-built.ensures.cases in
    let e = ends refusal_of _ _ _ _ n.code n.count build_as (λ n b. refl) (λ cause b. refl) c.build.result m c.build.new.net in
    record {
      gates_after = rw (← b.net_after, e);
      demand = λ z. builds _ _ _ _ _ _ b.net_after (accepts refusal_of _ _ _ _ n.code n.count numbered.build_numbered z c.build.result m) b.demand;
      answers = answers _ _ _ _ _ (rw (← b.net_after, e));
      numbered = numbered;
    }
