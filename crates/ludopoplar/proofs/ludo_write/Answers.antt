-- `ludo_write` meets its contract: `write` answers what `write_of` gives, which fixes code and result. Assumes nothing.
use mathlib.Core.Path.{refl}
use Rattle.aiger.specs.Write.{write_of, refusal_of}
use Rattle.ludopoplar.specs.Circuits.{write_as, write_with, write_call}
use Rattle.ludopoplar.proofs.CountLaws.{ends}
use Rattle.ludopoplar.proofs.FileLaws.{writes}
use Rattle.ludopoplar.proofs.ludo_write.Goals as goal

pub returns : goal.returns
unfolding write_call write_with write_as write_of
returns c =
    let e = ends refusal_of _ _ _ _ c.counted.ensures.code c.counted.ensures.count write_as (λ n b. refl) (λ cause b. refl) c.write.result c.map_err-written.ensures.cases c.write.new.text in
    record { length_after = rw (← c.write.ensures.text_after, e); writes = writes _ _ _ _ _ (rw (← c.write.ensures.text_after, e)) }
