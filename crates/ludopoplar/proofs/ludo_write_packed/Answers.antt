-- `ludo_write_packed` meets its contract: `write` answers what `write_as` gives, which fixes code and result. Assumes nothing.
use mathlib.Core.Path.{refl}
use Rattle.aiger.specs.Write.{refusal_of}
use Rattle.ludopoplar.specs.Circuits.{write_as, write_with, write_packed_call}
use Rattle.ludopoplar.proofs.CountLaws.{ends}
use Rattle.ludopoplar.proofs.FileLaws.{writes}
use Rattle.ludopoplar.proofs.ludo_write_packed.Goals as goal

pub returns : goal.returns
unfolding write_packed_call write_with write_as
returns c =
    let e = ends refusal_of _ _ _ _ c.counted.ensures.code c.counted.ensures.count write_as (λ n b. refl) (λ cause b. refl) c.write.result c.map_err-written.ensures.cases c.write.new.bytes in
    record { length_after = rw (← c.write.ensures.bytes_after, e); writes = writes _ _ _ _ _ (rw (← c.write.ensures.bytes_after, e)) }
