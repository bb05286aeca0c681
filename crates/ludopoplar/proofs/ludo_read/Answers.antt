-- `ludo_read` meets its contract: `read` answers what `read_of` gives, which fixes code and result. Assumes nothing.
use mathlib.Core.Path.{refl}
use Rattle.aiger_file.specs.Read.{refusal_of}
use Rattle.ludopoplar.specs.Circuits.{read_as, read_call}
use Rattle.ludopoplar.proofs.CountLaws.{ends}
use Rattle.ludopoplar.proofs.FileLaws.{reads}
use Rattle.ludopoplar.proofs.ludo_read.Goals as goal

pub returns : goal.returns
unfolding read_call read_as
returns c =
    let e = ends refusal_of _ _ _ _ c.counted.ensures.code c.counted.ensures.count read_as (λ n b. refl) (λ cause b. refl) c.read.result c.map_err-read.ensures.cases c.read.new.net in
    record { length_after = rw (← c.read.ensures.net_after, e); reads = reads c.read.ensures.exact _ _ c.read.ensures.bytes _ _ (rw (← c.read.ensures.net_after, e)) }
