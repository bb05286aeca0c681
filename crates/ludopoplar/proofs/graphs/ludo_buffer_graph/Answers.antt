-- `ludo_buffer_graph` meets its contract: `write` of buffer_graph answers what `write_of` gives, which fixes code and result.
-- Assumes nothing.
use Rattle.std.proofs.lemmas.Result.{IfOk-at_ok}
use mathlib.Core.Path.{refl}
use Rattle.buffer_graph.specs.Write.{refusal_of}
use Rattle.ludopoplar.specs.Graphs.{buffer_as, buffer_graph_call}
use Rattle.ludopoplar.proofs.CountLaws.{ends, accepts}
use Rattle.ludopoplar.proofs.NumberLaws.{numbered}
use Rattle.ludopoplar.proofs.graphs.ludo_buffer_graph.Goals as goal

pub returns : goal.returns
unfolding buffer_graph_call buffer_as
returns c =
    let n = c.counted.ensures in
    let m = c.map_err-written.ensures.cases in
    let e = ends refusal_of _ _ _ _ n.code n.count buffer_as (λ n b. refl) (λ cause b. refl) c.write.result m c.write.new.text in
    record {
      length_after = rw (← c.write.ensures.text_after, e);
      buffer = λ z. IfOk-at_ok _ (accepts refusal_of _ _ _ _ n.code n.count numbered.buffer-numbered z c.write.result m) c.write.ensures.buffer;
    }
