-- `ludo_dearest_graph` meets its contract: `write` of dearest_graph answers what `write_of` gives, which fixes code and result.
-- Assumes nothing.
use Rattle.std.proofs.lemmas.Result.{IfOk-at_ok}
use mathlib.Core.Path.{refl}
use Rattle.dearest_graph.specs.Write.{refusal_of}
use Rattle.ludopoplar.specs.Graphs.{dearest_as, dearest_graph_call}
use Rattle.ludopoplar.proofs.CountLaws.{ends, accepts}
use Rattle.ludopoplar.proofs.NumberLaws.{numbered}
use Rattle.ludopoplar.proofs.graphs.ludo_dearest_graph.Goals as goal

pub returns : goal.returns
unfolding dearest_graph_call dearest_as
returns c =
    let n = c.counted.ensures in
    let m = c.map_err-written.ensures.cases in
    let e = ends refusal_of _ _ _ _ n.code n.count dearest_as (λ n b. refl) (λ cause b. refl) c.write.result m c.write.new.text in
    record {
      length_after = rw (← c.write.ensures.text_after, e);
      dearest = λ z. IfOk-at_ok _ (accepts refusal_of _ _ _ _ n.code n.count numbered.dearest_numbered z c.write.result m) c.write.ensures.dearest;
    }
