-- What the calls that write a graph, and those of a bench, return and leave, in digits: for every input, and worked. Of the
-- former `was` stood behind the pointer. Assumes nothing.
use Prim.Native.Nat.{ℕ, ◌+◌, ◌*◌, ◌^◌, ◌<◌, ◌≤◌}
use mathlib.Core.Path.{◌≡◌, refl, ap}
use mathlib.Core.Bool.{cond}
use mathlib.Core.List.{List, [], ◌∷◌, ◌++◌}
use lib.Dec.{ltb}
use lib.ListN.{length, drop, replicate}
use Rattle.text.specs.Quoted.{bytes}
use Rattle.dearest_text.specs.Dearest.{vertex_line, loop_line, dearest_text}
use Rattle.dearest_graph.specs.Write as dearest
use Rattle.dearest_graph.proofs.WriteLaws as loops
use Rattle.buffer_text.specs.Text.{buffer_text}
use Rattle.buffer_graph.specs.Write as buffer
use Rattle.buffer_graph.proofs.WriteLaws as counts
use Rattle.bench_turns.specs.Add.{add_as, add_of}
use Rattle.bench_turns.specs.Turn as turns
use Rattle.bench_turns.specs.Turn.{serve, turn_of}
use Rattle.bench_turns.specs.Session.{Bench}
use Rattle.bench_turns.proofs.TestedLaws.{AddTested, add_tested, TurnTested, turn_tested}
use Rattle.ludopoplar.specs.Codes.{code_of}
use Rattle.ludopoplar.specs.Circuits.{Filled}
use Rattle.ludopoplar.specs.Graphs.{dearest_as, dearest_graph_call, buffer_as, buffer_graph_call}
use Rattle.ludopoplar.specs.Benches.{add_call_end, add_code, add_call, turn_call_end, turn_as, turn_call}

-- ---- the dearest graph
module _ (edges : ℕ) (text : List ℕ) (was : ℕ) where
  abbrev dearest_end : dearest.WriteEnd → Filled
  dearest_end e = dearest_as e.answer e.text was

  dearest_outside : (1 ≤ edges → edges ≤ 128 → ⊥) → dearest_graph_call edges text was ≡ record { code = 24 * 2 ^ 32; buffer = text; result = was }
  unfolding dearest_graph_call dearest_as code_of dearest.refusal_of
  dearest_outside h = ap dearest_end (loops.outside edges text h)

  module _ (some : 1 ≤ edges) (few : edges ≤ 128) where
    dearest_short : length text < 4 + 12 * edges → dearest_graph_call edges text was ≡ record { code = 12 * 2 ^ 32; buffer = text; result = was }
    unfolding dearest_graph_call dearest_as code_of dearest.refusal_of
    dearest_short l = ap dearest_end (loops.too_short edges text some few l)

    dearest_written : 4 + 12 * edges ≤ length text
        → dearest_graph_call edges text was ≡ record { code = 0; buffer = dearest_text edges ++ drop (4 + 12 * edges) text; result = 4 + 12 * edges }
    unfolding dearest_graph_call dearest_as
    dearest_written l = ap dearest_end (loops.written edges text some few l)

-- one edge into 18 bytes
surplus : dearest_graph_call 1 (replicate 18 7) 5 ≡ record { code = 0; buffer = bytes "V\ta\nE\ta\ta\tt\t1\t1\n" ++ (7 ∷ 7 ∷ []); result = 16 }
unfolding dearest_graph_call dearest_as dearest.write_of dearest.is_inside dearest_text vertex_line loop_line
surplus = refl

-- ---- the stroke buffer's graph: 100k + 72 bytes are due up to 9 strokes, 107k + 7 from 10 on
module _ (strokes : ℕ) (text : List ℕ) (was : ℕ) where
  abbrev buffer_end : buffer.WriteEnd → Filled
  buffer_end e = buffer_as e.answer e.text was

  buffer_outside : (1 ≤ strokes → strokes ≤ 40 → ⊥) → buffer_graph_call strokes text was ≡ record { code = 20 * 2 ^ 32; buffer = text; result = was }
  unfolding buffer_graph_call buffer_as code_of buffer.refusal_of
  buffer_outside h = ap buffer_end (counts.outside strokes text h)

  module _ (some : 1 ≤ strokes) (few : strokes ≤ 40) where
    abbrev due : ℕ
    due = cond (ltb strokes 10) (100 * strokes + 72) (107 * strokes + 7)

    buffer-short : length text < due → buffer_graph_call strokes text was ≡ record { code = 12 * 2 ^ 32; buffer = text; result = was }
    unfolding buffer_graph_call buffer_as code_of buffer.refusal_of
    buffer-short l = ap buffer_end (counts.too_short strokes text some few l)

    buffer-written : due ≤ length text → buffer_graph_call strokes text was ≡ record { code = 0; buffer = buffer_text strokes ++ drop due text; result = due }
    unfolding buffer_graph_call buffer_as
    buffer-written l = ap buffer_end (counts.written strokes text some few l)

-- ---- a bench: a refused call leaves its buffers and results as they were, an idle turn all but the machine's number
every-add : (nets : List ℕ) (b : Bench) (machine : ℕ) (cycle : List ℕ) →
    let e = add_call nets b.latches b.queues b.numbers machine cycle in
    AddTested nets b machine cycle (e.code ≡ 0) (λ cause number line. e ≡ add_call_end (number * 2 ^ 32 + line) b.queues b.numbers)
unfolding add_call add_code code_of add_of add_as
every-add nets b machine cycle = add_tested nets b machine cycle _ _ (λ e. rw e refl) (λ cause e. rw e refl)

every_turn : (nets : List ℕ) (b : Bench) (values : List ℕ) (served word second : ℕ) →
    let e = turn_call nets b.latches values b.queues b.numbers served word second in
    TurnTested nets b values (e ≡ turn_call_end 0 b.latches values b.queues b.numbers 8 word second) (λ k. (e.code ≡ 0) × (e.served ≡ k))
    (λ cause number line. e ≡ turn_call_end (number * 2 ^ 32 + line) b.latches values b.queues b.numbers served word second)
unfolding turn_call turn_as code_of turn_of turns.turn_as serve
every_turn nets b values served word second = turn_tested nets b values _ _ _ (λ e i. rw (e, i) refl) (λ e i. rw (e, i) (refl, refl)) (λ cause e. rw e refl)
