-- The calls of document 02, No. 11 and No. 6, that write the dearest graph and the stroke buffer's: the return code, the buffer,
-- and the text's length through its pointer, which a refusal leaves as it was. Answer and buffer are those of each write's
-- own definition. Assumes nothing.
use Rattle.std.specs.Prelude.{Result, Ok, Err, List, ℕ}
use Rattle.dearest_graph.specs.declared.Cause as dearest
use Rattle.dearest_graph.specs.Write as dearest_graph
use Rattle.buffer_graph.specs.declared.Cause as buffer
use Rattle.buffer_graph.specs.Write as buffer_graph
use Rattle.ludopoplar.specs.Codes.{accepted_code, code_of}
use Rattle.ludopoplar.specs.Circuits.{Filled, filled}

unfoldable pub dearest_as : Result ℕ dearest.Cause → List ℕ → ℕ → Filled
dearest_as (Ok n) text before = filled accepted_code text n
dearest_as (Err cause) text before = filled (code_of (dearest_graph.refusal_of cause)) text before

unfoldable pub dearest_graph_call : ℕ → List ℕ → ℕ → Filled
dearest_graph_call edges text before = let e = dearest_graph.write_of edges text in dearest_as e.answer e.text before

unfoldable pub buffer_as : Result ℕ buffer.Cause → List ℕ → ℕ → Filled
buffer_as (Ok n) text before = filled accepted_code text n
buffer_as (Err cause) text before = filled (code_of (buffer_graph.refusal_of cause)) text before

unfoldable pub buffer_graph_call : ℕ → List ℕ → ℕ → Filled
buffer_graph_call strokes text before = let e = buffer_graph.write_of strokes text in buffer_as e.answer e.text before
