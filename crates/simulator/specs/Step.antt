-- Step: one cycle. It fills the M + 1 value words, moves all latches together, answers the output words
-- and brings the tally up to date. Assumes nothing.
use Rattle.std.specs.Prelude.{Result, Ok, Err, cond, List, ◌++◌, map, ℕ, ◌+◌, eqb, length, take, drop}
use Rattle.calls.specs.declared.refusal.Cause.{Cause}
use Rattle.netlist.specs.Layout.{maximum, latch_count, output_count}
use Rattle.netlist.specs.Meaning.{words, bit_of, values_of, next_of, output_of}
use Rattle.simulator.specs.declared.outcome.Stepped.{Stepped}
use Rattle.calls.specs.declared.tally.Tally.{Tally}
use Rattle.calls.specs.Tallies.{counted}
use Rattle.calls.specs.Refusals.{step_check}

-- the words of all variables in a cycle: each input's byte is spread over all lanes
unfoldable pub cycle_words : List ℕ → List ℕ → List ℕ → List ℕ
cycle_words net cycle latches = values_of words net (map (bit_of words) cycle) (take (latch_count net) latches)

-- the first output word of a cycle
unfoldable pub output_word : List ℕ → List ℕ → List ℕ → ℕ
output_word net cycle latches = output_of words net 0 (cycle_words net cycle latches)

-- document 02, No. 7: "Step answers both output words, the second 0 when O = 1"
unfoldable pub word_checked : List ℕ → List ℕ → List ℕ → ℕ
word_checked net cycle latches = cond (eqb (output_count net) 2) (output_of words net 1 (cycle_words net cycle latches)) 0

-- the latch buffer and the value buffer after a cycle; longer buffers keep their surplus
unfoldable pub latches_after : List ℕ → List ℕ → List ℕ → List ℕ
latches_after net cycle latches = next_of words net (cycle_words net cycle latches) ++ drop (latch_count net) latches

unfoldable pub values_after : List ℕ → List ℕ → List ℕ → List ℕ → List ℕ
values_after net cycle latches values = cycle_words net cycle latches ++ drop (maximum net + 1) values

-- what a step answers, and what it leaves
pub record StepEnd : Type 0 where
  pub answer : Stepped
  pub latches : List ℕ
  pub values : List ℕ

abbrev pub step_end : Stepped → List ℕ → List ℕ → StepEnd
step_end r l v = record { answer = r; latches = l; values = v }

unfoldable pub step_as : Result Unit Cause → List ℕ → List ℕ → List ℕ → List ℕ → Tally → StepEnd
step_as (Ok tt) net cycle latches values t =
    let w = output_word net cycle latches in
    let c = word_checked net cycle latches in
    step_end (record { outcome = Ok (w, c); tally = counted t w c }) (latches_after net cycle latches) (values_after net cycle latches values)
step_as (Err cause) net cycle latches values t = step_end (record { outcome = Err cause; tally = t }) latches values

unfoldable pub step_of : List ℕ → List ℕ → List ℕ → List ℕ → Tally → StepEnd
step_of net cycle latches values t =
    step_as (step_check net cycle (length latches) (length values) t) net cycle latches values t
