-- Start: fills the L latch words and clears the tally. Assumes nothing.
use Rattle.std.specs.Prelude.{Result, Ok, Err, Bool, cond, List, [], ◌∷◌, ◌++◌, ℕ, zero, suc, eqb, length, get_or, drop}
use Rattle.calls.specs.declared.refusal.Cause.{Cause}
use Rattle.netlist.specs.Layout.{latch_count, reset_at}
use Rattle.netlist.specs.Lanes.{lane, word_of}
use Rattle.netlist.specs.Valid.{is_free, free_count}
use Rattle.simulator.specs.declared.outcome.Started.{Started}
use Rattle.calls.specs.declared.tally.Tally.{Tally}
use Rattle.calls.specs.Tallies.{cleared}
use Rattle.calls.specs.Refusals.{start_check}

-- the bit with which latch k starts in lane n: its reset where that is 0 or 1; bit j of n where it is
-- the j-th uninitialised latch, j from 0
unfoldable pub start_bit : List ℕ → ℕ → ℕ → Bool
start_bit net k n = cond (is_free net k) (lane (free_count net k) n) (eqb (get_or net (reset_at k) 0) 1)

-- the first words of k latches
unfoldable pub start_words : List ℕ → ℕ → List ℕ
start_words net zero = []
start_words net (suc k) = start_words net k ++ (word_of (start_bit net k) ∷ [])

-- what a start answers, and what it leaves
pub record StartEnd : Type 0 where
  pub answer : Started
  pub latches : List ℕ

abbrev pub start_end : Started → List ℕ → StartEnd
start_end r l = record { answer = r; latches = l }

unfoldable pub start_as : Result Unit Cause → List ℕ → List ℕ → Tally → StartEnd
start_as (Ok tt) net latches t =
    start_end (record { outcome = (Ok tt); tally = cleared }) (start_words net (latch_count net) ++ drop (latch_count net) latches)
start_as (Err cause) net latches t = start_end (record { outcome = Err cause; tally = t }) latches

unfoldable pub start_of : List ℕ → List ℕ → Tally → StartEnd
start_of net latches t = start_as (start_check net (length latches)) net latches t
