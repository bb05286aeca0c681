-- Which starts, steps and runs are taken, and for which cause, with which number and line, the others are refused: the
-- first test that fails decides. `Taken` and `Refuses` are what a call says of its own answer. Assumes nothing.
use Rattle.std.specs.Prelude.{◌≡◌, true, false, List, ℕ, suc, ◌+◌, ◌<◌, ◌≤◌, length}
use Rattle.netlist.specs.Layout.{maximum, input_count, latch_count}
use Rattle.netlist.specs.Valid.{is_netlist}
use Rattle.trace.specs.Traces.{is_cycle, fault_of, cycles_of}
use Rattle.calls.specs.declared.refusal.Cause.{Cause}
use Rattle.calls.specs.declared.refusal.Cause.TheVariants.{TraceTooLong, ShortBuffer, WrongLine, NotNetlist, FullTally}
use Rattle.calls.specs.declared.tally.Tally.{Tally}
use Rattle.calls.specs.Tallies.{Fits}

-- a start with nl latch words: 16, 12
pub record StartTested (net : List ℕ) (nl : ℕ) (Taken : Type 0) (Refuses : Cause → ℕ → ℕ → Type 0) : Type 0 where
  pub no_netlist : is_netlist net ≡ false → Refuses NotNetlist 16 0
  pub few-latches : is_netlist net ≡ true → nl < latch_count net → Refuses ShortBuffer 12 0
  pub taken : is_netlist net ≡ true → latch_count net ≤ nl → Taken

-- a step with nl latch words and nv value words: 16, 15, 12, 17
pub record StepTested (net cycle : List ℕ) (nl nv : ℕ) (t : Tally) (Taken : Type 0) (Refuses : Cause → ℕ → ℕ → Type 0) : Type 0 where
  pub no_netlist : is_netlist net ≡ false → Refuses NotNetlist 16 0
  pub wrong-cycle : is_netlist net ≡ true → is_cycle (input_count net) cycle ≡ false → Refuses (WrongLine 1) 15 1
  pub few-latches : is_netlist net ≡ true → is_cycle (input_count net) cycle ≡ true → nl < latch_count net → Refuses ShortBuffer 12 0
  pub few-values : is_netlist net ≡ true → is_cycle (input_count net) cycle ≡ true → latch_count net ≤ nl → nv < maximum net + 1 → Refuses ShortBuffer 12 0
  -- "17 guards it too, also with O = 1": whichever of the three numbers it is, and however many outputs there are
  pub no_room : is_netlist net ≡ true → is_cycle (input_count net) cycle ≡ true → latch_count net ≤ nl → maximum net + 1 ≤ nv → (Fits t 1 → ⊥)
      → Refuses FullTally 17 0
  pub taken : is_netlist net ≡ true → is_cycle (input_count net) cycle ≡ true → latch_count net ≤ nl → maximum net + 1 ≤ nv → Fits t 1 → Taken

-- what a run asks of netlist and trace, before it asks for buffers: 1, 16, 15
pub record TraceRight (net trace : List ℕ) : Type 0 where
  pub short : length trace ≤ 1048576
  pub netlist : is_netlist net ≡ true
  pub faultless : fault_of (input_count net) trace ≡ 0

-- a run with nl latch words, nv value words and nb verdict bytes: then 12, 17
pub record RunTested (net trace : List ℕ) (nl nv nb : ℕ) (t : Tally) (Taken : Type 0) (Refuses : Cause → ℕ → ℕ → Type 0) : Type 0 where
  pub too_long : 1048576 < length trace → Refuses TraceTooLong 1 0
  pub no_netlist : length trace ≤ 1048576 → is_netlist net ≡ false → Refuses NotNetlist 16 0
  pub wrong-line : (k : ℕ) → length trace ≤ 1048576 → is_netlist net ≡ true → fault_of (input_count net) trace ≡ suc k → Refuses (WrongLine (suc k)) 15 (suc k)
  pub few-latches : TraceRight net trace → nl < latch_count net → Refuses ShortBuffer 12 0
  pub few-values : TraceRight net trace → latch_count net ≤ nl → nv < maximum net + 1 → Refuses ShortBuffer 12 0
  pub few-verdicts : TraceRight net trace → latch_count net ≤ nl → maximum net + 1 ≤ nv → nb < length (cycles_of (input_count net) trace) → Refuses ShortBuffer 12 0
  -- each of the three numbers is asked to have room for all lines
  pub no_room : TraceRight net trace → latch_count net ≤ nl → maximum net + 1 ≤ nv → length (cycles_of (input_count net) trace) ≤ nb
      → (Fits t (length (cycles_of (input_count net) trace)) → ⊥) → Refuses FullTally 17 0
  pub taken : TraceRight net trace → latch_count net ≤ nl → maximum net + 1 ≤ nv → length (cycles_of (input_count net) trace) ≤ nb
      → Fits t (length (cycles_of (input_count net) trace)) → Taken
