-- No refusal has the number 0, and a code tells number and line. Assumes nothing.
use mathlib.Core.Path.{◌≡◌}
use Prim.Native.Nat.{ℕ, ◌≤◌, ◌<◌, ◌/◌, ◌%◌}
use native.Mathlib.Omega.{arith}
use Rattle.text.specs.declared.Refusal.{Refusal}
use Rattle.graph.specs.Reading as graph
use Rattle.graph.specs.declared.Fault.{Fault}
use Rattle.graph.specs.declared.Fault.TheVariants.{WrongShape, WrongOrder, TooMany, NameRepeated, UnknownVertex, NotFormula, TooDeep, UnknownName, WrongWidth}
use Rattle.graph.specs.declared.Cause.{Cause}
use Rattle.graph.specs.declared.Cause.TheVariants.{TextTooLong, FaultyLine, NoVertex}
use Rattle.builder.specs.declared.Cause as builder
use Rattle.builder.specs.declared.Cause.TheVariants as built
use Rattle.builder.specs.Build as build
use Rattle.aiger.specs.declared.Cause as aiger
use Rattle.aiger.specs.declared.Cause.TheVariants as written
use Rattle.aiger.specs.Write as write
use Rattle.aiger_lines.specs.declared.Fault.TheVariants as faulty
use Rattle.aiger_file.specs.declared.Cause as aiger_file
use Rattle.aiger_file.specs.declared.Cause.TheVariants as taken
use Rattle.aiger_file.specs.Read as read
use Rattle.calls.specs.declared.refusal.Cause as simulator
use Rattle.calls.specs.declared.refusal.Cause.TheVariants as ran
use Rattle.calls.specs.Refusals as runs
use Rattle.rate.specs.declared.Cause as rate
use Rattle.rate.specs.declared.Cause.TheVariants as rated
use Rattle.rate.specs.Rates as rates
use Rattle.first_broken.specs.declared.refusal.Cause as broken
use Rattle.first_broken.specs.declared.refusal.Cause.TheVariants as checked
use Rattle.first_broken.specs.Refusals as sessions
use Rattle.session_page.specs.declared.Cause as page
use Rattle.session_page.specs.declared.Cause.TheVariants as laid
use Rattle.session_page.specs.LayOut as pages
use Rattle.dearest_graph.specs.declared.Cause as dearest
use Rattle.dearest_graph.specs.declared.Cause.TheVariants as loops
use Rattle.dearest_graph.specs.Write as dearest_graph
use Rattle.buffer_graph.specs.declared.Cause as buffer
use Rattle.buffer_graph.specs.declared.Cause.TheVariants as counts
use Rattle.buffer_graph.specs.Write as buffer_graph
use Rattle.bench_turns.specs.declared.Cause as bench
use Rattle.bench_turns.specs.declared.Cause.TheVariants as turned
use Rattle.bench_turns.specs.Refusals as turns
use Rattle.ludopoplar.specs.Codes.{code_of}
use Rattle.ludopoplar.specs.Claims.{Numbered}

fault-numbered : (f : Fault) → 1 ≤ graph.fault_number f
unfolding graph.fault_number
fault-numbered WrongShape = omega arith
fault-numbered WrongOrder = omega arith
fault-numbered TooMany = omega arith
fault-numbered NameRepeated = omega arith
fault-numbered UnknownVertex = omega arith
fault-numbered NotFormula = omega arith
fault-numbered TooDeep = omega arith
fault-numbered UnknownName = omega arith
fault-numbered WrongWidth = omega arith

graph-numbered : (cause : Cause) → 1 ≤ (graph.refusal_of cause).number
unfolding graph.refusal_of
graph-numbered TextTooLong = omega arith
graph-numbered (FaultyLine f line) = fault-numbered f
graph-numbered NoVertex = omega arith

builds : (cause : builder.Cause) → 1 ≤ (build.refusal_of cause).number
unfolding build.refusal_of
builds (built.GraphText cause) = graph-numbered cause
builds built.TooManyVariables = omega arith
builds built.ShortBuffer = omega arith

writes : (cause : aiger.Cause) → 1 ≤ (write.refusal_of cause).number
unfolding write.refusal_of
writes written.ShortBuffer = omega arith
writes written.NotNetlist = omega arith

reads : (cause : aiger_file.Cause) → 1 ≤ (read.refusal_of cause).number
unfolding read.refusal_of
reads taken.TextTooLong = omega arith
reads taken.ShortBuffer = omega arith
reads (taken.FaultyLine faulty.WrongShape line) = omega arith
reads (taken.FaultyLine faulty.OutOfLimits line) = omega arith
reads (taken.FaultyRun faulty.WrongShape) = omega arith
reads (taken.FaultyRun faulty.OutOfLimits) = omega arith
reads taken.WaitingGates = omega arith

starts : (cause : simulator.Cause) → 1 ≤ (runs.refusal_of cause).number
unfolding runs.refusal_of
starts ran.TraceTooLong = omega arith
starts ran.ShortBuffer = omega arith
starts (ran.WrongLine line) = omega arith
starts ran.NotNetlist = omega arith
starts ran.FullTally = omega arith

rates_numbered : (cause : rate.Cause) → 1 ≤ (rates.refusal_of cause).number
unfolding rates.refusal_of
rates_numbered rated.NoRate = omega arith

checks : (cause : broken.Cause) → 1 ≤ (sessions.refusal_of cause).number
unfolding sessions.refusal_of
checks checked.TraceTooLong = omega arith
checks checked.WrongWidth = omega arith
checks (checked.FlywheelLine line) = omega arith
checks (checked.HandleLine line) = omega arith
checks checked.WrongVerdicts = omega arith

lays : (cause : page.Cause) → 1 ≤ (pages.refusal_of cause).number
unfolding pages.refusal_of
lays laid.TooManyCycles = omega arith
lays laid.ShortBuffer = omega arith
lays laid.NotPrintable = omega arith

dearests : (cause : dearest.Cause) → 1 ≤ (dearest_graph.refusal_of cause).number
unfolding dearest_graph.refusal_of
dearests loops.EdgesOutside = omega arith
dearests loops.ShortBuffer = omega arith

buffers : (cause : buffer.Cause) → 1 ≤ (buffer_graph.refusal_of cause).number
unfolding buffer_graph.refusal_of
buffers counts.StrokesOutside = omega arith
buffers counts.ShortBuffer = omega arith

pub bench-refuses : (cause : bench.Cause) → 1 ≤ (turns.refusal_of cause).number
unfolding turns.refusal_of
bench-refuses turned.NoMachine = omega arith
bench-refuses turned.NotBench = omega arith
bench-refuses turned.FullQueue = omega arith
bench-refuses turned.WrongCycle = omega arith
bench-refuses turned.ShortBuffer = omega arith
bench-refuses turned.FullTally = omega arith

number-back : (r : Refusal) → r.line < 4294967296 → code_of r / 4294967296 ≡ r.number
unfolding code_of
number-back r h = omega arith

line-back : (r : Refusal) → r.line < 4294967296 → code_of r % 4294967296 ≡ r.line
unfolding code_of
line-back r h = omega arith

pub numbered : Numbered
numbered =
    record {
      build_numbered = builds;
      write_numbered = writes;
      read-numbered = reads;
      run-numbered = starts;
      rate-numbered = rates_numbered;
      check_numbered = checks;
      page-numbered = lays;
      dearest_numbered = dearests;
      buffer-numbered = buffers;
      number-told = number-back;
      line-told = line-back;
    }

-- the code of a refusal is not 0
pub not-accepted : {A : Type 0} (r : Refusal) (code : ℕ) → 1 ≤ r.number → code ≡ code_of r → code ≡ 0 → A
unfolding code_of
not-accepted r code h is z = absurd (omega (arith, h))
