-- WHAT A BENCH IS HELD TO, whatever is called from eight starts with empty queues on. Assumes nothing.
use Rattle.std.specs.Prelude.{None, Err, Ok, ◌≡◌, Bool, cond, List, [], ◌∷◌, ◌++◌, ℕ, ◌+◌, ◌<◌, ◌≤◌, length}
use Rattle.netlist.specs.Layout.{maximum}
use Rattle.assertion.specs.Graph.{Graph, Cycle}
use Rattle.assertion.specs.Paths.{count_rejected, count_checked}
use Rattle.calls.specs.declared.tally.Tally.{Tally}
use Rattle.simulator.specs.Start.{start_end, start_of}
use Rattle.demand.specs.Demand.{Demand3}
use Rattle.bench_turns.specs.Parts.{part_of}
use Rattle.bench_turns.specs.Numbers.{waiting_of, tally_of, last_of}
use Rattle.bench_turns.specs.declared.Cause.{Cause}
use Rattle.bench_turns.specs.declared.Cause.TheVariants.{NotBench, ShortBuffer}
use Rattle.bench_turns.specs.Session.{Call, Bench, add_on, turn_on, after_all, queue_of, arrived, served, accepted_turns}
use Rattle.bench_turns.specs.Answers.{IsNext}

-- ---- "Let all eight places be started with empty queues"
-- machine k has what an accepted start with some latch words and some tally left, and no cycle waits for it
pub record StartedPlace (nets : List ℕ) (k : ℕ) (b : Bench) : Type 0 where
  pub words : List ℕ
  pub before : Tally
  pub started : start_of (part_of k nets) words before ≡ start_end (record { outcome = (Ok tt); tally = tally_of k b.numbers }) (part_of k b.latches)
  pub empty : waiting_of k b.numbers ≡ 0

-- the last one served may be any of the eight; it is 7 where 0 is to come first
pub record Started (nets : List ℕ) (b : Bench) : Type 0 where
  pub numbers : 33 ≤ length b.numbers
  pub last : last_of b.numbers ≤ 7
  pub places : (k : ℕ) → k < 8 → StartedPlace nets k b

-- ---- of machine k, where the calls xs, from the start on, have left the bench b
-- "A machine's path count is asked of its own served cycles only, in that order, since its start"
pub record PathCount (checked : Bool) (g : Graph) (cs : List Cycle) (t : Tally) : Type 0 where
  pub cycles : t.cycles ≡ length cs
  pub rejected : t.rejected ≡ count_rejected g cs
  pub at_stake : t.checked ≡ cond checked (count_checked g cs) 0

pub record MachineMeans (nets : List ℕ) (start : Bench) (xs : List Call) (b : Bench) (k : ℕ) : Type 0 where
  -- "Each queue is served in the order of arrival": its served cycles, and then those that wait, are its accepted new cycles
  pub order : served nets k start xs ++ queue_of nets k b ≡ arrived nets k start xs
  pub paths : (checked : Bool) (g : Graph) (made : ℕ) → Demand3 checked g (part_of k nets) made
      → PathCount checked g (served nets k start xs) (tally_of k b.numbers)
  -- "a machine with a cycle waiting is served within eight accepted turns, whatever arrives for the others"; and no turn is idle
  pub soon : 0 < waiting_of k b.numbers → (ys : List Call) → 8 ≤ accepted_turns nets b ys → 0 < length (served nets k b ys)
  pub busy : 0 < waiting_of k b.numbers → (values : List ℕ) → (turn_on nets b values).answer ≡ Ok None → ⊥

pub record BenchMeans (nets : List ℕ) (start : Bench) (xs : List Call) (b : Bench) : Type 0 where
  pub machines : (k : ℕ) → k < 8 → MachineMeans nets start xs b k
  -- a turn is then refused for short value words only, and a new cycle never with 16
  pub turns : (values : List ℕ) (cause : Cause) → (turn_on nets b values).answer ≡ Err cause
      → (k : ℕ) × (cause ≡ ShortBuffer) × IsNext k b.numbers × (length values < maximum (part_of k nets) + 1)
  pub adds : (k : ℕ) (cycle : Cycle) → (add_on nets b k cycle).answer ≡ Err NotBench → ⊥

-- THE CLAIM, of a call x that was lent the bench b and left the bench c: "only the bench's calls write from then on"
abbrev pub KeepsBench : List ℕ → Bench → Call → Bench → Type 0
KeepsBench nets b x c = (start : Bench) (xs : List Call) → Started nets start → after_all nets start xs ≡ b → BenchMeans nets start (xs ++ (x ∷ [])) c
