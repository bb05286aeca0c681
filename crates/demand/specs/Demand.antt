-- DEMAND 3. Assumes nothing.
use Rattle.std.specs.Prelude.{Ok, ◌≡◌, Bool, true, cond, List, [], ◌∷◌, ◌++◌, ℕ, ◌+◌, ◌-◌, ◌*◌, ◌≤◌, length, take}
use Rattle.netlist.specs.Layout.{gate_count}
use Rattle.netlist.specs.Valid.{is_netlist}
use Rattle.assertion.specs.Graph.{Graph, Cycle}
use Rattle.assertion.specs.Paths.{Rejected, verdicts, count_rejected, count_checked, PathsMean}
use Rattle.calls.specs.declared.tally.Tally.{Tally}
use Rattle.simulator.specs.declared.outcome.Verdict.{Verdict}
use Rattle.simulator.specs.declared.outcome.Verdict.TheVariants as verdict
use Rattle.simulator.specs.Start.{StartEnd, start_of}
use Rattle.simulator.specs.Run.{verdict_of}
use Rattle.circuit.specs.Count.{all_operators, terminals, gate_formula}
use Rattle.circuit.specs.Claims.{NumbersMean}
use Rattle.demand.specs.Calls.{Call, step_call, run_call, Kept, ran, Called, called}

-- each accepted run has written 1 for exactly those of its cycles that are rejected, 0 for its others,
-- where the cycles seen came before it; a refused run has no cycle
unfoldable pub BytesRight : Graph → List Cycle → Call → Called → Type 0
BytesRight g seen (step_call cycle values) d = Unit {0}
BytesRight g seen (run_call trace values bytes) d = take (length d.cycles) d.verdicts ≡ verdicts g seen d.cycles

-- document 02, No. 2: "a run's verdict is `rejected` exactly when any cycle of that run was": some of these
-- cycles, before which the cycles seen came, is condemned by some setting and some rejecting path
pub record SomeRejected (g : Graph) (seen cycles : List Cycle) : Type 0 where
  pub before : List Cycle
  pub cycle : Cycle
  pub after : List Cycle
  pub whole : cycles ≡ before ++ (cycle ∷ after)
  pub rejected : Rejected g (seen ++ (before ++ (cycle ∷ [])))

-- v is the verdict of a run with these cycles: that of the bytes, and rejected exactly if one of them is
pub record VerdictOfPaths (g : Graph) (seen cycles : List Cycle) (v : Verdict) : Type 0 where
  pub of_bytes : v ≡ verdict_of (verdicts g seen cycles)
  pub some : v ≡ verdict.Rejected → SomeRejected g seen cycles
  pub any : SomeRejected g seen cycles → v ≡ verdict.Rejected

-- each accepted run has answered it; a step has no verdict
unfoldable pub VerdictRight : Graph → List Cycle → Call → Called → Type 0
VerdictRight g seen (step_call cycle values) d = Unit {0}
VerdictRight g seen (run_call trace values bytes) d = (v : Verdict) → d.answer ≡ ran (Ok v) → VerdictOfPaths g seen d.cycles v

-- after a list of calls, before which the cycles seen were given: each run's bytes and verdict are right; the
-- tally's cycles are the cycles of the accepted calls, in call order; its rejected are those of them that
-- some setting and some rejecting path condemn; and its third number is, with checked, in how many of them "some
-- setting and some path from the latest init, ending on a terminal edge, meet all antecedents", and else 0
unfoldable pub Counted : Bool → Graph → List ℕ → List Cycle → Kept → List Call → Type 0
Counted checked g net seen k [] =
    (k.tally.cycles ≡ length seen) × (k.tally.rejected ≡ count_rejected g seen) × (k.tally.checked ≡ cond checked (count_checked g seen) 0)
Counted checked g net seen k (x ∷ xs) =
    let d = called net k x in
    BytesRight g seen x d × VerdictRight g seen x d × Counted checked g net (seen ++ d.cycles) d.kept xs

-- what an accepted start leaves
abbrev pub kept_by : StartEnd → Kept
kept_by e = record { latches = e.latches; tally = e.answer.tally }

-- on the netlist net, which was built of the graph g, with checked or without, and has `made` gates
pub record Demand3 (checked : Bool) (g : Graph) (net : List ℕ) (made : ℕ) : Type 0 where
  pub netlist : is_netlist net ≡ true
  -- the number answered is that of the gates in the netlist
  pub gates : gate_count net ≡ made
  -- and these are the gates and outputs of which build says where they stand
  pub numbers : NumbersMean checked g net
  -- "2T − 1 are added when T is at least 1"; "With it the bound becomes 12 × edges + 3 × operators"
  pub formula : made ≡ gate_formula g + cond checked (2 * terminals g g.edges - 1) 0
  pub bound : made ≤ cond checked 12 10 * length g.edges + 3 * all_operators g.edges
  -- after any accepted start, with any latch buffer and any tally, and any list of calls
  pub counted : (latches : List ℕ) (t : Tally) → (start_of net latches t).answer.outcome ≡ Ok tt
      → (xs : List Call) → Counted checked g net [] (kept_by (start_of net latches t)) xs
  -- a cycle is counted as rejected, and has the byte 1, exactly if some setting and some rejecting path exist; and as
  -- checked exactly if some setting and some path with all antecedents met do
  pub paths : PathsMean
