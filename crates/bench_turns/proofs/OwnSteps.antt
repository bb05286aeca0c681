-- The turns that serve a machine as demand 3's calls: each is a step with the machine's oldest cycle. Assumes nothing.
use Rattle.std.specs.Prelude.{Result, Ok, Err, Option, Some, None}
use Rattle.bench_turns.specs.declared.Cause.{Cause}
use mathlib.Core.Path.{◌≡◌, refl, ap, ap₂, ◌∙◌}
use mathlib.Core.Bool.{Bool, true, false, cond}
use mathlib.Core.List.{List, [], ◌∷◌, ◌++◌}
use Prim.Native.Nat.{ℕ}
use lib.Dec.{eqb}
use Rattle.assertion.specs.Graph.{Cycle}
use Rattle.demand.specs.Calls as demand
use Rattle.demand.specs.Calls.{Kept, called}
use Rattle.bench_turns.specs.Parts.{part_of}
use Rattle.bench_turns.specs.Numbers.{tally_of}
use Rattle.bench_turns.specs.Turn.{oldest}
use Rattle.bench_turns.specs.Session.{Call, add_call, turn_call, Bench, turn_on, after, served_as, served_by, served}

-- machine k's latch words and tally
unfoldable pub kept_of : ℕ → Bench → Kept
kept_of k b = record { latches = part_of k b.latches; tally = tally_of k b.numbers }

-- ---- its steps, in order
unfoldable pub steps_as : Result (Option (ℕ × ℕ × ℕ)) Cause → ℕ → demand.Call → List demand.Call
steps_as (Ok None) k step = []
steps_as (Ok (Some (machine, word, checked))) k step = cond (eqb machine k) (step ∷ []) []
steps_as (Err cause) k step = []

unfoldable pub steps_by : List ℕ → ℕ → Bench → Call → List demand.Call
steps_by nets k b (add_call machine cycle) = []
steps_by nets k b (turn_call values) = steps_as (turn_on nets b values).answer k (demand.step_call (oldest k nets b.queues) values)

unfoldable pub steps : List ℕ → ℕ → Bench → List Call → List demand.Call
steps nets k b [] = []
steps nets k b (x ∷ xs) = steps_by nets k b x ++ steps nets k (after nets b x) xs

-- ---- the cycles of steps
unfoldable pub cycles_of : List demand.Call → List Cycle
cycles_of [] = []
cycles_of (demand.step_call cycle values ∷ xs) = cycle ∷ cycles_of xs
cycles_of (demand.run_call trace values verdicts ∷ xs) = cycles_of xs

pub cycles-append : (a b : List demand.Call) → cycles_of (a ++ b) ≡ cycles_of a ++ cycles_of b
unfolding cycles_of
cycles-append [] b = refl
cycles-append (demand.step_call c v ∷ a) b = ap (◌∷◌ c) (cycles-append a b)
cycles-append (demand.run_call t v w ∷ a) b = cycles-append a b

-- those of its steps are its served cycles
served_as_lem : (r : Result (Option (ℕ × ℕ × ℕ)) Cause) (k : ℕ) (cycle values : List ℕ) → cycles_of (steps_as r k (demand.step_call cycle values)) ≡ served_as r k cycle
unfolding steps_as served_as cycles_of
served_as_lem (Ok None) k cycle values = refl
served_as_lem (Ok (Some (m, w, c))) k cycle values = by (eqb m k)
  where
    by : (t : Bool) → cycles_of (cond t (demand.step_call cycle values ∷ []) []) ≡ cond t (cycle ∷ []) []
    by true = refl
    by false = refl
served_as_lem (Err cause) k cycle values = refl

one-served : (nets : List ℕ) (k : ℕ) (b : Bench) (x : Call) → cycles_of (steps_by nets k b x) ≡ served_by nets k b x
unfolding steps_by served_by cycles_of
one-served nets k b (add_call m c) = refl
one-served nets k b (turn_call values) = served_as_lem (turn_on nets b values).answer k (oldest k nets b.queues) values

pub steps-served : (nets : List ℕ) (k : ℕ) (xs : List Call) (b : Bench) → cycles_of (steps nets k b xs) ≡ served nets k b xs
unfolding steps served cycles_of
steps-served nets k [] b = refl
steps-served nets k (x ∷ xs) b =
    cycles-append (steps_by nets k b x) (steps nets k (after nets b x) xs)
    ∙ ap₂ ◌++◌ (one-served nets k b x) (steps-served nets k xs (after nets b x))

-- ---- demand 3's calls on one machine, one after another: what is kept then, and the cycles that they gave
unfoldable pub kept_after : List ℕ → Kept → List demand.Call → Kept
kept_after net k [] = k
kept_after net k (x ∷ xs) = kept_after net (called net k x).kept xs

unfoldable pub given : List ℕ → Kept → List demand.Call → List Cycle
given net k [] = []
given net k (x ∷ xs) = (called net k x).cycles ++ given net (called net k x).kept xs
