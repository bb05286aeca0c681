-- DEMAND 3 of what build leaves and answers. Assumes nothing.
use Rattle.std.specs.Prelude.{Ok, Err}
use mathlib.Core.Path.{◌≡◌, refl, sym, ap, subst, ◌∙◌}
use mathlib.Core.Bool.{Bool, true, false, cond, not}
use mathlib.Core.List.{List, [], ◌++◌, append-nil}
use Prim.Native.Nat.{ℕ, ◌+◌, ◌*◌, ◌≤◌, ◌<◌}
use native.Mathlib.Omega.{arith}
use borrow.Author.Tests.{leb-true, le-leb, lt-leb}
use lib.Dec.{leb}
use lib.ListN.{length, drop}
use Rattle.assertion.specs.Graph.{Bytes, Graph, signal_bits, constant_bits}
use Rattle.graph.specs.Reading.{refused, accepted, graph_of}
use Rattle.graph.specs.declared.Cause as graph
use Rattle.circuit.specs.Checked.{gates_with, outputs_with}
use Rattle.circuit.specs.Numbers.{numbers_with}
use Rattle.circuit.proofs.Fits.{Fits}
use Rattle.circuit.specs.Count.{gate_formula_with}
use Rattle.circuit.proofs.CheckedCount.{count_with}
use Rattle.circuit.proofs.Places.{long}
use Rattle.circuit.proofs.AlikeGates.{alike-means}
use Rattle.circuit.proofs.CheckedGates.{checked-means}
use Rattle.demand.proofs.Demand.{demand3}
use Rattle.demand.proofs.Forms.{either_form}
use Rattle.builder.specs.declared.Cause.TheVariants.{GraphText, TooManyVariables, ShortBuffer}
use Rattle.builder.specs.Build.{refusal_of, variables_of, BuildEnd, build_end, build_as, build_of}
use Rattle.builder.specs.Claims.{gates_due, variables_due, numbers_due, BuildMeans}
use Rattle.builder.proofs.GraphLaws.{fits}

-- an accepted build of g: M is within the limit, the number answered is that of the gates, and the buffer is
-- the numbers with the surplus behind them
record Made (checked : Bool) (g : Graph) (net : List ℕ) (made : ℕ) (end : BuildEnd) : Type 0 where
  small : variables_of checked g ≤ 4095
  count : made ≡ length (gates_with checked g)
  numbers : end.net ≡ numbers_with checked g ++ drop (length (numbers_with checked g)) net

module _ (checked : Bool) (g : Graph) (net : List ℕ) where
  abbrev numbers : List ℕ
  numbers = numbers_with checked g

  abbrev many : BuildEnd
  many = build_end (Err TooManyVariables) net

  abbrev short : BuildEnd
  short = build_end (Err ShortBuffer) net

  abbrev last : BuildEnd
  last = build_end (Ok (length (gates_with checked g))) (numbers ++ drop (length numbers) net)

  made_so : (made : ℕ) → (build_as checked (accepted g) net).answer ≡ Ok made → Made checked g net made (build_as checked (accepted g) net)
  unfolding build_as
  made_so made = go (leb (variables_of checked g) 4095) refl (leb (length numbers) (length net))
    where
      go : (a : Bool) → leb (variables_of checked g) 4095 ≡ a → (b : Bool) → (cond (not a) many (cond (not b) short last)).answer ≡ Ok made
          → Made checked g net made (cond (not a) many (cond (not b) short last))
      go false h b e = let z : ◌≡◌ {A = ℕ} 0 1 = cc in absurd (omega arith)
      go true h false e = let z : ◌≡◌ {A = ℕ} 0 1 = cc in absurd (omega arith)
      go true h true e = record { small = leb-true (variables_of checked g) 4095 h; count = cc; numbers = refl }

  -- by the formula
  module _ (f : Fits g) where
    count : length (gates_with checked g) ≡ gates_due checked g
    unfolding gate_formula_with
    count = count_with checked g f

    due : variables_of checked g ≡ variables_due checked g
    unfolding variables_of
    due = omega (arith, count)

    size : length numbers ≡ numbers_due checked g
    size = ap length (sym (append-nil numbers)) ∙ long g checked [] ∙ omega (arith, count, outs checked)
      where
        outs : (b : Bool) → length (outputs_with b g) ≡ cond b 2 1
        outs true = refl
        outs false = refl

    built : variables_due checked g ≤ 4095 → numbers_due checked g ≤ length net → (build_as checked (accepted g) net).answer ≡ Ok (gates_due checked g)
    unfolding build_as
    built m l = rw (le-leb (variables_of checked g) 4095 (omega (arith, due)), le-leb (length numbers) (length net) (omega (arith, size)), count)

    too_short : variables_due checked g ≤ 4095 → length net < numbers_due checked g → build_as checked (accepted g) net ≡ short
    unfolding build_as
    too_short m l = rw (le-leb (variables_of checked g) 4095 (omega (arith, due)), lt-leb (length numbers) (length net) (omega (arith, size)))

    too_many : 4095 < variables_due checked g → build_as checked (accepted g) net ≡ many
    unfolding build_as
    too_many m = rw (lt-leb (variables_of checked g) 4095 (omega (arith, due)))

unread-text : (checked : Bool) (cause : graph.Cause) (net : List ℕ) → build_as checked (refused cause) net ≡ build_end (Err (GraphText cause)) net
unfolding build_as
unread-text checked cause net = refl

pub build_means : (checked : Bool) (text : Bytes) (net : List ℕ) → BuildMeans checked text net
unfolding refusal_of build_of variables_of
build_means checked text net =
    record {
      numbers = λ g made e a. rw e (so g made e a).numbers;
      demand = λ g made e a surplus.
          let m = so g made e a in
          rw m.count (demand3 checked g (fits text e) (small g m.small) surplus);
      accepts = λ g e n l. rw e (built checked g net (fits text e) n l);
      size = λ g e. size checked g net (fits text e);
      short = λ g e n l. rw e (too_short checked g net (fits text e) n l);
      refuses = λ g e n. rw e (too_many checked g net (fits text e) n);
      unread = λ cause e. rw e (unread-text checked cause net);
      numbered = (refl, refl, λ cause. refl);
      variables = λ g e. due checked g net (fits text e);
      compared = alike-means;
      second = checked-means;
      forms = either_form;
    }
  where
    so : (g : Graph) (made : ℕ) → graph_of text ≡ accepted g → (build_as checked (graph_of text) net).answer ≡ Ok made → Made checked g net made (build_as checked (accepted g) net)
    so g made e a = made_so checked g net made (subst (λ o. (build_as checked o net).answer ≡ Ok made) e a)

    small : (g : Graph) → variables_of checked g ≤ 4095 → length (gates_with checked g) + (1 + signal_bits g) + (constant_bits g + 2 * length g.edges) ≤ 4095
    small g h = omega arith
