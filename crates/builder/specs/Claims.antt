-- What the contract of build claims: demand 3, from graph text to tally, as one statement. Assumes nothing.
use Rattle.std.specs.Prelude.{Ok, Err, ◌≡◌, Bool, cond, List, ◌++◌, ℕ, ◌+◌, ◌-◌, ◌*◌, ◌≤◌, ◌<◌, length, drop}
use Rattle.assertion.specs.Graph.{Bytes, Graph, signal_bits, constant_bits}
use Rattle.graph.specs.Reading as reading
use Rattle.graph.specs.Reading.{refused, accepted, graph_of}
use Rattle.graph.specs.declared.Cause as graph
use Rattle.circuit.specs.Numbers.{numbers_with}
use Rattle.circuit.specs.Count.{terminals, gate_formula}
use Rattle.circuit.specs.Claims.{AlikeMeans, CheckedMeans}
use Rattle.demand.specs.Demand.{Demand3}
use Rattle.demand.specs.Forms.{EitherForm}
use Rattle.builder.specs.declared.Cause.TheVariants.{GraphText, TooManyVariables, ShortBuffer}
use Rattle.builder.specs.Build.{refusal_of, variables_of, build_end, build_of}

-- by the graph alone: A by the formula, "2T − 1 are added when T is at least 1"; M = I + L + A; and how many numbers M I L
-- O A, the latches, the outputs and the gates are
abbrev pub gates_due : Bool → Graph → ℕ
gates_due checked g = gate_formula g + cond checked (2 * terminals g g.edges - 1) 0

abbrev pub variables_due : Bool → Graph → ℕ
variables_due checked g = (1 + signal_bits g) + (constant_bits g + 2 * length g.edges) + gates_due checked g

abbrev pub numbers_due : Bool → Graph → ℕ
numbers_due checked g = 5 + 2 * (constant_bits g + 2 * length g.edges) + cond checked 2 1 + 2 * gates_due checked g

-- DEMAND 3, for a graph text that build accepts into a buffer net, told to add checked or not: its graph g, and the
-- number that build answers
pub record BuildMeans (checked : Bool) (text : Bytes) (net : List ℕ) : Type 0 where
  -- the numbers built stand first in the buffer
  pub numbers : (g : Graph) (made : ℕ) → graph_of text ≡ accepted g → (build_of checked text net).answer ≡ Ok made
      → (build_of checked text net).net ≡ numbers_with checked g ++ drop (length (numbers_with checked g)) net
  -- in whatever buffer they are lent, and whatever stands behind them there
  pub demand : (g : Graph) (made : ℕ) → graph_of text ≡ accepted g → (build_of checked text net).answer ≡ Ok made
      → (surplus : List ℕ) → Demand3 checked g (numbers_with checked g ++ surplus) made
  -- a graph with M within the limit is built wherever its numbers fit, and refused 12 where they do not; one with M past
  -- it is refused 11, and a text that is no graph as its reader refuses it; the buffer stays
  pub accepts : (g : Graph) → graph_of text ≡ accepted g → variables_due checked g ≤ 4095 → numbers_due checked g ≤ length net
      → (build_of checked text net).answer ≡ Ok (gates_due checked g)
  pub size : (g : Graph) → graph_of text ≡ accepted g → length (numbers_with checked g) ≡ numbers_due checked g
  pub short : (g : Graph) → graph_of text ≡ accepted g → variables_due checked g ≤ 4095 → length net < numbers_due checked g
      → build_of checked text net ≡ build_end (Err ShortBuffer) net
  pub refuses : (g : Graph) → graph_of text ≡ accepted g → 4095 < variables_due checked g
      → build_of checked text net ≡ build_end (Err TooManyVariables) net
  pub unread : (cause : graph.Cause) → graph_of text ≡ refused cause → build_of checked text net ≡ build_end (Err (GraphText cause)) net
  -- these causes have these numbers; and M as the programs' pages have it is the one above
  pub numbered : (refusal_of TooManyVariables ≡ record { number = 11; line = 0 }) × (refusal_of ShortBuffer ≡ record { number = 12; line = 0 })
      × ((cause : graph.Cause) → refusal_of (GraphText cause) ≡ reading.refusal_of cause)
  pub variables : (g : Graph) → graph_of text ≡ accepted g → variables_of checked g ≡ variables_due checked g
  -- the gates of `==` stand in the order that document 02 says
  pub compared : AlikeMeans
  -- those of checked too, behind those of accept; without it gates and output are those of document 01
  pub second : (g : Graph) → CheckedMeans g
  -- the calls of its list may pass the tally by value or lend it
  pub forms : EitherForm
