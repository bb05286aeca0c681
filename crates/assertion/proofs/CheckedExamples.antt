-- Worked examples of cycles in which a rule was at stake. A byte 48 is `0`, 49 is `1`. Assumes nothing.
use Prim.Native.Nat.{ℕ}
use mathlib.Core.Path.{◌≡◌, refl}
use mathlib.Core.Bool.{Bool, true, false}
use mathlib.Core.List.{List, [], ◌∷◌}
use Rattle.assertion.specs.declared.Mode.{Mode}
use Rattle.assertion.specs.declared.Mode.TheVariants.{Unsaid, Terminal}
use Rattle.assertion.specs.Graph.{Expr, signal, constant, truth, Edge, Name, Graph, bits_of, constant_bits, Cycle, is_terminal, input, is_init, holds}
use Rattle.assertion.specs.Paths.{bytes_of, is_checked, checked_under, checks_along, count_checked}

abbrev edge : ℕ → ℕ → Bool → Expr → Expr → Edge
edge f t m a c = record { from = f; to = t; marked = m; antecedent = a; consequent = c; antecedent_text = []; consequent_text = [] }

-- names of one bit: `p`, `q`, `k`
abbrev p : Name
p = record { name = 112 ∷ []; width = 1 }

abbrev q : Name
q = record { name = 113 ∷ []; width = 1 }

abbrev k : Name
k = record { name = 107 ∷ []; width = 1 }

-- `V a`, `V b`, and these signals, constants and edges
abbrev graph : Mode → List Name → List Name → List Edge → Graph
graph m ss ks es = record { mode = m; signals = ss; constants = ks; vertices = (97 ∷ []) ∷ (98 ∷ []) ∷ []; edges = es }

-- one byte a cycle of a trace
abbrev stakes : Graph → List Cycle → List ℕ
stakes g cs = bytes_of (is_checked g) [] cs

-- `E a b t p q`
abbrev G : Graph
G = graph Unsaid (p ∷ q ∷ []) [] (edge 0 1 true (signal 0) (signal 1) ∷ [])

-- 110, 111, 010: at stake in the first two, rejected or not
abbrev trace : List Cycle
trace = (49 ∷ 49 ∷ 48 ∷ []) ∷ (49 ∷ 49 ∷ 49 ∷ []) ∷ (48 ∷ 49 ∷ 48 ∷ []) ∷ []

at_stake : stakes G trace ≡ 1 ∷ 1 ∷ 0 ∷ []
unfolding is_checked checked_under checks_along constant_bits bits_of is_terminal holds is_init input
at_stake = refl

two_of_three : count_checked G trace ≡ 2
unfolding count_checked is_checked checked_under checks_along constant_bits bits_of is_terminal holds is_init input
two_of_three = refl

-- 010: before any init there is no path
no_init : stakes G ((48 ∷ 49 ∷ 48 ∷ []) ∷ []) ≡ 0 ∷ []
unfolding is_checked checked_under checks_along constant_bits bits_of is_terminal holds is_init input
no_init = refl

-- `K k`, `E a a t k p` on 11 and on 10: under the setting 1
some-setting : stakes (graph Unsaid (p ∷ []) (k ∷ []) (edge 0 0 true (constant 0) (signal 0) ∷ [])) ((49 ∷ 49 ∷ []) ∷ (49 ∷ 48 ∷ []) ∷ []) ≡ 1 ∷ 1 ∷ []
unfolding is_checked checked_under checks_along constant_bits bits_of is_terminal holds is_init input
some-setting = refl

-- `E a a t p 1` on 10: the antecedent fails
antecedent_fails : stakes (graph Unsaid (p ∷ []) [] (edge 0 0 true (signal 0) (truth true) ∷ [])) ((49 ∷ 48 ∷ []) ∷ []) ≡ 0 ∷ []
unfolding is_checked checked_under checks_along constant_bits bits_of is_terminal holds is_init input
antecedent_fails = refl

-- `E a b - 1 1`, `E b b t 1 1` on 1, 0: the first cycle ends on no terminal edge
ends_terminal_lem : stakes (graph Unsaid [] [] (edge 0 1 false (truth true) (truth true) ∷ edge 1 1 true (truth true) (truth true) ∷ [])) ((49 ∷ []) ∷ (48 ∷ []) ∷ []) ≡ 0 ∷ 1 ∷ []
unfolding is_checked checked_under checks_along constant_bits bits_of is_terminal holds is_init input
ends_terminal_lem = refl

-- `E a a t 1 p` on 10, 01: a condemned path is alive
condemned-alive : stakes (graph Unsaid (p ∷ []) [] (edge 0 0 true (truth true) (signal 0) ∷ [])) ((49 ∷ 48 ∷ []) ∷ (48 ∷ 49 ∷ []) ∷ []) ≡ 1 ∷ 1 ∷ []
unfolding is_checked checked_under checks_along constant_bits bits_of is_terminal holds is_init input
condemned-alive = refl

-- `E a a - 1 1` on 1: no terminal edge under `M terminal`, and one without that line
abbrev unmarked : Mode → Graph
unmarked m = graph m [] [] (edge 0 0 false (truth true) (truth true) ∷ [])

no_terminal : stakes (unmarked Terminal) ((49 ∷ []) ∷ []) ≡ 0 ∷ []
unfolding is_checked checked_under checks_along constant_bits bits_of is_terminal holds is_init input
no_terminal = refl

each_terminal_lem : stakes (unmarked Unsaid) ((49 ∷ []) ∷ []) ≡ 1 ∷ []
unfolding is_checked checked_under checks_along constant_bits bits_of is_terminal holds is_init input
each_terminal_lem = refl
