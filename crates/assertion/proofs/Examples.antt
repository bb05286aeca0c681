-- Worked examples of rejected cycles under the definition of paths: document 01's starred ones, and one
-- for each way in which the definition could be misread, wide names included. A byte 48 is `0`, 49 is `1`. Assumes nothing.
use Prim.Native.Nat.{ℕ, ◌+◌}
use mathlib.Core.Path.{◌≡◌, refl}
use mathlib.Core.Bool.{Bool, true, false}
use mathlib.Core.List.{List, [], ◌∷◌}
use Rattle.assertion.specs.declared.Mode.{Mode}
use Rattle.assertion.specs.declared.Mode.TheVariants.{Unsaid, Terminal, Strong}
use Rattle.assertion.specs.Graph.{Bytes, Expr, signal, constant, truth, conj, disj, same, alike, signals_from, constants_from, Edge, Name, Graph, bits_of, constant_bits, Cycle, is_terminal, input, is_init, bit_holds, alike_from, holds, operators}
use Rattle.assertion.specs.Paths.{verdicts, is_rejected, rejected_under, rejects_along}

abbrev p : Bytes
p = 112 ∷ []

abbrev q : Bytes
q = 113 ∷ []

-- a name of one bit, and of more
abbrev one : Bytes → Name
one n = record { name = n; width = 1 }

abbrev wide : Bytes → ℕ → Name
wide n w = record { name = n; width = w }

abbrev ab : List Bytes
ab = (97 ∷ []) ∷ (98 ∷ []) ∷ []

abbrev edge : ℕ → ℕ → Bool → Expr → Bytes → Expr → Bytes → Edge
edge f t m a at c ct =
    record { from = f; to = t; marked = m; antecedent = a; consequent = c; antecedent_text = at; consequent_text = ct }

-- a cycle of init, p and q
abbrev three : ℕ → ℕ → ℕ → Cycle
three a b c = a ∷ b ∷ c ∷ []

-- `E a b t p q`, and `E b b t p 1`
abbrev first : Edge
first = edge 0 1 true (signal 0) p (signal 1) q

abbrev loop : Edge
loop = edge 1 1 true (signal 0) p (truth true) (49 ∷ [])

abbrev G : Graph
G = record { mode = Unsaid; signals = one p ∷ one q ∷ []; constants = []; vertices = ab; edges = first ∷ [] }

abbrev G_loop : Graph
G_loop = record { mode = Unsaid; signals = one p ∷ one q ∷ []; constants = []; vertices = ab; edges = first ∷ loop ∷ [] }

-- ---- formulas
-- `p|q&r` at 1,0,0 is 1
or-and : holds [] (49 ∷ 49 ∷ 48 ∷ 48 ∷ []) (disj (signal 0) (conj (signal 1) (signal 2))) ≡ true
unfolding holds input
or-and = refl

-- `p=q=r` at 0,0,0 is 0
same-same : holds [] (49 ∷ 48 ∷ 48 ∷ 48 ∷ []) (same (same (signal 0) (signal 1)) (signal 2)) ≡ false
unfolding holds input
same-same = refl

-- ---- paths
-- G on 110, 111, 010: the first cycle is rejected; the second is an init of its own; the third has no path
rejects-one : verdicts G [] (three 49 49 48 ∷ three 49 49 49 ∷ three 48 49 48 ∷ []) ≡ 1 ∷ 0 ∷ 0 ∷ []
unfolding is_rejected rejected_under rejects_along constant_bits bits_of is_terminal holds is_init input
rejects-one = refl

-- G without init, 010
no_init : verdicts G [] (three 48 49 48 ∷ []) ≡ 0 ∷ []
unfolding is_rejected rejected_under rejects_along constant_bits bits_of is_terminal holds is_init input
no_init = refl

-- G with `E b b t p 1` on 110, 011, 001: a condemned path goes on, and a false antecedent excuses it
rejects-two : verdicts G_loop [] (three 49 49 48 ∷ three 48 49 49 ∷ three 48 48 49 ∷ []) ≡ 1 ∷ 1 ∷ 0 ∷ []
unfolding is_rejected rejected_under rejects_along constant_bits bits_of is_terminal holds is_init input
rejects-two = refl

-- the same on 110, 111: the path starts anew at the latest init
starts_anew : verdicts G_loop [] (three 49 49 48 ∷ three 49 49 49 ∷ []) ≡ 1 ∷ 0 ∷ []
unfolding is_rejected rejected_under rejects_along constant_bits bits_of is_terminal holds is_init input
starts_anew = refl

-- G on 100: where the antecedent fails, the consequent is not asked
not_asked : verdicts G [] (three 49 48 48 ∷ []) ≡ 0 ∷ []
unfolding is_rejected rejected_under rejects_along constant_bits bits_of is_terminal holds is_init input
not_asked = refl

-- G with `-` for `t` on 110, 111, 010: without a mode its edge is terminal, and G's cycles are rejected;
-- with `M terminal` no path ends on a terminal edge; with `M strong` as without
abbrev G_unmarked : Mode → Graph
G_unmarked m = record { mode = m; signals = one p ∷ one q ∷ []; constants = []; vertices = ab; edges = edge 0 1 false (signal 0) p (signal 1) q ∷ [] }

unmarked-rejects : verdicts (G_unmarked Unsaid) [] (three 49 49 48 ∷ three 49 49 49 ∷ three 48 49 48 ∷ []) ≡ 1 ∷ 0 ∷ 0 ∷ []
unfolding is_rejected rejected_under rejects_along constant_bits bits_of is_terminal holds is_init input
unmarked-rejects = refl

no_terminal : verdicts (G_unmarked Terminal) [] (three 49 49 48 ∷ three 49 49 49 ∷ three 48 49 48 ∷ []) ≡ 0 ∷ 0 ∷ 0 ∷ []
unfolding is_rejected rejected_under rejects_along constant_bits bits_of is_terminal holds is_init input
no_terminal = refl

strong-rejects : verdicts (G_unmarked Strong) [] (three 49 49 48 ∷ three 49 49 49 ∷ three 48 49 48 ∷ []) ≡ 1 ∷ 0 ∷ 0 ∷ []
unfolding is_rejected rejected_under rejects_along constant_bits bits_of is_terminal holds is_init input
strong-rejects = refl

-- `E a a - 1 0` and `E a a t 1 1` on 1: where one edge is marked, the other is terminal under `M strong` alone
abbrev G_mixed : Mode → Graph
G_mixed m =
    record {
      mode = m;
      signals = [];
      constants = [];
      vertices = (97 ∷ []) ∷ [];
      edges = edge 0 0 false (truth true) (49 ∷ []) (truth false) (48 ∷ []) ∷ edge 0 0 true (truth true) (49 ∷ []) (truth true) (49 ∷ []) ∷ [];
    }

mixed_strong : verdicts (G_mixed Strong) [] ((49 ∷ []) ∷ []) ≡ 1 ∷ []
unfolding is_rejected rejected_under rejects_along constant_bits bits_of is_terminal holds is_init input
mixed_strong = refl

mixed_unsaid : verdicts (G_mixed Unsaid) [] ((49 ∷ []) ∷ []) ≡ 0 ∷ []
unfolding is_rejected rejected_under rejects_along constant_bits bits_of is_terminal holds is_init input
mixed_unsaid = refl

mixed_terminal : verdicts (G_mixed Terminal) [] ((49 ∷ []) ∷ []) ≡ 0 ∷ []
unfolding is_rejected rejected_under rejects_along constant_bits bits_of is_terminal holds is_init input
mixed_terminal = refl

-- `E b b t 1 0` alone on 1: no path leaves the start vertex
not_reached : verdicts (record { mode = Unsaid; signals = []; constants = []; vertices = ab; edges = edge 1 1 true (truth true) (49 ∷ []) (truth false) (48 ∷ []) ∷ [] }) [] ((49 ∷ []) ∷ []) ≡ 0 ∷ []
unfolding is_rejected rejected_under rejects_along constant_bits bits_of is_terminal holds is_init input
not_reached = refl

-- `S p`, `K k`, one terminal edge `k`/`p` from the start vertex: 10 is rejected, 11 accepted
abbrev G_constant : Graph
G_constant = record { mode = Unsaid; signals = one p ∷ []; constants = one (107 ∷ []) ∷ []; vertices = ab; edges = edge 0 1 true (constant 0) (107 ∷ []) (signal 0) p ∷ [] }

constant-rejected : verdicts G_constant [] ((49 ∷ 48 ∷ []) ∷ []) ≡ 1 ∷ []
unfolding is_rejected rejected_under rejects_along constant_bits bits_of is_terminal holds is_init input
constant-rejected = refl

constant-accepted : verdicts G_constant [] ((49 ∷ 49 ∷ []) ∷ []) ≡ 0 ∷ []
unfolding is_rejected rejected_under rejects_along constant_bits bits_of is_terminal holds is_init input
constant-accepted = refl

-- ---- wide names
-- `S a 3`, `S b 3`: `a==b` is 1 where a's bits 1, 0, 0 are b's, and 0 where one bit differs, be it the highest or the lowest
alike-holds : holds [] (48 ∷ 49 ∷ 48 ∷ 48 ∷ 49 ∷ 48 ∷ 48 ∷ []) (alike (signals_from 0) (signals_from 3) 3) ≡ true
unfolding holds alike_from bit_holds input
alike-holds = refl

highest_differs : holds [] (48 ∷ 49 ∷ 48 ∷ 48 ∷ 49 ∷ 48 ∷ 49 ∷ []) (alike (signals_from 0) (signals_from 3) 3) ≡ false
unfolding holds alike_from bit_holds input
highest_differs = refl

lowest_differs : holds [] (48 ∷ 49 ∷ 48 ∷ 48 ∷ 48 ∷ 48 ∷ 48 ∷ []) (alike (signals_from 0) (signals_from 3) 3) ≡ false
unfolding holds alike_from bit_holds input
lowest_differs = refl

-- it counts 3 operators for each bit, and 2 that join them; for names of one bit, 3
alike-operators : operators (alike (signals_from 0) (signals_from 3) 3) ≡ 11
unfolding operators
alike-operators = refl

one_bit-operators : operators (alike (signals_from 0) (signals_from 1) 1) ≡ 3
unfolding operators
one_bit-operators = refl

-- `S a 2`, `K k 2`, `V v`, `E v v t a==k k[1]` on 100, 110, 101, 111: k must be a, and a cycle is rejected where bit 1 of it is 0
abbrev G_wide : ℕ → Graph
G_wide bit =
    record {
      mode = Unsaid;
      signals = wide (97 ∷ []) 2 ∷ [];
      constants = wide (107 ∷ []) 2 ∷ [];
      vertices = (118 ∷ []) ∷ [];
      edges = edge 0 0 true (alike (signals_from 0) (constants_from 0) 2) (97 ∷ 61 ∷ 61 ∷ 107 ∷ []) (constant bit) (107 ∷ 91 ∷ (48 + bit) ∷ 93 ∷ []) ∷ [];
    }

wide-rejected : verdicts (G_wide 1) [] (three 49 48 48 ∷ three 49 49 48 ∷ three 49 48 49 ∷ three 49 49 49 ∷ []) ≡ 1 ∷ 1 ∷ 0 ∷ 0 ∷ []
unfolding is_rejected rejected_under rejects_along constant_bits bits_of is_terminal holds alike_from bit_holds is_init input
wide-rejected = refl

-- the same with k[0] for k[1]: both bits of k are tried
lowest-rejected : verdicts (G_wide 0) [] (three 49 48 48 ∷ three 49 49 48 ∷ three 49 48 49 ∷ three 49 49 49 ∷ []) ≡ 1 ∷ 0 ∷ 1 ∷ 0 ∷ []
unfolding is_rejected rejected_under rejects_along constant_bits bits_of is_terminal holds alike_from bit_holds is_init input
lowest-rejected = refl
