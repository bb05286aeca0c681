-- How many gates the monitor of a graph has: the formula of document 01, and what document 02, No. 7, adds. Assumes nothing.
use Rattle.std.specs.Prelude.{ℕ, zero, suc, ◌+◌, ◌-◌, ◌*◌, min, Bool, cond, List, [], ◌∷◌, length, eqb}
use Rattle.assertion.specs.Graph.{Expr, truth, signal, constant, neg, conj, disj, xor, same, alike, Edge, Graph, is_terminal, operators}

-- F adds 1 for each `&` or `|`, 3 for each `^` or `=`; "`==` costs 3 gates a bit .. then width − 1 more that join
-- them .. it enters F thus"
unfoldable pub formula_gates : Expr → ℕ
formula_gates (truth b) = 0
formula_gates (signal i) = 0
formula_gates (constant j) = 0
formula_gates (neg a) = formula_gates a
formula_gates (conj a b) = formula_gates a + formula_gates b + 1
formula_gates (disj a b) = formula_gates a + formula_gates b + 1
formula_gates (xor a b) = formula_gates a + formula_gates b + 3
formula_gates (same a b) = formula_gates a + formula_gates b + 3
formula_gates (alike a b w) = 4 * w - 1

abbrev pub all_formula_gates : List Edge → ℕ
all_formula_gates [] = 0
all_formula_gates (e ∷ es) = formula_gates e.antecedent + formula_gates e.consequent + all_formula_gates es

-- the operators `& ^ | =` of all formulas, and for each `==` as many as it costs gates
abbrev pub all_operators : List Edge → ℕ
all_operators [] = 0
all_operators (e ∷ es) = operators e.antecedent + operators e.consequent + all_operators es

-- the edges that go to the vertex v
abbrev pub incoming : ℕ → List Edge → ℕ
incoming v [] = 0
incoming v (e ∷ es) = cond (eqb e.to v) 1 0 + incoming v es

-- of the vertices v, v + 1, .., k of them: how many have an incoming edge
abbrev pub entered : ℕ → ℕ → List Edge → ℕ
entered v zero es = 0
entered v (suc k) es = min 1 (incoming v es) + entered (suc v) k es

-- T counts the terminal edges
abbrev pub terminals : Graph → List Edge → ℕ
terminals g [] = 0
terminals g (e ∷ es) = cond (is_terminal g e) 1 0 + terminals g es

-- 7E + (E − non-start vertices with an incoming edge) + (E − vertices with an incoming edge)
-- + max(T − 1, 0) + F
unfoldable pub gate_formula : Graph → ℕ
gate_formula g =
    let e = length g.edges in
    7 * e + (e - entered 1 (length g.vertices - 1) g.edges) + (e - entered 0 (length g.vertices) g.edges)
    + (terminals g g.edges - 1) + all_formula_gates g.edges

-- "2T − 1 are added when T is at least 1"; minus stops at 0
unfoldable pub gate_formula_with : Bool → Graph → ℕ
gate_formula_with checked g = gate_formula g + cond checked (2 * terminals g g.edges - 1) 0
