-- Document 02, No. 7: the second output, checked, as clause 5 of "Building", and the gates and outputs with it or
-- without. Assumes nothing.
use Rattle.std.specs.Prelude.{ℕ, suc, ◌+◌, Bool, true, false, cond, List, [], ◌∷◌, ◌++◌, length}
use Rattle.netlist.specs.Literals.{literal_of}
use Rattle.assertion.specs.Graph.{Edge, Graph, is_terminal}
use Rattle.circuit.specs.Gates.{inv, Gate, gate, Piece}
use Rattle.circuit.specs.Build.{Bits, Two, or_all, first_gate, judged, accepted, gates_of}

-- ---- 5. "checked: the OR over terminal edges of alive, which is happy-now or condemned-now, each one gate, all these
-- first, then joined in edge order, no terminal edge giving 0"
-- happy-now and condemned-now of the terminal edges, in edge order
abbrev pub terminal_twos : Graph → List Edge → List Two → List Two
terminal_twos g [] ms = []
terminal_twos g (e ∷ es) [] = []
terminal_twos g (e ∷ es) (m ∷ ms) = cond (is_terminal g e) (m ∷ terminal_twos g es ms) (terminal_twos g es ms)

-- alive of each: NOT condemned-now AND NOT happy-now, inverted
abbrev pub alives : ℕ → List Two → Bits
alives n [] = record { gates = []; outs = [] }
alives n (m ∷ ms) =
    record { gates = gate (inv m.condemned) (inv m.happy) ∷ (alives (suc n) ms).gates; outs = literal_of n true ∷ (alives (suc n) ms).outs }

-- all these first, then joined
abbrev pub checked_from : ℕ → List Two → Piece
checked_from n ms =
    let a = alives n ms in
    let j = or_all (n + length a.gates) a.outs in
    record { gates = a.gates ++ j.gates; out = j.out }

-- "The gates follow those of accept"
unfoldable pub checked_piece : Graph → Piece
checked_piece g = checked_from (first_gate g + length (gates_of g)) (terminal_twos g g.edges (judged g).outs)

-- ---- "Build is told whether to add it"
abbrev pub gates_with : Bool → Graph → List Gate
gates_with true g = gates_of g ++ (checked_piece g).gates
gates_with false g = gates_of g

-- the output literals: accept, then checked
abbrev pub outputs_with : Bool → Graph → List ℕ
outputs_with true g = (accepted g).out ∷ (checked_piece g).out ∷ []
outputs_with false g = (accepted g).out ∷ []
