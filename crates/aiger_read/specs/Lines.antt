-- What an AIGER line of the ASCII format says: the numbers of the netlist that it gives, or its fault. A
-- wrong shape is 13, a right shape that breaks order or limits 14. Assumes nothing.
use Rattle.std.specs.Prelude.{Bool, true, not, cond, ◌&&◌, List, [], ◌∷◌, ℕ, ◌-◌, ◌*◌, eqb, leb, get_or}
use Rattle.std.proofs.lemmas.List.Edits.{sets}
use Rattle.netlist.specs.Literals.{literal_of, variable_of, is_inverted}
use Rattle.aiger_lines.specs.declared.Fault.TheVariants.{OutOfLimits}
use Rattle.aiger_lines.specs.Fields.{fields_of, either_of}
use Rattle.aiger_lines.specs.Lines.{Row, row, fault, judged, latch_says}

-- an input has just the literal due
unfoldable pub input_at : List ℕ → ℕ → ℕ → ℕ → Row
input_at s lit free p = judged (fields_of s 0 p) (λ vs q. cond (eqb (get_or vs 0 0) lit) (row [] free q) (fault OutOfLimits))

-- a latch: the literal due, then next and reset; `free` latches before it are uninitialised
unfoldable pub latch_at : List ℕ → ℕ → ℕ → ℕ → ℕ → Row
latch_at s last lit free p =
    judged (either_of s 1 p)
    (λ vs q. cond (eqb (get_or vs 0 0) lit) (latch_says last lit free (get_or vs 1 0) (get_or vs 2 0) q) (fault OutOfLimits))

-- ---- gates come in any order: the operands of each stand at the place of its own variable

-- what stands where no gate is defined so far: no literal of a file
abbrev pub undefined : ℕ
undefined = 65535

-- the place of the operands of a gate's literal, where those of the variable `first` stand at 0
unfoldable pub gate_place : ℕ → ℕ → ℕ
gate_place first lit = 2 * (variable_of lit - first)

-- a gate: the literal of a variable from `first` to m, not its inverse; operands of at most the largest literal, either way
-- round; and "each gate variable is defined once": `ops` has the operands of the gates before it
unfoldable pub gate_fits : ℕ → ℕ → List ℕ → List ℕ → Bool
gate_fits first m ops vs =
    not (is_inverted (get_or vs 0 0))
    && (leb first (variable_of (get_or vs 0 0))
    && (leb (variable_of (get_or vs 0 0)) m
    && (leb (get_or vs 1 0) (literal_of m true)
    && (leb (get_or vs 2 0) (literal_of m true)
    && eqb (get_or ops (gate_place first (get_or vs 0 0)) 0) undefined))))

-- the operands of the gates up to this one
unfoldable pub gate_at : List ℕ → ℕ → ℕ → List ℕ → ℕ → ℕ → Row
gate_at s first m ops free p =
    judged (fields_of s 2 p)
    (λ vs q.
    cond (gate_fits first m ops vs)
    (row (sets ops (gate_place first (get_or vs 0 0)) (get_or vs 1 0 ∷ get_or vs 2 0 ∷ [])) free q)
    (fault OutOfLimits))
