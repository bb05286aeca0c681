-- Where each gate stands that joins literals in order, one gate for each further one, whatever a join is. Assumes nothing.
use Prim.Native.Nat.{ℕ, zero, suc, ◌+◌, ◌-◌, ◌<◌, ◌≤◌}
use mathlib.Core.Path.{◌≡◌, refl, ap, ◌∙◌}
use mathlib.Core.Bool.{true}
use mathlib.Core.List.{List, [], ◌∷◌}
use native.Mathlib.Omega.{arith}
use lib.ListN.{length, get_or}
use Rattle.netlist.specs.Literals.{literal_of}
use Rattle.circuit.specs.Gates.{lit, inv, Gate, gate, Piece}
use Rattle.circuit.specs.Build.{and_all, or_all}
use Rattle.circuit.specs.Claims.{gate_at}

-- the gate that joins what is joined so far and the next, and the literal that the gate n makes
module _ (join : ℕ → ℕ → Gate) (made : ℕ → ℕ) where
  abbrev pub chain : ℕ → ℕ → List ℕ → Piece
  chain n so [] = record { gates = []; out = so }
  chain n so (t ∷ ts) = record { gates = join so t ∷ (chain (suc n) (made n) ts).gates; out = (chain (suc n) (made n) ts).out }

  chain_next : (ts : List ℕ) (m so k : ℕ) → suc k < length ts → gate_at (chain m so ts).gates (suc k) ≡ join (made (m + k)) (get_or ts (suc k) 0)
  chain_next [] m so k l = absurd (omega arith)
  chain_next (t ∷ []) m so k l = absurd (omega arith)
  chain_next (t ∷ u ∷ ts) m so zero l = ap (λ (x : ℕ). join (made x) u) (omega arith)
  chain_next (t ∷ u ∷ ts) m so (suc k) l = chain_next (u ∷ ts) (suc m) (made m) k (omega arith) ∙ ap (λ (x : ℕ). join (made x) (get_or (u ∷ ts) (suc k) 0)) (omega arith)

  chain_out : (ts : List ℕ) (m so : ℕ) → 1 ≤ length ts → (chain m so ts).out ≡ made (m + (length ts - 1))
  chain_out [] m so l = absurd (omega arith)
  chain_out (t ∷ []) m so l = ap made (omega arith)
  chain_out (t ∷ u ∷ ts) m so l = chain_out (u ∷ ts) (suc m) (made m) (omega arith) ∙ ap made (omega arith)

  -- of all literals of a list, where the first is what is joined at first
  module _ (all : ℕ → List ℕ → Piece) (is-chain : (m t : ℕ) (ts : List ℕ) → all m (t ∷ ts) ≡ chain m t ts) where
    pub all_first : (ls : List ℕ) (m : ℕ) → 2 ≤ length ls → gate_at (all m ls).gates 0 ≡ join (get_or ls 0 0) (get_or ls 1 0)
    all_first [] m l = absurd (omega arith)
    all_first (t ∷ []) m l = absurd (omega arith)
    all_first (t ∷ u ∷ ts) m l = ap (λ (p : Piece). gate_at p.gates 0) (is-chain m t (u ∷ ts))

    pub all-next : (ls : List ℕ) (m j : ℕ) → suc (suc j) < length ls → gate_at (all m ls).gates (suc j) ≡ join (made (m + j)) (get_or ls (suc (suc j)) 0)
    all-next [] m j l = absurd (omega arith)
    all-next (t ∷ ts) m j l = ap (λ (p : Piece). gate_at p.gates (suc j)) (is-chain m t ts) ∙ chain_next ts m t j (omega arith)

    pub all-out : (ls : List ℕ) (m : ℕ) → 2 ≤ length ls → (all m ls).out ≡ made (m + (length ls - 2))
    all-out [] m l = absurd (omega arith)
    all-out (t ∷ ts) m l = ap (λ (p : Piece). p.out) (is-chain m t ts) ∙ chain_out ts m t (omega arith) ∙ ap made (omega arith)

    pub all_one : (ls : List ℕ) (m : ℕ) → length ls ≡ 1 → (all m ls).out ≡ get_or ls 0 0
    all_one [] m l = absurd (omega arith)
    all_one (t ∷ []) m l = ap (λ (p : Piece). p.out) (is-chain m t [])
    all_one (t ∷ u ∷ ts) m l = absurd (omega arith)

-- ---- AND, and OR
-- a gate, and then those of a piece
abbrev before : Gate → Piece → Piece
before x p = record { gates = x ∷ p.gates; out = p.out }

pub and_chain : (m t : ℕ) (ts : List ℕ) → and_all m (t ∷ ts) ≡ chain gate lit m t ts
and_chain m t [] = refl
and_chain m t (u ∷ ts) = ap (before (gate t u)) (and_chain (suc m) (lit m) ts)

-- the gate of an OR, and its literal
abbrev pub or_gate : ℕ → ℕ → Gate
or_gate a b = gate (inv a) (inv b)

abbrev pub or_literal : ℕ → ℕ
or_literal n = literal_of n true

pub or_chain : (m t : ℕ) (ts : List ℕ) → or_all m (t ∷ ts) ≡ chain or_gate or_literal m t ts
or_chain m t [] = refl
or_chain m t (u ∷ ts) = ap (before (or_gate t u)) (or_chain (suc m) (or_literal m) ts)
