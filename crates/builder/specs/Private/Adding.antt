-- What the private functions promise that store gates one after another into a lent buffer of numbers, two
-- for each. Assumes nothing.
use Rattle.std.specs.Prelude.{◌≡◌, List, [], ◌∷◌, ◌++◌, ℕ, ◌+◌, ◌-◌, ◌*◌, ◌≤◌, length}
use Rattle.std.proofs.lemmas.List.Edits.{sets}
use Rattle.netlist.specs.declared.literals.Literal.{Literal}
use Rattle.circuit.specs.Gates.{lit, inv, Gate, gate, Piece}
use Rattle.circuit.specs.Numbers.{operands}
use Rattle.builder.specs.declared.gates.Gates.{Gates}

-- gates were stored, and the next variable is the one behind them
pub record Added (s t : Gates) (gates : List Gate) : Type 0 where
  pub first : t.first.0 ≡ s.first.0
  pub from : s.first.0 ≤ s.next.0
  pub count : t.next.0 ≡ s.next.0 + length gates
  pub words : t.out.now ≡ sets s.out.now (2 * (s.next.0 - s.first.0)) (operands gates)

-- there is room for as many gates among the variables; what is past the buffer's end is dropped
pub record Room (s : Gates) (gates : ℕ) : Type 0 where
  pub from : s.first.0 ≤ s.next.0
  pub few : s.next.0 + gates ≤ 4096

-- of the gates `whole` that are stored from s on, `rest` are left: stored from t on, they would make the buffer
-- what it is to be
pub record Going (s t : Gates) (whole rest : List Gate) : Type 0 where
  pub first : t.first.0 ≡ s.first.0
  pub from : s.first.0 ≤ s.next.0
  pub on : s.first.0 ≤ t.next.0
  pub count : t.next.0 + length rest ≡ s.next.0 + length whole
  pub words : sets t.out.now (2 * (t.next.0 - s.first.0)) (operands rest) ≡ sets s.out.now (2 * (s.next.0 - s.first.0)) (operands whole)

-- gates in two parts
pub record Splits (all now later : List Gate) : Type 0 where
  pub is : all ≡ now ++ later

-- a piece was stored, and this is its literal
pub record Makes (s t : Gates) (l : Literal) (p : Piece) : Type 0 where
  pub gates : Added s t p.gates
  pub out : l.0 ≡ p.out

-- neither of two: one gate
abbrev pub neither_of : ℕ → ℕ → ℕ → Piece
neither_of n a b = record { gates = gate (inv a) (inv b) ∷ []; out = lit n }
