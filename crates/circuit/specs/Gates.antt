-- Gates by their two operand literals, made one after another. Assumes nothing.
use Rattle.std.specs.Prelude.{Bool, true, false, not, List, [], ◌∷◌, ◌++◌, ℕ, suc, ◌+◌, leb, length}
use Rattle.netlist.specs.Literals.{literal_of, variable_of, is_inverted}

-- the literal of a variable, and the inverse of a literal
abbrev pub lit : ℕ → ℕ
lit var = literal_of var false

unfoldable pub inv : ℕ → ℕ
inv l = literal_of (variable_of l) (not (is_inverted l))

pub record Gate : Type 0 where
  pub left : ℕ
  pub right : ℕ

-- the larger operand first
abbrev pub in_order : Bool → ℕ → ℕ → Gate
in_order true a b = record { left = a; right = b }
in_order false a b = record { left = b; right = a }

unfoldable pub gate : ℕ → ℕ → Gate
gate a b = in_order (leb b a) a b

-- gates that are added where n is the next variable, and the literal that they make
pub record Piece : Type 0 where
  pub gates : List Gate
  pub out : ℕ

-- AND: one gate
abbrev pub and_of : ℕ → ℕ → ℕ → Piece
and_of n a b = record { gates = gate a b ∷ []; out = lit n }

-- OR: one gate, NOT a AND NOT b, inverted
abbrev pub or_of : ℕ → ℕ → ℕ → Piece
or_of n a b = record { gates = gate (inv a) (inv b) ∷ []; out = literal_of n true }

-- just one of two: both, neither, then neither of those
abbrev pub xor_of : ℕ → ℕ → ℕ → Piece
xor_of n a b = record { gates = gate a b ∷ gate (inv a) (inv b) ∷ gate (inv (lit n)) (inv (lit (suc n))) ∷ []; out = lit (suc (suc n)) }

-- both alike: the same, inverted
abbrev pub same_of : ℕ → ℕ → ℕ → Piece
same_of n a b = record { gates = (xor_of n a b).gates; out = inv (xor_of n a b).out }

-- two pieces, left to right, and then the operator that joins them
abbrev pub after : (ℕ → ℕ → ℕ → Piece) → ℕ → Piece → Piece → Piece
after op n p q =
    record {
      gates = p.gates ++ (q.gates ++ (op (n + length p.gates + length q.gates) p.out q.out).gates);
      out = (op (n + length p.gates + length q.gates) p.out q.out).out;
    }
