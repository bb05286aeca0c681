-- What the contract of place claims of gates that come in no order. Assumes nothing.
use Rattle.std.specs.Prelude.{Result, Ok, Err, ◌≡◌, true, false, List, ◌++◌, ◌⊎◌, ℕ, ◌+◌, ◌*◌, ◌/◌, ◌%◌, ◌<◌, ◌≤◌, length, get_or, take, drop}
use Rattle.netlist.specs.Layout.{size_of}
use Rattle.netlist.specs.Valid.{is_netlist}
use Rattle.netlist.specs.Aiger.{Outlined}
use Rattle.gate_order.specs.Loose.{is_loose}
use Rattle.gate_order.specs.Order.{PlacedAs, Stuck}
use Rattle.gate_order.specs.Meaning.{SameMeaning}
use Rattle.aiger_order.specs.declared.Unplaced.{Unplaced}
use Rattle.aiger_order.specs.declared.Unplaced.TheVariants.{Waiting, ShortBuffer, NotLoose}
use Rattle.aiger_order.specs.Place.{place_end, place_of}

-- each operand of each gate is at most 2M + 1
abbrev pub OperandsWithin : List ℕ → Type 0
OperandsWithin loose = (j : ℕ) → j < 2 * get_or loose 4 0 → get_or loose (5 + 2 * get_or loose 2 0 + get_or loose 3 0 + j) 0 ≤ 2 * get_or loose 0 0 + 1

-- each operand of each gate is no gate's, or one of a gate of lower rank
abbrev pub Ranked : List ℕ → (ℕ → ℕ) → Type 0
Ranked loose rank = (k j : ℕ) → k < get_or loose 4 0 → j < 2
    → (get_or loose (5 + 2 * get_or loose 2 0 + get_or loose 3 0 + 2 * k + j) 0 / 2 < get_or loose 1 0 + get_or loose 2 0 + 1)
    ⊎ (rank (get_or loose (5 + 2 * get_or loose 2 0 + get_or loose 3 0 + 2 * k + j) 0 / 2) < rank (get_or loose 1 0 + get_or loose 2 0 + 1 + k))

-- a literal by the new numbers: a gate's variable is that of its place in the order, the others stay, and so does the sign
pub record Renamed (loose order : List ℕ) (old new : ℕ) : Type 0 where
  pub sign : new % 2 ≡ old % 2
  pub variable : ((old / 2 < get_or loose 1 0 + get_or loose 2 0 + 1) × (new / 2 ≡ old / 2))
      ⊎ ((m : ℕ) × (m < get_or loose 4 0) × (get_or order m 0 ≡ old / 2) × (new / 2 ≡ get_or loose 1 0 + get_or loose 2 0 + 1 + m))

-- the operands at place m of the netlist are those of the m-th gate of the order, x + I + L + 1, renamed, either way round
abbrev pub RenamedGate : List ℕ → List ℕ → List ℕ → ℕ → ℕ → Type 0
RenamedGate loose order net m x =
    let at = 5 + 2 * get_or loose 2 0 + get_or loose 3 0 in
    (Renamed loose order (get_or loose (at + 2 * x) 0) (get_or net (at + 2 * m) 0) × Renamed loose order (get_or loose (at + 2 * x + 1) 0) (get_or net (at + 2 * m + 1) 0))
    ⊎ (Renamed loose order (get_or loose (at + 2 * x) 0) (get_or net (at + 2 * m + 1) 0) × Renamed loose order (get_or loose (at + 2 * x + 1) 0) (get_or net (at + 2 * m) 0))

-- THE CLAIM, of any numbers and any buffer lent
pub record PlaceMeans : Type 0 where
  -- an end has the answer and the numbers given
  pub ends : (r : Result ℕ Unplaced) (n : List ℕ) → ((place_end r n).answer ≡ r) × ((place_end r n).net ≡ n)
  -- numbers are loose where those of header, latches and outputs are within the limits, and each operand is
  pub loose : (loose : List ℕ) → Outlined loose → OperandsWithin loose → is_loose loose ≡ true
  pub within : (loose : List ℕ) → is_loose loose ≡ true → Outlined loose × OperandsWithin loose
  -- other numbers are refused as such, the buffer as it was
  pub other : (loose buf : List ℕ) → is_loose loose ≡ false → place_of loose buf ≡ place_end (Err NotLoose) buf
  -- the netlist is stored where the buffer has room for it: its numbers stand first, the surplus stays
  pub takes : (loose net buf : List ℕ) → is_loose loose ≡ true → PlacedAs loose net → length net ≤ length buf
      → place_of loose buf ≡ place_end (Ok (length net)) (net ++ drop (length net) buf)
  -- and refused as such where it has none
  pub short : (loose net buf : List ℕ) → is_loose loose ≡ true → PlacedAs loose net → length buf < length net
      → place_of loose buf ≡ place_end (Err ShortBuffer) buf
  -- gates that wait on each other are refused as such, whatever the buffer
  pub waits : (loose buf : List ℕ) → is_loose loose ≡ true → Stuck loose → place_of loose buf ≡ place_end (Err Waiting) buf
  -- one of the two holds of all loose numbers, and never both
  pub placed : (loose : List ℕ) → is_loose loose ≡ true → (Stuck loose → ⊥) → (net : List ℕ) × PlacedAs loose net
  pub never : (loose net : List ℕ) → PlacedAs loose net → Stuck loose → ⊥
  -- gates can be placed exactly where they can be ranked, each above its operands
  pub ranked : (loose : List ℕ) (rank : ℕ → ℕ) → is_loose loose ≡ true → Ranked loose rank → (net : List ℕ) × PlacedAs loose net
  pub ranks : (loose net : List ℕ) → is_loose loose ≡ true → PlacedAs loose net → (rank : ℕ → ℕ) × Ranked loose rank
  -- the netlist has the header of the file, and its gates are those of the order
  pub gates : (loose net : List ℕ) → is_loose loose ≡ true → (p : PlacedAs loose net) → (length p.order ≡ get_or loose 4 0)
      × ((k : ℕ) → k < 5 → get_or net k 0 ≡ get_or loose k 0)
      × ((m : ℕ) → m < get_or loose 4 0 → (x : ℕ) × (get_or p.order m 0 ≡ get_or loose 1 0 + get_or loose 2 0 + 1 + x) × RenamedGate loose p.order net m x)
  -- there is one such netlist
  pub one : (loose net other : List ℕ) → is_loose loose ≡ true → PlacedAs loose net → PlacedAs loose other → net ≡ other
  -- a lower gate stands at a later place only where an operand of it is the gate at the earlier place, or a later one: its
  -- larger operand, by its new number, is no lower
  pub lowest : (loose net : List ℕ) → is_loose loose ≡ true → (p : PlacedAs loose net) (n m : ℕ) → n < m → m < get_or loose 4 0
      → get_or p.order m 0 < get_or p.order n 0
      → 2 * (get_or loose 1 0 + get_or loose 2 0 + 1 + n) ≤ get_or net (5 + 2 * get_or loose 2 0 + get_or loose 3 0 + 2 * m) 0
  -- it is a netlist, and means what the file means
  pub netlist : (loose net : List ℕ) → is_loose loose ≡ true → PlacedAs loose net → is_netlist net ≡ true
  pub meaning : (loose net : List ℕ) → is_loose loose ≡ true → PlacedAs loose net → SameMeaning loose net
  -- a netlist's gates are in their order already
  pub same : (net : List ℕ) → is_netlist net ≡ true → (is_loose net ≡ true) × PlacedAs net (take (size_of net) net)
