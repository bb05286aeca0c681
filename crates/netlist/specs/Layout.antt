-- Where the numbers of a netlist stand in a lent buffer: M I L O A, then next and reset for each
-- latch, the outputs, then r0 r1 for each gate. Numbers past these are surplus. Assumes nothing.
use Rattle.std.specs.Prelude.{List, ℕ, ◌+◌, ◌*◌, get_or}

-- ---- the header
abbrev pub maximum : List ℕ → ℕ
maximum net = get_or net 0 0

abbrev pub input_count : List ℕ → ℕ
input_count net = get_or net 1 0

abbrev pub latch_count : List ℕ → ℕ
latch_count net = get_or net 2 0

abbrev pub output_count : List ℕ → ℕ
output_count net = get_or net 3 0

abbrev pub gate_count : List ℕ → ℕ
gate_count net = get_or net 4 0

-- ---- the places of latch k's next literal and reset, of output k, and of gate k's first operand; k from 0
abbrev pub next_at : ℕ → ℕ
next_at k = 5 + 2 * k

abbrev pub reset_at : ℕ → ℕ
reset_at k = 5 + 2 * k + 1

abbrev pub output_at : List ℕ → ℕ → ℕ
output_at net k = 5 + 2 * latch_count net + k

abbrev pub operands_at : List ℕ → ℕ → ℕ
operands_at net k = 5 + 2 * latch_count net + output_count net + 2 * k

-- how many numbers the netlist has
abbrev pub size_of : List ℕ → ℕ
size_of net = operands_at net (gate_count net)

-- ---- the variables: 0 is false; 1 to I are inputs, then latches, then gates
abbrev pub input_variable : ℕ → ℕ
input_variable k = 1 + k

abbrev pub latch_variable : List ℕ → ℕ → ℕ
latch_variable net k = input_count net + 1 + k

abbrev pub gate_variable : List ℕ → ℕ → ℕ
gate_variable net k = input_count net + latch_count net + 1 + k
