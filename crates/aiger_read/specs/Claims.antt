-- What the contract of read claims: it takes exactly the files, their gates in whatever order, that do not wait on
-- each other; the netlist that it gives means what the file means; files with their gates in order read as before;
-- gates that wait on each other are told as such; and every fault of a line is told at that line. Assumes nothing.
use Rattle.std.specs.Prelude.{Result, Ok, Err, ◌≡◌, Bool, true, false, List, [], ◌∷◌, ◌++◌, ◌⊎◌, ℕ, ◌+◌, ◌*◌, ◌<◌, ◌≤◌, length, get_or, take, drop}
use Rattle.text.specs.Quoted.{bytes}
use Rattle.text.specs.Numbers.{digits}
use Rattle.text.specs.Writer.{joined}
use Rattle.netlist.specs.Layout.{maximum, input_count, latch_count, output_count, gate_count, size_of}
use Rattle.netlist.specs.Literals.{literal_of}
use Rattle.netlist.specs.Valid.{header_ok, free_count, is_netlist}
use Rattle.gate_order.specs.Loose.{first_gate, left_of, right_of, is_loose, Once}
use Rattle.gate_order.specs.Order.{PlacedAs, Stuck}
use Rattle.gate_order.specs.Meaning.{SameMeaning}
use Rattle.aiger.specs.Rows.{line, header_row, literal_row, latch_row, gate_row}
use Rattle.aiger.specs.Format.{input_line, latch_line, output_line, file_with, file_of}
use Rattle.aiger_lines.specs.declared.Fault.{Fault}
use Rattle.aiger_lines.specs.declared.Fault.TheVariants.{WrongShape, OutOfLimits}
use Rattle.aiger_read.specs.declared.Cause.{Cause}
use Rattle.aiger_read.specs.declared.Cause.TheVariants.{TextTooLong, ShortBuffer, FaultyLine, WaitingGates}
use Rattle.aiger_read.specs.Read.{refusal_of, read_end, read_of}

-- ---- the files

-- a file of the numbers, up to the line of input k, of latch k, and of output k
unfoldable pub to_input : List ℕ → ℕ → List ℕ
to_input loose k =
    header_row (maximum loose) (input_count loose) (latch_count loose) (output_count loose) (gate_count loose) ++ joined input_line k

unfoldable pub to_latch : List ℕ → (ℕ → Bool) → ℕ → List ℕ
to_latch loose explicit k = to_input loose (input_count loose) ++ joined (latch_line loose explicit) k

unfoldable pub file_to : List ℕ → (ℕ → Bool) → ℕ → List ℕ
file_to loose explicit k =
    header_row (maximum loose) (input_count loose) (latch_count loose) (output_count loose) (gate_count loose)
    ++ (joined input_line (input_count loose) ++ (joined (latch_line loose explicit) (latch_count loose) ++ joined (output_line loose) k))

-- the lines of gates, in the order of the variables given
unfoldable pub gate_lines : List ℕ → List ℕ → List ℕ
gate_lines loose order =
    joined (λ k. gate_row (literal_of (get_or order k 0) false) (left_of loose (get_or order k 0)) (right_of loose (get_or order k 0))) (length order)

-- a file of the numbers up to its gates, and then the lines of some
unfoldable pub file_by : List ℕ → (ℕ → Bool) → List ℕ → List ℕ
file_by loose explicit order = file_to loose explicit (output_count loose) ++ gate_lines loose order

-- a text is a file of the loose numbers, with some of its resets 0 explicit, and each gate's line once, in whatever order
pub record IsFile (text loose : List ℕ) : Type 0 where
  pub numbers : is_loose loose ≡ true
  pub exact : length loose ≡ size_of loose
  pub explicit : ℕ → Bool
  pub order : List ℕ
  pub once : Once loose order
  pub all : length order ≡ gate_count loose
  pub is : text ≡ file_by loose explicit order

-- ---- lines

-- the numbers of the lines of output k and of the gate with k gates before it
abbrev pub line_of_output : List ℕ → ℕ → ℕ
line_of_output loose k = input_count loose + latch_count loose + 2 + k

abbrev pub line_of_gate : List ℕ → ℕ → ℕ
line_of_gate loose k = input_count loose + latch_count loose + output_count loose + 2 + k

-- a text starts with a header's line, whatever its numbers, of at most five digits each
pub record StartsWithHeader (text : List ℕ) : Type 0 where
  pub m : ℕ
  pub i : ℕ
  pub l : ℕ
  pub o : ℕ
  pub a : ℕ
  pub more : List ℕ
  pub small : (m < 100000) × (i < 100000) × (l < 100000) × (o < 100000) × (a < 100000)
  pub is : text ≡ header_row m i l o a ++ more

-- with the line of a number of at most five digits
pub record StartsWithNumber (text : List ℕ) : Type 0 where
  pub lit : ℕ
  pub more : List ℕ
  pub small : lit < 100000
  pub is : text ≡ literal_row lit ++ more

-- of two such numbers
pub record StartsWithTwo (text : List ℕ) : Type 0 where
  pub lit : ℕ
  pub next : ℕ
  pub more : List ℕ
  pub small : (lit < 100000) × (next < 100000)
  pub is : text ≡ line lit (next ∷ []) ++ more

-- or of three
pub record StartsWithThree (text : List ℕ) : Type 0 where
  pub lit : ℕ
  pub r0 : ℕ
  pub r1 : ℕ
  pub more : List ℕ
  pub small : (lit < 100000) × (r0 < 100000) × (r1 < 100000)
  pub is : text ≡ gate_row lit r0 r1 ++ more

-- the numbers of a line are no latch's, where latch k is due: another literal, a next literal above the largest, or a reset
-- above 1 that is not the latch's own literal, or is, after six such
abbrev pub NoLatch : List ℕ → ℕ → ℕ → ℕ → ℕ → Type 0
NoLatch loose k lit next reset =
    (lit ≡ 2 * (input_count loose + 1 + k) → ⊥) ⊎ ((2 * maximum loose + 1 < next)
    ⊎ ((1 < reset) × ((reset ≡ 2 * (input_count loose + 1 + k) → ⊥) ⊎ (6 ≤ free_count loose k))))

-- the numbers of a line define a gate, after those of the order: the literal of a gate's variable that is not defined yet,
-- and two literals of the file
pub record Defines (loose order : List ℕ) (lit r0 r1 : ℕ) : Type 0 where
  pub variable : ℕ
  pub literal : lit ≡ 2 * variable
  pub gate : (first_gate loose ≤ variable) × (variable ≤ maximum loose)
  pub fresh : (k : ℕ) → k < length order → get_or order k 0 ≡ variable → ⊥
  pub operands : (r0 ≤ 2 * maximum loose + 1) × (r1 ≤ 2 * maximum loose + 1)

-- what a read is refused with, the buffer as it was
abbrev pub Refuses : List ℕ → List ℕ → Cause → Type 0
Refuses text buf cause = read_of text buf ≡ read_end (Err cause) buf

-- THE CLAIM, of any text and any buffer lent
pub record ReadMeans : Type 0 where
  -- an end has the answer and the numbers given
  pub ends : (r : Result ℕ Cause) (n : List ℕ) → ((read_end r n).answer ≡ r) × ((read_end r n).net ≡ n)
  -- the causes below have the numbers of the documents' tables
  pub numbered : (line : ℕ) → (refusal_of TextTooLong ≡ record { number = 1; line = 0 }) × (refusal_of ShortBuffer ≡ record { number = 12; line = 0 })
      × (refusal_of (FaultyLine WrongShape line) ≡ record { number = 13; line = line }) × (refusal_of (FaultyLine OutOfLimits line) ≡ record { number = 14; line = line })
      × (refusal_of WaitingGates ≡ record { number = 23; line = 0 })
  -- a file whose gates can be placed is taken where the buffer has room for its netlist: the numbers stand first, the
  -- surplus stays
  pub takes : (text loose net buf : List ℕ) → IsFile text loose → PlacedAs loose net → length net ≤ length buf
      → read_of text buf ≡ read_end (Ok (length net)) (net ++ drop (length net) buf)
  -- and refused as such where it has none
  pub short : (text loose net buf : List ℕ) → IsFile text loose → PlacedAs loose net → length buf < length net → Refuses text buf ShortBuffer
  -- a file whose gates wait on each other is refused as such, whatever the buffer
  pub waits : (text loose buf : List ℕ) → IsFile text loose → Stuck loose → Refuses text buf WaitingGates
  -- every file is one of the two
  pub either : (text loose : List ℕ) → IsFile text loose → ((net : List ℕ) × PlacedAs loose net) ⊎ Stuck loose
  -- what is taken is a file, and gives the numbers of its netlist
  pub only : (text buf : List ℕ) (n : ℕ) (after : List ℕ) → read_of text buf ≡ read_end (Ok n) after
      → (loose net : List ℕ) × IsFile text loose × PlacedAs loose net × (n ≡ length net) × (after ≡ net ++ drop n buf)
  -- and what is refused for gates that wait on each other is a file with such gates
  pub stuck : (text buf after : List ℕ) → read_of text buf ≡ read_end (Err WaitingGates) after → (loose : List ℕ) × IsFile text loose × Stuck loose
  -- the numbers are a netlist, and its outputs and next states are those of AIGER's meaning of the file itself
  pub means : (text loose net : List ℕ) → IsFile text loose → PlacedAs loose net → (is_netlist net ≡ true) × SameMeaning loose net
  -- a text is a file of one list of numbers only
  pub one : (text loose other : List ℕ) → IsFile text loose → IsFile text other → loose ≡ other
  -- a netlist's file, its gate lines in whatever order, reads as the netlist
  pub shuffled : (net order buf : List ℕ) (explicit : ℕ → Bool) → is_netlist net ≡ true → length net ≡ size_of net → Once net order → length order ≡ gate_count net
      → length net ≤ length buf → read_of (file_by net explicit order) buf ≡ read_end (Ok (length net)) (net ++ drop (length net) buf)
  -- "Files taken before read as before": those with the gates in their order, each with the larger operand first
  pub before : (net buf : List ℕ) (explicit : ℕ → Bool) → is_netlist net ≡ true → length net ≡ size_of net → length net ≤ length buf
      → read_of (file_with net explicit) buf ≡ read_end (Ok (length net)) (net ++ drop (length net) buf)
  -- and are refused as before where the buffer has no room
  pub before-short : (net buf : List ℕ) (explicit : ℕ → Bool) → is_netlist net ≡ true → length net ≡ size_of net → length buf < length net
      → Refuses (file_with net explicit) buf ShortBuffer
  -- a text of more than 65,536 bytes is refused as such, the buffer as it was
  pub long : (text buf : List ℕ) → 65536 < length text → Refuses text buf TextTooLong
  -- any other text that is no file is refused at a faulty line, the buffer as it was
  pub other : (text buf : List ℕ) → length text ≤ 65536 → ((loose : List ℕ) → IsFile text loose → ⊥)
      → (fault : Fault) × (line : ℕ) × Refuses text buf (FaultyLine fault line)
  -- what was written of a netlist, whatever its surplus, reads as the same numbers
  pub back : (net buf : List ℕ) → is_netlist net ≡ true → size_of net ≤ length buf
      → read_of (file_of net) buf ≡ read_end (Ok (size_of net)) (take (size_of net) net ++ drop (size_of net) buf)
  -- two netlists with the same written text are the same
  pub same : (net other : List ℕ) → is_netlist net ≡ true → is_netlist other ≡ true → file_of net ≡ file_of other
      → take (size_of net) net ≡ take (size_of other) other
  -- ---- the texts

  -- a line is its numbers in decimal, parted by single blanks, and an LF
  pub line-text : (n m : ℕ) (ms : List ℕ) → (line n [] ≡ digits n ++ (10 ∷ [])) × (line n (m ∷ ms) ≡ digits n ++ (32 ∷ line m ms))
  -- the lines of a file, by their numbers
  pub rows : (m i l o a lit next r0 r1 : ℕ) → (header_row m i l o a ≡ bytes "aag " ++ line m (i ∷ l ∷ o ∷ a ∷ [])) × (literal_row lit ≡ line lit [])
      × (gate_row lit r0 r1 ≡ line lit (r0 ∷ r1 ∷ [])) × (latch_row false lit next 0 ≡ line lit (next ∷ [])) × (latch_row true lit next 0 ≡ line lit (next ∷ 0 ∷ []))
      × ((explicit : Bool) (r : ℕ) → 1 ≤ r → latch_row explicit lit next r ≡ line lit (next ∷ r ∷ []))
  pub lines : (loose : List ℕ) (explicit : ℕ → Bool) (k : ℕ) → (input_line k ≡ literal_row (2 * (1 + k)))
      × (latch_line loose explicit k ≡ latch_row (explicit k) (2 * (get_or loose 1 0 + 1 + k)) (get_or loose (5 + 2 * k) 0) (get_or loose (5 + 2 * k + 1) 0))
      × (output_line loose k ≡ literal_row (get_or loose (5 + 2 * get_or loose 2 0 + k) 0))
  -- a gate's line more
  pub gate_line_at : (loose order : List ℕ) (k : ℕ) → gate_lines loose (order ++ ((first_gate loose + k) ∷ []))
      ≡ gate_lines loose order ++ line (2 * (get_or loose 1 0 + get_or loose 2 0 + 1 + k))
      (get_or loose (5 + 2 * get_or loose 2 0 + get_or loose 3 0 + 2 * k) 0 ∷ get_or loose (5 + 2 * get_or loose 2 0 + get_or loose 3 0 + 2 * k + 1) 0 ∷ [])
  -- the file with its gates in order
  pub in_order_lem : (net order : List ℕ) (explicit : ℕ → Bool) → length order ≡ gate_count net
      → ((k : ℕ) → k < gate_count net → get_or order k 0 ≡ get_or net 1 0 + get_or net 2 0 + 1 + k) → file_with net explicit ≡ file_by net explicit order
  -- any variables of gates, none twice, are an order
  pub orders : (loose order : List ℕ)
      → ((k : ℕ) → k < length order → (get_or loose 1 0 + get_or loose 2 0 < get_or order k 0) × (get_or order k 0 ≤ get_or loose 1 0 + get_or loose 2 0 + get_or loose 4 0))
      → ((j k : ℕ) → j < k → k < length order → get_or order j 0 ≡ get_or order k 0 → ⊥) → Once loose order
  -- ---- faults, each told at its line

  -- a text that does not start with a header's line has the wrong shape, at line 1
  pub header-shape : (text buf : List ℕ) → (StartsWithHeader text → ⊥) → length text ≤ 65536 → Refuses text buf (FaultyLine WrongShape 1)
  -- a header of the right shape whose numbers break the limits is told as such, there
  pub header : (buf : List ℕ) (m i l o a : ℕ) (more : List ℕ) → m < 100000 → i < 100000 → l < 100000 → o < 100000 → a < 100000
      → header_ok m i l o a ≡ false → length (header_row m i l o a ++ more) ≤ 65536
      → Refuses (header_row m i l o a ++ more) buf (FaultyLine OutOfLimits 1)
  -- where the line of input k is due, what is no number's line, or nothing at all, has the wrong shape, there
  pub input-shape : (loose buf : List ℕ) (k : ℕ) (more : List ℕ) → is_loose loose ≡ true → k < input_count loose → (StartsWithNumber more → ⊥)
      → length (to_input loose k ++ more) ≤ 65536 → Refuses (to_input loose k ++ more) buf (FaultyLine WrongShape (2 + k))
  -- and another number breaks the limits
  pub input-limits : (loose buf : List ℕ) (k lit : ℕ) (more : List ℕ) → is_loose loose ≡ true → k < input_count loose → lit < 100000
      → (lit ≡ 2 * (1 + k) → ⊥) → length (to_input loose k ++ (literal_row lit ++ more)) ≤ 65536
      → Refuses (to_input loose k ++ (literal_row lit ++ more)) buf (FaultyLine OutOfLimits (2 + k))
  -- where the line of latch k is due, what is no line of two numbers or three has the wrong shape, there
  pub latch_shape : (loose buf : List ℕ) (explicit : ℕ → Bool) (k : ℕ) (more : List ℕ) → is_loose loose ≡ true → k < latch_count loose
      → (StartsWithTwo more → ⊥) → (StartsWithThree more → ⊥) → length (to_latch loose explicit k ++ more) ≤ 65536
      → Refuses (to_latch loose explicit k ++ more) buf (FaultyLine WrongShape (input_count loose + 2 + k))
  -- and numbers that are no latch's break the limits; a reset that is left out is 0
  pub latch_limits : (loose buf : List ℕ) (explicit : ℕ → Bool) (k lit next reset : ℕ) (row more : List ℕ) → is_loose loose ≡ true → k < latch_count loose
      → (lit < 100000) × (next < 100000) × (reset < 100000) → (row ≡ line lit (next ∷ reset ∷ [])) ⊎ ((reset ≡ 0) × (row ≡ line lit (next ∷ [])))
      → NoLatch loose k lit next reset → length (to_latch loose explicit k ++ (row ++ more)) ≤ 65536
      → Refuses (to_latch loose explicit k ++ (row ++ more)) buf (FaultyLine OutOfLimits (input_count loose + 2 + k))
  -- where the line of output k is due, that of a number above the largest literal breaks the limits, there
  pub above : (loose buf : List ℕ) (explicit : ℕ → Bool) (k lit : ℕ) (more : List ℕ) → is_loose loose ≡ true → k < output_count loose
      → 2 * maximum loose + 1 < lit → lit < 100000 → length (file_to loose explicit k ++ (literal_row lit ++ more)) ≤ 65536
      → Refuses (file_to loose explicit k ++ (literal_row lit ++ more)) buf (FaultyLine OutOfLimits (line_of_output loose k))
  -- and what is no number's line, or nothing at all, has the wrong shape, there
  pub shape : (loose buf : List ℕ) (explicit : ℕ → Bool) (k : ℕ) (more : List ℕ) → is_loose loose ≡ true → k < output_count loose
      → (StartsWithNumber more → ⊥) → length (file_to loose explicit k ++ more) ≤ 65536
      → Refuses (file_to loose explicit k ++ more) buf (FaultyLine WrongShape (line_of_output loose k))
  -- where a gate's line is due, what is no line of three numbers, or nothing at all, has the wrong shape, there
  pub gate-shape : (loose order buf : List ℕ) (explicit : ℕ → Bool) (more : List ℕ) → is_loose loose ≡ true → Once loose order → length order < gate_count loose
      → (StartsWithThree more → ⊥) → length (file_by loose explicit order ++ more) ≤ 65536
      → Refuses (file_by loose explicit order ++ more) buf (FaultyLine WrongShape (line_of_gate loose (length order)))
  -- and three numbers that define no gate, or one that is defined already, break the limits, there
  pub gate-limits : (loose order buf : List ℕ) (explicit : ℕ → Bool) (lit r0 r1 : ℕ) (more : List ℕ) → is_loose loose ≡ true → Once loose order → length order < gate_count loose
      → (lit < 100000) × (r0 < 100000) × (r1 < 100000) → (Defines loose order lit r0 r1 → ⊥) → length (file_by loose explicit order ++ (gate_row lit r0 r1 ++ more)) ≤ 65536
      → Refuses (file_by loose explicit order ++ (gate_row lit r0 r1 ++ more)) buf (FaultyLine OutOfLimits (line_of_gate loose (length order)))
  -- behind a whole file nothing may stand, whether its gates wait or not: a line more, or what begins one, has the wrong
  -- shape, at its line
  pub extra : (text loose buf more : List ℕ) → IsFile text loose → 0 < length more → length (text ++ more) ≤ 65536
      → Refuses (text ++ more) buf (FaultyLine WrongShape (input_count loose + latch_count loose + output_count loose + gate_count loose + 2))
