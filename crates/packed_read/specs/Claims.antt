-- What the contract of read claims: it takes exactly the packed files, reading what was written gives the same numbers,
-- and each fault is told with its number and line, the first in file order. Assumes nothing.
use Rattle.std.specs.Prelude.{Ok, Err, ◌≡◌, Bool, true, false, List, [], ◌∷◌, ◌++◌, ◌⊎◌, ℕ, suc, ◌+◌, ◌-◌, ◌*◌, ◌<◌, ◌≤◌, length, get_or, take, drop}
use Rattle.text.specs.Quoted.{bytes}
use Rattle.text.specs.Numbers.{digits}
use Rattle.text.specs.Writer.{joined}
use Rattle.netlist.specs.Layout.{maximum, input_count, latch_count, output_count, gate_count, size_of, latch_variable, gate_variable}
use Rattle.netlist.specs.Literals.{literal_of}
use Rattle.netlist.specs.Valid.{header_ok, free_count, is_netlist}
use Rattle.aiger.specs.Rows.{line}
use Rattle.aiger.specs.Format.{output_line}
use Rattle.packed.specs.Runs.{run}
use Rattle.packed.specs.Format.{packed_header, packed_latch, packed_gate, packed_with, packed_of}
use Rattle.aiger_lines.specs.declared.Fault.{Fault}
use Rattle.aiger_lines.specs.declared.Fault.TheVariants.{WrongShape, OutOfLimits}
use Rattle.packed_read.specs.declared.Cause.{Cause}
use Rattle.packed_read.specs.declared.Cause.TheVariants.{TextTooLong, ShortBuffer, FaultyLine, FaultyRun}
use Rattle.packed_read.specs.Read.{refusal_of, read_end, read_of}

-- a text is a packed file of the netlist net, with some of its resets 0 explicit
pub record IsPacked (text net : List ℕ) : Type 0 where
  pub netlist : is_netlist net ≡ true
  pub exact : length net ≡ size_of net
  pub explicit : ℕ → Bool
  pub is : text ≡ packed_with net explicit

-- a packed file of the netlist net, up to the line of latch k, to that of output k, and to the bytes of gate k
unfoldable pub to_latch : List ℕ → (ℕ → Bool) → ℕ → List ℕ
to_latch net explicit k =
    packed_header (maximum net) (input_count net) (latch_count net) (output_count net) (gate_count net)
    ++ joined (packed_latch net explicit) k

unfoldable pub to_output : List ℕ → (ℕ → Bool) → ℕ → List ℕ
to_output net explicit k = to_latch net explicit (latch_count net) ++ joined (output_line net) k

unfoldable pub to_gate : List ℕ → (ℕ → Bool) → ℕ → List ℕ
to_gate net explicit k = to_output net explicit (output_count net) ++ joined (packed_gate net) k

-- what a read is refused with, the buffer as it was
abbrev pub Refuses : List ℕ → List ℕ → Cause → Type 0
Refuses text buf cause = read_of text buf ≡ read_end (Err cause) buf

-- THE CLAIM, of any text and any buffer lent
pub record PackedMeans : Type 0 where
  -- the causes below have the numbers of the documents' tables
  pub numbered : (line : ℕ)
      → (refusal_of TextTooLong ≡ record { number = 1; line = 0 }) × (refusal_of ShortBuffer ≡ record { number = 12; line = 0 })
      × (refusal_of (FaultyLine WrongShape line) ≡ record { number = 13; line = line }) × (refusal_of (FaultyLine OutOfLimits line) ≡ record { number = 14; line = line })
      × (refusal_of (FaultyRun WrongShape) ≡ record { number = 18; line = 0 }) × (refusal_of (FaultyRun OutOfLimits) ≡ record { number = 14; line = 0 })
  -- a line is its numbers in decimal, parted by blanks, and an LF
  pub lines : (n : ℕ) → (line n [] ≡ digits n ++ (10 ∷ [])) × ((m : ℕ) (ms : List ℕ) → line n (m ∷ ms) ≡ digits n ++ (32 ∷ line m ms))
  -- a file up to a latch, an output and a gate: the header; then latch by latch, output by output, gate by gate; and so the
  -- whole
  pub up_to_latch : (net : List ℕ) (explicit : ℕ → Bool)
      → (to_latch net explicit 0 ≡ bytes "aig " ++ line (get_or net 0 0) (get_or net 1 0 ∷ get_or net 2 0 ∷ get_or net 3 0 ∷ get_or net 4 0 ∷ []))
      × ((k : ℕ) → to_latch net explicit (suc k) ≡ to_latch net explicit k ++ packed_latch net explicit k)
  pub up_to_output : (net : List ℕ) (explicit : ℕ → Bool) → (to_output net explicit 0 ≡ to_latch net explicit (get_or net 2 0))
      × ((k : ℕ) → to_output net explicit (suc k) ≡ to_output net explicit k ++ line (get_or net (5 + 2 * get_or net 2 0 + k) 0) [])
  pub up_to_gate : (net : List ℕ) (explicit : ℕ → Bool) → (to_gate net explicit 0 ≡ to_output net explicit (get_or net 3 0))
      × ((k : ℕ) → to_gate net explicit (suc k) ≡ to_gate net explicit k ++ packed_gate net k) × (packed_with net explicit ≡ to_gate net explicit (get_or net 4 0))
  -- a packed file is taken where the buffer has room for its netlist: the numbers stand first, the surplus stays
  pub takes : (text net buf : List ℕ) → IsPacked text net → length net ≤ length buf
      → read_of text buf ≡ read_end (Ok (length net)) (net ++ drop (length net) buf)
  -- and refused as such where it has none
  pub short : (text net buf : List ℕ) → IsPacked text net → length buf < length net → Refuses text buf ShortBuffer
  -- what is taken, of bytes, is a packed file, and gives the numbers of its netlist
  pub only : (text buf : List ℕ) (n : ℕ) (after : List ℕ) → ((k : ℕ) → get_or text k 0 < 256) → read_of text buf ≡ read_end (Ok n) after
      → (net : List ℕ) × IsPacked text net × (n ≡ length net) × (after ≡ net ++ drop n buf)
  -- a text of more than 65,536 bytes is refused as such
  pub long : (text buf : List ℕ) → 65536 < length text → Refuses text buf TextTooLong
  -- any other text that is no packed file is refused at a faulty line or for a byte run
  pub other : (text buf : List ℕ) → ((k : ℕ) → get_or text k 0 < 256) → length text ≤ 65536 → ((net : List ℕ) → IsPacked text net → ⊥)
      → ((fault : Fault) × (line : ℕ) × Refuses text buf (FaultyLine fault line)) ⊎ ((fault : Fault) × Refuses text buf (FaultyRun fault))
  -- what was written of a netlist, whatever its surplus, reads as the same numbers
  pub back : (net buf : List ℕ) → is_netlist net ≡ true → size_of net ≤ length buf
      → read_of (packed_of net) buf ≡ read_end (Ok (size_of net)) (take (size_of net) net ++ drop (size_of net) buf)
  -- two netlists with the same written text are the same
  pub same : (net other : List ℕ) → is_netlist net ≡ true → is_netlist other ≡ true → packed_of net ≡ packed_of other
      → take (size_of net) net ≡ take (size_of other) other
  -- what starts with no header has the wrong shape, and a header whose numbers break the limits is told as such, at line 1
  pub header-shape : (text buf : List ℕ) → ((m i l o a : ℕ) (more : List ℕ) → m < 100000 → i < 100000 → l < 100000 → o < 100000 → a < 100000
      → text ≡ bytes "aig " ++ (line m (i ∷ l ∷ o ∷ a ∷ []) ++ more) → ⊥) → length text ≤ 65536 → Refuses text buf (FaultyLine WrongShape 1)
  pub header-limits : (buf : List ℕ) (m i l o a : ℕ) (more : List ℕ) → m < 100000 → i < 100000 → l < 100000 → o < 100000 → a < 100000
      → header_ok m i l o a ≡ false → length (bytes "aig " ++ (line m (i ∷ l ∷ o ∷ a ∷ []) ++ more)) ≤ 65536
      → Refuses (bytes "aig " ++ (line m (i ∷ l ∷ o ∷ a ∷ []) ++ more)) buf (FaultyLine OutOfLimits 1)
  -- where the line of latch k is due, what is a line of neither one nor two numbers, or nothing at all, has the wrong shape, there
  pub latch_shape : (net buf : List ℕ) (explicit : ℕ → Bool) (k : ℕ) (more : List ℕ) → is_netlist net ≡ true → k < latch_count net
      → ((n : ℕ) (rest : List ℕ) → n < 100000 → more ≡ line n [] ++ rest → ⊥) → ((n m : ℕ) (rest : List ℕ) → n < 100000 → m < 100000 → more ≡ line n (m ∷ []) ++ rest → ⊥) → length (to_latch net explicit k ++ more) ≤ 65536
      → Refuses (to_latch net explicit k ++ more) buf (FaultyLine WrongShape (2 + k))
  -- and next above the largest literal, or a reset other than 0, 1 or the latch's own literal, or a seventh uninitialised latch, breaks the limits
  pub latch_limits : (net buf : List ℕ) (explicit : ℕ → Bool) (k next reset : ℕ) (row more : List ℕ) → is_netlist net ≡ true → k < latch_count net
      → next < 100000 → reset < 100000 → (row ≡ line next (reset ∷ [])) ⊎ ((reset ≡ 0) × (row ≡ line next []))
      → (literal_of (maximum net) true < next) ⊎ ((1 < reset) × ((reset ≡ literal_of (latch_variable net k) false → ⊥) ⊎ (6 ≤ free_count net k)))
      → length (to_latch net explicit k ++ (row ++ more)) ≤ 65536
      → Refuses (to_latch net explicit k ++ (row ++ more)) buf (FaultyLine OutOfLimits (2 + k))
  -- where the line of output k is due, what is no number's line has the wrong shape, and a number above the largest literal breaks the limits
  pub output-shape : (net buf : List ℕ) (explicit : ℕ → Bool) (k : ℕ) (more : List ℕ) → is_netlist net ≡ true → k < output_count net
      → ((n : ℕ) (rest : List ℕ) → n < 100000 → more ≡ line n [] ++ rest → ⊥) → length (to_output net explicit k ++ more) ≤ 65536
      → Refuses (to_output net explicit k ++ more) buf (FaultyLine WrongShape (latch_count net + 2 + k))
  pub output-limits : (net buf : List ℕ) (explicit : ℕ → Bool) (k lit : ℕ) (more : List ℕ) → is_netlist net ≡ true → k < output_count net
      → literal_of (maximum net) true < lit → lit < 100000 → length (to_output net explicit k ++ (line lit [] ++ more)) ≤ 65536
      → Refuses (to_output net explicit k ++ (line lit [] ++ more)) buf (FaultyLine OutOfLimits (latch_count net + 2 + k))
  -- where gate k is due, of literal g: what starts with no byte run is refused as such
  pub first-shape : (net buf : List ℕ) (explicit : ℕ → Bool) (k : ℕ) (more : List ℕ) → ((k : ℕ) → get_or more k 0 < 256) → is_netlist net ≡ true → k < gate_count net
      → ((n : ℕ) (rest : List ℕ) → n < 2097152 → more ≡ run n ++ rest → ⊥) → length (to_gate net explicit k ++ more) ≤ 65536
      → Refuses (to_gate net explicit k ++ more) buf (FaultyRun WrongShape)
  -- a first number of 0 or above g, whatever follows, breaks the limits
  pub first-limits : (net buf : List ℕ) (explicit : ℕ → Bool) (k d : ℕ) (more : List ℕ) → is_netlist net ≡ true → k < gate_count net
      → d < 2097152 → (d ≡ 0) ⊎ (literal_of (gate_variable net k) false < d) → length (to_gate net explicit k ++ (run d ++ more)) ≤ 65536
      → Refuses (to_gate net explicit k ++ (run d ++ more)) buf (FaultyRun OutOfLimits)
  -- behind a good one, what starts with no byte run is refused as such
  pub second-shape : (net buf : List ℕ) (explicit : ℕ → Bool) (k d : ℕ) (more : List ℕ) → ((k : ℕ) → get_or more k 0 < 256) → is_netlist net ≡ true → k < gate_count net
      → 1 ≤ d → d ≤ literal_of (gate_variable net k) false → ((n : ℕ) (rest : List ℕ) → n < 2097152 → more ≡ run n ++ rest → ⊥) → length (to_gate net explicit k ++ (run d ++ more)) ≤ 65536
      → Refuses (to_gate net explicit k ++ (run d ++ more)) buf (FaultyRun WrongShape)
  -- and a second number above the first operand breaks the limits
  pub second-limits : (net buf : List ℕ) (explicit : ℕ → Bool) (k d e : ℕ) (more : List ℕ) → is_netlist net ≡ true → k < gate_count net
      → 1 ≤ d → d ≤ literal_of (gate_variable net k) false → e < 2097152 → literal_of (gate_variable net k) false - d < e
      → length (to_gate net explicit k ++ (run d ++ (run e ++ more))) ≤ 65536
      → Refuses (to_gate net explicit k ++ (run d ++ (run e ++ more))) buf (FaultyRun OutOfLimits)
  -- behind a whole file nothing may stand: a byte more is refused as no byte run is
  pub extra : (net buf : List ℕ) (explicit : ℕ → Bool) (more : List ℕ) → is_netlist net ≡ true → 0 < length more
      → length (packed_with net explicit ++ more) ≤ 65536
      → Refuses (packed_with net explicit ++ more) buf (FaultyRun WrongShape)
