-- Files of the AIGER distribution, graph G's with one output and with two, one with latches, files whose gates come in
-- no order, and faulty ones: what read answers by the definitions, and what the netlists taken mean. Assumes nothing.
use Rattle.std.specs.Prelude.{Ok, Err}
use mathlib.Core.Path.{◌≡◌, refl}
use mathlib.Core.Bool.{Bool, not, ◌&&◌}
use mathlib.Core.List.{List, [], ◌∷◌, ◌++◌, map}
use Prim.Native.Nat.{ℕ}
use Prim.Native.String.{String}
use lib.ListN.{length}
use Rattle.text.specs.Quoted.{bytes}
use Rattle.text.specs.Numbers.{is_digit, leading_digits, value_from, is_numeral, read_number}
use Rattle.netlist.specs.Literals.{literal_of, variable_of, is_inverted}
use Rattle.netlist.specs.Meaning.{bools, signed, lit_of, gate_of, gates_of, front, values_of, nexts_of, next_of, output_of}
use Rattle.netlist.specs.Valid.{header_ok}
use Rattle.gate_order.specs.Renumbered.{larger_first, new_variable, new_literal, new_latch, new_output, new_gate, renumbered}
use Rattle.aiger_lines.specs.declared.Fault.{Fault}
use Rattle.aiger_lines.specs.declared.Fault.TheVariants.{WrongShape, OutOfLimits}
use Rattle.aiger_lines.specs.Fields.{on_number, number_then, before, fields_of, either_of}
use Rattle.aiger_lines.specs.Lines.{judged, latch_says, output_at}
use Rattle.aiger_lines.specs.Blocks.{behind, and_then, on_row, rows_of, end_of}
use Rattle.aiger_lines.specs.Heads.{has_tag, headed, head_at, on_head}
use Rattle.aiger_read.specs.declared.Cause.TheVariants.{FaultyLine, WaitingGates}
use Rattle.aiger_read.specs.Lines.{input_at, latch_at, gate_place, gate_fits, gate_at}
use Rattle.aiger_read.specs.Files.{gate_rows, body_of, file_read}
use Rattle.aiger_read.specs.Read.{read_end, placed_end, read_as, read_of}

-- a text is read as a netlist, into a buffer of just its length
abbrev reads : List ℕ → List ℕ → Type 0
reads text net = read_of text (map (λ _. 0) net) ≡ read_end (Ok (length net)) net

-- or into one with two numbers more, which stay
abbrev reads_in : List ℕ → List ℕ → Type 0
reads_in text net = read_of text (map (λ _. 0) net ++ (7 ∷ 8 ∷ [])) ≡ read_end (Ok (length net)) (net ++ (7 ∷ 8 ∷ []))

-- or refused at a line
abbrev refuses : List ℕ → Fault → ℕ → Type 0
refuses text fault line = read_of text [] ≡ read_end (Err (FaultyLine fault line)) []

-- or for gates that wait on each other, with no buffer and with one
abbrev waits : List ℕ → Type 0
waits text = (read_of text [] ≡ read_end (Err WaitingGates) []) × (read_of text (7 ∷ 8 ∷ []) ≡ read_end (Err WaitingGates) (7 ∷ 8 ∷ []))

-- Four latches and a gate: the second latch in line 4, the output in line 7 and the gate in line 8 are open.
-- The first latch's reset is left out, the third's is 1, and the fourth is uninitialised.
abbrev latched : String → String → String → List ℕ
latched latch output gate =
    bytes "aag 6 1 4 1 1\n2\n4 2\n" ++ (bytes latch ++ (bytes "8 6 1\n10 8 10\n" ++ (bytes output ++ bytes gate)))

abbrev latched_net : List ℕ
latched_net = 6 ∷ 1 ∷ 4 ∷ 1 ∷ 1 ∷ 2 ∷ 0 ∷ 4 ∷ 0 ∷ 6 ∷ 1 ∷ 8 ∷ 10 ∷ 12 ∷ 10 ∷ 3 ∷ []

-- An input and two outputs, the input and its inverse.
abbrev both_net : List ℕ
both_net = 1 ∷ 1 ∷ 0 ∷ 2 ∷ 0 ∷ 2 ∷ 3 ∷ []

pub record Table : Type 0 where
  -- taken: a buffer, an inverter, both of these, graph G of document 01 with one output and with two, and the
  -- latches, with and without an explicit reset 0
  pub buffer : reads (bytes "aag 1 1 0 1 0\n2\n2\n") (1 ∷ 1 ∷ 0 ∷ 1 ∷ 0 ∷ 2 ∷ [])
  pub inverter : reads (bytes "aag 1 1 0 1 0\n2\n3\n") (1 ∷ 1 ∷ 0 ∷ 1 ∷ 0 ∷ 3 ∷ [])
  pub both : reads (bytes "aag 1 1 0 2 0\n2\n2\n3\n") both_net
  pub graph : reads (bytes "aag 12 3 2 1 7\n2\n4\n6\n8 18\n10 25\n24\n12 8 3\n14 10 3\n16 4 2\n18 16 6\n20 16 7\n22 4 0\n24 23 21\n")
      (12 ∷ 3 ∷ 2 ∷ 1 ∷ 7 ∷ 18 ∷ 0 ∷ 25 ∷ 0 ∷ 24 ∷ 8 ∷ 3 ∷ 10 ∷ 3 ∷ 4 ∷ 2 ∷ 16 ∷ 6 ∷ 16 ∷ 7 ∷ 4 ∷ 0 ∷ 23 ∷ 21 ∷ [])
  pub checked : reads (bytes "aag 13 3 2 2 8\n2\n4\n6\n8 18\n10 25\n24\n27\n12 8 3\n14 10 3\n16 4 2\n18 16 6\n20 16 7\n22 4 0\n24 23 21\n26 24 19\n")
      (13 ∷ 3 ∷ 2 ∷ 2 ∷ 8 ∷ 18 ∷ 0 ∷ 25 ∷ 0 ∷ 24 ∷ 27 ∷ 8 ∷ 3 ∷ 10 ∷ 3 ∷ 4 ∷ 2 ∷ 16 ∷ 6 ∷ 16 ∷ 7 ∷ 4 ∷ 0 ∷ 23 ∷ 21 ∷ 24 ∷ 19 ∷ [])
  pub explicit : reads (latched "6 4 0\n" "12\n" "12 10 3\n") latched_net
  pub plain : reads (latched "6 4\n" "12\n" "12 10 3\n") latched_net
  -- operands the smaller first, of an AND and of an OR gate
  pub and-gate : reads (bytes "aag 3 2 0 1 1\n2\n4\n6\n6 2 4\n") (3 ∷ 2 ∷ 0 ∷ 1 ∷ 1 ∷ 6 ∷ 4 ∷ 2 ∷ [])
  pub or-gate : reads (bytes "aag 3 2 0 1 1\n2\n4\n7\n6 3 5\n") (3 ∷ 2 ∷ 0 ∷ 1 ∷ 1 ∷ 7 ∷ 5 ∷ 3 ∷ [])
  -- graph G with its gate lines reversed
  pub reversed : reads (bytes "aag 12 3 2 1 7\n2\n4\n6\n8 18\n10 25\n24\n24 23 21\n22 4 0\n20 16 7\n18 16 6\n16 4 2\n14 10 3\n12 8 3\n")
      (12 ∷ 3 ∷ 2 ∷ 1 ∷ 7 ∷ 18 ∷ 0 ∷ 25 ∷ 0 ∷ 24 ∷ 8 ∷ 3 ∷ 10 ∷ 3 ∷ 4 ∷ 2 ∷ 16 ∷ 6 ∷ 16 ∷ 7 ∷ 4 ∷ 0 ∷ 23 ∷ 21 ∷ [])
  -- gates on later ones: placed and renumbered, and with them outputs and next literals, their signs kept
  pub shuffled : reads_in (bytes "aag 3 1 0 1 2\n2\n6\n6 2 4\n4 2 2\n") (3 ∷ 1 ∷ 0 ∷ 1 ∷ 2 ∷ 6 ∷ 2 ∷ 2 ∷ 4 ∷ 2 ∷ [])
  pub renumbers : reads_in (bytes "aag 3 1 0 1 2\n2\n4\n4 6 2\n6 2 3\n") (3 ∷ 1 ∷ 0 ∷ 1 ∷ 2 ∷ 6 ∷ 3 ∷ 2 ∷ 4 ∷ 2 ∷ [])
  pub inverse : reads (bytes "aag 3 1 0 1 2\n2\n5\n4 6 7\n6 2 2\n") (3 ∷ 1 ∷ 0 ∷ 1 ∷ 2 ∷ 7 ∷ 2 ∷ 2 ∷ 5 ∷ 4 ∷ [])
  pub next-literal : reads_in (bytes "aag 4 1 1 1 2\n2\n4 6 4\n8\n6 8 2\n8 4 2\n") (4 ∷ 1 ∷ 1 ∷ 1 ∷ 2 ∷ 8 ∷ 4 ∷ 6 ∷ 4 ∷ 2 ∷ 6 ∷ 2 ∷ [])
  pub lowest-first : reads (bytes "aag 5 1 0 1 4\n2\n4\n4 10 2\n6 2 2\n8 4 6\n10 3 2\n") (5 ∷ 1 ∷ 0 ∷ 1 ∷ 4 ∷ 8 ∷ 2 ∷ 2 ∷ 3 ∷ 2 ∷ 6 ∷ 2 ∷ 8 ∷ 4 ∷ [])
  pub two-outputs : reads (bytes "aag 3 1 0 2 2\n2\n4\n7\n4 6 2\n6 2 3\n") (3 ∷ 1 ∷ 0 ∷ 2 ∷ 2 ∷ 6 ∷ 5 ∷ 3 ∷ 2 ∷ 4 ∷ 2 ∷ [])
  pub own-place : reads_in (bytes "aag 4 1 0 1 3\n2\n8\n4 6 2\n6 2 2\n8 2 3\n") (4 ∷ 1 ∷ 0 ∷ 1 ∷ 3 ∷ 8 ∷ 2 ∷ 2 ∷ 4 ∷ 2 ∷ 3 ∷ 2 ∷ [])
  pub constants : reads (bytes "aag 4 1 1 2 2\n2\n4 7 1\n9\n0\n6 8 1\n8 0 4\n") (4 ∷ 1 ∷ 1 ∷ 2 ∷ 2 ∷ 9 ∷ 1 ∷ 7 ∷ 0 ∷ 4 ∷ 0 ∷ 6 ∷ 1 ∷ [])
  -- a gate on an input and its inverse, one on a latch, whose next literal and output it is, and the distribution's
  -- toggle flip-flop with enable and reset
  pub one_input : reads (bytes "aag 2 1 0 1 1\n2\n4\n4 2 3\n") (2 ∷ 1 ∷ 0 ∷ 1 ∷ 1 ∷ 4 ∷ 3 ∷ 2 ∷ [])
  pub one_latch : reads (bytes "aag 3 1 1 1 1\n2\n4 6\n6\n6 2 4\n") (3 ∷ 1 ∷ 1 ∷ 1 ∷ 1 ∷ 6 ∷ 0 ∷ 6 ∷ 4 ∷ 2 ∷ [])
  pub toggle : reads (bytes "aag 7 2 1 2 4\n2\n4\n6 8\n6\n7\n8 4 10\n10 13 15\n12 2 6\n14 3 7\n") (7 ∷ 2 ∷ 1 ∷ 2 ∷ 4 ∷ 14 ∷ 0 ∷ 6 ∷ 7 ∷ 6 ∷ 2 ∷ 7 ∷ 3 ∷ 11 ∷ 9 ∷ 12 ∷ 4 ∷ [])
  -- gates that wait on each other, or one on itself or its inverse
  pub two_wait : waits (bytes "aag 3 1 0 1 2\n2\n4\n4 6 2\n6 4 2\n")
  pub self_waits : waits (bytes "aag 2 1 0 1 1\n2\n4\n4 4 2\n")
  pub inverse_waits : waits (bytes "aag 2 1 0 1 1\n2\n4\n4 5 2\n")
  -- a faulty line is told before them: a gate defined twice, a line more, a line less
  pub twice : refuses (bytes "aag 3 1 0 1 2\n2\n4\n4 2 2\n4 2 2\n") OutOfLimits 5
  pub twice_waiting : refuses (bytes "aag 3 1 0 1 2\n2\n4\n4 4 2\n4 2 2\n") OutOfLimits 5
  pub more-waiting : refuses (bytes "aag 3 1 0 1 2\n2\n4\n4 4 2\n6 2 2\n6 2 2\n") WrongShape 6
  pub gate_less : refuses (bytes "aag 3 1 0 1 2\n2\n4\n6 2 2\n") WrongShape 5
  -- a gate's literal that is an inverse, an input's or no variable's; an operand above the largest literal
  pub gate_inverse : refuses (bytes "aag 2 1 0 1 1\n2\n4\n5 2 2\n") OutOfLimits 4
  pub gate-input : refuses (bytes "aag 2 1 0 1 1\n2\n4\n2 2 2\n") OutOfLimits 4
  pub gate_over : refuses (bytes "aag 2 1 0 1 1\n2\n4\n6 2 2\n") OutOfLimits 4
  pub operand_over : refuses (bytes "aag 2 1 0 1 1\n2\n4\n4 6 2\n") OutOfLimits 4
  -- refused: the header's limits from both sides, where the first line after a header within them is missing
  pub no_input : refuses (bytes "aag 0 0 0 1 0\n0\n") OutOfLimits 1
  pub inputs_over : refuses (bytes "aag 65 65 0 1 0\n") OutOfLimits 1
  pub inputs-most : refuses (bytes "aag 64 64 0 1 0\n") WrongShape 2
  pub variables_over : refuses (bytes "aag 4096 1 4095 1 0\n") OutOfLimits 1
  pub variables-most : refuses (bytes "aag 4095 1 4094 1 0\n") WrongShape 2
  pub header-sum : refuses (bytes "aag 3 1 1 1 0\n") OutOfLimits 1
  pub outputs_over : refuses (bytes "aag 1 1 0 3 0\n2\n2\n") OutOfLimits 1
  pub outputs-most : refuses (bytes "aag 1 1 0 2 0\n") WrongShape 2
  pub header_less : refuses (bytes "aag 2 1 1 1 1\n") OutOfLimits 1
  pub outputs-none : refuses (bytes "aag 1 1 0 0 0\n2\n") OutOfLimits 1
  pub header-shape : refuses (bytes "aag 1 1 0 1\n") WrongShape 1
  -- the first faulty line decides, and in a line shape comes before limits
  pub first_line_is : refuses (bytes "aag 2 2 0 1 0\n6\n") OutOfLimits 2
  pub shape-first : refuses (latched "6 14 0 0\n" "12\n" "12 10 3\n") WrongShape 4
  -- an input line: another literal, missing, six digits, five digits over 65,535
  pub input-literal : refuses (bytes "aag 1 1 0 1 0\n4\n2\n") OutOfLimits 2
  pub input-missing : refuses (bytes "aag 2 2 0 1 0\n2\n") WrongShape 3
  pub six_digits : refuses (bytes "aag 1 1 0 1 0\n100000\n2\n") WrongShape 2
  pub five_digits : refuses (bytes "aag 1 1 0 1 0\n65536\n2\n") OutOfLimits 2
  -- a latch line: another reset, next above the largest literal, four numbers
  pub latch_reset : refuses (latched "6 4 2\n" "12\n" "12 10 3\n") OutOfLimits 4
  pub latch_next : refuses (latched "6 14\n" "12\n" "12 10 3\n") OutOfLimits 4
  pub latch_shape : refuses (latched "6 4 0 0\n" "12\n" "12 10 3\n") WrongShape 4
  -- behind latches: an output above the largest literal, one of two numbers; a gate of no variable, one missing
  pub output_limit : refuses (latched "6 4\n" "14\n" "12 10 3\n") OutOfLimits 7
  pub output-shape : refuses (latched "6 4\n" "12 1\n" "12 10 3\n") WrongShape 7
  pub gate_limit : refuses (latched "6 4\n" "12\n" "14 10 3\n") OutOfLimits 8
  pub gate-missing : refuses (latched "6 4\n" "12\n" "") WrongShape 8
  -- of two outputs the second missing, above the largest literal; behind both a gate of no variable, a line more
  pub second-missing : refuses (bytes "aag 1 1 0 2 0\n2\n2\n") WrongShape 4
  pub second_limit : refuses (bytes "aag 1 1 0 2 0\n2\n2\n4\n") OutOfLimits 4
  pub second-gate : refuses (bytes "aag 2 1 0 2 1\n2\n2\n3\n6 2 0\n") OutOfLimits 5
  pub second_longer : refuses (bytes "aag 1 1 0 2 0\n2\n2\n3\n2\n") WrongShape 5
  -- a seventh uninitialised latch, where no gate waits and where one does
  pub seventh : refuses (bytes "aag 8 1 7 1 0\n2\n4 2 4\n6 2 6\n8 2 8\n10 2 10\n12 2 12\n14 2 14\n16 2 16\n2\n") OutOfLimits 9
  pub seventh_waiting : refuses (bytes "aag 9 1 7 1 1\n2\n4 2 4\n6 2 6\n8 2 8\n10 2 10\n12 2 12\n14 2 14\n16 2 16\n18\n18 18 2\n") OutOfLimits 9
  -- no last LF, a line more, no text
  pub unended : refuses (latched "6 4\n" "12\n" "12 10 3") WrongShape 8
  pub longer : refuses (latched "6 4\n" "12\n" "12 10 3\n2\n") WrongShape 9
  pub no_text : refuses [] WrongShape 1

pub table : Table
unfolding is_digit leading_digits value_from is_numeral read_number literal_of variable_of is_inverted header_ok larger_first new_variable new_literal new_latch new_output new_gate renumbered on_number number_then before fields_of either_of judged latch_says input_at latch_at output_at gate_place gate_fits gate_at gate_rows behind and_then on_row rows_of end_of body_of has_tag headed head_at on_head file_read placed_end read_as read_of
table =
    record {
      buffer = refl;
      inverter = refl;
      both = refl;
      graph = refl;
      checked = refl;
      explicit = refl;
      plain = refl;
      and-gate = refl;
      or-gate = refl;
      reversed = refl;
      shuffled = refl;
      renumbers = refl;
      inverse = refl;
      next-literal = refl;
      lowest-first = refl;
      two-outputs = refl;
      own-place = refl;
      constants = refl;
      one_input = refl;
      one_latch = refl;
      toggle = refl;
      two_wait = (refl, refl);
      self_waits = (refl, refl);
      inverse_waits = (refl, refl);
      twice = refl;
      twice_waiting = refl;
      more-waiting = refl;
      gate_less = refl;
      gate_inverse = refl;
      gate-input = refl;
      gate_over = refl;
      operand_over = refl;
      no_input = refl;
      inputs_over = refl;
      inputs-most = refl;
      variables_over = refl;
      variables-most = refl;
      header-sum = refl;
      outputs_over = refl;
      outputs-most = refl;
      header_less = refl;
      outputs-none = refl;
      header-shape = refl;
      first_line_is = refl;
      shape-first = refl;
      input-literal = refl;
      input-missing = refl;
      six_digits = refl;
      five_digits = refl;
      latch_reset = refl;
      latch_next = refl;
      latch_shape = refl;
      output_limit = refl;
      output-shape = refl;
      gate_limit = refl;
      gate-missing = refl;
      second-missing = refl;
      second_limit = refl;
      second-gate = refl;
      second_longer = refl;
      seventh = refl;
      seventh_waiting = refl;
      unended = refl;
      longer = refl;
      no_text = refl;
    }

-- what the netlists mean, for the input b and the latches w x y z: the output is the input, its inverse, the one
-- and then the other, and the fourth latch AND the input's inverse; each latch takes what is before it
abbrev latched_values : Bool → Bool → Bool → Bool → Bool → List Bool
latched_values b w x y z = values_of bools latched_net (b ∷ []) (w ∷ x ∷ y ∷ z ∷ [])

pub record Meanings : Type 0 where
  pub buffers : (b : Bool) → output_of bools (1 ∷ 1 ∷ 0 ∷ 1 ∷ 0 ∷ 2 ∷ []) 0 (values_of bools (1 ∷ 1 ∷ 0 ∷ 1 ∷ 0 ∷ 2 ∷ []) (b ∷ []) []) ≡ b
  pub inverts : (b : Bool) → output_of bools (1 ∷ 1 ∷ 0 ∷ 1 ∷ 0 ∷ 3 ∷ []) 0 (values_of bools (1 ∷ 1 ∷ 0 ∷ 1 ∷ 0 ∷ 3 ∷ []) (b ∷ []) []) ≡ not b
  pub first : (b : Bool) → output_of bools both_net 0 (values_of bools both_net (b ∷ []) []) ≡ b
  pub second : (b : Bool) → output_of bools both_net 1 (values_of bools both_net (b ∷ []) []) ≡ not b
  pub joins : (b w x y z : Bool) → output_of bools latched_net 0 (latched_values b w x y z) ≡ (z && not b)
  pub shifts : (b w x y z : Bool) → next_of bools latched_net (latched_values b w x y z) ≡ b ∷ w ∷ x ∷ y ∷ []

pub meanings : Meanings
unfolding variable_of is_inverted signed lit_of gate_of gates_of front values_of nexts_of next_of output_of
meanings =
    record {
      buffers = λ b. refl;
      inverts = λ b. refl;
      first = λ b. refl;
      second = λ b. refl;
      joins = λ b w x y z. refl;
      shifts = λ b w x y z. refl;
    }
