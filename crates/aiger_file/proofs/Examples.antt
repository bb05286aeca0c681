-- Files of both forms, taken and refused: what read answers by the definitions. Assumes nothing.
use Rattle.std.specs.Prelude.{Ok, Err}
use mathlib.Core.Path.{◌≡◌, refl}
use mathlib.Core.List.{List, [], ◌∷◌, ◌++◌, map}
use Prim.Native.Nat.{ℕ}
use lib.ListN.{length}
use Rattle.text.specs.Quoted.{bytes}
use Rattle.text.specs.Numbers.{is_digit, leading_digits, value_from, is_numeral, read_number}
use Rattle.netlist.specs.Literals.{literal_of, variable_of, is_inverted}
use Rattle.netlist.specs.Valid.{header_ok}
use Rattle.gate_order.specs.Renumbered.{larger_first, new_variable, new_literal, new_latch, new_output, new_gate, renumbered}
use Rattle.aiger_lines.specs.declared.Fault.TheVariants.{WrongShape, OutOfLimits}
use Rattle.aiger_lines.specs.Fields.{on_number, number_then, before, fields_of, either_of}
use Rattle.aiger_lines.specs.Lines.{judged, latch_says, output_at}
use Rattle.aiger_lines.specs.Blocks.{behind, and_then, on_row, rows_of, end_of}
use Rattle.aiger_lines.specs.Heads.{has_tag, headed, head_at, on_head}
use Rattle.aiger_read.specs.Lines as text
use Rattle.aiger_read.specs.Files as texts
use Rattle.aiger_read.specs.Read as text_read
use Rattle.packed_read.specs.Runs.{last, more, bytes_at, run_at}
use Rattle.packed_read.specs.Lines.{latch_at, on_run, second_at, gate_at}
use Rattle.packed_read.specs.Files.{in_bytes, body_of, read_packed}
use Rattle.packed_read.specs.Read as read
use Rattle.aiger_file.specs.declared.Cause.{Cause}
use Rattle.aiger_file.specs.declared.Cause.TheVariants.{FaultyLine, FaultyRun, WaitingGates}
use Rattle.aiger_file.specs.Read as file
use Rattle.aiger_file.specs.Read.{read_end, read_of}

-- a text is read as a netlist, into a buffer of just its length
abbrev reads : List ℕ → List ℕ → Type 0
reads text net = read_of text (map (λ _. 0) net) ≡ read_end (Ok (length net)) net

-- or refused
abbrev refuses : List ℕ → Cause → Type 0
refuses text cause = read_of text [] ≡ read_end (Err cause) []

pub record Table : Type 0 where
  -- one netlist in both forms: a latch of reset 1 and a gate
  pub as_text : reads (bytes "aag 3 1 1 1 1\n2\n4 6 1\n7\n6 5 2\n") (3 ∷ 1 ∷ 1 ∷ 1 ∷ 1 ∷ 6 ∷ 1 ∷ 7 ∷ 5 ∷ 2 ∷ [])
  pub packed : reads (bytes "aig 3 1 1 1 1\n6 1\n7\n" ++ (1 ∷ 3 ∷ [])) (3 ∷ 1 ∷ 1 ∷ 1 ∷ 1 ∷ 6 ∷ 1 ∷ 7 ∷ 5 ∷ 2 ∷ [])
  -- gates out of order: that of 6 needs no other, and becomes 4; the output, and an operand, with it
  pub unordered : reads (bytes "aag 3 1 0 1 2\n2\n4\n4 6 2\n6 2 3\n") (3 ∷ 1 ∷ 0 ∷ 1 ∷ 2 ∷ 6 ∷ 3 ∷ 2 ∷ 4 ∷ 2 ∷ [])
  -- and gates that wait on each other
  pub waiting : refuses (bytes "aag 3 1 0 1 2\n2\n4\n4 6 2\n6 4 2\n") WaitingGates
  -- each under the other's word
  pub text_as_packed : refuses (bytes "aig 3 1 1 1 1\n2\n4 6 1\n7\n6 5 2\n") (FaultyLine WrongShape 3)
  pub packed_as_text : refuses (bytes "aag 3 1 1 1 1\n6 1\n7\n" ++ (1 ∷ 3 ∷ [])) (FaultyLine WrongShape 2)
  -- faults of a text, at their lines
  pub input : refuses (bytes "aag 1 1 0 1 0\n4\n2\n") (FaultyLine OutOfLimits 2)
  pub output : refuses (bytes "aag 1 1 0 1 0\n2\n") (FaultyLine WrongShape 3)
  pub gate : refuses (bytes "aag 2 1 0 1 1\n2\n4\n4 6 2\n") (FaultyLine OutOfLimits 4)
  -- and of a packed file
  pub latch : refuses (bytes "aig 3 1 1 1 1\n6 2\n7\n" ++ (1 ∷ 3 ∷ [])) (FaultyLine OutOfLimits 2)
  pub run-missing : refuses (bytes "aig 3 1 1 1 1\n6 1\n7\n" ++ (1 ∷ [])) (FaultyRun WrongShape)
  pub run_limit : refuses (bytes "aig 3 1 1 1 1\n6 1\n7\n" ++ (1 ∷ 6 ∷ [])) (FaultyRun OutOfLimits)
  -- neither word
  pub capitals : refuses (bytes "AIG 1 1 0 1 0\n2\n") (FaultyLine WrongShape 1)
  pub tab : refuses (bytes "aig\t1 1 0 1 0\n2\n") (FaultyLine WrongShape 1)
  pub another : refuses (bytes "aug 1 1 0 1 0\n2\n2\n") (FaultyLine WrongShape 1)
  pub none : refuses [] (FaultyLine WrongShape 1)

pub table : Table
unfolding is_digit leading_digits value_from is_numeral read_number literal_of variable_of is_inverted header_ok larger_first new_variable new_literal new_latch new_output new_gate renumbered on_number number_then before fields_of either_of judged latch_says output_at behind and_then on_row rows_of end_of has_tag headed head_at on_head text.input_at text.latch_at text.gate_place text.gate_fits text.gate_at texts.gate_rows texts.body_of texts.file_read text_read.placed_end text_read.read_as text_read.read_of last more bytes_at run_at latch_at on_run second_at gate_at in_bytes body_of read_packed read.read_as read.read_of file.text_cause file.packed_cause file.text_outcome file.packed_outcome file.text_read_end file.packed_read_end read_of
table =
    record {
      as_text = refl;
      packed = refl;
      unordered = refl;
      waiting = refl;
      text_as_packed = refl;
      packed_as_text = refl;
      input = refl;
      output = refl;
      gate = refl;
      latch = refl;
      run-missing = refl;
      run_limit = refl;
      capitals = refl;
      tab = refl;
      another = refl;
      none = refl;
    }
