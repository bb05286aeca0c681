-- The cases of the packed form, taken and refused: what read answers by the definitions. Assumes nothing.
use Rattle.std.specs.Prelude.{Ok, Err}
use mathlib.Core.Path.{◌≡◌, refl}
use mathlib.Core.List.{List, [], ◌∷◌, ◌++◌, map}
use Prim.Native.Nat.{ℕ}
use lib.ListN.{length}
use Rattle.text.specs.Quoted.{bytes}
use Rattle.text.specs.Numbers.{is_digit, leading_digits, value_from, is_numeral, read_number}
use Rattle.netlist.specs.Literals.{literal_of}
use Rattle.netlist.specs.Valid.{header_ok}
use Rattle.aiger_lines.specs.declared.Fault.TheVariants.{WrongShape, OutOfLimits}
use Rattle.aiger_lines.specs.Fields.{on_number, number_then, before, fields_of, either_of}
use Rattle.aiger_lines.specs.Lines.{judged, latch_says, output_at}
use Rattle.aiger_lines.specs.Blocks.{behind, and_then, on_row, rows_of, end_of}
use Rattle.aiger_lines.specs.Heads.{has_tag, headed, head_at, on_head}
use Rattle.packed_read.specs.declared.Cause.{Cause}
use Rattle.packed_read.specs.declared.Cause.TheVariants.{FaultyLine, FaultyRun}
use Rattle.packed_read.specs.Runs.{last, more, bytes_at, run_at}
use Rattle.packed_read.specs.Lines.{latch_at, on_run, second_at, gate_at}
use Rattle.packed_read.specs.Files.{in_bytes, body_of, read_packed}
use Rattle.packed_read.specs.Read.{read_end, read_as, read_of}

-- a text is read as a netlist, into a buffer of just its length
abbrev reads : List ℕ → List ℕ → Type 0
reads text net = read_of text (map (λ _. 0) net) ≡ read_end (Ok (length net)) net

-- or refused
abbrev refuses : List ℕ → Cause → Type 0
refuses text cause = read_of text [] ≡ read_end (Err cause) []

-- an input, an output that is the gate, and the gate's bytes
abbrev gate : List ℕ → List ℕ
gate runs = bytes "aig 2 1 0 1 1\n4\n" ++ runs

abbrev gate_net : ℕ → ℕ → List ℕ
gate_net r0 r1 = 2 ∷ 1 ∷ 0 ∷ 1 ∷ 1 ∷ 4 ∷ r0 ∷ r1 ∷ []

-- the gates of document 01's graph G
abbrev graph_runs : List ℕ
graph_runs = 4 ∷ 5 ∷ 4 ∷ 7 ∷ 12 ∷ 2 ∷ 2 ∷ 10 ∷ 4 ∷ 9 ∷ 18 ∷ 4 ∷ 1 ∷ 2 ∷ []

abbrev graph_gates : List ℕ
graph_gates = 8 ∷ 3 ∷ 10 ∷ 3 ∷ 4 ∷ 2 ∷ 16 ∷ 6 ∷ 16 ∷ 7 ∷ 4 ∷ 0 ∷ 23 ∷ 21 ∷ []

pub record Table : Type 0 where
  -- taken: graph G with one output and with two, no gate, two outputs, a latch of an explicit reset, its own literal or 0
  pub graph : reads (bytes "aig 12 3 2 1 7\n18\n25\n24\n" ++ graph_runs) ((12 ∷ 3 ∷ 2 ∷ 1 ∷ 7 ∷ 18 ∷ 0 ∷ 25 ∷ 0 ∷ 24 ∷ []) ++ graph_gates)
  pub checked : reads (bytes "aig 13 3 2 2 8\n18\n25\n24\n27\n" ++ (graph_runs ++ (2 ∷ 5 ∷ []))) ((13 ∷ 3 ∷ 2 ∷ 2 ∷ 8 ∷ 18 ∷ 0 ∷ 25 ∷ 0 ∷ 24 ∷ 27 ∷ []) ++ (graph_gates ++ (24 ∷ 19 ∷ [])))
  pub no_gate : reads (bytes "aig 1 1 0 1 0\n2\n") (1 ∷ 1 ∷ 0 ∷ 1 ∷ 0 ∷ 2 ∷ [])
  pub outputs : reads (bytes "aig 1 1 0 2 0\n2\n3\n") (1 ∷ 1 ∷ 0 ∷ 2 ∷ 0 ∷ 2 ∷ 3 ∷ [])
  pub own-reset : reads (bytes "aig 2 1 1 1 0\n2 4\n5\n") (2 ∷ 1 ∷ 1 ∷ 1 ∷ 0 ∷ 2 ∷ 4 ∷ 5 ∷ [])
  pub explicit : reads (bytes "aig 2 1 1 1 0\n2 0\n5\n") (2 ∷ 1 ∷ 1 ∷ 1 ∷ 0 ∷ 2 ∷ 0 ∷ 5 ∷ [])
  pub one-reset : reads (bytes "aig 2 1 1 1 0\n2 1\n5\n") (2 ∷ 1 ∷ 1 ∷ 1 ∷ 0 ∷ 2 ∷ 1 ∷ 5 ∷ [])
  pub plain : reads (bytes "aig 2 1 1 1 0\n2\n5\n") (2 ∷ 1 ∷ 1 ∷ 1 ∷ 0 ∷ 2 ∷ 0 ∷ 5 ∷ [])
  -- the header: another tag, no blank after it, none at all, a missing number, limits
  pub other_tag : refuses (bytes "aag 1 1 0 1 0\n2\n2\n") (FaultyLine WrongShape 1)
  pub tab : refuses (bytes "aig\t1 1 0 1 0\n2\n") (FaultyLine WrongShape 1)
  pub no_text : refuses [] (FaultyLine WrongShape 1)
  pub header-short : refuses (bytes "aig 1 1 0 1\n2\n") (FaultyLine WrongShape 1)
  pub header-sum : refuses (bytes "aig 2 1 0 1 2\n") (FaultyLine OutOfLimits 1)
  pub outputs_over : refuses (bytes "aig 1 1 0 3 0\n2\n3\n2\n") (FaultyLine OutOfLimits 1)
  -- a latch: another reset, three numbers, next above the largest literal, missing; a seventh uninitialised one
  pub latch_reset : refuses (bytes "aig 2 1 1 1 0\n2 6\n5\n") (FaultyLine OutOfLimits 2)
  pub latch_three : refuses (bytes "aig 2 1 1 1 0\n4 2 0\n5\n") (FaultyLine WrongShape 2)
  pub latch_next : refuses (bytes "aig 2 1 1 1 0\n6\n5\n") (FaultyLine OutOfLimits 2)
  pub latch_missing : refuses (bytes "aig 3 1 2 1 0\n2\n") (FaultyLine WrongShape 3)
  pub seventh : refuses (bytes "aig 8 1 7 1 0\n2 4\n2 6\n2 8\n2 10\n2 12\n2 14\n2 16\n2\n") (FaultyLine OutOfLimits 8)
  -- an output: no LF, missing, above the largest literal; the second of two
  pub unended : refuses (bytes "aig 1 1 0 1 0\n2") (FaultyLine WrongShape 2)
  pub output-missing : refuses (bytes "aig 1 1 0 1 0\n") (FaultyLine WrongShape 2)
  pub output_limit : refuses (bytes "aig 1 1 0 1 0\n4\n") (FaultyLine OutOfLimits 2)
  pub second-missing : refuses (bytes "aig 1 1 0 2 0\n2\n") (FaultyLine WrongShape 3)
  pub second_limit : refuses (bytes "aig 1 1 0 2 0\n2\n4\n") (FaultyLine OutOfLimits 3)
  pub output-first : refuses (bytes "aig 2 1 0 1 1\n6\n" ++ (2 ∷ 2 ∷ [])) (FaultyLine OutOfLimits 2)
  pub output-bytes : refuses (bytes "aig 2 1 0 1 1\n" ++ (2 ∷ 2 ∷ [])) (FaultyLine WrongShape 2)
  -- a gate of literal 4: both runs good, operands alike, first operand 0
  pub gate-both : reads (gate (2 ∷ 2 ∷ [])) (gate_net 2 0)
  pub gate-alike : reads (gate (2 ∷ 0 ∷ [])) (gate_net 2 2)
  pub gate-false : reads (gate (4 ∷ 0 ∷ [])) (gate_net 0 0)
  pub two_bytes : reads (bytes "aig 64 63 0 1 1\n128\n" ++ (128 ∷ 1 ∷ 0 ∷ [])) (64 ∷ 63 ∷ 0 ∷ 1 ∷ 1 ∷ 128 ∷ 0 ∷ 0 ∷ [])
  -- no first run, no second
  pub first-missing : refuses (gate []) (FaultyRun WrongShape)
  pub second-run-missing : refuses (gate (2 ∷ [])) (FaultyRun WrongShape)
  -- a first number 0 or above the literal, a second above the first operand; the first run decides
  pub first-zero : refuses (gate (0 ∷ 0 ∷ [])) (FaultyRun OutOfLimits)
  pub first_above : refuses (gate (5 ∷ 0 ∷ [])) (FaultyRun OutOfLimits)
  pub second_above : refuses (gate (2 ∷ 3 ∷ [])) (FaultyRun OutOfLimits)
  pub first_decides : refuses (gate (5 ∷ 255 ∷ 255 ∷ 255 ∷ [])) (FaultyRun OutOfLimits)
  -- not shortest, three bytes, four, unfinished
  pub zero_longer : refuses (gate (128 ∷ 0 ∷ 0 ∷ [])) (FaultyRun WrongShape)
  pub two_longer : refuses (gate (130 ∷ 0 ∷ 0 ∷ [])) (FaultyRun WrongShape)
  pub three_bytes : refuses (gate (255 ∷ 255 ∷ 127 ∷ 0 ∷ [])) (FaultyRun OutOfLimits)
  pub four_bytes : refuses (gate (255 ∷ 255 ∷ 255 ∷ [])) (FaultyRun WrongShape)
  pub unfinished : refuses (gate (255 ∷ [])) (FaultyRun WrongShape)
  pub second_unfinished : refuses (gate (2 ∷ 130 ∷ [])) (FaultyRun WrongShape)
  pub second_longer : refuses (gate (2 ∷ 130 ∷ 0 ∷ [])) (FaultyRun WrongShape)
  pub second_three : refuses (gate (2 ∷ 255 ∷ 255 ∷ 127 ∷ [])) (FaultyRun OutOfLimits)
  -- something behind the last gate, or behind the outputs where there is none
  pub extra_end : refuses (gate (2 ∷ 2 ∷ 10 ∷ [])) (FaultyRun WrongShape)
  pub extra-zero : refuses (gate (2 ∷ 2 ∷ 0 ∷ [])) (FaultyRun WrongShape)
  pub extra-byte : refuses (bytes "aig 1 1 0 1 0\n2\nx") (FaultyRun WrongShape)
  pub extra-line : refuses (bytes "aig 1 1 0 1 0\n2\n2\n") (FaultyRun WrongShape)

pub table : Table
unfolding is_digit leading_digits value_from is_numeral read_number literal_of header_ok on_number number_then before fields_of either_of judged latch_says output_at behind and_then on_row rows_of end_of has_tag headed head_at on_head last more bytes_at run_at latch_at on_run second_at gate_at in_bytes body_of read_packed read_as read_of
table =
    record {
      graph = refl;
      checked = refl;
      no_gate = refl;
      outputs = refl;
      own-reset = refl;
      explicit = refl;
      one-reset = refl;
      plain = refl;
      other_tag = refl;
      tab = refl;
      no_text = refl;
      header-short = refl;
      header-sum = refl;
      outputs_over = refl;
      latch_reset = refl;
      latch_three = refl;
      latch_next = refl;
      latch_missing = refl;
      seventh = refl;
      unended = refl;
      output-missing = refl;
      output_limit = refl;
      second-missing = refl;
      second_limit = refl;
      output-first = refl;
      output-bytes = refl;
      gate-both = refl;
      gate-alike = refl;
      gate-false = refl;
      two_bytes = refl;
      first-missing = refl;
      second-run-missing = refl;
      first-zero = refl;
      first_above = refl;
      second_above = refl;
      first_decides = refl;
      zero_longer = refl;
      two_longer = refl;
      three_bytes = refl;
      four_bytes = refl;
      unfinished = refl;
      second_unfinished = refl;
      second_longer = refl;
      second_three = refl;
      extra_end = refl;
      extra-zero = refl;
      extra-byte = refl;
      extra-line = refl;
    }
