-- The file of a netlist and the page of a graph text in either format of AIGER. Assumes nothing.
use Rattle.std.specs.Prelude.{◌≡◌, ◌≤◌, Result, Bool, true, false, List, ℕ, length}
use Rattle.std.specs.Fn.{Shared}
use Rattle.std.specs.Borrow.{Bor, MutBor}
use Rattle.assertion.specs.Graph.{Bytes}
use Rattle.graph.specs.Reading.{graph_of}
use Rattle.circuit.specs.Numbers.{numbers_of}
use Rattle.aiger.specs.declared.Cause as aiger
use Rattle.aiger.specs.Format.{file_of}
use Rattle.aiger.specs.Write.{write_end, write_as}
use Rattle.packed.specs.Format.{packed_of}
use Rattle.page.specs.declared.Cause.{Cause}
use Rattle.page.specs.Pages.{graph_page, page_end, page_of}

-- packed, or as text
unfoldable pub file_in : Bool → List ℕ → List ℕ
file_in true net = packed_of net
file_in false net = file_of net

-- what packed_text and aiger_text are
unfoldable pub file_text : Bool → Bytes → Bytes
file_text packed input = graph_page (graph_of input) (λ g. file_in packed (numbers_of g))

-- a closure that writes the file of a netlist, in this format
abbrev pub WritesFile : {F : Type 0} → Shared F (Bor (List ℕ) × (MutBor (List ℕ) × Unit {0})) (Result ℕ aiger.Cause × (MutBor (List ℕ) × Unit {0})) → F → Bool → Type 0
WritesFile g write packed =
    (net : Bor (List ℕ)) (shown left : MutBor (List ℕ)) (answer : Result ℕ aiger.Cause) → g.post write (net, (shown, tt)) (answer, (left, tt))
    → write_end answer left.now ≡ write_as (file_in packed net.now) net.now shown.now

-- the page of a graph text in this format, which is no longer than any page of the kind
pub record GivesFile (packed : Bool) (input before after : List ℕ) (answer : Result ℕ Cause) : Type 0 where
  pub out_after : page_end answer after ≡ page_of (file_text packed input) before
  pub fits : length (file_text packed input) ≤ 65536
