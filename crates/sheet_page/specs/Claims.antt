-- What the contract of sheet_page claims of the page that is printed, by the bytes of the input and the page, and by what
-- the monitor program prints, but not by the definitions that make the page. Assumes nothing.
use Rattle.std.specs.Prelude.{Result, Ok, Err, ◌≡◌, false, List, [], ◌∷◌, ◌++◌, ℕ, suc, ◌+◌, ◌<◌, ◌≤◌, length, drop}
use Prim.Native.Char.{code}
use Prim.Native.String as string
use Prim.Native.String.{String}
use Rattle.text.specs.declared.Refusal.{Refusal}
use Rattle.assertion.specs.Graph.{Graph, signal_bits}
use Rattle.assertion.specs.Paths.{verdicts}
use Rattle.graph.specs.declared.Cause.{Cause}
use Rattle.graph.specs.Reading as reading
use Rattle.graph.specs.Reading.{refused, accepted, graph_of}
use Rattle.builder.specs.Build.{variables_of}
use Rattle.trace.specs.Claims.{Cycles, lines_of, FirstWrong}
use Rattle.page_text.specs.Claims.{Parts}
use Rattle.page_text.specs.Lines.{refused_line}
use Rattle.page.specs.declared.Cause as page
use Rattle.page.specs.declared.Cause.TheVariants.{ShortBuffer}
use Rattle.page.specs.Pages.{refusal_of, monitor_text}
use Rattle.session_text.specs.Claims.{GraphName, Decimal, Rejected, InColumns}

-- the bytes of an ASCII text
abbrev ascii : String → List ℕ
ascii string.[] = []
ascii (string.◌∷◌ c s) = code c ∷ ascii s

-- ---- a text is printed
-- it stands first in the buffer, of which the rest is as it was, and its length is answered; or the buffer is too short
-- for it, is as it was, and 12 is answered
pub data Printed (text before after : List ℕ) (answer : Result ℕ page.Cause) : Type 0 where
  whole : answer ≡ Ok (length text) → after ≡ text ++ drop (length text) before → length text ≤ length before → Printed text before after answer
  short : answer ≡ Err ShortBuffer → refusal_of ShortBuffer ≡ record { number = 12; line = 0 } → after ≡ before → length before < length text
      → Printed text before after answer

-- ---- which text
-- a page that has a graph name and verdict bytes in its columns
pub record PrintsSheet (name judged : List ℕ) (Prints : List ℕ → Type 0) : Type 0 where
  pub rejected : List ℕ
  pub page : List ℕ
  pub are : Rejected judged rejected
  pub in_columns : InColumns name judged rejected page
  pub printed : Prints page

-- an input that may be judged: a graph name, LF, and the monitor's input
pub record Named (input name rest : List ℕ) : Type 0 where
  pub short : length input ≤ 65536
  pub parts : input ≡ name ++ (code "\n" ∷ rest)
  pub named : GraphName name

-- the line of a refusal: `refused`, a number and a line in base ten, parted by tabs, and LF
pub record RefusedText (number line : ℕ) (text : List ℕ) : Type 0 where
  pub first : List ℕ
  pub second : List ℕ
  pub number-told : Decimal number first
  pub line-told : Decimal line second
  pub bytes : text ≡ ascii "refused\t" ++ (first ++ (ascii "\t" ++ (second ++ ascii "\n")))

pub record PrintsRefusal (number line : ℕ) (Prints : List ℕ → Type 0) : Type 0 where
  pub text : List ℕ
  pub told : RefusedText number line text
  pub printed : Prints text

-- WHAT IS PRINTED of an input: one of these, whatever the input is
pub data SheetMeans (input : List ℕ) (Prints : List ℕ → Type 0) : Type 0 where
  -- 1, as for any program
  too_long : Prints (ascii "refused\t1\t0\n") → 65536 < length input → SheetMeans input Prints
  -- 22 where the first line has no LF or is no graph name
  no_name : Prints (ascii "refused\t22\t0\n") → length input ≤ 65536 → ((name rest : List ℕ) → Named input name rest → ⊥) → SheetMeans input Prints
  -- then as the monitor program refuses the rest: for its graph text,
  no_graph : (name rest graph trace : List ℕ) (c : Cause) → PrintsRefusal (reading.refusal_of c).number (reading.refusal_of c).line Prints
      → Named input name rest → Parts rest graph trace → graph_of graph ≡ refused c
      → SheetMeans input Prints
  -- for the size of its circuit,
  too_large : (name rest graph trace : List ℕ) (g : Graph) → Prints (ascii "refused\t11\t0\n")
      → Named input name rest → Parts rest graph trace → graph_of graph ≡ accepted g → 4095 < variables_of false g
      → SheetMeans input Prints
  -- for the first wrong line of its trace, counted from 1 after `T`
  wrong-line : (name rest graph trace : List ℕ) (g : Graph) (k : ℕ) → PrintsRefusal 15 (suc k) Prints
      → Named input name rest → Parts rest graph trace → graph_of graph ≡ accepted g → variables_of false g ≤ 4095
      → FirstWrong (1 + signal_bits g) k trace
      → SheetMeans input Prints
  -- every other input has its sheet, of the cycles that some setting and some rejecting path condemn
  sheet : (name rest graph trace : List ℕ) (g : Graph) (cycles : List (List ℕ)) → PrintsSheet name (verdicts g [] cycles) Prints
      → Named input name rest → Parts rest graph trace → graph_of graph ≡ accepted g → variables_of false g ≤ 4095
      → trace ≡ lines_of cycles → Cycles (1 + signal_bits g) cycles
      → SheetMeans input Prints

-- what the monitor program refuses of the rest is refused alike, its lines counted from there
abbrev pub AsMonitor : List ℕ → (List ℕ → Type 0) → Type 0
AsMonitor input Prints = (name rest : List ℕ) → Named input name rest → (r : Refusal) → monitor_text rest ≡ refused_line r → Prints (refused_line r)
