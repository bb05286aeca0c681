-- What the page of a graph's file is, in each case. Assumes nothing.
use mathlib.Core.Bool.{false}
use mathlib.Core.List.{List}
use Prim.Native.Nat.{ℕ}
use borrow.Author.Tests.{le-leb, lt-leb}
use Rattle.assertion.specs.Graph.{Bytes}
use Rattle.graph.specs.Reading.{graph_of}
use Rattle.circuit.specs.Numbers.{numbers_of}
use Rattle.builder.specs.Build as build
use Rattle.builder.specs.Build.{variables_of}
use Rattle.page.specs.Pages.{graph_page, FilePage}

pub file-page : (file : List ℕ → Bytes) (input : Bytes) → FilePage file input (graph_page (graph_of input) (λ g. file (numbers_of g)))
unfolding graph_page build.refusal_of
file-page file input =
    record {
      printed = λ g e l. rw (e, le-leb (variables_of false g) 4095 l);
      large = λ g e l. rw (e, lt-leb (variables_of false g) 4095 l);
      refusal = λ cause e. rw e;
    }
