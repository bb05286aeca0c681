-- `graph::empty` meets its contract. Assumes nothing.
use mathlib.Core.Path.{refl}
use Rattle.assertion.specs.Graph.{bits_of, signal_bits, constant_bits}
use Rattle.graph.specs.Reading.{mode_lines}
use Rattle.graph.specs.Held.{held_as, symbols_of, name_places, arcs_of, filled}
use Rattle.graph.proofs.empty.Goals as goal

pub returns : goal.returns
unfolding bits_of signal_bits constant_bits mode_lines held_as symbols_of name_places arcs_of filled
returns c = λ text. refl
