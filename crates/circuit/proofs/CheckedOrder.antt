-- The gates of checked keep the order too, and every output is one of the monitor's literals. Assumes nothing.
use Prim.Native.Nat.{ℕ, suc, ◌+◌, ◌<◌, ◌≤◌}
use mathlib.Core.Bool.{Bool, true, false, cond}
use mathlib.Core.List.{List, [], ◌∷◌}
use native.Mathlib.Omega.{arith}
use lib.ListN.{length, length-append}
use Rattle.assertion.specs.Graph.{Edge, Graph, is_terminal}
use Rattle.circuit.specs.Gates.{inv, Piece}
use Rattle.circuit.specs.Build.{Bits, Two, or_all, first_gate, judged, gates_of}
use Rattle.circuit.specs.Checked.{terminal_twos, alives, checked_from, checked_piece, gates_with, outputs_with}
use Rattle.circuit.proofs.Fits.{Fits}
use Rattle.circuit.proofs.Order.{Ordered, AllBefore, Adds, Makes, TwosBefore, none, more, join, then, at, of_variable, inv-before, twos_more, before_more, or_makes, room, gates-ordered, outs-before, output-before}

twos_cond : (b : Bool) (n : ℕ) (m : Two) (ms : List Two) → TwosBefore n (m ∷ []) → TwosBefore n ms → TwosBefore n (cond b (m ∷ ms) ms)
twos_cond true n m ms h t = (h.0, h.1, t)
twos_cond false n m ms h t = t

terminal-before : (g : Graph) (n : ℕ) (es : List Edge) (ms : List Two) → TwosBefore n ms → TwosBefore n (terminal_twos g es ms)
terminal-before g n [] ms t = tt
terminal-before g n (e ∷ es) [] t = tt
terminal-before g n (e ∷ es) (m ∷ ms) t = twos_cond (is_terminal g e) n m (terminal_twos g es ms) (t.0, t.1, tt) (terminal-before g n es ms t.2)

alives-add : (ms : List Two) (n : ℕ) → TwosBefore n ms
    → Adds n (n + length (alives n ms).gates) (alives n ms).gates × AllBefore (n + length (alives n ms).gates) (alives n ms).outs
alives-add [] n t = (at (none n), tt)
alives-add (m ∷ ms) n t =
    let r = alives-add ms (suc n) (twos_more n (suc n) ms (omega arith) t.2) in
    let k : ℕ = n + length (alives n (m ∷ ms)).gates in (
      at (then (inv m.condemned) (inv m.happy) (inv-before m.condemned n t.1) (inv-before m.happy n t.0) r.0),
      (of_variable n k true (omega arith), before_more _ k (alives (suc n) ms).outs (omega arith) r.1),
    )

checked_from_lem : (ms : List Two) (n : ℕ) → 0 < n → TwosBefore n ms → Makes n (checked_from n ms)
checked_from_lem ms n h t =
    let a : Bits = alives n ms in
    let x = alives-add ms n t in
    let m : ℕ = n + length a.gates in
    let j : Piece = or_all m a.outs in
    let y : Makes m j = or_makes a.outs m (omega arith) x.1 in
    record { adds = at (join a.gates j.gates x.0 y.adds); before = omega (arith, y.before, length-append a.gates j.gates) }

module _ (g : Graph) (fits : Fits g) where
  checked_makes : Makes (first_gate g + length (gates_of g)) (checked_piece g)
  unfolding checked_piece
  checked_makes =
      checked_from_lem (terminal_twos g g.edges (judged g).outs) (first_gate g + length (gates_of g)) (omega (arith, room g fits))
      (terminal-before g (first_gate g + length (gates_of g)) g.edges (judged g).outs (outs-before g fits))

  fewer : (checked : Bool) → length (gates_of g) ≤ length (gates_with checked g)
  fewer true = omega (arith, length-append (gates_of g) (checked_piece g).gates)
  fewer false = omega arith

  pub with_ordered : (checked : Bool) → Ordered (first_gate g) (gates_with checked g)
  with_ordered true = more (first_gate g) (gates_of g) (checked_piece g).gates (gates-ordered g fits) checked_makes.adds.ordered
  with_ordered false = gates-ordered g fits

  pub with_outs : (checked : Bool) → TwosBefore (first_gate g + length (gates_with checked g)) (judged g).outs
  with_outs checked = twos_more (first_gate g + length (gates_of g)) (first_gate g + length (gates_with checked g)) (judged g).outs (omega (arith, fewer checked)) (outs-before g fits)

  pub with_outputs : (checked : Bool) → AllBefore (first_gate g + length (gates_with checked g)) (outputs_with checked g)
  with_outputs true = (omega (arith, output-before g fits, fewer true), (omega (arith, checked_makes.before, length-append (gates_of g) (checked_piece g).gates), tt))
  with_outputs false = (output-before g fits, tt)
