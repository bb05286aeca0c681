-- `store_gate` meets its contract. Assumes nothing.
use mathlib.Core.Path.{◌≡◌, ap, ap₂, ◌∙◌}
use Prim.Native.Nat.{ℕ, ◌+◌, ◌<◌, ◌≤◌}
use native.Mathlib.Omega.{arith}
use Rattle.std.specs.Prelude.{List}
use lib.ListN.{length, get_or}
use mathlib.Core.Bool.{true}
use lib.Seq.{sets}
use Rattle.netlist.specs.Layout.{maximum}
use Rattle.netlist.specs.Literals.{variable_of}
use Rattle.gate_order.specs.Loose.{is_loose, left_of, right_of}
use Rattle.gate_order.specs.Renumbered.{larger_first}
use Rattle.aiger_order.specs.Private.Steps.{Numbered, literal_in, gate_in}
use Rattle.aiger_order.proofs.LimitLaws.{facts, operands-within, place_is}
use Rattle.aiger_order.proofs.stores.store_gate.Goals as goal

known : (loose news : List ℕ) → is_loose loose ≡ true → Numbered loose news → (lit : ℕ) → variable_of lit ≤ maximum loose
    → (variable_of lit < length news) × (get_or news (variable_of lit) 0 < 32768)
known loose news is n lit h =
    let o = facts loose is in
    (omega (arith, n.long, o.small), n.all _ h)

pub new_literal-a-requires : goal.new_literal-a-requires
new_literal-a-requires c =
    rw ((place_is c.args.loose.now c.args.gates c.requires.loose_value.1 c.args.old.0)) (known c.args.loose.now c.args.news.now c.requires.loose_value.0 c.requires.loose_value.2 (left_of c.args.loose.now c.args.old.0) ((operands-within c.args.loose.now c.requires.loose_value.0 c.args.old.0 (omega arith) (omega arith))).0)

pub new_literal-b-requires : goal.new_literal-b-requires
new_literal-b-requires c =
    rw ((place_is c.args.loose.now c.args.gates c.requires.loose_value.1 c.args.old.0)) (known c.args.loose.now c.args.news.now c.requires.loose_value.0 c.requires.loose_value.2 (right_of c.args.loose.now c.args.old.0) ((operands-within c.args.loose.now c.requires.loose_value.0 c.args.old.0 (omega arith) (omega arith))).1)

pub returns : goal.returns
unfolding gate_in
returns c =
    let l : c.new_literal-a.result.0 ≡ literal_in c.args.news.now (left_of c.args.loose.now c.args.old.0)
    = c.new_literal-a.ensures ∙ ap (λ (n : ℕ). literal_in c.args.news.now (get_or c.args.loose.now n 0)) ((place_is c.args.loose.now c.args.gates c.requires.loose_value.1 c.args.old.0)) in
    let r : c.new_literal-b.result.0 ≡ literal_in c.args.news.now (right_of c.args.loose.now c.args.old.0)
    = c.new_literal-b.ensures ∙ ap (λ (n : ℕ). literal_in c.args.news.now (get_or c.args.loose.now (n + 1) 0)) ((place_is c.args.loose.now c.args.gates c.requires.loose_value.1 c.args.old.0)) in
    c.store_operands.ensures ∙ ap₂ (λ (x y : ℕ). sets c.args.net.now c.args.at (larger_first x y)) l r
