-- `is_ready` meets its contract. Assumes nothing.
use mathlib.Core.Path.{sym, ap, ◌∙◌}
use Prim.Native.Nat.{ℕ, ◌+◌, ◌*◌, ◌-◌, ◌<◌}
use native.Mathlib.Omega.{arith}
use lib.ListN.{length, get_or}
use borrow.Author.Tests.{not-true, not-false}
use Rattle.netlist.specs.Literals.{variable_of}
use Rattle.aiger_order.specs.Private.Steps.{placed_in}
use Rattle.aiger_order.proofs.LimitLaws.{operands-small, place_is}
use Rattle.aiger_order.proofs.NewsLaws.{placed_unready, left_unready, right-ready}
use Rattle.aiger_order.proofs.orders.is_ready.Goals as goal

pub returns-then-is_placed : goal.returns-then-is_placed
returns-then-is_placed c = sym (placed_unready _ _ _ (sym c.is_placed.ensures ∙ c.if-is_placed.true))

pub has_place-requires : goal.has_place-requires
has_place-requires c = let left_small' : variable_of (get_or c.args.loose.now (c.args.gates.at + 2 * (c.args.own.0 - c.args.gates.first.0)) 0) < length c.args.news.now = rw ((place_is c.args.loose.now c.args.gates c.requires.loose_value.1 c.args.own.0), c.requires.loose_value.2) ((operands-small c.args.loose.now c.requires.loose_value.0 c.args.own.0 (omega arith) (omega arith))).0 in left_small'

pub returns-then-not-has_place : goal.returns-then-not-has_place
returns-then-not-has_place c = sym (left_unready _ _ _ ((sym c.is_placed.ensures ∙ c.if-is_placed.false)) ((let e = ap (λ (n : ℕ). placed_in c.args.news.now (variable_of (get_or c.args.loose.now n 0))) ((place_is c.args.loose.now c.args.gates c.requires.loose_value.1 c.args.own.0)) in
    sym (c.has_place.ensures ∙ e)) ∙ not-true _ c.if-not-has_place.true-raw))

pub has_place-requires-2 : goal.has_place-requires-2
has_place-requires-2 c = let right_small' : variable_of (get_or c.args.loose.now (c.args.gates.at + 2 * (c.args.own.0 - c.args.gates.first.0) + 1) 0) < length c.args.news.now = rw ((place_is c.args.loose.now c.args.gates c.requires.loose_value.1 c.args.own.0), c.requires.loose_value.2) ((operands-small c.args.loose.now c.requires.loose_value.0 c.args.own.0 (omega arith) (omega arith))).1 in right_small'

pub returns : goal.returns
returns c =
    let e = ap (λ (n : ℕ). placed_in c.args.news.now (variable_of (get_or c.args.loose.now (n + 1) 0))) ((place_is c.args.loose.now c.args.gates c.requires.loose_value.1 c.args.own.0)) in
    c.has_place-2.ensures ∙ e ∙ sym (right-ready _ _ _ ((sym c.is_placed.ensures ∙ c.if-is_placed.false)) ((let e = ap (λ (n : ℕ). placed_in c.args.news.now (variable_of (get_or c.args.loose.now n 0))) ((place_is c.args.loose.now c.args.gates c.requires.loose_value.1 c.args.own.0)) in
    sym (c.has_place.ensures ∙ e)) ∙ not-false _ c.if-not-has_place.false-raw))
