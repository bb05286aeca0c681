-- `graph::names::look_up` meets its contract. Assumes nothing.
use mathlib.Core.Path.{◌≡◌}
use mathlib.Core.Bool.{true, false}
use Prim.Native.Nat.{ℕ}
use borrow.Author.Rules.{rules}
use borrow.Author.Tests.{tests}
use Rattle.std.proofs.lemmas.Iterator.{YieldsList-from_slice, IsFirst-from_position}
use Rattle.graph.specs.Pieces.{piece_at, same}
use Rattle.graph.proofs.NameLaws.{position_is}
use Rattle.graph.proofs.names.look_up.Goals as goal

pub returns : goal.returns
returns c =
    let a = c.args in
    position_is a.text.now a.name.now a.starts.now c.position.result
    (IsFirst-from_position _ _ _ (λ (x : ℕ). same a.name.now (piece_at 10 a.text.now x) ≡ true) (λ (x : ℕ). same a.name.now (piece_at 10 a.text.now x) ≡ false) c.position.ensures.ran (YieldsList-from_slice a.starts.now cc) (λ x q k. search (rules, tests)) (λ x q k. search (rules, tests)))
