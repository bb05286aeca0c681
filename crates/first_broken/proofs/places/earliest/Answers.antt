-- `first_broken::places::earliest` meets its contract: what is found from here on is what is found in all. Assumes nothing.
use mathlib.Core.Path.{◌≡◌, sym, ap, ◌∙◌}
use Prim.Native.Nat.{ℕ, ◌-◌, max}
use native.Mathlib.Omega.{arith}
use lib.ListN.{length}
use Rattle.first_broken.specs.Places.{broken_from, broken_of}
use Rattle.first_broken.proofs.PlaceLaws.{turn_end_lem, turn_flywheel, turn_handle, turn_next}
use Rattle.first_broken.proofs.places.earliest.Goals as goal

pub loop-n-init : goal.loop-n-init
unfolding broken_of
loop-n-init c =
    let x = c.args in
    let all : max (length x.flywheel.now) (length x.handle.now) - 0 ≡ max (length x.flywheel.now) (length x.handle.now) = omega arith in
    ap (λ (k : ℕ). broken_from k 0 x.flywheel.now x.handle.now) all

pub returns-then-is_rejected : goal.returns-then-is_rejected
returns-then-is_rejected c =
    let x = c.args in
    sym (turn_flywheel x.flywheel.now x.handle.now _ c.loop-n.n (omega (arith, c.max-n-end.ensures, c.loop-n-test.true)) (sym c.is_rejected.ensures ∙ c.if-is_rejected.true)) ∙ c.loop-n.invariant

pub returns-then-is_rejected-2 : goal.returns-then-is_rejected-2
returns-then-is_rejected-2 c =
    let x = c.args in
    sym (turn_handle x.flywheel.now x.handle.now _ c.loop-n.n (omega (arith, c.max-n-end.ensures, c.loop-n-test.true))
    (sym c.is_rejected.ensures ∙ c.if-is_rejected.false) (sym c.is_rejected-in-loop-n.ensures ∙ c.if-is_rejected-2.true)) ∙ c.loop-n.invariant

pub loop-n-preserved : goal.loop-n-preserved
loop-n-preserved c =
    let x = c.args in
    sym (turn_next x.flywheel.now x.handle.now _ c.loop-n.n (omega (arith, c.max-n-end.ensures, c.loop-n-test.true))
    (sym c.is_rejected.ensures ∙ c.if-is_rejected.false) (sym c.is_rejected-in-loop-n.ensures ∙ c.if-is_rejected-2.false)) ∙ c.loop-n.invariant

pub returns : goal.returns
returns c =
    let x = c.args in
    sym (turn_end_lem x.flywheel.now x.handle.now _ c.loop-n.n (omega (arith, c.max-n-end.ensures, c.loop-n-test.false))) ∙ c.loop-n.invariant
