-- `netlist::valid::free` meets its contract. Assumes nothing.
use mathlib.Core.Path.{◌≡◌, refl, ◌∙◌}
use mathlib.Core.Bool.{cond, not}
use mir.Val.{bool_byte}
use Prim.Native.Nat.{ℕ, ◌≤◌}
use native.Mathlib.Omega.{arith}
use native.Mathlib.Decide.{dec_lt}
use borrow.Author.Tests.{le-leb, lt-leb, lt-ltb, le-ltb}
use lib.Dec.{leb, ltb}
use Rattle.netlist.specs.Valid.{is_free}
use Rattle.netlist.proofs.valid.free.Goals as goal

above_one : (x : ℕ) → bool_byte (ltb 1 x) ≡ cond (not (leb x 1)) 1 0
above_one x = elim (dec_lt 1 x) [ yes l ↦ rw (lt-ltb 1 x l, lt-leb x 1 l) refl | no l ↦ let m : x ≤ 1 = omega arith in rw (le-ltb 1 x m, le-leb x 1 m) refl ]

pub returns : goal.returns
unfolding is_free
returns c = c.from.ensures ∙ above_one _
