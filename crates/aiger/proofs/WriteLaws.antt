-- What a write answers and leaves in each of its three cases, whichever file it writes, and when it answers bytes.
-- Assumes nothing.
use Rattle.std.specs.Prelude.{Ok, Err}
use mathlib.Core.Path.{◌≡◌, refl, ap}
use mathlib.Core.Bool.{Bool, true, false, cond, not}
use mathlib.Core.List.{List, ◌++◌}
use Prim.Native.Nat.{ℕ, ◌<◌, ◌≤◌}
use native.Mathlib.Omega.{arith}
use borrow.Author.Tests.{lt-leb, le-leb, leb-true}
use lib.Dec.{leb}
use lib.ListN.{length, drop}
use Rattle.netlist.specs.Valid.{is_netlist}
use Rattle.aiger.specs.Write.{WriteEnd, write_end, write_as}
use Rattle.aiger.specs.declared.Cause.{Cause}
use Rattle.aiger.specs.declared.Cause.TheVariants.{ShortBuffer, NotNetlist}

module _ (file net text : List ℕ) where
  pub no_netlist : is_netlist net ≡ false → write_as file net text ≡ write_end (Err NotNetlist) text
  unfolding write_as
  no_netlist h = rw h

  pub too_short : is_netlist net ≡ true → length text < length file → write_as file net text ≡ write_end (Err ShortBuffer) text
  unfolding write_as
  too_short h g = rw (h, lt-leb (length file) (length text) g)

  pub written : is_netlist net ≡ true → length file ≤ length text → write_as file net text ≡ write_end (Ok (length file)) (file ++ drop (length file) text)
  unfolding write_as
  written h g = rw (h, le-leb (length file) (length text) g)

  module _ (n : ℕ) (after : List ℕ) where
    refused-bytes : {c : Cause} → write_end (Err c) text ≡ write_end (Ok n) after → ⊥
    refused-bytes {c} h =
        let a : Err c ≡ Ok n = ap (λ (e : WriteEnd). e.answer) h in
        let z : ◌≡◌ {A = ℕ} 0 1 = cc in
        omega arith

    pub written-only : write_as file net text ≡ write_end (Ok n) after → (is_netlist net ≡ true) × (length file ≤ length text)
    unfolding write_as
    written-only h = go (is_netlist net) refl (leb (length file) (length text)) refl h
      where
        go : (t : Bool) → is_netlist net ≡ t → (u : Bool) → leb (length file) (length text) ≡ u
            → cond (not t) (write_end (Err NotNetlist) text) (cond (not u) (write_end (Err ShortBuffer) text) (write_end (Ok (length file)) (file ++ drop (length file) text))) ≡ write_end (Ok n) after
            → (is_netlist net ≡ true) × (length file ≤ length text)
        go true e true f g = (e, leb-true (length file) (length text) f)
        go true e false f g = absurd (refused-bytes g)
        go false e u f g = absurd (refused-bytes g)
