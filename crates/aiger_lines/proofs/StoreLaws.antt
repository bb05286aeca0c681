-- What is stored of the literals of a line. Assumes nothing.
use mathlib.Core.Path.{◌≡◌, refl}
use mathlib.Core.List.{List, [], ◌∷◌}
use Prim.Native.Nat.{ℕ, ◌≤◌}
use native.Mathlib.Omega.{arith}
use lib.ListN.{length, set}
use lib.Seq.{sets}
use Rattle.netlist.specs.declared.literals.Literal.{Literal}
use Rattle.aiger_lines.specs.declared.Literals.{Literals}
use Rattle.aiger_lines.specs.declared.Literals.TheVariants.{None, One, Two}
use Rattle.aiger_lines.specs.Private.Steps.{numbers_in}

abbrev pub Stored : Literals → List ℕ → List ℕ → ℕ → ℕ → Type 0
Stored g net after at r = (after ≡ sets net at (numbers_in g)) × (r ≡ length (numbers_in g)) × (r ≤ 2)

module _ (g : Literals) (net : List ℕ) (at : ℕ) where
  pub stores_none : g ≡ None → Stored g net net at 0
  unfolding numbers_in
  stores_none h = rw h (refl, refl, omega arith)

  pub stores_one : {a : Literal} {after : List ℕ} → g ≡ One a → after ≡ set net at a.0 → Stored g net after at 1
  unfolding numbers_in
  stores_one h e = rw h (e, refl, omega arith)

  pub stores_two : {a b : Literal} {after : List ℕ} → g ≡ Two a b → after ≡ sets net at (a.0 ∷ b.0 ∷ []) → Stored g net after at 2
  unfolding numbers_in
  stores_two h e = rw h (e, refl, omega arith)
