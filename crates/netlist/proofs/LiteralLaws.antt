-- What a literal is of a variable, and which variables the literals below a bound are of. Assumes nothing.
use mathlib.Core.Path.{◌≡◌, ap, ◌∙◌}
use mathlib.Core.Bool.{Bool, true, false}
use Prim.Native.Nat.{ℕ, ◌+◌, ◌*◌, ◌%◌, ◌<◌, ◌≤◌}
use native.Mathlib.Nat.{add-zero, mod-eq_of_lt}
use native.Mathlib.Omega.{arith}
use Rattle.netlist.specs.Literals.{literal_of, variable_of, is_inverted, wrapped}

-- the variables that have literals of 16 bits
pub unwrapped : (v : ℕ) → v < 32768 → wrapped v ≡ v
unfolding wrapped
unwrapped v h = mod-eq_of_lt h

-- what `Variable::literal` answers of such a variable
pub made : (v : ℕ) (s : Bool) {l : ℕ} → v < 32768 → l ≡ literal_of (wrapped v) s → l ≡ literal_of v s
made v s h e = e ∙ ap (λ (w : ℕ). literal_of w s) (unwrapped v h)

module _ (v : ℕ) where
  pub literal-plain : literal_of v false ≡ 2 * v
  unfolding literal_of
  literal-plain = add-zero (2 * v)

  pub literal-inverted : literal_of v true ≡ 2 * v + 1
  unfolding literal_of
  literal-inverted = omega arith

  pub variable-literal : (s : Bool) → variable_of (literal_of v s) ≡ v
  unfolding variable_of
  variable-literal false = let e = literal-plain in omega arith
  variable-literal true = let e = literal-inverted in omega arith

  pub inverted-literal : (s : Bool) → is_inverted (literal_of v s) ≡ s
  unfolding literal_of is_inverted
  inverted-literal false = let e : (2 * v + 0) % 2 ≡ 0 = omega arith in rw e
  inverted-literal true = let e : (2 * v + 1) % 2 ≡ 1 = omega arith in rw e

  -- a literal below a variable's own is of a variable below it
  pub variable-below : (lit : ℕ) → lit < literal_of v false → variable_of lit < v
  unfolding variable_of
  variable-below lit l = let e = literal-plain in omega arith

  -- a literal up to a variable's largest is of a variable up to it
  pub variable-within : (lit : ℕ) → lit ≤ literal_of v true → variable_of lit ≤ v
  unfolding variable_of
  variable-within lit l = let e = literal-inverted in omega arith
