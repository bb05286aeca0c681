-- Laws of the loop that looks for the next machine. Assumes nothing.
use Rattle.std.specs.Prelude.{Some, None}
use mathlib.Core.Path.{◌≡◌, refl, ap, ◌∙◌}
use mathlib.Core.Bool.{Bool, true, false, cond}
use mathlib.Core.List.{List}
use Prim.Native.Nat.{ℕ, suc, ◌+◌, ◌-◌, ◌%◌, ◌<◌, ◌≤◌}
use native.Mathlib.Omega.{arith}
use borrow.Author.Tests.{lt-ltb, le-ltb, ne_eqb}
use Rattle.bench_turns.specs.Numbers.{waiting_of, last_of, waits}
use Rattle.bench_turns.specs.Refusals.{next_from, next_machine, is_idle}

-- the next of those from `from` on and before `end`
unfoldable pub next_up_to : ℕ → ℕ → List ℕ → ℕ
next_up_to from end b = next_from from (end - from) b

pub round_first : (b : List ℕ) → next_up_to (last_of b + 1) (last_of b + 1 + 8) b ≡ next_machine b
unfolding next_up_to next_machine
round_first b = ap (λ (n : ℕ). next_from (last_of b + 1) n b) (omega arith)

-- what is answered where a machine is found, and where none is
pub round-some : (b : List ℕ) (k : ℕ) → k < 8 → k ≡ next_machine b → Some k ≡ cond (is_idle b) None (Some (next_machine b))
unfolding is_idle
round-some b k l e = rw (← e, ne_eqb k 8 (λ z. omega arith))

pub round-idle : (b : List ℕ) → 8 ≡ next_machine b → None ≡ cond (is_idle b) None (Some (next_machine b))
unfolding is_idle
round-idle b e = rw (← e)

-- and what an answer says
pub told-some : (b : List ℕ) (k : ℕ) → cond (is_idle b) None (Some (next_machine b)) ≡ Some k → (k ≡ next_machine b) × (is_idle b ≡ false)
told-some b k e = go (is_idle b) refl e
  where
    go : (t : Bool) → is_idle b ≡ t → cond t None (Some (next_machine b)) ≡ Some k → (k ≡ next_machine b) × (is_idle b ≡ false)
    go true i f = let z : ◌≡◌ {A = ℕ} 0 1 = cc in absurd (omega arith)
    go false i f = (cc, i)

pub told-none : (b : List ℕ) → cond (is_idle b) None (Some (next_machine b)) ≡ None → is_idle b ≡ true
told-none b e = go (is_idle b) refl e
  where
    go : (t : Bool) → is_idle b ≡ t → cond t None (Some (next_machine b)) ≡ None → t ≡ true
    go true i f = refl
    go false i f = let z : ◌≡◌ {A = ℕ} 0 1 = cc in absurd (omega arith)

module _ (from end : ℕ) (b : List ℕ) where
  pub round_none : end ≤ from → next_up_to from end b ≡ 8
  unfolding next_up_to next_from
  round_none h = let e : end - from ≡ 0 = omega arith in rw e

  more : from < end → next_up_to from end b ≡ cond (waits (from % 8) b) (from % 8) (next_up_to (from + 1) end b)
  unfolding next_up_to next_from
  more h = let e : end - from ≡ suc (end - (from + 1)) = omega arith in ap (λ (n : ℕ). next_from from n b) e

  pub round_here : from < end → 0 < waiting_of (from % 8) b → next_up_to from end b ≡ from % 8
  unfolding waits
  round_here h w = more h ∙ ap (λ (z : Bool). cond z (from % 8) (next_up_to (from + 1) end b)) (lt-ltb 0 (waiting_of (from % 8) b) w)

  pub round_later : from < end → waiting_of (from % 8) b ≤ 0 → next_up_to from end b ≡ next_up_to (from + 1) end b
  unfolding waits
  round_later h w = more h ∙ ap (λ (z : Bool). cond z (from % 8) (next_up_to (from + 1) end b)) (le-ltb 0 (waiting_of (from % 8) b) w)
