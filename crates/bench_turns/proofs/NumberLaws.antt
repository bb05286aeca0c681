-- Laws of the bench's numbers: what a new cycle and a turn write, and what they leave. Assumes nothing.
use mathlib.Core.Path.{◌≡◌, ◌∙◌}
use mathlib.Core.List.{List}
use Prim.Native.Nat.{ℕ, ◌+◌, ◌*◌, ◌<◌, ◌≤◌}
use native.Mathlib.Omega.{arith}
use lib.ListN.{length, get_or, set, length-set}
use lib.Seq.{get_or-set_same, get_or-set_other}
use Rattle.calls.specs.declared.tally.Tally.{Tally}
use Rattle.bench_turns.specs.Numbers.{waiting_of, tally_of, last_of, with_waiting, with_tally, with_last}

pub same_tally : (t u : Tally) → t.cycles ≡ u.cycles → t.rejected ≡ u.rejected → t.checked ≡ u.checked → t ≡ u
same_tally t u a b c = by t.cycles t.rejected t.checked u.cycles u.rejected u.checked a b c
  where
    by : (x y z x' y' z' : ℕ) → x ≡ x' → y ≡ y' → z ≡ z' → ◌≡◌ {A = Tally} (record { cycles = x; rejected = y; checked = z }) (record { cycles = x'; rejected = y'; checked = z' })
    by x y z x' y' z' d e f = rw (d, e, f)

module _ (k n : ℕ) (t : Tally) (b : List ℕ) (h : k < 8) (long : 33 ≤ length b) where
  abbrev one : List ℕ
  one = with_waiting k n b

  abbrev two : List ℕ
  two = set one (4 * k + 1) t.cycles

  abbrev three : List ℕ
  three = set two (4 * k + 2) t.rejected

  abbrev four : List ℕ
  four = set three (4 * k + 3) t.checked

  abbrev pub turned_numbers : List ℕ
  turned_numbers = with_last k (with_tally k t (with_waiting k n b))

  length_two : length two ≡ length b
  length_two = length-set one (4 * k + 1) t.cycles ∙ length-set b (4 * k) n

  length_three : length three ≡ length b
  length_three = length-set two (4 * k + 2) t.rejected ∙ length_two

  length_four : length four ≡ length b
  length_four = length-set three (4 * k + 3) t.checked ∙ length_three

  pub turned_length : length turned_numbers ≡ length b
  turned_length = length-set four 32 k ∙ length_four

  not_last : (i : ℕ) → (i ≡ 32 → ⊥) → get_or turned_numbers i 0 ≡ get_or four i 0
  not_last i ne = get_or-set_other four 32 i k 0 ne

  not-checked : (i : ℕ) → (i ≡ 32 → ⊥) → (i ≡ 4 * k + 3 → ⊥) → get_or turned_numbers i 0 ≡ get_or three i 0
  not-checked i nl nh = not_last i nl ∙ get_or-set_other three (4 * k + 3) i t.checked 0 nh

  not-rejected : (i : ℕ) → (i ≡ 32 → ⊥) → (i ≡ 4 * k + 3 → ⊥) → (i ≡ 4 * k + 2 → ⊥) → get_or turned_numbers i 0 ≡ get_or two i 0
  not-rejected i nl nh nr = not-checked i nl nh ∙ get_or-set_other two (4 * k + 2) i t.rejected 0 nr

  not-cycles : (i : ℕ) → (i ≡ 32 → ⊥) → (i ≡ 4 * k + 3 → ⊥) → (i ≡ 4 * k + 2 → ⊥) → (i ≡ 4 * k + 1 → ⊥) → get_or turned_numbers i 0 ≡ get_or one i 0
  not-cycles i nl nh nr nc = not-rejected i nl nh nr ∙ get_or-set_other one (4 * k + 1) i t.cycles 0 nc

  -- the number of another machine
  pub turned_other : (j r : ℕ) → j < 8 → r < 4 → (j ≡ k → ⊥) → get_or turned_numbers (4 * j + r) 0 ≡ get_or b (4 * j + r) 0
  turned_other j r hj hr ne =
      not-cycles (4 * j + r) (λ e. omega arith) (λ e. ne (omega arith)) (λ e. ne (omega arith)) (λ e. ne (omega arith))
      ∙ get_or-set_other b (4 * k) (4 * j + r) n 0 (λ e. ne (omega arith))

  pub turned_waiting : waiting_of k turned_numbers ≡ n
  turned_waiting =
      not-cycles (4 * k) (λ e. omega arith) (λ e. omega arith) (λ e. omega arith) (λ e. omega arith)
      ∙ get_or-set_same b (4 * k) n 0 (omega arith)

  pub turned_tally : tally_of k turned_numbers ≡ t
  turned_tally =
      same_tally (tally_of k turned_numbers) t
      (not-rejected (4 * k + 1) (λ e. omega arith) (λ e. omega arith) (λ e. omega arith) ∙ get_or-set_same one (4 * k + 1) t.cycles 0 (rw (length-set b (4 * k) n) (omega arith)))
      (not-checked (4 * k + 2) (λ e. omega arith) (λ e. omega arith) ∙ get_or-set_same two (4 * k + 2) t.rejected 0 (rw length_two (omega arith)))
      (not_last (4 * k + 3) (λ e. omega arith) ∙ get_or-set_same three (4 * k + 3) t.checked 0 (rw length_three (omega arith)))

  pub turned_last : last_of turned_numbers ≡ k
  turned_last = get_or-set_same four 32 k 0 (rw length_four (omega arith))
