-- How many bytes the text has: a count below 10 has one digit, one from 10 on two. Assumes nothing.
use Prim.Native.Nat.{ℕ, zero, suc, ◌+◌, ◌-◌, ◌*◌, ◌/◌, ◌%◌, ◌<◌, ◌≤◌}
use mathlib.Core.Path.{◌≡◌, refl, ap, ◌∙◌}
use mathlib.Core.List.{[], ◌∷◌, ◌++◌}
use native.Mathlib.Numerals.{add-one}
use native.Mathlib.Omega.{arith}
use native.Mathlib.Decide.{ℕ_discrete, dec_lt}
use borrow.Author.Tests.{eq-eqb, ne_eqb}
use lib.ListN.{length, length-append}
use Rattle.text.specs.Quoted.{bytes}
use Rattle.text.specs.Numbers.{digits}
use Rattle.text.specs.Writer.{joined}
use Rattle.text.proofs.NumberLaws.{digits-small, digits_more}
use Rattle.assertion.specs.Graph.{Bytes}
use Rattle.buffer_text.specs.Text.{heading, vertex_line, start_line, edge_line, count_lines, buffer_text}

-- ---- a number
one-digit : (n : ℕ) → n < 10 → length (digits n) ≡ 1
one-digit n h = ap length (digits-small n h)

two_digits : (n : ℕ) → 10 ≤ n → n < 100 → length (digits n) ≡ 2
two_digits n h l = ap length (digits_more n h) ∙ omega (arith, length-append (digits (n / 10)) ((48 + n % 10) ∷ []), one-digit (n / 10) (omega arith))

-- ---- a line
vertex-size : (n : ℕ) → length (vertex_line n) ≡ 4 + length (digits n)
unfolding vertex_line
vertex-size n = omega (arith, length-append (digits n) (bytes "\n"))

edge-size : (n m : ℕ) (labels : Bytes) → length (edge_line n m labels) ≡ 9 + length (digits n) + length (digits m) + length labels
unfolding edge_line
edge-size n m labels =
    let end : Bytes = labels ++ bytes "\n" in
    omega (
      arith,
      length-append (digits n) (bytes "\tn" ++ (digits m ++ (bytes "\tt\t" ++ end))),
      length-append (digits m) (bytes "\tt\t" ++ end),
      length-append labels (bytes "\n"),
    )

-- ---- the vertices
few-vertices : (m : ℕ) → m ≤ 10 → length (joined vertex_line m) ≡ 5 * m
few-vertices zero h = refl
few-vertices (suc m) h =
    omega (arith, length-append (joined vertex_line m) (vertex_line m), few-vertices m (omega arith), vertex-size m, one-digit m (omega arith))

many_vertices : (m : ℕ) → 10 ≤ m → m ≤ 100 → length (joined vertex_line m) ≡ 6 * m - 10
many_vertices zero h l = absurd (omega arith)
many_vertices (suc m) h l = elim (ℕ_discrete m 9) [
  | yes e ↦ rw e (few-vertices 10 (omega arith))
  | no d ↦
      omega (
        arith,
        length-append (joined vertex_line m) (vertex_line m),
        many_vertices m (omega (arith, d)) (omega arith),
        vertex-size m,
        two_digits m (omega (arith, d)) (omega arith),
      )
]

-- ---- the edges of a count: at 0, at k, and between
module _ (k : ℕ) where
  none-size : length (count_lines k 0) ≡ 53
  unfolding count_lines
  none-size =
      omega (
        arith,
        length-append (edge_line 0 1 (bytes "enq\tempty&!full")) (edge_line 0 0 (bytes "!enq\tempty&!full")),
        edge-size 0 1 (bytes "enq\tempty&!full"),
        edge-size 0 0 (bytes "!enq\tempty&!full"),
        one-digit 0 (omega arith),
        one-digit 1 (omega arith),
      )

  all-size : 1 ≤ k → length (count_lines k k) ≡ 49 + 3 * length (digits k) + length (digits (k - 1))
  unfolding count_lines
  all-size h =
      rw (ne_eqb k 0 (λ e. omega arith), eq-eqb k k refl)
      (omega (
        arith,
        length-append (edge_line k (k - 1) (bytes "deq\t!empty&full")) (edge_line k k (bytes "!deq\t!empty&full")),
        edge-size k (k - 1) (bytes "deq\t!empty&full"),
        edge-size k k (bytes "!deq\t!empty&full"),
      ))

  some_size : (n : ℕ) → 1 ≤ n → n < k → length (count_lines k n) ≡ 89 + 4 * length (digits n) + length (digits (n + 1)) + length (digits (n - 1))
  unfolding count_lines
  some_size n h l =
      let up : Bytes = edge_line n (n + 1) (bytes "enq&!deq\t!empty&!full") in
      let down : Bytes = edge_line n (n - 1) (bytes "!enq&deq\t!empty&!full") in
      let stay : Bytes = edge_line n n (bytes "enq=deq\t!empty&!full") in
      rw (ne_eqb n 0 (λ e. omega arith), ne_eqb n k (λ e. omega arith))
      (omega (
        arith,
        length-append up (down ++ stay),
        length-append down stay,
        edge-size n (n + 1) (bytes "enq&!deq\t!empty&!full"),
        edge-size n (n - 1) (bytes "!enq&deq\t!empty&!full"),
        edge-size n n (bytes "enq=deq\t!empty&!full"),
      ))

  -- ---- those of the counts below k
  next : (n : ℕ) → length (joined (count_lines k) (suc n)) ≡ length (joined (count_lines k) n) + length (count_lines k n)
  next n = length-append (joined (count_lines k) n) (count_lines k n)

  few-counts : (m : ℕ) → m ≤ 8 → m < k → length (joined (count_lines k) (suc m)) ≡ 53 + 95 * m
  few-counts zero h l = omega (arith, next 0, none-size)
  few-counts (suc m) h l =
      omega (
        arith,
        next (suc m),
        few-counts m (omega arith) (omega arith),
        some_size (suc m) (omega arith) l,
        one-digit (suc m - 1) (omega arith),
        one-digit (suc m) (omega arith),
        one-digit (suc m + 1) (omega arith),
      )

  many_counts : (m : ℕ) → 10 ≤ m → m < k → k ≤ 40 → length (joined (count_lines k) (suc m)) ≡ 101 * m - 1
  many_counts zero h l s = absurd (omega arith)
  many_counts (suc m) h l s = elim (ℕ_discrete m 9) [
    | yes e ↦
        rw e (omega (
          arith,
          next 9,
          next 10,
          few-counts 8 (omega arith) (omega arith),
          some_size 9 (omega arith) (omega arith),
          some_size 10 (omega arith) (omega arith),
          one-digit 8 (omega arith),
          one-digit 9 (omega arith),
          two_digits 10 (omega arith) (omega arith),
          two_digits 11 (omega arith) (omega arith),
        ))
    | no d ↦
        omega (
          arith,
          next (suc m),
          many_counts m (omega (arith, d)) (omega arith) s,
          some_size (suc m) (omega arith) l,
          two_digits (suc m - 1) (omega (arith, d)) (omega arith),
          two_digits (suc m) (omega (arith, d)) (omega arith),
          two_digits (suc m + 1) (omega (arith, d)) (omega arith),
        )
  ]

  -- ---- the text
  parts : 1 ≤ k → length (buffer_text k)
      ≡ 105 + length (joined vertex_line (suc k)) + length (joined (count_lines k) k) + 3 * length (digits k) + length (digits (k - 1))
  unfolding buffer_text heading start_line
  parts h =
      omega (
        arith,
        length-append (joined vertex_line (k + 1)) (start_line ++ joined (count_lines k) (k + 1)),
        ap (λ (n : ℕ). length (joined vertex_line n)) (add-one k),
        ap (λ (n : ℕ). length (joined (count_lines k) n)) (add-one k),
        next k,
        all-size h,
      )

pub size_small : (k : ℕ) → 1 ≤ k → k < 10 → length (buffer_text k) ≡ 100 * k + 72
size_small zero h l = absurd (omega arith)
size_small (suc m) h l =
    omega (
      arith,
      parts (suc m) h,
      few-vertices (suc (suc m)) (omega arith),
      few-counts (suc m) m (omega arith) (omega arith),
      one-digit (suc m) l,
      one-digit (suc m - 1) (omega arith),
    )

pub size-large : (k : ℕ) → 10 ≤ k → k ≤ 40 → length (buffer_text k) ≡ 107 * k + 7
size-large zero h l = absurd (omega arith)
size-large (suc m) h l = elim (ℕ_discrete m 9) [
  | yes e ↦
      rw e (omega (
        arith,
        parts 10 (omega arith),
        many_vertices 11 (omega arith) (omega arith),
        next 10 9,
        few-counts 10 8 (omega arith) (omega arith),
        some_size 10 9 (omega arith) (omega arith),
        one-digit 8 (omega arith),
        one-digit 9 (omega arith),
        two_digits 10 (omega arith) (omega arith),
      ))
  | no d ↦
      omega (
        arith,
        parts (suc m) (omega arith),
        many_vertices (suc (suc m)) (omega arith) (omega arith),
        many_counts (suc m) m (omega (arith, d)) (omega arith) l,
        two_digits (suc m) h (omega arith),
        two_digits (suc m - 1) (omega (arith, d)) (omega arith),
      )
]

-- at most that of 40 strokes
pub size-most : (k : ℕ) → 1 ≤ k → k ≤ 40 → length (buffer_text k) ≤ 4287
size-most k h l = elim (dec_lt k 10) [ yes s ↦ omega (arith, size_small k h s) | no s ↦ omega (arith, size-large k (omega (arith, s)) l) ]
