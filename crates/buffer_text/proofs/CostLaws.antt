-- What the buffer's graph costs: 3k + 2 edges, all terminal, every vertex but the start entered, and 8k − 4 gates for the
-- formulas. Assumes nothing.
use Rattle.std.specs.Prelude.{Ok}
use Prim.Native.Nat.{ℕ, zero, suc, ◌+◌, ◌-◌, ◌*◌, ◌<◌, ◌≤◌}
use mathlib.Core.Path.{◌≡◌, refl, ap, sym, ◌∙◌}
use mathlib.Core.Bool.{Bool, true, false}
use mathlib.Core.List.{List, [], ◌∷◌, ◌++◌}
use native.Mathlib.Omega.{arith}
use native.Mathlib.Decide.{ℕ_discrete}
use borrow.Author.Tests.{eq-eqb, ne_eqb, eqb-true}
use lib.Dec.{eqb}
use lib.ListN.{length, length-append}
use Rattle.assertion.specs.Graph.{Edge, bits_of, signal_bits, constant_bits, is_terminal}
use Rattle.circuit.specs.Count.{formula_gates, all_formula_gates, incoming, entered, terminals, gate_formula}
use Rattle.builder.specs.Build.{variables_of, build_of}
use Rattle.builder.proofs.DemandLaws.{build_means}
use Rattle.buffer_text.specs.Text.{buffer_text}
use Rattle.buffer_text.proofs.Graph.{edges_of, edges_at, edges_below, buffer_graph}
use Rattle.buffer_text.proofs.TextLaws.{vertices-length, graph}

-- ---- edges one after another
-- all marked, and none to the start
abbrev AllCounting : List Edge → Type 0
AllCounting [] = Unit {0}
AllCounting (e ∷ es) = (e.marked ≡ true) × (e.to ≡ 0 → ⊥) × AllCounting es

record Costs (es : List Edge) (edges gates : ℕ) : Type 0 where
  many : length es ≡ edges
  dear : all_formula_gates es ≡ gates
  counting : AllCounting es

append-costs : (es fs : List Edge) {a b c d : ℕ} → Costs es a b → Costs fs c d → Costs (es ++ fs) (a + c) (b + d)
append-costs es fs x y =
    record {
      many = omega (arith, length-append es fs, x.many, y.many);
      dear = omega (arith, formulas es, x.dear, y.dear);
      counting = all es x.counting;
    }
  where
    formulas : (es : List Edge) → all_formula_gates (es ++ fs) ≡ all_formula_gates es + all_formula_gates fs
    formulas [] = omega arith
    formulas (e ∷ es) = omega (arith, formulas es)

    all : (es : List Edge) → AllCounting es → AllCounting (es ++ fs)
    all [] h = y.counting
    all (e ∷ es) h = (h.0, h.1, all es h.2)

-- two edges and two gates at 0 and at k, three edges and eight gates between
none_cost : (k : ℕ) → Costs (edges_at k 0) 2 2
unfolding formula_gates
none_cost k = record { many = refl; dear = refl; counting = (refl, (λ q. omega arith), (refl, (λ q. omega arith), tt)) }

all_cost : (k : ℕ) → 1 ≤ k → Costs (edges_at k k) 2 2
unfolding formula_gates
all_cost k h =
    rw (ne_eqb k 0 (λ e. omega arith), eq-eqb k k refl)
    (record { many = refl; dear = refl; counting = (refl, (λ q. omega arith), (refl, (λ q. omega arith), tt)) })

some_cost : (k n : ℕ) → 1 ≤ n → n < k → Costs (edges_at k n) 3 8
unfolding formula_gates
some_cost k n h l =
    rw (ne_eqb n 0 (λ e. omega arith), ne_eqb n k (λ e. omega arith))
    (record { many = refl; dear = refl; counting = (refl, (λ q. omega arith), (refl, (λ q. omega arith), (refl, (λ q. omega arith), tt))) })

-- those of the counts 0 to m, below k
below_cost : (k m : ℕ) → m < k → Costs (edges_below k (suc m)) (2 + 3 * m) (2 + 8 * m)
below_cost k zero l = none_cost k
below_cost k (suc m) l =
    let c = append-costs (edges_below k (suc m)) (edges_at k (suc m)) (below_cost k m (omega arith)) (some_cost k (suc m) (omega arith) l) in
    record { many = omega (arith, c.many); dear = omega (arith, c.dear); counting = c.counting }

-- and all, the start's among them
edges_cost : (k : ℕ) → 1 ≤ k → Costs (buffer_graph k).edges (3 * k + 2) (8 * k - 4)
unfolding formula_gates
edges_cost zero h = absurd (omega arith)
edges_cost (suc m) h =
    let k : ℕ = suc m in
    let c = append-costs (edges_below k k) (edges_at k k) (below_cost k m (omega arith)) (all_cost k h) in
    record { many = omega (arith, c.many); dear = omega (arith, c.dear); counting = (refl, (λ q. omega arith), c.counting) }

-- ---- terminal edges, and vertices with an edge to them
terminals-all : (k : ℕ) (es : List Edge) → AllCounting es → terminals (buffer_graph k) es ≡ length es
unfolding is_terminal
terminals-all k [] h = refl
terminals-all k (e ∷ es) h = rw h.0 (omega (arith, terminals-all k es h.2))

start_unentered : (es : List Edge) → AllCounting es → incoming 0 es ≡ 0
start_unentered [] h = refl
start_unentered (e ∷ es) h = rw (ne_eqb e.to 0 h.1) (omega (arith, start_unentered es h.2))

incoming-append : (v : ℕ) (es fs : List Edge) → incoming v (es ++ fs) ≡ incoming v es + incoming v fs
incoming-append v [] fs = omega arith
incoming-append v (e ∷ es) fs = omega (arith, incoming-append v es fs)

-- each count has an edge to itself
stays : (k n : ℕ) (z w : Bool) → eqb n 0 ≡ z → eqb n k ≡ w → 1 ≤ incoming (suc n) (edges_of z w k n)
stays k n true w d e = let i : n ≡ 0 = eqb-true n 0 d in rw i (omega arith)
stays k n false true d e = let i : n ≡ k = eqb-true n k e in rw (eq-eqb (suc k) (suc n) (ap suc (sym i))) (omega arith)
stays k n false false d e = rw (eq-eqb (suc n) (suc n) refl) (omega arith)

count-entered : (k m n : ℕ) → n < m → 1 ≤ incoming (suc n) (edges_below k m)
count-entered k zero n l = absurd (omega arith)
count-entered k (suc m) n l = elim (ℕ_discrete n m) [
  | yes e ↦ rw e (omega (arith, incoming-append (suc m) (edges_below k m) (edges_at k m), stays k m (eqb m 0) (eqb m k) refl refl))
  | no d ↦ omega (arith, incoming-append (suc n) (edges_below k m) (edges_at k m), count-entered k m n (omega (arith, d)))
]

entered_all : (m v : ℕ) (es : List Edge) → ((i : ℕ) → v ≤ i → i < v + m → 1 ≤ incoming i es) → entered v m es ≡ m
entered_all zero v es h = refl
entered_all (suc m) v es h = omega (arith, h v (omega arith) (omega arith), entered_all m (suc v) es (λ i a b. h i (omega arith) (omega arith)))

module _ (k : ℕ) (h : 1 ≤ k) where
  abbrev es : List Edge
  es = (buffer_graph k).edges

  later-entered : entered 1 (suc k) es ≡ suc k
  later-entered = entered_all (suc k) 1 es each
    where
      each : (i : ℕ) → 1 ≤ i → i < 1 + suc k → 1 ≤ incoming i es
      each zero a b = absurd (omega arith)
      each (suc i) a b = omega (arith, count-entered k (suc k) i (omega arith))

  -- every vertex but the start is entered
  without-start : entered 1 (length (buffer_graph k).vertices - 1) es ≡ suc k
  without-start =
      let n : length (buffer_graph k).vertices - 1 ≡ suc k = omega (arith, vertices-length k) in
      ap (λ (m : ℕ). entered 1 m es) n ∙ later-entered

  with_start : entered 0 (length (buffer_graph k).vertices) es ≡ suc k
  with_start =
      let n : length (buffer_graph k).vertices ≡ suc (suc k) = omega (arith, vertices-length k) in
      let m : entered 0 (suc (suc k)) es ≡ suc k = omega (arith, start_unentered es (edges_cost k h).counting, later-entered) in
      ap (λ (m : ℕ). entered 0 m es) n ∙ m

  gates : gate_formula (buffer_graph k) ≡ 36 * k + 13
  unfolding gate_formula
  gates =
      let c = edges_cost k h in
      let e : length es ≡ 3 * k + 2 = c.many in
      let f : all_formula_gates es ≡ 8 * k - 4 = c.dear in
      let t : terminals (buffer_graph k) es ≡ 3 * k + 2 = terminals-all k es c.counting ∙ e in
      rw (without-start, with_start, e, t, f) (omega arith)

  bits : (signal_bits (buffer_graph k) ≡ 5) × (constant_bits (buffer_graph k) ≡ 0)
  unfolding bits_of signal_bits constant_bits
  bits = (refl, refl)

  module _ (l : k ≤ 40) where
    pub variables : variables_of false (buffer_graph k) ≡ 42 * k + 23
    variables =
        (build_means false (buffer_text k) []).variables (buffer_graph k) (graph k h l) ∙ omega (arith, gates, (edges_cost k h).many, bits.0, bits.1)

    pub built : (net : List ℕ) → 84 * k + 40 ≤ length net → (build_of false (buffer_text k) net).answer ≡ Ok (36 * k + 13)
    built net room =
        let n : gate_formula (buffer_graph k) + 0 ≡ 36 * k + 13 = omega (arith, gates) in
        (build_means false (buffer_text k) net).accepts (buffer_graph k) (graph k h l)
        (omega (arith, gates, (edges_cost k h).many, bits.0, bits.1)) (omega (arith, gates, (edges_cost k h).many, bits.1)) ∙ ap Ok n
