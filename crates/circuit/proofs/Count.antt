-- The monitor has as many gates as document 01's formula says: at most 10 for an edge and 3 for an operator, and without
-- operators two fewer. Assumes nothing.
use Prim.Native.Nat.{ℕ, zero, suc, ◌+◌, ◌-◌, ◌*◌, ◌<◌, ◌≤◌, min}
use mathlib.Core.Path.{◌≡◌, refl, ap}
use mathlib.Core.Bool.{Bool, true, false, cond}
use mathlib.Core.List.{List, [], ◌∷◌, ◌++◌}
use native.Mathlib.Omega.{arith}
use lib.ListN.{length, get_or, length-append}
use lib.Dec.{eqb}
use borrow.Author.Tests.{eq-eqb, ne_eqb}
use native.Mathlib.Decide.{ℕ_discrete}
use Rattle.assertion.specs.Graph.{Expr, truth, signal, constant, neg, conj, disj, xor, same, alike, Run, Edge, Graph, signal_bits, constant_bits, is_terminal, operators}
use Rattle.netlist.specs.Literals.{literal_of}
use Rattle.circuit.specs.Gates.{lit, inv, Piece, and_of, or_of, xor_of, same_of, after}
use Rattle.circuit.specs.Build.{init, Two, Bits, same_bits, alike_of, formula, masks, or_from, or_all, happy_terms, condemned_terms, happy_or, condemned_or, vertex_pieces, token_gates, edge_piece, edge_pieces, and_from, and_all, accept_terms, first_edge_latch, first_gate, masked, gathered, judged, accepted, gates_of}
use Rattle.circuit.proofs.Fits.{AllFit, Fits}
use Rattle.circuit.specs.Count.{formula_gates, all_formula_gates, all_operators, incoming, entered, terminals, gate_formula}

after-length : (op : ℕ → ℕ → ℕ → Piece) (m n : ℕ) (p q : Piece) → ((i a b : ℕ) → length (op i a b).gates ≡ m) → length (after op n p q).gates ≡ length p.gates + length q.gates + m
after-length op m n p q h =
    let r : Piece = op (n + length p.gates + length q.gates) p.out q.out in
    omega (arith, length-append p.gates (q.gates ++ r.gates), length-append q.gates r.gates, h (n + length p.gates + length q.gates) p.out q.out)

and_from-length : (ts : List ℕ) (n so : ℕ) → length (and_from n so ts).gates ≡ length ts
and_from-length [] n so = refl
and_from-length (t ∷ ts) n so = ap suc (and_from-length ts (suc n) (lit n))

pub and-length : (ts : List ℕ) (n : ℕ) → length (and_all n ts).gates ≡ length ts - 1
and-length [] n = refl
and-length (t ∷ ts) n = omega (arith, and_from-length ts n t)

-- the gates of `==`: 3 for each bit, and one less than the bits
pub bits-length : (w s n i : ℕ) (a b : Run) → (length (same_bits s n a b i w).gates ≡ 3 * w) × (length (same_bits s n a b i w).outs ≡ w)
bits-length zero s n i a b = (refl, refl)
bits-length (suc w) s n i a b =
    let h = bits-length w s (n + 3) (suc i) a b in
    (omega (arith, h.0), omega (arith, h.1))

pub alike-length : (s n : ℕ) (a b : Run) (w : ℕ) → length (alike_of s n a b w).gates ≡ 4 * w - 1
unfolding alike_of
alike-length s n a b w =
    let p : Bits = same_bits s n a b 0 w in
    let h = bits-length w s n 0 a b in
    omega (
      arith,
      length-append p.gates (and_all (n + length p.gates) p.outs).gates,
      and-length p.outs (n + length p.gates),
      h.0,
      h.1,
    )

pub formula-length : (x : Expr) (s n : ℕ) → length (formula s n x).gates ≡ formula_gates x
unfolding formula formula_gates
formula-length (truth b) s n = refl
formula-length (signal i) s n = refl
formula-length (constant j) s n = refl
formula-length (neg a) s n = formula-length a s n
formula-length (conj a b) s n =
    let m = n + length (formula s n a).gates in
    omega (arith, after-length and_of 1 n (formula s n a) (formula s m b) (λ i x y. refl), formula-length a s n, formula-length b s m)
formula-length (disj a b) s n =
    let m = n + length (formula s n a).gates in
    omega (arith, after-length or_of 1 n (formula s n a) (formula s m b) (λ i x y. refl), formula-length a s n, formula-length b s m)
formula-length (xor a b) s n =
    let m = n + length (formula s n a).gates in
    omega (arith, after-length xor_of 3 n (formula s n a) (formula s m b) (λ i x y. refl), formula-length a s n, formula-length b s m)
formula-length (same a b) s n =
    let m = n + length (formula s n a).gates in
    omega (arith, after-length same_of 3 n (formula s n a) (formula s m b) (λ i x y. refl), formula-length a s n, formula-length b s m)
formula-length (alike a b w) s n = alike-length s n a b w

pub masks-length : (es : List Edge) (n l : ℕ) → (length (masks n l es).gates ≡ 2 * length es) × (length (masks n l es).outs ≡ length es)
masks-length [] n l = (refl, refl)
masks-length (e ∷ es) n l =
    let h = masks-length es (suc (suc n)) (suc (suc l)) in
    (omega (arith, h.0), omega (arith, h.1))

or_from-length : (ts : List ℕ) (n so : ℕ) → length (or_from n so ts).gates ≡ length ts
or_from-length [] n so = refl
or_from-length (t ∷ ts) n so = ap suc (or_from-length ts (suc n) (literal_of n true))

pub or-length : (ts : List ℕ) (n : ℕ) → length (or_all n ts).gates ≡ length ts - 1
or-length [] n = refl
or-length (t ∷ ts) n = omega (arith, or_from-length ts n t)

pub cond-length : {A : Type 0} (b : Bool) (t : A) (ts : List A) → length (cond b (t ∷ ts) ts) ≡ cond b 1 0 + length ts
cond-length true t ts = omega arith
cond-length false t ts = omega arith

happy-length : (v : ℕ) (es : List Edge) (ms : List Two) → length ms ≡ length es → length (happy_terms v es ms) ≡ incoming v es
happy-length v [] ms h = refl
happy-length v (e ∷ es) [] h = absurd (omega arith)
happy-length v (e ∷ es) (m ∷ ms) h = omega (arith, cond-length (eqb e.to v) m.happy (happy_terms v es ms), happy-length v es ms (omega arith))

condemned-length : (v : ℕ) (es : List Edge) (ms : List Two) → length ms ≡ length es → length (condemned_terms v es ms) ≡ incoming v es
condemned-length v [] ms h = refl
condemned-length v (e ∷ es) [] h = absurd (omega arith)
condemned-length v (e ∷ es) (m ∷ ms) h = omega (arith, cond-length (eqb e.to v) m.condemned (condemned_terms v es ms), condemned-length v es ms (omega arith))

accept-length : (g : Graph) (es : List Edge) (ms : List Two) → length ms ≡ length es → length (accept_terms g es ms) ≡ terminals g es
accept-length g [] ms h = refl
accept-length g (e ∷ es) [] h = absurd (omega arith)
accept-length g (e ∷ es) (m ∷ ms) h = omega (arith, cond-length (is_terminal g e) (inv m.condemned) (accept_terms g es ms), accept-length g es ms (omega arith))

-- the incoming edges of the vertices v, v + 1, .., k of them
sum_in : ℕ → ℕ → List Edge → ℕ
sum_in v zero es = 0
sum_in v (suc k) es = incoming v es + sum_in (suc v) k es

hits : ℕ → ℕ → ℕ → ℕ
hits v zero t = 0
hits v (suc k) t = cond (eqb t v) 1 0 + hits (suc v) k t

no_hit : (k v t : ℕ) → t < v → hits v k t ≡ 0
unfolding hits
no_hit zero v t h = refl
no_hit (suc k) v t h = rw (ne_eqb t v (λ e. omega arith), no_hit k (suc v) t (omega arith))

one_hit : (k v t : ℕ) → v ≤ t → t < v + k → hits v k t ≡ 1
unfolding hits
one_hit zero v t h l = absurd (omega arith)
one_hit (suc k) v t h l = elim (ℕ_discrete t v) [
  | yes e ↦ rw (eq-eqb t v e, no_hit k (suc v) t (omega arith))
  | no d ↦ rw (ne_eqb t v d, one_hit k (suc v) t (omega (arith, d)) (omega arith))
]

sum-cons : (k v : ℕ) (e : Edge) (es : List Edge) → sum_in v k (e ∷ es) ≡ hits v k e.to + sum_in v k es
unfolding sum_in hits
sum-cons zero v e es = refl
sum-cons (suc k) v e es = omega (arith, sum-cons k (suc v) e es)

sum-nil : (k v : ℕ) → sum_in v k [] ≡ 0
unfolding sum_in
sum-nil zero v = refl
sum-nil (suc k) v = omega (arith, sum-nil k (suc v))

sum-all : (es : List Edge) (s c k : ℕ) → AllFit s c k es → sum_in 0 k es ≡ length es
sum-all [] s c k h = sum-nil k 0
sum-all (e ∷ es) s c k h = omega (arith, sum-cons k 0 e es, one_hit k 0 e.to (omega arith) (omega (arith, h.0.to)), sum-all es s c k h.1)

module _ (es : List Edge) (ms : List Two) (h : length ms ≡ length es) where
  vertex-one : (n k v : ℕ) → length (vertex_pieces n es ms v (suc k)).gates ≡
      length (happy_or n v es ms).gates + length (condemned_or (n + length (happy_or n v es ms).gates) v es ms).gates
      + length (vertex_pieces (n + length (happy_or n v es ms).gates + length (condemned_or (n + length (happy_or n v es ms).gates) v es ms).gates) es ms (suc v) k).gates
  vertex-one n k v =
      let p = happy_or n v es ms in
      let q = condemned_or (n + length p.gates) v es ms in
      let r = vertex_pieces (n + length p.gates + length q.gates) es ms (suc v) k in
      omega (arith, length-append p.gates (q.gates ++ r.gates), length-append q.gates r.gates)

  condemned_gates_lem : (n v : ℕ) → length (condemned_or n v es ms).gates ≡ incoming v es - 1
  unfolding condemned_or
  condemned_gates_lem n v = omega (arith, or-length (condemned_terms v es ms) n, condemned-length v es ms h)

  happy-start : (n : ℕ) → length (happy_or n 0 es ms).gates ≡ incoming 0 es
  unfolding happy_or
  happy-start n = omega (arith, or-length (lit init ∷ happy_terms 0 es ms) n, happy-length 0 es ms h)

  happy_gates_lem : (n v : ℕ) → length (happy_or n (suc v) es ms).gates ≡ incoming (suc v) es - 1
  unfolding happy_or
  happy_gates_lem n v = rw (ne_eqb (suc v) 0 (λ e. omega arith)) (omega (arith, or-length (happy_terms (suc v) es ms) n, happy-length (suc v) es ms h))

  later : (k n v : ℕ) → length (vertex_pieces n es ms (suc v) k).gates + 2 * entered (suc v) k es ≡ 2 * sum_in (suc v) k es
  unfolding sum_in
  later zero n v = refl
  later (suc k) n v =
      let p = happy_or n (suc v) es ms in
      let q = condemned_or (n + length p.gates) (suc v) es ms in
      omega (arith, vertex-one n k (suc v), happy_gates_lem n v, condemned_gates_lem (n + length p.gates) (suc v), later k (n + length p.gates + length q.gates) (suc v))

  vertices : (k n : ℕ) → length (vertex_pieces n es ms 0 k).gates + entered 1 (k - 1) es + entered 0 k es ≡ 2 * sum_in 0 k es
  unfolding sum_in
  vertices zero n = refl
  vertices (suc k) n =
      let p = happy_or n 0 es ms in
      let q = condemned_or (n + length p.gates) 0 es ms in
      let i : suc k - 1 ≡ k = omega arith in
      let z : entered 1 (suc k - 1) es ≡ entered 1 k es = ap (λ (j : ℕ). entered 1 j es) i in
      omega (arith, z, vertex-one n k 0, happy-start n, condemned_gates_lem (n + length p.gates) 0, later k (n + length p.gates + length q.gates) 0)

entered-le : (k v : ℕ) (es : List Edge) → entered v k es ≤ sum_in v k es
unfolding sum_in
entered-le zero v es = omega arith
entered-le (suc k) v es = omega (arith, entered-le k (suc v) es)

later-le : (k : ℕ) (es : List Edge) → entered 1 (k - 1) es ≤ sum_in 0 k es
unfolding sum_in
later-le zero es = omega arith
later-le (suc k) es =
    let i : suc k - 1 ≡ k = omega arith in
    let z : entered 1 (suc k - 1) es ≡ entered 1 k es = ap (λ (j : ℕ). entered 1 j es) i in
    omega (arith, z, entered-le k 1 es)

edge-length : (s n : ℕ) (w : Two) (e : Edge) → length (edge_piece s n w e).gates ≡ formula_gates e.antecedent + formula_gates e.consequent + 5
unfolding edge_piece
edge-length s n w e =
    let p = formula s n e.antecedent in
    let q = formula s (n + length p.gates) e.consequent in
    let z = token_gates (n + length p.gates + length q.gates) p.out q.out w in
    omega (arith, length-append p.gates (q.gates ++ z), length-append q.gates z, formula-length e.antecedent s n, formula-length e.consequent s (n + length p.gates))

pub edges-length : (es : List Edge) (s n : ℕ) (vs : List Two) → (length (edge_pieces s n vs es).gates ≡ 5 * length es + all_formula_gates es) × (length (edge_pieces s n vs es).outs ≡ length es)
edges-length [] s n vs = (refl, refl)
edges-length (e ∷ es) s n vs =
    let w : Two = get_or vs e.from (record { happy = 0; condemned = 0 }) in
    let p = edge_piece s n w e in
    let r = edges-length es s (n + length p.gates) vs in
    (omega (arith, length-append p.gates (edge_pieces s (n + length p.gates) vs es).gates, edge-length s n w e, r.0), omega (arith, r.1))

module _ (g : Graph) where
  masked-gates : (length (masked g).gates ≡ 2 * length g.edges) × (length (masked g).outs ≡ length g.edges)
  unfolding masked
  masked-gates = masks-length g.edges (first_gate g) (first_edge_latch g)

  pub judged-gates : (length (judged g).gates ≡ 5 * length g.edges + all_formula_gates g.edges) × (length (judged g).outs ≡ length g.edges)
  unfolding judged
  judged-gates = edges-length g.edges (signal_bits g) (first_gate g + length (masked g).gates + length (gathered g).gates) (gathered g).outs

  accepted-gates : length (accepted g).gates ≡ terminals g g.edges - 1
  unfolding accepted
  accepted-gates =
      omega (
        arith,
        and-length (accept_terms g g.edges (judged g).outs) (first_gate g + length (masked g).gates + length (gathered g).gates + length (judged g).gates),
        accept-length g g.edges (judged g).outs judged-gates.1,
      )

  module _ (fits : Fits g) where
    gathered-gates : length (gathered g).gates + entered 1 (length g.vertices - 1) g.edges + entered 0 (length g.vertices) g.edges ≡ 2 * length g.edges
    unfolding gathered
    gathered-gates =
        omega (
          arith,
          vertices g.edges (masked g).outs masked-gates.1 (length g.vertices) (first_gate g + length (masked g).gates),
          sum-all g.edges (signal_bits g) (constant_bits g) (length g.vertices) fits.edges,
        )

    pub count : length (gates_of g) ≡ gate_formula g
    unfolding gates_of gate_formula
    count =
        omega (
          arith,
          length-append (masked g).gates ((gathered g).gates ++ ((judged g).gates ++ (accepted g).gates)),
          length-append (gathered g).gates ((judged g).gates ++ (accepted g).gates),
          length-append (judged g).gates (accepted g).gates,
          masked-gates.0,
          gathered-gates,
          judged-gates.0,
          accepted-gates,
          entered-le (length g.vertices) 0 g.edges,
          later-le (length g.vertices) g.edges,
          sum-all g.edges (signal_bits g) (constant_bits g) (length g.vertices) fits.edges,
        )

-- ---- the bound
formula-most : (x : Expr) → formula_gates x ≤ 3 * operators x
unfolding formula_gates operators
formula-most (truth b) = omega arith
formula-most (signal i) = omega arith
formula-most (constant j) = omega arith
formula-most (neg a) = formula-most a
formula-most (conj a b) = omega (arith, formula-most a, formula-most b)
formula-most (disj a b) = omega (arith, formula-most a, formula-most b)
formula-most (xor a b) = omega (arith, formula-most a, formula-most b)
formula-most (same a b) = omega (arith, formula-most a, formula-most b)
formula-most (alike a b w) = omega arith

formulas_most : (es : List Edge) → all_formula_gates es ≤ 3 * all_operators es
formulas_most [] = omega arith
formulas_most (e ∷ es) = omega (arith, formula-most e.antecedent, formula-most e.consequent, formulas_most es)

one-most : (b : Bool) → cond b 1 0 ≤ 1
one-most true = omega arith
one-most false = omega arith

pub terminals-most : (g : Graph) (es : List Edge) → terminals g es ≤ length es
terminals-most g [] = omega arith
terminals-most g (e ∷ es) = omega (arith, one-most (is_terminal g e), terminals-most g es)

pub bound : (g : Graph) → gate_formula g ≤ 10 * length g.edges + 3 * all_operators g.edges
unfolding gate_formula
bound g = omega (arith, terminals-most g g.edges, formulas_most g.edges)

-- ---- no operators: two gates less, since some vertex has an incoming edge and accept takes one gate less than it has terms
entered-some : (k v : ℕ) (e : Edge) (es : List Edge) → v ≤ e.to → e.to < v + k → 1 ≤ entered v k (e ∷ es)
entered-some zero v e es h l = absurd (omega arith)
entered-some (suc k) v e es h l = elim (ℕ_discrete e.to v) [
  | yes d ↦ let i : ◌≡◌ {A = ℕ} (cond (eqb e.to v) 1 0) 1 = rw (eq-eqb e.to v d) in omega (arith, i)
  | no d ↦ omega (arith, entered-some k (suc v) e es (omega (arith, d)) (omega arith))
]

pub most : (g : Graph) → Fits g → all_operators g.edges ≡ 0 → gate_formula g ≤ 10 * length g.edges - 2
unfolding gate_formula
most g fits none = omega (arith, terminals-most g g.edges, formulas_most g.edges, some _ _ g.edges fits.edges)
  where
    some : (s k : ℕ) (es : List Edge) → AllFit s k (length g.vertices) es → min 1 (length es) ≤ entered 0 (length g.vertices) es
    some s k [] f = omega arith
    some s k (e ∷ es) f = omega (arith, entered-some (length g.vertices) 0 e es (omega arith) (omega (arith, f.0.to)))
