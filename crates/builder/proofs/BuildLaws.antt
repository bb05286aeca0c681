-- The pieces that the loops store are those of the monitor's definition. Assumes nothing.
use mathlib.Core.Path.{◌≡◌, refl, sym, ap, subst, ◌∙◌}
use mathlib.Core.Bool.{Bool, true, false, cond}
use mathlib.Core.List.{List, [], ◌∷◌, ◌++◌, map, append_assoc}
use Prim.Native.Nat.{ℕ, zero, suc, ◌+◌, ◌*◌}
use native.Mathlib.Omega.{arith}
use native.Mathlib.Nat.{add-zero}
use native.Mathlib.Numerals.{add-one}
use lib.ListN.{length, get_or, length-append}
use lib.Dec.{eqb}
use Rattle.assertion.specs.Graph.{Edge, Graph, is_terminal, signal_bits}
use Rattle.circuit.specs.Gates.{lit, inv, Gate, Piece}
use Rattle.circuit.specs.Build.{Bits, init, Two, Pieces, masks, or_all, happy_terms, condemned_terms, happy_or, condemned_or, vertex_pieces, edge_piece, edge_pieces, and_all, accept_terms, first_edge_latch, first_gate, masked, gathered, judged, accepted, gates_of}
use Rattle.circuit.specs.Checked.{terminal_twos, alives, checked_from, checked_piece, gates_with, outputs_with}
use Rattle.circuit.specs.Numbers.{edge_latches}
use Rattle.builder.specs.Private.Adding.{Splits, Added}
use Rattle.builder.specs.Private.Terms.{mask_gates, every_other, terms_of, or_begun, vertex_happy, vertex_condemned, vertex_of, vertices_of, accept_of, alive_of, alives_of, checked_of, ends_of, Gathers}
use Rattle.builder.specs.Private.Edges.{two, edge_of, edges_of, targets, marks, mark_of}
use Rattle.builder.specs.Private.Monitor.{gather_of, gather_gates, ends_after, judge_gates, monitor_gates, monitor_ends, monitor_edges, JudgeMade, MonitorMade, edge_pairs, outputs_of}
use Rattle.builder.specs.declared.Outputs.{Outputs}
use Rattle.builder.specs.declared.gates.Gates.{Gates}
use Rattle.builder.proofs.AddingLaws.{whole_of}
use Rattle.builder.proofs.AlikeLaws.{and_all_lem}
use Rattle.builder.proofs.EdgeLaws.{chosen, length-chosen, targets-chosen, edges-chosen}

abbrev happies : List Two → List ℕ
happies [] = []
happies (t ∷ ts) = t.happy ∷ happies ts

abbrev condemneds : List Two → List ℕ
condemneds [] = []
condemneds (t ∷ ts) = t.condemned ∷ condemneds ts

-- 1. masks
pub masks-gates : (es : List Edge) (n l : ℕ) → (masks n l es).gates ≡ mask_gates l (2 * length es)
masks-gates [] n l = refl
masks-gates (e ∷ es) n l =
    let q : 2 * suc (length es) ≡ suc (suc (2 * length es)) = omega arith in
    rw (q, masks-gates es (suc (suc n)) (suc (suc l)))

pub masks-happy : (es : List Edge) (n l : ℕ) → happies (masks n l es).outs ≡ every_other n (length es)
masks-happy [] n l = refl
masks-happy (e ∷ es) n l = rw (masks-happy es (suc (suc n)) (suc (suc l)))

pub masks-condemned : (es : List Edge) (n l : ℕ) → condemneds (masks n l es).outs ≡ every_other (suc n) (length es)
masks-condemned [] n l = refl
masks-condemned (e ∷ es) n l = rw (masks-condemned es (suc (suc n)) (suc (suc l)))

pub mask_length : (k l : ℕ) → length (mask_gates l k) ≡ k
mask_length zero l = refl
mask_length (suc k) l = ap suc (mask_length k (suc l))

module _ (ts : List ℕ) (vertices edges l f n : ℕ) (e : n ≡ f + length (mask_gates l (2 * edges))) where
  pub gather_parts : Splits (gather_gates ts vertices edges l f) (mask_gates l (2 * edges)) (vertices_of n ts (every_other f edges) (every_other (f + 1) edges) 0 vertices).gates
  unfolding gather_gates gather_of
  gather_parts = record { is = rw e }

  pub gather_is : gather_of ts vertices edges l f ≡ vertices_of n ts (every_other f edges) (every_other (f + 1) edges) 0 vertices
  unfolding gather_of
  gather_is = rw e

-- 2. vertices
happy_terms_lem : (v : ℕ) (es : List Edge) (ms : List Two) → happy_terms v es ms ≡ terms_of v (targets es) (happies ms)
happy_terms_lem v [] ms = refl
happy_terms_lem v (e ∷ es) [] = refl
happy_terms_lem v (e ∷ es) (m ∷ ms) = rw (happy_terms_lem v es ms)

condemned_terms_lem : (v : ℕ) (es : List Edge) (ms : List Two) → condemned_terms v es ms ≡ terms_of v (targets es) (condemneds ms)
condemned_terms_lem v [] ms = refl
condemned_terms_lem v (e ∷ es) [] = refl
condemned_terms_lem v (e ∷ es) (m ∷ ms) = rw (condemned_terms_lem v es ms)

with_init_lem : (start : Bool) (n : ℕ) (ts : List ℕ) → or_all n (cond start (lit init ∷ ts) ts) ≡ or_begun start n ts
with_init_lem true n ts = refl
with_init_lem false n ts = refl

happy_or_lem : (n v : ℕ) (es : List Edge) (ms : List Two) → happy_or n v es ms ≡ vertex_happy n (targets es) (happies ms) v
unfolding happy_or vertex_happy
happy_or_lem n v es ms = rw (happy_terms_lem v es ms) (with_init_lem (eqb v 0) n (terms_of v (targets es) (happies ms)))

condemned_or_lem : (n v : ℕ) (es : List Edge) (ms : List Two) → condemned_or n v es ms ≡ vertex_condemned n (targets es) (condemneds ms) v
unfolding condemned_or vertex_condemned
condemned_or_lem n v es ms = rw (condemned_terms_lem v es ms)

-- a piece of the definition is one of the loops'
pub record Is (p : Pieces) (g : Gathers) : Type 0 where
  pub gates : p.gates ≡ g.gates
  pub happy : happies p.outs ≡ g.happy
  pub condemned : condemneds p.outs ≡ g.condemned

pub vertices-are : (es : List Edge) (ms : List Two) (k n v : ℕ) → Is (vertex_pieces n es ms v k) (vertices_of n (targets es) (happies ms) (condemneds ms) v k)
unfolding vertex_of
vertices-are es ms zero n v = record { gates = refl; happy = refl; condemned = refl }
vertices-are es ms (suc k) n v =
    let h = vertex_happy n (targets es) (happies ms) v in
    let d = vertex_condemned (n + length h.gates) (targets es) (condemneds ms) v in
    let m : n + length (h.gates ++ d.gates) ≡ n + length h.gates + length d.gates = omega (arith, length-append h.gates d.gates) in
    let r = vertices-are es ms k (n + length h.gates + length d.gates) (suc v) in
    rw (happy_or_lem n v es ms, condemned_or_lem (n + length h.gates) v es ms, m)
    (record {
      gates = rw r.gates (sym (append_assoc h.gates d.gates _));
      happy = rw r.happy;
      condemned = rw r.condemned;
    })

-- 3. edges
zip_two : (vs : List Two) (v : ℕ) → get_or vs v (two 0 0) ≡ two (get_or (happies vs) v 0) (get_or (condemneds vs) v 0)
zip_two [] v = refl
zip_two (t ∷ vs) zero = refl
zip_two (t ∷ vs) (suc v) = zip_two vs v

pub edges_are : (s : ℕ) (vs : List Two) (es : List Edge) (n : ℕ) → Is (edge_pieces s n vs es) (edges_of s n (happies vs) (condemneds vs) es)
unfolding edge_of
edges_are s vs [] n = record { gates = refl; happy = refl; condemned = refl }
edges_are s vs (e ∷ es) n =
    let p = edge_piece s n (two (get_or (happies vs) e.from 0) (get_or (condemneds vs) e.from 0)) e in
    let r = edges_are s vs es (n + length p.gates) in
    let z : get_or vs e.from (two 0 0) ≡ two (get_or (happies vs) e.from 0) (get_or (condemneds vs) e.from 0) = zip_two vs e.from in
    rw z (record { gates = rw r.gates; happy = rw r.happy; condemned = rw r.condemned })

accept_terms_lem : (g : Graph) (es : List Edge) (ms : List Two) → accept_terms g es ms ≡ map inv (terms_of 1 (marks (chosen g es)) (condemneds ms))
accept_terms_lem g [] ms = refl
accept_terms_lem g (e ∷ es) [] = refl
accept_terms_lem g (e ∷ es) (m ∷ ms) = by (is_terminal g e) _ _ (accept_terms_lem g es ms)
  where
    by : (x : Bool) (zs bs : List ℕ) → zs ≡ map inv bs → cond x (inv m.condemned ∷ zs) zs ≡ map inv (cond (eqb (mark_of x) 1) (m.condemned ∷ bs) bs)
    by true zs bs q = rw q
    by false zs bs q = q

accept-is : (g : Graph) (es : List Edge) (ms : List Two) (n : ℕ) → and_all n (accept_terms g es ms) ≡ accept_of n (marks (chosen g es)) (condemneds ms)
unfolding accept_of
accept-is g es ms n = rw (accept_terms_lem g es ms) (and_all_lem (terms_of 1 (marks (chosen g es)) (condemneds ms)) n)

-- 5. checked: an edge that is not terminal has no gate, and its key keeps its literal out of the chain
record Alive (p : Bits) (keys : List ℕ) (a : Bits) : Type 0 where
  gates : p.gates ≡ a.gates
  outs : p.outs ≡ terms_of 1 keys a.outs

alive-more : (x : Bool) (m : Two) (ts : List Two) (ks hs ds : List ℕ) (n : ℕ) → Alive (alives n ts) ks (alives_of n ks hs ds) → Alive (alives (suc n) ts) ks (alives_of (suc n) ks hs ds) →
    Alive (alives n (cond x (m ∷ ts) ts)) (mark_of x ∷ ks) (alives_of n (mark_of x ∷ ks) (m.happy ∷ hs) (m.condemned ∷ ds))
unfolding alive_of
alive-more true m ts ks hs ds n a b = record { gates = rw (add-one n, b.gates); outs = rw (add-one n, b.outs) }
alive-more false m ts ks hs ds n a b = record { gates = rw (add-zero n) a.gates; outs = rw (add-zero n) a.outs }

alives-are : (g : Graph) (es : List Edge) (ms : List Two) (n : ℕ) → Alive (alives n (terminal_twos g es ms)) (marks (chosen g es)) (alives_of n (marks (chosen g es)) (happies ms) (condemneds ms))
alives-are g [] ms n = record { gates = refl; outs = refl }
alives-are g (e ∷ es) [] n = record { gates = refl; outs = refl }
alives-are g (e ∷ es) (m ∷ ms) n = alive-more (is_terminal g e) m (terminal_twos g es ms) (marks (chosen g es)) (happies ms) (condemneds ms) n (alives-are g es ms n) (alives-are g es ms (suc n))

checked-is : (g : Graph) (es : List Edge) (ms : List Two) (n : ℕ) → checked_from n (terminal_twos g es ms) ≡ checked_of n (marks (chosen g es)) (happies ms) (condemneds ms)
unfolding checked_of
checked-is g es ms n = let a = alives-are g es ms n in rw (a.gates, a.outs)

-- ---- the whole

module _ (checked : Bool) (s : ℕ) (hs ds ms : List ℕ) (es : List Edge) (n m : ℕ) (e : m ≡ n + length (edges_of s n hs ds es).gates) where
  pub judge_parts : Splits (judge_gates checked s n hs ds ms es) (edges_of s n hs ds es).gates (ends_of checked m ms (edges_of s n hs ds es).happy (edges_of s n hs ds es).condemned).gates
  unfolding judge_gates ends_after
  judge_parts = record { is = rw e }

  pub judge_ends : ends_after checked s n hs ds ms es ≡ ends_of checked m ms (edges_of s n hs ds es).happy (edges_of s n hs ds es).condemned
  unfolding ends_after
  judge_ends = rw e

module _ (checked : Bool) (s vertices : ℕ) (es : List Edge) (l f n : ℕ) {ts : List ℕ} {edges : ℕ} (et : ts ≡ targets es) (ee : edges ≡ length es) (e : n ≡ f + length (gather_gates ts vertices edges l f)) where
  pub monitor_parts : Splits (monitor_gates checked s vertices es l f) (gather_gates ts vertices edges l f)
      (judge_gates checked s n (gather_of ts vertices edges l f).happy (gather_of ts vertices edges l f).condemned (marks es) es)
  unfolding monitor_gates
  monitor_parts = record { is = rw (e, et, ee) }

pub monitor_made : (checked : Bool) (s vertices : ℕ) (es : List Edge) (l : ℕ) {ts : List ℕ} {edges : ℕ} → ts ≡ targets es → edges ≡ length es → {a b c : Gates} {r : Outputs} {hs ds : List ℕ}
    → Added a b (gather_gates ts vertices edges l a.next.0)
    → JudgeMade checked b c r hs ds s (gather_of ts vertices edges l a.next.0).happy (gather_of ts vertices edges l a.next.0).condemned (marks es) es
    → MonitorMade checked a c r hs ds s vertices es l
unfolding monitor_ends monitor_edges
monitor_made checked s vertices es l et ee {a} g j =
    record {
      gates = whole_of (monitor_parts checked s vertices es l a.next.0 _ et ee g.count) g j.gates;
      accepts = rw (g.count, et, ee) at j.accepts;
      seconds = rw (g.count, et, ee) at j.seconds;
      happies = rw (g.count, et, ee) at j.happies;
      condemneds = rw (g.count, et, ee) at j.condemneds;
    }

pairs_are : (ts : List Two) → edge_latches ts ≡ edge_pairs (happies ts) (condemneds ts)
pairs_are [] = refl
pairs_are (t ∷ ts) = ap (λ (r : List ℕ). t.happy ∷ 0 ∷ t.condemned ∷ 0 ∷ r) (pairs_are ts)

module _ (g : Graph) where
  abbrev es : List Edge
  es = g.edges

  -- the edges as the code holds them
  abbrev cs : List Edge
  cs = chosen g es

  abbrev s : ℕ
  s = signal_bits g

  abbrev v : ℕ
  v = length g.vertices

  abbrev l : ℕ
  l = first_edge_latch g

  abbrev f : ℕ
  f = first_gate g

  masked-is : (masked g).gates ≡ mask_gates l (2 * length cs)
  unfolding masked
  masked-is = rw (length-chosen g es) (masks-gates es f l)

  gathered-is : Is (gathered g) (gather_of (targets cs) v (length cs) l f)
  unfolding gathered masked gather_of
  gathered-is =
      subst (Is (gathered g))
      (rw (masks-happy es f l, masks-condemned es f l, masked-is, ← add-one f, targets-chosen g es, length-chosen g es))
      (vertices-are es (masked g).outs v (f + length (masked g).gates) 0)

  gates-is : f + length (masked g).gates + length (gathered g).gates ≡ f + length (gather_gates (targets cs) v (length cs) l f)
  unfolding gather_gates
  gates-is =
      let e = length-append (mask_gates l (2 * length cs)) (gather_of (targets cs) v (length cs) l f).gates in
      omega (arith, e, ap length masked-is, ap length gathered-is.gates)

  judged-is : Is (judged g) (monitor_edges s v cs l f)
  unfolding judged monitor_edges
  judged-is =
      subst (Is (judged g))
      (rw (gathered-is.happy, gathered-is.condemned, gates-is) (sym (edges-chosen g s _ _ es _)))
      (edges_are s (gathered g).outs es (f + length (masked g).gates + length (gathered g).gates))

  -- the gates in front of the edges', the edges, the variable behind their gates, and accept
  abbrev before : List Gate
  before = gather_gates (targets cs) v (length cs) l f

  abbrev arcs : Gathers
  arcs = monitor_edges s v cs l f

  abbrev after : ℕ
  after = f + length before + length arcs.gates

  abbrev accept : Piece
  accept = accept_of after (marks cs) arcs.condemned

  accepted-is : accepted g ≡ accept
  unfolding accepted
  accepted-is = rw (gates-is, judged-is.gates, accept-is g es (judged g).outs _, judged-is.condemned)

  gates_of_lem : gates_of g ≡ before ++ (arcs.gates ++ accept.gates)
  unfolding gates_of gather_gates
  gates_of_lem =
      rw (masked-is, gathered-is.gates, judged-is.gates, accepted-is)
      (sym (append_assoc (mask_gates l (2 * length cs)) (gather_of (targets cs) v (length cs) l f).gates _))

  checked_piece_lem : checked_piece g ≡ checked_of (after + length accept.gates) (marks cs) arcs.happy arcs.condemned
  unfolding checked_piece
  checked_piece_lem =
      let n : f + length (gates_of g) ≡ after + length accept.gates =
      omega (arith, ap length gates_of_lem, length-append before (arcs.gates ++ accept.gates), length-append arcs.gates accept.gates) in
      rw (n, checked-is g es (judged g).outs (after + length accept.gates), judged-is.happy, judged-is.condemned)

  -- THE LOOPS STORE THE MONITOR
  pub gates-are : (checked : Bool) → gates_with checked g ≡ monitor_gates checked s v cs l f
  unfolding monitor_gates judge_gates ends_after monitor_edges ends_of
  gates-are true = rw (gates_of_lem, checked_piece_lem, append_assoc before (arcs.gates ++ accept.gates) _, append_assoc arcs.gates accept.gates _)
  gates-are false = gates_of_lem

  pub outputs-are : (checked : Bool) → outputs_with checked g ≡ outputs_of (monitor_ends checked s v cs l f).accept (monitor_ends checked s v cs l f).second
  unfolding monitor_ends ends_after monitor_edges ends_of
  outputs-are true = rw (accepted-is, checked_piece_lem)
  outputs-are false = rw accepted-is

  pub latches-are : edge_latches (judged g).outs ≡ edge_pairs (monitor_edges s v cs l f).happy (monitor_edges s v cs l f).condemned
  latches-are = pairs_are (judged g).outs ∙ rw (judged-is.happy, judged-is.condemned)
