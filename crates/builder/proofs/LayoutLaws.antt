-- Header, latches and outputs stored one after another stand in front of the gates. Assumes nothing.
use Rattle.std.specs.Prelude.{Option, Some, None, is_some}
use Rattle.netlist.specs.declared.literals.Literal.{Literal}
use Rattle.builder.specs.Private.Terms.{ends_of}
use mathlib.Core.Path.{◌≡◌, refl, sym, ap, ◌∙◌}
use mathlib.Core.Bool.{Bool, true, false}
use mathlib.Core.List.{List, [], ◌∷◌, ◌++◌, append_assoc, append-nil}
use Prim.Native.Nat.{ℕ, zero, suc, ◌+◌, ◌-◌, ◌*◌, ◌≤◌}
use native.Mathlib.Nat.{zero-add}
use native.Mathlib.Numerals.{add-one}
use native.Mathlib.Omega.{arith}
use lib.ListN.{length, take, drop, set, length-append, length-drop}
use lib.Seq.{sets, length-sets, sets-eq, drop_at, drop-drop, length-take-le, take-length, drop-length}
use borrow.Rule.Slice.PartMut.{put_mid, same_len_mid}
use Rattle.text.proofs.WriterLaws.{sets-append}
use Rattle.assertion.specs.Graph.{Bytes, Edge}
use Rattle.graph.specs.declared.CheckedGraph.{CheckedGraph}
use Rattle.circuit.specs.Numbers.{constant_latches, operands}
use Rattle.builder.specs.Private.Edges.{edges_in, edge_of, edges_of, GraphGood}
use Rattle.builder.specs.Private.Monitor.{told, monitor_ends, ends_after, edge_pairs, outputs_of, outputs_asked, header_of, front_of, monitor_gates, monitor_edges, GatesStored, latch_in, gate_in, gates_in, front_in, numbers_in}
use Rattle.builder.specs.declared.layout.Stored.{Stored}
use Rattle.builder.proofs.AddingLaws.{words-length}
use Rattle.builder.proofs.EdgeLaws.{edges-count}

constants-length : (k l : ℕ) → length (constant_latches l k) ≡ 2 * k
constants-length zero l = refl
constants-length (suc k) l = omega (arith, constants-length k (suc l))

pairs_length : (hs ds : List ℕ) → length ds ≡ length hs → length (edge_pairs hs ds) ≡ 4 * length hs
pairs_length [] ds h = refl
pairs_length (x ∷ hs) [] h = absurd (omega arith)
pairs_length (x ∷ hs) (y ∷ ds) h = omega (arith, pairs_length hs ds (omega arith))

outputs-length : (o : ℕ) (t : Option ℕ) → length (outputs_of o t) ≡ outputs_asked (is_some t)
outputs-length o (Some t) = refl
outputs-length o None = refl

pub told-is : (l : Option Literal) → is_some (told l) ≡ is_some l
told-is (Some l) = refl
told-is None = refl

-- the outputs stored one after another
pub two_stored : (net : List ℕ) (q o : ℕ) (m : Option Literal) (x : Literal) → m ≡ Some x → set (set net q o) (q + 1) x.0 ≡ sets net q (outputs_of o (told m))
two_stored net q o m x e = rw (e, add-one q)

pub one_stored : (net : List ℕ) (q o : ℕ) (m : Option Literal) → m ≡ None → set net q o ≡ sets net q (outputs_of o (told m))
one_stored net q o m e = rw e

module _ (hs ds : List ℕ) (s k e a o : ℕ) (t : Option ℕ) (hl : length hs ≡ e) (dl : length ds ≡ e) where
  pub front_length : length (front_of s k e a hs ds o t) ≡ 5 + outputs_asked (is_some t) + 2 * k + 4 * e
  unfolding front_of
  front_length =
      omega (
        arith,
        length-append (constant_latches (2 + s) k) (edge_pairs hs ds ++ outputs_of o t),
        length-append (edge_pairs hs ds) (outputs_of o t),
        outputs-length o t,
        constants-length k (2 + s),
        pairs_length hs ds (dl ∙ sym hl),
      )

  -- stored one after another
  pub front-all : (net : List ℕ) (p q : ℕ) → p ≡ 5 + 2 * k → q ≡ p + 4 * e →
      sets (sets (sets (sets net 0 (header_of (1 + s) (k + 2 * e) (outputs_asked (is_some t)) a)) 5 (constant_latches (2 + s) k)) p (edge_pairs hs ds)) q (outputs_of o t)
      ≡ sets net 0 (front_of s k e a hs ds o t)
  unfolding front_of
  front-all net p q ep eq =
      let H = header_of (1 + s) (k + 2 * e) (outputs_asked (is_some t)) a in
      let C = constant_latches (2 + s) k in
      let L = edge_pairs hs ds in
      let O = outputs_of o t in
      let c : p ≡ 5 + length C = omega (arith, constants-length k (2 + s)) in
      let d : q ≡ p + length L = omega (arith, pairs_length hs ds (dl ∙ sym hl)) in
      ap (λ (i : ℕ). sets (sets (sets (sets net 0 H) 5 C) p L) i O) d
      ∙ sets-append L O (sets (sets net 0 H) 5 C) p
      ∙ ap (λ (i : ℕ). sets (sets (sets net 0 H) 5 C) i (L ++ O)) c
      ∙ sets-append C (L ++ O) (sets net 0 H) 5
      ∙ sets-append H (C ++ (L ++ O)) net 0

-- ---- the front and the gates
at_front : (vs l : List ℕ) → length vs ≤ length l → sets l 0 vs ≡ vs ++ drop (length vs) l
at_front vs l h = let e : 0 + length vs ≤ length l = omega arith in sets-eq vs l 0 e ∙ rw (zero-add (length vs))

pub whole : (net front ops : List ℕ) (base : ℕ) → length front ≡ base → base + length ops ≤ length net →
    sets (take base net ++ sets (drop base net) 0 ops) 0 front ≡ (front ++ ops) ++ drop (length (front ++ ops)) net
whole net front ops base e h =
    let t : length (take base net) ≡ base = length-take-le base net (omega arith) in
    let d : length ops ≤ length (drop base net) = rw length-drop (omega arith) in
    let o : sets (drop base net) 0 ops ≡ ops ++ drop (length ops) (drop base net) = at_front ops (drop base net) d in
    let k : length front ≤ length (take base net ++ sets (drop base net) 0 ops) = omega (arith, t, length-append (take base net) (sets (drop base net) 0 ops)) in
    let n : length (front ++ ops) ≡ base + length ops = length-append front ops ∙ ap (λ (i : ℕ). i + length ops) e in
    at_front front (take base net ++ sets (drop base net) 0 ops) k
    ∙ rw (e, drop_at (take base net) (sets (drop base net) 0 ops) base t, o, drop-drop (length ops) base net, n) (sym (append_assoc front ops (drop (base + length ops) net)))

-- the same where the gates were stored into a lent part of the buffer
whole_part : (net front ops : List ℕ) (base : ℕ) → length front ≡ base → base + length ops ≤ length net →
    sets (put_mid base (length net - base) net (sets (take (length net - base) (drop base net)) 0 ops)) 0 front ≡ (front ++ ops) ++ drop (length (front ++ ops)) net
whole_part net front ops base e h =
    rw (← length-drop base net, take-length (drop base net), drop-length (drop base net), append-nil (sets (drop base net) 0 ops)) (whole net front ops base e h)

-- ---- of a checked graph
outs-length : (s : ℕ) (hs ds : List ℕ) (es : List Edge) (n : ℕ) → (length (edges_of s n hs ds es).happy ≡ length es) × (length (edges_of s n hs ds es).condemned ≡ length es)
outs-length s hs ds [] n = (refl, refl)
outs-length s hs ds (e ∷ es) n = let r = outs-length s hs ds es (n + length (edge_of s n hs ds e).gates) in (ap suc r.0, ap suc r.1)

monitor_outs : (s v : ℕ) (es : List Edge) (l f : ℕ) → (length (monitor_edges s v es l f).happy ≡ length es) × (length (monitor_edges s v es l f).condemned ≡ length es)
unfolding monitor_edges
monitor_outs s v es l f = outs-length s _ _ es _

-- there is a second output where checked is asked for
pub second-is : (checked : Bool) (s vertices : ℕ) (es : List Edge) (l f : ℕ) → is_some (monitor_ends checked s vertices es l f).second ≡ checked
unfolding monitor_ends ends_after ends_of
second-is true s vertices es l f = refl
second-is false s vertices es l f = refl

module _ (checked : Bool) (text : Bytes) (g : CheckedGraph) (good : GraphGood text g) where
  abbrev base : ℕ
  base = 5 + outputs_asked checked + 2 * g.constants + 4 * g.edges

  front_in_lem : length (front_in checked text g) ≡ base
  unfolding front_in
  front_in_lem =
      let n = edges-count text g (omega (arith, good.arcs, good.edges)) in
      let o = monitor_outs g.signals g.vertices (edges_in text g) (latch_in g) (gate_in g) in
      let m = monitor_edges g.signals g.vertices (edges_in text g) (latch_in g) (gate_in g) in
      let e = monitor_ends checked g.signals g.vertices (edges_in text g) (latch_in g) (gate_in g) in
      rw (second-is checked g.signals g.vertices (edges_in text g) (latch_in g) (gate_in g))
      at (front_length m.happy m.condemned g.signals g.constants g.edges (length (gates_in checked text g)) e.accept e.second (o.0 ∙ n) (o.1 ∙ n))

  pub numbers-length : length (numbers_in checked text g) ≡ base + 2 * length (gates_in checked text g)
  unfolding numbers_in
  numbers-length = omega (arith, length-append (front_in checked text g) (operands (gates_in checked text g)), front_in_lem, words-length (gates_in checked text g))

  module _ (net : List ℕ) (long : length (numbers_in checked text g) ≤ length net) where
    module _ {part hs ds : List ℕ} {r : Stored} (m : GatesStored checked (take (length net - base) (drop base net)) part r hs ds g.signals g.vertices (edges_in text g) (latch_in g) (gate_in g)) where
      pub still : base ≤ length (put_mid base (length net - base) net part)
      still =
          let ops = operands (monitor_gates checked g.signals g.vertices (edges_in text g) (latch_in g) (gate_in g)) in
          let same : length part ≡ length (take (length net - base) (drop base net)) = ap length m.words ∙ length-sets (take (length net - base) (drop base net)) 0 ops in
          omega (arith, numbers-length, same_len_mid base (length net - base) net part same)

      pub asked : is_some r.made.second ≡ checked
      asked = sym (told-is r.made.second) ∙ ap (λ (o : Option ℕ). is_some o) m.seconds ∙ second-is checked g.signals g.vertices (edges_in text g) (latch_in g) (gate_in g)

      pub many : r.count ≡ length (gates_in checked text g)
      unfolding gates_in
      many = m.count

      pub all_stored :
          sets (put_mid base (length net - base) net part) 0 (front_of g.signals g.constants g.edges r.count hs ds r.made.accept.0 (told r.made.second))
          ≡ numbers_in checked text g ++ drop (length (numbers_in checked text g)) net
      unfolding numbers_in front_in gates_in
      all_stored =
          rw (m.happies, m.condemneds, m.accepts, m.seconds, m.count, m.words)
          (whole_part net (front_in checked text g) (operands (gates_in checked text g)) base front_in_lem (omega (arith, numbers-length, words-length (gates_in checked text g))))
