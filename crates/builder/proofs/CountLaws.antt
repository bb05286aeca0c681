-- The gates counted by the arrays of a checked graph are those of its formula. Assumes nothing.
use mathlib.Core.Path.{◌≡◌, refl, sym, ap, ◌∙◌}
use mathlib.Core.Bool.{Bool, true, false, cond, ◌||◌}
use mathlib.Core.List.{List, [], ◌∷◌, ◌++◌}
use mathlib.Core.Logic.{⊎_elim}
use Prim.Native.Nat.{ℕ, zero, suc, ◌+◌, ◌-◌, ◌*◌, ◌/◌, ◌≤◌, ◌<◌}
use Rattle.std.proofs.Common.{min, Some}
use native.Mathlib.Numerals.{add-one}
use native.Mathlib.Omega.{arith}
use borrow.Author.Tests.{ne_eqb, eqb-true, lt-ltb, le-ltb}
use lib.Dec.{eqb, ltb}
use lib.ListN.{length, get_or, take, replicate, length-append, length-take}
use lib.Seq.{take_at, get_or-take}
use Rattle.std.specs.List.{sum_by, count_by, range_with_len}
use Rattle.std.proofs.lemmas.List.Sums.{sum_by-cons, sum_by-append, sum_by_push}
use Rattle.assertion.specs.Graph.{Bytes, Run, Expr, Name, truth, signal, constant, neg, conj, disj, xor, same, Edge, Graph, bits_of, is_terminal}
use Rattle.assertion.specs.Graph as G
use Rattle.formula.specs.declared.Formula.{Formula}
use Rattle.formula.specs.declared.Start.TheVariants.{Bit}
use Rattle.formula.specs.Classes.{pick, strength_of, start_of}
use Rattle.formula.specs.Grammar.{Tree, name, bit_of, alike, bit, not, group, join, Parsed, none, tree, tree_of}
use Rattle.formula.specs.Reading.{name_word, bit_word, alike_word, byte_word, postfix, padded, answer_of, formula_of}
use Rattle.formula.proofs.PostfixLaws.{NameIn, InField, name-place, name-length, name_word-small, byte_word-large, byte_word-back, byte_word-small, bit_word-large, bit_word-small, alike_word-large, alike_word-left, field-short, in_field, words-few}
use Rattle.graph.specs.Pieces.{Declared, placed, place_in, width_in}
use Rattle.graph.specs.Reading.{joined, symbol, run_of, found_at, names_of, resolved, accepted, graph_of}
use Rattle.graph.specs.Private.Steps.{listed, name_found}
use Rattle.graph.specs.Held.{held_as, held_of, no_arc}
use Rattle.graph.specs.declared.Arc.{Arc}
use Rattle.graph.specs.declared.CheckedGraph.{CheckedGraph}
use Rattle.graph.specs.Claims.{FormulaAt, FormulaSound, EdgeSound, Sound}
use Rattle.graph.proofs.HeldLaws.{sound}
use Rattle.circuit.specs.Count.{formula_gates, all_formula_gates, incoming, entered, terminals, gate_formula, gate_formula_with}
use Rattle.builder.specs.Private.Machine.{byte_gates, word_gates, read_gates, field_gates, arc_gates, is_reached, terminals_of, gates_by}
use Rattle.builder.proofs.FormulaLaws.{bit_is}

-- the sum over a list, term by term that of another
module _ {A B : Type 0} (g : A → ℕ) (h : B → ℕ) (total : List B → ℕ) (zero_is : total [] ≡ 0) (more : (y : B) (l : List B) → total (y ∷ l) ≡ h y + total l) (d : A) (e : B) where
  pub same_sums : (l : List A) (m : List B) → length l ≡ length m → ((i : ℕ) → i < length m → g (get_or l i d) ≡ h (get_or m i e)) → sum_by g l ≡ total m
  same_sums [] [] k like = sym zero_is
  same_sums [] (y ∷ m) k like = absurd (omega arith)
  same_sums (x ∷ l) [] k like = absurd (omega arith)
  same_sums (x ∷ l) (y ∷ m) k like =
      rw (sum_by-cons g x l, like 0 (omega arith), same_sums l m (omega arith) (λ i n. like (suc i) (omega arith))) (sym (more y m))

-- ---- one word
module _ (b : ℕ) where
  pub byte-and : b ≡ 38 → byte_gates b ≡ 1
  unfolding byte_gates
  byte-and e = rw e

  pub byte_or : b ≡ 124 → byte_gates b ≡ 1
  unfolding byte_gates
  byte_or e = rw e

  pub byte-xor : b ≡ 94 → byte_gates b ≡ 3
  unfolding byte_gates
  byte-xor e = rw e

  pub byte-same : b ≡ 61 → byte_gates b ≡ 3
  unfolding byte_gates
  byte-same e = rw e

  pub byte-other : (b ≡ 38 → ⊥) → (b ≡ 124 → ⊥) → (b ≡ 94 → ⊥) → (b ≡ 61 → ⊥) → byte_gates b ≡ 0
  unfolding byte_gates
  byte-other h k l m = rw (ne_eqb b 38 h, ne_eqb b 124 k, ne_eqb b 94 l, ne_eqb b 61 m)

module _ (ns : List Declared) (s : Bytes) (w : ℕ) where
  pub gates-name : w < 4096 → word_gates ns s w ≡ 0
  unfolding word_gates
  gates-name h = rw (lt-ltb w 4096 h)

  pub gates-byte : 4096 ≤ w → w < 8192 → word_gates ns s w ≡ byte_gates (w - 4096)
  unfolding word_gates
  gates-byte l h = rw (le-ltb w 4096 l, lt-ltb w 8192 h)

  pub gates-bit : 8192 ≤ w → w < 16777216 → word_gates ns s w ≡ 0
  unfolding word_gates
  gates-bit l h = rw (le-ltb w 4096 (omega arith), le-ltb w 8192 l, lt-ltb w 16777216 h)

  pub gates-alike : 16777216 ≤ w → word_gates ns s w ≡ 4 * width_in (name_found ns s ((w - 16777216) / 4096)) - 1
  unfolding word_gates
  gates-alike l = rw (le-ltb w 4096 (omega arith), le-ltb w 8192 (omega arith), le-ltb w 16777216 l)

-- ---- one field
read-few : (t : Parsed) (s : Bytes) {f : Formula} → tree_of s ≡ t → answer_of t ≡ Some f → (f.count ≤ 255) × (f.count ≤ length f.words)
unfolding answer_of padded
read-few none s h e = cc
read-few (tree t) s {f} h e =
    let count : f.count ≡ length (postfix t) = cc in
    let words : f.words ≡ postfix t ++ replicate (255 - length (postfix t)) 0 = cc in
    rw (count, words) (words-few s t h, omega (arith, length-append (postfix t) (replicate (255 - length (postfix t)) 0)))

pub words-room : (s : Bytes) {f : Formula} → formula_of s ≡ Some f → (f.count ≤ 255) × (f.count ≤ length f.words)
unfolding formula_of
words-room s e = read-few (tree_of s) s refl e

-- ---- the words of a tree
plain_byte : (b : ℕ) → start_of b ≡ Bit → byte_gates b ≡ 0
unfolding byte_gates
plain_byte b h = ⊎_elim (λ (e : b ≡ 48). rw e) (λ (e : b ≡ 49). rw e) (bit_is b h)

not_byte : byte_gates 33 ≡ 0
unfolding byte_gates
not_byte = refl

operator_small : (b : ℕ) → 0 < strength_of b → b < 256
unfolding strength_of
operator_small b h = at (eqb b 38) (eqb b 94) (eqb b 124) (eqb b 61) refl refl refl refl h
  where
    at : (t u v w : Bool) → eqb b 38 ≡ t → eqb b 94 ≡ u → eqb b 124 ≡ v → eqb b 61 ≡ w → 0 < pick t 4 (pick u 3 (pick v 2 (pick w 1 0))) → b < 256
    at true u v w p q r o k = omega (arith, eqb-true b 38 p)
    at false true v w p q r o k = omega (arith, eqb-true b 94 q)
    at false false true w p q r o k = omega (arith, eqb-true b 124 r)
    at false false false true p q r o k = omega (arith, eqb-true b 61 o)
    at false false false false p q r o k = absurd (omega arith)

bit-small : (b : ℕ) → start_of b ≡ Bit → b < 256
bit-small b h = ⊎_elim (λ (e : b ≡ 48). omega arith) (λ (e : b ≡ 49). omega arith) (bit_is b h)

symbol-gates : (m i : ℕ) → formula_gates (symbol m i) ≡ 0
unfolding symbol formula_gates
symbol-gates m i = at (ltb i m)
  where
    at : (t : Bool) → formula_gates (pick t (signal i) (constant (i - m))) ≡ 0
    at true = refl
    at false = refl

truth-gates : (b : Bool) → formula_gates (truth b) ≡ 0
unfolding formula_gates
truth-gates b = refl

alike-gates : (x y : Run) (w : ℕ) → formula_gates (G.alike x y w) ≡ 4 * w - 1
unfolding formula_gates
alike-gates x y w = refl

neg-gates : (x : Expr) → formula_gates (neg x) ≡ formula_gates x
unfolding formula_gates
neg-gates x = refl

joined-gates : (b : ℕ) (x y : Expr) → 0 < strength_of b → formula_gates (joined b x y) ≡ formula_gates x + formula_gates y + byte_gates b
unfolding joined byte_gates strength_of formula_gates
joined-gates b x y h = at (eqb b 38) (eqb b 124) (eqb b 94) (eqb b 61) h
  where
    at : (t u v w : Bool) → 0 < pick t 4 (pick v 3 (pick u 2 (pick w 1 0))) → formula_gates (pick t (conj x y) (pick u (disj x y) (pick v (xor x y) (same x y)))) ≡ formula_gates x + formula_gates y + pick t 1 (pick u 1 (pick v 3 (pick w 3 0)))
    at true u v w k = refl
    at false true v w k = refl
    at false false true w k = refl
    at false false false true k = refl
    at false false false false k = absurd (omega arith)

-- the words of a formula in the field s, ns the names
module _ (ns : List Declared) (s : Bytes) where
  abbrev all_words : List ℕ → ℕ
  all_words = sum_by (word_gates ns s)

  byte_gates_lem : (b : ℕ) → b < 256 → word_gates ns s (byte_word b) ≡ byte_gates b
  byte_gates_lem b h = gates-byte ns s (byte_word b) (byte_word-large b) (byte_word-small b h) ∙ ap byte_gates (byte_word-back b)

  -- a word of a byte after others
  all-byte : (a : List ℕ) (b : ℕ) → b < 256 → all_words (a ++ (byte_word b ∷ [])) ≡ all_words a + byte_gates b
  all-byte a b h = sum_by_push (word_gates ns s) a (byte_word b) ∙ ap (λ (n : ℕ). all_words a + n) (byte_gates_lem b h)

  read_gates_lem : (e : Tree) → tree_of s ≡ tree e → read_gates ns s (formula_of s) ≡ all_words (postfix e)
  unfolding read_gates formula_of answer_of padded
  read_gates_lem e h = rw h (ap all_words (take_at (postfix e) (replicate (255 - length (postfix e)) 0) (length (postfix e)) refl))

  module _ (m : ℕ) (short : length s ≤ 255) where
    word_small : (p n : ℕ) → NameIn s p n → name_word p n < 4096
    word_small p n h = name_word-small s p n short h

    left-found : (p n q k : ℕ) → NameIn s p n → NameIn s q k → found_at ns s p n ≡ name_found ns s ((alike_word p n q k - 16777216) / 4096)
    left-found p n q k h i = rw (alike_word-left p n q k (word_small p n h) (word_small q k i), name-place p n h.short, name-length p n h.short)

    tree-gates : (e : Tree) → InField s e → all_words (postfix e) ≡ formula_gates (resolved m ns s e)
    unfolding postfix resolved
    tree-gates (name p n) h =
        omega (arith, gates-name ns s (name_word p n) (word_small p n h), symbol-gates m (place_in (found_at ns s p n)))
    tree-gates (bit_of p n i) h =
        omega (arith, gates-bit ns s (bit_word p n i) (bit_word-large p n i) (bit_word-small p n i (word_small p n h)), symbol-gates m ((place_in (found_at ns s p n)) + i))
    tree-gates (alike p n q k) h =
        let l = found_at ns s p n in
        omega (
          arith,
          gates-alike ns s (alike_word p n q k) (alike_word-large p n q k),
          ap width_in (left-found p n q k h.0 h.1),
          alike-gates (run_of m (place_in l)) (run_of m (place_in (found_at ns s q k))) (width_in l),
        )
    tree-gates (bit b) h = omega (arith, byte_gates_lem b (bit-small b h), plain_byte b h, truth-gates (eqb b 49))
    tree-gates (not e) h = omega (arith, all-byte (postfix e) 33 (omega arith), not_byte, tree-gates e h, neg-gates (resolved m ns s e))
    tree-gates (group e) h = tree-gates e h
    tree-gates (join b e e2) h =
        omega (
          arith,
          all-byte (postfix e ++ postfix e2) b (operator_small b h.0),
          sum_by-append (word_gates ns s) (postfix e) (postfix e2),
          tree-gates e h.1,
          tree-gates e2 h.2,
          joined-gates b (resolved m ns s e) (resolved m ns s e2) h.0,
        )

formula_gates_lem : (text : Bytes) (p n : ℕ) (ss cs : List Name) (s : Bytes) (x : Expr) → FormulaAt text p n s → FormulaSound ss cs s x → field_gates text (placed 0 (ss ++ cs)) p n ≡ formula_gates x
unfolding field_gates
formula_gates_lem text p n ss cs s x a f =
    let ns = placed 0 (ss ++ cs) in
    let e = f.parse in
    let h = f.parsed in
    rw a.bytes (read_gates_lem ns s e h ∙ tree-gates ns s (bits_of ss) (field-short s e h) e (in_field s e h) ∙ sym (ap formula_gates f.resolves))

-- ---- all edges
abbrev no_edge : Edge
no_edge =
    record {
      from = 0;
      to = 0;
      marked = false;
      antecedent = truth false;
      consequent = truth false;
      antecedent_text = [];
      consequent_text = [];
    }

module _ (v : ℕ) where
  reached_step : (b : Bool) (l : List Arc) (es : List Edge) → cond (is_reached l v) 1 0 ≡ min 1 (incoming v es) → cond (b || is_reached l v) 1 0 ≡ min 1 (cond b 1 0 + incoming v es)
  reached_step true l es h = omega arith
  reached_step false l es h = omega arith

  reached-as : (l : List Arc) (es : List Edge) → length l ≡ length es → ((i : ℕ) → i < length es → (get_or l i no_arc).to ≡ (get_or es i no_edge).to)
      → cond (is_reached l v) 1 0 ≡ min 1 (incoming v es)
  reached-as [] [] k h = refl
  reached-as [] (e ∷ es) k h = absurd (omega arith)
  reached-as (a ∷ l) [] k h = absurd (omega arith)
  reached-as (a ∷ l) (e ∷ es) k h =
      let e0 : a.to ≡ e.to = h 0 (omega arith) in
      rw e0 (reached_step (eqb e.to v) l es (reached-as l es (omega arith) (λ i n. h (suc i) (omega arith))))

module _ (text : Bytes) {graph : Graph} (s : Sound text graph) where
  abbrev edges_sound : (i : ℕ) → i < length graph.edges → EdgeSound text graph.signals graph.constants graph.vertices (is_terminal graph (get_or graph.edges i no_edge)) (get_or (held_of text graph).arcs i no_arc) (get_or graph.edges i no_edge)
  edges_sound i l = s.edge_at i no_edge l

  abbrev arcs : List Arc
  arcs = take (length graph.edges) (held_of text graph).arcs

  arcs-many : length arcs ≡ length graph.edges
  arcs-many = rw length-take (omega (arith, s.arcs-long, s.edges_few))

  abbrev arc_at : (i : ℕ) → i < length graph.edges → get_or arcs i no_arc ≡ get_or (held_of text graph).arcs i no_arc
  arc_at i l = get_or-take (length graph.edges) (held_of text graph).arcs i no_arc l

  -- an edge goes to v where one or more do
  reached-is : (v : ℕ) → cond (is_reached arcs v) 1 0 ≡ min 1 (incoming v graph.edges)
  reached-is v = reached-as v arcs graph.edges arcs-many (λ i l. rw arc_at (edges_sound i l).to_is)

  entered-is : (k v : ℕ) → count_by (is_reached arcs) (range_with_len v k) ≡ entered v k graph.edges
  entered-is zero v = refl
  entered-is (suc k) v = rw (sum_by-cons (λ x. cond (is_reached arcs x) 1 0) v (range_with_len (v + 1) k), add-one v, reached-is v, entered-is k (suc v))

  terminals-is : terminals_of arcs ≡ terminals graph graph.edges
  terminals-is =
      same_sums (λ a. cond a.terminal 1 0) (λ e. cond (is_terminal graph e) 1 0) (terminals graph) refl (λ e es. refl) no_arc no_edge arcs graph.edges arcs-many
      (λ i l. rw (arc_at, (edges_sound i l).terminal-is))

  formulas_is : sum_by (arc_gates text (names_of graph)) arcs ≡ all_formula_gates graph.edges
  unfolding arc_gates
  formulas_is =
      same_sums (arc_gates text (names_of graph)) (λ e. formula_gates e.antecedent + formula_gates e.consequent) all_formula_gates refl (λ e es. refl) no_arc no_edge arcs graph.edges arcs-many
      (λ i l.
      let w = edges_sound i l in
      let a = get_or (held_of text graph).arcs i no_arc in
      let e = get_or graph.edges i no_edge in
      rw (arc_at, formula_gates_lem text a.left a.lefts graph.signals graph.constants e.antecedent_text e.antecedent w.antecedent-at w.antecedent_sound, formula_gates_lem text a.right a.rights graph.signals graph.constants e.consequent_text e.consequent w.consequent-at w.consequent_sound))

  edges-held : (held_of text graph).edges ≡ length graph.edges
  unfolding held_of held_as
  edges-held = refl

  vertices-held : (held_of text graph).vertices ≡ length graph.vertices
  unfolding held_of held_as
  vertices-held = refl

  names-held : listed text (held_of text graph).names (held_of text graph).named ≡ names_of graph
  unfolding held_of held_as
  names-held = s.names-held

  held-counted : (checked : Bool) → gates_by checked text (held_of text graph) ≡ gate_formula_with checked graph
  unfolding gates_by gate_formula gate_formula_with
  held-counted checked =
      let z : length graph.vertices - 0 ≡ length graph.vertices = omega arith in
      rw (edges-held, vertices-held, z, entered-is (length graph.vertices - 1) 1, entered-is (length graph.vertices) 0, terminals-is, names-held, formulas_is)

-- THE LAW: the gates counted by the arrays of an accepted text are those of the formula, with checked or without
pub counted : (checked : Bool) (text : Bytes) {g : CheckedGraph} (graph : Graph) → graph_of text ≡ accepted graph → g ≡ held_of text graph → gates_by checked text g ≡ gate_formula_with checked graph
counted checked text graph h e = rw e (held-counted text (sound text h) checked)
