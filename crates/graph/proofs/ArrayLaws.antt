-- Laws of the arrays that hold the graph read so far, one record after another. Assumes nothing.
use Rattle.std.specs.Prelude.{ltb, is_some, Option, Some, None, Result, Ok, Err}
use Prim.Native.Nat.{ℕ, zero, suc, ◌+◌, ◌-◌, ◌≤◌, ◌<◌}
use mathlib.Core.Path.{◌≡◌, refl, sym, ap, subst, ◌∙◌}
use mathlib.Core.Bool.{Bool, true, false}
use mathlib.Core.List.{List, [], ◌∷◌, ◌++◌, append_assoc, append-nil}
use native.Mathlib.Nat.{add-zero}
use native.Mathlib.Numerals.{add-one}
use native.Mathlib.Omega.{arith}
use native.Mathlib.Decide.{dec_lt}
use borrow.Author.Tests.{lt-ltb, le-ltb, le-leb, lt-leb}
use lib.ListN.{length, take, set, replicate, length-append, length-replicate}
use lib.Seq.{take_at, set-append_seam}
use Rattle.assertion.specs.Graph.{Bytes, Name, Edge, Graph, bits_of, signal_bits, constant_bits}
use Rattle.assertion.specs.declared.Mode.{Mode}
use Rattle.graph.specs.Pieces.{place_of, Declared, look_up, look_up_name}
use Rattle.graph.specs.Reading.{mode_lines, add_mode, names_of, judged_formula, lower, sized_name, add_signal, add_constant, add_vertex, edge_of, unless_faulty, judge_edge, add_edge}
use Rattle.graph.specs.Held.{line_of, field_at, field_length, symbol_word, symbols_of, name_places, arc_of, arcs_of, no_arc, filled, held_as}
use Rattle.graph.specs.Private.Steps.{points, held, EachNarrow, named_of, records_of, written_of, Holds, ArcAt, Added, faulty_of, added_of, with_mode, with_signal, with_constant, with_vertex, with_edge}
use Rattle.graph.specs.declared.Fault.{Fault}
use Rattle.graph.specs.declared.Fault.TheVariants.{WrongOrder, TooMany, NameRepeated, UnknownVertex}
use Rattle.graph.specs.declared.FoundName.{FoundName}
use Rattle.graph.specs.declared.Arc.{Arc}
use Rattle.graph.specs.declared.CheckedGraph.{CheckedGraph}
use Rattle.graph.proofs.BitLaws.{bits-append, bits-more, bits_none, bits-some, each_right, placed_narrow}

-- ---- arrays filled from the front
filled_push : {A : Type 0} (n : ℕ) (d : A) (xs : List A) (x : A) → length xs < n → set (filled n d xs) (length xs) x ≡ filled n d (xs ++ (x ∷ []))
unfolding filled
filled_push n d xs x h =
    let e : n - length xs ≡ suc (n - length (xs ++ (x ∷ []))) = omega (arith, length-append xs (x ∷ [])) in
    rw e (set-append_seam xs d (replicate (n - length (xs ++ (x ∷ []))) d) x ∙ sym (append_assoc xs (x ∷ []) (replicate (n - length (xs ++ (x ∷ []))) d)))

pub filled-length : {A : Type 0} (n : ℕ) (d : A) (xs : List A) → length xs ≤ n → length (filled n d xs) ≡ n
unfolding filled
filled-length n d xs h = omega (arith, length-append xs (replicate (n - length xs) d), length-replicate (n - length xs) d)

pub places-length : (text : Bytes) (n c : ℕ) → length (name_places text n c) ≡ c
unfolding name_places
places-length text n zero = refl
places-length text n (suc c) = ap suc (places-length text (n + 1) c)

pub places-more : (text : Bytes) (n c : ℕ) → name_places text n (suc c) ≡ name_places text n c ++ (field_at text (n + c) 1 ∷ [])
unfolding name_places
places-more text n zero = rw (add-zero n)
places-more text n (suc c) =
    let e : n + 1 + c ≡ n + suc c = omega arith in
    ap (λ (l : List ℕ). field_at text n 1 ∷ l) (places-more text (n + 1) c ∙ rw e)

-- a signal or a constant on line n, its first bit at the place p
abbrev pub symbol_at : Bytes → ℕ → ℕ → ℕ → ℕ
symbol_at text n p w = symbol_word (field_at text n 1) (field_length (line_of text n) 1) p w

pub symbols-length : (text : Bytes) (n p : ℕ) (xs : List Name) → length (symbols_of text n p xs) ≡ length xs
unfolding symbols_of
symbols-length text n p [] = refl
symbols-length text n p (x ∷ xs) = ap suc (symbols-length text (n + 1) (p + x.width) xs)

pub symbols-more : (text : Bytes) (n p : ℕ) (xs : List Name) (x : Name) → symbols_of text n p (xs ++ (x ∷ [])) ≡ symbols_of text n p xs ++ (symbol_at text (n + length xs) (p + bits_of xs) x.width ∷ [])
unfolding symbols_of bits_of
symbols-more text n p [] x = rw (add-zero n, add-zero p)
symbols-more text n p (y ∷ xs) x =
    let e : n + 1 + length xs ≡ n + suc (length xs) = omega arith in
    let f : p + y.width + bits_of xs ≡ p + (y.width + bits_of xs) = omega arith in
    ap (λ (l : List ℕ). symbol_at text n p y.width ∷ l) (symbols-more text (n + 1) (p + y.width) xs x ∙ rw (e, f))

module _ (t : Edge → Bool) (text : Bytes) where
  pub arcs-length : (n : ℕ) (es : List Edge) → length (arcs_of t text n es) ≡ length es
  unfolding arcs_of
  arcs-length n [] = refl
  arcs-length n (e ∷ es) = ap suc (arcs-length (n + 1) es)

  arcs-more : (n : ℕ) (es : List Edge) (e : Edge) → arcs_of t text n (es ++ (e ∷ [])) ≡ arcs_of t text n es ++ (arc_of text (n + length es) (t e) e ∷ [])
  unfolding arcs_of
  arcs-more n [] e = rw (add-zero n)
  arcs-more n (d ∷ es) e =
      let z : n + 1 + length es ≡ n + suc (length es) = omega arith in
      ap (λ (l : List Arc). arc_of text n (t d) d ∷ l) (arcs-more (n + 1) es e ∙ rw z)

-- the first are those given
pub places-first : (text : Bytes) (m n c : ℕ) → take c (filled m 0 (name_places text n c)) ≡ name_places text n c
unfolding filled
places-first text m n c = take_at (name_places text n c) (replicate (m - length (name_places text n c)) 0) c (places-length text n c)

places_push : (text : Bytes) (m n c : ℕ) → c < m → set (filled m 0 (name_places text n c)) c (field_at text (n + c) 1) ≡ filled m 0 (name_places text n (c + 1))
places_push text m n c h =
    let l = places-length text n c in
    rw (add-one c, places-more text n c)
    (ap (λ (k : ℕ). set (filled m 0 (name_places text n c)) k (field_at text (n + c) 1)) (sym l) ∙ filled_push m 0 (name_places text n c) (field_at text (n + c) 1) (rw l h))

pub symbols-first : (text : Bytes) (n p : ℕ) (xs : List Name) (c : ℕ) → length xs ≡ c → take c (filled 69 0 (symbols_of text n p xs)) ≡ symbols_of text n p xs
unfolding filled
symbols-first text n p xs c h = take_at (symbols_of text n p xs) (replicate (69 - length (symbols_of text n p xs)) 0) c (symbols-length text n p xs ∙ h)

symbols_push : (text : Bytes) (n : ℕ) (xs : List Name) (x : Name) {c : ℕ} → c ≡ length xs → c < 69 → {y : ℕ} → y ≡ symbol_at text (n + length xs) (bits_of xs) x.width → set (filled 69 0 (symbols_of text n 0 xs)) c y ≡ filled 69 0 (symbols_of text n 0 (xs ++ (x ∷ [])))
symbols_push text n xs x {c} k h {y} e =
    let l = symbols-length text n 0 xs in
    let z : 0 + bits_of xs ≡ bits_of xs = omega arith in
    rw (symbols-more text n 0 xs x, e, z)
    (ap (λ (j : ℕ). set (filled 69 0 (symbols_of text n 0 xs)) j (symbol_at text (n + length xs) (bits_of xs) x.width)) (k ∙ sym l)
    ∙ filled_push 69 0 (symbols_of text n 0 xs) (symbol_at text (n + length xs) (bits_of xs) x.width) (omega (arith, l, k)))

arcs_push : (t : Edge → Bool) (text : Bytes) (n : ℕ) (es : List Edge) (e : Edge) → length es < 128 → set (filled 128 no_arc (arcs_of t text n es)) (length es) (arc_of text (n + length es) (t e) e) ≡ filled 128 no_arc (arcs_of t text n (es ++ (e ∷ [])))
arcs_push t text n es e h =
    let l = arcs-length t text n es in
    rw (arcs-more t text n es e)
    (ap (λ (k : ℕ). set (filled 128 no_arc (arcs_of t text n es)) k (arc_of text (n + length es) (t e) e)) (sym l) ∙ filled_push 128 no_arc (arcs_of t text n es) (arc_of text (n + length es) (t e) e) (rw l h))

pub none_list : {A : Type 0} (l : List A) → length l ≡ 0 → l ≡ []
none_list [] h = refl
none_list (x ∷ l) h = absurd (omega arith)

pub one_more_lem : {A : Type 0} (l : List A) (x : A) → length (l ++ (x ∷ [])) ≡ length l + 1
one_more_lem l x = length-append l (x ∷ [])

graph_is : {m m2 : Mode} {k k2 a a2 b b2 c c2 d d2 : ℕ} {n n2 : List ℕ} {p p2 : List ℕ} {r r2 : List Arc} → m ≡ m2 → k ≡ k2 → a ≡ a2 → b ≡ b2 → c ≡ c2 → d ≡ d2 → n ≡ n2 → p ≡ p2 → r ≡ r2 → ◌≡◌ {A = CheckedGraph} (record { mode = m; named = k; signals = a; constants = b; vertices = c; edges = d; names = n; points = p; arcs = r }) (record { mode = m2; named = k2; signals = a2; constants = b2; vertices = c2; edges = d2; names = n2; points = p2; arcs = r2 })
graph_is m k q r s t u v w = rw (m, k, q, r, s, t, u, v, w)

-- ---- what the arrays hold
-- a vertex that is found has the place that is found
found_place : (n : Bytes) (ms : List Bytes) {p : ℕ} → look_up n ms ≡ Some p → place_of n ms ≡ p
unfolding look_up
found_place n ms {p} e = by (ltb (place_of n ms) (length ms)) e
  where
    by : (t : Bool) → elim t [ true ↦ Some (place_of n ms) | false ↦ None ] ≡ Some p → place_of n ms ≡ p
    by true k = cc
    by false k = let z : ◌≡◌ {A = ℕ} 0 1 = cc in absurd (omega arith)

module _ (text : Bytes) (g : CheckedGraph) (graph : Graph) (h : Holds text g graph) where
  abbrev first : ℕ
  first = mode_lines graph.mode

  mode-is : g.mode ≡ graph.mode
  unfolding held_as
  mode-is = ap (λ (x : CheckedGraph). x.mode) h.arrays

  pub named-is : g.named ≡ named_of graph
  unfolding held_as
  named-is = ap (λ (x : CheckedGraph). x.named) h.arrays

  pub signals-are : g.signals ≡ signal_bits graph
  unfolding held_as
  signals-are = ap (λ (x : CheckedGraph). x.signals) h.arrays

  pub constants-are : g.constants ≡ constant_bits graph
  unfolding held_as
  constants-are = ap (λ (x : CheckedGraph). x.constants) h.arrays

  pub vertices-are : g.vertices ≡ length graph.vertices
  unfolding held_as
  vertices-are = ap (λ (x : CheckedGraph). x.vertices) h.arrays

  pub edges_are : g.edges ≡ length graph.edges
  unfolding held_as
  edges_are = ap (λ (x : CheckedGraph). x.edges) h.arrays

  name_places_lem : g.names ≡ filled 69 0 (symbols_of text first 0 (graph.signals ++ graph.constants))
  unfolding held_as
  name_places_lem = ap (λ (x : CheckedGraph). x.names) h.arrays

  point_places : g.points ≡ filled 64 0 (name_places text (first + named_of graph) (length graph.vertices))
  unfolding held_as
  point_places = ap (λ (x : CheckedGraph). x.points) h.arrays

  arc_places : g.arcs ≡ filled 128 no_arc (arcs_of (λ e. e.marked) text (first + named_of graph + length graph.vertices) graph.edges)
  unfolding held_as
  arc_places = ap (λ (x : CheckedGraph). x.arcs) h.arrays

  both-named : length (graph.signals ++ graph.constants) ≡ named_of graph
  both-named = length-append graph.signals graph.constants

  pub names-are : held text (take g.named g.names) ≡ names_of graph
  names-are = rw (name_places_lem, symbols-first text first 0 (graph.signals ++ graph.constants) g.named (both-named ∙ sym named-is)) h.names

  pub narrow_is : EachNarrow (held text (take g.named g.names))
  narrow_is = subst EachNarrow (sym names-are) (placed_narrow 0 (graph.signals ++ graph.constants) h.widths)

  points-are : points text (take g.vertices g.points) ≡ graph.vertices
  points-are = rw (point_places, vertices-are, places-first text 64 (first + named_of graph) (length graph.vertices)) h.vertices

  -- a name looked up, and a vertex
  named-found : (n : Bytes) {x : Option FoundName} {own : Bytes} → own ≡ n → x ≡ look_up_name own (held text (take g.named g.names)) → look_up_name n (names_of graph) ≡ x
  named-found n o e = rw (← names-are, ← o) (sym e)

  point_found : (n : Bytes) {x : Option ℕ} {own : Bytes} → own ≡ n → x ≡ look_up own (points text (take g.vertices g.points)) → look_up n graph.vertices ≡ x
  point_found n o e = rw (← points-are, ← o) (sym e)

  -- there is a constant just where there is a bit of one
  constants-none : g.constants ≤ 0 → length graph.constants ≡ 0
  unfolding constant_bits
  constants-none l = omega (arith, constants-are, bits-some graph.constants (each_right graph.signals graph.constants h.widths))

  constants-some : 0 < g.constants → 0 < length graph.constants
  unfolding constant_bits
  constants-some l = some graph.constants (omega (arith, constants-are))
    where
      some : (xs : List Name) → 0 < bits_of xs → 0 < length xs
      some [] p = absurd (omega (arith, bits_none [] refl))
      some (x ∷ xs) p = omega arith

  -- ---- the mode
  lines_are : {n : ℕ} → n ≡ mode_lines g.mode → mode_lines graph.mode + length graph.signals + length graph.constants + length graph.vertices + length graph.edges ≡ n + g.named + g.vertices + g.edges
  lines_are e = omega (arith, e, ap mode_lines mode-is, named-is, vertices-are, edges_are)

  module _ (m : Mode) {n : ℕ} (e : n ≡ mode_lines g.mode) where
    pub mode_late : 0 < n + g.named + g.vertices + g.edges → faulty_of g WrongOrder ≡ added_of text g (add_mode graph m)
    unfolding added_of add_mode
    mode_late l = rw (lines_are e, lt-ltb 0 (n + g.named + g.vertices + g.edges) l)

    plus_mode_lem : n + g.named + g.vertices + g.edges ≤ 0 → with_mode g m ≡ written_of text (record { mode = m; signals = graph.signals; constants = graph.constants; vertices = graph.vertices; edges = graph.edges })
    unfolding held_as symbols_of name_places arcs_of signal_bits constant_bits
    plus_mode_lem l =
        let s0 : graph.signals ++ graph.constants ≡ [] = none_list (graph.signals ++ graph.constants) (omega (arith, both-named, named-is)) in
        let v0 : length graph.vertices ≡ 0 = omega (arith, vertices-are) in
        let e0 : graph.edges ≡ [] = none_list graph.edges (omega (arith, edges_are)) in
        graph_is refl named-is signals-are constants-are vertices-are edges_are (name_places_lem ∙ rw s0) (point_places ∙ rw v0) (arc_places ∙ rw e0)

    pub mode_new : n + g.named + g.vertices + g.edges ≤ 0 → ◌≡◌ {A = Added} (record { judged = Ok tt; graph = with_mode g m }) (added_of text g (add_mode graph m))
    unfolding added_of add_mode
    mode_new l = rw (plus_mode_lem l, lines_are e, le-ltb 0 (n + g.named + g.vertices + g.edges) l)

  -- ---- signals
  module _ (n : Bytes) (w : ℕ) where
    abbrev late : ℕ
    late = length graph.constants + length graph.vertices + length graph.edges

    late_none : g.constants + g.vertices + g.edges ≤ 0 → late ≤ 0
    late_none l = omega (arith, constants-none (omega arith), vertices-are, edges_are)

    late_some : 0 < g.constants + g.vertices + g.edges → 0 < late
    late_some l = elim (dec_lt 0 g.constants) [
      | yes c ↦ omega (arith, constants-some c)
      | no c ↦ omega (arith, vertices-are, edges_are)
    ]

    pub signal_late : 0 < g.constants + g.vertices + g.edges → faulty_of g WrongOrder ≡ added_of text g (add_signal graph n w)
    unfolding added_of add_signal
    signal_late l = rw (lt-ltb 0 late (late_some l))

    module _ (l : g.constants + g.vertices + g.edges ≤ 0) where
      pub signal_many : 63 < g.signals + w → faulty_of g TooMany ≡ added_of text g (add_signal graph n w)
      unfolding added_of add_signal
      signal_many m = rw (le-ltb 0 late (late_none l), ← signals-are, lt-ltb 63 (g.signals + w) m)

      module _ (m : g.signals + w ≤ 63) {x : Option FoundName} {own : Bytes} (o : own ≡ n) (e : x ≡ look_up_name own (held text (take g.named g.names))) where
        pub signal_again : is_some x ≡ true → faulty_of g NameRepeated ≡ added_of text g (add_signal graph n w)
        unfolding added_of add_signal
        signal_again k = rw (le-ltb 0 late (late_none l), ← signals-are, le-ltb 63 (g.signals + w) m, named-found n o e, k)

        module _ (few : g.named < 69) (p j : ℕ) (q : p ≡ field_at text (records_of graph) 1) (i : j ≡ field_length (line_of text (records_of graph)) 1) where
          plus_signal_lem : with_signal g p j w ≡ written_of text (record { mode = graph.mode; signals = graph.signals ++ (sized_name n w ∷ []); constants = graph.constants; vertices = graph.vertices; edges = graph.edges })
          unfolding held_as name_places arcs_of signal_bits constant_bits
          plus_signal_lem =
              let z = late_none l in
              let c0 : graph.constants ≡ [] = none_list graph.constants (omega arith) in
              let v0 : length graph.vertices ≡ 0 = omega arith in
              let e0 : graph.edges ≡ [] = none_list graph.edges (omega arith) in
              let r1 : records_of graph ≡ first + length graph.signals = omega arith in
              let s1 : g.named ≡ length graph.signals = omega (arith, named-is) in
              let y : symbol_word p j g.signals w ≡ (symbol_at text (first + length graph.signals) (bits_of graph.signals) w) = rw (q, i, r1, signals-are) in
              graph_is mode-is (omega (arith, named-is, one_more_lem graph.signals (sized_name n w))) (rw (signals-are) (sym (bits-more graph.signals (sized_name n w)))) constants-are vertices-are edges_are
              (rw (name_places_lem, c0, append-nil graph.signals, append-nil (graph.signals ++ (sized_name n w ∷ []))) (symbols_push text first graph.signals (sized_name n w) s1 few y))
              (point_places ∙ rw v0)
              (arc_places ∙ rw e0)

          pub signal_new : is_some x ≡ false → ◌≡◌ {A = Added} (record { judged = Ok tt; graph = with_signal g p j w }) (added_of text g (add_signal graph n w))
          unfolding added_of add_signal
          signal_new k =
              rw (plus_signal_lem, le-ltb 0 late (late_none l), ← signals-are, le-ltb 63 (g.signals + w) m, named-found n o e, k)

    -- ---- constants
    pub constant_late : 0 < g.vertices + g.edges → faulty_of g WrongOrder ≡ added_of text g (add_constant graph n w)
    unfolding added_of add_constant
    constant_late l = rw (← vertices-are, ← edges_are, lt-ltb 0 (g.vertices + g.edges) l)

    module _ (l : g.vertices + g.edges ≤ 0) where
      pub constant_many : 6 < g.constants + w → faulty_of g TooMany ≡ added_of text g (add_constant graph n w)
      unfolding added_of add_constant
      constant_many m = rw (← vertices-are, ← edges_are, le-ltb 0 (g.vertices + g.edges) l, ← constants-are, lt-ltb 6 (g.constants + w) m)

      module _ (m : g.constants + w ≤ 6) {x : Option FoundName} {own : Bytes} (o : own ≡ n) (e : x ≡ look_up_name own (held text (take g.named g.names))) where
        pub constant_again : is_some x ≡ true → faulty_of g NameRepeated ≡ added_of text g (add_constant graph n w)
        unfolding added_of add_constant
        constant_again k = rw (← vertices-are, ← edges_are, le-ltb 0 (g.vertices + g.edges) l, ← constants-are, le-ltb 6 (g.constants + w) m, named-found n o e, k)

        module _ (few : g.named < 69) (p j : ℕ) (q : p ≡ field_at text (records_of graph) 1) (i : j ≡ field_length (line_of text (records_of graph)) 1) where
          plus_constant_lem : with_constant g p j w ≡ written_of text (record { mode = graph.mode; signals = graph.signals; constants = graph.constants ++ (sized_name n w ∷ []); vertices = graph.vertices; edges = graph.edges })
          unfolding held_as name_places arcs_of signal_bits constant_bits
          plus_constant_lem =
              let v0 : length graph.vertices ≡ 0 = omega (arith, vertices-are) in
              let e0 : graph.edges ≡ [] = none_list graph.edges (omega (arith, edges_are)) in
              let s1 : g.named ≡ length (graph.signals ++ graph.constants) = omega (arith, named-is, both-named) in
              let r1 : records_of graph ≡ first + length (graph.signals ++ graph.constants) = omega (arith, ap length e0, both-named) in
              let y : symbol_word p j (g.signals + g.constants) w ≡ (symbol_at text (first + length (graph.signals ++ graph.constants)) (bits_of (graph.signals ++ graph.constants)) w) =
              rw (q, i, r1, signals-are, constants-are, bits-append graph.signals graph.constants) in
              graph_is mode-is (omega (arith, named-is, one_more_lem graph.constants (sized_name n w))) signals-are (rw (constants-are) (sym (bits-more graph.constants (sized_name n w)))) vertices-are edges_are
              (rw (name_places_lem, ← append_assoc graph.signals graph.constants (sized_name n w ∷ [])) (symbols_push text first (graph.signals ++ graph.constants) (sized_name n w) s1 few y))
              (point_places ∙ rw v0)
              (arc_places ∙ rw e0)

          pub constant_new : is_some x ≡ false → ◌≡◌ {A = Added} (record { judged = Ok tt; graph = with_constant g p j w }) (added_of text g (add_constant graph n w))
          unfolding added_of add_constant
          constant_new k =
              rw (plus_constant_lem, ← vertices-are, ← edges_are, le-ltb 0 (g.vertices + g.edges) l, ← constants-are, le-ltb 6 (g.constants + w) m, named-found n o e, k)

  -- ---- vertices
  module _ (n : Bytes) where
    pub vertex_late : 0 < g.edges → faulty_of g WrongOrder ≡ added_of text g (add_vertex graph n)
    unfolding added_of add_vertex
    vertex_late l = rw (← edges_are, lt-ltb 0 g.edges l)

    module _ (l : g.edges ≤ 0) where
      pub vertex_many : 64 ≤ g.vertices → faulty_of g TooMany ≡ added_of text g (add_vertex graph n)
      unfolding added_of add_vertex
      vertex_many m = rw (← edges_are, le-ltb 0 g.edges l, ← vertices-are, le-leb 64 g.vertices m)

      module _ (m : g.vertices < 64) {x : Option ℕ} {own : Bytes} (o : own ≡ n) (e : x ≡ look_up own (points text (take g.vertices g.points))) where
        pub vertex_again : is_some x ≡ true → faulty_of g NameRepeated ≡ added_of text g (add_vertex graph n)
        unfolding added_of add_vertex
        vertex_again k = rw (← edges_are, le-ltb 0 g.edges l, ← vertices-are, lt-leb 64 g.vertices m, point_found n o e, k)

        module _ (p : ℕ) (q : p ≡ field_at text (records_of graph) 1) where
          plus_vertex_lem : with_vertex g p ≡ written_of text (record { mode = graph.mode; signals = graph.signals; constants = graph.constants; vertices = graph.vertices ++ (n ∷ []); edges = graph.edges })
          unfolding held_as name_places arcs_of signal_bits constant_bits
          plus_vertex_lem =
              let e0 : graph.edges ≡ [] = none_list graph.edges (omega (arith, edges_are)) in
              let r1 : records_of graph ≡ first + named_of graph + length graph.vertices = omega (arith, ap length e0) in
              graph_is mode-is named-is signals-are constants-are (omega (arith, vertices-are, one_more_lem graph.vertices n)) edges_are name_places_lem
              (rw (point_places, vertices-are, q, r1, one_more_lem graph.vertices n) (places_push text 64 (first + named_of graph) (length graph.vertices) (omega (arith, vertices-are))))
              (arc_places ∙ rw e0)

          pub vertex_new : is_some x ≡ false → ◌≡◌ {A = Added} (record { judged = Ok tt; graph = with_vertex g p }) (added_of text g (add_vertex graph n))
          unfolding added_of add_vertex
          vertex_new k = rw (plus_vertex_lem, ← edges_are, le-ltb 0 g.edges l, ← vertices-are, lt-leb 64 g.vertices m, point_found n o e, k)

  -- ---- edges
  abbrev listed : List Declared
  listed = held text (take g.named g.names)

  module _ (from to : ℕ) (marked : Bool) (a c : Bytes) {x : Result Unit Fault} (j : x ≡ lower (judged_formula listed a) (judged_formula listed c)) where
    both : lower (judged_formula (names_of graph) a) (judged_formula (names_of graph) c) ≡ x
    both = rw (← names-are) (sym j)

    pub edge-fault : {f : Fault} → x ≡ Err f → faulty_of g f ≡ added_of text g (judge_edge graph from to marked a c)
    unfolding added_of judge_edge unless_faulty
    edge-fault k = rw (both, k)

  same_arc : (e : Arc) → ArcAt text (records_of graph) e → (a c : Bytes) → e ≡ arc_of text (records_of graph) e.terminal (edge_of graph e.from e.to e.terminal a c)
  unfolding arc_of edge_of
  same_arc e w a c = rw (← w.left, ← w.lefts, ← w.right, ← w.rights)

  plus : (e : Arc) → ArcAt text (records_of graph) e → g.edges < 128 → (a c : Bytes) → with_edge g e ≡ written_of text (record { mode = graph.mode; signals = graph.signals; constants = graph.constants; vertices = graph.vertices; edges = graph.edges ++ (edge_of graph e.from e.to e.terminal a c ∷ []) })
  unfolding held_as arc_of edge_of signal_bits constant_bits
  plus e w l a c =
      graph_is mode-is named-is signals-are constants-are vertices-are (omega (arith, edges_are, one_more_lem graph.edges (edge_of graph e.from e.to e.terminal a c))) name_places_lem point_places
      (rw (arc_places, edges_are, arc_is) (arcs_push (λ e. e.marked) text (first + named_of graph + length graph.vertices) graph.edges (edge_of graph e.from e.to e.terminal a c) (omega (arith, edges_are))))
    where
      arc_is : e ≡ arc_of text (records_of graph) e.terminal (edge_of graph e.from e.to e.terminal a c)
      arc_is = same_arc e w a c

  pub edge_new : (e : Arc) → ArcAt text (records_of graph) e → g.edges < 128 → (a c : Bytes) {x : Result Unit Fault} → x ≡ lower (judged_formula listed a) (judged_formula listed c) → x ≡ Ok tt → ◌≡◌ {A = Added} (record { judged = Ok tt; graph = with_edge g e }) (added_of text g (judge_edge graph e.from e.to e.terminal a c))
  unfolding added_of judge_edge unless_faulty
  edge_new e w l a c {x} j k = rw (plus_edge_lem, both e.from e.to e.terminal a c j, k)
    where
      plus_edge_lem : with_edge g e ≡ written_of text (record { mode = graph.mode; signals = graph.signals; constants = graph.constants; vertices = graph.vertices; edges = graph.edges ++ (edge_of graph e.from e.to e.terminal a c ∷ []) })
      plus_edge_lem = plus e w l a c

  module _ (from to : Bytes) (marked : Bool) (a c : Bytes) where
    pub edge_many : 128 ≤ g.edges → faulty_of g TooMany ≡ added_of text g (add_edge graph from to marked a c)
    unfolding added_of add_edge
    edge_many l = rw (← edges_are, le-leb 128 g.edges l)

    module _ (few : g.edges < 128) {f : Option ℕ} (hf : f ≡ look_up from (points text (take g.vertices g.points))) where
      pub edge-from : f ≡ None → faulty_of g UnknownVertex ≡ added_of text g (add_edge graph from to marked a c)
      unfolding added_of add_edge
      edge-from k = rw (← edges_are, lt-leb 128 g.edges few, point_found from refl hf, k)

      module _ {p : ℕ} (ok : f ≡ Some p) {t : Option ℕ} (ht : t ≡ look_up to (points text (take g.vertices g.points))) where
        pub edge_to : t ≡ None → faulty_of g UnknownVertex ≡ added_of text g (add_edge graph from to marked a c)
        unfolding added_of add_edge
        edge_to k = rw (← edges_are, lt-leb 128 g.edges few, point_found from refl hf, ok, point_found to refl ht, k)

        pub edge-known : {q : ℕ} → t ≡ Some q → judge_edge graph p q marked a c ≡ add_edge graph from to marked a c
        unfolding add_edge
        edge-known k =
            let p = found_place from graph.vertices (point_found from refl hf ∙ ok) in
            let q = found_place to graph.vertices (point_found to refl ht ∙ k) in
            rw (← edges_are, lt-leb 128 g.edges few, p, q, point_found from refl hf, ok, point_found to refl ht, k)
