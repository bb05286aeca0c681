-- How long an accepted graph text is at least: four bytes for each vertex and twelve for each edge; and that a refused
-- one names a line that it has. Assumes nothing.
use Rattle.std.specs.Prelude.{is_some, Result, Ok, Err}
use mathlib.Core.Path.{◌≡◌, refl, subst}
use mathlib.Core.Bool.{Bool, true, false}
use mathlib.Core.List.{List, [], ◌∷◌, ◌++◌}
use Prim.Native.Nat.{ℕ, zero, suc, ◌+◌, ◌*◌, ◌≤◌, ◌<◌}
use native.Mathlib.Omega.{arith}
use borrow.Author.Tests.{ltb-false, eqb-false}
use lib.Dec.{eqb, ltb, leb}
use lib.ListN.{length, length-append}
use Rattle.text.specs.Quoted.{bytes}
use Rattle.formula.specs.Classes.{pick, is_name}
use Rattle.formula.specs.Grammar.{and_then, operand_of, expression_of, whole, tree_of}
use Rattle.assertion.specs.Graph.{Bytes, Edge, Graph, signal_bits, constant_bits}
use Rattle.assertion.specs.declared.Mode.{Mode}
use Rattle.assertion.specs.declared.Mode.TheVariants.{Terminal, Strong}
use Rattle.graph.specs.declared.Fault.{Fault}
use Rattle.graph.specs.declared.Fault.TheVariants.{WrongShape, WrongOrder, TooMany, NameRepeated, UnknownVertex, NotFormula, TooDeep, UnknownName, WrongWidth}
use Rattle.graph.specs.declared.Cause.{Cause}
use Rattle.graph.specs.declared.Cause.TheVariants.{TextTooLong, FaultyLine, NoVertex}
use Rattle.graph.specs.Pieces.{onto, split, same, look_up, place_of, Declared, look_up_name}
use Rattle.graph.specs.Records.{Record, shapeless, mode, signal, constant, vertex, edge, moded, width_of, sized, named, marked, edged, of_fields, record_of}
use Rattle.graph.specs.Reading.{refusal_of, fault_number, names_of, judged_tree, judged_formula, lower, Step, fault, went, mode_lines, add_mode, sized_name, add_signal, add_constant, add_vertex, edge_of, unless_faulty, judge_edge, add_edge, add, refused, accepted, finished, read_lines, nothing, graph_of}

-- ---- the pieces of a text: their bytes, and one for the byte after each
total : List Bytes → ℕ
total [] = 0
total (p ∷ ps) = length p + 1 + total ps

onto_total : (c : ℕ) (ps : List Bytes) (n : ℕ) → total ps ≡ suc n → total (onto c ps) ≡ suc (suc n)
unfolding onto total
onto_total c [] n e = absurd (omega arith)
onto_total c (p ∷ ps) n e = omega arith

split_total : (b : ℕ) (s : Bytes) → total (split b s) ≡ suc (length s)
unfolding split total
split_total b [] = refl
split_total b (c ∷ s) = go (split_total b s) (eqb c b)
  where
    go : total (split b s) ≡ suc (length s) → (t : Bool)
        → total (elim t [ true ↦ [] ∷ split b s | false ↦ onto c (split b s) ]) ≡ suc (suc (length s))
    go e true = omega (arith, e)
    go e false = onto_total c (split b s) (length s) e

-- ---- what a record adds
size : Graph → ℕ
size g = 4 * length g.vertices + 12 * length g.edges

-- a step that went on adds at most t
Adds : Graph → ℕ → Step → Type 0
Adds g t s = (h : Graph) → s ≡ went h → size h ≤ size g + t

adds-fault : (g : Graph) (t : ℕ) (f : Fault) → Adds g t (fault f)
unfolding Adds
adds-fault g t f h e = let z : ◌≡◌ {A = ℕ} 0 1 = cc in absurd (omega arith)

adds-graph : (g : Graph) (t : ℕ) (n : Graph) → size n ≤ size g + t → Adds g t (went n)
unfolding Adds
adds-graph g t n l h e = let q : n ≡ h = cc in subst (λ (x : Graph). size x ≤ size g + t) q l

-- a record that one test lets through, and one that three do
adds_unless : (g : Graph) (t : ℕ) (a : Bool) (f : Fault) (n : Graph) → size n ≤ size g + t → Adds g t (pick a (fault f) (went n))
adds_unless g t true f n l = adds-fault g t f
adds_unless g t false f n l = adds-graph g t n l

adds_tested : (g : Graph) (t : ℕ) (a b c : Bool) (f1 f2 f3 : Fault) (n : Graph) → size n ≤ size g + t
    → Adds g t (pick a (fault f1) (pick b (fault f2) (pick c (fault f3) (went n))))
adds_tested g t true b c f1 f2 f3 n l = adds-fault g t f1
adds_tested g t false true c f1 f2 f3 n l = adds-fault g t f2
adds_tested g t false false c f1 f2 f3 n l = adds_unless g t c f3 n l

module _ (g : Graph) (t : ℕ) where
  same_size : 4 * length g.vertices + 12 * length g.edges ≤ size g + t
  unfolding size
  same_size = omega arith

  mode-adds : (m : Mode) → Adds g t (add_mode g m)
  unfolding add_mode size
  mode-adds m =
      adds_unless g t (ltb 0 (mode_lines g.mode + length g.signals + length g.constants + length g.vertices + length g.edges)) WrongOrder
      (record { mode = m; signals = g.signals; constants = g.constants; vertices = g.vertices; edges = g.edges }) same_size

  signal_adds : (n : Bytes) (w : ℕ) → Adds g t (add_signal g n w)
  unfolding add_signal size
  signal_adds n w =
      adds_tested g t (ltb 0 (length g.constants + length g.vertices + length g.edges)) (ltb 63 (signal_bits g + w)) (is_some (look_up_name n (names_of g)))
      WrongOrder TooMany NameRepeated
      (record { mode = g.mode; signals = g.signals ++ (sized_name n w ∷ []); constants = g.constants; vertices = g.vertices; edges = g.edges }) same_size

  constant-adds : (n : Bytes) (w : ℕ) → Adds g t (add_constant g n w)
  unfolding add_constant size
  constant-adds n w =
      adds_tested g t (ltb 0 (length g.vertices + length g.edges)) (ltb 6 (constant_bits g + w)) (is_some (look_up_name n (names_of g)))
      WrongOrder TooMany NameRepeated
      (record { mode = g.mode; signals = g.signals; constants = g.constants ++ (sized_name n w ∷ []); vertices = g.vertices; edges = g.edges }) same_size

  vertex-adds : (n : Bytes) → 4 ≤ t → Adds g t (add_vertex g n)
  unfolding add_vertex size
  vertex-adds n h =
      let l : 4 * length (g.vertices ++ (n ∷ [])) + 12 * length g.edges ≤ size g + t = omega (arith, length-append g.vertices (n ∷ [])) in
      adds_tested g t (ltb 0 (length g.edges)) (leb 64 (length g.vertices)) (is_some (look_up n g.vertices))
      WrongOrder TooMany NameRepeated
      (record { mode = g.mode; signals = g.signals; constants = g.constants; vertices = g.vertices ++ (n ∷ []); edges = g.edges }) l

  -- an edge that was taken has two formulas, and none is empty
  fine-some : (ns : List Declared) (s : Bytes) → judged_formula ns s ≡ (Ok tt) → 1 ≤ length s
  unfolding judged_tree tree_of whole expression_of operand_of and_then
  fine-some ns [] e = let z : ◌≡◌ {A = ℕ} 0 1 = cc in absurd (omega arith)
  fine-some ns (b ∷ s) e = omega arith

  both-fine : (a b : Result Unit Fault) → lower a b ≡ (Ok tt) → (a ≡ (Ok tt)) × (b ≡ (Ok tt))
  unfolding lower
  both-fine (Ok tt) b e = (refl, e)
  both-fine (Err f) (Ok tt) e = let z : ◌≡◌ {A = ℕ} 0 1 = cc in absurd (omega arith)
  both-fine (Err f) (Err k) e = let z : ◌≡◌ {A = ℕ} 0 1 = cc in absurd (omega arith)

  fine-adds : (j : Result Unit Fault) (e : Edge) → (j ≡ (Ok tt) → 12 ≤ t) → Adds g t (unless_faulty j g e)
  unfolding unless_faulty size
  fine-adds (Ok tt) e h =
      let k = h refl in
      let l : 4 * length g.vertices + 12 * length (g.edges ++ (e ∷ [])) ≤ size g + t = omega (arith, length-append g.edges (e ∷ [])) in
      adds-graph g t (record { mode = g.mode; signals = g.signals; constants = g.constants; vertices = g.vertices; edges = g.edges ++ (e ∷ []) }) l
  fine-adds (Err f) e h = adds-fault g t f

  edge-adds : (f v : Bytes) (m : Bool) (a c : Bytes) → (1 ≤ length a → 1 ≤ length c → 12 ≤ t) → Adds g t (add_edge g f v m a c)
  unfolding add_edge judge_edge
  edge-adds f v m a c h =
      tested (leb 128 (length g.edges)) (is_some (look_up f g.vertices)) (is_some (look_up v g.vertices))
      (lower (judged_formula (names_of g) a) (judged_formula (names_of g) c))
      (edge_of g (place_of f g.vertices) (place_of v g.vertices) m a c)
      (λ e. let p = both-fine (judged_formula (names_of g) a) (judged_formula (names_of g) c) e in
      h (fine-some (names_of g) a p.0) (fine-some (names_of g) c p.1))
    where
      tested : (x y z : Bool) (j : Result Unit Fault) (e : Edge) → (j ≡ (Ok tt) → 12 ≤ t)
          → Adds g t (pick x (fault TooMany) (pick y (pick z (unless_faulty j g e) (fault UnknownVertex)) (fault UnknownVertex)))
      tested true y z j e k = adds-fault g t TooMany
      tested false false z j e k = adds-fault g t UnknownVertex
      tested false true false j e k = adds-fault g t UnknownVertex
      tested false true true j e k = fine-adds j e k

-- ---- a line
one_byte : (s : Bytes) (b : ℕ) → same s (b ∷ []) ≡ true → length s ≡ 1
unfolding same
one_byte [] b e = let z : ◌≡◌ {A = ℕ} 0 1 = cc in absurd (omega arith)
one_byte (c ∷ []) b e = refl
one_byte (c ∷ d ∷ s) b e = go (eqb c b) e
  where
    go : (t : Bool) → elim t [ true ↦ false | false ↦ false ] ≡ true → suc (suc (length s)) ≡ 1
    go true e = let z : ◌≡◌ {A = ℕ} 0 1 = cc in absurd (omega arith)
    go false e = let z : ◌≡◌ {A = ℕ} 0 1 = cc in absurd (omega arith)

name-some : (n : Bytes) → is_name n ≡ true → 1 ≤ length n
unfolding is_name
name-some [] e = let z : ◌≡◌ {A = ℕ} 0 1 = cc in absurd (omega arith)
name-some (b ∷ s) e = omega arith

module _ (g : Graph) where
  abbrev AddsRecord : ℕ → Record → Type 0
  AddsRecord t r = Adds g t (add g r)

  shapeless-adds : (t : ℕ) → AddsRecord t shapeless
  unfolding add
  shapeless-adds t = adds-fault g t WrongShape

  abbrev two : Bytes → Bytes → ℕ
  two k n = length k + 1 + (length n + 1 + 0)

  moded-adds : (t : ℕ) (w : Bytes) → AddsRecord t (moded w)
  unfolding moded add
  moded-adds t w = go (same w (bytes "terminal")) (same w (bytes "strong"))
    where
      go : (a b : Bool) → AddsRecord t (pick a (mode Terminal) (pick b (mode Strong) shapeless))
      go true b = mode-adds g t Terminal
      go false true = mode-adds g t Strong
      go false false = shapeless-adds t

  sized-adds : (t : ℕ) (k n : Bytes) (w : ℕ) → AddsRecord t (sized k n w)
  unfolding sized add
  sized-adds t k n w = go (is_name n) (eqb w 0) (same k (83 ∷ [])) (same k (75 ∷ []))
    where
      go : (a z b c : Bool) → AddsRecord t (pick a (pick z shapeless (pick b (signal n w) (pick c (constant n w) shapeless))) shapeless)
      go false z b c = shapeless-adds t
      go true true b c = shapeless-adds t
      go true false true c = signal_adds g t n w
      go true false false true = constant-adds g t n w
      go true false false false = shapeless-adds t

  named-adds : (k n : Bytes) → AddsRecord (two k n) (named k n)
  unfolding named add
  named-adds k n = go (same k (77 ∷ [])) (same k (86 ∷ [])) refl (is_name n) refl
    where
      go : (m d : Bool) → same k (86 ∷ []) ≡ d → (a : Bool) → is_name n ≡ a → AddsRecord (two k n) (pick m (moded n) (pick d (pick a (vertex n) shapeless) (sized k n 1)))
      go true d q a p = moded-adds (two k n) n
      go false true q true p = vertex-adds g (two k n) n (omega (arith, one_byte k 86 q, name-some n p))
      go false true q false p = shapeless-adds (two k n)
      go false false q a p = sized-adds (two k n) k n 1

  abbrev six : Bytes → Bytes → Bytes → Bytes → Bytes → Bytes → ℕ
  six k f v m a c = length k + 1 + (length f + 1 + (length v + 1 + (length m + 1 + two a c)))

  edged-adds : (k f v m a c : Bytes) → AddsRecord (six k f v m a c) (edged k f v m a c)
  unfolding edged marked add
  edged-adds k f v m a c =
      go (same k (69 ∷ [])) refl (is_name f) refl (is_name v) refl (same m (116 ∷ [])) refl (same m (45 ∷ [])) refl
    where
      go : (x : Bool) → same k (69 ∷ []) ≡ x → (y : Bool) → is_name f ≡ y → (z : Bool) → is_name v ≡ z
          → (p : Bool) → same m (116 ∷ []) ≡ p → (q : Bool) → same m (45 ∷ []) ≡ q
          → AddsRecord (six k f v m a c) (pick x (pick y (pick z (pick p (edge f v true a c) (pick q (edge f v false a c) shapeless)) shapeless) shapeless) shapeless)
      go false ex y ey z ez p ep q eq = shapeless-adds (six k f v m a c)
      go true ex false ey z ez p ep q eq = shapeless-adds (six k f v m a c)
      go true ex true ey false ez p ep q eq = shapeless-adds (six k f v m a c)
      go true ex true ey true ez true ep q eq =
          edge-adds g (six k f v m a c) f v true a c (λ i j. omega (arith, one_byte k 69 ex, name-some f ey, name-some v ez, one_byte m 116 ep))
      go true ex true ey true ez false ep true eq =
          edge-adds g (six k f v m a c) f v false a c (λ i j. omega (arith, one_byte k 69 ex, name-some f ey, name-some v ez, one_byte m 45 eq))
      go true ex true ey true ez false ep false eq = shapeless-adds (six k f v m a c)

  fields-add : (fs : List Bytes) → AddsRecord (total fs) (of_fields fs)
  unfolding of_fields total
  fields-add [] = shapeless-adds _
  fields-add (k ∷ []) = shapeless-adds _
  fields-add (k ∷ n ∷ []) = named-adds k n
  fields-add (k ∷ n ∷ w ∷ []) = sized-adds _ k n (width_of w)
  fields-add (k ∷ f ∷ v ∷ m ∷ []) = shapeless-adds _
  fields-add (k ∷ f ∷ v ∷ m ∷ a ∷ []) = shapeless-adds _
  fields-add (k ∷ f ∷ v ∷ m ∷ a ∷ c ∷ []) = edged-adds k f v m a c
  fields-add (k ∷ f ∷ v ∷ m ∷ a ∷ c ∷ x ∷ xs) = shapeless-adds _

  line-adds : (line : Bytes) → AddsRecord (suc (length line)) (record_of line)
  unfolding record_of
  line-adds line = subst (λ (t : ℕ). AddsRecord t (record_of line)) (split_total 9 line) (fields-add (split 9 line))

-- ---- the whole text
record Sized (g h : Graph) (t : ℕ) : Type 0 where
  some : 1 ≤ length h.vertices
  small : size h + 1 ≤ size g + t

finished-size : (g h : Graph) → finished g ≡ accepted h → Sized g h 1
unfolding finished
finished-size g h e = go (eqb (length g.vertices) 0) refl e
  where
    ne_zero : (n : ℕ) → (n ≡ 0 → ⊥) → 1 ≤ n
    ne_zero zero v = absurd (v refl)
    ne_zero (suc n) v = omega arith

    go : (b : Bool) → eqb (length g.vertices) 0 ≡ b → pick b (refused NoVertex) (accepted g) ≡ accepted h → Sized g h 1
    go true k e = let z : ◌≡◌ {A = ℕ} 0 1 = cc in absurd (omega arith)
    go false k e =
        let q : g ≡ h = cc in
        let v = eqb-false (length g.vertices) 0 k in
        subst (λ (x : Graph). Sized g x 1) q (record { some = ne_zero (length g.vertices) v; small = omega arith })

-- every line but what stands after the last LF adds a record
lines-size : (g : Graph) (n : ℕ) (line : Bytes) (more : List Bytes) (h : Graph) → read_lines g n (line ∷ more) ≡ accepted h → Sized g h (total (line ∷ more))
unfolding read_lines total Adds
lines-size g n [] [] h e = finished-size g h e
lines-size g n (b ∷ bs) [] h e = let z : ◌≡◌ {A = ℕ} 0 1 = cc in absurd (omega arith)
lines-size g n line (next ∷ more) h e = go (add g (record_of line)) (line-adds g line) (λ k. lines-size k (n + 1) next more h) e
  where
    go : (s : Step) → Adds g (suc (length line)) s → ((k : Graph) → read_lines k (n + 1) (next ∷ more) ≡ accepted h → Sized k h (total (next ∷ more)))
        → elim s [ fault f ↦ refused (FaultyLine f n) | went k ↦ read_lines k (n + 1) (next ∷ more) ] ≡ accepted h
        → Sized g h (length line + 1 + total (next ∷ more))
    go (fault f) a r e = let z : ◌≡◌ {A = ℕ} 0 1 = cc in absurd (omega arith)
    go (went k) a r e = let l = a k refl in let m = r k e in record { some = m.some; small = omega (arith, l, m.small) }

read-size : (ls : List Bytes) (n : ℕ) (h : Graph) → total ls ≡ suc n → read_lines nothing 1 ls ≡ accepted h → (1 ≤ length h.vertices) × (size h ≤ n)
unfolding total size
read-size [] n h t e = absurd (omega arith)
read-size (line ∷ more) n h t e = let m = lines-size nothing 1 line more h e in (m.some, omega (arith, m.small, t))

pub graph-size : (text : Bytes) (g : Graph) → graph_of text ≡ accepted g → (1 ≤ length g.vertices) × (4 * length g.vertices + 12 * length g.edges ≤ length text)
unfolding graph_of size
graph-size text g e = go (ltb 32768 (length text)) e
  where
    go : (b : Bool) → pick b (refused TextTooLong) (read_lines nothing 1 (split 10 text)) ≡ accepted g
        → (1 ≤ length g.vertices) × (size g ≤ length text)
    go true e = let z : ◌≡◌ {A = ℕ} 0 1 = cc in absurd (omega arith)
    go false e = read-size (split 10 text) (length text) g (split_total 10 text) e

-- ---- the line that a refusal names: 0, or one that the text has
finished-line : (g : Graph) (cause : Cause) → finished g ≡ refused cause → (refusal_of cause).line ≡ 0
unfolding finished refusal_of
finished-line g cause e = go (eqb (length g.vertices) 0) e
  where
    go : (b : Bool) → pick b (refused NoVertex) (accepted g) ≡ refused cause → (refusal_of cause).line ≡ 0
    go true e = let q : NoVertex ≡ cause = cc in subst (λ (c : Cause). (refusal_of c).line ≡ 0) q refl
    go false e = let z : ◌≡◌ {A = ℕ} 0 1 = cc in absurd (omega arith)

named-line : (f : Fault) (n : ℕ) (cause : Cause) → refused (FaultyLine f n) ≡ refused cause → (refusal_of cause).line ≡ n
unfolding refusal_of
named-line f n cause e = let q : FaultyLine f n ≡ cause = cc in subst (λ (c : Cause). (refusal_of c).line ≡ n) q refl

lines-line : (g : Graph) (n : ℕ) (ls : List Bytes) (cause : Cause) → read_lines g n ls ≡ refused cause → (refusal_of cause).line ≤ n + total ls
unfolding read_lines total
lines-line g n [] cause e = omega (arith, finished-line g cause e)
lines-line g n ([] ∷ []) cause e = omega (arith, finished-line g cause e)
lines-line g n ((b ∷ bs) ∷ []) cause e = omega (arith, named-line WrongShape n cause e)
lines-line g n (line ∷ next ∷ more) cause e = go (add g (record_of line)) (λ k. lines-line k (n + 1) (next ∷ more) cause) e
  where
    go : (s : Step) → ((k : Graph) → read_lines k (n + 1) (next ∷ more) ≡ refused cause → (refusal_of cause).line ≤ n + 1 + total (next ∷ more))
        → elim s [ fault f ↦ refused (FaultyLine f n) | went k ↦ read_lines k (n + 1) (next ∷ more) ] ≡ refused cause
        → (refusal_of cause).line ≤ n + (length line + 1 + total (next ∷ more))
    go (fault f) r e = omega (arith, named-line f n cause e)
    go (went k) r e = omega (arith, r k e)

pub graph_line : (text : Bytes) (cause : Cause) → graph_of text ≡ refused cause → (refusal_of cause).line < 100000
unfolding graph_of refusal_of
graph_line text cause e = go (ltb 32768 (length text)) refl e
  where
    long-line : refused TextTooLong ≡ refused cause → (refusal_of cause).line ≡ 0
    long-line e = let q : TextTooLong ≡ cause = cc in subst (λ (c : Cause). (refusal_of c).line ≡ 0) q refl

    go : (b : Bool) → ltb 32768 (length text) ≡ b → pick b (refused TextTooLong) (read_lines nothing 1 (split 10 text)) ≡ refused cause
        → (refusal_of cause).line < 100000
    go true l e = omega (arith, long-line e)
    go false l e = omega (arith, ltb-false 32768 (length text) l, lines-line nothing 1 (split 10 text) cause e, split_total 10 text)

pub graph-number : (cause : Cause) → (refusal_of cause).number < 100
unfolding refusal_of fault_number
graph-number TextTooLong = omega arith
graph-number (FaultyLine f n) = go f
  where
    go : (f : Fault) → fault_number f < 100
    go WrongShape = omega arith
    go WrongOrder = omega arith
    go TooMany = omega arith
    go NameRepeated = omega arith
    go UnknownVertex = omega arith
    go NotFormula = omega arith
    go TooDeep = omega arith
    go UnknownName = omega arith
    go WrongWidth = omega arith
graph-number NoVertex = omega arith
