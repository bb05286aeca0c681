-- Laws of an edge's formulas, by what a formula is and means: an edge's line with a field that is no formula is refused
-- with 7, with a formula over 16 deep with 8, with a name that is no signal's and no constant's with 9, with one that
-- means nothing for its widths with 19, and with formulas that mean something it is taken. Byte 9 is a tab, 10 LF,
-- 69 `E`. Assumes nothing.
use Rattle.graph.specs.declared.Cause.{Cause}
use Rattle.graph.specs.declared.CheckedGraph.{CheckedGraph}
use Rattle.std.specs.Prelude.{is_some, Result, Ok, Err}
use Prim.Native.Nat.{ℕ, suc, ◌+◌, ◌≤◌, ◌<◌, max}
use mathlib.Core.Path.{◌≡◌, refl, sym, ap, ◌∙◌}
use mathlib.Core.Bool.{Bool, true, false}
use mathlib.Core.List.{List, [], ◌∷◌, ◌++◌, Memᴰ}
use native.Mathlib.Nat.{add-zero}
use native.Mathlib.Omega.{arith}
use borrow.Author.Tests.{ne_eqb, lt-ltb, le-ltb, ltb-false, lt-leb}
use lib.Dec.{ltb}
use lib.ListN.{length, get_or, take, drop}
use Rattle.text.specs.Lines.{StartsLine}
use Rattle.formula.specs.Classes.{pick, is_name}
use Rattle.formula.specs.Grammar.{Tree, name, bit_of, alike, bit, not, group, join, Parsed, none, tree, tree_of, depth_of}
use Rattle.formula.specs.Claims.{IsFormula}
use Rattle.formula.proofs.GrammarComplete.{grammar_means}
use Rattle.formula.proofs.PostfixLaws.{in_field}
use Rattle.assertion.specs.Graph.{Bytes, Expr, Name, Edge, Graph, bits_of, signal_bits}
use Rattle.graph.specs.Pieces.{width_in, split, same, place_of, look_up, Declared, placed, look_up_name}
use Rattle.graph.specs.Records.{edge, marked, edged, of_fields, record_of}
use Rattle.graph.specs.Reading.{names_of, found_at, known, fits, resolved, judged_tree, judged_formula, tree_expr, expr_of, edge_of, lower, fault_number, Step, fault, went, unless_faulty, judge_edge, add_edge, add, accepted, finished, read_lines, nothing, graph_of}
use Rattle.graph.specs.Meaning.{EachWidth, Means}
use Rattle.graph.specs.Claims.{breaks, IsField}
use Rattle.graph.specs.ModeClaims.{RefusedHere}
use Rattle.graph.specs.FormulaClaims.{Known, AllKnown, Formed, edge_line, EdgeNext, Taken, FormulaMeans}
use Rattle.graph.specs.Held.{read_of}
use Rattle.graph.specs.declared.Fault.{Fault}
use Rattle.graph.specs.declared.Fault.TheVariants.{NotFormula, TooDeep, UnknownName, WrongWidth}
use Rattle.graph.specs.declared.Cause.TheVariants.{FaultyLine}
use Rattle.graph.proofs.PieceLaws.{split-some}
use Rattle.graph.proofs.SplitLaws.{split-joined, split-whole, same_equal, same_self}
use Rattle.graph.proofs.DifferLaws.{Differ}
use Rattle.graph.proofs.MeaningLaws.{located, and_both, pick-both, meaning}
use Rattle.graph.proofs.TakenLaws.{Resolves, named-found, means-resolves}
use Rattle.graph.proofs.HeldLaws.{finished-some, sound}
use Rattle.graph.proofs.TextLaws.{read_some, read_next}
use Rattle.graph.proofs.ModeTextLaws.{Lines, lines_of, joined-some, accepted-lines, refused-outcome, numbered, read}
use Rattle.graph.proofs.SymbolTextLaws.{name-field}
use Rattle.graph.proofs.MarkLaws.{mark, line_with, line-fields, split-more, one-byte-lines, edge-lines, marked_by}

-- ---- names looked up
module _ (ss cs : List Name) where
  abbrev ns : List Declared
  ns = placed 0 (ss ++ cs)

  module _ (wide : EachWidth (ss ++ cs)) (s : Bytes) where
    -- the names of a tree are known where each is looked up as known
    all_known : Differ (ss ++ cs) → (e : Tree) → AllKnown ss cs s e → known ns s e ≡ true
    unfolding known
    all_known d (name p n) h = (named-found ss cs wide d h.named).is_known
    all_known d (bit_of p n i) h = (named-found ss cs wide d h.named).is_known
    all_known d (alike p n q m) h = rw ((named-found ss cs wide d h.0.named).is_known, (named-found ss cs wide d h.1.named).is_known)
    all_known d (bit b) h = refl
    all_known d (not e) h = all_known d e h
    all_known d (group e) h = all_known d e h
    all_known d (join b e f) h = rw (all_known d e h.0, all_known d f h.1)

    found-known : (n : Bytes) → is_some (look_up_name n ns) ≡ true → Known ss cs n
    found-known n h = let l = located ss cs wide n h in record { run = l.run; width = (width_in (look_up_name n ns)); named = l.named }

    known-all : (e : Tree) → known ns s e ≡ true → AllKnown ss cs s e
    unfolding known
    known-all (name p n) h = found-known (take n (drop p s)) h
    known-all (bit_of p n i) h = found-known (take n (drop p s)) h
    known-all (alike p n q m) h =
        let b = and_both (is_some (found_at ns s p n)) (is_some (found_at ns s q m)) h in
        (found-known (take n (drop p s)) b.0, found-known (take m (drop q s)) b.1)
    known-all (bit b) h = tt
    known-all (not e) h = known-all e h
    known-all (group e) h = known-all e h
    known-all (join b e f) h = let k = pick-both (known ns s e) (known ns s f) h in (known-all e k.0, known-all f k.1)

-- a vertex of a list is found in it
pub place_inside : (n : Bytes) (vs : List Bytes) → Memᴰ n vs → place_of n vs < length vs
unfolding place_of
place_inside n [] x' = elim x' [ ]
place_inside n (v ∷ vs) (Memᴰ.head e) = rw (← e, same_self n, place_of) (omega arith)
place_inside n (v ∷ vs) (Memᴰ.tail m) = by (same n v) (place_inside n vs m)
  where
    by : (t : Bool) → place_of n vs < length vs → elim t [ true ↦ 0 | false ↦ suc (place_of n vs) ] < suc (length vs)
    by true h = omega arith
    by false h = omega arith

-- with its bytes
pub place-finds : (n : Bytes) (vs : List Bytes) → Memᴰ n vs → get_or vs (place_of n vs) [] ≡ n
unfolding place_of
place-finds n [] x' = elim x' [ ]
place-finds n (v ∷ vs) (Memᴰ.head e) = rw (← e, same_self n, place_of)
place-finds n (v ∷ vs) (Memᴰ.tail m) = by (same n v) refl (place-finds n vs m)
  where
    by : (t : Bool) → same n v ≡ t → get_or vs (place_of n vs) [] ≡ n → get_or (v ∷ vs) (elim t [ true ↦ 0 | false ↦ suc (place_of n vs) ]) [] ≡ n
    by true e h = sym (same_equal n v e)
    by false e h = h

pub vertex-known : {n : Bytes} {vs : List Bytes} → Memᴰ n vs → is_some (look_up n vs) ≡ true
unfolding look_up
vertex-known {n} {vs} m = rw (lt-ltb (place_of n vs) (length vs) (place_inside n vs m), is_some)

-- ---- two formulas judged
-- a formula that is not too deep: its names known or not, its widths fitting or not
abbrev verdict : Bool → Bool → Result Unit Fault
verdict k f = pick k (pick f (Ok tt) (Err WrongWidth)) (Err UnknownName)

-- a formula, too deep or not
abbrev graded : Bool → Bool → Bool → Result Unit Fault
graded d k f = pick d (Err TooDeep) (verdict k f)

tree-judged : (ds : List Declared) {s : Bytes} {e : Tree} → IsFormula s e → judged_formula ds s ≡ graded (ltb 16 (depth_of e)) (known ds s e) (fits ds s e)
unfolding judged_tree
tree-judged ds {s} {e} h = rw ((grammar_means s).every e h, judged_tree)

formed-judged : (ds : List Declared) {s : Bytes} {e : Tree} → Formed s e → judged_formula ds s ≡ verdict (known ds s e) (fits ds s e)
formed-judged ds {s} {e} h = tree-judged ds h.is ∙ rw (le-ltb 16 (depth_of e) h.shallow)

-- no formula is the lowest fault
lower-unformed : (d k f : Bool) → (lower (Err NotFormula) (graded d k f) ≡ Err NotFormula) × (lower (graded d k f) (Err NotFormula) ≡ Err NotFormula)
unfolding lower fault_number
lower-unformed true k f = (refl, refl)
lower-unformed false true true = (refl, refl)
lower-unformed false true false = (refl, refl)
lower-unformed false false f = (refl, refl)

unformed-judged : (ds : List Declared) {a c : Bytes} → ((ea ec : Tree) → IsFormula a ea → IsFormula c ec → ⊥) → lower (judged_formula ds a) (judged_formula ds c) ≡ Err NotFormula
unfolding judged_tree lower fault_number
unformed-judged ds {a} {c} n = by (tree_of a) (tree_of c) refl refl
  where
    by : (p q : Parsed) → tree_of a ≡ p → tree_of c ≡ q → lower (judged_tree ds a p) (judged_tree ds c q) ≡ Err NotFormula
    by none none i j = refl
    by none (tree e) i j = (lower-unformed (ltb 16 (depth_of e)) (known ds c e) (fits ds c e)).0
    by (tree e) none i j = (lower-unformed (ltb 16 (depth_of e)) (known ds a e) (fits ds a e)).1
    by (tree e) (tree f) i j = absurd (n e f ((grammar_means a).only e i) ((grammar_means c).only f j))

-- too deep is the lower fault of two formulas
lower-deep : (d m k l f h : Bool) → (d ≡ false → m ≡ false → ⊥) → lower (graded d k f) (graded m l h) ≡ Err TooDeep
unfolding lower fault_number
lower-deep true true k l f h n = refl
lower-deep true false k true f true n = refl
lower-deep true false k true f false n = refl
lower-deep true false k false f h n = refl
lower-deep false true true l true h n = refl
lower-deep false true true l false h n = refl
lower-deep false true false l f h n = refl
lower-deep false false k l f h n = absurd (n refl refl)

deep-judged : (ds : List Declared) {a c : Bytes} {ea ec : Tree} → IsFormula a ea → IsFormula c ec → 16 < max (depth_of ea) (depth_of ec) → lower (judged_formula ds a) (judged_formula ds c) ≡ Err TooDeep
deep-judged ds {a} {c} {ea} {ec} ha hc deep =
    rw (tree-judged ds ha, tree-judged ds hc)
    (lower-deep (ltb 16 (depth_of ea)) (ltb 16 (depth_of ec)) (known ds a ea) (known ds c ec) (fits ds a ea) (fits ds c ec)
    (λ i j. omega (arith, ltb-false 16 (depth_of ea) i, ltb-false 16 (depth_of ec) j)))

-- an unknown name is the lower fault
lower-unknown : (k l f h : Bool) → (k ≡ true → l ≡ true → ⊥) → lower (verdict k f) (verdict l h) ≡ Err UnknownName
unfolding lower fault_number
lower-unknown true true f h n = absurd (n refl refl)
lower-unknown true false true h n = refl
lower-unknown true false false h n = refl
lower-unknown false true f true n = refl
lower-unknown false true f false n = refl
lower-unknown false false f h n = refl

lower_width : (f h : Bool) → (f ≡ true → h ≡ true → ⊥) → lower (verdict true f) (verdict true h) ≡ Err WrongWidth
unfolding lower fault_number
lower_width true true n = absurd (n refl refl)
lower_width true false n = refl
lower_width false true n = refl
lower_width false false n = refl

module _ (ss cs : List Name) (wide : EachWidth (ss ++ cs)) {a c : Bytes} {ea ec : Tree} (ha : Formed a ea) (hc : Formed c ec) where
  unknown-judged : (AllKnown ss cs a ea × AllKnown ss cs c ec → ⊥) → lower (judged_formula (ns ss cs) a) (judged_formula (ns ss cs) c) ≡ Err UnknownName
  unknown-judged n =
      rw (formed-judged (ns ss cs) ha, formed-judged (ns ss cs) hc)
      (lower-unknown (known (ns ss cs) a ea) (known (ns ss cs) c ec) (fits (ns ss cs) a ea) (fits (ns ss cs) c ec) (λ k l. n (known-all ss cs wide a ea k, known-all ss cs wide c ec l)))

  -- a formula that fits means what its names looked up make of it
  formed-means : {s : Bytes} {e : Tree} → Formed s e → known (ns ss cs) s e ≡ true → fits (ns ss cs) s e ≡ true → Means ss cs s e (resolved (bits_of ss) (ns ss cs) s e)
  formed-means {s} {e} h k f = meaning ss cs wide s e (in_field s e ((grammar_means s).every e h.is)) k f

  width-judged : Differ (ss ++ cs) → AllKnown ss cs a ea × AllKnown ss cs c ec → ((x y : Expr) → Means ss cs a ea x → Means ss cs c ec y → ⊥) → lower (judged_formula (ns ss cs) a) (judged_formula (ns ss cs) c) ≡ Err WrongWidth
  width-judged d h n =
      let k = all_known ss cs wide a d ea h.0 in
      let l = all_known ss cs wide c d ec h.1 in
      rw (formed-judged (ns ss cs) ha, formed-judged (ns ss cs) hc, k, l)
      (lower_width (fits (ns ss cs) a ea) (fits (ns ss cs) c ec) (λ f g. n _ _ (formed-means ha k f) (formed-means hc l g)))

-- a formula that means something is fine, and read as what it means
module _ (g : Graph) (wide : EachWidth (g.signals ++ g.constants)) (differ : Differ (g.signals ++ g.constants)) {s : Bytes} {e : Tree} {x : Expr} (h : Formed s e) (m : Means g.signals g.constants s e x) where
  abbrev as_meant : Resolves g.signals g.constants s e x
  as_meant = means-resolves g.signals g.constants wide differ m

  formula-fine : judged_formula (names_of g) s ≡ (Ok tt)
  formula-fine = rw (formed-judged (names_of g) h, as_meant.names-known, as_meant.widths_fit)

  formula-read : expr_of g s ≡ x
  unfolding tree_expr signal_bits
  formula-read = rw ((grammar_means s).every e h.is, tree_expr) as_meant.is

-- ---- the record of an edge's line
edge-marked : (f t : Bytes) (b : Bool) (a c : Bytes) → marked f t (mark b ∷ []) a c ≡ edge f t b a c
unfolding marked same
edge-marked f t true a c = refl
edge-marked f t false a c = refl

module _ (from to : Bytes) (b : Bool) (a c : Bytes) (hf : is_name from ≡ true) (ht : is_name to ≡ true) (ha : IsField a) (hc : IsField c) where
  formula-fields : split 9 (a ++ (9 ∷ c)) ≡ a ∷ c ∷ []
  formula-fields = rw (split-joined 9 a c, split-whole 9 a ha.no_tab, split-whole 9 c hc.no_tab)

  pub edge_record_lem : record_of (line_with from to b (a ++ (9 ∷ c))) ≡ edge from to b a c
  unfolding of_fields edged same
  edge_record_lem = rw (line-fields from to b (a ++ (9 ∷ c)) (name-field from hf) (name-field to ht), formula-fields, of_fields, hf, ht) (edge-marked from to b a c)

  -- it is one line
  pub edge-whole : split 10 (line_with from to b (a ++ (9 ∷ c))) ≡ line_with from to b (a ++ (9 ∷ c)) ∷ []
  edge-whole =
      edge-lines from to b (a ++ (9 ∷ c)) (name-field from hf) (name-field to ht) (split-more a (9 ∷ c) ha.no_lf (one-byte-lines 9 c refl (split-whole 10 c hc.no_lf)))

-- between vertices that are known, and with room, an edge is judged by its formulas
pub edge-judged : (g : Graph) (from to : Bytes) (b : Bool) (a c : Bytes) → length g.edges < 128 → Memᴰ from g.vertices → Memᴰ to g.vertices → add g (edge from to b a c) ≡ unless_faulty (lower (judged_formula (names_of g) a) (judged_formula (names_of g) c)) g (edge_of g (place_of from g.vertices) (place_of to g.vertices) b a c)
unfolding add add_edge judge_edge
edge-judged g from to b a c room hf ht = rw (lt-leb 128 (length g.edges) room, vertex-known hf, vertex-known ht)

-- ---- a line after a text that is accepted
-- its lines are read to its graph, whatever follows them
read-on : (g : Graph) (n : ℕ) (ls rest : List Bytes) {last : Graph} → (rest ≡ [] → ⊥) → read_lines g n (ls ++ ([] ∷ [])) ≡ accepted last → read_lines g n (ls ++ rest) ≡ read_lines last (n + length ls) rest
unfolding read_lines
read-on g n [] rest h e = rw (add-zero n, (finished-some g e).0)
read-on g n (l ∷ ls) rest {last} h e = by (add g (record_of l)) refl (λ more. read-on more (n + 1) ls rest h)
  where
    none : ◌≡◌ {A = List Bytes} ([] ∷ []) [] → ⊥
    none q = let z : ◌≡◌ {A = ℕ} 0 1 = cc in omega arith

    by : (s : Step) → add g (record_of l) ≡ s → ((more : Graph) → read_lines more (n + 1) (ls ++ ([] ∷ [])) ≡ accepted last → read_lines more (n + 1) (ls ++ rest) ≡ read_lines last (n + 1 + length ls) rest) → read_lines g n (l ∷ (ls ++ rest)) ≡ read_lines last (n + suc (length ls)) rest
    by (fault f) a ih =
        let k = read_some g n l (ls ++ ([] ∷ [])) (joined-some ls ([] ∷ []) none) a in
        let z : ◌≡◌ {A = ℕ} 0 1 = cc in
        absurd (omega arith)
    by (went more) a ih =
        let z : n + 1 + length ls ≡ n + suc (length ls) = omega arith in
        read_next g n l (ls ++ rest) (joined-some ls rest h) a
        ∙ ih more (sym (read_next g n l (ls ++ ([] ∷ [])) (joined-some ls ([] ∷ []) none) a) ∙ e)
        ∙ ap (λ (k : ℕ). read_lines last k rest) z

-- the line that follows decides
module _ {text before : Bytes} (line after : Bytes) {g : Graph} (starts : StartsLine before) (bytes-are : text ≡ before ++ (line ++ (10 ∷ after))) (taken : graph_of before ≡ accepted g) where
  abbrev its : Lines before
  its = lines_of before starts

  abbrev rest : Bytes
  rest = line ++ (10 ∷ after)

  read-line : split 10 line ≡ line ∷ [] → length text ≤ 32768 → graph_of text ≡ read_lines g (1 + length its.ls) (line ∷ split 10 after)
  read-line one short =
      read rest starts bytes-are short
      ∙ read-on nothing 1 its.ls (split 10 rest) (split-some 10 rest) (ap (read_lines nothing 1) (sym its.alone) ∙ accepted-lines before taken)
      ∙ ap (read_lines g (1 + length its.ls)) (split-joined 10 line after ∙ ap (λ (l : List Bytes). l ++ split 10 after) one)

  line_faulty : split 10 line ≡ line ∷ [] → {f : Fault} → add g (record_of line) ≡ fault f → length text ≤ 32768 → {r : Result CheckedGraph Cause} → r ≡ read_of text → RefusedHere before (fault_number f) r
  line_faulty one {f} wrong short e =
      let n : 1 + length its.ls ≡ breaks before + 1 = omega (arith, its.count) in
      record {
        cause = FaultyLine f (1 + length its.ls);
        outcome = refused-outcome text (read-line one short ∙ read_some g (1 + length its.ls) line (split 10 after) (split-some 10 after) wrong) e;
        refusal = numbered f n;
      }

  -- or, as the last, is taken
  pub line_taken : split 10 line ≡ line ∷ [] → after ≡ [] → {more : Graph} → add g (record_of line) ≡ went more → 1 ≤ length more.vertices → length text ≤ 32768 → graph_of text ≡ accepted more
  unfolding read_lines split finished
  line_taken one last {more} goes filled short =
      read-line one short
      ∙ read_next g (1 + length its.ls) line (split 10 after) (split-some 10 after) goes
      ∙ rw (last, ne_eqb (length more.vertices) 0 (λ e. omega (arith, e, filled)))

-- an edge's line after such a text
module _ {text before : Bytes} {g : Graph} {a c : Bytes} (h : EdgeNext text before g a c) where
  abbrev line_of : Bytes
  line_of = edge_line h.from h.to h.mark a c

  abbrev edge_of_lem : Edge
  edge_of_lem = edge_of g (place_of h.from g.vertices) (place_of h.to g.vertices) (marked_by h.is-mark).0 a c

  one_line : split 10 line_of ≡ line_of ∷ []
  one_line =
      let m = marked_by h.is-mark in
      rw m.1 (edge-whole h.from h.to m.0 a c h.from-name h.to-name h.antecedent h.consequent)

  edge_step : add g (record_of line_of) ≡ unless_faulty (lower (judged_formula (names_of g) a) (judged_formula (names_of g) c)) g edge_of_lem
  edge_step =
      let m = marked_by h.is-mark in
      ap (λ (k : ℕ). add g (record_of (edge_line h.from h.to k a c))) m.1
      ∙ ap (add g) (edge_record_lem h.from h.to m.0 a c h.from-name h.to-name h.antecedent h.consequent)
      ∙ edge-judged g h.from h.to m.0 a c h.room h.from-vertex h.to-vertex

  -- refused for its formulas
  formulas_faulty : {f : Fault} → lower (judged_formula (names_of g) a) (judged_formula (names_of g) c) ≡ Err f → length text ≤ 32768 → {r : Result CheckedGraph Cause} → r ≡ read_of text → RefusedHere before (fault_number f) r
  unfolding unless_faulty
  formulas_faulty j short e = line_faulty line_of h.after h.starts h.bytes h.read one_line (edge_step ∙ rw j) short e

  -- or taken with what they mean
  formulas_taken : {ea ec : Tree} → Formed a ea → Formed c ec → h.after ≡ [] → {x y : Expr} → Means g.signals g.constants a ea x → Means g.signals g.constants c ec y → length text ≤ 32768 → Taken text g h.from h.to h.mark a c x y
  unfolding unless_faulty lower edge_of look_up
  formulas_taken ha hc last hx hy short =
      let s = sound before h.read in
      record {
        edge = edge_of_lem;
        read = line_taken line_of h.after h.starts h.bytes h.read one_line last (edge_step ∙ rw (formula-fine g s.widths s.names-differ ha hx, formula-fine g s.widths s.names-differ hc hy)) s.some-vertex short;
        leaves = place-finds h.from g.vertices h.from-vertex;
        enters = place-finds h.to g.vertices h.to-vertex;
        marked = (marked_by h.is-mark).1;
        antecedent = formula-read g s.widths s.names-differ ha hx;
        consequent = formula-read g s.widths s.names-differ hc hy;
        antecedent_is = refl;
        consequent_is = refl;
      }

-- THE LAW
pub formula-means : (text : Bytes) {r : Result CheckedGraph Cause} → r ≡ read_of text → FormulaMeans text r
unfolding fault_number
formula-means text e =
    record {
      unformed = λ before g a c h n short. formulas_faulty h (unformed-judged (names_of g) n) short e;
      deep = λ before g a c ea ec h ha hc d short. formulas_faulty h (deep-judged (names_of g) ha hc d) short e;
      unknown = λ before g a c ea ec h ha hc n short.
          formulas_faulty h (unknown-judged g.signals g.constants (sound before h.read).widths ha hc n) short e;
      widths = λ before g a c ea ec h ha hc k n short.
          formulas_faulty h (width-judged g.signals g.constants (sound before h.read).widths ha hc (sound before h.read).names-differ k n) short e;
      taken = λ before g a c ea ec h ha hc last x y hx hy short. formulas_taken h ha hc last hx hy short;
    }
