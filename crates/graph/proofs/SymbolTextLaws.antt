-- Laws of the line of a signal or a constant after lines that are good and have no vertex: it is refused for its bits
-- or its name, or taken. Byte 9 is a tab, 10 LF, 75 `K`, 83 `S`, 86 `V`, 118 `v`. Assumes nothing.
use Rattle.std.specs.Prelude.{is_some}
use Prim.Native.Nat.{ℕ, ◌+◌, ◌≤◌, ◌<◌}
use mathlib.Core.Path.{◌≡◌, refl, sym, ap, subst, ◌∙◌}
use mathlib.Core.Bool.{Bool, true, false}
use mathlib.Core.List.{List, [], ◌∷◌, ◌++◌, append_assoc, append-nil, Memᴰ}
use native.Mathlib.Omega.{arith}
use borrow.Author.Tests.{lt-ltb, le-ltb, ltb-false, ne_eqb}
use lib.Dec.{ltb, leb}
use lib.ListN.{length}
use Rattle.text.specs.Lines.{StartsLine}
use Rattle.text.specs.Numbers.{is_digit, digits}
use Rattle.text.proofs.NumberLaws.{EachDigit, each-digits}
use Rattle.formula.specs.Classes.{pick, class_of, is_letter, is_word_class, in_name, name_bytes, is_name}
use Rattle.formula.proofs.ByteLaws.{name-is}
use Rattle.assertion.specs.Graph.{Bytes, Name, Graph, signal_bits, constant_bits}
use Rattle.assertion.specs.declared.Mode.{Mode}
use Rattle.assertion.specs.declared.Mode.TheVariants.{Unsaid}
use Rattle.graph.specs.Pieces.{onto, split, same, place_of, look_up, placed, look_up_name}
use Rattle.graph.specs.Records.{signal, constant, sized, named, of_fields, record_of}
use Rattle.graph.specs.Reading.{fault_number, refusal_of, names_of, sized_name, Step, fault, went, add_signal, add_constant, add_vertex, add, refused, accepted, finished, read_lines, nothing, graph_of}
use Rattle.graph.specs.Claims.{breaks, IsField, WidthField}
use Rattle.graph.specs.Claims.WidthField.{absent, given}
use Rattle.graph.specs.ModeClaims.{RefusedHere}
use Rattle.graph.specs.WidthClaims.{vertex_line, SymbolNext, New}
use Rattle.graph.specs.Held.{read_of}
use Rattle.graph.specs.declared.Fault.{Fault}
use Rattle.graph.specs.declared.Fault.TheVariants.{TooMany, NameRepeated}
use Rattle.graph.specs.declared.Cause.TheVariants.{FaultyLine}
use Rattle.graph.proofs.PieceLaws.{split-some}
use Rattle.graph.proofs.SplitLaws.{split-joined, split-whole, same_equal, same_self}
use Rattle.graph.proofs.WidthFieldLaws.{width-digits}
use Rattle.graph.proofs.EdgeLineLaws.{none-empty}
use Rattle.graph.proofs.ArrayLaws.{none_list, one_more_lem}
use Rattle.graph.proofs.HeldLaws.{plus_vertex, pick-fault, finished-some}
use Rattle.graph.proofs.TextLaws.{read_some, read_next}
use Rattle.graph.proofs.ModeTextLaws.{Lines, lines_of, Prefix, stops, goes, prefix, accepted-lines, short-lines, refused-outcome}
use Rattle.graph.proofs.WidthTextLaws.{Without, one-without, joined-without, fields-are}

-- ---- names and widths have no tab and no LF
name-without : (c : ℕ) → in_name c ≡ false → (x : Bytes) → name_bytes x ≡ true → Without c x
unfolding name_bytes
name-without c n [] h = none-empty c
name-without c n (b ∷ x) h = by (in_name b) refl h (name-without c n x)
  where
    by : (t : Bool) → in_name b ≡ t → pick t (name_bytes x) false ≡ true → (name_bytes x ≡ true → Without c x) → Without c (b ∷ x)
    by true e k ih = one-without (λ q. let z : ◌≡◌ {A = ℕ} 0 1 = cc in omega arith) (ih k)
    by false e k ih = let z : ◌≡◌ {A = ℕ} 0 1 = cc in absurd (omega arith)

pub digits-without : (c : ℕ) → is_digit c ≡ false → (x : Bytes) → EachDigit x → Without c x
unfolding EachDigit
digits-without c n [] h = none-empty c
digits-without c n (b ∷ x) h = let d = h.0 in one-without (λ q. let z : ◌≡◌ {A = ℕ} 0 1 = cc in omega arith) (digits-without c n x h.1)

pub name-field : (name : Bytes) → is_name name ≡ true → IsField name
unfolding class_of is_word_class
name-field name h =
    let n = (name-is name h).all in
    record { no_tab = name-without 9 refl name n; no_lf = name-without 10 refl name n }

field_plain : {field : Bytes} {w : ℕ} → WidthField field w → Without 10 field
unfolding is_digit
field_plain absent = none-empty 10
field_plain (given w i) = one-without (λ e. omega arith) (digits-without 10 refl (digits w) (each-digits w))

-- ---- the record of the line
module _ (kind : ℕ) (late : 69 < kind) (name : Bytes) (is_name : is_name name ≡ true) where
  pub line_plain : {field : Bytes} {w : ℕ} → WidthField field w → Without 10 (kind ∷ 9 ∷ (name ++ field))
  line_plain f = one-without (λ e. omega (arith, late)) (one-without (λ e. omega arith) (joined-without name (name-field name is_name).no_lf (field_plain f)))

  -- two fields
  pub line-named : record_of (kind ∷ 9 ∷ name) ≡ named (kind ∷ []) name
  unfolding record_of of_fields
  line-named =
      let k : Without 9 (kind ∷ []) = one-without (λ e. omega (arith, late)) (none-empty 9) in
      rw (split-joined 9 (kind ∷ []) name, split-whole 9 (kind ∷ []) k, split-whole 9 name (name-field name is_name).no_tab)

  -- of a kind that two fields give a width of 1
  line-sized : named (kind ∷ []) name ≡ sized (kind ∷ []) name 1 → {field : Bytes} {w : ℕ} → WidthField field w → record_of (kind ∷ 9 ∷ (name ++ field)) ≡ sized (kind ∷ []) name w
  unfolding record_of of_fields is_digit
  line-sized one absent = rw (append-nil name) (line-named ∙ one)
  line-sized one (given w i) =
      rw (fields-are kind late (digits w) (name-field name is_name), split-whole 9 (digits w) (digits-without 9 refl (digits w) (each-digits w)), width-digits w i.some i.most)

not-zero : {field : Bytes} {w : ℕ} → WidthField field w → w ≡ 0 → ⊥
not-zero absent e = omega arith
not-zero (given w i) e = omega (arith, i.some)

module _ (name : Bytes) (is_name : is_name name ≡ true) {field : Bytes} {w : ℕ} (width : WidthField field w) where
  pub signal_line : record_of (83 ∷ 9 ∷ (name ++ field)) ≡ signal name w
  unfolding named sized same
  signal_line = line-sized 83 (omega arith) name is_name refl width ∙ rw (is_name, ne_eqb w 0 (not-zero width))

  pub constant-line : record_of (75 ∷ 9 ∷ (name ++ field)) ≡ constant name w
  unfolding named sized same
  constant-line = line-sized 75 (omega arith) name is_name refl width ∙ rw (is_name, ne_eqb w 0 (not-zero width))

-- ---- a name that has come, or not
module _ (n : Bytes) where
  pub new_unknown : (p : ℕ) (xs : List Name) → ((x : Name) → Memᴰ x xs → x.name ≡ n → ⊥) → is_some (look_up_name n (placed p xs)) ≡ false
  unfolding look_up_name placed
  new_unknown p [] h = refl
  new_unknown p (x ∷ xs) h = by (same n x.name) refl (new_unknown (p + x.width) xs (λ y m. h y (Memᴰ.tail m)))
    where
      by : (t : Bool) → same n x.name ≡ t → is_some (look_up_name n (placed (p + x.width) xs)) ≡ false → is_some (look_up_name n (placed p (x ∷ xs))) ≡ false
      by true e ih = absurd (h x (Memᴰ.head refl) (sym (same_equal n x.name e)))
      by false e ih = rw (placed, look_up_name, e) ih

  come_known : (p : ℕ) (xs : List Name) (x : Name) → Memᴰ x xs → x.name ≡ n → is_some (look_up_name n (placed p xs)) ≡ true
  unfolding look_up_name placed
  come_known p [] x m e = absurd (elim m [ ])
  come_known p (y ∷ ys) x m e = by (same n y.name) refl m (λ q. come_known (p + y.width) ys x q e)
    where
      by : (t : Bool) → same n y.name ≡ t → Memᴰ x (y ∷ ys) → (Memᴰ x ys → is_some (look_up_name n (placed (p + y.width) ys)) ≡ true) → is_some (look_up_name n (placed p (y ∷ ys))) ≡ true
      by true s q ih = rw (placed, look_up_name, s)
      by false s (Memᴰ.head q) ih =
          let k : same n y.name ≡ true = rw (← q, e) (same_self n) in
          let z : ◌≡◌ {A = ℕ} 0 1 = cc in
          absurd (omega arith)
      by false s (Memᴰ.tail q) ih = rw (placed, look_up_name, s) (ih q)

-- ---- a vertex after signals and constants
abbrev declared : Mode → List Name → List Name → Graph
declared m ss cs = record { mode = m; signals = ss; constants = cs; vertices = []; edges = [] }

-- a graph before its first vertex
abbrev bare : Graph → Graph
bare g = declared g.mode g.signals g.constants

abbrev v : Bytes
v = 118 ∷ []

vertex-read : (g : Graph) (n : ℕ) → read_lines g n (split 10 vertex_line) ≡ elim (add_vertex g v) [ fault f ↦ refused (FaultyLine f n) | went more ↦ finished more ]
unfolding split onto read_lines add record_of of_fields named same is_name name_bytes is_letter class_of
vertex-read g n = refl

vertex-last : (m : Mode) (ss cs : List Name) (n : ℕ) → read_lines (declared m ss cs) n (split 10 vertex_line) ≡ accepted (record { mode = m; signals = ss; constants = cs; vertices = v ∷ []; edges = [] })
unfolding add_vertex look_up place_of finished
vertex-last m ss cs n = vertex-read (declared m ss cs) n

-- with none before it, it is a text
pub vertex-alone : graph_of vertex_line ≡ accepted (plus_vertex nothing v)
vertex-alone = short-lines vertex_line (omega arith) ∙ vertex-last Unsaid [] [] 1

-- where it is the first, the graph before it was bare
record First (before g : Graph) : Type 0 where
  was : before ≡ bare g
  vertices : g.vertices ≡ v ∷ []
  edges : g.edges ≡ []

first-is : (g : Graph) → g.vertices ≡ [] → g.edges ≡ [] → First g (plus_vertex g v)
first-is g h k = record { was = rw (← h, ← k); vertices = rw h; edges = k }

vertex-added : (g : Graph) {last : Graph} → add_vertex g v ≡ went last → length last.vertices ≡ 1 → First g last
unfolding add_vertex
vertex-added g {last} a one =
    let e = pick-fault (ltb 0 (length g.edges)) _ _ a in
    let m = pick-fault (leb 64 (length g.vertices)) _ _ e.1 in
    let r = pick-fault (is_some (look_up v g.vertices)) _ _ m.1 in
    let p : plus_vertex g v ≡ last = cc in
    let l : length (g.vertices ++ (v ∷ [])) ≡ 1 = ap (λ (x : Graph). length x.vertices) p ∙ one in
    subst (First g) p
    (first-is g (none_list g.vertices (omega (arith, l, one_more_lem g.vertices v))) (none_list g.edges (omega (arith, ltb-false 0 (length g.edges) e.0))))

vertex-first : (g : Graph) (n : ℕ) {last : Graph} → read_lines g n (split 10 vertex_line) ≡ accepted last → length last.vertices ≡ 1 → First g last
vertex-first g n {last} e one = by (add_vertex g v) refl (sym (vertex-read g n) ∙ e)
  where
    by : (s : Step) → add_vertex g v ≡ s → elim s [ fault f ↦ refused (FaultyLine f n) | went more ↦ finished more ] ≡ accepted last → First g last
    by (fault f) a h = let z : ◌≡◌ {A = ℕ} 0 1 = cc in absurd (omega arith)
    by (went more) a h = vertex-added g (a ∙ ap went (finished-some more h).0) one

-- ---- lines that are good, and a vertex or others after them
record Stands (before : Bytes) (g : Graph) : Type 0 where
  further : (rest : Bytes) → length (before ++ rest) ≤ 32768 → graph_of (before ++ rest) ≡ read_lines (bare g) (breaks before + 1) (split 10 rest)
  vertices : g.vertices ≡ v ∷ []
  edges : g.edges ≡ []

stands : (before : Bytes) → StartsLine before → {g : Graph} → graph_of (before ++ vertex_line) ≡ accepted g → length g.vertices ≡ 1 → Stands before g
stands before starts {g} e one = by (prefix nothing 1 its.ls)
  where
    its : Lines before
    its = lines_of before starts

    lines : read_lines nothing 1 (its.ls ++ split 10 vertex_line) ≡ accepted g
    lines = ap (read_lines nothing 1) (sym (its.further vertex_line)) ∙ accepted-lines (before ++ vertex_line) e

    by : Prefix nothing 1 its.ls → Stands before g
    by (stops f m s a) = let b = sym (a (split 10 vertex_line) (split-some 10 vertex_line)) ∙ lines in let z : ◌≡◌ {A = ℕ} 0 1 = cc in absurd (omega arith)
    by (goes more a c) =
        let n : 1 + length its.ls ≡ breaks before + 1 = omega (arith, its.count) in
        let f = vertex-first more (1 + length its.ls) (sym (a (split 10 vertex_line) (split-some 10 vertex_line)) ∙ lines) one in
        record {
          further = λ rest short. short-lines (before ++ rest) short ∙ ap (read_lines nothing 1) (its.further rest) ∙ a (split 10 rest) (split-some 10 rest) ∙ rw (f.was, n);
          vertices = f.vertices;
          edges = f.edges;
        }

-- ---- the line after them, by the tests of its step
module _ {text before : Bytes} (kind : ℕ) (late : 69 < kind) {name field after : Bytes} {w : ℕ} {g : Graph} (s : SymbolNext text before kind name field after w g) (short : length text ≤ 32768) where
  abbrev line : Bytes
  line = kind ∷ 9 ∷ (name ++ field)

  its : Stands before g
  its = stands before s.starts s.read s.first

  read : graph_of text ≡ read_lines (bare g) (breaks before + 1) (line ∷ split 10 after)
  read =
      let b : text ≡ before ++ (line ++ (10 ∷ after)) = rw (append_assoc name field (10 ∷ after)) s.bytes in
      let l : length (before ++ (line ++ (10 ∷ after))) ≤ 32768 = rw b at short in
      ap graph_of b ∙ its.further (line ++ (10 ∷ after)) l
      ∙ rw (split-joined 10 line after, split-whole 10 line (line_plain kind late name s.is_name s.width))

  line_faulty : (f : Fault) → add (bare g) (record_of line) ≡ fault f → RefusedHere before (fault_number f) (read_of text)
  unfolding refusal_of
  line_faulty f a =
      record {
        cause = FaultyLine f (breaks before + 1);
        outcome = refused-outcome text (read ∙ read_some (bare g) (breaks before + 1) line (split 10 after) (split-some 10 after) a) refl;
        refusal = refl;
      }

  module _ (most bits : ℕ) (ss cs : List Name) (step : add (bare g) (record_of line) ≡ pick (ltb most bits) (fault TooMany) (pick (is_some (look_up_name name (names_of g))) (fault NameRepeated) (went (declared g.mode ss cs)))) where
    bits_over : most < bits → RefusedHere before 4 (read_of text)
    unfolding fault_number
    bits_over l = line_faulty TooMany (step ∙ rw (lt-ltb most bits l))

    module _ (l : bits ≤ most) where
      name_again : (New g name → ⊥) → RefusedHere before 5 (read_of text)
      unfolding fault_number
      name_again h = by (is_some (look_up_name name (names_of g))) refl
        where
          by : (t : Bool) → is_some (look_up_name name (names_of g)) ≡ t → RefusedHere before 5 (read_of text)
          by true e = line_faulty NameRepeated (step ∙ rw (le-ltb most bits l, e))
          by false e = absurd (h (λ x m q. let k = come_known name 0 (g.signals ++ g.constants) x m q in let z : ◌≡◌ {A = ℕ} 0 1 = cc in omega arith))

      line_taken : New g name → after ≡ vertex_line → graph_of text ≡ accepted (record { mode = g.mode; signals = ss; constants = cs; vertices = g.vertices; edges = g.edges })
      line_taken h e =
          let k = new_unknown name 0 (g.signals ++ g.constants) h in
          let a : add (bare g) (record_of line) ≡ went (declared g.mode ss cs) = step ∙ rw (le-ltb most bits l, k) in
          rw (its.vertices, its.edges)
          (read ∙ read_next (bare g) (breaks before + 1) line (split 10 after) (split-some 10 after) a ∙ rw e (vertex-last g.mode ss cs (breaks before + 1 + 1)))

-- ---- the step of each kind
module _ {text before name field after : Bytes} {w : ℕ} {g : Graph} where
  signal_step : SymbolNext text before 83 name field after w g → g.constants ≡ [] → add (bare g) (record_of (83 ∷ 9 ∷ (name ++ field))) ≡ pick (ltb 63 (signal_bits g + w)) (fault TooMany) (pick (is_some (look_up_name name (names_of g))) (fault NameRepeated) (went (declared g.mode (g.signals ++ (sized_name name w ∷ [])) g.constants)))
  unfolding add add_signal signal_bits
  signal_step s none = ap (add (bare g)) (signal_line name s.is_name s.width) ∙ rw none

  constant_step : SymbolNext text before 75 name field after w g → add (bare g) (record_of (75 ∷ 9 ∷ (name ++ field))) ≡ pick (ltb 6 (constant_bits g + w)) (fault TooMany) (pick (is_some (look_up_name name (names_of g))) (fault NameRepeated) (went (declared g.mode g.signals (g.constants ++ (sized_name name w ∷ [])))))
  unfolding add add_constant constant_bits
  constant_step s = ap (add (bare g)) (constant-line name s.is_name s.width)

-- THE LAWS
module _ (text before name field : Bytes) where
  module _ (after : Bytes) (w : ℕ) (g : Graph) where
    pub signal_most : SymbolNext text before 83 name field after w g → g.constants ≡ [] → 63 < signal_bits g + w → length text ≤ 32768 → RefusedHere before 4 (read_of text)
    signal_most s none l short = bits_over 83 (omega arith) s short 63 (signal_bits g + w) _ _ (signal_step s none) l

    pub constant_most : SymbolNext text before 75 name field after w g → 6 < constant_bits g + w → length text ≤ 32768 → RefusedHere before 4 (read_of text)
    constant_most s l short = bits_over 75 (omega arith) s short 6 (constant_bits g + w) _ _ (constant_step s) l

    pub signal_again : SymbolNext text before 83 name field after w g → g.constants ≡ [] → signal_bits g + w ≤ 63 → (New g name → ⊥) → length text ≤ 32768 → RefusedHere before 5 (read_of text)
    signal_again s none l h short = name_again 83 (omega arith) s short 63 (signal_bits g + w) _ _ (signal_step s none) l h

    pub constant_again : SymbolNext text before 75 name field after w g → constant_bits g + w ≤ 6 → (New g name → ⊥) → length text ≤ 32768 → RefusedHere before 5 (read_of text)
    constant_again s l h short = name_again 75 (omega arith) s short 6 (constant_bits g + w) _ _ (constant_step s) l h

  module _ (w : ℕ) (g : Graph) where
    pub signal_taken : SymbolNext text before 83 name field vertex_line w g → g.constants ≡ [] → signal_bits g + w ≤ 63 → New g name → length text ≤ 32768 → graph_of text ≡ accepted (record { mode = g.mode; signals = g.signals ++ (sized_name name w ∷ []); constants = g.constants; vertices = g.vertices; edges = g.edges })
    signal_taken s none l h short = line_taken 83 (omega arith) s short 63 (signal_bits g + w) _ _ (signal_step s none) l h refl

    pub constant-taken : SymbolNext text before 75 name field vertex_line w g → constant_bits g + w ≤ 6 → New g name → length text ≤ 32768 → graph_of text ≡ accepted (record { mode = g.mode; signals = g.signals; constants = g.constants ++ (sized_name name w ∷ []); vertices = g.vertices; edges = g.edges })
    constant-taken s l h short = line_taken 75 (omega arith) s short 6 (constant_bits g + w) _ _ (constant_step s) l h refl
