-- A mark never decides what is refused: two texts that differ in one mark are refused alike. Assumes nothing.
use Rattle.std.specs.Prelude.{is_some, Result, Ok, Err}
use Prim.Native.Nat.{ℕ, ◌+◌, ◌≤◌}
use mathlib.Core.Path.{◌≡◌, refl, ap, subst, ◌∙◌}
use mathlib.Core.Bool.{Bool, true, false, cond}
use mathlib.Core.List.{List, [], ◌∷◌, ◌++◌}
use native.Mathlib.Omega.{arith}
use borrow.Author.Tests.{eqb-true}
use lib.Dec.{eqb, ltb, leb}
use lib.ListN.{length, length-append}
use Rattle.formula.specs.Classes.{pick, is_name}
use Rattle.assertion.specs.Graph.{Bytes, Edge, Graph, signal_bits, constant_bits}
use Rattle.graph.specs.Pieces.{place_of, onto, split, same, look_up, look_up_name}
use Rattle.graph.specs.Records.{Record, shapeless, mode, signal, constant, vertex, edge, marked, edged, of_fields, record_of}
use Rattle.graph.specs.Reading.{Step, fault, went, mode_lines, add_mode, add_signal, add_constant, add_vertex, edge_of, names_of, judged_formula, lower, unless_faulty, judge_edge, add_edge, add, Outcome, refused, accepted, finished, read_lines, nothing, graph_of}
use Rattle.graph.specs.Claims.{IsField}
use Rattle.text.specs.Lines.{StartsLine}
use Rattle.graph.specs.ModeClaims.{IsMark, edge_text}
use Rattle.graph.specs.ModeClaims.IsMark.{t_mark, dash}
use Rattle.graph.specs.declared.Fault.{Fault}
use Rattle.graph.specs.declared.Fault.TheVariants.{WrongShape, WrongOrder, TooMany, NameRepeated, UnknownVertex}
use Rattle.graph.specs.declared.Cause.{Cause}
use Rattle.graph.specs.declared.Cause.TheVariants.{FaultyLine, NoVertex}
use Rattle.graph.proofs.PieceLaws.{split-some}
use Rattle.graph.proofs.SplitLaws.{split-joined, split-whole}
use Rattle.graph.proofs.HeldLaws.{plus_mode, plus_signal, plus_constant, plus_vertex, plus_edge}
use Rattle.graph.proofs.TextLaws.{read_some, read_next}
use Rattle.graph.proofs.ModeTextLaws.{lines_of, joined-some, short-lines}

-- ---- graphs alike to the reader: it looks at no edge, but counts them
record Alike (g h : Graph) : Type 0 where
  mode-is : g.mode ≡ h.mode
  signals-are : g.signals ≡ h.signals
  constants-are : g.constants ≡ h.constants
  vertices-are : g.vertices ≡ h.vertices
  as_many : length g.edges ≡ length h.edges

alike_self : (g : Graph) → Alike g g
alike_self g = record { mode-is = refl; signals-are = refl; constants-are = refl; vertices-are = refl; as_many = refl }

data Steps : Step → Step → Type 0 where
  both_stop : (f : Fault) → Steps (fault f) (fault f)
  both_go : (g h : Graph) → Alike g h → Steps (went g) (went h)

pick-alike : (a b : Bool) → a ≡ b → {x y u v : Step} → Steps x u → Steps y v → Steps (pick a x y) (pick b u v)
pick-alike true true e p q = p
pick-alike false false e p q = q
pick-alike true false e p q = let z : ◌≡◌ {A = ℕ} 0 1 = cc in absurd (omega arith)
pick-alike false true e p q = let z : ◌≡◌ {A = ℕ} 0 1 = cc in absurd (omega arith)

module _ (g h : Graph) (s : Alike g h) where
  mode-alike : (m : _) → Steps (add_mode g m) (add_mode h m)
  unfolding add_mode
  mode-alike m =
      pick-alike (ltb 0 (mode_lines g.mode + length g.signals + length g.constants + length g.vertices + length g.edges)) (ltb 0 (mode_lines h.mode + length h.signals + length h.constants + length h.vertices + length h.edges))
      (rw (s.mode-is, s.signals-are, s.constants-are, s.vertices-are, s.as_many)) (both_stop WrongOrder)
      (both_go (plus_mode g m) (plus_mode h m) (record { mode-is = refl; signals-are = s.signals-are; constants-are = s.constants-are; vertices-are = s.vertices-are; as_many = s.as_many }))

  signal_alike : (n : Bytes) (w : ℕ) → Steps (add_signal g n w) (add_signal h n w)
  unfolding add_signal signal_bits
  signal_alike n w =
      pick-alike (ltb 0 (length g.constants + length g.vertices + length g.edges)) (ltb 0 (length h.constants + length h.vertices + length h.edges)) (rw (s.constants-are, s.vertices-are, s.as_many)) (both_stop WrongOrder)
      (pick-alike (ltb 63 (signal_bits g + w)) (ltb 63 (signal_bits h + w)) (rw s.signals-are) (both_stop TooMany)
      (pick-alike (is_some (look_up_name n (names_of g))) (is_some (look_up_name n (names_of h))) (rw (s.signals-are, s.constants-are)) (both_stop NameRepeated)
      (both_go (plus_signal g n w) (plus_signal h n w) (record { mode-is = s.mode-is; signals-are = rw s.signals-are; constants-are = s.constants-are; vertices-are = s.vertices-are; as_many = s.as_many }))))

  constant-alike : (n : Bytes) (w : ℕ) → Steps (add_constant g n w) (add_constant h n w)
  unfolding add_constant constant_bits
  constant-alike n w =
      pick-alike (ltb 0 (length g.vertices + length g.edges)) (ltb 0 (length h.vertices + length h.edges)) (rw (s.vertices-are, s.as_many)) (both_stop WrongOrder)
      (pick-alike (ltb 6 (constant_bits g + w)) (ltb 6 (constant_bits h + w)) (rw s.constants-are) (both_stop TooMany)
      (pick-alike (is_some (look_up_name n (names_of g))) (is_some (look_up_name n (names_of h))) (rw (s.signals-are, s.constants-are)) (both_stop NameRepeated)
      (both_go (plus_constant g n w) (plus_constant h n w) (record { mode-is = s.mode-is; signals-are = s.signals-are; constants-are = rw s.constants-are; vertices-are = s.vertices-are; as_many = s.as_many }))))

  vertex-alike : (n : Bytes) → Steps (add_vertex g n) (add_vertex h n)
  unfolding add_vertex
  vertex-alike n =
      pick-alike (ltb 0 (length g.edges)) (ltb 0 (length h.edges)) (rw s.as_many) (both_stop WrongOrder)
      (pick-alike (leb 64 (length g.vertices)) (leb 64 (length h.vertices)) (rw s.vertices-are) (both_stop TooMany)
      (pick-alike (is_some (look_up n g.vertices)) (is_some (look_up n h.vertices)) (rw s.vertices-are) (both_stop NameRepeated)
      (both_go (plus_vertex g n) (plus_vertex h n) (record { mode-is = s.mode-is; signals-are = s.signals-are; constants-are = s.constants-are; vertices-are = rw s.vertices-are; as_many = s.as_many }))))

  fine-alike : (j k : Result Unit Fault) → j ≡ k → (d e : Edge) → Steps (unless_faulty j g d) (unless_faulty k h e)
  unfolding unless_faulty
  fine-alike (Ok u) (Ok v) q d e =
      both_go (plus_edge g d) (plus_edge h e)
      (record { mode-is = s.mode-is; signals-are = s.signals-are; constants-are = s.constants-are; vertices-are = s.vertices-are; as_many = omega (arith, s.as_many, length-append g.edges (d ∷ []), length-append h.edges (e ∷ [])) })
  fine-alike (Ok tt) (Err k) q d e = let z : ◌≡◌ {A = ℕ} 0 1 = cc in absurd (omega arith)
  fine-alike (Err j) (Ok tt) q d e = let z : ◌≡◌ {A = ℕ} 0 1 = cc in absurd (omega arith)
  fine-alike (Err j) (Err k) q d e = let z : j ≡ k = cc in rw z (both_stop k)

  edge-alike : (f t : Bytes) (b c : Bool) (x y : Bytes) → Steps (add_edge g f t b x y) (add_edge h f t c x y)
  unfolding add_edge judge_edge
  edge-alike f t b c x y =
      pick-alike (leb 128 (length g.edges)) (leb 128 (length h.edges)) (rw s.as_many) (both_stop TooMany)
      (pick-alike (is_some (look_up f g.vertices)) (is_some (look_up f h.vertices)) (rw s.vertices-are)
      (pick-alike (is_some (look_up t g.vertices)) (is_some (look_up t h.vertices)) (rw s.vertices-are)
      (fine-alike (lower (judged_formula (names_of g) x) (judged_formula (names_of g) y)) (lower (judged_formula (names_of h) x) (judged_formula (names_of h) y)) (rw (s.signals-are, s.constants-are))
      (edge_of g (place_of f g.vertices) (place_of t g.vertices) b x y) (edge_of h (place_of f h.vertices) (place_of t h.vertices) c x y))
      (both_stop UnknownVertex))
      (both_stop UnknownVertex))

  record_alike : (r : Record) → Steps (add g r) (add h r)
  unfolding add
  record_alike shapeless = both_stop WrongShape
  record_alike (mode m) = mode-alike m
  record_alike (signal n w) = signal_alike n w
  record_alike (constant n w) = constant-alike n w
  record_alike (vertex n) = vertex-alike n
  record_alike (edge f t b x y) = edge-alike f t b b x y

-- ---- outcomes: refused alike, or both accepted
data Ends : Outcome → Outcome → Type 0 where
  both-refused : (c : Cause) → Ends (refused c) (refused c)
  both-accepted : (g h : Graph) → Ends (accepted g) (accepted h)

ends-refused : {a b : Outcome} {cause : Cause} → Ends a b → a ≡ refused cause → b ≡ refused cause
ends-refused (both-refused c) e = e
ends-refused (both-accepted g h) e = let z : ◌≡◌ {A = ℕ} 0 1 = cc in absurd (omega arith)

end_alike : (g h : Graph) → Alike g h → Ends (finished g) (finished h)
unfolding finished
end_alike g h s = by (eqb (length g.vertices) 0) (eqb (length h.vertices) 0) (rw s.vertices-are)
  where
    by : (a b : Bool) → a ≡ b → Ends (pick a (refused NoVertex) (accepted g)) (pick b (refused NoVertex) (accepted h))
    by true true e = both-refused NoVertex
    by false false e = both-accepted g h
    by true false e = let z : ◌≡◌ {A = ℕ} 0 1 = cc in absurd (omega arith)
    by false true e = let z : ◌≡◌ {A = ℕ} 0 1 = cc in absurd (omega arith)

abbrev Further : ℕ → List Bytes → Step → Outcome
Further n ls s = elim s [ fault f ↦ refused (FaultyLine f n) | went g ↦ read_lines g (n + 1) ls ]

further_alike : (n : ℕ) (ls : List Bytes) {s t : Step} → Steps s t → ((g h : Graph) → Alike g h → Ends (read_lines g (n + 1) ls) (read_lines h (n + 1) ls)) → Ends (Further n ls s) (Further n ls t)
further_alike n ls (both_stop f) ih = both-refused (FaultyLine f n)
further_alike n ls (both_go g h a) ih = ih g h a

lines-alike : (n : ℕ) (ls : List Bytes) (g h : Graph) → Alike g h → Ends (read_lines g n ls) (read_lines h n ls)
unfolding read_lines
lines-alike n [] g h s = end_alike g h s
lines-alike n ([] ∷ []) g h s = end_alike g h s
lines-alike n ((b ∷ bs) ∷ []) g h s = both-refused (FaultyLine WrongShape n)
lines-alike n (l ∷ x ∷ ls) g h s = further_alike n (x ∷ ls) (record_alike g h s (record_of l)) (λ g2 h2 s2. lines-alike (n + 1) (x ∷ ls) g2 h2 s2)

-- ---- a line with one mark or the other
data Records : Record → Record → Type 0 where
  no_shape : Records shapeless shapeless
  two-marks : (f t : Bytes) (b c : Bool) (x y : Bytes) → Records (edge f t b x y) (edge f t c x y)

add-alike : (g : Graph) {r q : Record} → Records r q → Steps (add g r) (add g q)
unfolding add
add-alike g no_shape = both_stop WrongShape
add-alike g (two-marks f t b c x y) = edge-alike g g (alike_self g) f t b c x y

pick_records : (a : Bool) {x y : Record} → Records x y → Records (pick a x shapeless) (pick a y shapeless)
pick_records true h = h
pick_records false h = no_shape

abbrev pub mark : Bool → ℕ
mark b = cond b 116 45

marks-alike : (f t : Bytes) (b c : Bool) (x y : Bytes) → Records (marked f t (mark b ∷ []) x y) (marked f t (mark c ∷ []) x y)
unfolding marked same
marks-alike f t true true x y = two-marks f t true true x y
marks-alike f t true false x y = two-marks f t true false x y
marks-alike f t false true x y = two-marks f t false true x y
marks-alike f t false false x y = two-marks f t false false x y

fields-alike : (f t : Bytes) (b c : Bool) (fs : List Bytes) → Records (of_fields ((69 ∷ []) ∷ f ∷ t ∷ (mark b ∷ []) ∷ fs)) (of_fields ((69 ∷ []) ∷ f ∷ t ∷ (mark c ∷ []) ∷ fs))
unfolding of_fields edged same
fields-alike f t b c [] = no_shape
fields-alike f t b c (x ∷ []) = no_shape
fields-alike f t b c (x ∷ y ∷ []) = pick_records (is_name f) (pick_records (is_name t) (marks-alike f t b c x y))
fields-alike f t b c (x ∷ y ∷ z ∷ zs) = no_shape

-- a line of an edge, but for what follows its mark
abbrev pub line_with : Bytes → Bytes → Bool → Bytes → Bytes
line_with f t b p = 69 ∷ 9 ∷ (f ++ (9 ∷ (t ++ (9 ∷ mark b ∷ 9 ∷ p))))

mark-fields : (b : Bool) (p : Bytes) → split 9 (mark b ∷ 9 ∷ p) ≡ (mark b ∷ []) ∷ split 9 p
unfolding split onto
mark-fields true p = refl
mark-fields false p = refl

kind-fields : (x : Bytes) → split 9 (69 ∷ 9 ∷ x) ≡ (69 ∷ []) ∷ split 9 x
unfolding split onto
kind-fields x = refl

pub line-fields : (f t : Bytes) (b : Bool) (p : Bytes) → IsField f → IsField t → record_of (line_with f t b p) ≡ of_fields ((69 ∷ []) ∷ f ∷ t ∷ (mark b ∷ []) ∷ split 9 p)
unfolding record_of
line-fields f t b p hf ht =
    ap of_fields
    (kind-fields (f ++ (9 ∷ (t ++ (9 ∷ mark b ∷ 9 ∷ p))))
    ∙ ap (◌∷◌ (69 ∷ []))
    (split-joined 9 f (t ++ (9 ∷ mark b ∷ 9 ∷ p)) ∙ ap (λ (l : List Bytes). l ++ split 9 (t ++ (9 ∷ mark b ∷ 9 ∷ p))) (split-whole 9 f hf.no_tab)
    ∙ ap (◌∷◌ f)
    (split-joined 9 t (mark b ∷ 9 ∷ p) ∙ ap (λ (l : List Bytes). l ++ split 9 (mark b ∷ 9 ∷ p)) (split-whole 9 t ht.no_tab) ∙ ap (◌∷◌ t) (mark-fields b p))))

line-alike : (f t : Bytes) (b c : Bool) (p : Bytes) → IsField f → IsField t → Records (record_of (line_with f t b p)) (record_of (line_with f t c p))
line-alike f t b c p hf ht = rw (line-fields f t b p hf ht, line-fields f t c p hf ht) (fields-alike f t b c (split 9 p))

-- ---- its lines
-- a text without LF before another: the first line is longer
pub split-more : (x y : Bytes) {p : Bytes} {ps : List Bytes} → ((left right : Bytes) → x ≡ left ++ (10 ∷ right) → ⊥) → split 10 y ≡ p ∷ ps → split 10 (x ++ y) ≡ (x ++ p) ∷ ps
unfolding split onto
split-more [] y h e = e
split-more (c ∷ x) y {p} {ps} h e = by (eqb c 10) refl (split-more x y (λ l r q. h (c ∷ l) r (ap (◌∷◌ c) q)) e)
  where
    by : (t : Bool) → eqb c 10 ≡ t → split 10 (x ++ y) ≡ (x ++ p) ∷ ps → split 10 ((c ∷ x) ++ y) ≡ ((c ∷ x) ++ p) ∷ ps
    by true q ih = absurd (h [] x (ap (λ (d : ℕ). d ∷ x) (eqb-true c 10 q)))
    by false q ih = rw (split, q, ih)

mark-lines : (b : Bool) (rest : Bytes) {p : Bytes} {ps : List Bytes} → split 10 rest ≡ p ∷ ps → split 10 (9 ∷ mark b ∷ 9 ∷ rest) ≡ (9 ∷ mark b ∷ 9 ∷ p) ∷ ps
unfolding split onto
mark-lines true rest e = rw e
mark-lines false rest e = rw e

pub one-byte-lines : (c : ℕ) (y : Bytes) {p : Bytes} {ps : List Bytes} → eqb c 10 ≡ false → split 10 y ≡ p ∷ ps → split 10 (c ∷ y) ≡ (c ∷ p) ∷ ps
unfolding split onto
one-byte-lines c y q e = rw (split, q, e)

pub edge-lines : (f t : Bytes) (b : Bool) (rest : Bytes) {p : Bytes} {ps : List Bytes} → IsField f → IsField t → split 10 rest ≡ p ∷ ps → split 10 (line_with f t b rest) ≡ line_with f t b p ∷ ps
edge-lines f t b rest hf ht e =
    one-byte-lines 69 _ refl
    (one-byte-lines 9 _ refl
    (split-more f _ hf.no_lf (one-byte-lines 9 _ refl (split-more t _ ht.no_lf (mark-lines b rest e)))))

-- the same lines before others that end alike
after-alike : (g : Graph) (n : ℕ) (ls : List Bytes) {k m : List Bytes} → (k ≡ [] → ⊥) → (m ≡ [] → ⊥) → ((h : Graph) (i : ℕ) → Ends (read_lines h i k) (read_lines h i m)) → Ends (read_lines g n (ls ++ k)) (read_lines g n (ls ++ m))
after-alike g n [] hk hm e = e g n
after-alike g n (l ∷ ls) {k} {m} hk hm e = by (add g (record_of l)) refl (λ more. after-alike more (n + 1) ls hk hm e)
  where
    by : (s : Step) → add g (record_of l) ≡ s → ((more : Graph) → Ends (read_lines more (n + 1) (ls ++ k)) (read_lines more (n + 1) (ls ++ m))) → Ends (read_lines g n (l ∷ (ls ++ k))) (read_lines g n (l ∷ (ls ++ m)))
    by (fault f) a ih = rw (read_some g n l (ls ++ k) (joined-some ls k hk) a, read_some g n l (ls ++ m) (joined-some ls m hm) a) (both-refused (FaultyLine f n))
    by (went more) a ih = rw (read_next g n l (ls ++ k) (joined-some ls k hk) a, read_next g n l (ls ++ m) (joined-some ls m hm) a) (ih more)

-- ---- the texts
module _ {before from to : Bytes} (rest : Bytes) (starts : StartsLine before) (hf : IsField from) (ht : IsField to) where
  text_of : Bool → Bytes
  text_of b = before ++ line_with from to b rest

  last-alike : (g : Graph) (n : ℕ) (b c : Bool) (p : Bytes) (ps : List Bytes) → Ends (read_lines g n (line_with from to b p ∷ ps)) (read_lines g n (line_with from to c p ∷ ps))
  unfolding read_lines
  last-alike g n b c p [] = both-refused (FaultyLine WrongShape n)
  last-alike g n b c p (x ∷ ps) = further_alike n (x ∷ ps) (add-alike g (line-alike from to b c p hf ht)) (λ g2 h2 s. lines-alike (n + 1) (x ∷ ps) g2 h2 s)

  lines_are : (b : Bool) {p : Bytes} {ps : List Bytes} → split 10 rest ≡ p ∷ ps → split 10 (text_of b) ≡ (lines_of before starts).ls ++ (line_with from to b p ∷ ps)
  unfolding text_of
  lines_are b e = (lines_of before starts).further (line_with from to b rest) ∙ ap (λ (l : List Bytes). (lines_of before starts).ls ++ l) (edge-lines from to b rest hf ht e)

  as_long : (b c : Bool) → length (text_of b) ≡ length (text_of c)
  unfolding text_of
  as_long b c =
      omega (
        arith,
        length-append before (line_with from to b rest),
        length-append before (line_with from to c rest),
        length-append from (9 ∷ (to ++ (9 ∷ mark b ∷ 9 ∷ rest))),
        length-append from (9 ∷ (to ++ (9 ∷ mark c ∷ 9 ∷ rest))),
        length-append to (9 ∷ mark b ∷ 9 ∷ rest),
        length-append to (9 ∷ mark c ∷ 9 ∷ rest),
      )

  texts_alike : (b c : Bool) → length (text_of c) ≤ 32768 → Ends (graph_of (text_of b)) (graph_of (text_of c))
  texts_alike b c short = by (split 10 rest) refl
    where
      some : (x : Bytes) (xs : List Bytes) → x ∷ xs ≡ [] → ⊥
      some x xs e = let z : ◌≡◌ {A = ℕ} 0 1 = cc in omega arith

      by : (ps : List Bytes) → split 10 rest ≡ ps → Ends (graph_of (text_of b)) (graph_of (text_of c))
      by [] e = absurd (split-some 10 rest e)
      by (p ∷ ps) e =
          rw (short-lines (text_of b) (omega (arith, as_long b c, short)), short-lines (text_of c) short, lines_are b e, lines_are c e)
          (after-alike nothing 1 (lines_of before starts).ls (some _ _) (some _ _) (λ h i. last-alike h i b c p ps))

pub marked_by : {m : ℕ} → IsMark m → (b : Bool) × (m ≡ mark b)
marked_by (t_mark e) = (true, e)
marked_by (dash e) = (false, e)

-- THE LAW
pub mark-free : (before from to rest : Bytes) (m other : ℕ) → StartsLine before → IsField from → IsField to → IsMark m → IsMark other → length (edge_text before from to rest m) ≤ 32768 → {cause : Cause} → graph_of (edge_text before from to rest other) ≡ refused cause → graph_of (edge_text before from to rest m) ≡ refused cause
unfolding text_of
mark-free before from to rest m other starts hf ht p q short {cause} =
    let b = marked_by p in
    let c = marked_by q in
    rw (b.1, c.1) (λ e. ends-refused (texts_alike rest starts hf ht c.0 b.0 (subst (λ (x : ℕ). length (edge_text before from to rest x) ≤ 32768) b.1 short)) e)
