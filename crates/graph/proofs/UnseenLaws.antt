-- After an `M` line the other lines are judged as without it. Assumes nothing.
use Rattle.std.specs.Prelude.{is_some, Result, Ok, Err}
use Prim.Native.Nat.{ℕ, ◌+◌, ◌≤◌}
use mathlib.Core.Path.{◌≡◌, refl, ap, ◌∙◌}
use mathlib.Core.Bool.{Bool, true, false}
use mathlib.Core.List.{List, [], ◌∷◌, ◌++◌}
use native.Mathlib.Omega.{arith}
use lib.Dec.{eqb, ltb, leb}
use lib.ListN.{length, length-append}
use Rattle.formula.specs.Classes.{pick}
use Rattle.assertion.specs.Graph.{Bytes, Edge, Graph, signal_bits, constant_bits}
use Rattle.assertion.specs.declared.Mode.{Mode}
use Rattle.assertion.specs.declared.Mode.TheVariants.{Unsaid}
use Rattle.graph.specs.Pieces.{split, look_up, look_up_name}
use Rattle.graph.specs.Records.{Record, shapeless, mode, signal, constant, vertex, edge, record_of}
use Rattle.graph.specs.Reading.{Step, fault, went, mode_lines, add_signal, add_constant, add_vertex, edge_of, names_of, unless_faulty, judge_edge, add_edge, add, refused, accepted, finished, read_lines, nothing, graph_of}
use Rattle.graph.specs.ModeClaims.{ModeWord, ModeLine, FirstLine, Moved}
use Rattle.text.specs.Lines.StartsLine.{first}
use Rattle.graph.specs.ModeClaims.FirstLine.{says, silent}
use Rattle.graph.specs.ModeClaims.Moved.{taken, later, vertexless}
use Rattle.graph.specs.Private.Steps.{records_of}
use Rattle.graph.specs.declared.Fault.{Fault}
use Rattle.graph.specs.declared.Fault.TheVariants.{WrongShape, WrongOrder, TooMany, NameRepeated}
use Rattle.graph.specs.declared.Cause.TheVariants.{NoVertex}
use Rattle.graph.proofs.PieceLaws.{split-some}
use Rattle.graph.proofs.SplitLaws.{first_piece}
use Rattle.graph.proofs.ModeLineLaws.{mode-from, word_said, line_said}
use Rattle.graph.proofs.HeldLaws.{plus_mode, plus_signal, plus_constant, plus_vertex}
use Rattle.graph.proofs.TextLaws.{read_next}
use Rattle.graph.proofs.ModeTextLaws.{line-counts, line_keeps, mode-refused, mode_lines_lem, word-plain, first-mode, short-lines}

module _ (m : Mode) where
  -- a step, with the mode in the graph that it leads to
  in_mode : Step → Step
  in_mode (fault f) = fault f
  in_mode (went g) = went (plus_mode g m)

  in_pick : (t : Bool) (x y : Step) → pick t (in_mode x) (in_mode y) ≡ in_mode (pick t x y)
  in_pick true x y = refl
  in_pick false x y = refl

  in_tested : (a b c : Bool) (f1 f2 f3 : Fault) (g : Graph) → pick a (fault f1) (pick b (fault f2) (pick c (fault f3) (went (plus_mode g m)))) ≡ in_mode (pick a (fault f1) (pick b (fault f2) (pick c (fault f3) (went g))))
  unfolding in_mode
  in_tested true b c f1 f2 f3 g = refl
  in_tested false true c f1 f2 f3 g = refl
  in_tested false false true f1 f2 f3 g = refl
  in_tested false false false f1 f2 f3 g = refl

  module _ (g : Graph) where
    in_signal : (n : Bytes) (w : ℕ) → add_signal (plus_mode g m) n w ≡ in_mode (add_signal g n w)
    unfolding add_signal signal_bits
    in_signal n w = in_tested (ltb 0 (length g.constants + length g.vertices + length g.edges)) (ltb 63 (signal_bits g + w)) (is_some (look_up_name n (names_of g))) WrongOrder TooMany NameRepeated (plus_signal g n w)

    in_constant : (n : Bytes) (w : ℕ) → add_constant (plus_mode g m) n w ≡ in_mode (add_constant g n w)
    unfolding add_constant constant_bits
    in_constant n w = in_tested (ltb 0 (length g.vertices + length g.edges)) (ltb 6 (constant_bits g + w)) (is_some (look_up_name n (names_of g))) WrongOrder TooMany NameRepeated (plus_constant g n w)

    in_vertex : (n : Bytes) → add_vertex (plus_mode g m) n ≡ in_mode (add_vertex g n)
    unfolding add_vertex
    in_vertex n = in_tested (ltb 0 (length g.edges)) (leb 64 (length g.vertices)) (is_some (look_up n g.vertices)) WrongOrder TooMany NameRepeated (plus_vertex g n)

    in_fine : (j : Result Unit Fault) (e : Edge) → unless_faulty j (plus_mode g m) e ≡ in_mode (unless_faulty j g e)
    unfolding in_mode unless_faulty
    in_fine (Ok tt) e = refl
    in_fine (Err k) e = refl

    in_edge : (f t : Bytes) (b : Bool) (a c : Bytes) → add_edge (plus_mode g m) f t b a c ≡ in_mode (add_edge g f t b a c)
    unfolding in_mode add_edge judge_edge edge_of signal_bits
    in_edge f t b a c = rw (in_fine, ← in_pick, ← in_pick, ← in_pick)

    -- a line is judged alike, unless it is a mode and the first
    in_record : (r : Record) → ((k : Mode) → r ≡ mode k → 1 ≤ records_of g) → g.mode ≡ Unsaid → add (plus_mode g m) r ≡ in_mode (add g r)
    unfolding in_mode add mode_lines
    in_record shapeless h u = refl
    in_record (mode k) h u =
        let n = h k refl in
        let z : mode_lines g.mode ≡ 0 = ap mode_lines u in
        rw (mode-refused (plus_mode g m) k (omega (arith, n, z)), mode-refused g k n)
    in_record (signal n w) h u = in_signal n w
    in_record (constant n w) h u = in_constant n w
    in_record (vertex n) h u = in_vertex n
    in_record (edge f t b a c) h u = in_edge f t b a c

  -- the end, and the lines
  moved_end : (g : Graph) → Moved m (finished g) (finished (plus_mode g m))
  unfolding finished
  moved_end g = by (eqb (length g.vertices) 0)
    where
      by : (t : Bool) → Moved m (pick t (refused NoVertex) (accepted g)) (pick t (refused NoVertex) (accepted (plus_mode g m)))
      by true = vertexless
      by false = taken g

  moved_lines : (g : Graph) (n : ℕ) (ls : List Bytes) → g.mode ≡ Unsaid → ((l x : Bytes) (more : List Bytes) (k : Mode) → ls ≡ l ∷ x ∷ more → record_of l ≡ mode k → 1 ≤ records_of g) → Moved m (read_lines g n ls) (read_lines (plus_mode g m) (n + 1) ls)
  unfolding read_lines in_mode
  moved_lines g n [] u h = moved_end g
  moved_lines g n ([] ∷ []) u h = moved_end g
  moved_lines g n ((b ∷ bs) ∷ []) u h = later WrongShape n
  moved_lines g n (l ∷ x ∷ ls) u h =
      by (add g (record_of l)) refl (in_record g (record_of l) (λ k e. h l x ls k refl e) u) (λ more v w. moved_lines more (n + 1) (x ∷ ls) v w)
    where
      by : (s : Step) → add g (record_of l) ≡ s → add (plus_mode g m) (record_of l) ≡ in_mode (add g (record_of l)) → ((more : Graph) → more.mode ≡ Unsaid → ((l2 x2 : Bytes) (rest : List Bytes) (k : Mode) → x ∷ ls ≡ l2 ∷ x2 ∷ rest → record_of l2 ≡ mode k → 1 ≤ records_of more) → Moved m (read_lines more (n + 1) (x ∷ ls)) (read_lines (plus_mode more m) (n + 1 + 1) (x ∷ ls))) → Moved m (read_lines g n (l ∷ x ∷ ls)) (read_lines (plus_mode g m) (n + 1) (l ∷ x ∷ ls))
      by (fault f) a i ih = let j : add (plus_mode g m) (record_of l) ≡ fault f = i ∙ ap in_mode a in rw (read_lines, a, j) (later f n)
      by (went more) a i ih =
          let j : add (plus_mode g m) (record_of l) ≡ went (plus_mode more m) = i ∙ ap in_mode a in
          rw (read_lines, a, j)
          (ih more (line_keeps g l (λ k e. h l x ls k refl e) a ∙ u) (λ l2 x2 rest k e q. line-counts g l a))

unsaid_word : {word : Bytes} → ModeWord word Unsaid → ⊥
unfolding mode_lines
unsaid_word p = let z : ◌≡◌ {A = ℕ} 0 1 = word_said p in omega arith

-- THE LAW
pub unseen : {text word after : Bytes} {m : Mode} → ModeLine text [] word after → ModeWord word m → FirstLine after Unsaid → length text ≤ 32768 → Moved m (graph_of after) (graph_of text)
unseen {text} {word} {after} {m} w q f short =
    rw (short-lines after (omega (arith, ap length w.bytes, length-append word (10 ∷ after))), short-lines text short, read)
    (moved_lines m nothing 1 (split 10 after) refl (λ l x more k e r. absurd (not_first f l x more k e r)))
  where
    read : read_lines nothing 1 (split 10 text) ≡ read_lines (plus_mode nothing m) (1 + 1) (split 10 after)
    read = rw (w.bytes, mode_lines_lem word after w.one_line) (read_next nothing 1 (77 ∷ 9 ∷ word) (split 10 after) (split-some 10 after) (ap (add nothing) (line_said q) ∙ first-mode m))

    not_first : FirstLine after Unsaid → (l x : Bytes) (more : List Bytes) (k : Mode) → split 10 after ≡ l ∷ x ∷ more → record_of l ≡ mode k → ⊥
    not_first (says v rest n p r) l x more k e s = unsaid_word p
    not_first (silent h) l x more k e s =
        let v = mode-from l s in
        let p = first_piece 10 after e in
        h v.0 p.0 (record { bytes = p.1 ∙ ap (λ (y : Bytes). y ++ (10 ∷ p.0)) v.1; starts = first refl; one_line = word-plain v.2 })
