-- The terminal edges of an accepted text, by the bytes of their marks; and the claim on modes. Assumes nothing.
use Rattle.std.specs.Prelude.{Result, Err}
use Prim.Native.Nat.{ℕ, zero, suc, ◌-◌, ◌≤◌, ◌<◌}
use mathlib.Core.Path.{◌≡◌, refl, sym, ap, subst, ◌∙◌}
use mathlib.Core.Logic.{◌⊎◌, inl, inr}
use mathlib.Core.Bool.{Bool, true, false, cond}
use mathlib.Core.List.{List, [], ◌∷◌, Memᴰ}
use native.Mathlib.Omega.{arith}
use borrow.Author.Tests.{lt-ltb}
use lib.ListN.{length, get_or, drop}
use Rattle.assertion.specs.Graph.{Bytes, truth, Edge, Graph, is_terminal}
use Rattle.assertion.specs.Paths.{TerminalEdge}
use Rattle.assertion.specs.Paths.TerminalEdge.{by_mode, by_mark, unmarked}
use Rattle.assertion.proofs.TerminalLaws.{reason, for_reason}
use Rattle.graph.specs.Reading.{accepted, refusal_of, graph_of}
use Rattle.graph.specs.Held.{no_arc, held_as, held_of, answer_of, read_of}
use Rattle.graph.specs.Claims.{breaks, EdgeLine, GraphMeans}
use Rattle.graph.specs.ModeClaims.{mark_at, Chosen, EdgeChosen, Answered, ModeMeans}
use Rattle.graph.specs.ModeClaims.Chosen.{mode-strong, mark_t, no_mark}
use Rattle.graph.specs.declared.Cause.{Cause}
use Rattle.graph.specs.declared.Cause.TheVariants.{TextTooLong}
use Rattle.graph.specs.declared.CheckedGraph.{CheckedGraph}
use Rattle.graph.proofs.HeldLaws.{sound}
use Rattle.graph.specs.WidthClaims.{WidthMeans}
use Rattle.graph.specs.FormulaClaims.{FormulaMeans}
use Rattle.graph.proofs.FormulaTextLaws.{formula-means}
use Rattle.graph.proofs.WidthAnswerLaws.{width-means}
use Rattle.graph.proofs.AnswerLaws.{CheckedText, checked-text}
use Rattle.graph.proofs.ModeTextLaws.{refused-outcome, first_line_is, mode_again, word-wrong, word-missing, lf_missing}
use Rattle.graph.proofs.MarkLaws.{mark-free}
use Rattle.graph.proofs.UnseenLaws.{unseen}

-- ---- all edges of a list, by index
all-at : (es : List Edge) (d : Edge) → ((j : ℕ) → j < length es → (get_or es j d).marked ≡ false) → (f : Edge) → Memᴰ f es → f.marked ≡ false
all-at [] d h f x' = elim x' [ ]
all-at (e ∷ es) d h f (Memᴰ.head q) = ap (λ (x : Edge). x.marked) q ∙ h 0 (omega arith)
all-at (e ∷ es) d h f (Memᴰ.tail m) = all-at es d (λ j l. h (suc j) (omega arith)) f m

member : (es : List Edge) (d : Edge) (j : ℕ) → j < length es → Memᴰ (get_or es j d) es
member [] d j h = absurd (omega arith)
member (e ∷ es) d zero h = Memᴰ.head refl
member (e ∷ es) d (suc j) h = Memᴰ.tail (member es d j (omega arith))

-- ---- a mark by its byte
mark-or : (b : Bool) {n : ℕ} → n ≡ cond b 116 45 → (n ≡ 116) ⊎ (n ≡ 45)
mark-or true e = inl e
mark-or false e = inr e

marked_t : (b : Bool) {n : ℕ} → n ≡ cond b 116 45 → n ≡ 116 → b ≡ true
marked_t true e k = refl
marked_t false e k = absurd (omega arith)

marked-dash : (b : Bool) {n : ℕ} → n ≡ cond b 116 45 → n ≡ 45 → b ≡ false
marked-dash true e k = absurd (omega arith)
marked-dash false e k = refl

t_marked : (b : Bool) {n : ℕ} → n ≡ cond b 116 45 → b ≡ true → n ≡ 116
t_marked b e k = e ∙ ap (λ (x : Bool). cond {A = ℕ} x 116 45) k

dash-marked : (b : Bool) {n : ℕ} → n ≡ cond b 116 45 → b ≡ false → n ≡ 45
dash-marked b e k = e ∙ ap (λ (x : Bool). cond {A = ℕ} x 116 45) k

no_edge : Edge
no_edge = record { from = 0; to = 0; marked = false; antecedent = truth false; consequent = truth false; antecedent_text = []; consequent_text = [] }

-- ---- the terminal edges of a text that was checked
module _ {text : Bytes} {g : CheckedGraph} (t : CheckedText text g) where
  abbrev graph : Graph
  graph = t.graph

  abbrev edge : ℕ → Edge
  edge i = get_or graph.edges i no_edge

  inside : {i : ℕ} → i < g.edges → i < length graph.edges
  inside h = omega (arith, t.edges_are)

  mark_at_lem : (i : ℕ) → i < g.edges → mark_at text g i ≡ cond (edge i).marked 116 45
  mark_at_lem i h = subst (λ (x : CheckedGraph). mark_at text x i ≡ cond (edge i).marked 116 45) (sym t.arrays) (t.graph_sound.edge_at i no_edge (inside h)).mark-is

  behind : (i : ℕ) → i < g.edges → EdgeLine text (get_or g.arcs i no_arc).left
  behind i h = subst (λ (x : CheckedGraph). EdgeLine text (get_or x.arcs i no_arc).left) (sym t.arrays) (t.graph_sound.edge_at_line i (inside h))

  is_terminal_lem : (i : ℕ) → i < g.edges → (get_or g.arcs i no_arc).terminal ≡ is_terminal graph (edge i)
  is_terminal_lem i h = subst (λ (x : CheckedGraph). (get_or x.arcs i no_arc).terminal ≡ is_terminal graph (edge i)) (sym t.arrays) (t.graph_sound.edge_at i no_edge (inside h)).terminal-is

  own_line : (i : ℕ) → i < g.edges → breaks (drop (get_or g.arcs i no_arc).left text) ≡ g.edges - i
  own_line i h =
      let z : length graph.edges - i ≡ g.edges - i = omega (arith, t.edges_are) in
      subst (λ (x : CheckedGraph). breaks (drop (get_or x.arcs i no_arc).left text) ≡ g.edges - i) (sym t.arrays) (t.graph_sound.own_line i (inside h) ∙ z)

  mode-is : g.mode ≡ graph.mode
  unfolding held_of held_as
  mode-is = ap (λ (x : CheckedGraph). x.mode) t.arrays

  there : (i : ℕ) → i < g.edges → TerminalEdge graph (edge i) → Chosen text g i
  there i h (by_mode k) = mode-strong (mode-is ∙ k)
  there i h (by_mark k) = mark_t (t_marked (edge i).marked (mark_at_lem i h) k)
  there i h (unmarked k n) = no_mark (mode-is ∙ k) (λ j l. dash-marked (edge j).marked (mark_at_lem j l) (n (edge j) (member graph.edges no_edge j (inside l))))

  back : (i : ℕ) → i < g.edges → Chosen text g i → TerminalEdge graph (edge i)
  back i h (mode-strong k) = by_mode (sym mode-is ∙ k)
  back i h (mark_t k) = by_mark (marked_t (edge i).marked (mark_at_lem i h) k)
  back i h (no_mark k n) =
      unmarked (sym mode-is ∙ k)
      (all-at graph.edges no_edge (λ j l. let m : j < g.edges = omega (arith, t.edges_are) in marked-dash (edge j).marked (mark_at_lem j m) (n j m)))

  edge-chosen : (i : ℕ) → i < g.edges → EdgeChosen text g i
  edge-chosen i h =
      record {
        behind = behind i h;
        own_line = own_line i h;
        mark = mark-or (edge i).marked (mark_at_lem i h);
        reason = λ k. there i h (reason graph (edge i) (sym (is_terminal_lem i h) ∙ k));
        chosen = λ k. is_terminal_lem i h ∙ for_reason graph (edge i) (back i h k);
      }

-- ---- what is answered
answered : (text : Bytes) {r : Result CheckedGraph Cause} → r ≡ read_of text → (graph : Graph) → graph_of text ≡ accepted graph → Answered text graph r
unfolding read_of answer_of held_of held_as
answered text e graph h = rw (e, h) (record { graph = held_of text graph; checked = refl; held = refl; mode = refl; named = refl; signals = refl; constants = refl; vertices = refl; edges = refl })

too_long : (text : Bytes) {r : Result CheckedGraph Cause} → r ≡ read_of text → 32768 < length text → (cause : Cause) × (r ≡ Err cause) × (refusal_of cause ≡ record { number = 1; line = 0 })
unfolding graph_of refusal_of
too_long text e h = (TextTooLong, refused-outcome text (rw (lt-ltb 32768 (length text) h)) e, refl)

-- THE LAW
pub mode-means : (text : Bytes) {r : Result CheckedGraph Cause} → r ≡ read_of text → ModeMeans text r
mode-means text {r} e =
    record {
      accepts = answered text e;
      refuses = λ cause h. refused-outcome text h e;
      too_long = too_long text e;
      first_line_is = λ g h. let t = checked-text text e h in rw (mode-is t) (first_line_is text t.accepts);
      edges-chosen = λ g h i l. edge-chosen (checked-text text e h) i l;
      another = λ before word after m w q n short. mode_again w q n short e;
      other_word = λ before word after w q short. word-wrong w q short e;
      no_word = λ before after starts b short. word-missing after starts b short e;
      no_lf = λ before rest starts b plain short. lf_missing rest starts b plain short e;
      mark-free = λ before from to rest m other starts hf ht p q b short cause h.
          refused-outcome text (ap graph_of b ∙ mark-free before from to rest m other starts hf ht p q (subst (λ (x : Bytes). length x ≤ 32768) b short) h) e;
      unseen = λ word after m w q f short. unseen w q f short;
    }

-- what the contract of read_graph says, by its equality
pub claimed : (text : Bytes) {r : Result CheckedGraph Cause} → r ≡ read_of text → (r ≡ read_of text) × (GraphMeans text × (ModeMeans text r × (WidthMeans text r × FormulaMeans text r)))
claimed text e = (e, (λ graph h. sound text h, (mode-means text e, (width-means text e, formula-means text e))))
