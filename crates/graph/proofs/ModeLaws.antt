-- The terminal edges chosen: the arrays of the lines read, with their terminal edges chosen by the mode, are
-- those of the graph. Assumes nothing.
use Prim.Native.Nat.{ℕ, zero, suc, ◌+◌, ◌-◌, ◌≤◌, ◌<◌}
use mathlib.Core.Path.{◌≡◌, refl, sym, ap, ◌∙◌}
use mathlib.Core.Bool.{Bool, true, false, ◌||◌, cond}
use mathlib.Core.List.{List, [], ◌∷◌, map, append-nil}
use native.Mathlib.Numerals.{add-one}
use native.Mathlib.Omega.{arith}
use lib.ListN.{length, get_or, take, drop, set, replicate, drop_of_length-le}
use lib.Seq.{take_at, drop_at, take_all}
use Rattle.assertion.specs.Lists.{any}
use Rattle.assertion.specs.Graph.{Bytes, Edge, Graph, is_terminal}
use Rattle.assertion.specs.declared.Mode.{Mode}
use Rattle.assertion.specs.declared.Mode.TheVariants.{Unsaid, Terminal, Strong}
use Rattle.assertion.proofs.TerminalLaws.{each, terminal-each, terminal-marked}
use Rattle.graph.specs.Reading.{mode_lines, nothing}
use Rattle.graph.specs.Held.{arc_of, arcs_of, no_arc, filled, held_as, held_of}
use Rattle.graph.specs.Private.Steps.{named_of, written_of, made_terminal, all_terminal, with_arcs, each_terminal, chosen_in}
use Rattle.graph.specs.declared.Arc.{Arc}
use Rattle.graph.specs.declared.CheckedGraph.{CheckedGraph}
use Rattle.graph.proofs.ArrayLaws.{arcs-length}

-- ---- the arcs of edges, by the test for the terminal ones
module _ (text : Bytes) where
  same-arcs : (t u : Edge → Bool) → ((e : Edge) → t e ≡ u e) → (n : ℕ) (es : List Edge) → arcs_of t text n es ≡ arcs_of u text n es
  unfolding arcs_of
  same-arcs t u h n [] = refl
  same-arcs t u h n (e ∷ es) = rw (h e, same-arcs t u h (n + 1) es)

  all-arcs : (t : Edge → Bool) (n : ℕ) (es : List Edge) → map made_terminal (arcs_of t text n es) ≡ arcs_of (λ e. true) text n es
  unfolding arcs_of arc_of
  all-arcs t n [] = refl
  all-arcs t n (e ∷ es) = rw (all-arcs t (n + 1) es)

  any-arcs : (n : ℕ) (es : List Edge) → any (λ a. a.terminal) (arcs_of (λ e. e.marked) text n es) ≡ any (λ e. e.marked) es
  unfolding arcs_of arc_of
  any-arcs n [] = refl
  any-arcs n (e ∷ es) = rw (any-arcs (n + 1) es)

  each-arcs : (m : Mode) (n : ℕ) (es : List Edge) → each_terminal m (arcs_of (λ e. e.marked) text n es) ≡ each m es
  unfolding each_terminal each
  each-arcs Unsaid n es = rw (any-arcs n es)
  each-arcs Terminal n es = refl
  each-arcs Strong n es = refl

  module _ (graph : Graph) where
    abbrev arcs : List Arc
    arcs = arcs_of (λ e. e.marked) text (mode_lines graph.mode + named_of graph + length graph.vertices) graph.edges

    abbrev rest : List Arc
    rest = replicate (128 - length arcs) no_arc

    first-arcs : take (length graph.edges) (filled 128 no_arc arcs) ≡ arcs
    unfolding filled
    first-arcs = take_at arcs rest (length graph.edges) (arcs-length (λ e. e.marked) text _ graph.edges)

    last-arcs : drop (length graph.edges) (filled 128 no_arc arcs) ≡ rest
    unfolding filled
    last-arcs = drop_at arcs rest (length graph.edges) (arcs-length (λ e. e.marked) text _ graph.edges)

    -- the arcs with each edge terminal, and as they are written
    held-each : each graph.mode graph.edges ≡ true → with_arcs (written_of text graph) (all_terminal (length graph.edges) (filled 128 no_arc arcs)) ≡ held_of text graph
    unfolding held_of held_as filled
    held-each h =
        let n = mode_lines graph.mode + named_of graph + length graph.vertices in
        let l : length arcs ≡ length (arcs_of (is_terminal graph) text n graph.edges) = arcs-length (λ e. e.marked) text n graph.edges ∙ sym (arcs-length (is_terminal graph) text n graph.edges) in
        rw (first-arcs, last-arcs, all-arcs (λ e. e.marked) n graph.edges, l, same-arcs (is_terminal graph) (λ e. true) (λ e. terminal-each graph e h) n graph.edges)

    held-marked : each graph.mode graph.edges ≡ false → written_of text graph ≡ held_of text graph
    unfolding held_of held_as
    held-marked h = rw (same-arcs (is_terminal graph) (λ e. e.marked) (λ e. terminal-marked graph e h) (mode_lines graph.mode + named_of graph + length graph.vertices) graph.edges)

    each-is : each_terminal graph.mode (take (length graph.edges) (filled 128 no_arc arcs)) ≡ each graph.mode graph.edges
    each-is = rw first-arcs (each-arcs graph.mode _ graph.edges)

    chosen-held : chosen_in (written_of text graph) ≡ held_of text graph
    unfolding held_as
    chosen-held = by (each graph.mode graph.edges) refl
      where
        either : Bool → CheckedGraph
        either b = cond b (with_arcs (written_of text graph) (all_terminal (length graph.edges) (filled 128 no_arc arcs))) (written_of text graph)

        by : (b : Bool) → each graph.mode graph.edges ≡ b → chosen_in (written_of text graph) ≡ held_of text graph
        by true k = ap either (each-is ∙ k) ∙ held-each k
        by false k = ap either (each-is ∙ k) ∙ held-marked k

-- THE LAW
pub chosen : (text : Bytes) (g : CheckedGraph) (graph : Graph) → g ≡ written_of text graph → chosen_in g ≡ held_of text graph
chosen text g graph h = rw h (chosen-held text graph)

pub nothing-held : (text : Bytes) → written_of text nothing ≡ held_of text nothing
unfolding held_of held_as arcs_of
nothing-held text = refl

-- ---- the loops over the arcs
abbrev terminal : Arc → Bool
terminal a = a.terminal

-- an arc is terminal, after none that is
marked-suc : (l : List Arc) (i : ℕ) → any terminal (take i l) ≡ false → any terminal (take (suc i) l) ≡ (get_or l i no_arc).terminal
marked-suc [] zero h = refl
marked-suc [] (suc i) h = refl
marked-suc (a ∷ l) zero h = or-false a.terminal
  where
    or-false : (b : Bool) → (b || false) ≡ b
    or-false true = refl
    or-false false = refl
marked-suc (a ∷ l) (suc i) h = by a.terminal h (marked-suc l i)
  where
    by : (b : Bool) → (b || any terminal (take i l)) ≡ false → (any terminal (take i l) ≡ false → any terminal (take (suc i) l) ≡ (get_or l i no_arc).terminal) → (b || any terminal (take (suc i) l)) ≡ (get_or l i no_arc).terminal
    by true k ih = let z : ◌≡◌ {A = ℕ} 0 1 = cc in absurd (omega arith)
    by false k ih = ih k

marked_further : (l : List Arc) (m n : ℕ) → m ≤ n → any terminal (take m l) ≡ true → any terminal (take n l) ≡ true
marked_further [] zero n k h = let z : ◌≡◌ {A = ℕ} 0 1 = cc in absurd (omega arith)
marked_further [] (suc m) n k h = let z : ◌≡◌ {A = ℕ} 0 1 = cc in absurd (omega arith)
marked_further (a ∷ l) zero n k h = let z : ◌≡◌ {A = ℕ} 0 1 = cc in absurd (omega arith)
marked_further (a ∷ l) (suc m) zero k h = absurd (omega arith)
marked_further (a ∷ l) (suc m) (suc n) k h = by a.terminal h (marked_further l m n (omega arith))
  where
    by : (b : Bool) → (b || any terminal (take m l)) ≡ true → (any terminal (take m l) ≡ true → any terminal (take n l) ≡ true) → (b || any terminal (take n l)) ≡ true
    by true q ih = refl
    by false q ih = ih q

pub marked-none : (l : List Arc) → any terminal (take 0 l) ≡ false
marked-none [] = refl
marked-none (a ∷ l) = refl

module _ (l : List Arc) (i : ℕ) (h : any terminal (take i l) ≡ false) where
  pub marked_next : {b : Bool} → b ≡ (get_or l i no_arc).terminal → b ≡ false → any terminal (take (i + 1) l) ≡ false
  marked_next e k = rw (add-one i) (marked-suc l i h ∙ sym e ∙ k)

  pub marked-here : (n : ℕ) → i < n → {b : Bool} → b ≡ (get_or l i no_arc).terminal → b ≡ true → true ≡ any terminal (take n l)
  marked-here n m e k = sym (marked_further l (suc i) n (omega arith) (marked-suc l i h ∙ sym e ∙ k))

-- one more arc made terminal
pub made_none : (l : List Arc) → all_terminal 0 l ≡ l
made_none [] = refl
made_none (a ∷ l) = refl

made_suc : (l : List Arc) (i : ℕ) → set (all_terminal i l) i (made_terminal (get_or l i no_arc)) ≡ all_terminal (suc i) l
made_suc [] zero = refl
made_suc [] (suc i) = refl
made_suc (a ∷ l) zero = refl
made_suc (a ∷ l) (suc i) = ap (◌∷◌ (made_terminal a)) (made_suc l i)

made_at : (l : List Arc) (i : ℕ) → get_or (all_terminal i l) i no_arc ≡ get_or l i no_arc
made_at [] zero = refl
made_at [] (suc i) = refl
made_at (a ∷ l) zero = refl
made_at (a ∷ l) (suc i) = made_at l i

pub made_more : (l : List Arc) (i : ℕ) {items : List Arc} → items ≡ all_terminal i l → set items i (made_terminal (get_or items i no_arc)) ≡ all_terminal (i + 1) l
made_more l i e = rw (e, made_at l i, add-one i) (made_suc l i)

-- all of them
pub made_all : (l : List Arc) (i : ℕ) {items : List Arc} → items ≡ all_terminal i l → length l ≤ i → items ≡ map made_terminal l
made_all l i e h = e ∙ rw (take_all i l h, drop_of_length-le l h) (append-nil (map made_terminal l))
