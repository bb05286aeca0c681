-- The stroke buffer's graph rejects just what is claimed, for every k. Assumes nothing.
use Prim.Native.Nat.{ℕ, zero, suc, ◌+◌, ◌-◌, ◌<◌, ◌≤◌}
use mathlib.Core.Path.{◌≡◌, refl, sym, ap, ap₂, subst}
use mathlib.Core.Logic.{⊎_elim}
use mathlib.Core.Bool.{Bool, true, false, not, cond, ◌&&◌, ◌||◌, beq, or-false, or-not_self}
use mathlib.Core.List.{List, [], ◌∷◌, ◌++◌, Memᴰ}
use native.Mathlib.Omega.{arith}
use native.Mathlib.Decide.{ℕ_discrete}
use lib.ListN.{length}
use lib.Dec.{T, eqb, eqb→eq, eqb_refl}
use lib.Ieee.Bits.{is_true}
use borrow.Author.Tests.{eqb-true, eqb-false}
use Rattle.assertion.specs.Lists.{any, From}
use Rattle.assertion.specs.Graph.{Edge, Cycle, Setting, bits_of, constant_bits, is_terminal, is_init, holds}
use Rattle.assertion.specs.Paths.{since_init, leaves, ends_terminal, antecedents_true, consequent_false, RejectingPath, Rejected, is_rejected, bytes_of, verdicts}
use Rattle.assertion.proofs.ListLaws.{and_intro, and_left, and_right, same_test, any_intro, any_elim}
use Rattle.assertion.proofs.PathLaws.{paths_mean}
use Rattle.buffer_text.specs.Claims.{is_reset, is_enq, is_deq, is_empty, is_full, count_after, can_move, flags_wrong, moves_from, wrong_from, BufferRejected}
use Rattle.buffer_text.proofs.Graph.{edges_at, edges_below, start, buffer_graph}

-- the last of the cycles from the latest init on is rejected; that an edge could be taken each time needs no test
abbrev pub buffer_rejects : ℕ → List Cycle → Bool
buffer_rejects k [] = false
buffer_rejects k (c ∷ w) = is_reset c && wrong_from k 0 w

-- ---- bits
-- where an antecedent holds, the count after: of two edges, and of three
goes : (x : Bool) (m n : ℕ) → (T x → m ≡ cond x m n) × (T (not x) → n ≡ cond x m n)
goes true m n = (λ t. refl, λ t. absurd t)
goes false m n = (λ t. absurd t, λ t. refl)

goes_between : (x y : Bool) (m n l : ℕ) →
    let r = cond (x && not y) m (cond (not x && y) n l) in
    (T (x && not y) → m ≡ r) × (T (not x && y) → n ≡ r) × (T (beq x y) → l ≡ r)
goes_between true true m n l = (λ t. absurd t, λ t. absurd t, λ t. refl)
goes_between true false m n l = (λ t. refl, λ t. absurd t, λ t. absurd t)
goes_between false true m n l = (λ t. absurd t, λ t. refl, λ t. absurd t)
goes_between false false m n l = (λ t. absurd t, λ t. absurd t, λ t. refl)

-- one of the antecedents holds: of two edges, and of three
some_of_two : (x : Bool) → T (x || (not x || false))
some_of_two true = tt
some_of_two false = tt

some_of_three : (x y : Bool) → T ((x && not y) || ((not x && y) || (beq x y || false)))
some_of_three true true = tt
some_of_three true false = tt
some_of_three false true = tt
some_of_three false false = tt

-- a flag, as a consequent has it and as the claim has it
flag : (z a : Bool) → cond z a (not a) ≡ beq a z
flag true true = refl
flag true false = refl
flag false true = refl
flag false false = refl

flags : (z w a b : Bool) → not (cond z a (not a) && cond w b (not b)) ≡ not (beq a z && beq b w)
flags z w a b = ap₂ (λ (p q : Bool). not (p && q)) (flag z a) (flag w b)

-- ---- an edge can always be taken
can_move_lem : (k n : ℕ) (c : Cycle) → can_move k n c ≡ true
can_move_lem k n c = by (eqb n 0) (eqb n k) refl refl
  where
    by : (z w : Bool) → eqb n 0 ≡ z → eqb n k ≡ w → can_move k n c ≡ true
    by true w a b = rw a (or-not_self (is_enq c))
    by false true a b = rw (a, b) (or-not_self (is_deq c))
    by false false a b = rw (a, b) (is_true _ (rw (or-false (beq (is_enq c) (is_deq c))) at (some_of_three (is_enq c) (is_deq c))))

moves_from_lem : (k n : ℕ) (w : List Cycle) → moves_from k n w ≡ true
moves_from_lem k n [] = refl
moves_from_lem k n (c ∷ w) = rw (can_move_lem k n c) (moves_from_lem k (count_after k n c) w)

-- ---- edges
abbrev Each : (Edge → Type 0) → List Edge → Type 0
Each P [] = Unit
Each P (e ∷ es) = P e × Each P es

among : (P : Edge → Type 0) {e : Edge} {es : List Edge} → Each P es → Memᴰ e es → P e
among P h (mathlib.Core.List.Memᴰ.head q) = subst P (sym q) h.0
among P h (mathlib.Core.List.Memᴰ.tail m) = among P h.1 m

in_edges : (k m j : ℕ) (e : Edge) → j < m → Memᴰ e (edges_at k j) → Memᴰ e (edges_below k m)
in_edges k zero j e l h = absurd (omega arith)
in_edges k (suc m) j e l h = elim (ℕ_discrete j m) [
  | yes q ↦ mathlib.Core.List.Memᴰ.append_right (edges_below k m) (subst (λ (x : ℕ). Memᴰ e (edges_at k x)) q h)
  | no d ↦ mathlib.Core.List.Memᴰ.append_left (edges_at k m) (in_edges k m j e (omega (arith, d)) h)
]

-- what is told of an edge of count n in a cycle: where it may be taken it goes to m, the listing's count after, and its
-- consequent tells whether the flags are wrong
abbrev Told : Setting → Cycle → ℕ → ℕ → ℕ → Bool → Edge → Type 0
Told σ c k n m wrong e =
    (e.from ≡ suc n) × (e.marked ≡ true) × (n ≤ k → e.to ≤ suc k)
    × (T (holds σ c e.antecedent) → (e.to ≡ suc m) × (not (holds σ c e.consequent) ≡ wrong))

module _ (k : ℕ) (h : 1 ≤ k) where
  -- ---- in each cycle an edge of count n may be taken
  taken : (n : ℕ) (c : Cycle) → (e : Edge) × Memᴰ e (edges_at k n) × T (holds [] c e.antecedent)
  unfolding holds
  taken n c = any_elim (λ (e : Edge). holds [] c e.antecedent) (edges_at k n) (by (eqb n 0) (eqb n k) refl refl)
    where
      by : (z w : Bool) → eqb n 0 ≡ z → eqb n k ≡ w → T (any (λ (e : Edge). holds [] c e.antecedent) (edges_at k n))
      by true w a b = rw a (some_of_two (is_enq c))
      by false true a b = rw (a, b) (some_of_two (is_deq c))
      by false false a b = rw (a, b) (some_of_three (is_enq c) (is_deq c))

  told : (σ : Setting) (c : Cycle) (n : ℕ) {e : Edge} → Memᴰ e (edges_at k n) → Told σ c k n (count_after k n c) (flags_wrong k n c) e
  unfolding holds
  told σ c n m = among (Told σ c k n (count_after k n c) (flags_wrong k n c)) (by (eqb n 0) (eqb n k) refl refl) m
    where
      by : (z w : Bool) → eqb n 0 ≡ z → eqb n k ≡ w → Each (Told σ c k n (count_after k n c) (flags_wrong k n c)) (edges_at k n)
      by true true a b = absurd (omega (arith, eqb-true n 0 a, eqb-true n k b))
      by true false a b =
          let f = flags true false (is_empty c) (is_full c) in
          let g = goes (is_enq c) 1 0 in
          rw (a, b) ((refl, refl, λ l. omega arith, λ t. (ap suc (g.0 t), f)), ((refl, refl, λ l. omega arith, λ t. (ap suc (g.1 t), f)), tt))
      by false true a b =
          let f = flags false true (is_empty c) (is_full c) in
          let g = goes (is_deq c) (k - 1) k in
          rw (a, b) ((refl, refl, λ l. omega arith, λ t. (ap suc (g.0 t), f)), ((refl, refl, λ l. omega arith, λ t. (ap suc (g.1 t), f)), tt))
      by false false a b =
          let f = flags false false (is_empty c) (is_full c) in
          let g = goes_between (is_enq c) (is_deq c) (n + 1) (n - 1) n in
          rw (a, b) (
            (refl, refl, λ l. omega (arith, eqb-false n k b), λ t. (ap suc (g.0 t), f)),
            ((refl, refl, λ l. omega arith, λ t. (ap suc (g.1 t), f)), ((refl, refl, λ l. omega arith, λ t. (ap suc (g.2 t), f)), tt)),
          )

  -- ---- which edges leave a vertex: the start edge vertex 0, and those of count n the vertex after
  abbrev Leaving : ℕ → Edge → Type 0
  Leaving zero e = e ≡ start
  Leaving (suc n) e = Memᴰ e (edges_at k n)

  leaving_below : (m : ℕ) (e : Edge) → Memᴰ e (edges_below k m) → Leaving e.from e
  leaving_below zero e i = absurd (mathlib.Core.List.Memᴰ.not-nil i)
  leaving_below (suc m) e i =
      ⊎_elim
      (λ l. leaving_below m e l)
      (λ r. subst (λ (v : ℕ). Leaving v e) (sym (told [] [] m r).0) r)
      (mathlib.Core.List.Memᴰ.append_cases (edges_below k m) i)

  leaving : (v : ℕ) (e : Edge) → Memᴰ e (buffer_graph k).edges → T (eqb e.from v) → Leaving v e
  leaving v e i t =
      subst (λ (u : ℕ). Leaving u e) (eqb→eq e.from v t)
      (⊎_elim
      (λ q. subst (λ (u : ℕ). Leaving u e) (sym (ap (λ (x : Edge). x.from) q)) q)
      (λ l. leaving_below (suc k) e l)
      (mathlib.Core.List.Memᴰ.cases_cons i))

  -- ---- a path from a count on has a wrong consequent just where the flags are wrong
  follow : (σ : Setting) (w : List Cycle) (p : List Edge) (n : ℕ) → From p (buffer_graph k).edges → length p ≡ length w
      → T (leaves (suc n) p) → T (antecedents_true σ p w) → consequent_false σ p w ≡ wrong_from k n w
  follow σ [] [] n f l j a = refl
  follow σ [] (e ∷ p) n f l j a = absurd (omega arith)
  follow σ (c ∷ w) [] n f l j a = absurd (omega arith)
  follow σ (c ∷ w) (e ∷ p) n f l j a =
      let i = leaving (suc n) e f.0 (and_left (eqb e.from (suc n)) _ j) in
      let s = (told σ c n i).3 (and_left (holds σ c e.antecedent) _ a) in
      let next = subst (λ (v : ℕ). T (leaves v p)) s.0 (and_right (eqb e.from (suc n)) _ j) in
      ap₂ ◌||◌ s.1 (follow σ w p (count_after k n c) f.1 (omega arith) next (and_right (holds σ c e.antecedent) _ a))

  -- ---- a path that meets all antecedents
  pub never_stuck : (n : ℕ) → n ≤ k → (c : Cycle) → any (λ (e : Edge). eqb e.from (n + 1) && holds [] c e.antecedent) (buffer_graph k).edges ≡ true
  never_stuck n l c =
      let x = taken n c in
      let e = x.0 in
      let i : Memᴰ e (buffer_graph k).edges = mathlib.Core.List.Memᴰ.tail (in_edges k (suc k) n e (omega arith) x.1) in
      let f : n + 1 ≡ e.from = (let s = (told [] c n x.1).0 in omega arith) in
      let t = and_intro (eqb e.from (n + 1)) _ (subst (λ (v : ℕ). T (eqb v (n + 1))) f (eqb_refl (n + 1))) x.2 in
      is_true _ (any_intro (λ (d : Edge). eqb d.from (n + 1) && holds [] c d.antecedent) i t)

  record Walk (n : ℕ) (w : List Cycle) : Type 0 where
    pub path : List Edge
    pub of_graph : From path (buffer_graph k).edges
    pub one-a-cycle : length path ≡ length w
    pub joined : T (leaves (suc n) path)
    pub terminal : (e : Edge) → e.marked ≡ true → T (ends_terminal (buffer_graph k) (e ∷ path))
    pub antecedents : T (antecedents_true [] path w)

  walk : (w : List Cycle) (n : ℕ) → n ≤ k → Walk n w
  unfolding is_terminal
  walk [] n l = record { path = []; of_graph = tt; one-a-cycle = refl; joined = tt; terminal = λ e m. rw m tt; antecedents = tt }
  walk (c ∷ w) n l =
      let x = taken n c in
      let e = x.0 in
      let s = told [] c n x.1 in
      let t = (s.3 x.2).0 in
      let r = walk w (count_after k n c) (let b = s.2 l in omega arith) in
      record {
        path = e ∷ r.path;
        of_graph = (mathlib.Core.List.Memᴰ.tail (in_edges k (suc k) n e (omega arith) x.1), r.of_graph);
        one-a-cycle = ap suc r.one-a-cycle;
        joined =
            and_intro (eqb e.from (suc n)) _
            (subst (λ (v : ℕ). T (eqb v (suc n))) (sym s.0) (eqb_refl (suc n)))
            (subst (λ (v : ℕ). T (leaves v r.path)) (sym t) r.joined);
        terminal = λ f m. r.terminal e s.1;
        antecedents = and_intro (holds [] c e.antecedent) _ x.2 r.antecedents;
      }

  -- ---- both directions
  there : (σ : Setting) (w : List Cycle) (p : List Edge) → RejectingPath (buffer_graph k) σ w p → T (buffer_rejects k w)
  unfolding holds
  there σ [] [] r = absurd r.terminal
  there σ [] (e ∷ p) r = absurd (let l = r.one-a-cycle in omega arith)
  there σ (c ∷ w) [] r = absurd (let l = r.one-a-cycle in omega arith)
  there σ (c ∷ w) (e ∷ p) r =
      let q = leaving 0 e r.of_graph.0 (and_left (eqb e.from 0) _ r.joined) in
      let s = subst (λ (x : Edge). RejectingPath (buffer_graph k) σ (c ∷ w) (x ∷ p)) q r in
      let l : length p ≡ length w = (let m = s.one-a-cycle in omega arith) in
      and_intro (is_reset c) _ (and_left (is_reset c) _ s.antecedents)
      (subst T (follow σ w p 0 s.of_graph.1 l s.joined (and_right (is_reset c) _ s.antecedents)) s.consequent)

  back : (w : List Cycle) → T (buffer_rejects k w) → (p : List Edge) × RejectingPath (buffer_graph k) [] w p
  unfolding holds
  back [] t = absurd t
  back (c ∷ w) t =
      let r = walk w 0 (omega arith) in (
        start ∷ r.path,
        record {
          of_graph = (mathlib.Core.List.Memᴰ.head refl, r.of_graph);
          one-a-cycle = ap suc r.one-a-cycle;
          joined = r.joined;
          terminal = r.terminal start refl;
          antecedents = and_intro (is_reset c) _ (and_left (is_reset c) _ t) r.antecedents;
          consequent =
              subst T (sym (follow [] w r.path 0 r.of_graph r.one-a-cycle r.joined r.antecedents))
              (and_right (is_reset c) _ t);
        },
      )

  -- THE CLAIM, once over k, on any trace
  module _ (cs : List Cycle) where
    passes : Rejected (buffer_graph k) cs → T (buffer_rejects k (since_init cs))
    passes r = there r.setting (since_init cs) r.path r.rejects

    passed : T (buffer_rejects k (since_init cs)) → Rejected (buffer_graph k) cs
    unfolding bits_of constant_bits
    passed t = let r = back (since_init cs) t in record { setting = []; a-bit-each = refl; path = r.0; rejects = r.1 }

    computed : is_rejected (buffer_graph k) cs ≡ buffer_rejects k (since_init cs)
    computed =
        same_test (is_rejected (buffer_graph k) cs) (buffer_rejects k (since_init cs))
        (λ t. passes (paths_mean.found (buffer_graph k) cs (is_true (is_rejected (buffer_graph k) cs) t)))
        (λ t. subst T (sym (paths_mean.finds (buffer_graph k) cs (passed t))) tt)

    pub only_when : Rejected (buffer_graph k) cs → BufferRejected k cs
    only_when r = by (any is_init cs) refl
      where
        by : (i : Bool) → any is_init cs ≡ i → BufferRejected k cs
        by true i =
            let l = paths_mean.latest cs i in
            let t = subst (λ (w : List Cycle). T (buffer_rejects k w)) l.since (passes r) in
            record {
              init = l;
              was_reset = is_true (is_reset l.first) (and_left (is_reset l.first) _ t);
              moves = moves_from_lem k 0 l.later;
              wrong = is_true (wrong_from k 0 l.later) (and_right (is_reset l.first) _ t);
            }
        by false i = absurd (subst (λ (w : List Cycle). T (buffer_rejects k w)) (paths_mean.before-init cs i) (passes r))

    pub whenever : BufferRejected k cs → Rejected (buffer_graph k) cs
    whenever s = passed (rw (s.init.since, s.was_reset, s.wrong) tt)

  -- each verdict byte
  pub bytes : (seen cs : List Cycle) → verdicts (buffer_graph k) seen cs ≡ bytes_of (λ xs. buffer_rejects k (since_init xs)) seen cs
  bytes seen [] = refl
  bytes seen (c ∷ cs) = ap₂ (λ (b : Bool) (w : List ℕ). cond b 1 0 ∷ w) (computed (seen ++ (c ∷ []))) (bytes (seen ++ (c ∷ [])) cs)
