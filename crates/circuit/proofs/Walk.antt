-- Tokens follow paths: the heart of the monitor construction. Assumes nothing.
use Prim.Native.Nat.{ℕ, suc}
use mathlib.Core.Path.{◌≡◌, refl, ap, subst, sym}
use mathlib.Core.Logic.{◌⊎◌, inl, inr, ⊎_elim}
use mathlib.Core.Bool.{Bool, true, false, not, ◌&&◌, ◌||◌}
use mathlib.Core.List.{List, [], ◌∷◌, map, Memᴰ}
use native.Mathlib.Omega.{arith}
use lib.ListN.{length}
use lib.Dec.{T, eqb, eqb→eq, eqb_refl}
use Rattle.assertion.specs.Lists.{any, From}
use Rattle.assertion.specs.Graph.{Edge, Graph, Cycle, Setting, is_terminal, is_init, holds}
use Rattle.assertion.specs.Paths.{leaves, ends_terminal, antecedents_true, consequent_false}
use Rattle.circuit.proofs.Tokens.{Token, happy_into, condemned_into, happy_at, condemned_at, now_at, step, steps, rejecting}
use Rattle.assertion.proofs.ListLaws.{and_intro, and_left, and_right, or_left, or_right, or_cases, any_intro, any_elim}

and-true : (a : Bool) → a && true ≡ a
and-true true = refl
and-true false = refl

and-false-or : (a b : Bool) → (a && false) || b ≡ b
and-false-or true b = refl
and-false-or false b = refl

none_of_two : (a b : Bool) → T (not (a || b)) → (a ≡ false) × T (not b)
none_of_two true b t = absurd t
none_of_two false b t = (refl, t)

ends_more : (g : Graph) (e : Edge) (p : List Edge) → T (ends_terminal g p) → T (ends_terminal g (e ∷ p))
ends_more g e [] t = absurd t
ends_more g e (f ∷ p) t = t

-- tokens that a function of the edge gives: what gathers and what rejects, as tests over the edges
into_happy : (v : ℕ) (f : Edge → Token) (es : List Edge) → happy_into false v es (map f es) ≡ any (λ e. eqb e.to v && (f e).happy) es
into_happy v f [] = refl
into_happy v f (e ∷ es) = rw (and-true, into_happy v f es)

into_condemned : (v : ℕ) (f : Edge → Token) (es : List Edge) → condemned_into false v es (map f es) ≡ any (λ e. eqb e.to v && (f e).condemned) es
into_condemned v f [] = refl
into_condemned v f (e ∷ es) = rw (and-true, into_condemned v f es)

rejecting_map : (g : Graph) (f : Edge → Token) (es : List Edge) → rejecting g es (map f es) ≡ any (λ e. is_terminal g e && (f e).condemned) es
rejecting_map g f [] = refl
rejecting_map g f (e ∷ es) = rw (rejecting_map g f es)

-- what an edge's tokens say, and what makes them: a the antecedent, b the consequent, x and y what the vertex hands on
happy-says : (a b x : Bool) → T ((a && x) && b) → T a × T x × T b
happy-says true true true t = (tt, tt, tt)
happy-says true false true t = absurd t
happy-says true b false t = absurd t
happy-says false b x t = absurd t

condemned-says : (a b x y : Bool) → T (((a && x) && not b) || (a && y)) → T a × ((T x × T (not b)) ⊎ T y)
condemned-says true false true y t = (tt, inl (tt, tt))
condemned-says true true true y t = (tt, inr t)
condemned-says true b false y t = (tt, inr t)
condemned-says false b x y t = absurd t

condemned_anew : (a b x y : Bool) → T a → T x → T (not b) → T (((a && x) && not b) || (a && y))
condemned_anew true false true y s t u = tt
condemned_anew true true true y s t u = absurd u
condemned_anew true b false y s t u = absurd t
condemned_anew false b x y s t u = absurd s

condemned_still : (a b x y : Bool) → T a → T y → T (((a && x) && not b) || (a && y))
condemned_still true b x y s t = or_right (x && not b) y t
condemned_still false b x y s t = absurd s

-- a path from a vertex to a terminal edge, one edge for each of the cycles w, all antecedents true; and either it starts
-- where `h` holds and has a false consequent, or it starts where `d` holds
pub record RejectsFrom (g : Graph) (σ : Setting) (h d : ℕ → Bool) (w : List Cycle) : Type 0 where
  pub at : ℕ
  pub path : List Edge
  pub of_graph : From path g.edges
  pub one-a-cycle : length path ≡ length w
  pub joined : T (leaves at path)
  pub terminal : T (ends_terminal g path)
  pub antecedents : T (antecedents_true σ path w)
  pub source : (T (h at) × T (consequent_false σ path w)) ⊎ T (d at)

module _ (g : Graph) (σ : Setting) where
  abbrev moved : Cycle → (ℕ → Bool) → (ℕ → Bool) → List Token
  moved c h d = map (now_at σ c h d) g.edges

  happy-later : (ts : List Token) (c : Cycle) (v : ℕ) → is_init c ≡ false → happy_at g ts c v ≡ happy_into false v g.edges ts
  unfolding happy_at
  happy-later ts c v e = rw (e, and-false-or)

  condemned-later : (ts : List Token) (c : Cycle) (v : ℕ) → is_init c ≡ false → condemned_at g ts c v ≡ condemned_into false v g.edges ts
  unfolding condemned_at
  condemned-later ts c v e = rw e

  -- one edge to the vertex v, from where h or d holds
  happy-edge : (c c' : Cycle) (h d : ℕ → Bool) (v : ℕ) → is_init c' ≡ false → T (happy_at g (moved c h d) c' v) →
      (e : Edge) × Memᴰ e g.edges × (e.to ≡ v) × T (now_at σ c h d e).happy
  happy-edge c c' h d v n t =
      let r = any_elim (λ e. eqb e.to v && (now_at σ c h d e).happy) g.edges
      (subst T (into_happy v (now_at σ c h d) g.edges) (subst T (happy-later (moved c h d) c' v n) t)) in
      (r.0, r.1, eqb→eq _ _ (and_left (eqb r.0.to v) _ r.2), and_right (eqb r.0.to v) _ r.2)

  condemned-edge : (c c' : Cycle) (h d : ℕ → Bool) (v : ℕ) → is_init c' ≡ false → T (condemned_at g (moved c h d) c' v) →
      (e : Edge) × Memᴰ e g.edges × (e.to ≡ v) × T (now_at σ c h d e).condemned
  condemned-edge c c' h d v n t =
      let r = any_elim (λ e. eqb e.to v && (now_at σ c h d e).condemned) g.edges
      (subst T (into_condemned v (now_at σ c h d) g.edges) (subst T (condemned-later (moved c h d) c' v n) t)) in
      (r.0, r.1, eqb→eq _ _ (and_left (eqb r.0.to v) _ r.2), and_right (eqb r.0.to v) _ r.2)

  edge-happy : (c c' : Cycle) (h d : ℕ → Bool) (e : Edge) → is_init c' ≡ false → Memᴰ e g.edges → T (now_at σ c h d e).happy → T (happy_at g (moved c h d) c' e.to)
  edge-happy c c' h d e n m t =
      subst T (sym (happy-later (moved c h d) c' e.to n)) (subst T (sym (into_happy e.to (now_at σ c h d) g.edges))
      (any_intro (λ f. eqb f.to e.to && (now_at σ c h d f).happy) m (and_intro (eqb e.to e.to) _ (eqb_refl e.to) t)))

  edge-condemned : (c c' : Cycle) (h d : ℕ → Bool) (e : Edge) → is_init c' ≡ false → Memᴰ e g.edges → T (now_at σ c h d e).condemned → T (condemned_at g (moved c h d) c' e.to)
  edge-condemned c c' h d e n m t =
      subst T (sym (condemned-later (moved c h d) c' e.to n)) (subst T (sym (into_condemned e.to (now_at σ c h d) g.edges))
      (any_intro (λ f. eqb f.to e.to && (now_at σ c h d f).condemned) m (and_intro (eqb e.to e.to) _ (eqb_refl e.to) t)))

  -- from tokens to a path
  longer : (c c' : Cycle) (h d : ℕ → Bool) (cs : List Cycle) (e : Edge) (h' d' : ℕ → Bool) (r : RejectsFrom g σ h' d' (c' ∷ cs)) →
      Memᴰ e g.edges → e.to ≡ r.at → T (holds σ c e.antecedent) →
      (T (h e.from) × T (consequent_false σ (e ∷ r.path) (c ∷ c' ∷ cs))) ⊎ T (d e.from) → RejectsFrom g σ h d (c ∷ c' ∷ cs)
  longer c c' h d cs e h' d' r m q t s = record {
    at = e.from;
    path = e ∷ r.path;
    of_graph = (m, r.of_graph);
    one-a-cycle = ap suc r.one-a-cycle;
    joined = and_intro (eqb e.from e.from) _ (eqb_refl e.from) (subst (λ (v : ℕ). T (leaves v r.path)) (sym q) r.joined);
    terminal = ends_more g e r.path r.terminal;
    antecedents = and_intro (holds σ c e.antecedent) _ t r.antecedents;
    source = s;
  }

  there_last : (c : Cycle) (h d : ℕ → Bool) → T (rejecting g g.edges (moved c h d)) → RejectsFrom g σ h d (c ∷ [])
  there_last c h d t =
      let r = any_elim (λ e. is_terminal g e && (now_at σ c h d e).condemned) g.edges (subst T (rejecting_map g (now_at σ c h d) g.edges) t) in
      let e : Edge = r.0 in
      let k = condemned-says (holds σ c e.antecedent) (holds σ c e.consequent) (h e.from) (d e.from) (and_right (is_terminal g e) _ r.2) in
      record {
        at = e.from;
        path = e ∷ [];
        of_graph = (r.1, tt);
        one-a-cycle = refl;
        joined = and_intro (eqb e.from e.from) _ (eqb_refl e.from) tt;
        terminal = and_left (is_terminal g e) _ r.2;
        antecedents = and_intro (holds σ c e.antecedent) true k.0 tt;
        source = ⊎_elim (λ s. inl (s.0, or_left (not (holds σ c e.consequent)) false s.1)) (λ s. inr s) k.1;
      }

  there_more : (c c' : Cycle) (cs : List Cycle) (h d : ℕ → Bool) → is_init c' ≡ false →
      RejectsFrom g σ (happy_at g (moved c h d) c') (condemned_at g (moved c h d) c') (c' ∷ cs) → RejectsFrom g σ h d (c ∷ c' ∷ cs)
  there_more c c' cs h d n r = ⊎_elim (λ s. by_happy s.0 s.1) by_condemned r.source
    where
      by_happy : T (happy_at g (moved c h d) c' r.at) → T (consequent_false σ r.path (c' ∷ cs)) → RejectsFrom g σ h d (c ∷ c' ∷ cs)
      by_happy u f =
          let q = happy-edge c c' h d r.at n u in
          let k = happy-says (holds σ c q.0.antecedent) (holds σ c q.0.consequent) (h q.0.from) q.3 in
          longer c c' h d cs q.0 _ _ r q.1 q.2 k.0 (inl (k.1, or_right (not (holds σ c q.0.consequent)) _ f))

      by_condemned : T (condemned_at g (moved c h d) c' r.at) → RejectsFrom g σ h d (c ∷ c' ∷ cs)
      by_condemned u =
          let q = condemned-edge c c' h d r.at n u in
          let k = condemned-says (holds σ c q.0.antecedent) (holds σ c q.0.consequent) (h q.0.from) (d q.0.from) q.3 in
          longer c c' h d cs q.0 _ _ r q.1 q.2 k.0
          (⊎_elim (λ s. inl (s.0, or_left (not (holds σ c q.0.consequent)) _ s.1)) (λ s. inr s) k.1)

  pub there : (cs : List Cycle) (c : Cycle) (h d : ℕ → Bool) → T (not (any is_init cs)) → T (rejecting g g.edges (steps g σ (moved c h d) cs)) → RejectsFrom g σ h d (c ∷ cs)
  unfolding step
  there [] c h d n t = there_last c h d t
  there (c' ∷ cs) c h d n t =
      let m = none_of_two (is_init c') (any is_init cs) n in
      there_more c c' cs h d m.0 (there cs c' (happy_at g (moved c h d) c') (condemned_at g (moved c h d) c') m.1 t)

  -- from a path to tokens
  back_last : (c : Cycle) (h d : ℕ → Bool) (e : Edge) (v : ℕ) → Memᴰ e g.edges → e.from ≡ v → T (is_terminal g e) → T (holds σ c e.antecedent) →
      (T (h v) × T (consequent_false σ (e ∷ []) (c ∷ []))) ⊎ T (d v) → T (rejecting g g.edges (moved c h d))
  back_last c h d e v m q t a s =
      subst T (sym (rejecting_map g (now_at σ c h d) g.edges))
      (any_intro (λ f. is_terminal g f && (now_at σ c h d f).condemned) m
      (and_intro (is_terminal g e) _ t
      (⊎_elim
      (λ u. condemned_anew (holds σ c e.antecedent) (holds σ c e.consequent) (h e.from) (d e.from) a
      (subst (λ (z : ℕ). T (h z)) (sym q) u.0) (⊎_elim (λ w. w) (λ w. absurd w) (or_cases (not (holds σ c e.consequent)) false u.1)))
      (λ u. condemned_still (holds σ c e.antecedent) (holds σ c e.consequent) (h e.from) (d e.from) a (subst (λ (z : ℕ). T (d z)) (sym q) u))
      s)))

  back_more : (c c' : Cycle) (cs : List Cycle) (h d : ℕ → Bool) → is_init c' ≡ false → (e : Edge) (p : List Edge) (v : ℕ) → Memᴰ e g.edges → e.from ≡ v → T (holds σ c e.antecedent) →
      (T (h v) × T (consequent_false σ (e ∷ p) (c ∷ c' ∷ cs))) ⊎ T (d v) →
      (T (happy_at g (moved c h d) c' e.to) × T (consequent_false σ p (c' ∷ cs))) ⊎ T (condemned_at g (moved c h d) c' e.to)
  back_more c c' cs h d n e p v m q a s = ⊎_elim (λ u. judged (holds σ c e.consequent) refl (subst (λ (z : ℕ). T (h z)) (sym q) u.0) u.1) (λ u. inr (still (subst (λ (z : ℕ). T (d z)) (sym q) u))) s
    where
      still : T (d e.from) → T (condemned_at g (moved c h d) c' e.to)
      still u = edge-condemned c c' h d e n m (condemned_still (holds σ c e.antecedent) (holds σ c e.consequent) (h e.from) (d e.from) a u)

      judged : (b : Bool) → holds σ c e.consequent ≡ b → T (h e.from) → T (not (holds σ c e.consequent) || consequent_false σ p (c' ∷ cs)) →
          (T (happy_at g (moved c h d) c' e.to) × T (consequent_false σ p (c' ∷ cs))) ⊎ T (condemned_at g (moved c h d) c' e.to)
      judged true k x f =
          inl (edge-happy c c' h d e n m (and_intro (holds σ c e.antecedent && h e.from) _ (and_intro (holds σ c e.antecedent) _ a x) (rw k tt)), rw k at f)
      judged false k x f =
          inr (edge-condemned c c' h d e n m (condemned_anew (holds σ c e.antecedent) (holds σ c e.consequent) (h e.from) (d e.from) a x (rw k tt)))

  back-path : (cs : List Cycle) (c : Cycle) (h d : ℕ → Bool) (v : ℕ) (p : List Edge) → T (not (any is_init cs)) →
      From p g.edges → length p ≡ length (c ∷ cs) → T (leaves v p) → T (ends_terminal g p) → T (antecedents_true σ p (c ∷ cs)) →
      (T (h v) × T (consequent_false σ p (c ∷ cs))) ⊎ T (d v) → T (rejecting g g.edges (steps g σ (moved c h d) cs))
  unfolding step
  back-path [] c h d v [] n m l j t a s = absurd t
  back-path [] c h d v (e ∷ []) n m l j t a s =
      back_last c h d e v m.0 (eqb→eq _ _ (and_left (eqb e.from v) true j)) t (and_left (holds σ c e.antecedent) true a) s
  back-path [] c h d v (e ∷ f ∷ p) n m l j t a s = absurd (omega arith)
  back-path (c' ∷ cs) c h d v [] n m l j t a s = absurd t
  back-path (c' ∷ cs) c h d v (e ∷ []) n m l j t a s = absurd (omega arith)
  back-path (c' ∷ cs) c h d v (e ∷ f ∷ p) n m l j t a s =
      let z = none_of_two (is_init c') (any is_init cs) n in
      back-path cs c' (happy_at g (moved c h d) c') (condemned_at g (moved c h d) c') e.to (f ∷ p) z.1 m.1 (omega arith)
      (and_right (eqb e.from v) _ j) t (and_right (holds σ c e.antecedent) _ a)
      (back_more c c' cs h d z.0 e (f ∷ p) v m.0 (eqb→eq _ _ (and_left (eqb e.from v) _ j)) (and_left (holds σ c e.antecedent) _ a) s)

  pub back : (cs : List Cycle) (c : Cycle) (h d : ℕ → Bool) → T (not (any is_init cs)) → RejectsFrom g σ h d (c ∷ cs) → T (rejecting g g.edges (steps g σ (moved c h d) cs))
  back cs c h d n r = back-path cs c h d r.at r.path n r.of_graph r.one-a-cycle r.joined r.terminal r.antecedents r.source
