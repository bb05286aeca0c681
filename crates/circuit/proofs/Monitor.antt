-- The token machine rejects exactly where a rejecting path exists, after any list of cycles. Assumes nothing.
use Prim.Native.Nat.{ℕ}
use mathlib.Core.Path.{◌≡◌, refl, subst, sym}
use mathlib.Core.Logic.{◌↔◌, inl, ⊎_elim}
use mathlib.Core.Bool.{Bool, true, false, not, ◌&&◌, ◌||◌}
use mathlib.Core.List.{List, [], ◌∷◌}
use native.Mathlib.Omega.{arith}
use lib.ListN.{length}
use lib.Dec.{T, eqb, eqb→eq, eqb_refl}
use Rattle.assertion.specs.Lists.{any}
use Rattle.assertion.specs.Graph.{Edge, Graph, Cycle, Setting, is_terminal, is_init}
use Rattle.assertion.specs.Paths.{since_init, leaves, ends_terminal, RejectingPath, rejected_under}
use Rattle.circuit.proofs.Tokens.{Token, fresh, happy_into, condemned_into, happy_at, condemned_at, step, steps, rejecting}
use Rattle.assertion.proofs.ListLaws.{same_test}
use Rattle.assertion.proofs.PathLaws.{under}
use Rattle.circuit.proofs.Walk.{RejectsFrom, there, back}

-- what init masks
and_falses : (a b : Bool) → a && (b && false) ≡ false
and_falses true true = refl
and_falses true false = refl
and_falses false b = refl

masked-happy : (v : ℕ) (es : List Edge) (ts : List Token) → happy_into true v es ts ≡ false
masked-happy v [] ts = refl
masked-happy v (e ∷ es) [] = refl
masked-happy v (e ∷ es) (t ∷ ts) = rw (and_falses, masked-happy v es ts)

masked-condemned : (v : ℕ) (es : List Edge) (ts : List Token) → condemned_into true v es ts ≡ false
masked-condemned v [] ts = refl
masked-condemned v (e ∷ es) [] = refl
masked-condemned v (e ∷ es) (t ∷ ts) = rw (and_falses, masked-condemned v es ts)

-- what stands nowhere is gathered nowhere
none : (a b : Bool) → b ≡ false → (a && false) || b ≡ false
none true b e = e
none false b e = e

fresh-happy : (i : Bool) (v : ℕ) (es : List Edge) → happy_into i v es (fresh es) ≡ false
fresh-happy i v [] = refl
fresh-happy i v (e ∷ es) = none (eqb e.to v) _ (fresh-happy i v es)

fresh-condemned : (i : Bool) (v : ℕ) (es : List Edge) → condemned_into i v es (fresh es) ≡ false
fresh-condemned i v [] = refl
fresh-condemned i v (e ∷ es) = none (eqb e.to v) _ (fresh-condemned i v es)

fresh-accepts : (g : Graph) (es : List Edge) → rejecting g es (fresh es) ≡ false
fresh-accepts g [] = refl
fresh-accepts g (e ∷ es) = none (is_terminal g e) _ (fresh-accepts g es)

T_not_of : (b : Bool) → b ≡ false → T (not b)
T_not_of true e = subst T e tt
T_not_of false e = tt

or-true : (a : Bool) → a || false ≡ true → a ≡ true
or-true true e = refl
or-true false e = e

or-false : (a b : Bool) → a || b ≡ false → a ≡ false
or-false true b e = e
or-false false b e = refl

module _ (g : Graph) (σ : Setting) where
  abbrev Path·over : List Cycle → Type 0
  Path·over w = (p : List Edge) × RejectingPath g σ w p

  abbrev rejects·after : List Token → List Cycle → Type 0
  rejects·after ts cs = T (rejecting g g.edges (steps g σ ts cs))

  no_path : Path·over [] → ⊥
  no_path q = empty q.0 q.1.one-a-cycle q.1.terminal
    where
      empty : (p : List Edge) → length p ≡ 0 → T (ends_terminal g p) → ⊥
      empty [] l t = t
      empty (e ∷ p) l t = absurd (omega arith)

  happy-init : (ts : List Token) (c : Cycle) (v : ℕ) → is_init c ≡ true → happy_at g ts c v ≡ eqb v 0
  unfolding happy_at
  happy-init ts c v e = rw (e, masked-happy v g.edges ts) (simple (eqb v 0))
    where
      simple : (a : Bool) → (a && true) || false ≡ a
      simple true = refl
      simple false = refl

  condemned-init : (ts : List Token) (c : Cycle) (v : ℕ) → is_init c ≡ true → condemned_at g ts c v ≡ false
  unfolding condemned_at
  condemned-init ts c v e = rw (e, masked-condemned v g.edges ts)

  happy-before : (c : Cycle) (v : ℕ) → is_init c ≡ false → happy_at g (fresh g.edges) c v ≡ false
  unfolding happy_at
  happy-before c v e = rw (e, fresh-happy false v g.edges) (simple (eqb v 0))
    where
      simple : (a : Bool) → (a && false) || false ≡ false
      simple true = refl
      simple false = refl

  condemned-before : (c : Cycle) (v : ℕ) → condemned_at g (fresh g.edges) c v ≡ false
  unfolding condemned_at
  condemned-before c v = fresh-condemned (is_init c) v g.edges

  -- from the latest init on
  at-init : (ts : List Token) (c : Cycle) (cs : List Cycle) → is_init c ≡ true → any is_init cs ≡ false → rejects·after ts (c ∷ cs) ↔ Path·over (c ∷ cs)
  unfolding step
  at-init ts c cs i n = (λ t. fwd (there g σ cs c (happy_at g ts c) (condemned_at g ts c) (T_not_of _ n) t), λ q. back g σ cs c (happy_at g ts c) (condemned_at g ts c) (T_not_of _ n) (bwd q))
    where
      fwd : RejectsFrom g σ (happy_at g ts c) (condemned_at g ts c) (c ∷ cs) → Path·over (c ∷ cs)
      fwd r =
          ⊎_elim
          (λ s. (
            r.path,
            record {
              of_graph = r.of_graph;
              one-a-cycle = r.one-a-cycle;
              joined = subst (λ (v : ℕ). T (leaves v r.path)) (eqb→eq r.at 0 (subst T (happy-init ts c r.at i) s.0)) r.joined;
              terminal = r.terminal;
              antecedents = r.antecedents;
              consequent = s.1;
            },
          ))
          (λ s. absurd (subst T (condemned-init ts c r.at i) s))
          r.source

      bwd : Path·over (c ∷ cs) → RejectsFrom g σ (happy_at g ts c) (condemned_at g ts c) (c ∷ cs)
      bwd q = record {
        at = 0;
        path = q.0;
        of_graph = q.1.of_graph;
        one-a-cycle = q.1.one-a-cycle;
        joined = q.1.joined;
        terminal = q.1.terminal;
        antecedents = q.1.antecedents;
        source = inl (subst T (sym (happy-init ts c 0 i)) (eqb_refl 0), q.1.consequent);
      }

  -- some cycle is an init: what came before does not matter
  with_init_lem : (cs : List Cycle) (ts : List Token) → any is_init cs ≡ true → rejects·after ts cs ↔ Path·over (since_init cs)
  with_init_lem [] ts e = absurd (subst T (sym e) tt)
  with_init_lem (c ∷ cs) ts e = pick (any is_init cs) refl (λ k. with_init_lem cs (step g σ ts c) k)
    where
      pick : (b : Bool) → any is_init cs ≡ b → (any is_init cs ≡ true → rejects·after (step g σ ts c) cs ↔ Path·over (since_init cs)) → rejects·after ts (c ∷ cs) ↔ Path·over (since_init (c ∷ cs))
      pick true k f = rw k (f k)
      pick false k f =
          let i : is_init c ≡ true = or-true (is_init c) (rw k at e) in
          rw (k, i) (at-init ts c cs i k)

  -- none is: no token, no path
  without-init : (cs : List Cycle) → any is_init cs ≡ false → rejects·after (fresh g.edges) cs ↔ Path·over (since_init cs)
  unfolding step
  without-init [] e = (λ t. absurd (subst T (fresh-accepts g g.edges) t), λ q. absurd (no_path q))
  without-init (c ∷ cs) e = rw (n, i) (λ t. absurd (never t), λ q. absurd (no_path q))
    where
      i : is_init c ≡ false
      i = or-false (is_init c) (any is_init cs) e

      n : any is_init cs ≡ false
      n = rw i at e

      never : rejects·after (fresh g.edges) (c ∷ cs) → ⊥
      never t =
          let r = there g σ cs c (happy_at g (fresh g.edges) c) (condemned_at g (fresh g.edges) c) (T_not_of _ n) t in
          ⊎_elim (λ s. subst T (happy-before c r.at i) s.0) (λ s. subst T (condemned-before c r.at) s) r.source

  pub monitor : (cs : List Cycle) → rejects·after (fresh g.edges) cs ↔ Path·over (since_init cs)
  monitor cs = pick (any is_init cs) refl
    where
      pick : (b : Bool) → any is_init cs ≡ b → rejects·after (fresh g.edges) cs ↔ Path·over (since_init cs)
      pick true e = with_init_lem cs (fresh g.edges) e
      pick false e = without-init cs e

  -- the same, as one test that equals another
  pub monitor_test : (cs : List Cycle) → rejecting g g.edges (steps g σ (fresh g.edges) cs) ≡ rejected_under g σ cs
  monitor_test cs =
      same_test _ _ (λ t. (under g σ cs).1 ((monitor cs).0 t)) (λ t. (monitor cs).1 ((under g σ cs).0 t))
