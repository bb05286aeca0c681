-- Alive tokens of a graph are the condemned tokens of the graph with every consequent false: so a terminal edge
-- is alive in some lane exactly where a rule is at stake. Assumes nothing.
use Prim.Native.Nat.{ℕ, ◌≤◌}
use mathlib.Core.Path.{◌≡◌, refl, ap, ap₂, sym, ◌∙◌}
use mathlib.Core.Bool.{Bool, true, false, not, ◌&&◌, ◌||◌}
use mathlib.Core.List.{List, [], ◌∷◌, map}
use lib.Dec.{eqb}
use Rattle.netlist.specs.Lanes.{each}
use Rattle.netlist.proofs.EachLaws.{each_same}
use Rattle.assertion.specs.Graph.{Edge, Graph, constant_bits, Cycle, Setting, is_terminal, is_init, holds}
use Rattle.assertion.specs.Paths.{checked_under, is_checked}
use Rattle.assertion.proofs.VoidLaws.{voided_edge, voided, void_terminal, void_under, void_rejects}
use Rattle.circuit.proofs.Tokens.{Token, fresh, happy_into, condemned_into, happy_at, condemned_at, now_at, step, steps, rejecting}
use Rattle.circuit.proofs.Monitor.{monitor_test}
use Rattle.circuit.proofs.Lanes.{lane_setting, lane_tokens, lane_accepts, lanes}

-- happy or condemned
abbrev pub alive : Token → Bool
alive t = t.condemned || t.happy

-- a terminal edge is alive
abbrev pub checking : Graph → List Edge → List Token → Bool
checking g [] ts = false
checking g (e ∷ es) [] = false
checking g (e ∷ es) (t ∷ ts) = (is_terminal g e && alive t) || checking g es ts

-- the token that an alive one is where every consequent is false
abbrev doomed : Token → Token
doomed t = record { happy = false; condemned = alive t }

-- ---- what a vertex gathers
and-false : (a : Bool) → a && false ≡ false
and-false true = refl
and-false false = refl

no_happy : (i : Bool) (v : ℕ) (es : List Edge) (ts : List Token) → happy_into i v (map voided_edge es) (map doomed ts) ≡ false
no_happy i v [] ts = refl
no_happy i v (e ∷ es) [] = refl
no_happy i v (e ∷ es) (t ∷ ts) = rw (and-false, no_happy i v es ts)

all-condemned : (i : Bool) (v : ℕ) (es : List Edge) (ts : List Token)
    → condemned_into i v (map voided_edge es) (map doomed ts) ≡ condemned_into i v es ts || happy_into i v es ts
all-condemned i v [] ts = refl
all-condemned i v (e ∷ es) [] = refl
all-condemned i v (e ∷ es) (t ∷ ts) =
    by (eqb e.to v) t.condemned t.happy (not i) (condemned_into i v es ts) (happy_into i v es ts) _ (all-condemned i v es ts)
  where
    by : (a c h m x y z : Bool) → z ≡ x || y → (a && ((c || h) && m)) || z ≡ ((a && (c && m)) || x) || ((a && (h && m)) || y)
    by false c h m x y z q = q
    by true true h true x y z q = refl
    by true true true false x y z q = q
    by true true false false x y z q = q
    by true false true true true y z q = refl
    by true false true true false y z q = refl
    by true false true false x y z q = q
    by true false false m x y z q = q

-- ---- a step, and steps
-- a antecedent, y consequent, s init at the start vertex, h and d what the vertex gathers
now_doomed : (a y s h d : Bool) → ((a && (s || false)) && true) || (a && (d || h)) ≡ (((a && (s || h)) && not y) || (a && d)) || ((a && (s || h)) && y)
now_doomed false y s h d = refl
now_doomed true true true h true = refl
now_doomed true true true h false = refl
now_doomed true false true h d = refl
now_doomed true true false true true = refl
now_doomed true true false true false = refl
now_doomed true false false true true = refl
now_doomed true false false true false = refl
now_doomed true true false false true = refl
now_doomed true true false false false = refl
now_doomed true false false false true = refl
now_doomed true false false false false = refl

map-two : {A B C D : Type 0} (f : B → D) (h : A → B) (k : C → D) (l : A → C) (xs : List A) → ((x : A) → f (h x) ≡ k (l x)) → map f (map h xs) ≡ map k (map l xs)
map-two f h k l [] e = refl
map-two f h k l (x ∷ xs) e = ap₂ ◌∷◌ (e x) (map-two f h k l xs e)

module _ (g : Graph) (σ : Setting) where
  edge_doomed : (ts : List Token) (c : Cycle) (e : Edge)
      → now_at σ c (happy_at (voided g) (map doomed ts) c) (condemned_at (voided g) (map doomed ts) c) (voided_edge e) ≡ doomed (now_at σ c (happy_at g ts c) (condemned_at g ts c) e)
  unfolding happy_at condemned_at holds
  edge_doomed ts c e =
      ap₂ (λ (h d : Bool). record { happy = h; condemned = d }) (and-false (holds σ c e.antecedent && happy_at (voided g) (map doomed ts) c e.from))
      (rw (no_happy (is_init c) e.from g.edges ts, all-condemned (is_init c) e.from g.edges ts)
      (now_doomed (holds σ c e.antecedent) (holds σ c e.consequent) (eqb e.from 0 && is_init c) (happy_into (is_init c) e.from g.edges ts) (condemned_into (is_init c) e.from g.edges ts)))

  step_doomed : (ts : List Token) (c : Cycle) → step (voided g) σ (map doomed ts) c ≡ map doomed (step g σ ts c)
  unfolding step
  step_doomed ts c =
      map-two (now_at σ c (happy_at (voided g) (map doomed ts) c) (condemned_at (voided g) (map doomed ts) c)) voided_edge doomed (now_at σ c (happy_at g ts c) (condemned_at g ts c)) g.edges
      (edge_doomed ts c)

  steps_doomed : (cs : List Cycle) (ts : List Token) → steps (voided g) σ (map doomed ts) cs ≡ map doomed (steps g σ ts cs)
  steps_doomed [] ts = refl
  steps_doomed (c ∷ cs) ts = ap (λ (us : List Token). steps (voided g) σ us cs) (step_doomed ts c) ∙ steps_doomed cs (step g σ ts c)

  fresh_doomed : (es : List Edge) → fresh (map voided_edge es) ≡ map doomed (fresh es)
  fresh_doomed [] = refl
  fresh_doomed (e ∷ es) = ap (◌∷◌ (record { happy = false; condemned = false })) (fresh_doomed es)

  rejecting_doomed : (es : List Edge) (ts : List Token) → rejecting (voided g) (map voided_edge es) (map doomed ts) ≡ checking g es ts
  rejecting_doomed [] ts = refl
  rejecting_doomed (e ∷ es) [] = refl
  rejecting_doomed (e ∷ es) (t ∷ ts) = ap₂ ◌||◌ (ap (λ (b : Bool). b && alive t) (void_terminal g e)) (rejecting_doomed es ts)

  -- after any cycles
  alive_test : (cs : List Cycle) → rejecting (voided g) (voided g).edges (steps (voided g) σ (fresh (voided g).edges) cs) ≡ checking g g.edges (steps g σ (fresh g.edges) cs)
  alive_test cs =
      ap (rejecting (voided g) (voided g).edges) (ap (λ (us : List Token). steps (voided g) σ us cs) (fresh_doomed g.edges) ∙ steps_doomed cs (fresh g.edges))
      ∙ rejecting_doomed g.edges (steps g σ (fresh g.edges) cs)

  -- a terminal edge is alive exactly where some path from the latest init ends there with all antecedents true
  checks_test : (cs : List Cycle) → checking g g.edges (steps g σ (fresh g.edges) cs) ≡ checked_under g σ cs
  checks_test cs = sym (alive_test cs) ∙ monitor_test (voided g) σ cs ∙ sym (void_under g σ cs)

-- the second output of lane n is high after these cycles
unfoldable pub lane_checks : Graph → List Cycle → ℕ → Bool
lane_checks g cs n = checking g g.edges (lane_tokens g cs n)

-- just where, under the setting of that lane, some path from the latest init ends on a terminal edge with all
-- antecedents true
pub lane-checks : (g : Graph) (cs : List Cycle) (n : ℕ) → lane_checks g cs n ≡ checked_under g (lane_setting g n) cs
unfolding lane_checks lane_tokens
lane-checks g cs n = checks_test g (lane_setting g n) cs

-- some of the 64 lanes is high exactly where a rule is at stake
pub lanes-checked : (g : Graph) (cs : List Cycle) → constant_bits g ≤ 6 → not (each 64 (λ n. not (lane_checks g cs n))) ≡ is_checked g cs
unfolding lane_checks lane_accepts lane_tokens lane_setting constant_bits
lanes-checked g cs h =
    ap not (each_same 64 (λ n. not (lane_checks g cs n)) (lane_accepts (voided g) cs) (λ n l. ap not (sym (alive_test g (lane_setting g n) cs))))
    ∙ lanes (voided g) cs h
    ∙ sym (void_rejects g cs)
