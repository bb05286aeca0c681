-- A rule is at stake exactly where the graph rejects once all its consequents are false: a path has an edge,
-- whose consequent then fails. Assumes nothing.
use Prim.Native.Nat.{ℕ, zero, suc}
use mathlib.Core.Path.{◌≡◌, refl, ap, ap₂, sym, ◌∙◌}
use mathlib.Core.Bool.{Bool, true, false, not, ◌&&◌, ◌||◌}
use mathlib.Core.List.{List, [], ◌∷◌, ◌++◌, map}
use lib.ListN.{length}
use Rattle.assertion.specs.Lists.{any, each_then, lists}
use Rattle.assertion.specs.declared.Mode.TheVariants.{Unsaid, Terminal, Strong}
use Rattle.assertion.specs.Graph.{truth, Edge, Graph, constant_bits, Cycle, Setting, is_terminal, holds}
use Rattle.assertion.specs.Paths.{since_init, leaves, ends_terminal, antecedents_true, rejects_along, rejected_under, is_rejected, checks_along, checked_under, is_checked}
use Rattle.assertion.proofs.ListLaws.{any-map, any_cong}

-- an edge, and a graph, with every consequent false
abbrev pub voided_edge : Edge → Edge
voided_edge e =
    record {
      from = e.from;
      to = e.to;
      marked = e.marked;
      antecedent = e.antecedent;
      consequent = truth false;
      antecedent_text = e.antecedent_text;
      consequent_text = e.consequent_text;
    }

abbrev pub voided : Graph → Graph
voided g = record { mode = g.mode; signals = g.signals; constants = g.constants; vertices = g.vertices; edges = map voided_edge g.edges }

-- the same edges are terminal: marks and mode stay
pub void_terminal : (g : Graph) (e : Edge) → is_terminal (voided g) (voided_edge e) ≡ is_terminal g e
unfolding is_terminal
void_terminal g e =
    ap (λ (b : Bool). elim g.mode [ Unsaid ↦ e.marked || not b | Terminal ↦ e.marked | Strong ↦ true ]) (any-map (λ f. f.marked) voided_edge g.edges)

-- ---- lists of voided edges
any_append : {A : Type 0} (f : A → Bool) (xs ys : List A) → any f (xs ++ ys) ≡ any f xs || any f ys
any_append f [] ys = refl
any_append f (x ∷ xs) ys = ap (◌||◌ (f x)) (any_append f xs ys) ∙ sym (or_assoc (f x) (any f xs) (any f ys))
  where
    or_assoc : (a b c : Bool) → (a || b) || c ≡ a || (b || c)
    or_assoc true b c = refl
    or_assoc false b c = refl

module _ {A B : Type 0} (h : A → B) where
  each_map : (f : List B → Bool) (k : List A → Bool) (xs : List A) (ms : List (List B)) (ls : List (List A))
      → ((x : A) → any (λ l. f (h x ∷ l)) ms ≡ any (λ l. k (x ∷ l)) ls) → any f (each_then (map h xs) ms) ≡ any k (each_then xs ls)
  each_map f k [] ms ls e = refl
  each_map f k (x ∷ xs) ms ls e =
      any_append f (map (◌∷◌ (h x)) ms) (each_then (map h xs) ms)
      ∙ ap₂ ◌||◌ (any-map f (◌∷◌ (h x)) ms ∙ e x ∙ sym (any-map k (◌∷◌ x) ls)) (each_map f k xs ms ls e)
      ∙ sym (any_append k (map (◌∷◌ x) ls) (each_then xs ls))

  lists-map : (n : ℕ) (f : List B → Bool) (xs : List A) → any f (lists n (map h xs)) ≡ any (λ p. f (map h p)) (lists n xs)
  lists-map zero f xs = refl
  lists-map (suc n) f xs = each_map f (λ p. f (map h p)) xs (lists n (map h xs)) (lists n xs) (λ x. lists-map n (λ l. f (h x ∷ l)) xs)

-- ---- a voided path
void_leaves : (v : ℕ) (p : List Edge) → leaves v (map voided_edge p) ≡ leaves v p
void_leaves v [] = refl
void_leaves v (e ∷ p) = cc (void_leaves e.to p)

void_ends : (g : Graph) (p : List Edge) → ends_terminal (voided g) (map voided_edge p) ≡ ends_terminal g p
void_ends g [] = refl
void_ends g (e ∷ []) = void_terminal g e
void_ends g (e ∷ f ∷ p) = void_ends g (f ∷ p)

void_antecedents : (σ : Setting) (p : List Edge) (w : List Cycle) → antecedents_true σ (map voided_edge p) w ≡ antecedents_true σ p w
void_antecedents σ [] w = refl
void_antecedents σ (e ∷ p) [] = refl
void_antecedents σ (e ∷ p) (c ∷ w) = cc (void_antecedents σ p w)

and-true : (a : Bool) → a && true ≡ a
and-true true = refl
and-true false = refl

module _ (g : Graph) (σ : Setting) where
  void_along : (c : Cycle) (w : List Cycle) (p : List Edge) → rejects_along (voided g) σ (c ∷ w) (map voided_edge p) ≡ checks_along g σ (c ∷ w) p
  unfolding rejects_along checks_along holds
  void_along c w [] = refl
  void_along c w (e ∷ p) =
      ap₂ ◌&&◌ (void_leaves 0 (e ∷ p)) (ap₂ ◌&&◌ (void_ends g (e ∷ p)) (and-true _ ∙ void_antecedents σ (e ∷ p) (c ∷ w)))

  void_over : (w : List Cycle) → any (rejects_along (voided g) σ w) (lists (length w) (map voided_edge g.edges)) ≡ any (checks_along g σ w) (lists (length w) g.edges)
  unfolding rejects_along checks_along
  void_over [] = refl
  void_over (c ∷ w) =
      lists-map voided_edge (length (c ∷ w)) (rejects_along (voided g) σ (c ∷ w)) g.edges
      ∙ any_cong (λ p. rejects_along (voided g) σ (c ∷ w) (map voided_edge p)) (checks_along g σ (c ∷ w)) (lists (length (c ∷ w)) g.edges) (void_along c w)

-- under one setting, and under some setting
pub void_under : (g : Graph) (σ : Setting) (cs : List Cycle) → checked_under g σ cs ≡ rejected_under (voided g) σ cs
unfolding checked_under rejected_under
void_under g σ cs = sym (void_over g σ (since_init cs))

pub void_rejects : (g : Graph) (cs : List Cycle) → is_checked g cs ≡ is_rejected (voided g) cs
unfolding is_checked is_rejected constant_bits
void_rejects g cs = any_cong (λ σ. checked_under g σ cs) (λ σ. rejected_under (voided g) σ cs) (lists (constant_bits g) (false ∷ true ∷ [])) (λ σ. void_under g σ cs)
