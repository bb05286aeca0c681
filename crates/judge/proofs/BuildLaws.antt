-- What comes of a graph text that was built into a buffer with room for every netlist. Assumes nothing.
use Rattle.std.specs.Prelude.{Result, Ok, Err}
use mathlib.Core.Path.{◌≡◌, refl, ap, sym, ◌∙◌}
use mathlib.Core.Bool.{Bool, true, false, cond, not}
use mathlib.Core.List.{List, [], ◌++◌, append-nil}
use Prim.Native.Nat.{ℕ, ◌+◌, ◌*◌, ◌≤◌}
use native.Mathlib.Omega.{arith}
use borrow.Author.Tests.{leb-true, leb-false}
use lib.Dec.{leb}
use lib.ListN.{length, drop}
use Rattle.assertion.specs.Graph.{Bytes, Graph, constant_bits}
use Rattle.graph.specs.Reading.{Outcome, refused, accepted, graph_of}
use Rattle.circuit.specs.Build.{gates_of}
use Rattle.circuit.specs.Numbers.{numbers_of}
use Rattle.circuit.proofs.Places.{long}
use Rattle.builder.specs.declared.Cause.{Cause}
use Rattle.builder.specs.declared.Cause.TheVariants.{GraphText, TooManyVariables, ShortBuffer}
use Rattle.builder.specs.Build.{variables_of, BuildEnd, build_end, build_as, build_of}
use Rattle.builder.specs.Claims.{BuildMeans}
use Rattle.demand.specs.Demand.{Demand3}

pub numbers-length : (g : Graph) → length (numbers_of g) ≡ 6 + 2 * (constant_bits g + 2 * length g.edges) + 2 * length (gates_of g)
numbers-length g = ap length (sym (append-nil (numbers_of g))) ∙ omega (arith, long g false [])

-- no netlist of at most 4,095 variables, built without checked, has more than 8,194 numbers
pub numbers-most : (g : Graph) → variables_of false g ≤ 4095 → length (numbers_of g) ≤ 8194
unfolding variables_of
numbers-most g h = omega (arith, numbers-length g)

-- what is made of a graph that build accepts, and of the cause of a refusal
unfoldable pub graph_end : {A : Type 0} → (Graph → A) → (Cause → A) → Outcome → A
graph_end accept refuse (refused c) = refuse (GraphText c)
graph_end accept refuse (accepted g) = cond (leb (variables_of false g) 4095) (accept g) (refuse TooManyVariables)

-- ---- a build, as it answered and left
module _ (text : Bytes) (room : List ℕ) {r : Result ℕ Cause} {net : List ℕ} (e : build_end r net ≡ build_of false text room) where
  pub build_answered : {x : Result ℕ Cause} → r ≡ x → (build_of false text room).answer ≡ x
  build_answered h = sym (ap (λ (b : BuildEnd). b.answer) e) ∙ h

  pub build_left : (build_of false text room).net ≡ net
  build_left = sym (ap (λ (b : BuildEnd). b.net) e)

module _ (room : List ℕ) (enough : 8194 ≤ length room) where
  abbrev ends : Graph → Bool → Bool → BuildEnd
  ends g a b =
      cond (not a) (build_end (Err TooManyVariables) room)
      (cond (not b) (build_end (Err ShortBuffer) room)
      (build_end (Ok (length (gates_of g))) (numbers_of g ++ drop (length (numbers_of g)) room)))

  -- ---- a build that is refused
  module _ {A : Type 0} (accept : Graph → A) (refuse : Cause → A) (cause : Cause) where
    refused_as_lem : (o : Outcome) → (build_as false o room).answer ≡ Err cause → graph_end accept refuse o ≡ refuse cause
    unfolding build_as graph_end
    refused_as_lem (refused c) e = let q : GraphText c ≡ cause = cc in ap refuse q
    refused_as_lem (accepted g) e = go (leb (variables_of false g) 4095) refl (leb (length (numbers_of g)) (length room)) refl e
      where
        go : (a : Bool) → leb (variables_of false g) 4095 ≡ a → (b : Bool) → leb (length (numbers_of g)) (length room) ≡ b
            → (ends g a b).answer ≡ Err cause → cond a (accept g) (refuse TooManyVariables) ≡ refuse cause
        go false h b k e = let q : TooManyVariables ≡ cause = cc in ap refuse q
        go true h false k e =
            let n = numbers-most g (leb-true (variables_of false g) 4095 h) in
            let m = leb-false (length (numbers_of g)) (length room) k in
            absurd (omega arith)
        go true h true k e = let z : ◌≡◌ {A = ℕ} 0 1 = cc in absurd (omega arith)

    pub build_refused : (text : Bytes) → (build_of false text room).answer ≡ Err cause → graph_end accept refuse (graph_of text) ≡ refuse cause
    unfolding build_of
    build_refused text e = refused_as_lem (graph_of text) e

  -- ---- a build that is accepted: the graph of its text, and the numbers that it leaves
  pub record Made (text : Bytes) : Type 0 where
    pub g : Graph
    pub graph : graph_of text ≡ accepted g
    pub small : leb (variables_of false g) 4095 ≡ true
    pub net : (build_of false text room).net ≡ numbers_of g ++ drop (length (numbers_of g)) room

  made_as : (text : Bytes) (made : ℕ) (o : Outcome) → graph_of text ≡ o → (build_as false o room).answer ≡ Ok made → Made text
  unfolding build_as build_of
  made_as text made (refused c) e h = let z : ◌≡◌ {A = ℕ} 0 1 = cc in absurd (omega arith)
  made_as text made (accepted g) e h =
      record {
        g = g;
        graph = e;
        small = (passed (leb (variables_of false g) 4095) (leb (length (numbers_of g)) (length room)) h).0;
        net = ap (λ (o : Outcome). (build_as false o room).net) e ∙ (passed (leb (variables_of false g) 4095) (leb (length (numbers_of g)) (length room)) h).1;
      }
    where
      passed : (a b : Bool) → (ends g a b).answer ≡ Ok made → (a ≡ true) × ((ends g a b).net ≡ numbers_of g ++ drop (length (numbers_of g)) room)
      passed false b h = let z : ◌≡◌ {A = ℕ} 0 1 = cc in absurd (omega arith)
      passed true false h = let z : ◌≡◌ {A = ℕ} 0 1 = cc in absurd (omega arith)
      passed true true h = (refl, refl)

  module _ (text : Bytes) (made : ℕ) (h : (build_of false text room).answer ≡ Ok made) where
    pub build_made : Made text
    unfolding build_of
    build_made = made_as text made (graph_of text) refl h

    pub made_end : {A : Type 0} (accept : Graph → A) (refuse : Cause → A) → graph_end accept refuse (graph_of text) ≡ accept build_made.g
    unfolding graph_end
    made_end accept refuse = rw (build_made.graph, build_made.small)

    -- what demand 3 says of those numbers
    pub made_demand : BuildMeans false text room → Demand3 false build_made.g (build_of false text room).net made
    made_demand means =
        rw build_made.net (means.demand build_made.g made build_made.graph h (drop (length (numbers_of build_made.g)) room))
