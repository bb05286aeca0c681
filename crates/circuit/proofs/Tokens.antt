-- The monitor for one setting, without gates: a happy and a condemned token at each edge. Assumes nothing.
use Prim.Native.Nat.{ℕ}
use mathlib.Core.Bool.{Bool, false, not, ◌&&◌, ◌||◌}
use mathlib.Core.List.{List, [], ◌∷◌, map}
use lib.Dec.{eqb}
use Rattle.assertion.specs.Graph.{Edge, Graph, Cycle, Setting, is_terminal, is_init, holds}

pub record Token : Type 0 where
  pub happy : Bool
  pub condemned : Bool

-- no token anywhere: before the first cycle
abbrev pub fresh : List Edge → List Token
fresh [] = []
fresh (e ∷ es) = record { happy = false; condemned = false } ∷ fresh es

-- a vertex gathers the tokens of the edges that go to it; init masks them
abbrev pub happy_into : Bool → ℕ → List Edge → List Token → Bool
happy_into init v [] ts = false
happy_into init v (e ∷ es) [] = false
happy_into init v (e ∷ es) (t ∷ ts) = (eqb e.to v && (t.happy && not init)) || happy_into init v es ts

abbrev pub condemned_into : Bool → ℕ → List Edge → List Token → Bool
condemned_into init v [] ts = false
condemned_into init v (e ∷ es) [] = false
condemned_into init v (e ∷ es) (t ∷ ts) = (eqb e.to v && (t.condemned && not init)) || condemned_into init v es ts

-- the start vertex has init besides
unfoldable pub happy_at : Graph → List Token → Cycle → ℕ → Bool
happy_at g ts c v = (eqb v 0 && is_init c) || happy_into (is_init c) v g.edges ts

unfoldable pub condemned_at : Graph → List Token → Cycle → ℕ → Bool
condemned_at g ts c v = condemned_into (is_init c) v g.edges ts

-- an edge's tokens, from those of the vertex that it leaves
abbrev pub now_at : Setting → Cycle → (ℕ → Bool) → (ℕ → Bool) → Edge → Token
now_at σ c h d e = record {
  happy = (holds σ c e.antecedent && h e.from) && holds σ c e.consequent;
  condemned = ((holds σ c e.antecedent && h e.from) && not (holds σ c e.consequent)) || (holds σ c e.antecedent && d e.from);
}

unfoldable pub step : Graph → Setting → List Token → Cycle → List Token
step g σ ts c = map (now_at σ c (happy_at g ts c) (condemned_at g ts c)) g.edges

abbrev pub steps : Graph → Setting → List Token → List Cycle → List Token
steps g σ ts [] = ts
steps g σ ts (c ∷ cs) = steps g σ (step g σ ts c) cs

-- a terminal edge has a condemned token
abbrev pub rejecting : Graph → List Edge → List Token → Bool
rejecting g [] ts = false
rejecting g (e ∷ es) [] = false
rejecting g (e ∷ es) (t ∷ ts) = (is_terminal g e && t.condemned) || rejecting g es ts
