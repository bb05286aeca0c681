-- The gates of checked compute whether a terminal edge is alive. Assumes nothing.
use Prim.Native.Nat.{ℕ, suc, ◌+◌}
use mathlib.Core.Path.{◌≡◌, refl, ap}
use mathlib.Core.Bool.{Bool, true, false, ◌&&◌, ◌||◌, cond}
use mathlib.Core.List.{List, [], ◌∷◌, map}
use native.Mathlib.Omega.{arith}
use lib.ListN.{length}
use Rattle.netlist.specs.Literals.{literal_of}
use Rattle.assertion.specs.Graph.{Edge, Graph, is_terminal}
use Rattle.circuit.specs.Gates.{inv, Gate, gate, Piece}
use Rattle.circuit.specs.Build.{Bits, Two, or_all}
use Rattle.circuit.specs.Checked.{terminal_twos, alives, checked_from}
use Rattle.circuit.proofs.Tokens.{Token}
use Rattle.circuit.proofs.Alive.{alive, checking}
use Rattle.circuit.proofs.Good.{eval_gates, Good, stays, eval_append, eval_length, gate-length, or_makes}
use Rattle.circuit.proofs.Circuit.{PairsGood, pairs_stay, or_test, TermsGood, or_all_lem}

-- the tokens of the terminal edges
abbrev terminal_tokens : Graph → List Edge → List Token → List Token
terminal_tokens g [] ts = []
terminal_tokens g (e ∷ es) [] = []
terminal_tokens g (e ∷ es) (t ∷ ts) = cond (is_terminal g e) (t ∷ terminal_tokens g es ts) (terminal_tokens g es ts)

pairs_cond : (b : Bool) (v : List Bool) (m : Two) (t : Token) (ms : List Two) (ts : List Token) → PairsGood v (m ∷ []) (t ∷ []) → PairsGood v ms ts
    → PairsGood v (cond b (m ∷ ms) ms) (cond b (t ∷ ts) ts)
pairs_cond true v m t ms ts p r = (p.0, p.1, r)
pairs_cond false v m t ms ts p r = r

terminal_good : (g : Graph) (es : List Edge) (ms : List Two) (ts : List Token) (v : List Bool) → PairsGood v ms ts → PairsGood v (terminal_twos g es ms) (terminal_tokens g es ts)
terminal_good g [] ms ts v p = tt
terminal_good g (e ∷ es) [] [] v p = tt
terminal_good g (e ∷ es) [] (t ∷ ts) v p = absurd p
terminal_good g (e ∷ es) (m ∷ ms) [] v p = absurd p
terminal_good g (e ∷ es) (m ∷ ms) (t ∷ ts) v p = pairs_cond (is_terminal g e) v m t _ _ (p.0, p.1, tt) (terminal_good g es ms ts v p.2)

alives_good : (ms : List Two) (ts : List Token) (v : List Bool) (n : ℕ) → length v ≡ n → PairsGood v ms ts
    → TermsGood (eval_gates v (alives n ms).gates) (alives n ms).outs (map alive ts)
alives_good [] [] v n e p = tt
alives_good [] (t ∷ ts) v n e p = absurd p
alives_good (m ∷ ms) [] v n e p = absurd p
alives_good (m ∷ ms) (t ∷ ts) v n e p =
    let one : Gate = gate (inv m.condemned) (inv m.happy) in
    let v₁ : List Bool = eval_gates v (one ∷ []) in
    let here : Good v₁ (literal_of n true) (alive t) = or_makes v m.condemned m.happy t.condemned t.happy n e p.1 p.0 in
    (stays (alives (suc n) ms).gates here, alives_good ms ts v₁ (suc n) (gate-length v one n e) (pairs_stay (one ∷ []) v ms ts p.2))

alive-values : (g : Graph) (es : List Edge) (ts : List Token) → or_test (map alive (terminal_tokens g es ts)) ≡ checking g es ts
alive-values g [] ts = refl
alive-values g (e ∷ es) [] = refl
alive-values g (e ∷ es) (t ∷ ts) = by (is_terminal g e) (terminal_tokens g es ts) (checking g es ts) (alive-values g es ts)
  where
    by : (b : Bool) (us : List Token) (r : Bool) → or_test (map alive us) ≡ r → or_test (map alive (cond b (t ∷ us) us)) ≡ (b && alive t) || r
    by true us r q = ap (◌||◌ (alive t)) q
    by false us r q = q

pub checked_good : (g : Graph) (es : List Edge) (ms : List Two) (ts : List Token) (v : List Bool) (n : ℕ) → length v ≡ n → Good v (literal_of 0 false) false → PairsGood v ms ts
    → Good (eval_gates v (checked_from n (terminal_twos g es ms)).gates) (checked_from n (terminal_twos g es ms)).out (checking g es ts)
checked_good g es ms ts v n e z p =
    let a : Bits = alives n (terminal_twos g es ms) in
    let v₁ : List Bool = eval_gates v a.gates in
    let j : Piece = or_all (n + length a.gates) a.outs in
    let terms = alives_good (terminal_twos g es ms) (terminal_tokens g es ts) v n e (terminal_good g es ms ts v p) in
    let joined : Good (eval_gates v₁ j.gates) j.out (or_test (map alive (terminal_tokens g es ts))) =
    or_all_lem a.outs (map alive (terminal_tokens g es ts)) v₁ (n + length a.gates) (omega (arith, eval_length a.gates v)) (stays a.gates z) terms in
    rw (eval_append a.gates j.gates v, ← alive-values g es ts) joined
