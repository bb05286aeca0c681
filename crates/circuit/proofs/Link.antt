-- The gates of a netlist's numbers, evaluated one after another from the first, and its latches' next literals. Assumes nothing.
use Prim.Native.Nat.{ℕ, zero, suc, ◌+◌, ◌*◌, ◌<◌}
use mathlib.Core.Path.{◌≡◌, refl, ap, ap₂, sym, ◌∙◌}
use mathlib.Core.Bool.{Bool, false, ◌&&◌}
use mathlib.Core.List.{List, [], ◌∷◌, ◌++◌, map}
use native.Mathlib.Nat.{add-zero}
use native.Mathlib.Omega.{arith}
use lib.ListN.{length, get_or, length-map}
use lib.Seq.{ext_get_or}
use Rattle.netlist.specs.Layout.{next_at}
use Rattle.netlist.specs.Meaning.{bools, gate_of, gates_of, nexts_of, lit_of}
use Rattle.netlist.proofs.MeaningLaws.{length_nexts, nexts_at}
use Rattle.circuit.specs.Gates.{Gate}
use Rattle.circuit.specs.Numbers.{operands}
use Rattle.circuit.proofs.Good.{eval_gates}

module _ (net : List ℕ) where
  -- the first gate stands before the others
  first_gate_lem : (at k : ℕ) (vs : List Bool) → gates_of bools net at (suc k) vs ≡ gates_of bools net (at + 2) k (vs ++ (gate_of bools net at vs ∷ []))
  unfolding gates_of
  first_gate_lem at zero vs = let e : at + 2 * 0 ≡ at = omega arith in ap (λ (i : ℕ). vs ++ (gate_of bools net i vs ∷ [])) e
  first_gate_lem at (suc k) vs =
      let e : at + 2 * suc k ≡ at + 2 + 2 * k = omega arith in
      ap₂ (λ (i : ℕ) (g : List Bool). g ++ (gate_of bools net i g ∷ [])) e (first_gate_lem at k vs)

  gate-is : (at : ℕ) (vs : List Bool) (x : Gate) → get_or net at 0 ≡ x.left → get_or net (at + 1) 0 ≡ x.right
      → gate_of bools net at vs ≡ lit_of bools vs x.left && lit_of bools vs x.right
  unfolding gate_of
  gate-is at vs x p q = ap₂ (λ (a b : ℕ). lit_of bools vs a && lit_of bools vs b) p q

  -- gates whose operands stand from `at` on
  pub gates_link : (xs : List Gate) (at : ℕ) (vs : List Bool) → ((j : ℕ) → j < 2 * length xs → get_or net (at + j) 0 ≡ get_or (operands xs) j 0)
      → gates_of bools net at (length xs) vs ≡ eval_gates vs xs
  unfolding gates_of
  gates_link [] at vs h = refl
  gates_link (x ∷ xs) at vs h =
      let p : get_or net at 0 ≡ x.left = ap (λ (i : ℕ). get_or net i 0) (sym (add-zero at)) ∙ h 0 (omega arith) in
      let q : get_or net (at + 1) 0 ≡ x.right = h 1 (omega arith) in
      first_gate_lem at (length xs) vs
      ∙ ap (λ (b : Bool). gates_of bools net (at + 2) (length xs) (vs ++ (b ∷ []))) (gate-is at vs x p q)
      ∙ gates_link xs (at + 2) (vs ++ ((lit_of bools vs x.left && lit_of bools vs x.right) ∷ []))
      (λ j l. let e : at + 2 + j ≡ at + suc (suc j) = omega arith in ap (λ (i : ℕ). get_or net i 0) e ∙ h (suc (suc j)) (omega arith))

  -- latches whose next literals are these
  pub nexts_link : (ls : List ℕ) (vs : List Bool) → ((k : ℕ) → k < length ls → get_or net (next_at k) 0 ≡ get_or ls k 0)
      → nexts_of bools net (length ls) vs ≡ map (lit_of bools vs) ls
  nexts_link ls vs h =
      ext_get_or false (nexts_of bools net (length ls) vs) (map (lit_of bools vs) ls) (length_nexts bools net (length ls) vs ∙ sym (length-map ls (lit_of bools vs)))
      (λ k l.
      let b : k < length ls = omega (arith, length_nexts bools net (length ls) vs) in
      nexts_at bools net (length ls) vs false k b ∙ ap (lit_of bools vs) (h k b) ∙ at_map ls k b)
    where
      at_map : (xs : List ℕ) (k : ℕ) → k < length xs → lit_of bools vs (get_or xs k 0) ≡ get_or (map (lit_of bools vs) xs) k false
      at_map [] k l = absurd (omega arith)
      at_map (x ∷ xs) zero l = refl
      at_map (x ∷ xs) (suc k) l = at_map xs k (omega arith)
