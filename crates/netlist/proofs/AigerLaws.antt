-- In each lane a cycle's values are the one valuation that satisfies AIGER's equations. Assumes nothing.
use mathlib.Core.Path.{◌≡◌, refl, sym, ap, ap₂, ◌∙◌}
use mathlib.Core.Bool.{Bool, true, false, ◌&&◌}
use mathlib.Core.List.{List, [], ◌∷◌, ◌++◌}
use Prim.Native.Nat.{ℕ, zero, suc, ◌+◌, ◌*◌, ◌<◌, ◌≤◌}
use native.Mathlib.Omega.{arith}
use borrow.Author.Tests.{eq-eqb, le-leb}
use lib.ListN.{length, get_or, length-append, get_or-append}
use lib.Seq.{get_or-append-add, ext_get_or}
use borrow.Author.Count.{below_more}
use Rattle.netlist.specs.Layout.{maximum, input_count, latch_count, output_count, gate_count, output_at, operands_at, size_of, input_variable, latch_variable, gate_variable}
use Rattle.netlist.specs.Literals.{variable_of, literal_of}
use Rattle.netlist.specs.Lanes.{lane}
use Rattle.netlist.specs.Meaning.{bools, words, lit_of, gate_of, gates_of, front, values_of}
use Rattle.netlist.specs.Valid.{header_ok, is_within, latch_ok, free_count, output_ok, gate_ok, is_outline, is_netlist}
use Rattle.netlist.specs.Aiger.{Satisfies, OneLane, Means}
use Rattle.netlist.proofs.EachLaws.{each_all}
use Rattle.netlist.proofs.ValidLaws.{Valid, header, valid}
use Rattle.netlist.proofs.MeaningLaws.{lit-same, length-values, gates-front, gates_at_lem, lane_hom, values_hom, next_hom, output_hom}

-- what holds below b, and at each of the n numbers from b on where it holds below that, holds below b + n
onward : (P : ℕ → Type 0) (b n : ℕ) → ((j : ℕ) → j < b → P j) → ((k : ℕ) → k < n → ((j : ℕ) → j < b + k → P j) → P (b + k))
    → (j : ℕ) → j < b + n → P j
onward P b zero base step j l = base j (omega arith)
onward P b (suc n) base step j l =
    let before = onward P b n base (λ k h. step k (omega arith)) in
    below_more P (b + n) before (step n (omega arith) before) j (omega arith)

-- past its end a list has the default
first-false : (v : List Bool) → get_or v 0 true ≡ false → get_or v 0 false ≡ false
first-false [] e = refl
first-false (b ∷ bs) e = e

module _ (net : List ℕ) (ok : Valid net) (ins latches v w : List Bool)
    (sv : Satisfies net ins latches v) (sw : Satisfies net ins latches w) where
  Same : ℕ → Type 0
  Same j = get_or v j false ≡ get_or w j false

  same-input : (j : ℕ) → j < input_count net + 1 → Same j
  unfolding Same
  same-input j l =
      onward Same 1 (input_count net)
      (λ i h. let e : i ≡ 0 = omega arith in rw e (first-false v sv.constant ∙ sym (first-false w sw.constant)))
      (λ k h _. sv.inputs k h ∙ sym (sw.inputs k h)) j (omega arith)

  same_latch : (j : ℕ) → j < input_count net + latch_count net + 1 → Same j
  unfolding Same
  same_latch j l =
      onward Same (input_count net + 1) (latch_count net) same-input
      (λ k h _. sv.latched k h ∙ sym (sw.latched k h)) j (omega arith)

  same-gate : (j : ℕ) → j < input_count net + latch_count net + 1 + gate_count net → Same j
  unfolding Same
  same-gate =
      onward Same (input_count net + latch_count net + 1) (gate_count net) same_latch
      (λ k h before.
      sv.gates k h
      ∙ ap₂ ◌&&◌
      (lit-same bools v w (get_or net (operands_at net k) 0) (before (variable_of (get_or net (operands_at net k) 0)) (ok.first k h)))
      (lit-same bools v w (get_or net (operands_at net k + 1) 0) (before (variable_of (get_or net (operands_at net k + 1) 0)) (ok.second k h)))
      ∙ sym (sw.gates k h))

  -- two valuations that satisfy the equations are the same
  same : v ≡ w
  unfolding Same
  same = ext_get_or false v w (sv.whole ∙ sym sw.whole) (λ j l. let n = sv.whole in let s = ok.sum in same-gate j (omega arith))

module _ (net : List ℕ) (ok : Valid net) (ins latches : List Bool) (hi : length ins ≡ input_count net) (hl : length latches ≡ latch_count net) where
  abbrev W : List Bool
  W = values_of bools net ins latches

  abbrev F : List Bool
  F = (false ∷ ins) ++ latches

  front-size : length F ≡ input_count net + latch_count net + 1
  front-size = length-append (false ∷ ins) latches ∙ omega arith

  -- variable 0, the inputs and the latches have the values given
  front_at : (j : ℕ) (d : Bool) → j < length F → get_or W j d ≡ get_or F j d
  unfolding values_of front gates_of
  front_at j d l = gates-front bools net (operands_at net 0) 0 (gate_count net) F j d (omega arith) (omega arith)

  lit-front : (k lit : ℕ) → k < gate_count net → variable_of lit < gate_variable net k
      → lit_of bools (gates_of bools net (operands_at net 0) k F) lit ≡ lit_of bools W lit
  unfolding values_of front
  lit-front k lit l h =
      let e = front-size in
      lit-same bools (gates_of bools net (operands_at net 0) k F) W lit
      (sym (gates-front bools net (operands_at net 0) k (gate_count net) F (variable_of lit) false (omega arith) (omega arith)))

  gate : (k : ℕ) → k < gate_count net
      → get_or W (gate_variable net k) false ≡ (lit_of bools W (get_or net (operands_at net k) 0) && lit_of bools W (get_or net (operands_at net k + 1) 0))
  unfolding values_of front gate_of
  gate k l =
      let at : operands_at net 0 + 2 * k ≡ operands_at net k = omega arith in
      let n : gate_variable net k ≡ length F + k = omega (arith, front-size) in
      ap (λ (j : ℕ). get_or W j false) n
      ∙ gates_at_lem bools net (operands_at net 0) k (gate_count net) F false l
      ∙ ap (λ (p : ℕ). gate_of bools net p (gates_of bools net (operands_at net 0) k F)) at
      ∙ ap₂ ◌&&◌ (lit-front k (get_or net (operands_at net k) 0) l (ok.first k l)) (lit-front k (get_or net (operands_at net k + 1) 0) l (ok.second k l))

  satisfies : Satisfies net ins latches W
  satisfies =
      record {
        whole = length-values bools net ins latches ∙ omega (arith, ok.sum);
        constant = front_at 0 true (omega (arith, front-size));
        inputs = λ k l.
            let n : input_variable k ≡ suc k = omega arith in
            ap (λ (j : ℕ). get_or W j false) n
            ∙ front_at (suc k) false (omega (arith, front-size))
            ∙ get_or-append ins latches false k (omega arith);
        latched = λ k l.
            let n : latch_variable net k ≡ length (false ∷ ins) + k = omega arith in
            front_at (latch_variable net k) false (omega (arith, front-size))
            ∙ ap (λ (j : ℕ). get_or F j false) n
            ∙ get_or-append-add (false ∷ ins) latches k false;
        gates = gate;
      }

  one_lane : OneLane net ins latches
  one_lane = record { satisfies = satisfies; only = λ v s. same net ok ins latches v W s satisfies }

-- a header within the limits
header_ok_lem : (m i l o a : ℕ) → m ≡ i + l + a → m ≤ 4095 → 1 ≤ i → i ≤ 64 → 1 ≤ o → o ≤ 2 → header_ok m i l o a ≡ true
unfolding header_ok
header_ok_lem m i l o a e h1 h2 h3 h4 h5 = rw (eq-eqb _ _ e, le-leb _ _ h1, le-leb _ _ h2, le-leb _ _ h3, le-leb _ _ h4, le-leb _ _ h5)

-- an outline whose parts are good
pub outline_ok : (net : List ℕ) → 5 ≤ length net → header_ok (maximum net) (input_count net) (latch_count net) (output_count net) (gate_count net) ≡ true → size_of net ≤ length net
    → ((k : ℕ) → k < output_count net → get_or net (output_at net k) 0 ≤ literal_of (maximum net) true) → ((k : ℕ) → k < latch_count net → latch_ok net k ≡ true)
    → free_count net (latch_count net) ≤ 6 → is_outline net ≡ true
unfolding is_outline output_ok is_within
outline_ok net n h s outputs latches free =
    rw (
      le-leb _ _ n,
      h,
      le-leb _ _ s,
      each_all (output_ok net) (output_count net) (λ k l. le-leb _ _ (outputs k l)),
      each_all (latch_ok net) (latch_count net) latches,
      le-leb _ _ free,
    )

-- and numbers whose parts are good
netlist_ok : (net : List ℕ) → 5 ≤ length net → header_ok (maximum net) (input_count net) (latch_count net) (output_count net) (gate_count net) ≡ true → size_of net ≤ length net
    → ((k : ℕ) → k < output_count net → get_or net (output_at net k) 0 ≤ literal_of (maximum net) true) → ((k : ℕ) → k < latch_count net → latch_ok net k ≡ true)
    → free_count net (latch_count net) ≤ 6 → ((k : ℕ) → k < gate_count net → gate_ok net k ≡ true) → is_netlist net ≡ true
unfolding is_netlist
netlist_ok net n h s outputs latches free gates =
    rw (outline_ok net n h s outputs latches free, each_all (gate_ok net) (gate_count net) gates)

-- THE MEANING holds of every list of numbers
pub means : (net : List ℕ) → Means net
means net =
    record {
      lanes = λ n h.
          record {
            values = values_hom words bools (lane n) (lane_hom n h) net;
            next = next_hom words bools (lane n) (lane_hom n h) net;
            output = output_hom words bools (lane n) (lane_hom n h) net;
          };
      aiger = λ e ins latches hi hl. one_lane net (valid net e) ins latches hi hl;
      outputs = λ e. ((valid net e).output, (valid net e).most);
      either = header_ok_lem;
      limits = λ m i l o a e. let h = header m i l o a e in (h.sum, h.small, h.some, h.few, h.output, h.most);
      taken = netlist_ok net;
    }
