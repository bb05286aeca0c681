-- THE CLAIM: a byte run has the bits of its number and no byte more than are needed, a file has the netlist's numbers in
-- their places, and a netlist is written exactly where there is room for its packed file, which its own numbers settle
-- and which has at most 28,706 bytes, as one has. Assumes nothing.
use mathlib.Core.Path.{◌≡◌, refl}
use mathlib.Core.Bool.{Bool, true, false, and-false}
use mathlib.Core.List.{List, [], ◌∷◌, ◌++◌}
use mathlib.Core.Logic.{◌⊎◌, inl, inr}
use Prim.Native.Nat.{ℕ, ◌+◌, ◌-◌, ◌*◌, ◌<◌, ◌≤◌}
use native.Mathlib.Omega.{arith}
use borrow.Author.Tests.{ne_eqb}
use lib.Dec.{eqb}
use lib.ListN.{get_or, take}
use Rattle.text.specs.Quoted.{bytes}
use Rattle.text.specs.Writer.{joined}
use Rattle.netlist.specs.Layout.{size_of, operands_at, gate_variable}
use Rattle.netlist.specs.Literals.{literal_of}
use Rattle.netlist.specs.Valid.{is_netlist}
use Rattle.netlist.proofs.LiteralLaws.{literal-plain}
use Rattle.netlist.proofs.ValidLaws.{valid}
use Rattle.aiger.specs.Rows.{line, literal_row}
use Rattle.aiger.specs.Format.{output_line}
use Rattle.aiger.specs.Write.{refusal_of, write_as}
use Rattle.aiger.proofs.WriteLaws.{no_netlist, too_short, written, written-only}
use Rattle.aiger.proofs.FormatLaws.{fronts_same, fronts_netlist}
use Rattle.packed.specs.Runs.{run}
use Rattle.packed.specs.Format.{packed_header, packed_latch_row, gate_runs, packed_latch, packed_gate, packed_with, packed_of}
use Rattle.packed.specs.Claims.{WriteMeans}
use Rattle.packed.proofs.RunLaws.{run_value, run-some, run-last, run-before, run-fewest}
use Rattle.packed.proofs.FormatLaws.{latch_plain, packed-same}
use Rattle.packed.proofs.LengthLaws.{packed-length}
use Rattle.packed.proofs.LongestLaws.{longest}

own : (net other text : List ℕ) → is_netlist net ≡ true → take (size_of net) other ≡ take (size_of net) net → write_as (packed_of other) other text ≡ write_as (packed_of net) net text
unfolding write_as packed_of
own net other text h e = rw (fronts_netlist other net e h, h, packed-same other net (fronts_same other net e) (λ _. false))

-- ---- what stands in a file

parts : (net : List ℕ) (explicit : ℕ → Bool)
    → packed_with net explicit
    ≡ bytes "aig "
    ++ (line (get_or net 0 0) (get_or net 1 0 ∷ get_or net 2 0 ∷ get_or net 3 0 ∷ get_or net 4 0 ∷ [])
    ++ (joined (packed_latch net explicit) (get_or net 2 0)
    ++ (joined (λ k. line (get_or net (5 + 2 * get_or net 2 0 + k) 0) []) (get_or net 3 0) ++ joined (packed_gate net) (get_or net 4 0))))
unfolding packed_with packed_header output_line literal_row
parts net explicit = refl

plain : (net : List ℕ) → packed_of net ≡ packed_with net (λ _. false)
unfolding packed_of
plain net = refl

bare : (net : List ℕ) (explicit : ℕ → Bool) (k : ℕ) → get_or net (5 + 2 * k + 1) 0 ≡ 0 → explicit k ≡ false → packed_latch net explicit k ≡ line (get_or net (5 + 2 * k) 0) []
unfolding packed_latch
bare net explicit k h e = rw e (latch_plain (get_or net (5 + 2 * k) 0) (get_or net (5 + 2 * k + 1) 0) h)

reset : (net : List ℕ) (explicit : ℕ → Bool) (k : ℕ) → (get_or net (5 + 2 * k + 1) 0 ≡ 0 → ⊥) ⊎ (explicit k ≡ true)
    → packed_latch net explicit k ≡ line (get_or net (5 + 2 * k) 0) (get_or net (5 + 2 * k + 1) 0 ∷ [])
unfolding packed_latch packed_latch_row
reset net explicit k (inl h) = rw (ne_eqb (get_or net (5 + 2 * k + 1) 0) 0 h)
reset net explicit k (inr e) = rw (e, and-false (eqb (get_or net (5 + 2 * k + 1) 0) 0))

gate : (net : List ℕ) (k : ℕ) → is_netlist net ≡ true → k < get_or net 4 0
    → (d e : ℕ) × (packed_gate net k ≡ run d ++ run e)
    × (get_or net (5 + 2 * get_or net 2 0 + get_or net 3 0 + 2 * k) 0 + d ≡ 2 * (get_or net 1 0 + get_or net 2 0 + 1 + k))
    × (get_or net (5 + 2 * get_or net 2 0 + get_or net 3 0 + 2 * k + 1) 0 + e ≡ get_or net (5 + 2 * get_or net 2 0 + get_or net 3 0 + 2 * k) 0)
unfolding packed_gate gate_runs
gate net k h l =
    let v = valid net h in
    let g = literal_of (gate_variable net k) false in
    let r0 = get_or net (operands_at net k) 0 in
    let r1 = get_or net (operands_at net k + 1) 0 in
    let below : r0 < g = v.below k l in
    let order : r1 ≤ r0 = v.order k l in
    let due : g ≡ 2 * (get_or net 1 0 + get_or net 2 0 + 1 + k) = literal-plain (gate_variable net k) in
    (g - r0, r0 - r1, refl, omega arith, omega arith)

pub write_means : WriteMeans
unfolding refusal_of
write_means =
    record {
      value = run_value;
      some = run-some;
      last = run-last;
      more = run-before;
      fewest = run-fewest;
      parts = parts;
      plain = plain;
      bare = bare;
      reset = reset;
      gate = gate;
      writes = λ net text. written (packed_of net) net text;
      only = λ net text n after. written-only (packed_of net) net text n after;
      refuses = λ net text. no_netlist (packed_of net) net text;
      no_room = λ net text. too_short (packed_of net) net text;
      numbered = (refl, refl);
      short = λ net explicit h. packed-length net h explicit;
      longest = longest;
      own = own;
    }
