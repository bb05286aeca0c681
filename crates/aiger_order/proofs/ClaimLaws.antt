-- THE CLAIM: of loose numbers the one netlist is stored where there is room for it, unless gates wait on each other.
-- Assumes nothing.
use Rattle.std.specs.Prelude.{Ok, Err}
use mathlib.Core.Path.{◌≡◌, refl, sym, ap, ◌∙◌}
use mathlib.Core.Bool.{Bool, true, false, cond}
use mathlib.Core.List.{List, ◌++◌}
use mathlib.Core.Logic.{inl, inr}
use Prim.Native.Nat.{ℕ, zero, suc, ◌+◌, ◌-◌, ◌*◌, ◌/◌, ◌%◌, ◌<◌, ◌≤◌}
use native.Mathlib.Decide.{ℕ_discrete}
use native.Mathlib.Nat.{add-zero}
use native.Mathlib.Omega.{arith}
use borrow.Author.Tests.{le-leb, lt-leb}
use lib.ListN.{length, get_or, drop}
use Rattle.netlist.specs.Layout.{maximum, latch_count, output_count, gate_count, operands_at, size_of}
use Rattle.netlist.specs.Literals.{literal_of, variable_of}
use Rattle.netlist.proofs.LiteralLaws.{literal-inverted}
use Rattle.netlist.proofs.OutlineLaws.{outline_means}
use Rattle.gate_order.specs.Loose.{first_gate, is_loose}
use Rattle.gate_order.specs.Order.{NewLiteral, PlacedAs, Stuck}
use Rattle.gate_order.specs.Placing.{index_of, Placing, ordered, waiting, placing_of}
use Rattle.gate_order.specs.Renumbered.{renumbered}
use Rattle.gate_order.proofs.LooseLaws.{Within, loose_outline, loose-within, loose_ok, netlist-loose}
use Rattle.gate_order.proofs.OrderLaws.{placing_order, placing_stuck, order_placing, not-both, BothLower, rank_free, order-ranks}
use Rattle.gate_order.proofs.MeaningLaws.{placed-lowest, placed-netlist, placed-meaning}
use Rattle.gate_order.proofs.RenumberedLaws.{literal_odd, renumbered-placed, placed-renumbered, one_placed, netlist-placed}
use Rattle.aiger_order.specs.declared.Unplaced.TheVariants.{Waiting, ShortBuffer, NotLoose}
use Rattle.aiger_order.specs.Place.{place_end, place_as, place_of}
use Rattle.aiger_order.specs.Claims.{OperandsWithin, Ranked, Renamed, RenamedGate, PlaceMeans}

-- ---- the operands in digits
module _ (loose : List ℕ) where
  -- where operand j of all stands
  abbrev operand_at : ℕ → ℕ
  operand_at j = 5 + 2 * latch_count loose + output_count loose + j

  operands-each : ((k : ℕ) → k < gate_count loose → Within loose k) → OperandsWithin loose
  operands-each w j l = elim (ℕ_discrete (j % 2) 0) [
    | yes e ↦ at (operands_at loose (j / 2)) (omega arith) (w (j / 2) (omega arith)).0
    | no d ↦ at (operands_at loose (j / 2) + 1) (omega (arith, d)) (w (j / 2) (omega arith)).1
  ]
    where
      at : (i : ℕ) → i ≡ operand_at j → get_or loose i 0 ≤ literal_of (maximum loose) true → get_or loose (operand_at j) 0 ≤ 2 * maximum loose + 1
      at i e h = rw (← e, ← (literal-inverted (maximum loose))) h

  operands-both : OperandsWithin loose → (k : ℕ) → k < gate_count loose → Within loose k
  operands-both w k l =
      let second : operands_at loose k + 1 ≡ operand_at (2 * k + 1) = omega arith in
      rw (second, literal-inverted (maximum loose)) (w (2 * k) (omega arith), w (2 * k + 1) (omega arith))

-- ---- the ends

other : (loose buf : List ℕ) → is_loose loose ≡ false → place_of loose buf ≡ place_end (Err NotLoose) buf
unfolding place_of
other loose buf e = rw e

module _ (loose : List ℕ) (is : is_loose loose ≡ true) where
  module _ (net buf : List ℕ) (p : PlacedAs loose net) where
    takes : length net ≤ length buf → place_of loose buf ≡ place_end (Ok (length net)) (net ++ drop (length net) buf)
    unfolding place_of place_as
    takes h =
        let s = p.size in
        rw (is, order_placing loose p.order p.ordered, le-leb (size_of loose) (length buf) (omega arith), s, ← (placed-renumbered loose net p))

    short : length buf < length net → place_of loose buf ≡ place_end (Err ShortBuffer) buf
    unfolding place_of place_as
    short h =
        let s = p.size in
        rw (is, order_placing loose p.order p.ordered, lt-leb (size_of loose) (length buf) (omega arith))

  -- the placing is an order of all gates, or some wait
  either : (P : Type 0) → ((order : List ℕ) → placing_of loose ≡ ordered order → P) → ((order : List ℕ) → placing_of loose ≡ waiting order → P) → P
  either P f g = go (placing_of loose) refl
    where
      go : (x : Placing) → placing_of loose ≡ x → P
      go (ordered order) e = f order e
      go (waiting order) e = g order e

  waits : (buf : List ℕ) → Stuck loose → place_of loose buf ≡ place_end (Err Waiting) buf
  unfolding place_of place_as
  waits buf s = either (place_of loose buf ≡ place_end (Err Waiting) buf) (λ order e. absurd (not-both loose order (placing_order loose order e) s)) (λ order e. rw (is, e))

  placed : (Stuck loose → ⊥) → (net : List ℕ) × PlacedAs loose net
  placed free =
      either ((net : List ℕ) × PlacedAs loose net) (λ order e. (renumbered loose order, renumbered-placed loose order is (placing_order loose order e)))
      (λ order e. absurd (free (placing_stuck loose order is e)))

-- ---- ranks, and the gates of the order

module _ (loose : List ℕ) (rank : ℕ → ℕ) where
  ranked-both : Ranked loose rank → (k : ℕ) → k < gate_count loose → BothLower loose rank k
  unfolding variable_of
  ranked-both r k l = (rw (add-zero (operands_at loose k)) at (r k 0 l (omega arith)), r k 1 l (omega arith))

  both-ranked : ((k : ℕ) → k < gate_count loose → BothLower loose rank k) → Ranked loose rank
  unfolding variable_of
  both-ranked b k zero l h = rw (add-zero (operands_at loose k)) (b k l).0
  both-ranked b k (suc zero) l h = (b k l).1
  both-ranked b k (suc (suc j)) l h = absurd (omega arith)

renamed : (loose order : List ℕ) (old new : ℕ) → NewLiteral loose order old new → Renamed loose order old new
unfolding variable_of
renamed loose order old new n = record {
  sign = literal_odd new ∙ ap (λ (s : Bool). cond s 1 0) n.sign ∙ sym (literal_odd old);
  variable = n.variable;
}

module _ (loose net : List ℕ) (p : PlacedAs loose net) where
  gate_renamed : (m : ℕ) → m < gate_count loose
      → (x : ℕ) × (get_or p.order m 0 ≡ first_gate loose + x) × RenamedGate loose p.order net m x
  gate_renamed m l =
      let r = (p.ordered.ready m l).from in (
        get_or p.order m 0 - first_gate loose,
        omega arith,
        elim (p.gate m l).operands [
          | inl (a, b) ↦ inl (renamed loose p.order _ _ a, renamed loose p.order _ _ b)
          | inr (a, b) ↦ inr (renamed loose p.order _ _ a, renamed loose p.order _ _ b)
        ],
      )

pub place-means : PlaceMeans
place-means = record {
  ends = λ r n. (refl, refl);
  loose = λ loose o w. loose_ok loose ((outline_means loose).taken o) (operands-both loose w);
  within = λ loose is. ((outline_means loose).within (loose_outline loose is), operands-each loose (loose-within loose is));
  other = other;
  takes = λ loose net buf is p. takes loose is net buf p;
  short = λ loose net buf is p. short loose is net buf p;
  waits = λ loose buf is. waits loose is buf;
  placed = placed;
  never = λ loose net p. not-both loose p.order p.ordered;
  ranked = λ loose rank is r. placed loose is (rank_free loose rank (ranked-both loose rank r));
  ranks = λ loose net is p. ((λ x. index_of x p.order), both-ranked loose (λ x. index_of x p.order) (order-ranks loose p.order p.ordered));
  gates = λ loose net is p. (p.ordered.whole, p.header, gate_renamed loose net p);
  one = λ loose net other is. one_placed loose net other;
  lowest = λ loose net is. placed-lowest loose net;
  netlist = placed-netlist;
  meaning = placed-meaning;
  same = λ net is. (netlist-loose net is, netlist-placed net is);
}
