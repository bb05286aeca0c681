-- While cycles go through the monitor, each lane of the latch words is its setting and its tokens, and the tally is what the paths say. Assumes nothing.
use Prim.Native.Nat.{ℕ, suc, ◌+◌, ◌<◌}
use mathlib.Core.Path.{◌≡◌, refl, ap, ap₂, subst, sym, ◌∙◌}
use mathlib.Core.Bool.{Bool, true, false, not, cond}
use mathlib.Core.List.{List, [], ◌∷◌, ◌++◌, map, append_assoc, append-nil}
use native.Mathlib.Omega.{arith}
use lib.ListN.{length, take, drop, length-append}
use lib.Seq.{take_at}
use lib.Dec.{eqb}
use Rattle.netlist.specs.Layout.{input_count, latch_count, output_count}
use Rattle.netlist.specs.Lanes.{lane, each}
use Rattle.netlist.specs.Meaning.{bools, words, bit_of, values_of, next_of, output_of}
use Rattle.netlist.proofs.EachLaws.{each_all, each_same}
use Rattle.netlist.proofs.LaneLaws.{lane-zero}
use Rattle.netlist.proofs.MeaningLaws.{length_nexts, lane-inputs}
use Rattle.netlist.proofs.AigerLaws.{means}
use Rattle.assertion.specs.Graph.{Graph, signal_bits, Cycle}
use Rattle.assertion.specs.Paths.{is_rejected, is_checked, verdicts, count_rejected, count_checked}
use Rattle.assertion.proofs.CountLaws.{rejected-more, checked-more}
use Rattle.circuit.specs.Numbers.{numbers_with}
use Rattle.circuit.proofs.Fits.{Fits}
use Rattle.circuit.proofs.Tokens.{Token, rejecting}
use Rattle.circuit.proofs.Lanes.{lane_setting, lane_tokens, lane_accepts, setting-length, tokens_length, tokens_more, lanes}
use Rattle.circuit.proofs.Alive.{checking, lane_checks, lanes-checked}
use Rattle.circuit.proofs.Places.{inputs_are, outputs-are}
use Rattle.circuit.proofs.Machine.{latches_of, moves_next, moves-output, moves-checked}
use Rattle.calls.specs.declared.tally.Tally.{Tally}
use Rattle.calls.specs.Tallies.{counted}
use Rattle.simulator.specs.Step.{cycle_words, output_word, word_checked, latches_after}
use Rattle.simulator.specs.Run.{verdict_byte, Running, run_cycle, run_cycles}

pub verdicts-length : (g : Graph) (s cs : List Cycle) → length (verdicts g s cs) ≡ length cs
verdicts-length g s [] = refl
verdicts-length g s (c ∷ cs) = ap suc (verdicts-length g (s ++ (c ∷ [])) cs)

-- each of these cycles has a byte for each input
abbrev pub Whole : ℕ → List Cycle → Type 0
Whole i [] = Unit {0}
Whole i (c ∷ cs) = (length c ≡ i) × Whole i cs

module _ (checked : Bool) (g : Graph) (fits : Fits g) (surplus : List ℕ) where
  abbrev net : List ℕ
  net = numbers_with checked g ++ surplus

  -- latch words and a tally after the cycles seen
  pub record Right (seen : List Cycle) (latches : List ℕ) (t : Tally) : Type 0 where
    pub lanes-are : (n : ℕ) → n < 64 → map (lane n) (take (latch_count net) latches) ≡ latches_of (lane_setting g n) (lane_tokens g seen n)
    pub cycles-are : t.cycles ≡ length seen
    pub rejected-are : t.rejected ≡ count_rejected g seen
    pub checked-are : t.checked ≡ cond checked (count_checked g seen) 0

  module _ (seen : List Cycle) (c : Cycle) (latches : List ℕ) (t : Tally) (whole : length c ≡ input_count net) (r : Right seen latches t) where
    abbrev w : ℕ
    w = output_word net c latches

    long : length c ≡ 1 + signal_bits g
    long = whole ∙ inputs_are g checked surplus

    -- in lane n, the words are the values of the lane
    values-lane : (n : ℕ) → n < 64
        → map (lane n) (cycle_words net c latches) ≡ values_of bools net (map (bit_of bools) c) (latches_of (lane_setting g n) (lane_tokens g seen n))
    unfolding cycle_words
    values-lane n h =
        ((means net).lanes n h).values (map (bit_of words) c) (take (latch_count net) latches)
        ∙ ap₂ (values_of bools net) (lane-inputs n h c) (r.lanes-are n h)

    -- the latches move as the tokens do
    next-lane : (n : ℕ) → n < 64
        → map (lane n) (take (latch_count net) (latches_after net c latches)) ≡ latches_of (lane_setting g n) (lane_tokens g (seen ++ (c ∷ [])) n)
    unfolding latches_after next_of
    next-lane n h =
        let W = cycle_words net c latches in
        ap (map (lane n)) (take_at (next_of words net W) (drop (latch_count net) latches) (latch_count net) (length_nexts words net (latch_count net) W))
        ∙ ((means net).lanes n h).next W
        ∙ ap (next_of bools net) (values-lane n h)
        ∙ moves_next g fits (lane_setting g n) (lane_tokens g seen n) c (setting-length g n) (tokens_length g seen n) long checked surplus
        ∙ ap (latches_of (lane_setting g n)) (sym (tokens_more g seen c n))

    -- the output is high just where the lane accepts
    output-lane : (n : ℕ) → n < 64 → lane n w ≡ lane_accepts g (seen ++ (c ∷ [])) n
    unfolding output_word lane_accepts
    output-lane n h =
        ((means net).lanes n h).output 0 (cycle_words net c latches)
        ∙ ap (output_of bools net 0) (values-lane n h)
        ∙ moves-output g fits (lane_setting g n) (lane_tokens g seen n) c (setting-length g n) (tokens_length g seen n) long checked surplus
        ∙ ap (λ (ts : List Token). not (rejecting g g.edges ts)) (sym (tokens_more g seen c n))

    -- the cycle is rejected just where the paths say so
    judged : Rattle.calls.specs.Tallies.is_rejected w ≡ is_rejected g (seen ++ (c ∷ []))
    unfolding Rattle.calls.specs.Tallies.is_rejected
    judged =
        ap not (each_same 64 (λ n. lane n w) (lane_accepts g (seen ++ (c ∷ []))) output-lane)
        ∙ lanes g (seen ++ (c ∷ [])) fits.constants

    pub verdict : verdict_byte w ≡ cond (is_rejected g (seen ++ (c ∷ []))) 1 0
    unfolding verdict_byte
    verdict = ap (λ (b : Bool). cond b 1 0) judged

-- ---- the second word
-- it is 0 where there is one output
word_of-one : (net cycle latches : List ℕ) → output_count net ≡ 1 → Rattle.calls.specs.Tallies.is_checked (word_checked net cycle latches) ≡ false
unfolding word_checked Rattle.calls.specs.Tallies.is_checked
word_of-one net cycle latches e = rw e (ap not (each_all (λ n. not (lane n 0)) 64 (λ n l. ap not (lane-zero n))))

-- it is high in some lane just where the paths say that a rule is at stake
at_stake : (g : Graph) (fits : Fits g) (surplus : List ℕ) (seen : List Cycle) (c : Cycle) (latches : List ℕ) (t : Tally)
    → length c ≡ input_count (numbers_with true g ++ surplus) → Right true g fits surplus seen latches t
    → Rattle.calls.specs.Tallies.is_checked (word_checked (numbers_with true g ++ surplus) c latches) ≡ is_checked g (seen ++ (c ∷ []))
unfolding word_checked Rattle.calls.specs.Tallies.is_checked lane_checks
at_stake g fits surplus seen c latches t whole r =
    ap (λ (o : ℕ). not (each 64 (λ n. not (lane n (cond (eqb o 2) (output_of words net 1 W) 0))))) (outputs-are g true surplus)
    ∙ ap not (each_same 64 (λ n. not (lane n (output_of words net 1 W))) (λ n. not (lane_checks g (seen ++ (c ∷ [])) n)) (λ n h. ap not (high n h)))
    ∙ lanes-checked g (seen ++ (c ∷ [])) fits.constants
  where
    net : List ℕ
    net = numbers_with true g ++ surplus

    W : List ℕ
    W = cycle_words net c latches

    high : (n : ℕ) → n < 64 → lane n (output_of words net 1 W) ≡ checking g g.edges (lane_tokens g (seen ++ (c ∷ [])) n)
    high n h =
        ((means net).lanes n h).output 1 W
        ∙ ap (output_of bools net 1) (values-lane true g fits surplus seen c latches t whole r n h)
        ∙ moves-checked g fits (lane_setting g n) (lane_tokens g seen n) c (setting-length g n) (tokens_length g seen n) (whole ∙ inputs_are g true surplus) surplus
        ∙ ap (checking g g.edges) (sym (tokens_more g seen c n))

third_more : (checked : Bool) (g : Graph) (fits : Fits g) (surplus : List ℕ) (seen : List Cycle) (c : Cycle) (latches : List ℕ) (t : Tally)
    → length c ≡ input_count (numbers_with checked g ++ surplus) → Right checked g fits surplus seen latches t
    → t.checked + cond (Rattle.calls.specs.Tallies.is_checked (word_checked (numbers_with checked g ++ surplus) c latches)) 1 0 ≡ cond checked (count_checked g (seen ++ (c ∷ []))) 0
third_more true g fits surplus seen c latches t whole r =
    omega (arith, r.checked-are, ap {B = ℕ} (λ (b : Bool). cond b 1 0) (at_stake g fits surplus seen c latches t whole r), checked-more g seen c)
third_more false g fits surplus seen c latches t whole r =
    omega (arith, r.checked-are, ap {B = ℕ} (λ (b : Bool). cond b 1 0) (word_of-one (numbers_with false g ++ surplus) c latches (outputs-are g false surplus)))

-- ---- a cycle more, and cycles one after another
module _ (checked : Bool) (g : Graph) (fits : Fits g) (surplus : List ℕ) where
  abbrev monitor : List ℕ
  monitor = numbers_with checked g ++ surplus

  pub one_more_lem : (seen : List Cycle) (c : Cycle) (latches : List ℕ) (t : Tally) → length c ≡ input_count monitor → Right checked g fits surplus seen latches t
      → Right checked g fits surplus (seen ++ (c ∷ [])) (latches_after monitor c latches) (counted t (output_word monitor c latches) (word_checked monitor c latches))
  unfolding counted verdict_byte
  one_more_lem seen c latches t whole r =
      record {
        lanes-are = next-lane checked g fits surplus seen c latches t whole r;
        cycles-are = omega (arith, r.cycles-are, length-append seen (c ∷ []));
        rejected-are = omega (arith, r.rejected-are, verdict checked g fits surplus seen c latches t whole r, rejected-more g seen c);
        checked-are = third_more checked g fits surplus seen c latches t whole r;
      }

  pub many : (cs seen : List Cycle) (r : Running) → Whole (input_count monitor) cs → Right checked g fits surplus seen r.latches r.tally
      → Right checked g fits surplus (seen ++ cs) (run_cycles monitor r cs).latches (run_cycles monitor r cs).tally × ((run_cycles monitor r cs).bytes ≡ r.bytes ++ verdicts g seen cs)
  unfolding run_cycles run_cycle
  many [] seen r l k = (rw append-nil k, sym (append-nil r.bytes))
  many (c ∷ cs) seen r l k =
      let m = many cs (seen ++ (c ∷ [])) (run_cycle monitor c r) l.1 (one_more_lem seen c r.latches r.tally l.0 k) in (
        subst (λ (z : List Cycle). Right checked g fits surplus z (run_cycles monitor (run_cycle monitor c r) cs).latches (run_cycles monitor (run_cycle monitor c r) cs).tally) (append_assoc seen (c ∷ []) cs) m.0,
        m.1
            ∙ append_assoc r.bytes (verdict_byte (output_word monitor c r.latches) ∷ []) (verdicts g (seen ++ (c ∷ [])) cs)
            ∙ ap (λ (b : ℕ). r.bytes ++ (b ∷ verdicts g (seen ++ (c ∷ [])) cs)) (verdict checked g fits surplus seen c r.latches r.tally l.0 k),
      )
