-- Laws of a step: what it answers and leaves, what each lane of it shows, and what it adds to the tally. Assumes nothing.
use Rattle.std.specs.Prelude.{Result, Ok, Err}
use mathlib.Core.Path.{◌≡◌, refl, sym, ap, ◌∙◌}
use mathlib.Core.Bool.{Bool, true≢false}
use mathlib.Core.List.{List, map}
use Prim.Native.Nat.{ℕ, ◌+◌, ◌<◌}
use native.Mathlib.Omega.{arith}
use lib.ListN.{length, get_or, take, drop, length-map, get_or-append}
use lib.Seq.{take_at, drop_at, length-take-le}
use Rattle.netlist.specs.Layout.{maximum, input_count, latch_count, output_count, next_at, output_at}
use Rattle.netlist.specs.Lanes.{lane}
use Rattle.netlist.specs.Meaning.{bools, words, bit_of, lit_of, values_of, nexts_of, next_of, output_of}
use Rattle.netlist.proofs.LaneLaws.{lane-zero}
use Rattle.netlist.proofs.ValidLaws.{valid}
use Rattle.netlist.proofs.MeaningLaws.{length_nexts, nexts_at, lane_hom, lit_hom, lane-inputs}
use Rattle.netlist.proofs.AigerLaws.{means}
use Rattle.calls.specs.declared.refusal.Cause.{Cause}
use Rattle.calls.specs.declared.refusal.Cause.TheVariants.{FullTally}
use Rattle.calls.specs.declared.tally.Tally.{Tally}
use Rattle.calls.specs.Tallies.{counted}
use Rattle.calls.specs.Refusals.{step_check}
use Rattle.simulator.specs.Step.{cycle_words, output_word, word_checked, latches_after, values_after, StepEnd, step_end, step_as, step_of}
use Rattle.simulator.specs.Claims.{LaneOfStep, StepMeans, StepCounts}
use Rattle.trace.proofs.TraceLaws.{cycle-length}
use Rattle.calls.proofs.TallyLaws.{room_fits, fits-room, cycle-more}
use Rattle.calls.proofs.RefusalLaws.{StepReady, step_passed, step_full}
use Rattle.calls.proofs.ClaimLaws.{step_tested}
use Rattle.simulator.proofs.CycleLaws.{length-words}

-- steps that answer the same answer the same words
pub same_words : {a b x y : ℕ} → ◌≡◌ {A = Result (ℕ × ℕ) Cause} (Ok (a, b)) (Ok (x, y)) → (a ≡ x) × (b ≡ y)
same_words {a} {b} {x} {y} e =
    let p : ◌≡◌ {A = ℕ × ℕ} (a, b) (x, y) = cc in
    (ap (λ (q : ℕ × ℕ). q.0) p, ap (λ (q : ℕ × ℕ). q.1) p)

module _ (net cycle latches values : List ℕ) (t : Tally) where
  -- ---- what a step answers and leaves
  pub step_refused : (c : Result Unit Cause) (cause : Cause) → c ≡ step_check net cycle (length latches) (length values) t → c ≡ Err cause
      → step_end (record { outcome = Err cause; tally = t }) latches values ≡ step_of net cycle latches values t
  unfolding step_of step_as
  step_refused c cause is e = rw (← is, e)

  pub step_is : step_check net cycle (length latches) (length values) t ≡ Ok tt
      → step_end (record { outcome = Ok ((output_word net cycle latches), (word_checked net cycle latches)); tally = counted t (output_word net cycle latches) (word_checked net cycle latches) })
      (latches_after net cycle latches) (values_after net cycle latches values)
      ≡ step_of net cycle latches values t
  unfolding step_of step_as
  step_is e = rw e

  pub step_done : (c : Result Unit Cause) → c ≡ step_check net cycle (length latches) (length values) t → c ≡ Ok tt → (w d : ℕ) (ls vs : List ℕ) (t' : Tally)
      → w ≡ output_word net cycle latches → d ≡ word_checked net cycle latches → ls ≡ latches_after net cycle latches → vs ≡ values_after net cycle latches values → t' ≡ counted t w d
      → step_end (record { outcome = Ok (w, d); tally = t' }) ls vs ≡ step_of net cycle latches values t
  step_done c is e w d ls vs t' ew ed el ev et = rw (et, ew, ed, el, ev) (step_is (sym is ∙ e))

  -- ---- lane n of a step that is not refused
  module _ (r : StepReady net cycle (length latches) (length values) t) (n : ℕ) (h : n < 64) where
    abbrev W : List ℕ
    W = cycle_words net cycle latches

    abbrev ins : List Bool
    ins = map (bit_of bools) cycle

    abbrev held : List Bool
    held = map (lane n) (take (latch_count net) latches)

    words-length : length W ≡ maximum net + 1
    words-length = length-words net cycle latches (valid net r.netlist) (cycle-length (input_count net) cycle r.bits) r.latches

    front-words : take (maximum net + 1) (values_after net cycle latches values) ≡ W
    unfolding values_after
    front-words = take_at W (drop (maximum net + 1) values) (maximum net + 1) words-length

    lane-words : map (lane n) W ≡ values_of bools net ins held
    unfolding cycle_words
    lane-words =
        ((means net).lanes n h).values (map (bit_of words) cycle) (take (latch_count net) latches)
        ∙ ap (λ (x : List Bool). values_of bools net x held) (lane-inputs n h cycle)

    lane-front : map (lane n) (take (maximum net + 1) (values_after net cycle latches values)) ≡ values_of bools net ins held
    lane-front = ap (map (lane n)) front-words ∙ lane-words

    lane-next : (k : ℕ) → k < latch_count net → lane n (get_or (latches_after net cycle latches) k 0) ≡ lit_of bools (map (lane n) W) (get_or net (next_at k) 0)
    unfolding latches_after next_of
    lane-next k l =
        ap (lane n) (get_or-append (nexts_of words net (latch_count net) W) (drop (latch_count net) latches) 0 k (rw (length_nexts words net (latch_count net) W) l) ∙ nexts_at words net (latch_count net) W 0 k l)
        ∙ lit_hom words bools (lane n) (lane_hom n h) W (get_or net (next_at k) 0)

    lane-output : lane n (output_word net cycle latches) ≡ lit_of bools (map (lane n) W) (get_or net (output_at net 0) 0)
    unfolding output_word output_of
    lane-output = lit_hom words bools (lane n) (lane_hom n h) W (get_or net (output_at net 0) 0)

    lane-checked : output_count net ≡ 2 → lane n (word_checked net cycle latches) ≡ lit_of bools (map (lane n) W) (get_or net (output_at net 1) 0)
    unfolding word_checked output_of
    lane-checked o = rw o (lit_hom words bools (lane n) (lane_hom n h) W (get_or net (output_at net 1) 0))

    shown : (e : StepEnd) → e.answer.outcome ≡ Ok ((output_word net cycle latches), (word_checked net cycle latches)) → e.latches ≡ latches_after net cycle latches → e.values ≡ values_after net cycle latches values → LaneOfStep n net cycle latches e
    shown e eo el ev =
        let one = (means net).aiger r.netlist ins held (length-map cycle (bit_of bools) ∙ cycle-length (input_count net) cycle r.bits) (length-map (take (latch_count net) latches) (lane n) ∙ length-take-le (latch_count net) latches r.latches) in
        let same : map (lane n) (take (maximum net + 1) e.values) ≡ values_of bools net ins held = ap (λ (x : List ℕ). map (lane n) (take (maximum net + 1) x)) ev ∙ lane-front in
        let front : map (lane n) (take (maximum net + 1) e.values) ≡ map (lane n) W = same ∙ sym lane-words in
        record {
          values = rw same one.satisfies;
          only = λ v s. one.only v s ∙ sym same;
          next = λ k l. ap (λ (x : List ℕ). lane n (get_or x k 0)) el ∙ lane-next k l ∙ ap (λ (x : List Bool). lit_of bools x (get_or net (next_at k) 0)) (sym front);
          word = output_word net cycle latches;
          second = word_checked net cycle latches;
          answered = eo;
          output = lane-output ∙ ap (λ (x : List Bool). lit_of bools x (get_or net (output_at net 0) 0)) (sym front);
          checked = λ o. lane-checked o ∙ ap (λ (x : List Bool). lit_of bools x (get_or net (output_at net 1) 0)) (sym front);
        }

  -- in every lane a step is the one valuation that AIGER's equations allow, and the latches and the outputs follow from it
  pub step_means : StepMeans net cycle latches values t
  step_means e n h =
      let s = step_is e in
      shown (step_passed net cycle (length latches) (length values) t (step_check net cycle (length latches) (length values) t) refl e) n h (step_of net cycle latches values t)
      (sym (ap (λ (x : StepEnd). x.answer.outcome) s)) (sym (ap (λ (x : StepEnd). x.latches) s)) (sym (ap (λ (x : StepEnd). x.values) s))

  -- ---- the tally
  none : output_count net ≡ 1 → word_checked net cycle latches ≡ 0
  unfolding word_checked
  none o = rw o

  -- what stands behind the latches and the values
  behind : StepReady net cycle (length latches) (length values) t
      → (drop (latch_count net) (latches_after net cycle latches) ≡ drop (latch_count net) latches)
      × (drop (maximum net + 1) (values_after net cycle latches values) ≡ drop (maximum net + 1) values)
  unfolding latches_after values_after next_of
  behind r = (
    drop_at (nexts_of words net (latch_count net) (cycle_words net cycle latches)) (drop (latch_count net) latches) (latch_count net) (length_nexts words net (latch_count net) (cycle_words net cycle latches)),
    drop_at (cycle_words net cycle latches) (drop (maximum net + 1) values) (maximum net + 1)
        (length-words net cycle latches (valid net r.netlist) (cycle-length (input_count net) cycle r.bits) r.latches),
  )

  counts_as : (k : Result Unit Cause) → step_check net cycle (length latches) (length values) t ≡ k → StepCounts net cycle latches values t (step_as k net cycle latches values t)
  unfolding step_as
  counts_as (Ok tt) is =
      let ow = output_word net cycle latches in
      let cw = word_checked net cycle latches in
      let more = cycle-more t ow cw in
      record {
        counts = λ w c e. let q = same_words e in rw (← q.0, ← q.1) more;
        one-output = λ w c e o. let q = same_words e in (sym q.1 ∙ none o, more.unchecked (λ n l. ap (lane n) (none o) ∙ lane-zero n));
        guarded = λ w c e. room_fits t 1 (step_passed net cycle (length latches) (length values) t _ (sym is) refl).room;
        surplus = λ w c e. behind (step_passed net cycle (length latches) (length values) t _ (sym is) refl);
        passed = λ w c e. is;
        full = λ e. let z : ◌≡◌ {A = ℕ} 0 1 = cc in absurd (omega arith);
        tests = step_tested _ _ net cycle (length latches) (length values) t (λ _. (ow, cw, refl)) (λ cause e. let z : ◌≡◌ {A = ℕ} 0 1 = cc in absurd (omega arith));
        kept = λ cause e. let z : ◌≡◌ {A = ℕ} 0 1 = cc in absurd (omega arith);
      }
  counts_as (Err cause) is =
      record {
        counts = λ w c e. let z : ◌≡◌ {A = ℕ} 0 1 = cc in absurd (omega arith);
        one-output = λ w c e. let z : ◌≡◌ {A = ℕ} 0 1 = cc in absurd (omega arith);
        surplus = λ w c e. let z : ◌≡◌ {A = ℕ} 0 1 = cc in absurd (omega arith);
        passed = λ w c e. let z : ◌≡◌ {A = ℕ} 0 1 = cc in absurd (omega arith);
        guarded = λ w c e. let z : ◌≡◌ {A = ℕ} 0 1 = cc in absurd (omega arith);
        full = λ e f.
            let k : cause ≡ FullTally = cc in
            true≢false (sym (fits-room t 1 f) ∙ step_full net cycle (length latches) (length values) t (is ∙ ap Err k));
        tests = step_tested _ _ net cycle (length latches) (length values) t (λ e. let z : ◌≡◌ {A = ℕ} 0 1 = cc in absurd (omega arith)) (λ told e. let k : cause ≡ told = cc in (ap Err k, refl));
        kept = λ told e. let k : cause ≡ told = cc in rw k refl;
      }

  -- of an end that is what the definition gives
  pub step_counts : (end : StepEnd) → end ≡ step_of net cycle latches values t → StepCounts net cycle latches values t end
  unfolding step_of
  step_counts end e = rw e (counts_as (step_check net cycle (length latches) (length values) t) refl)
