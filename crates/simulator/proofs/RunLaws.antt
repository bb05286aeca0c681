-- Laws of a run: the turn of the loop over the cycles, and what a run answers and leaves. Assumes nothing.
use Rattle.std.specs.Prelude.{Result, Ok, Err}
use mathlib.Core.Path.{◌≡◌, refl, sym, ap, ap₂, ◌∙◌}
use mathlib.Core.Bool.{true}
use mathlib.Core.List.{List, [], ◌∷◌, ◌++◌}
use Prim.Native.Nat.{ℕ, suc, ◌+◌, ◌-◌, ◌*◌, ◌/◌, ◌<◌, ◌≤◌, min}
use native.Mathlib.Nat.{add-mul, one-mul, mul-le-mul_right}
use native.Mathlib.Omega.{arith}
use lib.ListN.{length, set, take, drop, length-append, length-drop}
use lib.Seq.{drop-drop, length-take-le, take_at}
use Rattle.netlist.specs.Layout.{input_count}
use Rattle.calls.specs.declared.refusal.Cause.{Cause}
use Rattle.simulator.specs.declared.outcome.Verdict.{Verdict}
use Rattle.calls.specs.declared.tally.Tally.{Tally}
use Rattle.calls.specs.Tallies.{counted, has_room}
use Rattle.trace.specs.Traces.{line_count, cycles_from, cycles_of}
use Rattle.calls.specs.Refusals.{run_check}
use Rattle.simulator.specs.Step.{output_word, word_checked, latches_after, values_after}
use Rattle.simulator.specs.Run.{verdict_byte, verdict_of, Running, running, run_cycle, run_cycles, run_end, ran_to, run_as, run_of}
use Rattle.calls.proofs.TallyLaws.{room-one, room_next}
use Rattle.trace.proofs.TraceLaws.{lines_fit}
use Rattle.calls.proofs.RefusalLaws.{RunReady, run-passed}
use Rattle.simulator.proofs.CycleLaws.{grow}

-- ---- what a run answers and leaves
module _ (net trace latches values verdicts : List ℕ) (t : Tally) where
  pub run-refused : (c : Result Unit Cause) (cause : Cause) → c ≡ run_check net trace (length latches) (length values) (length verdicts) t → c ≡ Err cause
      → run_end (record { outcome = Err cause; tally = t }) latches values verdicts ≡ run_of net trace latches values verdicts t
  unfolding run_of run_as
  run-refused c cause is e = rw (← is, e)

  pub run_is : run_check net trace (length latches) (length values) (length verdicts) t ≡ Ok tt
      → run_of net trace latches values verdicts t ≡ ran_to (run_cycles net (running latches values [] t) (cycles_of (input_count net) trace)) verdicts
  unfolding run_of run_as
  run_is e = rw e

-- ---- a turn of the loop
-- the line at k is within the lines
line-within : (n count k len : ℕ) → k < count → count * (n + 1) ≤ len → k * (n + 1) + (n + 1) ≤ len
line-within n count k len h l =
    let e : (k + 1) * (n + 1) ≤ count * (n + 1) = mul-le-mul_right (n + 1) (omega arith) in
    let f : (k + 1) * (n + 1) ≡ k * (n + 1) + (n + 1) = rw (add-mul, one-mul) in
    omega arith

pub length_part : (s : List ℕ) (at n : ℕ) → at + n ≤ length s → length (take n (drop at s)) ≡ n
length_part s at n h = length-take-le n (drop at s) (rw (length-drop at s) (omega arith))

run-next : (net trace : List ℕ) (n count k at : ℕ) (r : Running) → k < count
    → run_cycles net r (cycles_from n (count - k) (drop at trace))
    ≡ run_cycles net (run_cycle net (take n (drop at trace)) r) (cycles_from n (count - (k + 1)) (drop (at + (n + 1)) trace))
unfolding run_cycles cycles_from
run-next net trace n count k at r h =
    let e : count - k ≡ suc (count - (k + 1)) = omega arith in
    ap (λ (m : ℕ). run_cycles net r (cycles_from n m (drop at trace))) e
    ∙ ap (λ (s : List ℕ). run_cycles net (run_cycle net (take n (drop at trace)) r) (cycles_from n (count - (k + 1)) s)) (drop-drop (n + 1) at trace)

run_none : (net trace : List ℕ) (n count k at : ℕ) (r : Running) → count ≤ k → run_cycles net r (cycles_from n (count - k) (drop at trace)) ≡ r
unfolding run_cycles cycles_from
run_none net trace n count k at r h =
    let e : count - k ≡ 0 = omega arith in
    ap (λ (m : ℕ). run_cycles net r (cycles_from n m (drop at trace))) e

cycle-ran : (net cycle latches values bytes : List ℕ) (t : Tally) (w d : ℕ) (ls vs : List ℕ) (b : ℕ) (t' : Tally)
    → w ≡ output_word net cycle latches → d ≡ word_checked net cycle latches → ls ≡ latches_after net cycle latches → vs ≡ values_after net cycle latches values
    → b ≡ verdict_byte w → t' ≡ counted t w d
    → running ls vs (bytes ++ (b ∷ [])) t' ≡ run_cycle net cycle (running latches values bytes t)
unfolding run_cycle
cycle-ran net cycle latches values bytes t w d ls vs b t' ew ed el ev eb et = rw (eb, et, ew, ed, el, ev)

module _ (net trace : List ℕ) (n count : ℕ) (latches₀ values₀ verdicts₀ : List ℕ) (t₀ : Tally) where
  -- the invariant: k bytes stand first in the verdict buffer, and what is still to run gives what the whole run gives
  pub record Going (latches values verdicts : List ℕ) (t : Tally) (at k : ℕ) : Type 0 where
    pub some : k ≤ count
    pub place : at ≡ k * (n + 1)
    pub latches-length : length latches ≡ length latches₀
    pub values_length : length values ≡ length values₀
    pub verdicts-length : length verdicts ≡ length verdicts₀
    pub room : has_room t (count - k) ≡ true
    pub bytes : List ℕ
    pub bytes-length : length bytes ≡ k
    pub written : verdicts ≡ bytes ++ drop k verdicts₀
    pub same : run_cycles net (running latches values bytes t) (cycles_from n (count - k) (drop at trace))
        ≡ run_cycles net (running latches₀ values₀ [] t₀) (cycles_from n count trace)

  -- what the loop asks: the run is not refused, with the netlist's inputs and the trace's lines
  pub record Asked : Type 0 where
    pub passed : run_check net trace (length latches₀) (length values₀) (length verdicts₀) t₀ ≡ Ok tt
    pub inputs : n ≡ input_count net
    pub lines : count ≡ length trace / (n + 1)

  pub asked : run_check net trace (length latches₀) (length values₀) (length verdicts₀) t₀ ≡ Ok tt → n ≡ input_count net → count ≡ length trace / (n + 1) → Asked
  asked e i l = record { passed = e; inputs = i; lines = l }

  counts : Asked → count ≡ line_count (input_count net) trace
  unfolding line_count
  counts a = a.lines ∙ ap (λ (i : ℕ). length trace / (i + 1)) a.inputs

  pub ready : Asked → RunReady net trace (length latches₀) (length values₀) (length verdicts₀) t₀
  ready a = run-passed net trace (length latches₀) (length values₀) (length verdicts₀) t₀ a.passed

  pub bytes_enough : Asked → count ≤ length verdicts₀
  bytes_enough a = rw (counts a) (ready a).verdicts

  lines-within : Asked → count * (n + 1) ≤ length trace
  lines-within a = rw (counts a, a.inputs) (lines_fit (input_count net) trace)

  pub going_start : Asked → Going latches₀ values₀ verdicts₀ t₀ 0 0
  going_start a =
      let all : count - 0 ≡ count = omega arith in
      record {
        some = omega arith;
        place = omega arith;
        latches-length = refl;
        values_length = refl;
        verdicts-length = refl;
        room = rw (all, counts a) (ready a).room;
        bytes = [];
        bytes-length = refl;
        written = refl;
        same = ap (λ (m : ℕ). run_cycles net (running latches₀ values₀ [] t₀) (cycles_from n m trace)) all;
      }

  module _ (latches values verdicts : List ℕ) (t : Tally) (at k : ℕ) (g : Going latches values verdicts t at k) where
    pub going_line : Asked → k < count → at + (n + 1) ≤ length trace
    going_line a h = rw g.place (line-within n count k (length trace) h (lines-within a))

    pub going_place : Asked → k < count → (p : ℕ) → p ≡ min (at + n + 1) (length trace) → p ≡ at + (n + 1)
    going_place a h p e =
        let l = going_line a h in
        omega arith

    pub going_room : k < count → has_room t 1 ≡ true
    going_room h =
        let e : count - k ≡ suc (count - (k + 1)) = omega arith in
        room-one t (count - (k + 1)) (rw e at g.room)

    pub going_next : Asked → k < count → (cycle : List ℕ) → cycle ≡ take n (drop at trace) → (w d : ℕ) (ls vs : List ℕ)
        → w ≡ output_word net cycle latches → d ≡ word_checked net cycle latches → ls ≡ latches_after net cycle latches → vs ≡ values_after net cycle latches values
        → length ls ≡ length latches → length vs ≡ length values → (b : ℕ) → b ≡ verdict_byte w → (t' : Tally) → t' ≡ counted t w d
        → Going ls vs (set verdicts k b) t' (at + (n + 1)) (k + 1)
    going_next a h cycle ec w d ls vs ew ed el ev ll lv b eb t' et =
        let e : count - k ≡ suc (count - (k + 1)) = omega arith in
        let enough = bytes_enough a in
        let grown : set verdicts k b ≡ (g.bytes ++ (b ∷ [])) ++ drop (k + 1) verdicts₀ =
        ap (λ (x : List ℕ). set x k b) g.written ∙ grow 0 g.bytes b verdicts₀ k g.bytes-length (omega arith) in
        let long : length (g.bytes ++ (b ∷ [])) ≡ k + 1 = length-append g.bytes (b ∷ []) ∙ ap (λ (m : ℕ). m + 1) g.bytes-length in
        record {
          some = omega arith;
          place = rw (add-mul, one-mul, g.place);
          latches-length = ll ∙ g.latches-length;
          values_length = lv ∙ g.values_length;
          verdicts-length = ap length grown ∙ length-append (g.bytes ++ (b ∷ [])) (drop (k + 1) verdicts₀) ∙ rw (long, length-drop) (omega arith);
          room = rw et (room_next t w d (count - (k + 1)) (rw e at g.room));
          bytes = g.bytes ++ (b ∷ []);
          bytes-length = long;
          written = grown;
          same =
              ap (λ (r : Running). run_cycles net r (cycles_from n (count - (k + 1)) (drop (at + (n + 1)) trace)))
              (cycle-ran net cycle latches values g.bytes t w d ls vs b t' ew ed el ev eb et
              ∙ ap (λ (x : List ℕ). run_cycle net x (running latches values g.bytes t)) ec)
              ∙ sym (run-next net trace n count k at (running latches values g.bytes t) h)
              ∙ g.same;
        }

    ended : count ≤ k → run_end (record { outcome = Ok (verdict_of (take count verdicts)); tally = t }) latches values verdicts ≡ ran_to (running latches values g.bytes t) verdicts₀
    unfolding ran_to
    ended h =
        let e : count ≡ k = omega (arith, g.some) in
        rw (e, g.written, take_at g.bytes (drop k verdicts₀) k g.bytes-length, g.bytes-length)

    pub going_done : Asked → count ≤ k → (v : Verdict) → v ≡ verdict_of (take count verdicts)
        → run_end (record { outcome = Ok v; tally = t }) latches values verdicts ≡ run_of net trace latches₀ values₀ verdicts₀ t₀
    unfolding cycles_of
    going_done a h v ev =
        ap (λ (x : Verdict). run_end (record { outcome = Ok x; tally = t }) latches values verdicts) ev
        ∙ ended h
        ∙ ap (λ (r : Running). ran_to r verdicts₀) (sym (run_none net trace n count k at (running latches values g.bytes t) h) ∙ g.same
        ∙ ap₂ (λ (i m : ℕ). run_cycles net (running latches₀ values₀ [] t₀) (cycles_from i m trace)) a.inputs (counts a))
        ∙ sym (run_is net trace latches₀ values₀ verdicts₀ t₀ a.passed)
