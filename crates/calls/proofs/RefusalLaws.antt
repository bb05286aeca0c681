-- Laws of the tests before a call: what holds where they all pass, and where a call is refused for its trace or its tally. Assumes nothing.
use Rattle.std.specs.Prelude.{Result, Ok, Err}
use mathlib.Core.Path.{◌≡◌, refl, sym, ap, ◌∙◌}
use mathlib.Core.Bool.{Bool, true, false, cond, not, ◌&&◌, true≢false}
use mathlib.Core.List.{List}
use Prim.Native.Nat.{ℕ, suc, ◌+◌, ◌<◌, ◌≤◌}
use native.Mathlib.Omega.{arith}
use lib.Dec.{leb, eqb}
use lib.ListN.{length}
use borrow.Author.Tests.{eqb-true, eqb-false, leb-true, le-leb}
use Rattle.netlist.specs.Layout.{maximum, input_count, latch_count}
use Rattle.netlist.specs.Valid.{is_netlist}
use Rattle.netlist.proofs.EachLaws.{both}
use Rattle.calls.specs.declared.refusal.Cause.{Cause}
use Rattle.calls.specs.declared.refusal.Cause.TheVariants.{TraceTooLong, ShortBuffer, WrongLine, NotNetlist, FullTally}
use Rattle.calls.specs.declared.tally.Tally.{Tally}
use Rattle.calls.specs.Tallies.{has_room}
use Rattle.trace.specs.Traces.{is_cycle, fault_of, line_count}
use Rattle.calls.specs.Refusals.{refusal_of, is_short, has_latches, has_values, start_check, step_check, run_check}

-- what a call answers that is not refused
abbrev passes : Result Unit Cause
passes = Ok tt

-- a test that passed, and those that follow it
first : (a : Bool) (cause : Cause) (c : Result Unit Cause) → cond (not a) (Err cause) c ≡ Ok tt → (a ≡ true) × (c ≡ Ok tt)
first true cause c e = (refl, e)
first false cause c e = let z : ◌≡◌ {A = ℕ} 0 1 = cc in absurd (omega arith)

module _ (net : List ℕ) where
  latches_enough : (nl : ℕ) → has_latches net nl ≡ true → latch_count net ≤ nl
  unfolding has_latches
  latches_enough nl e = leb-true (latch_count net) nl e

  values_enough : (nv : ℕ) → has_values net nv ≡ true → maximum net + 1 ≤ nv
  unfolding has_values
  values_enough nv e = leb-true (maximum net + 1) nv e

-- ---- start
pub record StartReady (net : List ℕ) (nl : ℕ) : Type 0 where
  pub netlist : is_netlist net ≡ true
  pub latches : latch_count net ≤ nl

pub start-passed : (net : List ℕ) (nl : ℕ) (c : Result Unit Cause) → c ≡ start_check net nl → c ≡ Ok tt → StartReady net nl
unfolding start_check
start-passed net nl c is e =
    let a = first (is_netlist net) NotNetlist _ (sym is ∙ e) in
    let b = first (has_latches net nl) ShortBuffer _ a.1 in
    record { netlist = a.0; latches = latches_enough net nl b.0 }

-- ---- step
pub record StepReady (net cycle : List ℕ) (nl nv : ℕ) (t : Tally) : Type 0 where
  pub netlist : is_netlist net ≡ true
  pub bits : is_cycle (input_count net) cycle ≡ true
  pub latches : latch_count net ≤ nl
  pub values : maximum net + 1 ≤ nv
  pub room : has_room t 1 ≡ true

module _ (net cycle : List ℕ) (nl nv : ℕ) (t : Tally) where
  pub step_passed : (c : Result Unit Cause) → c ≡ step_check net cycle nl nv t → c ≡ Ok tt → StepReady net cycle nl nv t
  unfolding step_check
  step_passed tested is e =
      let a = first (is_netlist net) NotNetlist _ (sym is ∙ e) in
      let b = first (is_cycle (input_count net) cycle) (WrongLine 1) _ a.1 in
      let c = first (has_latches net nl && has_values net nv) ShortBuffer _ b.1 in
      let d = first (has_room t 1) FullTally _ c.1 in
      let f = both (has_latches net nl) (has_values net nv) c.0 in
      record { netlist = a.0; bits = b.0; latches = latches_enough net nl f.0; values = values_enough net nv f.1; room = d.0 }

  pub step_passes : StepReady net cycle nl nv t → step_check net cycle nl nv t ≡ Ok tt
  unfolding step_check has_latches has_values
  step_passes r = rw (r.netlist, r.bits, le-leb _ _ r.latches, le-leb _ _ r.values, r.room)

-- ---- run
-- the verdict bytes are tested behind the latch words and the value words
pub words-short : (a b x : Bool) → (a && b) ≡ false → (a && (b && x)) ≡ false
words-short true true x e = absurd (true≢false e)
words-short true false x e = refl
words-short false b x e = refl

pub words_enough : (a b x : Bool) → (a && b) ≡ true → (a && (b && x)) ≡ x
words_enough true true x e = refl
words_enough true false x e = absurd (true≢false (sym e))
words_enough false b x e = absurd (true≢false (sym e))

pub record RunReady (net trace : List ℕ) (nl nv nb : ℕ) (t : Tally) : Type 0 where
  pub short : length trace ≤ 1048576
  pub netlist : is_netlist net ≡ true
  pub faultless : fault_of (input_count net) trace ≡ 0
  pub latches : latch_count net ≤ nl
  pub values : maximum net + 1 ≤ nv
  pub verdicts : line_count (input_count net) trace ≤ nb
  pub room : has_room t (line_count (input_count net) trace) ≡ true

module _ (net trace : List ℕ) (nl nv nb : ℕ) (t : Tally) where
  pub run-passed : run_check net trace nl nv nb t ≡ Ok tt → RunReady net trace nl nv nb t
  unfolding run_check is_short
  run-passed e =
      let fault = fault_of (input_count net) trace in
      let lines = line_count (input_count net) trace in
      let a = first (leb (length trace) 1048576) TraceTooLong _ e in
      let b = first (is_netlist net) NotNetlist _ a.1 in
      let c = first (eqb fault 0) (WrongLine fault) _ b.1 in
      let d = first (has_latches net nl && (has_values net nv && leb lines nb)) ShortBuffer _ c.1 in
      let f = first (has_room t lines) FullTally _ d.1 in
      let g = both (has_latches net nl) (has_values net nv && leb lines nb) d.0 in
      let h = both (has_values net nv) (leb lines nb) g.1 in
      record {
        short = leb-true (length trace) 1048576 a.0;
        netlist = b.0;
        faultless = eqb-true fault 0 c.0;
        latches = latches_enough net nl g.0;
        values = values_enough net nv h.0;
        verdicts = leb-true lines nb h.1;
        room = f.0;
      }

-- ---- a run refused for its trace
-- one past the line that is told, 0 where none is
unfoldable line_in : Cause → ℕ
line_in TraceTooLong = 0
line_in ShortBuffer = 0
line_in (WrongLine k) = suc k
line_in NotNetlist = 0
line_in FullTally = 0

unfoldable told_by : Result Unit Cause → ℕ
told_by (Ok tt) = 0
told_by (Err cause) = line_in cause

-- behind the tests before it, and before those behind it
line-told : (a b d g : Bool) (f k : ℕ)
    → cond (not a) (Err TraceTooLong) (cond (not b) (Err NotNetlist) (cond (not (eqb f 0)) (Err (WrongLine f)) (cond (not d) (Err ShortBuffer) (cond (not g) (Err FullTally) passes)))) ≡ Err (WrongLine k)
    → (f ≡ k) × (0 < k)
unfolding line_in told_by
line-told false b d g f k e = absurd (omega (arith, ap told_by e))
line-told true false d g f k e = absurd (omega (arith, ap told_by e))
line-told true true d g f k e = go (eqb f 0) refl d g e
  where
    go : (c : Bool) → eqb f 0 ≡ c → (d g : Bool) → cond (not c) (Err (WrongLine f)) (cond (not d) (Err ShortBuffer) (cond (not g) (Err FullTally) passes)) ≡ Err (WrongLine k) → (f ≡ k) × (0 < k)
    go false c d g e =
        let s : suc f ≡ suc k = ap told_by e in
        let z = eqb-false f 0 c in
        let m : f ≡ k = omega arith in
        (m, omega arith)
    go true c false g e = absurd (omega (arith, ap told_by e))
    go true c true false e = absurd (omega (arith, ap told_by e))
    go true c true true e = absurd (omega (arith, ap told_by e))

module _ (net trace : List ℕ) (nl nv nb : ℕ) (t : Tally) where
  -- the line of a refusal is the first wrong one
  pub run-wrong-line : (k : ℕ) → run_check net trace nl nv nb t ≡ Err (WrongLine k) → (fault_of (input_count net) trace ≡ k) × (0 < k)
  unfolding run_check
  run-wrong-line k e =
      let lines = line_count (input_count net) trace in
      line-told (is_short trace) (is_netlist net) (has_latches net nl && (has_values net nv && leb lines nb)) (has_room t lines) (fault_of (input_count net) trace) k e

-- ---- a call refused for its tally
-- a refusal with 17 is not from a test with another number
later : (a : Bool) (cause : Cause) (c : Result Unit Cause) → eqb (refusal_of cause).number 17 ≡ false → cond (not a) (Err cause) c ≡ Err FullTally → c ≡ Err FullTally
unfolding refusal_of
later true cause c n e = e
later false cause c n e =
    let s : cause ≡ FullTally = cc in
    absurd (true≢false (sym (ap (λ (x : Cause). eqb (refusal_of x).number 17) s) ∙ n))

last : (a : Bool) → cond (not a) (Err FullTally) passes ≡ Err FullTally → a ≡ false
last true e = let z : ◌≡◌ {A = ℕ} 0 1 = cc in absurd (omega arith)
last false e = refl

pub step_full : (net cycle : List ℕ) (nl nv : ℕ) (t : Tally) → step_check net cycle nl nv t ≡ Err FullTally → has_room t 1 ≡ false
unfolding step_check refusal_of
step_full net cycle nl nv t e =
    let a = later (is_netlist net) NotNetlist _ refl e in
    let b = later (is_cycle (input_count net) cycle) (WrongLine 1) _ refl a in
    let c = later (has_latches net nl && has_values net nv) ShortBuffer _ refl b in
    last (has_room t 1) c

pub run-full : (net trace : List ℕ) (nl nv nb : ℕ) (t : Tally) → run_check net trace nl nv nb t ≡ Err FullTally → has_room t (line_count (input_count net) trace) ≡ false
unfolding run_check refusal_of
run-full net trace nl nv nb t e =
    let fault = fault_of (input_count net) trace in
    let lines = line_count (input_count net) trace in
    let a = later (is_short trace) TraceTooLong _ refl e in
    let b = later (is_netlist net) NotNetlist _ refl a in
    let c = later (eqb fault 0) (WrongLine fault) _ refl b in
    let d = later (has_latches net nl && (has_values net nv && leb lines nb)) ShortBuffer _ refl c in
    last (has_room t lines) d
