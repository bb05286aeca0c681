-- What the check answers at each of its tests, and what that means. Assumes nothing.
use Rattle.std.specs.Prelude.{Result, Ok, Err}
use mathlib.Core.Path.{◌≡◌, refl, sym, ◌∙◌}
use mathlib.Core.Bool.{Bool, true, false, cond, not, ◌&&◌, and-false, true≢false}
use mathlib.Core.Logic.{inl, inr}
use mathlib.Core.List.{List}
use Prim.Native.Nat.{ℕ, zero, suc, ◌+◌, ◌<◌, ◌≤◌}
use native.Mathlib.Nat.{le_trans, le_of_eq, div-le_self}
use native.Mathlib.Omega.{arith}
use lib.Dec.{eqb, leb}
use lib.ListN.{length}
use borrow.Author.Tests.{eqb-true, leb-true, eq-eqb, ne_eqb, le-leb, lt-leb}
use Rattle.text.proofs.NumberLaws.{and_both}
use Rattle.trace.specs.Traces.{fault_of, line_count, cycles_of}
use Rattle.trace.specs.Verdicts.{all_bits}
use Rattle.trace.proofs.TraceLaws.{length-cycles}
use Rattle.trace.proofs.VerdictLaws.{bits, bits_of_all}
use Rattle.trace.proofs.LineLaws.{trace-means}
use Rattle.first_broken.specs.declared.refusal.Cause.{Cause}
use Rattle.first_broken.specs.declared.refusal.Cause.TheVariants.{TraceTooLong, WrongWidth, FlywheelLine, HandleLine, WrongVerdicts}
use Rattle.first_broken.specs.Refusals.{Measurement, refusal_of, is_short, is_width, are_verdicts, is_judged, check_of}
use Rattle.first_broken.specs.Claims.{Short, Sized, IsTrace, Judged, CheckMeans, RefusedFor}
use Rattle.first_broken.specs.Claims.CheckMeans.{too_long, wrong-width, flywheel_line, handle_line, wrong-verdicts, fine}

-- ---- verdict bytes
module _ (width : ℕ) (m : Measurement) where
  pub judged : is_judged width m ≡ true → Judged (cycles_of width m.trace) m.verdicts
  unfolding is_judged are_verdicts
  judged e =
      let lines = line_count width m.trace in
      let t = and_both (eqb (length m.verdicts) lines) (all_bits m.verdicts) e in
      record { count = eqb-true (length m.verdicts) lines t.0 ∙ sym (length-cycles width m.trace); bits = bits m.verdicts t.1 }

  pub is_judged_lem : Judged (cycles_of width m.trace) m.verdicts → is_judged width m ≡ true
  unfolding is_judged are_verdicts
  is_judged_lem j = rw (eq-eqb (length m.verdicts) (line_count width m.trace) (j.count ∙ length-cycles width m.trace), bits_of_all m.verdicts j.bits)

-- a trace without a wrong line is its cycles
pub is-trace : (width : ℕ) (trace : List ℕ) → fault_of width trace ≡ 0 → IsTrace width trace (cycles_of width trace)
is-trace width trace e = let w = (trace-means width trace).whole e in record { lines = w.0; right = w.1 }

-- ---- each test: the answer is what the definition gives, and what it means
abbrev pub Answered : ℕ → Measurement → Measurement → Result Unit Cause → Type 0
Answered width f h answer = (answer ≡ check_of width f h) × CheckMeans width f h (RefusedFor answer) (answer ≡ Ok tt)

module _ (width : ℕ) (f h : Measurement) where
  pub flywheel_long : 1048576 < length f.trace → Answered width f h (Err TraceTooLong)
  unfolding check_of is_short refusal_of
  flywheel_long l = (rw (lt-leb (length f.trace) 1048576 l), too_long (refl, refl) (inl l))

  pub handle_long : 1048576 < length h.trace → Answered width f h (Err TraceTooLong)
  unfolding check_of is_short refusal_of
  handle_long l = (rw (lt-leb (length h.trace) 1048576 l, and-false (leb (length f.trace) 1048576)), too_long (refl, refl) (inr l))

  module _ (s : Short f h) where
    pub no_width : width ≡ 0 → Answered width f h (Err WrongWidth)
    unfolding check_of is_short is_width refusal_of
    no_width e =
        (rw (le-leb _ _ s.flywheel_short, le-leb _ _ s.handle_short, lt-leb 1 width (omega arith)), wrong-width (refl, refl) s (inl e))

    pub too_wide : 64 < width → Answered width f h (Err WrongWidth)
    unfolding check_of is_short is_width refusal_of
    too_wide l =
        (rw (le-leb _ _ s.flywheel_short, le-leb _ _ s.handle_short, lt-leb width 64 l, and-false (leb 1 width)), wrong-width (refl, refl) s (inr l))

  module _ (s : Sized width f h) where
    -- past the sizes, the lines decide
    sized : check_of width f h
        ≡ cond (not (eqb (fault_of width f.trace) 0)) (Err (FlywheelLine (fault_of width f.trace)))
        (cond (not (eqb (fault_of width h.trace) 0)) (Err (HandleLine (fault_of width h.trace)))
        (cond (not (is_judged width f && is_judged width h)) (Err WrongVerdicts) (Ok tt)))
    unfolding check_of is_short is_width
    sized = rw (le-leb _ _ s.short.flywheel_short, le-leb _ _ s.short.handle_short, le-leb 1 width s.some, le-leb width 64 s.most)

    pub flywheel_wrong : (k : ℕ) → k ≡ fault_of width f.trace → (k ≡ 0 → ⊥) → Answered width f h (Err (FlywheelLine k))
    unfolding refusal_of
    flywheel_wrong zero e w = absurd (w refl)
    flywheel_wrong (suc k) e w =
        (rw (sized, ← e, ne_eqb (suc k) 0 w), flywheel_line k (refl, refl) s ((trace-means width f.trace).first k (sym e)))

    module _ (none : fault_of width f.trace ≡ 0) where
      pub handle_wrong : (k : ℕ) → k ≡ fault_of width h.trace → (k ≡ 0 → ⊥) → Answered width f h (Err (HandleLine k))
      unfolding refusal_of
      handle_wrong zero e w = absurd (w refl)
      handle_wrong (suc k) e w =
          (rw (sized, none, ← e, ne_eqb (suc k) 0 w), handle_line k _ (refl, refl) s (is-trace width f.trace none) ((trace-means width h.trace).first k (sym e)))

      module _ (none' : fault_of width h.trace ≡ 0) where
        verdicts-wrong : (is_judged width f && is_judged width h) ≡ false → Answered width f h (Err WrongVerdicts)
        unfolding refusal_of
        verdicts-wrong e =
            (rw (sized, none, none', e), wrong-verdicts _ _ (refl, refl) s (is-trace width f.trace none) (is-trace width h.trace none') other)
          where
            other : Judged (cycles_of width f.trace) f.verdicts → Judged (cycles_of width h.trace) h.verdicts → ⊥
            other a b = true≢false (rw (is_judged_lem width f a, is_judged_lem width h b) at e)

        pub flywheel_unjudged : is_judged width f ≡ false → Answered width f h (Err WrongVerdicts)
        flywheel_unjudged e = verdicts-wrong (rw e)

        pub handle_unjudged : is_judged width h ≡ false → Answered width f h (Err WrongVerdicts)
        handle_unjudged e = verdicts-wrong (rw (e, and-false (is_judged width f)))

        pub nothing-wrong : is_judged width f ≡ true → is_judged width h ≡ true → Answered width f h (Ok tt)
        nothing-wrong a b =
            (rw (sized, none, none', a, b), fine _ _ refl s (is-trace width f.trace none) (is-trace width h.trace none') (judged width f a) (judged width h b))

-- ---- what a session has that is refused nothing
-- each of its measurements
pub record Whole (width : ℕ) (m : Measurement) : Type 0 where
  pub short : length m.trace ≤ 1048576
  pub faultless : fault_of width m.trace ≡ 0
  pub verdicts : Judged (cycles_of width m.trace) m.verdicts

pub record Ready (width : ℕ) (f h : Measurement) : Type 0 where
  pub most : width ≤ 64
  pub flywheel : Whole width f
  pub handle : Whole width h

-- a test that passed, and those that follow it
passed : (a : Bool) (cause : Cause) (c : Result Unit Cause) → cond (not a) (Err cause) c ≡ Ok tt → (a ≡ true) × (c ≡ Ok tt)
passed true cause c e = (refl, e)
passed false cause c e = let z : ◌≡◌ {A = ℕ} 0 1 = cc in absurd (omega arith)

pub ready : (width : ℕ) (f h : Measurement) → check_of width f h ≡ Ok tt → Ready width f h
unfolding check_of is_short is_width
ready width f h e =
    let first = fault_of width f.trace in
    let second = fault_of width h.trace in
    let a = passed (is_short f.trace && is_short h.trace) TraceTooLong _ e in
    let b = passed (is_width width) WrongWidth _ a.1 in
    let c = passed (eqb first 0) (FlywheelLine first) _ b.1 in
    let d = passed (eqb second 0) (HandleLine second) _ c.1 in
    let v = passed (is_judged width f && is_judged width h) WrongVerdicts _ d.1 in
    let short = and_both (leb (length f.trace) 1048576) (leb (length h.trace) 1048576) a.0 in
    let wide = and_both (leb 1 width) (leb width 64) b.0 in
    let judges = and_both (is_judged width f) (is_judged width h) v.0 in
    record {
      most = leb-true width 64 wide.1;
      flywheel = record { short = leb-true _ _ short.0; faultless = eqb-true first 0 c.0; verdicts = judged width f judges.0 };
      handle = record { short = leb-true _ _ short.1; faultless = eqb-true second 0 d.0; verdicts = judged width h judges.1 };
    }

-- there are no more verdict bytes than bytes of the trace
pub few : (width : ℕ) (m : Measurement) → Whole width m → length m.verdicts ≤ 1048576
unfolding line_count
few width m w =
    let e = w.verdicts.count ∙ length-cycles width m.trace in
    le_trans (le_of_eq e) (le_trans (div-le_self (length m.trace) (width + 1)) w.short)
