-- The verdict of a run is rejected exactly if some cycle has the byte 1. Assumes nothing.
use Rattle.std.specs.Prelude.{Ok}
use mathlib.Core.Path.{◌≡◌, refl, sym, ap, subst, ◌∙◌}
use mathlib.Core.Bool.{Bool, true, false, cond}
use mathlib.Core.Logic.{◌⊎◌, inl, inr, ⊎_elim}
use mathlib.Core.List.{List, [], ◌∷◌, map}
use Prim.Native.Nat.{ℕ, zero, suc, ◌<◌}
use native.Mathlib.Omega.{arith}
use lib.Dec.{eqb}
use lib.ListN.{length, get_or, take, drop, length-map, get_or-append}
use borrow.Author.Tests.{ne_eqb}
use Rattle.netlist.specs.Layout.{input_count, latch_count}
use Rattle.netlist.specs.Meaning.{words}
use Rattle.calls.specs.declared.tally.Tally.{Tally}
use Rattle.calls.specs.Tallies.{is_rejected}
use Rattle.calls.specs.Refusals.{run_check}
use Rattle.trace.specs.Traces.{cycles_of}
use Rattle.simulator.specs.declared.outcome.Verdict.TheVariants.{Accepted, Rejected}
use Rattle.simulator.specs.Run.{verdict_byte, verdict_of, RunEnd, run_of}
use Rattle.simulator.specs.Claims.{VerdictOfRun, VerdictMeans}
use Rattle.simulator.proofs.RunMeaning.{outputs_of, bytes_of, length-outputs, run-verdicts, run-outcome}

-- ---- of any bytes
cond_same : (z : Bool) → cond z Rejected Rejected ≡ Rejected
cond_same true = refl
cond_same false = refl

-- a byte that is not 0 makes the verdict rejected
pub verdict-any : (bytes : List ℕ) (k : ℕ) → k < length bytes → (get_or bytes k 0 ≡ 0 → ⊥) → verdict_of bytes ≡ Rejected
unfolding verdict_of
verdict-any [] k l n = absurd (omega arith)
verdict-any (b ∷ bs) zero l n = rw (ne_eqb b 0 n) refl
verdict-any (b ∷ bs) (suc k) l n = rw (verdict-any bs k (omega arith) n) (cond_same (eqb b 0))

-- bytes that are all 0 make it accepted
pub verdict-none : (bytes : List ℕ) → ((k : ℕ) → k < length bytes → get_or bytes k 0 ≡ 0) → verdict_of bytes ≡ Accepted
unfolding verdict_of
verdict-none [] h = refl
verdict-none (b ∷ bs) h = rw (h 0 (omega arith)) (verdict-none bs (λ k l. h (suc k) (omega arith)))

pub accepted-rejected : Accepted ≡ Rejected → ⊥
accepted-rejected e = let z : ◌≡◌ {A = ℕ} 0 1 = cc in omega arith

-- ---- of output words: all their bytes are 0, or one is 1
abbrev AllZero : List ℕ → Type 0
AllZero ws = (k : ℕ) → k < length ws → get_or (map verdict_byte ws) k 0 ≡ 0

abbrev SomeOne : List ℕ → Type 0
SomeOne ws = (k : ℕ) × (k < length ws) × (get_or (map verdict_byte ws) k 0 ≡ 1)

first-zero : (w : ℕ) (ws : List ℕ) → verdict_byte w ≡ 0 → AllZero ws → AllZero (w ∷ ws)
first-zero w ws e h zero l = e
first-zero w ws e h (suc k) l = h k (omega arith)

zero-or-one : (ws : List ℕ) → AllZero ws ⊎ SomeOne ws
unfolding verdict_byte
zero-or-one [] = inl (λ k l. absurd (omega arith))
zero-or-one (w ∷ ws) = by (is_rejected w) refl (zero-or-one ws)
  where
    by : (b : Bool) → is_rejected w ≡ b → AllZero ws ⊎ SomeOne ws → AllZero (w ∷ ws) ⊎ SomeOne (w ∷ ws)
    by true i more = inr (0, omega arith, ap (λ (b : Bool). cond b 1 0) i)
    by false i (inr s) = inr (suc s.0, omega (arith, s.1), s.2)
    by false i (inl h) = inl (first-zero w ws (ap (λ (b : Bool). cond b 1 0) i) h)

-- ---- of a run that is not refused
module _ (net trace latches values verdicts : List ℕ) (t : Tally) (e : run_check net trace (length latches) (length values) (length verdicts) t ≡ Ok tt) where
  abbrev cycles : List (List ℕ)
  cycles = cycles_of (input_count net) trace

  abbrev outputs : List ℕ
  outputs = outputs_of words net cycles (take (latch_count net) latches)

  abbrev bytes : List ℕ
  bytes = bytes_of net cycles (take (latch_count net) latches)

  many : length outputs ≡ length cycles
  many = length-outputs words net cycles (take (latch_count net) latches)

  long : length bytes ≡ length outputs
  long = length-map outputs verdict_byte

  -- the bytes stand first in the buffer
  stands : (k : ℕ) → k < length cycles → get_or (run_of net trace latches values verdicts t).verdicts k 0 ≡ get_or bytes k 0
  stands k l =
      ap (λ (b : List ℕ). get_or b k 0) (run-verdicts net trace latches values verdicts t e)
      ∙ get_or-append bytes (drop (length cycles) verdicts) 0 k (omega (arith, many, long))

  verdict_of-run : VerdictOfRun (length cycles) (run_of net trace latches values verdicts t)
  verdict_of-run =
      record {
        verdict = verdict_of bytes;
        answered = run-outcome net trace latches values verdicts t e;
        some = λ r.
            ⊎_elim (λ h. absurd (accepted-rejected (sym (verdict-none bytes (λ k l. h k (omega (arith, long)))) ∙ r)))
            (λ s. let l : s.0 < length cycles = omega (arith, s.1, many) in (s.0, l, stands s.0 l ∙ s.2))
            (zero-or-one outputs);
        any = λ k l b. verdict-any bytes k (omega (arith, many, long)) (λ z. let o : ◌≡◌ {A = ℕ} 0 1 = sym z ∙ sym (stands k l) ∙ b in omega arith);
      }

-- what is claimed of an end that is what the definition gives
pub verdict-means : (net trace latches values verdicts : List ℕ) (t : Tally) (end : RunEnd) → end ≡ run_of net trace latches values verdicts t
    → VerdictMeans net trace latches values verdicts t end
verdict-means net trace latches values verdicts t end e passed =
    subst (VerdictOfRun (length (cycles_of (input_count net) trace))) (sym e) (verdict_of-run net trace latches values verdicts t passed)
