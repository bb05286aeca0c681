-- The verdict of the paths' bytes is rejected exactly if some setting and some rejecting path condemn one of the cycles. Assumes nothing.
use mathlib.Core.Path.{◌≡◌, refl, ap, subst, sym, ◌∙◌}
use mathlib.Core.Bool.{Bool, true, false, cond}
use mathlib.Core.List.{List, [], ◌∷◌, ◌++◌, append_assoc}
use Rattle.assertion.specs.Graph.{Graph, Cycle}
use Rattle.assertion.specs.Paths.{is_rejected, verdicts}
use Rattle.assertion.specs.Paths as paths
use Rattle.assertion.proofs.PathLaws.{paths_mean}
use Rattle.simulator.specs.declared.outcome.Verdict.{Verdict}
use Rattle.simulator.specs.declared.outcome.Verdict.TheVariants.{Rejected}
use Rattle.simulator.specs.Run.{verdict_of}
use Rattle.simulator.proofs.VerdictLaws.{accepted-rejected}
use Rattle.demand.specs.Demand.{SomeRejected, VerdictOfPaths}

module _ (g : Graph) where
  abbrev judged : List Cycle → List Cycle → Verdict
  judged seen cs = verdict_of (verdicts g seen cs)

  -- one cycle and those behind it
  one : (seen : List Cycle) (c : Cycle) (cs : List Cycle) (b : Bool) → is_rejected g (seen ++ (c ∷ [])) ≡ b
      → judged seen (c ∷ cs) ≡ cond b Rejected (judged (seen ++ (c ∷ [])) cs)
  unfolding verdict_of
  one seen c cs true e = rw e refl
  one seen c cs false e = rw e refl

  first : (seen : List Cycle) (c : Cycle) (cs : List Cycle) → is_rejected g (seen ++ (c ∷ [])) ≡ true → SomeRejected g seen (c ∷ cs)
  first seen c cs e = record { before = []; cycle = c; after = cs; whole = refl; rejected = paths_mean.found g (seen ++ (c ∷ [])) e }

  behind : (seen : List Cycle) (c : Cycle) (cs : List Cycle) → SomeRejected g (seen ++ (c ∷ [])) cs → SomeRejected g seen (c ∷ cs)
  behind seen c cs s =
      record {
        before = c ∷ s.before;
        cycle = s.cycle;
        after = s.after;
        whole = ap (◌∷◌ c) s.whole;
        rejected = subst (paths.Rejected g) (append_assoc seen (c ∷ []) (s.before ++ (s.cycle ∷ []))) s.rejected;
      }

  some : (seen cs : List Cycle) → judged seen cs ≡ Rejected → SomeRejected g seen cs
  unfolding verdict_of
  some seen [] e = absurd (accepted-rejected e)
  some seen (c ∷ cs) e = by (is_rejected g (seen ++ (c ∷ []))) refl (some (seen ++ (c ∷ [])) cs)
    where
      by : (b : Bool) → is_rejected g (seen ++ (c ∷ [])) ≡ b → (judged (seen ++ (c ∷ [])) cs ≡ Rejected → SomeRejected g (seen ++ (c ∷ [])) cs) → SomeRejected g seen (c ∷ cs)
      by true i more = first seen c cs i
      by false i more = behind seen c cs (more (sym (one seen c cs false i) ∙ e))

  any : (seen before : List Cycle) (c : Cycle) (after : List Cycle) → paths.Rejected g (seen ++ (before ++ (c ∷ []))) → judged seen (before ++ (c ∷ after)) ≡ Rejected
  any seen [] c after r = one seen c after true (paths_mean.finds g (seen ++ (c ∷ [])) r)
  any seen (b ∷ before) c after r =
      by (is_rejected g (seen ++ (b ∷ []))) refl
      (any (seen ++ (b ∷ [])) before c after (subst (paths.Rejected g) (sym (append_assoc seen (b ∷ []) (before ++ (c ∷ [])))) r))
    where
      by : (z : Bool) → is_rejected g (seen ++ (b ∷ [])) ≡ z → judged (seen ++ (b ∷ [])) (before ++ (c ∷ after)) ≡ Rejected → judged seen (b ∷ before ++ (c ∷ after)) ≡ Rejected
      by true i more = one seen b (before ++ (c ∷ after)) true i
      by false i more = one seen b (before ++ (c ∷ after)) false i ∙ more

  pub verdict_of-paths : (seen cs : List Cycle) → VerdictOfPaths g seen cs (judged seen cs)
  verdict_of-paths seen cs =
      record {
        of_bytes = refl;
        some = some seen cs;
        any = λ s. ap (judged seen) s.whole ∙ any seen s.before s.cycle s.after s.rejected;
      }
