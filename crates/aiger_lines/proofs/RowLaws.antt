-- What the line of an output says, test by test, of a line whose numbers were read. Assumes nothing.
use Rattle.std.specs.Prelude.{Option, Some, None}
use mathlib.Core.Path.{◌≡◌}
use mathlib.Core.List.{List, [], ◌∷◌}
use Prim.Native.Nat.{ℕ, ◌≤◌, ◌<◌}
use borrow.Author.Tests.{le-leb, lt-leb}
use lib.ListN.{get_or}
use Rattle.aiger_lines.specs.declared.Fault.TheVariants.{WrongShape, OutOfLimits}
use Rattle.aiger_lines.specs.declared.Line.{Line}
use Rattle.aiger_lines.specs.Fields.{fields_of}
use Rattle.aiger_lines.specs.Lines.{row, fault, output_at}
use Rattle.aiger_lines.specs.Private.Steps.{LineIs}
use Rattle.aiger_lines.proofs.LineLaws.{judged-wrong, judged_as}

module _ (s : List ℕ) (free p : ℕ) (o : Option Line) (is : LineIs (fields_of s 0 p) o) (last : ℕ) where
  pub output-wrong : o ≡ None → fault WrongShape ≡ output_at s last free p
  unfolding output_at
  output-wrong h = judged-wrong (fields_of s 0 p) o is h _

  pub output_bad : (l : Line) → o ≡ Some l → last < get_or l.values 0 0 → fault OutOfLimits ≡ output_at s last free p
  unfolding output_at
  output_bad l h n = judged_as (fields_of s 0 p) o l is h _ _ (λ vs e. rw (← e 0) (rw (lt-leb (get_or l.values 0 0) last n)))

  pub output_good : (l : Line) → o ≡ Some l → get_or l.values 0 0 ≤ last → row (get_or l.values 0 0 ∷ []) free l.next ≡ output_at s last free p
  unfolding output_at
  output_good l h n = judged_as (fields_of s 0 p) o l is h _ _ (λ vs e. rw (← e 0) (rw (le-leb (get_or l.values 0 0) last n)))
