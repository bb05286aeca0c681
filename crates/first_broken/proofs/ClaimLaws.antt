-- What is claimed of one answer is claimed of another that says the same. Assumes nothing.
use mathlib.Core.List.{List, []}
use Prim.Native.Nat.{ℕ, suc}
use Rattle.first_broken.specs.declared.refusal.Cause.{Cause}
use Rattle.first_broken.specs.declared.refusal.Cause.TheVariants.{TraceTooLong, WrongWidth, FlywheelLine, HandleLine, WrongVerdicts}
use Rattle.first_broken.specs.Refusals.{Measurement}
use Rattle.first_broken.specs.Claims.{CheckMeans, BrokenFirst}
use Rattle.first_broken.specs.Claims.CheckMeans.{too_long, wrong-width, flywheel_line, handle_line, wrong-verdicts, fine}
use Rattle.first_broken.specs.Claims.BrokenFirst.{flywheel_broke, handle_broke, neither_broke, refused}

module _ (width : ℕ) (f h : Measurement) where
  module _ (R S : Cause → ℕ → ℕ → Type 0) (P Q : Type 0) (refuses : (cause : Cause) (number line : ℕ) → R cause number line → S cause number line) (passes : P → Q) where
    pub check_told : CheckMeans width f h R P → CheckMeans width f h S Q
    check_told (too_long r l) = too_long (refuses TraceTooLong 1 0 r) l
    check_told (wrong-width r s w) = wrong-width (refuses WrongWidth 26 0 r) s w
    check_told (flywheel_line k r s w) = flywheel_line k (refuses (FlywheelLine (suc k)) 15 (suc k) r) s w
    check_told (handle_line k cs r s t w) = handle_line k cs (refuses (HandleLine (suc k)) 15 (suc k) r) s t w
    check_told (wrong-verdicts cs ds r s t u n) = wrong-verdicts cs ds (refuses WrongVerdicts 25 0 r) s t u n
    check_told (fine cs ds p s t u j k) = fine cs ds (passes p) s t u j k

  module _ (F G H I : ℕ → List ℕ → Type 0) (flywheel : (at : ℕ) (line : List ℕ) → F at line → G at line) (handle : (at : ℕ) (line : List ℕ) → H at line → I at line) where
    pub part-told : BrokenFirst width f h F H → BrokenFirst width f h G I
    part-told (flywheel_broke n at line a l c r before) = flywheel_broke n at line (flywheel at line a) l c r before
    part-told (handle_broke n at line a l c r not before) = handle_broke n at line (handle at line a) l c r not before
    part-told (neither_broke a c none) = neither_broke (flywheel 0 [] a) c none
    part-told (refused cause a c) = refused cause (flywheel 0 [] a) c
