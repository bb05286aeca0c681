-- What a read answers and leaves in each of its four cases. Assumes nothing.
use Rattle.std.specs.Prelude.{Result, Ok, Err}
use mathlib.Core.Path.{◌≡◌, refl, sym, ap, ◌∙◌}
use mathlib.Core.List.{List, [], ◌++◌}
use Prim.Native.Nat.{ℕ, zero, suc, ◌≤◌, ◌<◌}
use native.Mathlib.Omega.{arith}
use borrow.Author.Tests.{lt-leb, le-leb}
use lib.ListN.{length}
use Rattle.aiger_lines.specs.declared.Fault.{Fault}
use Rattle.aiger_lines.specs.declared.Fault.TheVariants.{WrongShape, OutOfLimits}
use Rattle.aiger_lines.specs.declared.Cursor.{Cursor}
use Rattle.aiger_lines.specs.Blocks.{failed}
use Rattle.aiger_lines.specs.Private.Steps.{number_of, Took}
use Rattle.aiger_lines.proofs.PassLaws.{past-failed}
use Rattle.aiger_lines.proofs.ReadLaws.{dry, took-fault, took-past, took_stored}
use Rattle.packed_read.specs.declared.Cause.{Cause}
use Rattle.packed_read.specs.declared.Cause.TheVariants.{TextTooLong, ShortBuffer, FaultyLine}
use Rattle.packed_read.specs.Files.{read_packed}
use Rattle.packed_read.specs.Read.{refusal_of, read_end, max_text, read_as, read_of}
use Rattle.packed_read.specs.Private.Steps.{cause_of}

-- the number of a faulty line
pub faulty-line : (e : Fault) (line : ℕ) → refusal_of (FaultyLine e line) ≡ record { number = number_of e; line = line }
unfolding refusal_of number_of
faulty-line WrongShape line = refl
faulty-line OutOfLimits line = refl

-- a fault, whichever line it has
pub faulty_as : (e : Fault) (line : ℕ) (net : List ℕ) → read_as (failed e line) net ≡ read_end (Err (cause_of e line)) net
unfolding read_as cause_of
faulty_as e zero net = refl
faulty_as e (suc n) net = refl

pub line-cause : (e : Fault) (line : ℕ) → (line ≡ 0 → ⊥) → FaultyLine e line ≡ cause_of e line
unfolding cause_of
line-cause e zero h = absurd (h refl)
line-cause e (suc n) h = refl

module _ (text net : List ℕ) where
  pub read-long : max_text < length text → read_end (Err TextTooLong) net ≡ read_of text net
  unfolding read_of
  read-long h = rw (lt-leb (length text) max_text h)

  module _ (h : length text ≤ max_text) (d : List ℕ) (first : Result Cursor (Fault × ℕ)) (t : Took (read_packed text) [] d 0 first) where
    same : d ++ net ≡ net
    same = dry (read_packed text) d net first t

    pub read-failed : (e : Fault) (line : ℕ) (c : Cause) → first ≡ Err (e, line) → c ≡ cause_of e line → read_end (Err c) (d ++ net) ≡ read_of text net
    unfolding read_of
    read-failed e line c f i = rw (same, le-leb (length text) max_text h, took-fault (read_packed text) [] d 0 first e line t f, i) (sym (faulty_as e line net))

    pub read_short : (c : Cursor) → first ≡ Ok c → length (d ++ net) < c.place → read_end (Err ShortBuffer) (d ++ net) ≡ read_of text net
    unfolding read_of read_as
    read_short c f l =
        took-past _ (read_packed text) [] d first c t f
        (λ ns free q e n. rw (same, le-leb (length text) max_text h, e, lt-leb (length ns) (length net) (omega (arith, ap length same))))

    -- a pass after one without fault has none
    pub read-again : (c : Cursor) (before after : List ℕ) (r : Result Cursor (Fault × ℕ)) (f : Fault × ℕ) → first ≡ Ok c → Took (read_packed text) before after 0 r → r ≡ Err f → ⊥
    unfolding Took
    read-again c before after r f h u e = took-past _ (read_packed text) [] d first c t h (λ ns free q i n. let v = rw i at u in past-failed (sym v.0 ∙ e))

    pub read_done : (c : Cursor) (after : List ℕ) (r : Result Cursor (Fault × ℕ)) → first ≡ Ok c → c.place ≤ length (d ++ net) → Took (read_packed text) (d ++ net) after 0 r
        → read_end (Ok c.place) after ≡ read_of text net
    unfolding read_of read_as
    read_done c after r f l u =
        took-past _ (read_packed text) [] d first c t f
        (λ ns free q e n.
        let g : length ns ≤ length net = omega (arith, ap length same) in
        rw (le-leb (length text) max_text h, e, le-leb (length ns) (length net) g, n, took_stored ns free q net after r (rw (same, e) at u) g))
