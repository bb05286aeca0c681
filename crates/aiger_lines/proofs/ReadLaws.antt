-- What is known of a pass from what it answers. Assumes nothing.
use Rattle.std.specs.Prelude.{Result, Ok, Err}
use mathlib.Core.Path.{◌≡◌, refl, sym, ap, ◌∙◌}
use mathlib.Core.List.{List, [], ◌∷◌, ◌++◌}
use Prim.Native.Nat.{ℕ, ◌+◌, ◌≤◌}
use native.Mathlib.Nat.{zero-add}
use native.Mathlib.Omega.{arith}
use lib.ListN.{length, drop}
use lib.Seq.{sets-eq}
use Rattle.text.proofs.WriterLaws.{sets-out}
use Rattle.aiger_lines.specs.declared.Fault.{Fault}
use Rattle.aiger_lines.specs.declared.Cursor.{Cursor}
use Rattle.aiger_lines.specs.Blocks.{Rows, rows, failed}
use Rattle.aiger_lines.specs.Private.Steps.{Took}
use Rattle.aiger_lines.proofs.PassLaws.{place_of, past-failed}

none_left : (d : List ℕ) → length d ≡ 0 → d ≡ []
none_left [] h = refl
none_left (x ∷ d) h = absurd (omega arith)

-- over no numbers nothing is stored
pub dry : (x : Rows) (d net : List ℕ) (r : Result Cursor (Fault × ℕ)) → Took x [] d 0 r → d ++ net ≡ net
unfolding Took
dry (rows ns free q) d net r t = rw (t.1, sets-out ns [] 0 (omega arith))
dry (failed e line) d net r t = rw (none_left d t.1)

-- the fault that is answered is that of the lines
pub took-fault : (x : Rows) (net after : List ℕ) (place : ℕ) (r : Result Cursor (Fault × ℕ)) (e : Fault) (line : ℕ) → Took x net after place r → r ≡ Err (e, line) → x ≡ failed e line
unfolding Took
took-fault (rows ns free q) net after place r e line t h = absurd (past-failed (sym t.0 ∙ h))
took-fault (failed e' line') net after place r e line t h = ap faulty (sym t.0 ∙ h)
  where
    faulty : Result Cursor (Fault × ℕ) → Rows
    faulty (Ok c) = rows [] 0 0
    faulty (Err (e, n)) = failed e n

-- and the place that is answered is how many numbers they have
pub took-past : (R : Type 0) (x : Rows) (net after : List ℕ) (r : Result Cursor (Fault × ℕ)) (c : Cursor) → Took x net after 0 r → r ≡ Ok c
    → ((ns : List ℕ) (free q : ℕ) → x ≡ rows ns free q → c.place ≡ length ns → R) → R
unfolding Took
took-past R (rows ns free q) net after r c t h k =
    let n : c.place ≡ 0 + length ns = ap place_of (sym h ∙ t.0) in
    k ns free q refl (n ∙ zero-add (length ns))
took-past R (failed e line) net after r c t h k = absurd (past-failed (sym h ∙ t.0))

-- where there is room for them, they stand first
pub took_stored : (ns : List ℕ) (free q : ℕ) (net after : List ℕ) (r : Result Cursor (Fault × ℕ)) → Took (rows ns free q) net after 0 r → length ns ≤ length net → after ≡ ns ++ drop (length ns) net
unfolding Took
took_stored ns free q net after r t g = t.1 ∙ rw zero-add at (sets-eq ns net 0 (rw zero-add g))
