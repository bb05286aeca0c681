-- Appends to one writer, one after another, append one text after another. Assumes nothing.
use mathlib.Core.Path.{◌≡◌, refl, ◌∙◌}
use mathlib.Core.List.{List, [], ◌++◌}
use Prim.Native.Nat.{ℕ, ◌+◌, ◌≤◌}
use native.Mathlib.Numerals.{add-one}
use lib.ListN.{length}
use Rattle.text.specs.declared.writer.Writer.{Writer}
use Rattle.text.specs.Writer.{top, Wrote, Writes, joined}
use Rattle.text.proofs.WriterLaws as over

-- THE COMPOSITION LAW: s appended, and then t, is s ++ t appended
pub then : {l m r : Writer} {s t : List ℕ} → Writes l m s → Writes m r t → Writes l r (s ++ t)
then p q = record { same = q.same ∙ p.same; wrote = over.then p.wrote q.wrote }

-- nothing appended
pub none : (w : Writer) → length w.out.now ≤ top → Writes w w []
none w h = record { same = refl; wrote = over.none w.out.now w.at h }

-- one more text of `joined`, as a loop's turn appends it
pub more : (f : ℕ → List ℕ) {l m r : Writer} (n : ℕ) → Writes l m (joined f n) → Writes m r (f n) → Writes l r (joined f (n + 1))
more f n p q = rw add-one (then p q)

-- the text of a writer that was new
pub from_front : {l r : Writer} {out s : List ℕ} → l.out.now ≡ out → l.at ≡ 0 → Writes l r s → Wrote out r.out.now 0 r.at s
from_front buffer front p = rw (← buffer, ← front) p.wrote

-- the buffer keeps its length
pub kept : {l r : Writer} {s : List ℕ} → Writes l r s → length r.out.now ≡ length l.out.now
kept p = over.kept p.wrote

-- and after an append nothing more
pub still : {l r : Writer} {s : List ℕ} → Writes l r s → Writes r r []
still {l} {r} p = none r (rw (kept p) p.wrote.small)
