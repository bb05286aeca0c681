-- A line is written number by number, what a latch's line is where the reset is 0 and where it is not, and that the
-- outputs' lines are those of a part of the netlist. Assumes nothing.
use mathlib.Core.Path.{◌≡◌, ap, ◌∙◌}
use mathlib.Core.Bool.{Bool, false}
use mathlib.Core.List.{List, [], ◌∷◌, ◌++◌, append_assoc}
use Prim.Native.Nat.{ℕ, ◌+◌, ◌-◌, ◌*◌, ◌≤◌}
use native.Mathlib.Omega.{arith}
use borrow.Author.Tests.{eq-eqb, ne_eqb}
use lib.ListN.{length, get_or, take, drop, length-drop}
use lib.Seq.{get_or-take, get_or-drop, length-take-le}
use Rattle.text.specs.Numbers.{digits}
use Rattle.text.specs.declared.writer.Writer.{Writer}
use Rattle.text.specs.Writer.{Writes, joined}
use Rattle.text.proofs.WriterLaws.{joined_same}
use Rattle.text.proofs.WritingLaws.{then}
use Rattle.netlist.specs.Layout.{latch_count, output_count}
use Rattle.aiger.specs.Rows.{line, literal_row, latch_row}
use Rattle.aiger.specs.Format.{output_line}

-- a number with the byte after it, and then a text, are written as the number before the byte and the text
pub field : {l m r : Writer} (n b : ℕ) {t : List ℕ} → Writes l m (digits n ++ (b ∷ [])) → Writes m r t → Writes l r (digits n ++ (b ∷ t))
field n b {t} p q = rw (append_assoc (digits n) (b ∷ []) t) at (then p q)

module _ (lit next reset : ℕ) where
  pub latch_plain : reset ≡ 0 → latch_row false lit next reset ≡ line lit (next ∷ [])
  unfolding latch_row
  latch_plain h = rw (eq-eqb reset 0 h)

  pub latch_reset : (explicit : Bool) → (reset ≡ 0 → ⊥) → latch_row explicit lit next reset ≡ line lit (next ∷ reset ∷ [])
  unfolding latch_row
  latch_reset explicit h = rw (ne_eqb reset 0 h)

-- the outputs stand one after the other
pub outputs-written : {l r : Writer} (net : List ℕ) (from to : ℕ) → from ≡ 5 + 2 * latch_count net → to ≡ from + output_count net → to ≤ length net
    → Writes l r (joined (λ (n : ℕ). literal_row (get_or (take (to - from) (drop from net)) n 0)) (length (take (to - from) (drop from net))))
    → Writes l r (joined (output_line net) (output_count net))
unfolding output_line
outputs-written net from to h g long w =
    let count : to - from ≡ output_count net = omega arith in
    let enough : to - from ≤ length (drop from net) = rw length-drop (omega arith) in
    let same = joined_same _ _ (output_count net) (λ n b. ap literal_row (get_or-take (output_count net) (drop from net) n 0 b ∙ get_or-drop from net n 0 ∙ ap (λ (i : ℕ). get_or net (i + n) 0) h)) in
    rw (length-take-le (to - from) (drop from net) enough, count, same) at w
