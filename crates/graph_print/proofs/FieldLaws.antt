-- A formula is a field: each byte of it comes after the tab and the LF. Assumes nothing.
use Rattle.std.specs.Prelude.{Ok}
use Prim.Native.Nat.{ℕ, ◌+◌, ◌<◌}
use mathlib.Core.Path.{◌≡◌, refl, subst}
use mathlib.Core.List.{List, [], ◌∷◌, ◌++◌, Memᴰ}
use native.Mathlib.Omega.{arith}
use lib.ListN.{length, take, drop}
use Rattle.text.specs.Quoted.{bytes}
use Rattle.text.specs.Numbers.{digits, is_digit}
use Rattle.text.proofs.NumberLaws.{each-digits}
use Rattle.formula.specs.Grammar.{Tree, name, bit_of, alike, bit, not, group, join, Parsed, none, tree, tree_of}
use Rattle.formula.specs.Claims.{written, operators, Placed}
use Rattle.formula.proofs.GrammarComplete.{grammar_means}
use Rattle.assertion.specs.Graph.{Bytes}
use Rattle.graph.specs.Pieces.{Declared}
use Rattle.graph.specs.Reading.{judged_tree, judged_formula}
use Rattle.graph.specs.Claims.{IsField}
use Rattle.graph.proofs.EdgeLineLaws.{none-empty}
use Rattle.graph.proofs.WidthTextLaws.{one-without, joined-without}
use Rattle.graph.proofs.SymbolTextLaws.{name-field, digits-without}

-- ---- fields put together
no_byte : IsField []
no_byte = record { no_tab = none-empty 9; no_lf = none-empty 10 }

one_byte : {c : ℕ} {x : Bytes} → 10 < c → IsField x → IsField (c ∷ x)
one_byte l h = record { no_tab = one-without (λ e. omega (arith, l)) h.no_tab; no_lf = one-without (λ e. omega (arith, l)) h.no_lf }

two-parts : (x : Bytes) {y : Bytes} → IsField x → IsField y → IsField (x ++ y)
two-parts x h k = record { no_tab = joined-without x h.no_tab k.no_tab; no_lf = joined-without x h.no_lf k.no_lf }

digits-field : (n : ℕ) → IsField (digits n)
unfolding is_digit
digits-field n = record { no_tab = digits-without 9 refl (digits n) (each-digits n); no_lf = digits-without 10 refl (digits n) (each-digits n) }

-- ---- a tree written out
bit_late : {b : ℕ} → Memᴰ b (bytes "01") → 10 < b
bit_late (Memᴰ.head e) = omega arith
bit_late (Memᴰ.tail (Memᴰ.head e)) = omega arith
bit_late (Memᴰ.tail (Memᴰ.tail x')) = elim x' [ ]

operator_late : {b : ℕ} → Memᴰ b operators → 10 < b
operator_late (Memᴰ.head e) = omega arith
operator_late (Memᴰ.tail (Memᴰ.head e)) = omega arith
operator_late (Memᴰ.tail (Memᴰ.tail (Memᴰ.head e))) = omega arith
operator_late (Memᴰ.tail (Memᴰ.tail (Memᴰ.tail (Memᴰ.head e)))) = omega arith
operator_late (Memᴰ.tail (Memᴰ.tail (Memᴰ.tail (Memᴰ.tail x')))) = elim x' [ ]

written-field : (s : Bytes) (at : ℕ) (e : Tree) → Placed s at e → IsField (written s e)
unfolding written Placed
written-field s at (name p n) h = name-field (take n (drop p s)) h.2
written-field s at (bit_of p n i) h =
    two-parts (take n (drop p s)) (name-field (take n (drop p s)) h.2)
    (one_byte (omega arith) (two-parts (digits i) (digits-field i) (one_byte (omega arith) no_byte)))
written-field s at (alike p n q m) h =
    two-parts (take n (drop p s)) (name-field (take n (drop p s)) h.0.2)
    (one_byte (omega arith) (one_byte (omega arith) (name-field (take m (drop q s)) h.1.2)))
written-field s at (bit b) h = one_byte (bit_late h) no_byte
written-field s at (not e) h = one_byte (omega arith) (written-field s (at + 1) e h)
written-field s at (group e) h =
    one_byte (omega arith) (two-parts (written s e) (written-field s (at + 1) e h) (one_byte (omega arith) no_byte))
written-field s at (join b l r) h =
    two-parts (written s l) (written-field s at l h.1) (one_byte (operator_late h.0) (written-field s (at + length (written s l) + 1) r h.2))

-- ---- THE LAW: a formula that is judged fine is a field
pub fine-field : (ns : List Declared) {s : Bytes} → judged_formula ns s ≡ (Ok tt) → IsField s
unfolding judged_tree
fine-field ns {s} h = by (tree_of s) refl h
  where
    by : (p : Parsed) → tree_of s ≡ p → judged_tree ns s p ≡ (Ok tt) → IsField s
    by none e k = let z : ◌≡◌ {A = ℕ} 0 1 = cc in absurd (omega arith)
    by (tree t) e k = let f = (grammar_means s).only t e in subst IsField f.text (written-field s 0 t f.places)
