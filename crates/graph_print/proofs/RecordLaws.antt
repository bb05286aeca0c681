-- The line of a record is one line, and read as that record, kind by kind. Byte 9 is a tab, 10 LF, 69 `E`, 75 `K`, 83 `S`,
-- 86 `V`. Assumes nothing.
use Prim.Native.Nat.{ℕ, ◌<◌}
use mathlib.Core.Path.{◌≡◌, refl, ap, sym, subst}
use mathlib.Core.Bool.{Bool, true, false}
use mathlib.Core.List.{[], ◌∷◌, ◌++◌, append-nil}
use native.Mathlib.Omega.{arith}
use lib.Dec.{eqb}
use borrow.Author.Tests.{eqb-true}
use Rattle.text.specs.Numbers.{digits}
use Rattle.formula.specs.Classes.{pick, is_name}
use Rattle.assertion.specs.Graph.{Bytes}
use Rattle.assertion.specs.declared.Mode.TheVariants.{Unsaid, Terminal, Strong}
use Rattle.graph.specs.Pieces.{onto, split}
use Rattle.graph.specs.Records.{Record, shapeless, mode, signal, constant, vertex, edge, record_of}
use Rattle.graph.specs.Meaning.{IsWidth}
use Rattle.graph.specs.Claims.{IsField, WidthField}
use Rattle.graph.specs.Claims.WidthField.{absent, given}
use Rattle.graph.specs.ModeClaims.ModeWord.{terminal, strong}
use Rattle.graph.proofs.SplitLaws.{split-whole}
use Rattle.graph.proofs.ModeLineLaws.{line_said}
use Rattle.graph.proofs.WidthTextLaws.{one-without}
use Rattle.graph.proofs.SymbolTextLaws.{name-field, line_plain, signal_line, constant-line}
use Rattle.graph.proofs.FormulaTextLaws.{edge_record_lem, edge-whole}
use Rattle.graph.proofs.VertexTextLaws.{vertex_line_lem}
use Rattle.graph_print.proofs.Print.{word_of, mark_of, width_field, fields_of, line_of}
use Rattle.graph_print.proofs.Printable.{Sized}

-- a record whose names are names and whose formulas are fields
abbrev pub Good : Record → Type 0
Good shapeless = ⊥
Good (mode Unsaid) = ⊥
Good (mode Terminal) = Unit {0}
Good (mode Strong) = Unit {0}
Good (signal n w) = Sized n w
Good (constant n w) = Sized n w
Good (vertex n) = is_name n ≡ true
Good (edge f t m a c) = (is_name f ≡ true) × (is_name t ≡ true) × IsField a × IsField c

-- one line, and the record that it is read as
pub record ReadsAs (line : Bytes) (r : Record) : Type 0 where
  pub one_line : split 10 line ≡ line ∷ []
  pub read : record_of line ≡ r

-- what follows a name: its width, or nothing where that is 1
width-field : (n : Bytes) (w : ℕ) → IsWidth w → (field : Bytes) × WidthField field w × ((k : Bytes) → line_of (k ∷ n ∷ width_field w) ≡ k ++ (9 ∷ (n ++ field)))
unfolding line_of width_field
width-field n w h = by (eqb w 1) refl
  where
    by : (t : Bool) → eqb w 1 ≡ t → (field : Bytes) × WidthField field w × ((k : Bytes) → line_of (k ∷ n ∷ pick t [] (digits w ∷ [])) ≡ k ++ (9 ∷ (n ++ field)))
    by true e = ([], subst (WidthField []) (sym (eqb-true w 1 e)) absent, λ k. ap (λ (x : Bytes). k ++ (9 ∷ x)) (sym (append-nil n)))
    by false e = (9 ∷ digits w, given w h, λ k. refl)

-- the line of a signal or a constant
symbol-line : (kind : ℕ) → 69 < kind → (n : Bytes) (w : ℕ) (r : Record) → Sized n w → ((field : Bytes) → WidthField field w → record_of (kind ∷ 9 ∷ (n ++ field)) ≡ r) → ReadsAs (line_of ((kind ∷ []) ∷ n ∷ width_field w)) r
symbol-line kind late n w r h reads =
    let f = width-field n w h.width_fits in
    rw (f.2 (kind ∷ []))
    (record { one_line = split-whole 10 (kind ∷ 9 ∷ (n ++ f.0)) (line_plain kind late n h.is_name f.1); read = reads f.0 f.1 })

-- ---- THE LAW OF A RECORD
pub record_line : (r : Record) → Good r → ReadsAs (line_of (fields_of r)) r
unfolding fields_of line_of word_of mark_of split onto
record_line shapeless h = absurd h
record_line (mode Unsaid) h = absurd h
record_line (mode Terminal) h = record { one_line = refl; read = line_said terminal }
record_line (mode Strong) h = record { one_line = refl; read = line_said strong }
record_line (signal n w) h = symbol-line 83 (omega arith) n w (signal n w) h (λ field f. signal_line n h.is_name f)
record_line (constant n w) h = symbol-line 75 (omega arith) n w (constant n w) h (λ field f. constant-line n h.is_name f)
record_line (vertex n) h =
    record {
      one_line = split-whole 10 (86 ∷ 9 ∷ n) (one-without (λ e. omega arith) (one-without (λ e. omega arith) (name-field n h).no_lf));
      read = vertex_line_lem n h;
    }
record_line (edge f t true a c) h = record { one_line = edge-whole f t true a c h.0 h.1 h.2 h.3; read = edge_record_lem f t true a c h.0 h.1 h.2 h.3 }
record_line (edge f t false a c) h = record { one_line = edge-whole f t false a c h.0 h.1 h.2 h.3; read = edge_record_lem f t false a c h.0 h.1 h.2 h.3 }
