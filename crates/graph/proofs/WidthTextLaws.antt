-- Laws of lines that go on after their name: such a line of a signal or a constant is refused where what follows is
-- no width, and of a vertex always. Byte 9 is a tab, 10 LF, 69 `E`, 75 `K`, 83 `S`, 86 `V`. Assumes nothing.
use Prim.Native.Nat.{ℕ, ◌≤◌, ◌<◌}
use mathlib.Core.Path.{◌≡◌, refl, ap, ◌∙◌}
use mathlib.Core.Bool.{Bool, true, false}
use mathlib.Core.List.{List, [], ◌∷◌, ◌++◌, append_assoc}
use native.Mathlib.Omega.{arith}
use native.Mathlib.Decide.{dec_lt}
use borrow.Author.Tests.{ne_eqb}
use lib.Dec.{eqb}
use lib.ListN.{length, get_or, drop}
use Rattle.text.specs.Lines.{StartsLine}
use Rattle.text.specs.Numbers.{digits}
use Rattle.formula.specs.Classes.{pick, is_name}
use Rattle.assertion.specs.Graph.{Bytes}
use Rattle.graph.specs.Pieces.{split, same}
use Rattle.graph.specs.Records.{Record, shapeless, width_of, sized, edged, of_fields, record_of}
use Rattle.graph.specs.Reading.{add, fault_number}
use Rattle.graph.specs.Meaning.{IsWidth}
use Rattle.graph.specs.Claims.{IsField}
use Rattle.graph.specs.ModeClaims.{RefusedAfter}
use Rattle.graph.specs.WidthClaims.{LongLine}
use Rattle.graph.specs.Held.{read_of}
use Rattle.graph.specs.declared.Fault.TheVariants.{WrongShape}
use Rattle.graph.proofs.PieceLaws.{split-some}
use Rattle.graph.proofs.SplitLaws.{split-joined, split-whole, one_piece}
use Rattle.graph.proofs.WidthFieldLaws.{width_is}
use Rattle.graph.proofs.TextLaws.{read_some}
use Rattle.graph.proofs.ModeTextLaws.{rest-refused}

-- ---- texts without a byte
abbrev pub Without : ℕ → Bytes → Type 0
Without b x = (left right : Bytes) → x ≡ left ++ (b ∷ right) → ⊥

pub one-without : {b c : ℕ} {x : Bytes} → (c ≡ b → ⊥) → Without b x → Without b (c ∷ x)
one-without n h [] right e = n (ap (λ (y : Bytes). get_or y 0 0) e)
one-without n h (a ∷ left) right e = h left right (ap (drop 1) e)

pub joined-without : {b : ℕ} (x : Bytes) {y : Bytes} → Without b x → Without b y → Without b (x ++ y)
joined-without [] h k = k
joined-without (c ∷ x) h k = one-without (λ e. h [] x (ap (λ (d : ℕ). d ∷ x) e)) (joined-without x (λ left right e. h (c ∷ left) right (ap (◌∷◌ c) e)) k)

-- ---- a line of no shape, after whole lines
pub line_refused : {text before : Bytes} (line after : Bytes) → StartsLine before → text ≡ before ++ (line ++ (10 ∷ after)) → Without 10 line → record_of line ≡ shapeless → length text ≤ 32768 → RefusedAfter before 2 (read_of text)
unfolding add fault_number
line_refused line after starts bytes-are plain none short =
    rest-refused (line ++ (10 ∷ after)) starts bytes-are short WrongShape
    (λ more n k. rw (split-joined 10 line after, split-whole 10 line plain) (read_some more n line (split 10 after) (split-some 10 after) (ap (add more) none)))
    refl

-- ---- the record of a line that goes on after its name
pick-none : (t : Bool) {x y : Record} → x ≡ shapeless → y ≡ shapeless → pick t x y ≡ shapeless
pick-none true h k = h
pick-none false h k = k

-- of a kind that is no tab, LF or `E`, for it comes after them
module _ (kind : ℕ) (late : 69 < kind) where
  other : (b : ℕ) → b ≤ 69 → kind ≡ b → ⊥
  other b h e = omega (arith, late)

  not_e : same (kind ∷ []) (69 ∷ []) ≡ false
  unfolding same
  not_e = rw (same, ne_eqb kind 69 (other 69 (omega arith)))

  not-edged : (f t m a c : Bytes) → edged (kind ∷ []) f t m a c ≡ shapeless
  unfolding edged
  not-edged f t m a c = rw not_e

  module _ {name : Bytes} (rest : Bytes) (field : IsField name) where
    abbrev line : Bytes
    line = kind ∷ 9 ∷ (name ++ (9 ∷ rest))

    pub fields-are : split 9 line ≡ (kind ∷ []) ∷ name ∷ split 9 rest
    fields-are =
        split-joined 9 (kind ∷ []) (name ++ (9 ∷ rest))
        ∙ rw (split-whole 9 (kind ∷ []) (one-without (other 9 (omega arith)) none), split-joined 9 name rest, split-whole 9 name field.no_tab)
      where
        none : Without 9 []
        none [] right e = let z : ◌≡◌ {A = ℕ} 0 1 = cc in omega arith
        none (a ∷ left) right e = let z : ◌≡◌ {A = ℕ} 0 1 = cc in omega arith

    -- it has no shape where it would have none if its third field were its last
    module _ (wrong : sized (kind ∷ []) name (width_of rest) ≡ shapeless) where
      of_fields_lem : (fs : List Bytes) → split 9 rest ≡ fs → of_fields ((kind ∷ []) ∷ name ∷ fs) ≡ shapeless
      unfolding of_fields
      of_fields_lem [] e = absurd (split-some 9 rest e)
      of_fields_lem (w ∷ []) e = rw (← one_piece 9 rest e) wrong
      of_fields_lem (t ∷ m ∷ []) e = refl
      of_fields_lem (t ∷ m ∷ a ∷ []) e = refl
      of_fields_lem (t ∷ m ∷ a ∷ c ∷ []) e = not-edged name t m a c
      of_fields_lem (t ∷ m ∷ a ∷ c ∷ x ∷ xs) e = refl

      line-shapeless : record_of line ≡ shapeless
      unfolding record_of
      line-shapeless = ap of_fields fields-are ∙ of_fields_lem (split 9 rest) refl

  long-refused : (text before name rest after : Bytes) → LongLine text before kind name rest after → sized (kind ∷ []) name (width_of rest) ≡ shapeless → length text ≤ 32768 → RefusedAfter before 2 (read_of text)
  long-refused text before name rest after l wrong short = line_refused (kind ∷ 9 ∷ (name ++ (9 ∷ rest))) after l.starts bytes-are plain (line-shapeless rest l.name-field wrong) short
    where
      bytes-are : text ≡ before ++ (kind ∷ 9 ∷ ((name ++ (9 ∷ rest)) ++ (10 ∷ after)))
      bytes-are = rw (append_assoc name (9 ∷ rest) (10 ∷ after)) l.bytes

      tab : ◌≡◌ {A = ℕ} 9 10 → ⊥
      tab e = omega arith

      plain : Without 10 (kind ∷ 9 ∷ (name ++ (9 ∷ rest)))
      plain = one-without (other 10 (omega arith)) (one-without tab (joined-without name l.name-field.no_lf (one-without tab l.one_line)))

-- ---- what is no width
abbrev NoWidth : Bytes → Type 0
NoWidth rest = (w : ℕ) → IsWidth w → rest ≡ digits w → ⊥

width-zero : (rest : Bytes) → NoWidth rest → width_of rest ≡ 0
width-zero rest h = by (dec_lt 0 (width_of rest))
  where
    by : Dec (0 < width_of rest) → width_of rest ≡ 0
    by (yes l) = let d = width_is rest (width_of rest) refl l in absurd (h (width_of rest) (record { some = l; most = d.1 }) d.0)
    by (no l) = omega arith

unsized : (kind name rest : Bytes) → NoWidth rest → sized kind name (width_of rest) ≡ shapeless
unfolding sized
unsized kind name rest h = rw (width-zero rest h) (pick-none (is_name name) refl refl)

-- THE LAWS
pub signal_width : (text before name rest after : Bytes) → LongLine text before 83 name rest after → ((w : ℕ) → IsWidth w → rest ≡ digits w → ⊥) → length text ≤ 32768 → RefusedAfter before 2 (read_of text)
signal_width text before name rest after l h short = long-refused 83 (omega arith) text before name rest after l (unsized (83 ∷ []) name rest h) short

pub constant-width : (text before name rest after : Bytes) → LongLine text before 75 name rest after → ((w : ℕ) → IsWidth w → rest ≡ digits w → ⊥) → length text ≤ 32768 → RefusedAfter before 2 (read_of text)
constant-width text before name rest after l h short = long-refused 75 (omega arith) text before name rest after l (unsized (75 ∷ []) name rest h) short

pub vertex-width : (text before name rest after : Bytes) → LongLine text before 86 name rest after → length text ≤ 32768 → RefusedAfter before 2 (read_of text)
unfolding sized same
vertex-width text before name rest after l short =
    long-refused 86 (omega arith) text before name rest after l (pick-none (is_name name) (pick-none (eqb (width_of rest) 0) refl refl) refl) short
