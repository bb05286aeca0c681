-- The fields of a line's record, by their places in the text. Assumes nothing.
use Prim.Native.Nat.{ℕ, zero, suc, ◌+◌, ◌-◌, ◌≤◌, ◌<◌}
use mathlib.Core.Path.{◌≡◌, refl, sym, ap, subst, ◌∙◌}
use mathlib.Core.Bool.{Bool, true, false, cond}
use mathlib.Core.List.{List, [], ◌∷◌, ◌++◌, append-nil}
use native.Mathlib.Nat.{add-zero}
use native.Mathlib.Omega.{arith}
use borrow.Author.Tests.{eqb-true, eqb-false}
use native.Mathlib.Decide.{dec_lt}
use lib.Dec.{eqb}
use lib.ListN.{length, get_or, drop, length-take, length-drop}
use lib.Seq.{length-take-le, get_or-take, get_or-drop}
use Rattle.formula.specs.Classes.{pick, is_name}
use Rattle.formula.proofs.ByteLaws.{name-is}
use Rattle.text.specs.Quoted.{bytes}
use Rattle.assertion.specs.Graph.{Bytes}
use Rattle.assertion.specs.declared.Mode.TheVariants.{Terminal, Strong}
use Rattle.graph.specs.Pieces.{split, up_to, end_at, piece_at, same}
use Rattle.graph.specs.Records.{Record, shapeless, mode, signal, constant, vertex, edge, moded, width_of, sized, named, marked, edged, of_fields, record_of}
use Rattle.graph.specs.Claims.{FormulaAt, WidthField}
use Rattle.graph.specs.Claims.WidthField.{absent, given}
use Rattle.graph.specs.Meaning.{IsWidth}
use Rattle.graph.specs.Held.{line_start, line_of, field_start, field_at, field_length}
use Rattle.graph.proofs.PieceLaws.{split-cut, split-last, split-some, piece_in, piece_last}
use Rattle.graph.proofs.SplitLaws.{two_pieces, three_pieces, same_equal}
use Rattle.graph.proofs.EdgeLaws.{field_in, up_to-inside}
use Rattle.graph.proofs.WidthFieldLaws.{width-most, width_is}

-- ---- the pieces from a place on
module _ (b : ℕ) (s : Bytes) (p : ℕ) where
  pub two-left : (x y : Bytes) (ls : List Bytes) → split b (drop p s) ≡ x ∷ y ∷ ls → (piece_at b s p ≡ x) × (end_at b s p < length s) × (split b (drop (end_at b s p + 1) s) ≡ y ∷ ls)
  two-left x y ls e = elim (dec_lt (end_at b s p) (length s)) [
    | yes l ↦ let c = split-cut b s p (end_at b s p) refl l in (cc, l, cc)
    | no l ↦
        let c = split-last b s p (end_at b s p) refl (omega arith) in
        let z : ◌≡◌ {A = ℕ} 0 1 = cc in
        absurd (omega arith)
  ]

  pub one_left : (x : Bytes) → split b (drop p s) ≡ x ∷ [] → (drop p s ≡ x) × (length s ≤ end_at b s p)
  one_left x e = elim (dec_lt (end_at b s p) (length s)) [
    | yes l ↦
        let c = split-cut b s p (end_at b s p) refl l in
        absurd (split-some b (drop (end_at b s p + 1) s) (cc))
    | no l ↦ let c = split-last b s p (end_at b s p) refl (omega arith) in (cc, omega arith)
  ]

-- a field that is not the last
pub field-left : (line : Bytes) (k : ℕ) (x y : Bytes) (ls : List Bytes) → split 9 (drop (field_start line k) line) ≡ x ∷ y ∷ ls → (piece_at 9 line (field_start line k) ≡ x) × (field_start line (suc k) ≤ length line) × (split 9 (drop (field_start line (suc k)) line) ≡ y ∷ ls)
unfolding field_start
field-left line k x y ls e = let t = two-left 9 line (field_start line k) x y ls e in (t.0, omega (arith, t.1), t.2)

pub field-zero : (line : Bytes) → drop (field_start line 0) line ≡ line
unfolding field_start
field-zero line = refl

-- ---- the end of a field, and a field of one byte
up_to-byte : (b : ℕ) (s : Bytes) → up_to b s < length s → get_or s (up_to b s) 0 ≡ b
unfolding up_to
up_to-byte b [] h = absurd (omega arith)
up_to-byte b (c ∷ s) h = by (eqb c b) refl (up_to-byte b s) h
  where
    by : (t : Bool) → eqb c b ≡ t → (up_to b s < length s → get_or s (up_to b s) 0 ≡ b) → up_to b (c ∷ s) < suc (length s) → get_or (c ∷ s) (up_to b (c ∷ s)) 0 ≡ b
    by true e ih l = rw (up_to, e) (eqb-true c b e)
    by false e ih l = let u : up_to b (c ∷ s) ≡ suc (up_to b s) = rw (up_to, e) in rw u (ih (omega arith))

pub end_byte : (b : ℕ) (s : Bytes) (p : ℕ) → end_at b s p < length s → get_or s (end_at b s p) 0 ≡ b
unfolding end_at
end_byte b s p h =
    let n : up_to b (drop p s) < length (drop p s) = omega (arith, length-drop p s) in
    sym (get_or-drop p s (up_to b (drop p s)) 0) ∙ up_to-byte b (drop p s) n

one-long : (line : Bytes) (p : ℕ) {b : ℕ} → piece_at 9 line p ≡ b ∷ [] → end_at 9 line p ≡ p + 1
unfolding end_at piece_at
one-long line p e = omega (arith, ap length e, length-take-le (up_to 9 (drop p line)) (drop p line) (up_to-inside 9 (drop p line)))

one_byte : (line : Bytes) (p : ℕ) {b : ℕ} → piece_at 9 line p ≡ b ∷ [] → get_or line p 0 ≡ b
unfolding piece_at
one_byte line p {b} e =
    let n = up_to 9 (drop p line) in
    let l : 0 < n = omega (arith, ap length e, length-take n (drop p line)) in
    let z : p + 0 ≡ p = add-zero p in
    sym (ap (λ (i : ℕ). get_or line i 0) z) ∙ sym (get_or-drop p line 0 0) ∙ sym (get_or-take n (drop p line) 0 0 l) ∙ ap (λ (x : Bytes). get_or x 0 0) e

-- the fields of an edge's line
pub record EdgeFields (line : Bytes) : Type 0 where
  pub from : Bytes
  pub to : Bytes
  pub mark : ℕ
  pub antecedent : Bytes
  pub consequent : Bytes
  pub are : split 9 line ≡ (69 ∷ []) ∷ from ∷ to ∷ (mark ∷ []) ∷ antecedent ∷ consequent ∷ []

-- the line of a signal or a constant
pub record SymbolFields (line : Bytes) (kind : ℕ) (n : Bytes) (w : ℕ) : Type 0 where
  pub field : Bytes
  pub are : line ≡ kind ∷ 9 ∷ (n ++ field)
  pub width : WidthField field w
  pub is_name : is_name n ≡ true
  pub start : field_start line 1 ≡ 2
  pub long : field_length line 1 ≡ length n

-- the name of line k of a text
abbrev pub NameAt : Bytes → ℕ → Bytes → Type 0
NameAt text k n = FormulaAt text (field_at text k 1) (field_length (line_of text k) 1) n

-- ---- a record whose fields stand in line k of a text
abbrev pub Fits : Bytes → ℕ → Record → Type 0
Fits text k shapeless = Unit {0}
Fits text k (mode m) = Unit {0}
Fits text k (signal n w) = NameAt text k n × IsWidth w × (length n ≤ 15) × SymbolFields (line_of text k) 83 n w
Fits text k (constant n w) = NameAt text k n × IsWidth w × (length n ≤ 15) × SymbolFields (line_of text k) 75 n w
Fits text k (vertex n) = piece_at 10 text (field_at text k 1) ≡ n
Fits text k (edge f t m a c) =
    FormulaAt text (field_at text k 4) (field_length (line_of text k) 4) a × FormulaAt text (field_at text k 5) (field_length (line_of text k) 5) c × (get_or text (field_at text k 4 - 2) 0 ≡ cond m 116 45) × EdgeFields (line_of text k)

module _ (text : Bytes) (k : ℕ) where
  pick-fits : (t : Bool) (x y : Record) → Fits text k x → Fits text k y → Fits text k (pick t x y)
  pick-fits true x y h g = h
  pick-fits false x y h g = g

  pick-fits_so : (t : Bool) (x y : Record) → (t ≡ true → Fits text k x) → Fits text k y → Fits text k (pick t x y)
  pick-fits_so true x y h g = h refl
  pick-fits_so false x y h g = g

  -- what makes a line a signal's or a constant's
  record Sized (kind n : Bytes) (w : ℕ) : Type 0 where
    name : NameAt text k n
    most : w ≤ 16
    fields : (c : ℕ) → kind ≡ c ∷ [] → 1 ≤ w → is_name n ≡ true → SymbolFields (line_of text k) c n w

  sized-fits : (kind n : Bytes) (w : ℕ) → Sized kind n w → Fits text k (sized kind n w)
  unfolding sized
  sized-fits kind n w h = pick-fits_so (is_name n) _ shapeless (λ j. by j (eqb w 0) refl) tt
    where
      some : (v : ℕ) → (v ≡ 0 → ⊥) → 1 ≤ v
      some zero f = absurd (f refl)
      some (suc v) f = omega arith

      by : is_name n ≡ true → (t : Bool) → eqb w 0 ≡ t → Fits text k (pick t shapeless (pick (same kind (83 ∷ [])) (signal n w) (pick (same kind (75 ∷ [])) (constant n w) shapeless)))
      by j true e = tt
      by j false e =
          let i : IsWidth w = record { some = some w (eqb-false w 0 e); most = h.most } in
          let l = (name-is n j).short in
          pick-fits_so (same kind (83 ∷ [])) (signal n w) _ (λ c. (h.name, i, l, h.fields 83 (same_equal kind (83 ∷ []) c) i.some j))
          (pick-fits_so (same kind (75 ∷ [])) (constant n w) shapeless (λ c. (h.name, i, l, h.fields 75 (same_equal kind (75 ∷ []) c) i.some j)) tt)

  named-fits : (kind n : Bytes) → piece_at 10 text (field_at text k 1) ≡ n → Sized kind n 1 → Fits text k (named kind n)
  unfolding named moded
  named-fits kind n h g =
      pick-fits (same kind (77 ∷ [])) _ _ (pick-fits (same n (bytes "terminal")) (mode Terminal) _ tt (pick-fits (same n (bytes "strong")) (mode Strong) shapeless tt tt))
      (pick-fits (same kind (86 ∷ [])) _ _ (pick-fits (is_name n) (vertex n) shapeless h tt) (sized-fits kind n 1 g))

  edged-fits : (kind f t m a c : Bytes) → (same kind (69 ∷ []) ≡ true → (b : Bool) → same m (cond b 116 45 ∷ []) ≡ true → Fits text k (edge f t b a c)) → Fits text k (edged kind f t m a c)
  unfolding edged marked
  edged-fits kind f t m a c h =
      pick-fits_so (same kind (69 ∷ [])) _ shapeless
      (λ s. pick-fits (is_name f) _ shapeless
      (pick-fits (is_name t) _ shapeless
      (pick-fits_so (same m (116 ∷ [])) (edge f t true a c) _ (h s true) (pick-fits_so (same m (45 ∷ [])) (edge f t false a c) shapeless (h s false) tt)) tt) tt) tt

  abbrev line : Bytes
  line = line_of text k

  name-fits : (kind n : Bytes) → split 9 line ≡ kind ∷ n ∷ [] → piece_at 10 text (field_at text k 1) ≡ n
  unfolding field_at line_of
  name-fits kind n e =
      let t = field-left line 0 kind n [] (rw (field-zero line) e) in
      let o = one_left 9 line (field_start line 1) n t.2 in
      sym (piece_in 10 text (line_start text k) (field_start line 1) t.1) ∙ o.0

  formula-fits : (j : ℕ) (x : Bytes) → piece_at 9 line (field_start line j) ≡ x → FormulaAt text (field_at text k j) (field_length line j) x
  unfolding field_at field_length piece_at
  formula-fits j x e =
      record {
        bytes = field_in text k (field_start line j) ∙ e;
        long = sym (length-take-le (up_to 9 (drop (field_start line j) line)) (drop (field_start line j) line) (up_to-inside 9 (drop (field_start line j) line))) ∙ ap length e;
      }

  -- the name of a line of two fields, and of three
  first-start : (c : ℕ) (x y : Bytes) (ls : List Bytes) → split 9 line ≡ x ∷ y ∷ ls → x ≡ c ∷ [] → field_start line 1 ≡ 2
  unfolding field_start
  first-start c x y ls e h = omega (arith, one-long line 0 ((two-left 9 line 0 x y ls e).0 ∙ h))

  two_fit : (kind n : Bytes) → split 9 line ≡ kind ∷ n ∷ [] → Sized kind n 1
  two_fit kind n e =
      let t = field-left line 0 kind n [] (rw (field-zero line) e) in
      let o = one_left 9 line (field_start line 1) n t.2 in
      let f = formula-fits 1 n (piece_last 9 line (field_start line 1) _ refl o.1 ∙ o.0) in
      record {
        name = f;
        most = omega arith;
        fields = λ c h i j.
            record {
              field = [];
              are = two_pieces 9 line e ∙ rw (h, append-nil n);
              width = absent;
              is_name = j;
              start = first-start c kind n [] e h;
              long = f.long;
            };
      }

  three_fit : (kind n w : Bytes) → split 9 line ≡ kind ∷ n ∷ w ∷ [] → Sized kind n (width_of w)
  three_fit kind n w e =
      let t = field-left line 0 kind n (w ∷ []) (rw (field-zero line) e) in
      let f = formula-fits 1 n (field-left line 1 n w [] t.2).0 in
      record {
        name = f;
        most = width-most w;
        fields = λ c h i j.
            let d = width_is w (width_of w) refl i in
            record {
              field = 9 ∷ w;
              are = three_pieces 9 line e ∙ rw h;
              width = subst (λ (x : Bytes). WidthField (9 ∷ x) (width_of w)) (sym d.0) (given (width_of w) (record { some = i; most = d.1 }));
              is_name = j;
              start = first-start c kind n (w ∷ []) e h;
              long = f.long;
            };
      }

  -- a byte of the line stands in the text
  byte_fits : (i : ℕ) → i < length line → get_or text (line_start text k + i) 0 ≡ get_or line i 0
  unfolding line_of piece_at
  byte_fits i h =
      let n = up_to 10 (drop (line_start text k) text) in
      let l : i < n = omega (arith, length-take n (drop (line_start text k) text)) in
      sym (get_or-drop (line_start text k) text i 0) ∙ sym (get_or-take n (drop (line_start text k) text) i 0 l)

  -- a mark, before field 4
  mark-fits : (b : ℕ) → piece_at 9 line (field_start line 3) ≡ b ∷ [] → end_at 9 line (field_start line 3) < length line → get_or text (field_at text k 4 - 2) 0 ≡ b
  unfolding field_at field_start
  mark-fits b p l =
      let s3 = end_at 9 line (field_start line 2) + 1 in
      let one : end_at 9 line s3 ≡ s3 + 1 = one-long line s3 p in
      let z : line_start text k + (end_at 9 line s3 + 1) - 2 ≡ line_start text k + s3 = omega (arith, one) in
      rw z (byte_fits s3 (omega (arith, one)) ∙ one_byte line s3 p)

  edge-fits : (kind f t m a c : Bytes) → split 9 line ≡ kind ∷ f ∷ t ∷ m ∷ a ∷ c ∷ [] → same kind (69 ∷ []) ≡ true → (b : Bool) → same m (cond b 116 45 ∷ []) ≡ true → Fits text k (edge f t b a c)
  edge-fits kind f t m a c e s b q =
      let t0 = field-left line 0 kind f (t ∷ m ∷ a ∷ c ∷ []) (rw (field-zero line) e) in
      let t1 = field-left line 1 f t _ t0.2 in
      let t2 = field-left line 2 t m _ t1.2 in
      let t3 = field-left line 3 m a _ t2.2 in
      let t4 = field-left line 4 a c _ t3.2 in
      let o = one_left 9 line (field_start line 5) c t4.2 in
      let d = two-left 9 line (field_start line 3) m a _ t2.2 in
      let km = same_equal m (cond b 116 45 ∷ []) q in
      let kk = same_equal kind (69 ∷ []) s in (
        formula-fits 4 a t4.0,
        formula-fits 5 c (piece_last 9 line (field_start line 5) _ refl o.1 ∙ o.0),
        mark-fits (cond b 116 45) (d.0 ∙ km) d.1,
        record { from = f; to = t; mark = cond b 116 45; antecedent = a; consequent = c; are = rw (← km, ← kk) e },
      )

  fields_fit : (fs : List Bytes) → split 9 line ≡ fs → Fits text k (of_fields fs)
  unfolding of_fields
  fields_fit [] e = tt
  fields_fit (x ∷ []) e = tt
  fields_fit (x ∷ n ∷ []) e = named-fits x n (name-fits x n e) (two_fit x n e)
  fields_fit (x ∷ n ∷ w ∷ []) e = sized-fits x n (width_of w) (three_fit x n w e)
  fields_fit (x ∷ f ∷ t ∷ m ∷ []) e = tt
  fields_fit (x ∷ f ∷ t ∷ m ∷ a ∷ []) e = tt
  fields_fit (x ∷ f ∷ t ∷ m ∷ a ∷ c ∷ []) e = edged-fits x f t m a c (edge-fits x f t m a c e)
  fields_fit (x ∷ f ∷ t ∷ m ∷ a ∷ c ∷ y ∷ ys) e = tt

  -- the record of each line stands there
  pub line-fits : Fits text k (record_of line)
  unfolding record_of
  line-fits = fields_fit (split 9 line) refl
