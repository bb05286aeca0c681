-- An edge's antecedent stands behind the first four fields of its line. Assumes nothing.
use Prim.Native.Nat.{ℕ, zero, suc, ◌+◌, ◌≤◌, ◌<◌}
use mathlib.Core.Path.{◌≡◌, refl, sym, ap, ◌∙◌}
use mathlib.Core.Bool.{Bool, true, false}
use mathlib.Core.List.{[], ◌∷◌, ◌++◌, append_assoc}
use native.Mathlib.Numerals.{add-one}
use native.Mathlib.Omega.{arith}
use borrow.Author.Tests.{eqb-false}
use lib.Dec.{eqb}
use lib.ListN.{length, get_or, take, drop, length-append, length-drop, length-take}
use lib.Seq.{take-suc, take-add, take-take, take_at}
use Rattle.assertion.specs.Graph.{Bytes}
use Rattle.graph.specs.Pieces.{split, up_to, end_at, piece_at}
use Rattle.graph.specs.Held.{line_start, line_of, field_start}
use Rattle.graph.specs.Claims.{EdgeLine}
use Rattle.text.specs.Lines.{StartsLine}
use Rattle.text.specs.Lines.StartsLine.{first, next}
use Rattle.graph.proofs.SplitLaws.{two_pieces, six_pieces}
use Rattle.graph.proofs.FieldLaws.{EdgeFields, field-left, field-zero, end_byte}

-- the bytes up to the first b have none
pub none-empty : (b : ℕ) (left right : Bytes) → ◌≡◌ {A = Bytes} [] (left ++ (b ∷ right)) → ⊥
none-empty b left right e = omega (arith, ap length e, length-append left (b ∷ right))

up_to-free : (b : ℕ) (s left right : Bytes) → take (up_to b s) s ≡ left ++ (b ∷ right) → ⊥
unfolding up_to
up_to-free b [] left right e = none-empty b left right e
up_to-free b (c ∷ s) left right e = by (eqb c b) refl (up_to-free b s)
  where
    later : (l : Bytes) → eqb c b ≡ false → c ∷ take (up_to b s) s ≡ l ++ (b ∷ right) → ((l2 r2 : Bytes) → take (up_to b s) s ≡ l2 ++ (b ∷ r2) → ⊥) → ⊥
    later [] k h ih = eqb-false c b k (ap (λ (x : Bytes). get_or x 0 0) h)
    later (x ∷ l) k h ih = ih l right (ap (drop 1) h)

    by : (t : Bool) → eqb c b ≡ t → ((l2 r2 : Bytes) → take (up_to b s) s ≡ l2 ++ (b ∷ r2) → ⊥) → ⊥
    by true k ih = let u : up_to b (c ∷ s) ≡ 0 = rw (up_to, k) in none-empty b left right (rw u at e)
    by false k ih = let u : up_to b (c ∷ s) ≡ suc (up_to b s) = rw (up_to, k) in later left k (rw u at e) ih

piece_free : (b : ℕ) (s : Bytes) (p : ℕ) (left right : Bytes) → piece_at b s p ≡ left ++ (b ∷ right) → ⊥
unfolding piece_at
piece_free b s p left right e = up_to-free b (drop p s) left right e

-- a part of a line has no LF
part_free : (text : Bytes) (n : ℕ) (x y z : Bytes) → line_of text n ≡ x ++ (y ++ z) → (left right : Bytes) → y ≡ left ++ (10 ∷ right) → ⊥
unfolding line_of
part_free text n x y z e left right h =
    piece_free 10 text (line_start text n) (x ++ left) (right ++ z)
    (e ∙ ap (λ (w : Bytes). x ++ (w ++ z)) h ∙ ap (λ (w : Bytes). x ++ w) (append_assoc left (10 ∷ right) z) ∙ sym (append_assoc x left (10 ∷ (right ++ z))))

-- before a line another ends, or nothing stands
pub starts-line : (text : Bytes) (n : ℕ) → line_start text n ≤ length text → StartsLine (take (line_start text n) text)
unfolding line_start
starts-line text zero h = first refl
starts-line text (suc n) h =
    let e = end_at 10 text (line_start text n) in
    let l : e < length text = omega arith in
    next (take e text) (rw (add-one e) (take-suc text e 0 l ∙ ap (λ (c : ℕ). take e text ++ (c ∷ [])) (end_byte 10 text (line_start text n) l)))

-- the first four fields
module _ (line : Bytes) (h : EdgeFields line) where
  abbrev front : Bytes
  front = 69 ∷ 9 ∷ (h.from ++ (9 ∷ (h.to ++ (9 ∷ h.mark ∷ 9 ∷ []))))

  abbrev rest : Bytes
  rest = h.antecedent ++ (9 ∷ h.consequent)

  chain : (field_start line 4 ≤ length line) × (split 9 (drop (field_start line 4) line) ≡ h.antecedent ∷ h.consequent ∷ []) × (piece_at 9 line (field_start line 1) ≡ h.from) × (piece_at 9 line (field_start line 2) ≡ h.to)
  chain =
      let t0 = field-left line 0 (69 ∷ []) h.from (h.to ∷ (h.mark ∷ []) ∷ h.antecedent ∷ h.consequent ∷ []) (rw (field-zero line) h.are) in
      let t1 = field-left line 1 h.from h.to _ t0.2 in
      let t2 = field-left line 2 h.to (h.mark ∷ []) _ t1.2 in
      let t3 = field-left line 3 (h.mark ∷ []) h.antecedent _ t2.2 in
      (t3.1, t3.2, t1.0, t2.0)

  pub fits_line_lem : field_start line 4 ≤ length line
  fits_line_lem = chain.0

  whole : line ≡ 69 ∷ 9 ∷ (h.from ++ (9 ∷ (h.to ++ (9 ∷ h.mark ∷ 9 ∷ rest))))
  whole = six_pieces 9 line h.are

  two-parts : line ≡ front ++ rest
  two-parts =
      whole
      ∙ ap (λ (x : Bytes). 69 ∷ 9 ∷ x)
      (sym (append_assoc h.from (9 ∷ (h.to ++ (9 ∷ h.mark ∷ 9 ∷ []))) rest ∙ ap (λ (x : Bytes). h.from ++ (9 ∷ x)) (append_assoc h.to (9 ∷ h.mark ∷ 9 ∷ []) rest)))

  front-is : take (field_start line 4) line ≡ front
  front-is =
      let d : drop (field_start line 4) line ≡ rest = two_pieces 9 (drop (field_start line 4) line) chain.1 in
      let n : length front ≡ field_start line 4 = omega (arith, ap length d, length-drop (field_start line 4) line, ap length two-parts, length-append front rest, chain.0) in
      ap (take (field_start line 4)) two-parts ∙ take_at front rest (field_start line 4) n

-- THE LAW
pub edge-behind : (text : Bytes) (n : ℕ) → EdgeFields (line_of text n) → line_start text n ≤ length text → EdgeLine text (line_start text n + field_start (line_of text n) 4)
unfolding line_of piece_at
edge-behind text n h inside =
    let at = line_start text n in
    let line = line_of text n in
    let q = field_start line 4 in
    let u = up_to 10 (drop at text) in
    let c = chain line h in
    let k : q ≤ u = omega (arith, c.0, length-take u (drop at text)) in
    record {
      before = take at text;
      from = h.from;
      to = h.to;
      mark = h.mark;
      starts = starts-line text n inside;
      from_field = record {
        no_tab = λ l r e. piece_free 9 line (field_start line 1) l r (c.2 ∙ e);
        no_lf = part_free text n (69 ∷ 9 ∷ []) h.from (9 ∷ (h.to ++ (9 ∷ h.mark ∷ 9 ∷ rest line h))) (whole line h);
      };
      to-field = record {
        no_tab = λ l r e. piece_free 9 line (field_start line 2) l r (c.3 ∙ e);
        no_lf = part_free text n (69 ∷ 9 ∷ (h.from ++ (9 ∷ []))) h.to (9 ∷ h.mark ∷ 9 ∷ rest line h)
            (whole line h ∙ ap (λ (x : Bytes). 69 ∷ 9 ∷ x) (sym (append_assoc h.from (9 ∷ []) (h.to ++ (9 ∷ h.mark ∷ 9 ∷ rest line h)))));
      };
      bytes = take-add at q text ∙ ap (λ (x : Bytes). take at text ++ x) (sym (take-take q u (drop at text) k) ∙ front-is line h);
      inside = omega (arith, k, length-take u (drop at text), length-drop at text, c.0);
    }
