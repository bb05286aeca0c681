-- A line's numbers are read just where the line's text stands. Assumes nothing.
use Rattle.std.specs.Prelude.{Option, Some, None}
use mathlib.Core.Path.{◌≡◌, refl, sym, ap, ◌∙◌}
use mathlib.Core.Bool.{Bool, true, false, cond}
use mathlib.Core.List.{List, [], ◌∷◌, ◌++◌, append_assoc}
use Prim.Native.Nat.{ℕ, zero, suc, ◌+◌, ◌≤◌, ◌<◌}
use native.Mathlib.Numerals.{add-one}
use native.Mathlib.Omega.{arith}
use borrow.Author.Tests.{eq-eqb, ne_eqb, eqb-true}
use lib.Dec.{eqb}
use lib.ListN.{length, get_or, take, drop, take-append-drop, length-append}
use lib.Seq.{drop-cons, drop-drop, get_or-drop, get_or-append_seam, length-take-le}
use Rattle.text.specs.Numbers.{digits, is_digit, leading_digits, value_from, is_numeral, read_number}
use Rattle.text.proofs.ReadBack.{reads-digits}
use Rattle.aiger.specs.Rows.{line}
use Rattle.aiger_lines.specs.Fields.{Fields, wrong, fields, on_number, number_then, before, fields_of}
use Rattle.aiger_lines.proofs.LineLaws.{byte_inside, wrong-fields}
use Rattle.aiger_lines.proofs.NumeralLaws.{numeral_value, leading_each, leading_split}
use Rattle.aiger_lines.proofs.PlaceLaws.{At, at_join, at_split}

-- ---- a number and the byte after it

none_read : {v q : ℕ} → ◌≡◌ {A = Option (ℕ × ℕ)} None (Some (v, q)) → ⊥
none_read h = let z : ◌≡◌ {A = ℕ} 0 1 = cc in omega arith

-- a number that was read stands there, and the byte after it is b
record NumberAt (s : List ℕ) (p b v q : ℕ) : Type 0 where
  at : At s p (digits v ++ (b ∷ [])) q
  small : v < 100000

module _ (s : List ℕ) (p b : ℕ) (some : 1 ≤ b) where
  abbrev ds : List ℕ
  ds = leading_digits (drop p s)

  value_of : Option (ℕ × ℕ) → ℕ
  value_of (Some (v, q)) = v
  value_of None = 0

  place_of : Option (ℕ × ℕ) → ℕ
  place_of (Some (v, q)) = q
  place_of None = 0

  after-digits : (v q : ℕ) (t : Bool) → is_numeral ds ≡ true → eqb (get_or s (p + length ds) 0) b ≡ t → cond {A = Option (ℕ × ℕ)} t (Some (value_from 0 ds, p + length ds + 1)) None ≡ Some (v, q) → NumberAt s p b v q
  unfolding value_of place_of
  after-digits v q false n e h = absurd (none_read h)
  after-digits v q true n e h =
      let num = numeral_value ds (leading_each (drop p s)) n in
      let ve : value_from 0 ds ≡ v = ap value_of h in
      let qe : p + length ds + 1 ≡ q = ap place_of h in
      let be : get_or s (p + length ds) 0 ≡ b = eqb-true (get_or s (p + length ds) 0) b e in
      let l : p + length ds < length s = byte_inside s (p + length ds) (omega arith) in
      let dv : digits v ≡ ds = ap digits (sym ve) ∙ num.0 in
      let split : drop p s ≡ ds ++ drop (p + length ds) s = leading_split (drop p s) ∙ ap (λ (x : List ℕ). ds ++ x) (drop-drop (length ds) p s) in
      let byte : drop (p + length ds) s ≡ b ∷ drop q s =
      drop-cons s (p + length ds) 0 l ∙ rw (be, ← qe, add-one (p + length ds)) refl in
      record {
        at = record {
          text = split ∙ ap (λ (x : List ℕ). ds ++ x) byte ∙ rw dv (sym (append_assoc ds (b ∷ []) (drop q s)));
          place = rw (dv, length-append) (omega arith);
          inside = omega arith;
        };
        small = omega (arith, num.1, ve);
      }

  read_then : (v q : ℕ) (t : Bool) → is_numeral ds ≡ t → on_number (cond {A = Option (ℕ × ℕ)} t (Some (value_from 0 ds, p + length ds)) None) (λ w r. cond {A = Option (ℕ × ℕ)} (eqb (get_or s r 0) b) (Some (w, r + 1)) None) None ≡ Some (v, q) → NumberAt s p b v q
  unfolding on_number
  read_then v q false n h = absurd (none_read h)
  read_then v q true n h = after-digits v q (eqb (get_or s (p + length ds) 0) b) n refl h

  number_at : (v q : ℕ) → number_then s p b ≡ Some (v, q) → NumberAt s p b v q
  unfolding number_then read_number
  number_at v q h = read_then v q (is_numeral ds) refl h

-- what stands there is read
module _ (s : List ℕ) (p b v q : ℕ) (stop : is_digit b ≡ false) (small : v < 100000) (a : At s p (digits v ++ (b ∷ [])) q) where
  rest : drop p s ≡ digits v ++ (b ∷ drop q s)
  rest = a.text ∙ append_assoc (digits v) (b ∷ []) (drop q s)

  read_at : read_number s p ≡ Some (v, p + length (digits v))
  read_at =
      let l : length (take p s) ≡ p = length-take-le p s (omega (arith, a.place, a.inside)) in
      let whole : s ≡ take p s ++ (digits v ++ (b ∷ drop q s)) = sym (take-append-drop p s) ∙ ap (λ (x : List ℕ). take p s ++ x) rest in
      let r = reads-digits v (take p s) (b ∷ drop q s) small stop in
      rw (l, ← whole) at r

  byte_at : get_or s (p + length (digits v)) 0 ≡ b
  byte_at = sym (get_or-drop p s (length (digits v)) 0) ∙ rw rest (get_or-append_seam (digits v) b (drop q s) 0)

  after : q ≡ p + length (digits v) + 1
  after = a.place ∙ rw length-append (omega arith)

  at-number : number_then s p b ≡ Some (v, q)
  unfolding number_then on_number
  at-number = rw (read_at, eq-eqb (get_or s (p + length (digits v)) 0) b byte_at, after)

  at_other : (c : ℕ) → (b ≡ c → ⊥) → number_then s p c ≡ None
  unfolding number_then on_number
  at_other c n = rw (read_at, ne_eqb (get_or s (p + length (digits v)) 0) c (λ (e : get_or s (p + length (digits v)) 0 ≡ c). n (sym byte_at ∙ e)))

-- ---- the numbers of a line

-- the line of the numbers, of which there is one at least
unfoldable pub line_of : List ℕ → List ℕ
line_of [] = []
line_of (v ∷ vs) = line v vs

-- each number has at most five digits
unfoldable pub Small : List ℕ → Type 0
Small [] = Unit {0}
Small (v ∷ vs) = (v < 100000) × Small vs

-- the numbers of a line that stands there
pub record Stands (s : List ℕ) (p : ℕ) (vs : List ℕ) (q : ℕ) : Type 0 where
  pub at : At s p (line_of vs) q
  pub small : Small vs
  pub some : 0 < length vs

module _ (s : List ℕ) where
  stands_one : (p v q : ℕ) → NumberAt s p 10 v q → Stands s p (v ∷ []) q
  unfolding line_of line Small
  stands_one p v q n = record { at = n.at; small = (n.small, tt); some = omega arith }

  stands-more : (p v r : ℕ) (vs : List ℕ) (q : ℕ) → NumberAt s p 32 v r → Stands s r vs q → Stands s p (v ∷ vs) q
  unfolding line_of line Small
  stands-more p v r [] q n t = absurd (omega (arith, t.some))
  stands-more p v r (w ∷ vs) q n t =
      record {
        at = rw (append_assoc (digits v) (32 ∷ []) (line w vs)) at (at_join n.at t.at);
        small = (n.small, t.small);
        some = omega arith;
      }

  abbrev Sound : ℕ → Type 0
  Sound n = (p : ℕ) (vs : List ℕ) (q : ℕ) → fields_of s n p ≡ fields vs q → Stands s p vs q

  last_sound : (p : ℕ) (x : Option (ℕ × ℕ)) → number_then s p 10 ≡ x → (vs : List ℕ) (q : ℕ) → on_number x (λ v r. fields (v ∷ []) r) wrong ≡ fields vs q → Stands s p vs q
  unfolding on_number
  last_sound p (Some (v, r)) e vs q h =
      let n = number_at s p 10 (omega arith) v r e in
      let same : fields (v ∷ []) r ≡ fields vs q = h in
      let a : v ∷ [] ≡ vs = cc in
      let b : r ≡ q = cc in
      rw (← a, ← b) (stands_one p v r n)
  last_sound p None e vs q h = absurd (wrong-fields h)

  before_sound : (p v r : ℕ) (y : Fields) → NumberAt s p 32 v r → ((ws : List ℕ) (z : ℕ) → y ≡ fields ws z → Stands s r ws z) → (vs : List ℕ) (q : ℕ) → before v y ≡ fields vs q → Stands s p vs q
  unfolding before
  before_sound p v r wrong n ih vs q h = absurd (wrong-fields h)
  before_sound p v r (fields ws z) n ih vs q h =
      let same : fields (v ∷ ws) z ≡ fields vs q = h in
      let a : v ∷ ws ≡ vs = cc in
      let b : z ≡ q = cc in
      rw (← a, ← b) (stands-more p v r ws z n (ih ws z refl))

  more_sound : (n p : ℕ) (x : Option (ℕ × ℕ)) → number_then s p 32 ≡ x → Sound n → (vs : List ℕ) (q : ℕ) → on_number x (λ v r. before v (fields_of s n r)) wrong ≡ fields vs q → Stands s p vs q
  unfolding on_number
  more_sound n p (Some (v, r)) e ih vs q h = before_sound p v r (fields_of s n r) (number_at s p 32 (omega arith) v r e) (ih r) vs q h
  more_sound n p None e ih vs q h = absurd (wrong-fields h)

  -- SOUND: the numbers of a line that was read
  pub fields_stand : (n : ℕ) → Sound n
  unfolding fields_of
  fields_stand zero p vs q h = last_sound p (number_then s p 10) refl vs q h
  fields_stand (suc n) p vs q h = more_sound n p (number_then s p 32) refl (fields_stand n) vs q h

  -- COMPLETE: a line that stands there is read
  pub stand_fields : (vs : List ℕ) (v p q : ℕ) → Small (v ∷ vs) → At s p (line v vs) q → fields_of s (length vs) p ≡ fields (v ∷ vs) q
  unfolding fields_of on_number line Small before is_digit
  stand_fields [] v p q m a = rw (at-number s p 10 v q refl m.0 a)
  stand_fields (w ∷ vs) v p q m a =
      let parts = at_split (digits v ++ (32 ∷ [])) (line w vs) (rw (sym (append_assoc (digits v) (32 ∷ []) (line w vs))) at a) in
      let r = p + length (digits v ++ (32 ∷ [])) in
      let h : number_then s p 32 ≡ Some (v, r) = at-number s p 32 v r refl m.0 parts.0 in
      rw (h, stand_fields vs w r q m.1 parts.1)

  -- a line of one number more is no line of suc n numbers
  pub not-fewer : (vs : List ℕ) (v w p q : ℕ) → Small (v ∷ (vs ++ (w ∷ []))) → At s p (line v (vs ++ (w ∷ []))) q → fields_of s (length vs) p ≡ wrong
  unfolding fields_of on_number line Small before is_digit
  not-fewer [] v w p q m a =
      let parts = at_split (digits v ++ (32 ∷ [])) (line w []) (rw (sym (append_assoc (digits v) (32 ∷ []) (line w []))) at a) in
      let g : number_then s p 10 ≡ None = at_other s p 32 v (p + length (digits v ++ (32 ∷ []))) refl m.0 parts.0 10 (λ (e : ◌≡◌ {A = ℕ} 32 10). absurd (omega arith)) in
      rw g
  not-fewer (x ∷ vs) v w p q m a =
      let more = line x (vs ++ (w ∷ [])) in
      let parts = at_split (digits v ++ (32 ∷ [])) more (rw (sym (append_assoc (digits v) (32 ∷ []) more)) at a) in
      let r = p + length (digits v ++ (32 ∷ [])) in
      let h : number_then s p 32 ≡ Some (v, r) = at-number s p 32 v r refl m.0 parts.0 in
      rw (h, not-fewer vs x w r q m.1 parts.1)
