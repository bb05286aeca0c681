-- The numbers of a line, read one by one, and what is made of a line that was read. Assumes nothing.
use Rattle.std.specs.Prelude.{Option, Some, None, Result, Ok, Err}
use Rattle.std.specs.Option.{ok_or, MatchOption}
use mathlib.Core.Path.{◌≡◌, refl, sym, ap, ◌∙◌}
use mathlib.Core.List.{List, [], ◌∷◌, ◌++◌, append_assoc}
use Prim.Native.Nat.{ℕ, zero, suc, ◌+◌, ◌-◌, ◌≤◌, ◌<◌}
use native.Mathlib.Numerals.{add-one}
use native.Mathlib.Omega.{arith}
use native.Mathlib.Decide.{dec_lt}
use lib.ListN.{length, get_or, take, set, length-set, length-take, get_or-eq_default}
use lib.Seq.{take-suc-set, get_or-set_other, get_or-take}
use Rattle.aiger_lines.specs.declared.Fault.{Fault}
use Rattle.aiger_lines.specs.declared.Fault.TheVariants.{WrongShape}
use Rattle.aiger_lines.specs.declared.Line.{Line}
use Rattle.aiger_lines.specs.Fields.{Fields, wrong, fields, on_number, number_then, before, fields_of, either_of}
use Rattle.aiger_lines.specs.Lines.{Row, fault, judged}
use Rattle.aiger_lines.specs.Private.Steps.{Holds, LineIs}

-- a byte that is not 0 stands within the text
pub byte_inside : (s : List ℕ) (p : ℕ) → 1 ≤ get_or s p 0 → p < length s
byte_inside s p h = elim (dec_lt p (length s)) [ yes l ↦ l | no l ↦ absurd (omega (arith, get_or-eq_default s 0 {n = p} (omega arith))) ]

-- ---- the loop over a line's numbers

unfoldable pub infront : List ℕ → Fields → Fields
infront vs wrong = wrong
infront vs (fields ws q) = fields (vs ++ ws) q

infront_none : (x : Fields) → infront [] x ≡ x
unfolding infront
infront_none wrong = refl
infront_none (fields ws q) = refl

infront_before : (vs : List ℕ) (v : ℕ) (x : Fields) → infront vs (before v x) ≡ infront (vs ++ (v ∷ [])) x
unfolding infront before
infront_before vs v wrong = refl
infront_before vs v (fields ws q) = rw append_assoc

-- after k numbers: they stand first, and the others are still to come
pub record Reading (s : List ℕ) (at last : ℕ) (values : List ℕ) (p k : ℕ) : Type 0 where
  pub within : k ≤ last
  pub five : length values ≡ 5
  pub zeros : (j : ℕ) → k ≤ j → get_or values j 0 ≡ 0
  pub rest : infront (take k values) (fields_of s (last - k) p) ≡ fields_of s last at

abbrev pub zeros : List ℕ
zeros = 0 ∷ 0 ∷ 0 ∷ 0 ∷ 0 ∷ []

no_values : (j : ℕ) → get_or zeros j 0 ≡ 0
no_values zero = refl
no_values (suc zero) = refl
no_values (suc (suc zero)) = refl
no_values (suc (suc (suc zero))) = refl
no_values (suc (suc (suc (suc zero)))) = refl
no_values (suc (suc (suc (suc (suc j))))) = refl

module _ (s : List ℕ) (at last : ℕ) where
  pub reading_start : Reading s at last zeros at 0
  reading_start =
      let e : last - 0 ≡ last = omega arith in
      record { within = omega arith; five = refl; zeros = λ j h. no_values j; rest = rw e (infront_none (fields_of s last at)) }

  module _ {values : List ℕ} {p k : ℕ} (r : Reading s at last values p k) where
    pub reading_next : (v q : ℕ) → last ≤ 4 → k < last → number_then s p 32 ≡ Some (v, q) → Reading s at last (set values k v) q (k + 1)
    unfolding fields_of on_number
    reading_next v q small h e =
        let l : k < length values = omega (arith, r.five) in
        let n : last - k ≡ suc (last - (k + 1)) = omega arith in
        let t : take (k + 1) (set values k v) ≡ take k values ++ (v ∷ []) = rw (add-one k) (take-suc-set values k v l) in
        let d : fields_of s (last - k) p ≡ before v (fields_of s (last - (k + 1)) q) = rw (n, fields_of, e) in
        record {
          within = omega arith;
          five = length-set values k v ∙ r.five;
          zeros = λ j g. get_or-set_other values k j v 0 (λ (x : j ≡ k). absurd (omega arith)) ∙ r.zeros j (omega arith);
          rest = rw t (sym (infront_before (take k values) v (fields_of s (last - (k + 1)) q)) ∙ ap (infront (take k values)) (sym d) ∙ r.rest);
        }

    pub reading_stop : k < last → number_then s p 32 ≡ None → fields_of s last at ≡ wrong
    unfolding fields_of on_number infront
    reading_stop h e =
        let n : last - k ≡ suc (last - (k + 1)) = omega arith in
        let d : fields_of s (last - k) p ≡ wrong = rw (n, fields_of, e) in
        sym r.rest ∙ ap (infront (take k values)) d

    pub reading_none : last ≤ k → number_then s p 10 ≡ None → fields_of s last at ≡ wrong
    unfolding fields_of on_number infront
    reading_none h e =
        let n : last - k ≡ 0 = omega arith in
        let d : fields_of s (last - k) p ≡ wrong = rw (n, fields_of, e) in
        sym r.rest ∙ ap (infront (take k values)) d

    pub reading_last : (v q : ℕ) → last ≤ 4 → last ≤ k → number_then s p 10 ≡ Some (v, q) → (l : Line) → l.next ≡ q → l.values ≡ set values last v → LineIs (fields_of s last at) (Some l)
    unfolding fields_of on_number infront LineIs
    reading_last v q small h e l nx vs =
        let n : last - k ≡ 0 = omega arith in
        let w : k ≡ last = omega (arith, r.within) in
        let i : last < length values = omega (arith, r.five) in
        let d : fields_of s (last - k) p ≡ fields (v ∷ []) q = rw (n, fields_of, e) in
        let t : take (suc last) (set values last v) ≡ take k values ++ (v ∷ []) = rw w (take-suc-set values last v i) in
        let full : fields_of s last at ≡ fields (take (suc last) (set values last v)) q = sym r.rest ∙ ap (infront (take k values)) d ∙ rw t in
        rw full (
          l,
          refl,
          record {
            next = nx;
            values = λ j. ap (λ (x : List ℕ). get_or x j 0) vs ∙ same j (dec_lt j (suc last));
          },
        )
      where
        same : (j : ℕ) → Dec (j < suc last) → get_or (set values last v) j 0 ≡ get_or (take (suc last) (set values last v)) j 0
        same j (yes g) = sym (get_or-take (suc last) (set values last v) j 0 g)
        same j (no g) =
            get_or-set_other values last j v 0 (λ (x : j ≡ last). absurd (omega arith))
            ∙ r.zeros j (omega (arith, r.within))
            ∙ sym (get_or-eq_default (take (suc last) (set values last v)) 0 {n = j} (rw length-take (omega arith)))

-- another shape
pub misshapen : (x : Fields) → x ≡ wrong → LineIs x None
unfolding LineIs
misshapen x e = rw e refl

-- ---- a line that was read

pub none_line : {l : Line} → None ≡ Some l → ⊥
none_line h = let z : ◌≡◌ {A = ℕ} 0 1 = cc in omega arith

err_ok : {T : Type 0} {e : Fault} {l : T} → ◌≡◌ {A = Result T Fault} (Err e) (Ok l) → ⊥
err_ok h = let z : ◌≡◌ {A = ℕ} 0 1 = cc in omega arith

pub held : (m l : Line) (vs : List ℕ) (q : ℕ) → Holds m vs q → Some m ≡ Some l → Holds l vs q
held m l vs q is h = let e : m ≡ l = cc in rw e at is

-- what is made of a wrong shape
pub judged-wrong : (x : Fields) (r : Option Line) → LineIs x r → r ≡ None → (f : List ℕ → ℕ → Row) → fault WrongShape ≡ judged x f
unfolding LineIs judged
judged-wrong wrong r is h f = refl
judged-wrong (fields vs q) r is h f = absurd (none_line (sym h ∙ is.1))

-- what is made of the numbers
pub judged_as : (x : Fields) (o : Option Line) (l : Line) → LineIs x o → o ≡ Some l → (f : List ℕ → ℕ → Row) (r : Row)
    → ((vs : List ℕ) → ((k : ℕ) → get_or l.values k 0 ≡ get_or vs k 0) → r ≡ f vs l.next) → r ≡ judged x f
unfolding LineIs judged
judged_as wrong o l is h f r g = absurd (none_line (sym is ∙ h))
judged_as (fields vs q) o l is h f r g = let i : Holds l vs q = held is.0 l vs q is.2 (sym is.1 ∙ h) in g vs i.values ∙ ap (f vs) i.next

-- what was read, or the fault of a wrong shape
module _ {T : Type 0} (o : Option T) {r : Result T Fault} (is : r ≡ ok_or o WrongShape) where
  pub shape_none : {e : Fault} → r ≡ Err e → (o ≡ None) × (e ≡ WrongShape)
  shape_none {e} h = go o (sym h ∙ is)
    where
      go : (x : Option T) → Err e ≡ ok_or x WrongShape → (x ≡ None) × (e ≡ WrongShape)
      go None h = (refl, cc)
      go (Some l) h = absurd (err_ok h)

  pub shape_some : {l : T} → r ≡ Ok l → o ≡ Some l
  shape_some {l} h = go o (sym h ∙ is)
    where
      go : (x : Option T) → Ok l ≡ ok_or x WrongShape → x ≡ Some l
      go None h = absurd (err_ok (sym h))
      go (Some m) h = cc

-- ---- as many numbers as asked for

unfoldable numbers_of_lem : Fields → List ℕ
numbers_of_lem wrong = []
numbers_of_lem (fields vs q) = vs

pub wrong-fields : {vs : List ℕ} {q : ℕ} → wrong ≡ fields vs q → ⊥
wrong-fields h = let z : ◌≡◌ {A = ℕ} 0 1 = cc in omega arith

first-length : (x : Option (ℕ × ℕ)) (vs : List ℕ) (q : ℕ) → on_number x (λ v r. fields (v ∷ []) r) wrong ≡ fields vs q → length vs ≡ 1
unfolding on_number numbers_of_lem
first-length (Some (v, r)) vs q h = ap length (sym (ap numbers_of_lem h))
first-length None vs q h = absurd (wrong-fields h)

before-length : (v : ℕ) (y : Fields) (n : ℕ) (vs : List ℕ) (q : ℕ) → ((ws : List ℕ) (r : ℕ) → y ≡ fields ws r → length ws ≡ n) → before v y ≡ fields vs q → length vs ≡ suc n
unfolding before numbers_of_lem
before-length v wrong n vs q ih h = absurd (wrong-fields h)
before-length v (fields ws r) n vs q ih h = ap length (sym (ap numbers_of_lem h)) ∙ ap suc (ih ws r refl)

more-length : (s : List ℕ) (x : Option (ℕ × ℕ)) (n m : ℕ) (vs : List ℕ) (q : ℕ) → ((p : ℕ) (ws : List ℕ) (r : ℕ) → fields_of s n p ≡ fields ws r → length ws ≡ m) → on_number x (λ v r. before v (fields_of s n r)) wrong ≡ fields vs q → length vs ≡ suc m
unfolding on_number
more-length s (Some (v, r)) n m vs q ih h = before-length v (fields_of s n r) m vs q (ih r) h
more-length s None n m vs q ih h = absurd (wrong-fields h)

pub fields-length : (s : List ℕ) (n p : ℕ) (vs : List ℕ) (q : ℕ) → fields_of s n p ≡ fields vs q → length vs ≡ suc n
unfolding fields_of
fields-length s zero p vs q h = first-length (number_then s p 10) vs q h
fields-length s (suc n) p vs q h = more-length s (number_then s p 32) n (suc n) vs q (fields-length s n) h

-- ---- suc n numbers, or one more

module _ (s : List ℕ) (n p : ℕ) where
  pub or-fewer : (vs : List ℕ) (q : ℕ) → fields_of s n p ≡ fields vs q → either_of s n p ≡ fields vs q
  unfolding either_of
  or-fewer vs q e = rw e

  pub or-more : fields_of s n p ≡ wrong → either_of s n p ≡ fields_of s (suc n) p
  unfolding either_of
  or-more e = rw e

  -- the shorter line where it is one, or else the longer
  pub either-read : (o r : Option Line) {P : Type 0} {Q : Line → Type 0} → LineIs (fields_of s n p) o → MatchOption o P Q
      → (P → LineIs (fields_of s (n + 1) p) r) → ((l : Line) → Q l → r ≡ Some l) → LineIs (either_of s n p) r
  unfolding LineIs
  either-read o r {P} {Q} is given none some = go (fields_of s n p) refl o is given
    where
      go : (x : Fields) → fields_of s n p ≡ x → (o : Option Line) → LineIs x o → MatchOption o P Q → LineIs (either_of s n p) r
      go wrong e None i h = rw (or-more e) (rw (add-one n) at none h)
      go wrong e (Some l) i h = absurd (none_line (sym i))
      go (fields vs q) e None i h = absurd (none_line i.1)
      go (fields vs q) e (Some l) i h = rw (or-fewer vs q e) (i.0, some l h ∙ i.1, i.2)
