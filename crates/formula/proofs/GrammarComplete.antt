-- Every formula is read as its own tree; with `GrammarSound`, the grammar means what it claims.
-- Assumes nothing.
use mathlib.Core.Path.{◌≡◌, refl, ap, sym, ◌∙◌}
use mathlib.Core.Bool.{true, false}
use mathlib.Core.List.{List, [], ◌∷◌, ◌++◌, append_assoc, append-nil, Memᴰ}
use Prim.Native.Nat.{ℕ, zero, suc, ◌+◌, ◌*◌, ◌-◌, ◌≤◌, ◌<◌}
use native.Mathlib.Omega.{arith}
use borrow.Author.Tests.{le-leb, eq-eqb, ne_eqb}
use lib.ListN.{length, get_or, take, drop, length-append, length-drop, get_or-append}
use lib.Seq.{get_or-drop, length-take-le}
use Rattle.text.specs.Numbers.{digits, is_digit, leading_digits}
use Rattle.text.proofs.NumberLaws.{each-digits, value-digits}
use Rattle.formula.specs.declared.Start.TheVariants.{Name}
use Rattle.formula.specs.Classes.{class_of, strength_of, is_letter, is_word_class, start_of, in_name, run, is_name}
use Rattle.formula.specs.Grammar.{
  Tree,
  name,
  bit_of,
  alike,
  bit,
  not,
  group,
  join,
  got,
  and_then,
  index_of,
  right_of,
  name_of,
  closed,
  operand_of,
  expression_of,
  rest_of,
  tree,
  whole,
  tree_of,
}
use Rattle.formula.specs.Claims.{written, operators, NameAt, Placed, tightest, binding_of, Grouped, IsFormula, GrammarMeans}
use Rattle.formula.proofs.ByteLaws.{
  next-byte,
  past-byte,
  past,
  within,
  operator_strength,
  operator_apart,
  strength_small,
  order,
  not-starts,
  group-starts,
  bit-starts,
  bit-not-equals,
  letter_starts,
  not-equals,
  not_twice,
  name-is,
  runs-out,
}
use Rattle.formula.proofs.IndexLaws.{leading_append, digits_index}
use Rattle.formula.proofs.GrammarSound.{sound}
use Rattle.formula.proofs.Steps as steps

-- what follows a form adds nothing to a name: no name byte, no `[` and no `==`
record Apart (rest : List ℕ) : Type 0 where
  pub word : in_name (get_or rest 0 0) ≡ false
  pub square : get_or rest 0 0 ≡ 91 → ⊥
  pub equals : get_or rest 0 0 ≡ 61 → get_or rest 1 0 ≡ 61 → ⊥

apart_end : Apart []
unfolding class_of is_word_class
apart_end = record { word = refl; square = λ e. omega arith; equals = λ e f. omega arith }

apart_closing : (rest : List ℕ) → Apart (41 ∷ rest)
unfolding class_of is_word_class
apart_closing rest = record { word = refl; square = λ e. omega arith; equals = λ e f. omega arith }

apart_operator : (b : ℕ) (rest : List ℕ) → Memᴰ b operators → (get_or rest 0 0 ≡ 61 → ⊥) → Apart (b ∷ rest)
unfolding strength_of
apart_operator b rest m h =
    record { word = operator_apart m; square = λ e. omega (arith, operator_strength m, ap strength_of e); equals = λ e f. h f }

module _ (s : List ℕ) where
  end : ℕ → Tree → ℕ
  end at e = at + length (written s e)

  -- the formula e is written from the place `at` on, and the bytes `rest` after it, which add nothing to a name
  record Ahead (at : ℕ) (e : Tree) (rest : List ℕ) : Type 0 where
    pub text : drop at s ≡ written s e ++ rest
    pub places : Placed s at e
    pub groups : Grouped e
    pub apart : Apart rest

  ahead_not : (at : ℕ) (e : Tree) (rest : List ℕ) → Ahead at (not e) rest → Ahead (at + 1) e rest
  unfolding written Placed Grouped
  ahead_not at e rest a = record { text = past-byte s at 33 _ a.text; places = a.places; groups = a.groups.1; apart = a.apart }

  ahead_group : (at : ℕ) (e : Tree) (rest : List ℕ) → Ahead at (group e) rest → Ahead (at + 1) e (41 ∷ rest)
  unfolding written Placed Grouped
  ahead_group at e rest a =
      record { text = past-byte s at 40 _ a.text ∙ append_assoc (written s e) (41 ∷ []) rest; places = a.places; groups = a.groups; apart = apart_closing rest }

  -- no formula starts with `=`
  name-first : (w rest : List ℕ) → is_name w ≡ true → get_or (w ++ rest) 0 0 ≡ 61 → ⊥
  name-first w rest h e =
      let n = name-is w h in
      not-equals (get_or w 0 0) n.letter (sym (get_or-append w rest 0 0 n.some) ∙ e)

  regroup : (w tail rest : List ℕ) → get_or (w ++ (tail ++ rest)) 0 0 ≡ get_or ((w ++ tail) ++ rest) 0 0
  regroup w tail rest = sym (ap (λ (l : List ℕ). get_or l 0 0) (append_assoc w tail rest))

  first_byte : (e : Tree) (at : ℕ) (rest : List ℕ) → Placed s at e → get_or (written s e ++ rest) 0 0 ≡ 61 → ⊥
  unfolding written Placed
  first_byte (name p n) at rest h e = name-first (take n (drop p s)) rest h.2 e
  first_byte (bit_of p n i) at rest h e =
      let tail : List ℕ = 91 ∷ (digits i ++ (93 ∷ [])) in
      name-first (take n (drop p s)) (tail ++ rest) h.2 (regroup (take n (drop p s)) tail rest ∙ e)
  first_byte (alike p n q m) at rest h e =
      let tail : List ℕ = 61 ∷ 61 ∷ take m (drop q s) in
      name-first (take n (drop p s)) (tail ++ rest) h.0.2 (regroup (take n (drop p s)) tail rest ∙ e)
  first_byte (bit b) at rest h e = bit-not-equals h e
  first_byte (not x) at rest h e = omega arith
  first_byte (group x) at rest h e = omega arith
  first_byte (join b l r) at rest h e = first_byte l at (b ∷ (written s r ++ rest)) h.1 (regroup (written s l) (b ∷ written s r) rest ∙ e)

  module _ (at b : ℕ) (l r : Tree) (rest : List ℕ) (a : Ahead at (join b l r) rest) where
    ahead_left : Ahead at l (b ∷ (written s r ++ rest))
    unfolding written Placed Grouped end
    ahead_left =
        record {
          text = a.text ∙ append_assoc (written s l) (b ∷ written s r) rest;
          places = a.places.1;
          groups = a.groups.2;
          apart = apart_operator b (written s r ++ rest) a.places.0 (first_byte r (end at l + 1) rest a.places.2);
        }

    at_operator : drop (end at l) s ≡ b ∷ (written s r ++ rest)
    unfolding end
    at_operator = past s at (written s l) (b ∷ (written s r ++ rest)) ahead_left.text

    ahead_right : Ahead (end at l + 1) r rest
    unfolding written Placed Grouped end
    ahead_right = record { text = past-byte s (end at l) b _ at_operator; places = a.places.2; groups = a.groups.3; apart = a.apart }

    join_end : (end (end at l + 1) r ≡ end at (join b l r)) × (end at l < end at (join b l r))
    unfolding written end
    join_end = omega (arith, length-append (written s l) (b ∷ written s r))

  after : (at : ℕ) (e : Tree) (rest : List ℕ) → Ahead at e rest → get_or s (end at e) 0 ≡ get_or rest 0 0
  unfolding end
  after at e rest a = next-byte s (end at e) rest (past s at (written s e) rest a.text)

  -- an operand is read as itself; a formula is read as far as itself, with enough left for what follows
  IsOperand : Tree → Type 0
  IsOperand e = (at : ℕ) (rest : List ℕ) (f : ℕ) → Ahead at e rest → tightest ≤ binding_of e → 2 * (length s - at) ≤ f → operand_of f s at ≡ got e (end at e)

  record Read (e : Tree) (k at f : ℕ) : Type 0 where
    pub left : ℕ
    pub enough : 2 * (length s - end at e) ≤ left
    pub is : expression_of f s k at ≡ rest_of left s k e (end at e)

  IsRead : Tree → Type 0
  IsRead e = (at : ℕ) (rest : List ℕ) (k f : ℕ) → Ahead at e rest → k < binding_of e → strength_of (get_or rest 0 0) ≤ binding_of e → 2 * (length s - at) + 1 ≤ f → Read e k at f

  -- where no stronger operator follows, it is read as itself
  stops : (e : Tree) (at : ℕ) (rest : List ℕ) (k f : ℕ) → Ahead at e rest → Read e k at f → strength_of (get_or rest 0 0) ≤ k → expression_of f s k at ≡ got e (end at e)
  stops e at rest k f a r h = r.is ∙ steps.rest_stops r.left s k e (end at e) (rw (after at e rest a) h)

  -- ---- names

  -- a name of n bytes stands at `at`, and `rest` after it
  record NameAhead (at n : ℕ) (rest : List ℕ) : Type 0 where
    pub letter : is_letter (class_of (get_or s at 0)) ≡ true
    pub runs : run (drop at s) ≡ n
    pub short : n ≤ 15
    pub after : drop (at + n) s ≡ rest

  module _ (at p n : ℕ) (is : NameAt s at p n) where
    name-long : length (take n (drop p s)) ≡ n
    name-long = length-take-le n (drop p s) (omega (arith, length-drop p s, is.1))

    name_ahead : (rest : List ℕ) → drop at s ≡ take n (drop p s) ++ rest → in_name (get_or rest 0 0) ≡ false → NameAhead at n rest
    name_ahead rest text stop =
        let w = name-is (take n (drop p s)) is.2 in
        let first : get_or s at 0 ≡ get_or (take n (drop p s)) 0 0 = next-byte s at _ text ∙ get_or-append (take n (drop p s)) rest 0 0 w.some in
        record {
          letter = rw first w.letter;
          runs = ap run text ∙ runs-out (take n (drop p s)) rest w.all stop ∙ name-long;
          short = omega (arith, w.short, name-long);
          after = ap (λ (x : ℕ). drop (at + x) s) (sym name-long) ∙ past s at (take n (drop p s)) rest text;
        }

  name-given : (at n : ℕ) (rest : List ℕ) (f : ℕ) (e : Tree) (to : ℕ) → NameAhead at n rest → 2 * (length s - at) ≤ f → name_of s at n ≡ got e to → operand_of f s at ≡ got e to
  name-given at n rest zero e to a l h = absurd (omega (arith, steps.starts s at Name (letter_starts _ a.letter) (omega arith)))
  name-given at n rest (suc f) e to a l h = rw (steps.operand_name f s at (letter_starts _ a.letter), a.runs) h

  bare-given : (at n : ℕ) (rest : List ℕ) → NameAhead at n rest → Apart rest → name_of s at n ≡ got (name at n) (at + n)
  unfolding name_of
  bare-given at n rest a apart =
      let here : get_or s (at + n) 0 ≡ get_or rest 0 0 = next-byte s (at + n) rest a.after in
      let next : get_or s (at + n + 1) 0 ≡ get_or rest 1 0 = sym (get_or-drop (at + n) s 1 0) ∙ ap (λ (l : List ℕ). get_or l 1 0) a.after in
      rw (le-leb n 15 a.short, here, next, ne_eqb (get_or rest 0 0) 91 apart.square, not_twice (get_or rest 0 0) (get_or rest 1 0) apart.equals)

  index_given : (at n i : ℕ) (rest : List ℕ) → NameAhead at n (91 ∷ (digits i ++ (93 ∷ rest))) → name_of s at n ≡ got (bit_of at n i) (at + n + 1 + length (digits i) + 1)
  unfolding name_of index_of is_digit
  index_given at n i rest a =
      let tail : drop (at + n + 1) s ≡ digits i ++ (93 ∷ rest) = past-byte s (at + n) 91 _ a.after in
      let first : get_or s (at + n) 0 ≡ 91 = next-byte s (at + n) _ a.after in
      let ds : leading_digits (drop (at + n + 1) s) ≡ digits i = ap leading_digits tail ∙ leading_append (digits i) (93 ∷ rest) (each-digits i) refl in
      let last : get_or s (at + n + 1 + length (digits i)) 0 ≡ 93 = next-byte s _ _ (past s (at + n + 1) (digits i) (93 ∷ rest) tail) in
      rw (le-leb n 15 a.short, first, ds, digits_index i, last, value-digits i)

  two-given : (at n m : ℕ) (right rest : List ℕ) → NameAhead at n (61 ∷ 61 ∷ right) → NameAhead (at + n + 2) m rest → name_of s at n ≡ got (alike at n (at + n + 2) m) (at + n + 2 + m)
  unfolding name_of right_of
  two-given at n m right rest a b =
      let first : get_or s (at + n) 0 ≡ 61 = next-byte s (at + n) _ a.after in
      let second : get_or s (at + n + 1) 0 ≡ 61 = next-byte s (at + n + 1) _ (past-byte s (at + n) 61 _ a.after) in
      rw (le-leb n 15 a.short, first, second, b.letter, b.runs, le-leb m 15 b.short)

  name_operand : (p n : ℕ) → IsOperand (name p n)
  unfolding IsOperand end written Placed
  name_operand p n at rest f a b l =
      let w = name_ahead at p n a.places rest a.text a.apart.word in
      name-given at n rest f (name p n) _ w l (bare-given at n rest w a.apart ∙ rw (name-long at p n a.places, a.places.0))

  bit_of_operand : (p n i : ℕ) → IsOperand (bit_of p n i)
  unfolding IsOperand end written Placed class_of is_word_class
  bit_of_operand p n i at rest f a b l =
      let tail : List ℕ = 91 ∷ (digits i ++ (93 ∷ [])) in
      let text : drop at s ≡ take n (drop p s) ++ (91 ∷ (digits i ++ (93 ∷ rest))) =
      a.text ∙ append_assoc (take n (drop p s)) tail rest ∙ ap (λ (x : List ℕ). take n (drop p s) ++ (91 ∷ x)) (append_assoc (digits i) (93 ∷ []) rest) in
      let w = name_ahead at p n a.places _ text refl in
      let to : at + n + 1 + length (digits i) + 1 ≡ at + length (take n (drop p s) ++ tail) =
      omega (arith, name-long at p n a.places, length-append (take n (drop p s)) tail, length-append (digits i) (93 ∷ [])) in
      name-given at n _ f (bit_of p n i) _ w l (index_given at n i rest w ∙ rw (to, a.places.0))

  alike_operand : (p n q m : ℕ) → IsOperand (alike p n q m)
  unfolding IsOperand end written Placed class_of is_word_class
  alike_operand p n q m at rest f a b l =
      let tail : List ℕ = 61 ∷ 61 ∷ take m (drop q s) in
      let w = name_ahead at p n a.places.0 _ (a.text ∙ append_assoc (take n (drop p s)) tail rest) refl in
      let z : at + n + 1 + 1 ≡ at + n + 2 = omega arith in
      let second : drop (at + n + 2) s ≡ take m (drop q s) ++ rest = ap (λ (x : ℕ). drop x s) (sym z) ∙ past-byte s (at + n + 1) 61 _ (past-byte s (at + n) 61 _ w.after) in
      let v = name_ahead (at + n + 2) q m a.places.1 rest second a.apart.word in
      let to : at + n + 2 + m ≡ at + length (take n (drop p s) ++ tail) =
      omega (arith, name-long at p n a.places.0, name-long (at + n + 2) q m a.places.1, length-append (take n (drop p s)) tail) in
      name-given at n _ f (alike p n q m) _ w l (two-given at n m _ rest w v ∙ rw (to, a.places.0.0, a.places.1.0))

  bit_operand : (b : ℕ) → IsOperand (bit b)
  unfolding IsOperand end written Placed
  bit_operand b at rest zero a t l = absurd (omega (arith, within s at b _ a.text))
  bit_operand b at rest (suc f) a t l =
      let first : get_or s at 0 ≡ b = next-byte s at _ a.text in
      steps.operand_bit f s at (ap start_of first ∙ bit-starts a.places) ∙ ap (λ (x : ℕ). got (bit x) (at + 1)) first

  not_operand : (e : Tree) → IsOperand e → IsOperand (not e)
  unfolding IsOperand end written Grouped and_then
  not_operand e h at rest zero a t l = absurd (omega (arith, within s at 33 _ a.text))
  not_operand e h at rest (suc f) a t l =
      let first : get_or s at 0 ≡ 33 = next-byte s at _ a.text in
      let inner : operand_of f s (at + 1) ≡ got e (at + 1 + length (written s e)) = h (at + 1) rest f (ahead_not at e rest a) a.groups.0 (omega (arith, within s at 33 _ a.text)) in
      let z : at + 1 + length (written s e) ≡ at + suc (length (written s e)) = omega arith in
      rw (steps.operand_not f s at (not-starts _ first), inner, z)

  -- every formula holds together tighter than nothing
  binds : (e : Tree) (at : ℕ) → Placed s at e → 0 < binding_of e
  unfolding binding_of Placed strength_of
  binds (name p n) at h = omega arith
  binds (bit_of p n i) at h = omega arith
  binds (alike p n q m) at h = omega arith
  binds (bit b) at h = omega arith
  binds (not e) at h = omega arith
  binds (group e) at h = omega arith
  binds (join b l r) at h = operator_strength h.0

  group_operand : (e : Tree) → IsRead e → IsOperand (group e)
  unfolding IsOperand IsRead end written and_then closed strength_of
  group_operand e h at rest zero a t l = absurd (omega (arith, within s at 40 _ a.text))
  group_operand e h at rest (suc f) a t l =
      let i = ahead_group at e rest a in
      let first : get_or s at 0 ≡ 40 = next-byte s at _ a.text in
      let inner : expression_of f s 0 (at + 1) ≡ got e (at + 1 + length (written s e)) =
      stops e (at + 1) (41 ∷ rest) 0 f i (h (at + 1) (41 ∷ rest) 0 f i (binds e (at + 1) i.places) (omega arith) (omega (arith, within s at 40 _ a.text))) (omega arith) in
      let last : get_or s (at + 1 + length (written s e)) 0 ≡ 41 = after (at + 1) e (41 ∷ rest) i in
      let z : at + 1 + length (written s e) + 1 ≡ at + suc (length (written s e ++ (41 ∷ []))) = omega (arith, length-append (written s e) (41 ∷ [])) in
      rw (steps.operand_group f s at (group-starts _ first), inner, last, z)

  -- an operand by itself is a formula
  alone : (e : Tree) → binding_of e ≡ tightest → IsOperand e → IsRead e
  unfolding IsOperand IsRead end expression_of and_then
  alone e t h at rest k zero a b n l = absurd (omega arith)
  alone e t h at rest k (suc f) a b n l = record { left = f; enough = omega arith; is = rw (h at rest f a (omega (arith, t)) (omega arith)) }

  join-read : (b : ℕ) (l r : Tree) → IsRead l → IsRead r → IsRead (join b l r)
  unfolding IsRead binding_of Grouped and_then
  join-read b l r hl hr at rest k f a c n en =
      let g = a.groups in
      let left = hl at (b ∷ (written s r ++ rest)) k f (ahead_left at b l r rest a) (omega arith) g.0 en in
      go left.left left.enough left.is
    where
      inside : end at l < length s
      inside = within s (end at l) b _ (at_operator at b l r rest a)

      first : get_or s (end at l) 0 ≡ b
      first = next-byte s (end at l) _ (at_operator at b l r rest a)

      right : (f : ℕ) → 2 * (length s - (end at l + 1)) + 1 ≤ f → expression_of f s (strength_of b) (end at l + 1) ≡ got r (end at (join b l r))
      right f en =
          let i = ahead_right at b l r rest a in
          stops r (end at l + 1) rest (strength_of b) f i (hr (end at l + 1) rest (strength_of b) f i a.groups.1 (omega (arith, a.groups.1)) en) n
          ∙ ap (got r) (join_end at b l r rest a).0

      go : (g : ℕ) → 2 * (length s - end at l) ≤ g → expression_of f s k at ≡ rest_of g s k l (end at l) → Read (join b l r) k at f
      go zero en is = absurd (omega (arith, inside))
      go (suc g) en is =
          let goes = steps.rest_goes g s k l (end at l) (rw first c) in
          record {
            left = g;
            enough = omega (arith, inside, (join_end at b l r rest a).1);
            is = is ∙ goes ∙ rw (first, right g (omega (arith, inside)));
          }

  record Reads (e : Tree) : Type 0 where
    pub operand : IsOperand e
    pub formula : IsRead e

  reads : (e : Tree) → Reads e
  unfolding IsOperand binding_of
  reads (name p n) = record { operand = name_operand p n; formula = alone (name p n) refl (name_operand p n) }
  reads (bit_of p n i) = record { operand = bit_of_operand p n i; formula = alone (bit_of p n i) refl (bit_of_operand p n i) }
  reads (alike p n q m) = record { operand = alike_operand p n q m; formula = alone (alike p n q m) refl (alike_operand p n q m) }
  reads (bit b) = record { operand = bit_operand b; formula = alone (bit b) refl (bit_operand b) }
  reads (not e) = let h = not_operand e (reads e).operand in record { operand = h; formula = alone (not e) refl h }
  reads (group e) = let h = group_operand e (reads e).formula in record { operand = h; formula = alone (group e) refl h }
  reads (join b l r) =
      record {
        operand = λ at rest f a t n. absurd (omega (arith, strength_small b));
        formula = join-read b l r (reads l).formula (reads r).formula;
      }

  module _ (e : Tree) (h : IsFormula s e) where
    all : Ahead 0 e []
    all = record { text = sym (append-nil (written s e) ∙ h.text); places = h.places; groups = h.groups; apart = apart_end }

    to_end : end 0 e ≡ length s
    unfolding end
    to_end = omega (arith, ap length h.text)

    pub complete : tree_of s ≡ tree e
    unfolding tree_of whole IsRead strength_of
    complete =
        let r = (reads e).formula 0 [] 0 (2 * length s + 1) all (binds e 0 h.places) (omega arith) (omega arith) in
        rw (le-leb (length s) 255 h.short, stops e 0 [] 0 (2 * length s + 1) all r (omega arith), eq-eqb (end 0 e) (length s) to_end)

pub grammar_means : (s : List ℕ) → GrammarMeans s
grammar_means s = record { order = order; only = sound s; every = complete s }
