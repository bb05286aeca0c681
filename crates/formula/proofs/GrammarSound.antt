-- What the grammar's readers give is a formula, written where it was read. Assumes nothing.
use mathlib.Core.Path.{◌≡◌, refl, ap, sym, subst, ◌∙◌}
use mathlib.Core.Bool.{Bool, true, false, ◌&&◌}
use mathlib.Core.List.{List, [], ◌∷◌, ◌++◌, append_assoc, append-nil}
use Prim.Native.Nat.{ℕ, zero, suc, ◌+◌, ◌*◌, ◌-◌, ◌≤◌, ◌<◌}
use native.Mathlib.Omega.{arith}
use borrow.Author.Tests.{leb-true, eqb-true, ltb-true, ltb-false}
use lib.Dec.{leb, eqb, ltb}
use lib.ListN.{length, get_or, take, drop, length-append, length-drop, take-append-drop, get_or-eq_default}
use lib.Seq.{drop-drop, get_or-drop, length-take-le, drop-length}
use Rattle.text.specs.Numbers.{digits, leading_digits, value_from}
use Rattle.text.proofs.NumberLaws.{and_both}
use Rattle.formula.specs.declared.Start.{Start}
use Rattle.formula.specs.declared.Start.TheVariants.{Not, Group, Bit, Name, Nothing}
use Rattle.formula.specs.Classes.{pick, class_of, strength_of, is_letter, start_of, run}
use Rattle.formula.specs.Grammar.{
  Tree,
  name,
  bit_of,
  alike,
  bit,
  not,
  group,
  join,
  Got,
  failed,
  got,
  and_then,
  is_index,
  index_of,
  right_of,
  name_of,
  closed,
  operand_of,
  expression_of,
  rest_of,
  none,
  tree,
  whole,
  tree_of,
}
use Rattle.formula.specs.Claims.{written, NameAt, Placed, tightest, binding_of, Grouped, IsFormula}
use Rattle.formula.proofs.Runs.{run-le, run_inside}
use Rattle.formula.proofs.ByteLaws.{here, operator, strength_small, start-not, start-group, start_bit_lem, start-name, letter_starts, run-name}
use Rattle.formula.proofs.IndexLaws.{each_leading, leading_text, index_digits}
use Rattle.formula.proofs.Steps as steps

-- what holds of the tree and of the place past it, where there is one
abbrev pub Gives : (Tree → ℕ → Type 0) → Got → Type 0
Gives P failed = Unit
Gives P (got e to) = P e to

then_gives : (P Q : Tree → ℕ → Type 0) (g : Got) (next : Tree → ℕ → Got) → Gives P g → ((e : Tree) (to : ℕ) → P e to → Gives Q (next e to)) → Gives Q (and_then g next)
unfolding and_then
then_gives P Q failed next h k = tt
then_gives P Q (got e to) next h k = k e to h

past_end : (s : List ℕ) (at : ℕ) → length s ≤ at → strength_of (get_or s at 0) ≡ 0
unfolding strength_of
past_end s at h = ap strength_of (get_or-eq_default s 0 h)

module _ (s : List ℕ) where
  -- the tree e is written in the field from `from` up to `to`
  record Stands (from : ℕ) (e : Tree) (to : ℕ) : Type 0 where
    pub text : drop from s ≡ written s e ++ drop to s
    pub ends : to ≡ from + length (written s e)
    pub more : from < to
    pub inside : to ≤ length s
    pub places : Placed s from e
    pub groups : Grouped e

  -- an operand; and what operators stronger than k join, with no such operator after it
  record Operand (from : ℕ) (e : Tree) (to : ℕ) : Type 0 where
    pub stands : Stands from e to
    pub binds : binding_of e ≡ tightest

  record Expression (k from : ℕ) (e : Tree) (to : ℕ) : Type 0 where
    pub stands : Stands from e to
    pub binds : k < binding_of e
    pub stops : strength_of (get_or s to 0) ≤ k

  -- ---- names

  -- a name stands from `at` on, n long
  record Named (at n : ℕ) : Type 0 where
    pub text : drop at s ≡ take n (drop at s) ++ drop (at + n) s
    pub long : length (take n (drop at s)) ≡ n
    pub some : 0 < n
    pub is : NameAt s at at n

  named : (at : ℕ) → start_of (get_or s at 0) ≡ Name → run (drop at s) ≤ 15 → Named at (run (drop at s))
  named at h short =
      let i = steps.starts s at Name h (omega arith) in
      let z : at + 0 ≡ at = omega arith in
      let letter : get_or (drop at s) 0 0 ≡ get_or s at 0 = get_or-drop at s 0 0 ∙ ap (λ (x : ℕ). get_or s x 0) z in
      record {
        text = sym (take-append-drop (run (drop at s)) (drop at s)) ∙ ap (λ (l : List ℕ). take (run (drop at s)) (drop at s) ++ l) (drop-drop (run (drop at s)) at s);
        long = length-take-le (run (drop at s)) (drop at s) (run-le (drop at s));
        some = steps.named s at h;
        is = (refl, run_inside s at (omega arith), run-name (drop at s) (rw letter (start-name (get_or s at 0) h)) (omega (arith, length-drop at s)) short);
      }

  module _ (at n : ℕ) (name-at : Named at n) where
    bare-stands : Operand at (name at n) (at + n)
    unfolding written Placed Grouped binding_of
    bare-stands =
        record {
          stands = record {
            text = name-at.text;
            ends = omega (arith, name-at.long);
            more = omega (arith, name-at.some);
            inside = name-at.is.1;
            places = name-at.is;
            groups = tt;
          };
          binds = refl;
        }

    -- with what follows it
    name_then : (tail : List ℕ) (to : ℕ) → drop (at + n) s ≡ tail ++ drop to s → drop at s ≡ (take n (drop at s) ++ tail) ++ drop to s
    name_then tail to h = name-at.text ∙ ap (λ (l : List ℕ). take n (drop at s) ++ l) h ∙ sym (append_assoc (take n (drop at s)) tail (drop to s))

    bit_of-stands : (ds : List ℕ) (i to : ℕ) → digits i ≡ ds → to ≡ at + n + 1 + length ds →
        get_or s (at + n) 0 ≡ 91 → drop (at + n + 1) s ≡ ds ++ drop to s → get_or s to 0 ≡ 93 → Operand at (bit_of at n i) (to + 1)
    unfolding written Placed Grouped binding_of
    bit_of-stands ds i to e l opens digits-text closes =
        let before = steps.inside s (at + n) (omega arith) in
        let after = steps.inside s to (omega arith) in
        record {
          stands = record {
            text = name_then (91 ∷ (digits i ++ (93 ∷ []))) (to + 1)
                (here s (at + n) before ∙ rw (opens, digits-text, here s to after, closes, e, append_assoc ds (93 ∷ []) (drop (to + 1) s)));
            ends = rw e (omega (arith, name-at.long, length-append (take n (drop at s)) (91 ∷ (ds ++ (93 ∷ []))), length-append ds (93 ∷ [])));
            more = omega arith;
            inside = omega arith;
            places = name-at.is;
            groups = tt;
          };
          binds = refl;
        }

    index_stands : get_or s (at + n) 0 ≡ 91 → Gives (Operand at) (index_of s at n (at + n + 1) (leading_digits (drop (at + n + 1) s)))
    unfolding index_of
    index_stands opens = go (is_index ds && eqb (get_or s (to + length ds) 0) 93) refl
      where
        to : ℕ
        to = at + n + 1

        ds : List ℕ
        ds = leading_digits (drop to s)

        go : (t : Bool) → (is_index ds && eqb (get_or s (to + length ds) 0) 93) ≡ t →
            Gives (Operand at) (pick t (got (bit_of at n (value_from 0 ds)) (to + length ds + 1)) failed)
        go true x =
            let both = and_both _ _ x in
            bit_of-stands ds (value_from 0 ds) (to + length ds) (index_digits ds (each_leading (drop to s)) both.0) refl opens
            (leading_text (drop to s) ∙ ap (λ (l : List ℕ). ds ++ l) (drop-drop (length ds) to s)) (eqb-true _ _ both.1)
        go false x = tt

    two_stand : (m : ℕ) → get_or s (at + n) 0 ≡ 61 → get_or s (at + n + 1) 0 ≡ 61 → Named (at + n + 2) m → Operand at (alike at n (at + n + 2) m) (at + n + 2 + m)
    unfolding written Placed Grouped binding_of
    two_stand m first second right =
        let z : at + n + 1 + 1 ≡ at + n + 2 = omega arith in
        let i = steps.inside s (at + n) (omega arith) in
        let j = steps.inside s (at + n + 1) (omega arith) in
        record {
          stands = record {
            text = name_then (61 ∷ 61 ∷ take m (drop (at + n + 2) s)) (at + n + 2 + m)
                (here s (at + n) i ∙ rw (first, here s (at + n + 1) j, second, z) (ap (λ (l : List ℕ). 61 ∷ 61 ∷ l) right.text));
            ends = omega (arith, name-at.long, right.long, length-append (take n (drop at s)) (61 ∷ 61 ∷ take m (drop (at + n + 2) s)));
            more = omega arith;
            inside = right.is.1;
            places = (name-at.is, right.is);
            groups = tt;
          };
          binds = refl;
        }

    alike-stands : get_or s (at + n) 0 ≡ 61 → get_or s (at + n + 1) 0 ≡ 61 → Gives (Operand at) (right_of s at n (at + n + 2) (run (drop (at + n + 2) s)))
    unfolding right_of
    alike-stands first second = go (is_letter (class_of (get_or s (at + n + 2) 0)) && leb (run (drop (at + n + 2) s)) 15) refl
      where
        go : (t : Bool) → (is_letter (class_of (get_or s (at + n + 2) 0)) && leb (run (drop (at + n + 2) s)) 15) ≡ t →
            Gives (Operand at) (pick t (got (alike at n (at + n + 2) (run (drop (at + n + 2) s))) (at + n + 2 + run (drop (at + n + 2) s))) failed)
        go true x =
            let both = and_both _ _ x in
            two_stand (run (drop (at + n + 2) s)) first second (named (at + n + 2) (letter_starts (get_or s (at + n + 2) 0) both.0) (leb-true _ _ both.1))
        go false x = tt

  name-stands : (at : ℕ) → start_of (get_or s at 0) ≡ Name → Gives (Operand at) (name_of s at (run (drop at s)))
  unfolding name_of
  name-stands at h = go (leb n 15) refl (eqb (get_or s (at + n) 0) 91) refl (eqb (get_or s (at + n) 0) 61 && eqb (get_or s (at + n + 1) 0) 61) refl
    where
      n : ℕ
      n = run (drop at s)

      go : (t : Bool) → leb n 15 ≡ t → (t2 : Bool) → eqb (get_or s (at + n) 0) 91 ≡ t2 → (t3 : Bool) → (eqb (get_or s (at + n) 0) 61 && eqb (get_or s (at + n + 1) 0) 61) ≡ t3 →
          Gives (Operand at)
          (pick t
          (pick t2 (index_of s at n (at + n + 1) (leading_digits (drop (at + n + 1) s)))
          (pick t3 (right_of s at n (at + n + 2) (run (drop (at + n + 2) s)))
          (got (name at n) (at + n))))
          failed)
      go true x true x2 t3 x3 = index_stands at n (named at h (leb-true _ _ x)) (eqb-true _ _ x2)
      go true x false x2 true x3 = let both = and_both _ _ x3 in alike-stands at n (named at h (leb-true _ _ x)) (eqb-true _ _ both.0) (eqb-true _ _ both.1)
      go true x false x2 false x3 = bare-stands at n (named at h (leb-true _ _ x))
      go false x t2 x2 t3 x3 = tt

  -- a name and what belongs to it end within the field
  pub name-inside : (at : ℕ) (e : Tree) (to : ℕ) → start_of (get_or s at 0) ≡ Name → name_of s at (run (drop at s)) ≡ got e to → (at < to) × (to ≤ length s)
  name-inside at e to h is =
      let o : Operand at e to = subst (Gives (Operand at)) is (name-stands at h) in
      (o.stands.more, o.stands.inside)

  -- ---- other forms

  bit-stands : (at : ℕ) → start_of (get_or s at 0) ≡ Bit → Operand at (bit (get_or s at 0)) (at + 1)
  unfolding written Placed Grouped binding_of
  bit-stands at h =
      let i = steps.starts s at Bit h (omega arith) in
      record {
        stands = record {
          text = here s at i;
          ends = refl;
          more = omega arith;
          inside = omega arith;
          places = start_bit_lem (get_or s at 0) h;
          groups = tt;
        };
        binds = refl;
      }

  not-stands : (at : ℕ) → start_of (get_or s at 0) ≡ Not → (e : Tree) (to : ℕ) → Operand (at + 1) e to → Operand at (not e) to
  unfolding written Placed Grouped binding_of
  not-stands at h e to o =
      let b : get_or s at 0 ≡ 33 = start-not (get_or s at 0) h in
      let i = steps.starts s at Not h (omega arith) in
      record {
        stands = record {
          text = here s at i ∙ rw (b, o.stands.text);
          ends = omega (arith, o.stands.ends);
          more = omega (arith, o.stands.more);
          inside = o.stands.inside;
          places = o.stands.places;
          groups = (omega (arith, o.binds), o.stands.groups);
        };
        binds = refl;
      }

  group-stands : (at : ℕ) → start_of (get_or s at 0) ≡ Group → (e : Tree) (to : ℕ) → Expression 0 (at + 1) e to → Gives (Operand at) (closed s e to)
  unfolding closed written Placed Grouped binding_of
  group-stands at h e to o = go (eqb (get_or s to 0) 41) refl
    where
      go : (t : Bool) → eqb (get_or s to 0) 41 ≡ t → Gives (Operand at) (pick t (got (group e) (to + 1)) failed)
      go true x =
          let b : get_or s at 0 ≡ 40 = start-group (get_or s at 0) h in
          let c : get_or s to 0 ≡ 41 = eqb-true (get_or s to 0) 41 x in
          let i = steps.starts s at Group h (omega arith) in
          let j = steps.inside s to (omega arith) in
          record {
            stands = record {
              text = here s at i ∙ rw (b, o.stands.text, here s to j, c, append_assoc (written s e) (41 ∷ []) (drop (to + 1) s));
              ends = omega (arith, o.stands.ends, length-append (written s e) (41 ∷ []));
              more = omega (arith, o.stands.more);
              inside = omega arith;
              places = o.stands.places;
              groups = o.stands.groups;
            };
            binds = refl;
          }
      go false x = tt

  join_stands : (from at : ℕ) (e e2 : Tree) (to : ℕ) → 0 < strength_of (get_or s at 0) → strength_of (get_or s at 0) ≤ binding_of e →
      Stands from e at → Expression (strength_of (get_or s at 0)) (at + 1) e2 to → Stands from (join (get_or s at 0) e e2) to
  unfolding written Placed Grouped
  join_stands from at e e2 to k left l r =
      record {
        text = l.text ∙ rw (here s at (steps.joins s at 0 k), r.stands.text, append_assoc (written s e) (get_or s at 0 ∷ written s e2) (drop to s));
        ends = omega (arith, l.ends, r.stands.ends, length-append (written s e) (get_or s at 0 ∷ written s e2));
        more = omega (arith, l.more, r.stands.more);
        inside = r.stands.inside;
        places = (operator (get_or s at 0) k, l.places, subst (λ (x : ℕ). Placed s (x + 1) e2) l.ends r.stands.places);
        groups = (left, r.binds, l.groups, r.stands.groups);
      }

  -- what the readers give with enough for the depth of their calls
  record Given (f : ℕ) : Type 0 where
    pub operand : (at : ℕ) → 2 * (length s - at) ≤ f → Gives (Operand at) (operand_of f s at)
    pub expression : (k at : ℕ) → k < tightest → 2 * (length s - at) + 1 ≤ f → Gives (Expression k at) (expression_of f s k at)
    pub rest : (k from at : ℕ) (e : Tree) → 2 * (length s - at) ≤ f → Stands from e at → k < binding_of e → strength_of (get_or s at 0) ≤ binding_of e →
        Gives (Expression k from) (rest_of f s k e at)

  operand_given : (f at : ℕ) → Given f → 2 * (length s - at) ≤ suc f → Gives (Operand at) (operand_of (suc f) s at)
  unfolding strength_of
  operand_given f at h l = go (start_of (get_or s at 0)) refl
    where
      go : (x : Start) → start_of (get_or s at 0) ≡ x → Gives (Operand at) (operand_of (suc f) s at)
      go Not e =
          rw (steps.operand_not f s at e)
          (then_gives (Operand (at + 1)) (Operand at) (operand_of f s (at + 1)) (λ e to. got (not e) to) (h.operand (at + 1) (omega (arith, steps.starts s at Not e (omega arith)))) (not-stands at e))
      go Group e =
          rw (steps.operand_group f s at e)
          (then_gives (Expression 0 (at + 1)) (Operand at) (expression_of f s 0 (at + 1)) (closed s) (h.expression 0 (at + 1) (omega arith) (omega (arith, steps.starts s at Group e (omega arith)))) (group-stands at e))
      go Bit e = rw (steps.operand_bit f s at e) (bit-stands at e)
      go Name e = rw (steps.operand_name f s at e) (name-stands at e)
      go Nothing e = rw (steps.operand_nothing (suc f) s at e) tt

  expression_given : (f k at : ℕ) → Given f → k < tightest → 2 * (length s - at) + 1 ≤ suc f → Gives (Expression k at) (expression_of (suc f) s k at)
  unfolding expression_of
  expression_given f k at h c l =
      then_gives (Operand at) (Expression k at) (operand_of f s at) (λ e to. rest_of f s k e to) (h.operand at (omega arith))
      (λ e to o. h.rest k at to e (omega (arith, o.stands.more)) o.stands (rw o.binds c) (rw o.binds (omega (arith, strength_small (get_or s to 0)))))

  rest-given : (f k from at : ℕ) (e : Tree) → Given f → 2 * (length s - at) ≤ suc f → Stands from e at → k < binding_of e → strength_of (get_or s at 0) ≤ binding_of e →
      Gives (Expression k from) (rest_of (suc f) s k e at)
  unfolding rest_of binding_of
  rest-given f k from at e h l t binds left = go (ltb k (strength_of (get_or s at 0))) refl
    where
      go : (x : Bool) → ltb k (strength_of (get_or s at 0)) ≡ x →
          Gives (Expression k from)
          (elim x [
            | true ↦ and_then (expression_of f s (strength_of (get_or s at 0)) (at + 1)) (λ e2 to. rest_of f s k (join (get_or s at 0) e e2) to)
            | false ↦ got e at
          ])
      go true x =
          let c : k < strength_of (get_or s at 0) = ltb-true k (strength_of (get_or s at 0)) x in
          let i = steps.joins s at k c in
          then_gives (Expression (strength_of (get_or s at 0)) (at + 1)) (Expression k from) (expression_of f s (strength_of (get_or s at 0)) (at + 1)) (λ e2 to. rest_of f s k (join (get_or s at 0) e e2) to)
          (h.expression (strength_of (get_or s at 0)) (at + 1) (strength_small (get_or s at 0)) (omega arith))
          (λ e2 to r. h.rest k from to (join (get_or s at 0) e e2) (omega (arith, r.stands.more)) (join_stands from at e e2 to (omega arith) left t r) c r.stops)
      go false x = record { stands = t; binds = binds; stops = ltb-false k (strength_of (get_or s at 0)) x }

  given : (f : ℕ) → Given f
  unfolding operand_of expression_of rest_of
  given zero =
      record {
        operand = λ at l. tt;
        expression = λ k at c l. tt;
        rest = λ k from at e l t binds left. record { stands = t; binds = binds; stops = omega (arith, past_end s at (omega arith)) };
      }
  given (suc f) =
      let h = given f in
      record {
        operand = λ at l. operand_given f at h l;
        expression = λ k at c l. expression_given f k at h c l;
        rest = λ k from at e l t binds left. rest-given f k from at e h l t binds left;
      }

  -- ---- the whole field

  module _ (e : Tree) (is : tree_of s ≡ tree e) where
    -- the tree of a short field is what is read of all of it
    pub all_read : (length s ≤ 255) × (expression_of (2 * length s + 1) s 0 0 ≡ got e (length s))
    unfolding tree_of whole
    all_read = go (leb (length s) 255) refl (expression_of (2 * length s + 1) s 0 0) refl is
      where
        ended : (e2 : Tree) (to : ℕ) (t : Bool) → eqb to (length s) ≡ t → pick t (tree e2) none ≡ tree e → got e2 to ≡ got e (length s)
        ended e2 to true q x = cc (eqb-true to (length s) q)
        ended e2 to false q x = cc

        go : (t : Bool) → leb (length s) 255 ≡ t → (g : Got) → expression_of (2 * length s + 1) s 0 0 ≡ g → pick t (whole s g) none ≡ tree e → (length s ≤ 255) × (expression_of (2 * length s + 1) s 0 0 ≡ got e (length s))
        go true q (got e2 to) y x = (leb-true _ _ q, y ∙ ended e2 to (eqb to (length s)) refl x)
        go true q failed y x = let z : ◌≡◌ {A = ℕ} 0 1 = cc in absurd (omega arith)
        go false q g y x = let z : ◌≡◌ {A = ℕ} 0 1 = cc in absurd (omega arith)

    pub sound : IsFormula s e
    unfolding strength_of
    sound =
        let r : Stands 0 e (length s) = (subst (Gives (Expression 0 0)) all_read.1 ((given (2 * length s + 1)).expression 0 0 (omega arith) (omega arith))).stands in
        record {
          some = r.more;
          short = all_read.0;
          text = sym (r.text ∙ rw (drop-length s, append-nil));
          places = r.places;
          groups = r.groups;
        }
