-- The header, test by test, and that it is read just where its text stands. Assumes nothing.
use Rattle.std.specs.Prelude.{Result, Ok, Option, Some, None}
use mathlib.Core.Path.{◌≡◌, refl, sym, ap, ◌∙◌, subst}
use mathlib.Core.Bool.{Bool, true, false, cond, ◌&&◌}
use mathlib.Core.List.{List, [], ◌∷◌, ◌++◌}
use Prim.Native.Nat.{ℕ, ◌≤◌, ◌<◌}
use native.Mathlib.Omega.{arith}
use borrow.Author.Tests.{eqb-true, eq-eqb}
use lib.Dec.{eqb}
use lib.ListN.{length, get_or, drop}
use Rattle.netlist.specs.Valid.{header_ok}
use Rattle.netlist.proofs.EachLaws.{both}
use Rattle.netlist.proofs.ValidLaws.{Header, header}
use Rattle.aiger.specs.Rows.{line}
use Rattle.aiger_lines.specs.declared.Fault.{Fault}
use Rattle.aiger_lines.specs.declared.Fault.TheVariants.{WrongShape, OutOfLimits}
use Rattle.aiger_lines.specs.declared.Line.{Line}
use Rattle.aiger_lines.specs.declared.Head.{Head}
use Rattle.aiger_lines.specs.Fields.{Fields, wrong, fields, fields_of}
use Rattle.aiger_lines.specs.Heads.{heading, misheaded, has_tag, headed, head_at}
use Rattle.aiger_lines.specs.Private.Steps.{Holds, LineIs, head_in, Counted}
use Rattle.aiger_lines.proofs.LineLaws.{byte_inside, none_line, held, fields-length}
use Rattle.aiger_lines.proofs.PlaceLaws.{At, at_join, at_split}
use Rattle.aiger_lines.proofs.FieldLaws.{line_of, Small, fields_stand, stand_fields}

-- ---- test by test

module _ (second : ℕ) (s : List ℕ) where
  pub head_untagged : has_tag second s ≡ false → misheaded WrongShape ≡ head_at second s
  unfolding head_at
  head_untagged h = rw h

  module _ (tag : has_tag second s ≡ true) (o : Option Line) (is : LineIs (fields_of s 4 4) o) where
    headed-wrong : (x : Fields) → LineIs x o → o ≡ None → misheaded WrongShape ≡ headed x
    unfolding LineIs headed
    headed-wrong wrong i h = refl
    headed-wrong (fields vs q) i h = absurd (none_line (sym h ∙ i.1))

    pub head-wrong : o ≡ None → misheaded WrongShape ≡ head_at second s
    unfolding head_at
    head-wrong h = rw tag (headed-wrong (fields_of s 4 4) is h)

    module _ (l : Line) (h : o ≡ Some l) where
      abbrev v : ℕ → ℕ
      v k = get_or l.values k 0

      headed-read : (x : Fields) → LineIs x o
          → headed x ≡ cond (header_ok (v 0) (v 1) (v 2) (v 3) (v 4)) (heading (v 0) (v 1) (v 2) (v 3) (v 4) l.next) (misheaded OutOfLimits)
      unfolding LineIs headed
      headed-read wrong i = absurd (none_line (sym i ∙ h))
      headed-read (fields vs q) i =
          let k : Holds l vs q = held i.0 l vs q i.2 (sym i.1 ∙ h) in
          rw (k.values 0, k.values 1, k.values 2, k.values 3, k.values 4, k.next)

      pub head_bad : header_ok (v 0) (v 1) (v 2) (v 3) (v 4) ≡ false → misheaded OutOfLimits ≡ head_at second s
      unfolding head_at
      head_bad e = rw tag (sym (headed-read (fields_of s 4 4) is ∙ rw e))

      pub head-limits : header_ok (v 0) (v 1) (v 2) (v 3) (v 4) ≡ true → Header (v 0) (v 1) (v 2) (v 3) (v 4)
      head-limits e = header (v 0) (v 1) (v 2) (v 3) (v 4) e

      pub head_good : header_ok (v 0) (v 1) (v 2) (v 3) (v 4) ≡ true
          → heading (v 0) (v 1) (v 2) (v 3) (v 4) l.next ≡ head_at second s
      unfolding head_at
      head_good e = rw tag (sym (headed-read (fields_of s 4 4) is ∙ rw e))

-- ---- the header's text

-- the header whose tag has the second byte given
abbrev pub head_text : ℕ → ℕ → ℕ → ℕ → ℕ → ℕ → List ℕ
head_text second m i l o a = (97 ∷ second ∷ 103 ∷ 32 ∷ []) ++ line m (i ∷ l ∷ o ∷ a ∷ [])

four : (s : List ℕ) → 4 ≤ length s → s ≡ get_or s 0 0 ∷ get_or s 1 0 ∷ get_or s 2 0 ∷ get_or s 3 0 ∷ drop 4 s
four [] h = absurd (omega arith)
four (a ∷ []) h = absurd (omega arith)
four (a ∷ b ∷ []) h = absurd (omega arith)
four (a ∷ b ∷ c ∷ []) h = absurd (omega arith)
four (a ∷ b ∷ c ∷ d ∷ s) h = refl

five : (vs : List ℕ) → length vs ≡ 5 → vs ≡ get_or vs 0 0 ∷ get_or vs 1 0 ∷ get_or vs 2 0 ∷ get_or vs 3 0 ∷ get_or vs 4 0 ∷ []
five [] h = absurd (omega arith)
five (a ∷ []) h = absurd (omega arith)
five (a ∷ b ∷ []) h = absurd (omega arith)
five (a ∷ b ∷ c ∷ []) h = absurd (omega arith)
five (a ∷ b ∷ c ∷ d ∷ []) h = absurd (omega arith)
five (a ∷ b ∷ c ∷ d ∷ e ∷ []) h = refl
five (a ∷ b ∷ c ∷ d ∷ e ∷ f ∷ vs) h = absurd (omega arith)

pub tag_at : (second : ℕ) (s : List ℕ) → has_tag second s ≡ true → At s 0 (97 ∷ second ∷ 103 ∷ 32 ∷ []) 4
unfolding has_tag
tag_at second s h =
    let b1 = both (eqb (get_or s 0 0) 97) (eqb (get_or s 1 0) second && (eqb (get_or s 2 0) 103 && eqb (get_or s 3 0) 32)) h in
    let b2 = both (eqb (get_or s 1 0) second) (eqb (get_or s 2 0) 103 && eqb (get_or s 3 0) 32) b1.1 in
    let b3 = both (eqb (get_or s 2 0) 103) (eqb (get_or s 3 0) 32) b2.1 in
    let d : get_or s 3 0 ≡ 32 = eqb-true (get_or s 3 0) 32 b3.1 in
    let l : 3 < length s = byte_inside s 3 (omega arith) in
    let whole = four s (omega arith) in
    let e : get_or s 0 0 ∷ get_or s 1 0 ∷ get_or s 2 0 ∷ get_or s 3 0 ∷ drop 4 s ≡ 97 ∷ second ∷ 103 ∷ 32 ∷ drop 4 s =
    rw (eqb-true (get_or s 0 0) 97 b1.0, eqb-true (get_or s 1 0) second b2.0, eqb-true (get_or s 2 0) 103 b3.0, d) in
    record { text = whole ∙ e; place = refl; inside = omega arith }

-- what a header that was read says of its text and its numbers
pub record HeadAt (second : ℕ) (s : List ℕ) (m i l o a q : ℕ) : Type 0 where
  pub ok : header_ok m i l o a ≡ true
  pub at : At s 0 (head_text second m i l o a) q

module _ (second : ℕ) (s : List ℕ) where
  misheaded-heading : {e : Fault} {m i l o a q : ℕ} → misheaded e ≡ heading m i l o a q → ⊥
  misheaded-heading h = let z : ◌≡◌ {A = ℕ} 0 1 = cc in omega arith

  module _ (m i l o a q : ℕ) where
    five_head : (v w x y z r : ℕ) (t : Bool) → header_ok v w x y z ≡ t → has_tag second s ≡ true → fields_of s 4 4 ≡ fields (v ∷ w ∷ x ∷ y ∷ z ∷ []) r
        → cond t (heading v w x y z r) (misheaded OutOfLimits) ≡ heading m i l o a q → HeadAt second s m i l o a q
    unfolding line_of
    five_head v w x y z r false ok t e h = absurd (misheaded-heading h)
    five_head v w x y z r true ok t e h =
        let e1 : v ≡ m = cc in
        let e2 : w ≡ i = cc in
        let e3 : x ≡ l = cc in
        let e4 : y ≡ o = cc in
        let e5 : z ≡ a = cc in
        let e6 : r ≡ q = cc in
        rw (← e1, ← e2, ← e3, ← e4, ← e5, ← e6) (record { ok = ok; at = at_join (tag_at second s t) (fields_stand s 4 4 (v ∷ w ∷ x ∷ y ∷ z ∷ []) r e).at })

    fields-head : (x : Fields) → fields_of s 4 4 ≡ x → has_tag second s ≡ true → headed x ≡ heading m i l o a q → HeadAt second s m i l o a q
    unfolding headed
    fields-head wrong e t h = absurd (misheaded-heading h)
    fields-head (fields vs r) e t h =
        let is = five vs (fields-length s 4 4 vs r e) in
        five_head (get_or vs 0 0) (get_or vs 1 0) (get_or vs 2 0) (get_or vs 3 0) (get_or vs 4 0) r (header_ok (get_or vs 0 0) (get_or vs 1 0) (get_or vs 2 0) (get_or vs 3 0) (get_or vs 4 0)) refl t (e ∙ ap (λ (l : List ℕ). fields l r) is) h

    -- SOUND
    pub head_at_lem : head_at second s ≡ heading m i l o a q → HeadAt second s m i l o a q
    unfolding head_at
    head_at_lem h = go (has_tag second s) refl h
      where
        go : (t : Bool) → has_tag second s ≡ t → cond t (headed (fields_of s 4 4)) (misheaded WrongShape) ≡ heading m i l o a q → HeadAt second s m i l o a q
        go true t g = fields-head (fields_of s 4 4) refl t g
        go false t g = absurd (misheaded-heading g)

    -- COMPLETE
    module _ (stands : At s 0 (head_text second m i l o a) q) (few : Small (m ∷ i ∷ l ∷ o ∷ a ∷ [])) where
      head-numbers : head_at second s ≡ headed (fields (m ∷ i ∷ l ∷ o ∷ a ∷ []) q)
      unfolding head_at has_tag
      head-numbers =
          let tagged : has_tag second s ≡ has_tag second (head_text second m i l o a ++ drop q s) = ap (has_tag second) stands.text in
          let own : has_tag second s ≡ true = tagged ∙ rw (eq-eqb second second refl) in
          let numbers : At s 4 (line m (i ∷ l ∷ o ∷ a ∷ [])) q = (at_split (97 ∷ second ∷ 103 ∷ 32 ∷ []) (line m (i ∷ l ∷ o ∷ a ∷ [])) stands).1 in
          rw (own, stand_fields s (i ∷ l ∷ o ∷ a ∷ []) m 4 q few numbers)

      pub head_read : header_ok m i l o a ≡ true → head_at second s ≡ heading m i l o a q
      unfolding headed
      head_read e = head-numbers ∙ rw e

      pub head-fault : header_ok m i l o a ≡ false → head_at second s ≡ misheaded OutOfLimits
      unfolding headed
      head-fault e = head-numbers ∙ rw e

  -- NONE: where no header stands
  pub head-none : ((m i l o a q : ℕ) → Small (m ∷ i ∷ l ∷ o ∷ a ∷ []) → At s 0 (head_text second m i l o a) q → ⊥) → head_at second s ≡ misheaded WrongShape
  unfolding head_at headed line_of
  head-none none = go (has_tag second s) refl (fields_of s 4 4) refl
    where
      go : (t : Bool) → has_tag second s ≡ t → (x : Fields) → fields_of s 4 4 ≡ x → cond t (headed x) (misheaded WrongShape) ≡ misheaded WrongShape
      go false t x e = refl
      go true t wrong e = refl
      go true t (fields vs r) e =
          let is = five vs (fields-length s 4 4 vs r e) in
          let w = fields_stand s 4 4 vs r e in
          absurd (none (get_or vs 0 0) (get_or vs 1 0) (get_or vs 2 0) (get_or vs 3 0) (get_or vs 4 0) r (subst Small is w.small) (at_join (tag_at second s t) (subst (λ (l : List ℕ). At s 4 (line_of l) r) is w.at)))

  -- no count of a header that was read wraps
  pub head-counted : (r : Result Head Fault) (h : Head) → head_in r ≡ head_at second s → r ≡ Ok h → Counted h
  unfolding head_in
  head-counted r h is e =
      let w = head_at_lem h.variables h.inputs h.latches h.outputs h.gates h.next (sym is ∙ ap head_in e) in
      let k = header h.variables h.inputs h.latches h.outputs h.gates w.ok in
      (omega (arith, k.sum, k.small), omega (arith, k.output, k.most), k.small)
