-- What each kind of line says, test by test, of a line whose numbers were read. Assumes nothing.
use Rattle.std.specs.Prelude.{Option, Some, None}
use mathlib.Core.Path.{◌≡◌, refl, ap, ◌∙◌}
use mathlib.Core.Bool.{Bool, true, false, not, ◌&&◌}
use mathlib.Core.List.{List, [], ◌∷◌}
use Prim.Native.Nat.{ℕ, ◌-◌, ◌*◌, ◌/◌, ◌%◌, ◌≤◌, ◌<◌}
use native.Mathlib.Omega.{arith}
use borrow.Author.Tests.{le-leb, leb-true, eq-eqb, ne_eqb, eqb-true, eqb-false, not-true}
use lib.Dec.{eqb, leb}
use lib.ListN.{length, get_or}
use lib.Seq.{sets}
use Rattle.netlist.specs.Literals.{literal_of, variable_of, is_inverted}
use Rattle.netlist.proofs.EachLaws.{both}
use Rattle.netlist.proofs.LiteralLaws.{literal-plain, literal-inverted, inverted-literal, variable-within}
use Rattle.aiger_lines.specs.declared.Fault.TheVariants.{WrongShape, OutOfLimits}
use Rattle.aiger_lines.specs.declared.Line.{Line}
use Rattle.aiger_lines.specs.Fields.{fields_of, either_of}
use Rattle.aiger_lines.specs.Lines.{Row, row, fault, latch_says}
use Rattle.aiger_lines.specs.Private.Steps.{LineIs}
use Rattle.aiger_lines.proofs.LineLaws.{judged-wrong, judged_as}
use Rattle.aiger_read.specs.Lines.{input_at, latch_at, undefined, gate_place, gate_fits, gate_at}
use Rattle.aiger_read.specs.Private.Steps.{HasPlaces}

module _ (s : List ℕ) (free p : ℕ) (o : Option Line) where
  module _ (is : LineIs (fields_of s 0 p) o) where
    pub input-wrong : (lit : ℕ) → o ≡ None → fault WrongShape ≡ input_at s lit free p
    unfolding input_at
    input-wrong lit h = judged-wrong (fields_of s 0 p) o is h _

    pub input_bad : (lit : ℕ) (l : Line) → o ≡ Some l → (get_or l.values 0 0 ≡ lit → ⊥) → fault OutOfLimits ≡ input_at s lit free p
    unfolding input_at
    input_bad lit l h n = judged_as (fields_of s 0 p) o l is h _ _ (λ vs e. rw (← e 0) (rw (ne_eqb (get_or l.values 0 0) lit n)))

    pub input_good : (lit : ℕ) (l : Line) → o ≡ Some l → get_or l.values 0 0 ≡ lit → row [] free l.next ≡ input_at s lit free p
    unfolding input_at
    input_good lit l h n = judged_as (fields_of s 0 p) o l is h _ _ (λ vs e. rw (← e 0) (rw (eq-eqb (get_or l.values 0 0) lit n)))

  module _ (is : LineIs (either_of s 1 p) o) (last lit : ℕ) where
    pub latch_wrong : o ≡ None → fault WrongShape ≡ latch_at s last lit free p
    unfolding latch_at
    latch_wrong h = judged-wrong (either_of s 1 p) o is h _

    pub latch_other : (l : Line) → o ≡ Some l → (get_or l.values 0 0 ≡ lit → ⊥) → fault OutOfLimits ≡ latch_at s last lit free p
    unfolding latch_at
    latch_other l h n = judged_as (either_of s 1 p) o l is h _ _ (λ vs e. rw (← e 0) (rw (ne_eqb (get_or l.values 0 0) lit n)))

    pub latch_own : (l : Line) → o ≡ Some l → get_or l.values 0 0 ≡ lit → (r : Row) → r ≡ latch_says last lit free (get_or l.values 1 0) (get_or l.values 2 0) l.next → r ≡ latch_at s last lit free p
    unfolding latch_at
    latch_own l h n r x =
        judged_as (either_of s 1 p) o l is h _ _
        (λ vs e. rw (← e 0, ← e 1, ← e 2) (rw (eq-eqb (get_or l.values 0 0) lit n) x))

-- ---- gates

-- three numbers define a gate: the literal of a variable from `first` to m that has no operands in ops, and two literals
pub record GateFits (first m : ℕ) (ops : List ℕ) (lit r0 r1 : ℕ) : Type 0 where
  pub own : lit ≡ literal_of (variable_of lit) false
  pub from : first ≤ variable_of lit
  pub to : variable_of lit ≤ m
  pub left : r0 ≤ literal_of m true
  pub right : r1 ≤ literal_of m true
  pub fresh : get_or ops (2 * (variable_of lit - first)) 0 ≡ undefined

plain-literal : (lit : ℕ) → not (is_inverted lit) ≡ true → lit ≡ literal_of (variable_of lit) false
unfolding is_inverted variable_of
plain-literal lit h =
    let n : lit % 2 ≡ 1 → ⊥ = eqb-false (lit % 2) 1 (not-true (eqb (lit % 2) 1) h) in
    omega (arith, literal-plain (lit / 2))

-- the tests of a gate's numbers, and back
module _ (first m : ℕ) (ops : List ℕ) where
  pub gate-tests : (vs : List ℕ) → gate_fits first m ops vs ≡ true → GateFits first m ops (get_or vs 0 0) (get_or vs 1 0) (get_or vs 2 0)
  unfolding gate_fits gate_place
  gate-tests vs h =
      let lit = get_or vs 0 0 in
      let t6 = eqb (get_or ops (2 * (variable_of lit - first)) 0) undefined in
      let t5 = leb (get_or vs 2 0) (literal_of m true) && t6 in
      let t4 = leb (get_or vs 1 0) (literal_of m true) && t5 in
      let t3 = leb (variable_of lit) m && t4 in
      let t2 = leb first (variable_of lit) && t3 in
      let b1 = both (not (is_inverted lit)) t2 h in
      let b2 = both (leb first (variable_of lit)) t3 b1.1 in
      let b3 = both (leb (variable_of lit) m) t4 b2.1 in
      let b4 = both (leb (get_or vs 1 0) (literal_of m true)) t5 b3.1 in
      let b5 = both (leb (get_or vs 2 0) (literal_of m true)) t6 b4.1 in
      record {
        own = plain-literal lit b1.0;
        from = leb-true _ _ b2.0;
        to = leb-true _ _ b3.0;
        left = leb-true _ _ b4.0;
        right = leb-true _ _ b5.0;
        fresh = eqb-true _ _ b5.1;
      }

  pub tests-gate : (lit r0 r1 : ℕ) → GateFits first m ops lit r0 r1 → gate_fits first m ops (lit ∷ r0 ∷ r1 ∷ []) ≡ true
  unfolding gate_fits gate_place
  tests-gate lit r0 r1 t =
      let plain : is_inverted lit ≡ false = ap is_inverted t.own ∙ inverted-literal (variable_of lit) false in
      rw (plain, le-leb _ _ t.from, le-leb _ _ t.to, le-leb _ _ t.left, le-leb _ _ t.right, eq-eqb _ _ t.fresh)

  -- the place of a gate is there
  pub gate-within : (lit : ℕ) → HasPlaces first m ops → first ≤ variable_of lit → variable_of lit ≤ m → gate_place first lit < length ops
  unfolding gate_place
  gate-within lit h l g = omega (arith, h.1)

  module _ (lit r0 r1 : ℕ) where
    pub no_gate : (GateFits first m ops lit r0 r1 → ⊥) → false ≡ gate_fits first m ops (lit ∷ r0 ∷ r1 ∷ [])
    no_gate n = go (gate_fits first m ops (lit ∷ r0 ∷ r1 ∷ [])) refl
      where
        go : (t : Bool) → gate_fits first m ops (lit ∷ r0 ∷ r1 ∷ []) ≡ t → false ≡ t
        go false e = refl
        go true e = absurd (n (gate-tests (lit ∷ r0 ∷ r1 ∷ []) e))

    -- that the gate has no operands yet is the last test
    pub gate-fresh : is_inverted lit ≡ false → first ≤ variable_of lit → lit ≤ literal_of m true → r0 ≤ literal_of m true → r1 ≤ literal_of m true
        → eqb (get_or ops (gate_place first lit) 0) undefined ≡ gate_fits first m ops (lit ∷ r0 ∷ r1 ∷ [])
    unfolding gate_fits
    gate-fresh plain h t l r = rw (plain, le-leb _ _ h, le-leb _ _ (variable-within m lit t), le-leb _ _ l, le-leb _ _ r)

    -- numbers of 16 bits
    pub gate-small : m ≤ 4095 → GateFits first m ops lit r0 r1 → (lit ≤ 8190) × (r0 ≤ 8191) × (r1 ≤ 8191)
    gate-small h t =
        let e = literal-inverted m in
        (omega (arith, t.own, t.to, literal-plain (variable_of lit)), omega (arith, t.left), omega (arith, t.right))

-- what the line says, test by test
module _ (s : List ℕ) (p : ℕ) (o : Option Line) (is : LineIs (fields_of s 2 p) o) (first m : ℕ) (ops : List ℕ) where
  pub gate-wrong : o ≡ None → (free : ℕ) → fault WrongShape ≡ gate_at s first m ops free p
  unfolding gate_at
  gate-wrong h free = judged-wrong (fields_of s 2 p) o is h _

  module _ (l : Line) (h : o ≡ Some l) where
    abbrev v : ℕ → ℕ
    v k = get_or l.values k 0

    pub gate_bad : gate_fits first m ops (v 0 ∷ v 1 ∷ v 2 ∷ []) ≡ false → (free : ℕ) → fault OutOfLimits ≡ gate_at s first m ops free p
    unfolding gate_at gate_fits
    gate_bad n free = judged_as (fields_of s 2 p) o l is h _ _ (λ vs e. rw (← e 0, ← e 1, ← e 2) (rw n))

    pub gate_good : gate_fits first m ops (v 0 ∷ v 1 ∷ v 2 ∷ []) ≡ true → (free : ℕ) → row (sets ops (gate_place first (v 0)) (v 1 ∷ v 2 ∷ [])) free l.next ≡ gate_at s first m ops free p
    unfolding gate_at gate_fits
    gate_good n free = judged_as (fields_of s 2 p) o l is h _ _ (λ vs e. rw (← e 0, ← e 1, ← e 2) (rw n))
