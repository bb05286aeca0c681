-- The lines of the ASCII format are read just where their texts stand and their numbers fit. Assumes nothing.
use mathlib.Core.Path.{◌≡◌, refl, sym, ◌∙◌, subst}
use mathlib.Core.Bool.{Bool, true, false, cond, not, ◌&&◌, and-false}
use mathlib.Core.List.{List, [], ◌∷◌}
use mathlib.Core.Logic.{◌⊎◌, inl, inr}
use Prim.Native.Nat.{ℕ, ◌-◌, ◌*◌, ◌≤◌, ◌<◌}
use native.Mathlib.Omega.{arith}
use borrow.Author.Tests.{eqb-true, eq-eqb, ne_eqb}
use lib.Dec.{eqb}
use lib.ListN.{get_or, get_or-eq_default}
use lib.Seq.{sets}
use Rattle.netlist.specs.Literals.{literal_of, variable_of}
use Rattle.netlist.proofs.LiteralLaws.{literal-plain, literal-inverted, variable-literal}
use Rattle.netlist.proofs.EachLaws.{both}
use Rattle.aiger.specs.Rows.{line, literal_row, latch_row, gate_row}
use Rattle.aiger_lines.specs.declared.Fault.TheVariants.{WrongShape, OutOfLimits}
use Rattle.aiger_lines.specs.Fields.{Fields, wrong, fields, fields_of, either_of}
use Rattle.aiger_lines.specs.Lines.{row, fault, judged, latch_says}
use Rattle.aiger_lines.proofs.LineLaws.{or-fewer, or-more, fields-length}
use Rattle.aiger_lines.proofs.LimitLaws.{says_none}
use Rattle.aiger_lines.proofs.PlaceLaws.{At}
use Rattle.aiger_lines.proofs.FieldLaws.{line_of, Small, fields_stand, stand_fields, not-fewer}
use Rattle.aiger_lines.proofs.TextLaws.{judged-row, cond-row, fault-row, two, three, misformed, one_at, LatchSays, says_sound, judged-none, either-none, no_one, no_two, no_three}
use Rattle.aiger_read.specs.Lines.{input_at, latch_at, gate_place, gate_fits, gate_at}
use Rattle.aiger_read.proofs.RowLaws.{GateFits, gate-tests, tests-gate}

-- ---- sound: what a line that was read says of its text and its numbers

pub record InputRead (s : List ℕ) (lit f p : ℕ) (ns : List ℕ) (f' q : ℕ) : Type 0 where
  pub none : ns ≡ []
  pub free : f' ≡ f
  pub at : At s p (literal_row lit) q

-- the reset is explicit where the line has no two numbers
pub record LatchRead (s : List ℕ) (last lit f p : ℕ) (ns : List ℕ) (f' q : ℕ) : Type 0 where
  pub says : LatchSays last lit f ns f'
  pub at : At s p (latch_row (misformed (fields_of s 1 p)) lit (get_or ns 0 0) (get_or ns 1 0)) q

pub record GateRead (s : List ℕ) (first m : ℕ) (ops : List ℕ) (f p : ℕ) (ns : List ℕ) (f' q : ℕ) : Type 0 where
  pub var : ℕ
  pub r0 : ℕ
  pub r1 : ℕ
  pub fits : GateFits first m ops (literal_of var false) r0 r1
  pub free : f' ≡ f
  pub at : At s p (gate_row (literal_of var false) r0 r1) q
  pub stores : ns ≡ sets ops (2 * (var - first)) (r0 ∷ r1 ∷ [])

module _ (s : List ℕ) (f p : ℕ) (ns : List ℕ) (f' q : ℕ) where
  pub input_sound : (lit : ℕ) → input_at s lit f p ≡ row ns f' q → InputRead s lit f p ns f' q
  unfolding input_at
  input_sound lit h = judged-row _ (fields_of s 0 p) _ ns f' q h from
    where
      from : (vs : List ℕ) (r : ℕ) → fields_of s 0 p ≡ fields vs r → cond (eqb (get_or vs 0 0) lit) (row [] f r) (fault OutOfLimits) ≡ row ns f' q → InputRead s lit f p ns f' q
      from vs r e g =
          let c = cond-row (eqb (get_or vs 0 0) lit) OutOfLimits [] f r ns f' q g in
          let v : get_or vs 0 0 ≡ lit = eqb-true (get_or vs 0 0) lit c.0 in
          record { none = sym c.1; free = sym c.2; at = rw (v, c.3) at (one_at s p vs r e) }

  three_at : (vs : List ℕ) (r : ℕ) → fields_of s 2 p ≡ fields vs r → At s p (gate_row (get_or vs 0 0) (get_or vs 1 0) (get_or vs 2 0)) r
  unfolding gate_row line_of
  three_at vs r e = subst (λ (l : List ℕ). At s p (line_of l) r) (three vs (fields-length s 2 p vs r e)) (fields_stand s 2 p vs r e).at

  shape_three : (vs : List ℕ) (r : ℕ) → fields_of s 2 p ≡ fields vs r → At s p (latch_row true (get_or vs 0 0) (get_or vs 1 0) (get_or vs 2 0)) r
  unfolding latch_row line_of
  shape_three vs r e = rw (and-false (eqb (get_or vs 2 0) 0)) (subst (λ (l : List ℕ). At s p (line_of l) r) (three vs (fields-length s 2 p vs r e)) (fields_stand s 2 p vs r e).at)

  shape_two : (vs : List ℕ) (r : ℕ) → fields_of s 1 p ≡ fields vs r → At s p (latch_row false (get_or vs 0 0) (get_or vs 1 0) (get_or vs 2 0)) r
  unfolding latch_row line_of
  shape_two vs r e =
      let n = fields-length s 1 p vs r e in
      let z : get_or vs 2 0 ≡ 0 = get_or-eq_default vs 0 {n = 2} (omega arith) in
      rw z (subst (λ (l : List ℕ). At s p (line_of l) r) (two vs n) (fields_stand s 1 p vs r e).at)

  latch_shape : (vs : List ℕ) (r : ℕ) → either_of s 1 p ≡ fields vs r → At s p (latch_row (misformed (fields_of s 1 p)) (get_or vs 0 0) (get_or vs 1 0) (get_or vs 2 0)) r
  unfolding misformed
  latch_shape vs r e = go (fields_of s 1 p) refl
    where
      go : (x : Fields) → fields_of s 1 p ≡ x → At s p (latch_row (misformed x) (get_or vs 0 0) (get_or vs 1 0) (get_or vs 2 0)) r
      go wrong h = shape_three vs r (sym (or-more s 1 p h) ∙ e)
      go (fields ws z) h =
          let same : fields ws z ≡ fields vs r = sym (or-fewer s 1 p ws z h) ∙ e in
          shape_two vs r (h ∙ same)

  pub gate_sound : (first m : ℕ) (ops : List ℕ) → gate_at s first m ops f p ≡ row ns f' q → GateRead s first m ops f p ns f' q
  unfolding gate_at gate_place
  gate_sound first m ops h = judged-row _ (fields_of s 2 p) _ ns f' q h from
    where
      from : (vs : List ℕ) (r : ℕ) → fields_of s 2 p ≡ fields vs r
          → cond (gate_fits first m ops vs) (row (sets ops (2 * (variable_of (get_or vs 0 0) - first)) (get_or vs 1 0 ∷ get_or vs 2 0 ∷ [])) f r) (fault OutOfLimits) ≡ row ns f' q
          → GateRead s first m ops f p ns f' q
      from vs r e g =
          let c = cond-row (gate_fits first m ops vs) OutOfLimits (sets ops (2 * (variable_of (get_or vs 0 0) - first)) (get_or vs 1 0 ∷ get_or vs 2 0 ∷ [])) f r ns f' q g in
          let t = gate-tests first m ops vs c.0 in
          record {
            var = variable_of (get_or vs 0 0);
            r0 = get_or vs 1 0;
            r1 = get_or vs 2 0;
            fits = subst (λ (v : ℕ). GateFits first m ops v (get_or vs 1 0) (get_or vs 2 0)) t.own t;
            free = sym c.2;
            at = rw (← c.3) (subst (λ (v : ℕ). At s p (gate_row v (get_or vs 1 0) (get_or vs 2 0)) r) t.own (three_at vs r e));
            stores = sym c.1;
          }

  pub latch_sound : (last lit : ℕ) → latch_at s last lit f p ≡ row ns f' q → LatchRead s last lit f p ns f' q
  unfolding latch_at
  latch_sound last lit h = judged-row _ (either_of s 1 p) _ ns f' q h from
    where
      own : (vs : List ℕ) (r : ℕ) (t : Bool) → eqb (get_or vs 0 0) lit ≡ t → either_of s 1 p ≡ fields vs r
          → cond t (latch_says last lit f (get_or vs 1 0) (get_or vs 2 0) r) (fault OutOfLimits) ≡ row ns f' q → LatchRead s last lit f p ns f' q
      own vs r false t e g = absurd (fault-row g)
      own vs r true t e g =
          let c = says_sound f ns f' q last lit (get_or vs 1 0) (get_or vs 2 0) r g in
          let v : get_or vs 0 0 ≡ lit = eqb-true (get_or vs 0 0) lit t in
          record { says = c.0; at = rw (c.1, c.2, ← c.3) (rw v at (latch_shape vs r e)) }

      from : (vs : List ℕ) (r : ℕ) → either_of s 1 p ≡ fields vs r
          → cond (eqb (get_or vs 0 0) lit) (latch_says last lit f (get_or vs 1 0) (get_or vs 2 0) r) (fault OutOfLimits) ≡ row ns f' q → LatchRead s last lit f p ns f' q
      from vs r e g = own vs r (eqb (get_or vs 0 0) lit) refl e g

-- ---- complete: a line that stands there, with numbers that fit, is read

module _ (s : List ℕ) (f p q : ℕ) where
  pub input_complete : (lit : ℕ) → lit < 100000 → At s p (literal_row lit) q → input_at s lit f p ≡ row [] f q
  unfolding input_at literal_row judged Small
  input_complete lit m a = rw (stand_fields s [] lit p q (m, tt) a, eq-eqb lit lit refl)

  pub gate_complete : (first m : ℕ) (ops : List ℕ) (var r0 r1 : ℕ) → m ≤ 4095 → GateFits first m ops (literal_of var false) r0 r1
      → At s p (gate_row (literal_of var false) r0 r1) q → gate_at s first m ops f p ≡ row (sets ops (2 * (var - first)) (r0 ∷ r1 ∷ [])) f q
  unfolding gate_at gate_place gate_row judged Small
  gate_complete first m ops var r0 r1 h t a =
      let v = variable-literal var false in
      let o : literal_of var false < 100000 = omega (arith, literal-plain var, v, t.to) in
      let i = literal-inverted m in
      rw (stand_fields s (r0 ∷ r1 ∷ []) (literal_of var false) p q (o, (omega (arith, t.left), (omega (arith, t.right), tt))) a, tests-gate first m ops (literal_of var false) r0 r1 t, v)

  latch_three : (lit next reset : ℕ) → Small (lit ∷ next ∷ reset ∷ []) → At s p (line lit (next ∷ reset ∷ [])) q → either_of s 1 p ≡ fields (lit ∷ next ∷ reset ∷ []) q
  latch_three lit next reset m a = or-more s 1 p (not-fewer s (next ∷ []) lit reset p q m a) ∙ stand_fields s (next ∷ reset ∷ []) lit p q m a

  latch_two : (lit next : ℕ) → Small (lit ∷ next ∷ []) → At s p (line lit (next ∷ [])) q → either_of s 1 p ≡ fields (lit ∷ next ∷ []) q
  latch_two lit next m a = or-fewer s 1 p (lit ∷ next ∷ []) q (stand_fields s (next ∷ []) lit p q m a)

  -- the numbers of a latch's line, where a reset that is left out is 0
  latch_numbers : (explicit : Bool) (lit next reset : ℕ) → lit < 100000 → next < 100000 → reset < 100000 → At s p (latch_row explicit lit next reset) q
      → (vs : List ℕ) × (either_of s 1 p ≡ fields vs q) × (get_or vs 0 0 ≡ lit) × (get_or vs 1 0 ≡ next) × (get_or vs 2 0 ≡ reset)
  unfolding latch_row Small
  latch_numbers explicit lit next reset m1 m2 m3 a = go (eqb reset 0 && not explicit) refl a
    where
      go : (t : Bool) → (eqb reset 0 && not explicit) ≡ t → At s p (cond t (line lit (next ∷ [])) (line lit (next ∷ reset ∷ []))) q
          → (vs : List ℕ) × (either_of s 1 p ≡ fields vs q) × (get_or vs 0 0 ≡ lit) × (get_or vs 1 0 ≡ next) × (get_or vs 2 0 ≡ reset)
      go true e b = (lit ∷ next ∷ [], latch_two lit next (m1, (m2, tt)) b, refl, refl, sym (eqb-true reset 0 (both (eqb reset 0) (not explicit) e).0))
      go false e b = (lit ∷ next ∷ reset ∷ [], latch_three lit next reset (m1, (m2, (m3, tt))) b, refl, refl, refl)

  pub latch_complete : (explicit : Bool) (last lit next reset : ℕ) → lit < 100000 → next < 100000 → reset < 100000
      → At s p (latch_row explicit lit next reset) q → latch_at s last lit f p ≡ latch_says last lit f next reset q
  unfolding latch_at judged
  latch_complete explicit last lit next reset m1 m2 m3 a =
      let n = latch_numbers explicit lit next reset m1 m2 m3 a in
      rw (n.1, n.2, n.3, n.4, eq-eqb lit lit refl)

-- ---- faulty: a line without its numbers, or with numbers that do not fit

module _ (s : List ℕ) (f p lit : ℕ) where
  pub input-wrong : ((v r : ℕ) → v < 100000 → At s p (literal_row v) r → ⊥) → input_at s lit f p ≡ fault WrongShape
  unfolding input_at literal_row
  input-wrong none = judged-none s 0 p _ (no_one s p none)

  pub input_misfit : (v q : ℕ) → v < 100000 → (v ≡ lit → ⊥) → At s p (literal_row v) q → input_at s lit f p ≡ fault OutOfLimits
  unfolding input_at literal_row judged Small
  input_misfit v q m n a = rw (stand_fields s [] v p q (m, tt) a, ne_eqb v lit n)

  module _ (last : ℕ) where
    pub latch_wrong : ((v w r : ℕ) → (v < 100000) × (w < 100000) → At s p (line v (w ∷ [])) r → ⊥)
        → ((v w x r : ℕ) → (v < 100000) × (w < 100000) × (x < 100000) → At s p (gate_row v w x) r → ⊥) → latch_at s last lit f p ≡ fault WrongShape
    unfolding latch_at gate_row
    latch_wrong none nor = either-none s 1 p _ (no_two s p none) (no_three s p nor)

    pub latch_misfit : (explicit : Bool) (v next reset q : ℕ) → (v < 100000) × (next < 100000) × (reset < 100000) → At s p (latch_row explicit v next reset) q
        → (v ≡ lit → ⊥) ⊎ ((last < next) ⊎ ((1 < reset) × ((reset ≡ lit → ⊥) ⊎ (6 ≤ f)))) → latch_at s last lit f p ≡ fault OutOfLimits
    unfolding latch_at judged
    latch_misfit explicit v next reset q few a misfit =
        let n = latch_numbers s f p q explicit v next reset few.0 few.1 few.2 a in
        rw (n.1, n.2, n.3, n.4) (go misfit)
      where
        either : (t : Bool) → cond t (fault OutOfLimits) (fault OutOfLimits) ≡ fault OutOfLimits
        either true = refl
        either false = refl

        go : (v ≡ lit → ⊥) ⊎ ((last < next) ⊎ ((1 < reset) × ((reset ≡ lit → ⊥) ⊎ (6 ≤ f))))
            → cond (eqb v lit) (latch_says last lit f next reset q) (fault OutOfLimits) ≡ fault OutOfLimits
        go (inl n) = rw (ne_eqb v lit n)
        go (inr n) = rw (says_none last lit f next reset q n) (either (eqb v lit))

module _ (s : List ℕ) (first m : ℕ) (ops : List ℕ) (f p : ℕ) where
  pub gate-wrong : ((v r0 r1 r : ℕ) → (v < 100000) × (r0 < 100000) × (r1 < 100000) → At s p (gate_row v r0 r1) r → ⊥) → gate_at s first m ops f p ≡ fault WrongShape
  unfolding gate_at gate_row
  gate-wrong none = judged-none s 2 p _ (no_three s p none)

  pub gate_misfit : (lit r0 r1 q : ℕ) → (lit < 100000) × (r0 < 100000) × (r1 < 100000) → At s p (gate_row lit r0 r1) q
      → (GateFits first m ops lit r0 r1 → ⊥) → gate_at s first m ops f p ≡ fault OutOfLimits
  unfolding gate_at gate_row judged Small
  gate_misfit lit r0 r1 q few a none = rw (stand_fields s (r0 ∷ r1 ∷ []) lit p q (few.0, (few.1, (few.2, tt))) a, no (gate_fits first m ops (lit ∷ r0 ∷ r1 ∷ [])) refl)
    where
      no : (t : Bool) → gate_fits first m ops (lit ∷ r0 ∷ r1 ∷ []) ≡ t → gate_fits first m ops (lit ∷ r0 ∷ r1 ∷ []) ≡ false
      no true e = absurd (none (gate-tests first m ops (lit ∷ r0 ∷ r1 ∷ []) e))
      no false e = e
