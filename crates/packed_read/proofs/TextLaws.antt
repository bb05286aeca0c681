-- A latch's line and a gate's byte runs are read just where their texts stand and their numbers fit. Assumes nothing.
use mathlib.Core.Path.{◌≡◌, refl, sym, ap, ◌∙◌, subst}
use mathlib.Core.Bool.{Bool, true, false, cond, not, ◌&&◌, and-false}
use mathlib.Core.List.{List, [], ◌∷◌}
use mathlib.Core.Logic.{◌⊎◌}
use Prim.Native.Nat.{ℕ, ◌+◌, ◌-◌, ◌≤◌, ◌<◌}
use native.Mathlib.Omega.{arith}
use borrow.Author.Tests.{leb-true, eqb-true}
use lib.Dec.{eqb, leb}
use lib.ListN.{length, get_or, get_or-eq_default}
use Rattle.netlist.proofs.EachLaws.{both}
use Rattle.aiger.specs.Rows.{line}
use Rattle.packed.specs.Runs.{run}
use Rattle.packed.specs.Format.{packed_latch_row, gate_runs}
use Rattle.aiger_lines.specs.declared.Fault.TheVariants.{WrongShape, OutOfLimits}
use Rattle.aiger_lines.specs.Fields.{Fields, wrong, fields, fields_of, either_of}
use Rattle.aiger_lines.specs.Lines.{row, fault, judged, latch_says}
use Rattle.aiger_lines.proofs.LineLaws.{fields-length, or-fewer, or-more}
use Rattle.aiger_lines.proofs.LimitLaws.{says_none}
use Rattle.aiger_lines.proofs.PlaceLaws.{At, at_join, at_split}
use Rattle.aiger_lines.proofs.FieldLaws.{line_of, Small, fields_stand, stand_fields, not-fewer}
use Rattle.aiger_lines.proofs.TextLaws.{LatchSays, misformed, fault-row, judged-row, cond-row, either-none, no_one, no_two, one, two, says_sound}
use Rattle.packed_read.specs.Runs.{Run, took, broken, run_at}
use Rattle.packed_read.specs.Lines.{latch_at, on_run, second_at, gate_at}
use Rattle.packed_read.proofs.RunLaws.{BytesFrom, run_sound, run_complete}
use Rattle.packed_read.proofs.GateLaws.{second_good, gate_good}

-- ---- SOUND: what was read says of its text and its numbers

-- the reset is explicit where the line has not one number
pub record LatchRead (s : List ℕ) (last lit f p : ℕ) (ns : List ℕ) (f' q : ℕ) : Type 0 where
  pub says : LatchSays last lit f ns f'
  pub at : At s p (packed_latch_row (misformed (fields_of s 0 p)) (get_or ns 0 0) (get_or ns 1 0)) q

pub record GateRead (s : List ℕ) (lit f p : ℕ) (ns : List ℕ) (f' q : ℕ) : Type 0 where
  pub two : length ns ≡ 2
  pub free : f' ≡ f
  pub at : At s p (gate_runs lit (get_or ns 0 0) (get_or ns 1 0)) q
  pub below : get_or ns 0 0 < lit
  pub order : get_or ns 1 0 ≤ get_or ns 0 0

module _ (s : List ℕ) (p : ℕ) (vs : List ℕ) (r : ℕ) where
  shape_one : fields_of s 0 p ≡ fields vs r → At s p (packed_latch_row false (get_or vs 0 0) (get_or vs 1 0)) r
  unfolding packed_latch_row line_of
  shape_one e =
      let n = fields-length s 0 p vs r e in
      let z : get_or vs 1 0 ≡ 0 = get_or-eq_default vs 0 {n = 1} (omega arith) in
      rw z (subst (λ (l : List ℕ). At s p (line_of l) r) (one vs n) (fields_stand s 0 p vs r e).at)

  shape_two : fields_of s 1 p ≡ fields vs r → At s p (packed_latch_row true (get_or vs 0 0) (get_or vs 1 0)) r
  unfolding packed_latch_row line_of
  shape_two e =
      rw (and-false (eqb (get_or vs 1 0) 0)) (subst (λ (l : List ℕ). At s p (line_of l) r) (two vs (fields-length s 1 p vs r e)) (fields_stand s 1 p vs r e).at)

  latch_shape : either_of s 0 p ≡ fields vs r → At s p (packed_latch_row (misformed (fields_of s 0 p)) (get_or vs 0 0) (get_or vs 1 0)) r
  unfolding misformed
  latch_shape e = go (fields_of s 0 p) refl
    where
      go : (x : Fields) → fields_of s 0 p ≡ x → At s p (packed_latch_row (misformed x) (get_or vs 0 0) (get_or vs 1 0)) r
      go wrong h = shape_two (sym (or-more s 0 p h) ∙ e)
      go (fields ws z) h =
          let same : fields ws z ≡ fields vs r = sym (or-fewer s 0 p ws z h) ∙ e in
          shape_one (h ∙ same)

module _ (s : List ℕ) (f p : ℕ) (ns : List ℕ) (f' q : ℕ) where
  pub latch_sound : (last lit : ℕ) → latch_at s last lit f p ≡ row ns f' q → LatchRead s last lit f p ns f' q
  unfolding latch_at
  latch_sound last lit h =
      judged-row _ (either_of s 0 p) _ ns f' q h
      (λ vs r e g.
      let c = says_sound f ns f' q last lit (get_or vs 0 0) (get_or vs 1 0) r g in
      record { says = c.0; at = rw (c.1, c.2, ← c.3) (latch_shape s p vs r e) })

  module _ (lit : ℕ) (bytes : BytesFrom s p) where
    -- both runs were read, and their numbers fit
    runs-read : (d m e : ℕ) → run_at s p ≡ took d m → (leb 1 d && leb d lit) ≡ true → run_at s m ≡ took e q → leb e (lit - d) ≡ true
        → (lit - d) ∷ (lit - d - e) ∷ [] ≡ ns → f ≡ f' → GateRead s lit f p ns f' q
    unfolding gate_runs
    runs-read d m e h1 t h2 u n i =
        let b = both (leb 1 d) (leb d lit) t in
        let least : 1 ≤ d = leb-true 1 d b.0 in
        let most : d ≤ lit = leb-true d lit b.1 in
        let above : e ≤ lit - d = leb-true e (lit - d) u in
        let a1 = (run_sound s p d m bytes h1).0 in
        let a2 = (run_sound s m e q (λ k g. bytes k (omega (arith, a1.place))) h2).0 in
        let n0 : get_or ns 0 0 ≡ lit - d = ap (λ (l : List ℕ). get_or l 0 0) (sym n) in
        let n1 : get_or ns 1 0 ≡ lit - d - e = ap (λ (l : List ℕ). get_or l 1 0) (sym n) in
        let d1 : lit - get_or ns 0 0 ≡ d = omega arith in
        let d2 : get_or ns 0 0 - get_or ns 1 0 ≡ e = omega arith in
        record {
          two = ap length (sym n);
          free = sym i;
          at = rw (d1, d2) (at_join a1 a2);
          below = omega arith;
          order = omega arith;
        }

    second-read : (d m : ℕ) (x : Run) → run_at s m ≡ x → run_at s p ≡ took d m → (leb 1 d && leb d lit) ≡ true
        → on_run x (λ e r. cond (leb e (lit - d)) (row ((lit - d) ∷ (lit - d - e) ∷ []) f r) (fault OutOfLimits)) ≡ row ns f' q → GateRead s lit f p ns f' q
    unfolding on_run
    second-read d m (took e r) h2 h1 t h =
        let c = cond-row (leb e (lit - d)) OutOfLimits ((lit - d) ∷ (lit - d - e) ∷ []) f r ns f' q h in
        runs-read d m e h1 t (rw c.3 at h2) c.0 c.1 c.2
    second-read d m broken h2 h1 t h = absurd (fault-row h)

    first_read : (d m : ℕ) (t : Bool) → (leb 1 d && leb d lit) ≡ t → run_at s p ≡ took d m → cond t (second_at s (lit - d) f m) (fault OutOfLimits) ≡ row ns f' q → GateRead s lit f p ns f' q
    unfolding second_at
    first_read d m true t e h = second-read d m (run_at s m) refl e t h
    first_read d m false t e h = absurd (fault-row h)

    pub gate_sound : gate_at s lit f p ≡ row ns f' q → GateRead s lit f p ns f' q
    unfolding gate_at on_run
    gate_sound h = go (run_at s p) refl h
      where
        go : (x : Run) → run_at s p ≡ x → on_run x (λ d m. cond (leb 1 d && leb d lit) (second_at s (lit - d) f m) (fault OutOfLimits)) ≡ row ns f' q → GateRead s lit f p ns f' q
        go (took d m) e g = first_read d m (leb 1 d && leb d lit) refl e g
        go broken e g = absurd (fault-row g)

-- ---- COMPLETE: what stands there, with numbers that fit, is read

module _ (s : List ℕ) (f p q : ℕ) where
  -- the numbers of a latch's line, where a reset that is left out is 0
  record LatchNumbers (next reset : ℕ) : Type 0 where
    vs : List ℕ
    fields-are : either_of s 0 p ≡ fields vs q
    next-is : get_or vs 0 0 ≡ next
    reset-is : get_or vs 1 0 ≡ reset

  latch_numbers : (explicit : Bool) (next reset : ℕ) → next < 100000 → reset < 100000 → At s p (packed_latch_row explicit next reset) q → LatchNumbers next reset
  unfolding packed_latch_row Small
  latch_numbers explicit next reset m1 m2 a = go (eqb reset 0 && not explicit) refl a
    where
      go : (t : Bool) → (eqb reset 0 && not explicit) ≡ t → At s p (cond t (line next []) (line next (reset ∷ []))) q → LatchNumbers next reset
      go true e b =
          record {
            vs = next ∷ [];
            fields-are = or-fewer s 0 p (next ∷ []) q (stand_fields s [] next p q (m1, tt) b);
            next-is = refl;
            reset-is = sym (eqb-true reset 0 (both (eqb reset 0) (not explicit) e).0);
          }
      go false e b =
          record {
            vs = next ∷ reset ∷ [];
            fields-are = or-more s 0 p (not-fewer s [] next reset p q (m1, (m2, tt)) b) ∙ stand_fields s (reset ∷ []) next p q (m1, (m2, tt)) b;
            next-is = refl;
            reset-is = refl;
          }

  module _ (explicit : Bool) (last lit next reset : ℕ) (m1 : next < 100000) (m2 : reset < 100000) (a : At s p (packed_latch_row explicit next reset) q) where
    pub latch_is : latch_at s last lit f p ≡ latch_says last lit f next reset q
    unfolding latch_at judged
    latch_is =
        let n = latch_numbers explicit next reset m1 m2 a in
        rw (n.fields-are, n.next-is, n.reset-is)

    -- those that do not fit
    pub latch_above : (last < next) ⊎ ((1 < reset) × ((reset ≡ lit → ⊥) ⊎ (6 ≤ f))) → latch_at s last lit f p ≡ fault OutOfLimits
    latch_above h = latch_is ∙ says_none last lit f next reset q h

  pub gate_complete : (lit r0 r1 : ℕ) → lit < 2097152 → r0 < lit → r1 ≤ r0 → At s p (gate_runs lit r0 r1) q → gate_at s lit f p ≡ row (r0 ∷ r1 ∷ []) f q
  unfolding gate_runs
  gate_complete lit r0 r1 m h g a =
      let w = at_split (run (lit - r0)) (run (r0 - r1)) a in
      let z = p + length (run (lit - r0)) in
      let d1 : lit - (lit - r0) ≡ r0 = omega arith in
      let d2 : r0 - (r0 - r1) ≡ r1 = omega arith in
      let one = gate_good s f p lit (lit - r0) z (run_complete s p (lit - r0) z w.0 (omega arith)) (omega arith) (omega arith) in
      let two = second_good s f z r0 (r0 - r1) q (run_complete s z (r0 - r1) q w.1 (omega arith)) (omega arith) in
      one ∙ rw (d1, two, d2)

-- ---- FAULTY: a line of neither one number nor two

pub latch_wrong : (s : List ℕ) (f p last lit : ℕ) → ((v r : ℕ) → v < 100000 → At s p (line v []) r → ⊥)
    → ((v w r : ℕ) → (v < 100000) × (w < 100000) → At s p (line v (w ∷ [])) r → ⊥) → latch_at s last lit f p ≡ fault WrongShape
unfolding latch_at
latch_wrong s f p last lit none nor = either-none s 0 p _ (no_one s p none) (no_two s p nor)
