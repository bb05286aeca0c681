-- The lines of gates, in whatever order, are read just where each stands, of a variable that has no line before: then
-- the operands of each gate stand at the place of its variable. Assumes nothing.
use mathlib.Core.Path.{◌≡◌, refl, sym, ap, ◌∙◌, subst}
use mathlib.Core.Bool.{true, false}
use mathlib.Core.List.{List, [], ◌∷◌}
use Prim.Native.Nat.{ℕ, zero, suc, ◌+◌, ◌-◌, ◌*◌, ◌≤◌, ◌<◌}
use native.Mathlib.Nat.{zero-add}
use native.Mathlib.Numerals.{add-one}
use native.Mathlib.Omega.{arith}
use lib.ListN.{length, get_or, length-set}
use lib.Seq.{take_all, sets, length-sets, get_or-set_same, get_or-set_other}
use Rattle.text.specs.Writer.{joined}
use Rattle.text.proofs.WriterLaws.{joined_same}
use Rattle.netlist.specs.Literals.{literal_of}
use Rattle.netlist.proofs.LiteralLaws.{literal-inverted, variable-literal}
use Rattle.aiger.specs.Rows.{gate_row}
use Rattle.aiger_lines.specs.declared.Fault.{Fault}
use Rattle.aiger_lines.specs.Lines.{Row, row, fault}
use Rattle.aiger_lines.specs.Blocks.{rows, failed, on_row}
use Rattle.aiger_lines.proofs.PlaceLaws.{At, at_join, at_split, at_joined}
use Rattle.aiger_lines.proofs.RunLaws.{failed-rows, joined-front}
use Rattle.aiger_lines.proofs.LayoutLaws.{pair_at, pairs}
use Rattle.aiger_read.specs.Lines.{undefined, gate_at}
use Rattle.aiger_read.specs.Files.{gate_rows}
use Rattle.aiger_read.proofs.RowLaws.{GateFits}
use Rattle.aiger_read.proofs.TextLaws.{GateRead, gate_sound, gate_complete}

-- ---- two operands, stored at the place of their gate

module _ (ops : List ℕ) (d r0 r1 : ℕ) where
  abbrev put : List ℕ
  put = sets ops (2 * d) (r0 ∷ r1 ∷ [])

  put_own : 2 * d + 1 < length ops → (get_or put (2 * d) 0 ≡ r0) × (get_or put (2 * d + 1) 0 ≡ r1)
  put_own h =
      let first = sets ops (2 * d) (r0 ∷ []) in (
        get_or-set_other first (suc (2 * d)) (2 * d) r1 0 (λ (e : 2 * d ≡ suc (2 * d)). absurd (omega arith)) ∙ get_or-set_same ops (2 * d) r0 0 (omega arith),
        rw (add-one (2 * d)) (get_or-set_same first (suc (2 * d)) r1 0 (rw length-set (omega arith))),
      )

  put_other : (e : ℕ) → (e ≡ d → ⊥) → (get_or put (2 * e) 0 ≡ get_or ops (2 * e) 0) × (get_or put (2 * e + 1) 0 ≡ get_or ops (2 * e + 1) 0)
  put_other e n = (other (2 * e) (λ (x : 2 * e ≡ 2 * d). n (omega arith)) (λ (x : 2 * e ≡ suc (2 * d)). absurd (omega arith)), other (2 * e + 1) (λ (x : 2 * e + 1 ≡ 2 * d). absurd (omega arith)) (λ (x : 2 * e + 1 ≡ suc (2 * d)). n (omega arith)))
    where
      other : (j : ℕ) → (j ≡ 2 * d → ⊥) → (j ≡ suc (2 * d) → ⊥) → get_or put j 0 ≡ get_or ops j 0
      other j n m = get_or-set_other (sets ops (2 * d) (r0 ∷ [])) (suc (2 * d)) j r1 0 m ∙ get_or-set_other ops (2 * d) j r0 0 n

-- operands are those of one gate after the other
pub whole_pairs : (ops : List ℕ) (a : ℕ) → length ops ≡ 2 * a → joined (λ k. pair_at ops (2 * k)) a ≡ ops
whole_pairs ops a h =
    joined_same (λ k. pair_at ops (2 * k)) (λ k. pair_at ops (0 + 2 * k)) a (λ k l. rw zero-add)
    ∙ pairs ops 0 a (omega arith)
    ∙ take_all (2 * a) ops (omega arith)

-- variables, each from `first` to m, none twice
pub record Apart (first m : ℕ) (order : List ℕ) : Type 0 where
  pub inside : (k : ℕ) → k < length order → (first ≤ get_or order k 0) × (get_or order k 0 ≤ m)
  pub once : (j k : ℕ) → j < length order → k < length order → get_or order j 0 ≡ get_or order k 0 → j ≡ k

-- a variable that does not stand in an order
abbrev pub Absent : ℕ → List ℕ → Type 0
Absent x order = (k : ℕ) → k < length order → get_or order k 0 ≡ x → ⊥

module _ (first m : ℕ) where
  apart_none : Apart first m []
  apart_none = record { inside = λ k h. absurd (omega arith); once = λ j k h g e. absurd (omega arith) }

  apart_more : (x : ℕ) (order : List ℕ) → first ≤ x → x ≤ m → Absent x order → Apart first m order → Apart first m (x ∷ order)
  apart_more x order f t n a = record { inside = inside; once = once }
    where
      inside : (k : ℕ) → k < suc (length order) → (first ≤ get_or (x ∷ order) k 0) × (get_or (x ∷ order) k 0 ≤ m)
      inside zero h = (f, t)
      inside (suc k) h = a.inside k (omega arith)

      once : (j k : ℕ) → j < suc (length order) → k < suc (length order) → get_or (x ∷ order) j 0 ≡ get_or (x ∷ order) k 0 → j ≡ k
      once zero zero h g e = refl
      once zero (suc k) h g e = absurd (n k (omega arith) (sym e))
      once (suc j) zero h g e = absurd (n j (omega arith) e)
      once (suc j) (suc k) h g e = ap suc (a.once j k (omega arith) (omega arith) e)

  module _ (x : ℕ) (order : List ℕ) (a : Apart first m (x ∷ order)) where
    apart-rest : Apart first m order
    apart-rest =
        record {
          inside = λ k h. a.inside (suc k) (omega arith);
          once = λ j k h g e. let n = a.once (suc j) (suc k) (omega arith) (omega arith) e in omega arith;
        }

    apart-first : Absent x order
    apart-first k h e = let n = a.once (suc k) 0 (omega arith) (omega arith) e in omega arith

-- ---- the operands of gates, where those of variable x stand at 2 (x - first)

module _ (first : ℕ) where
  abbrev left : List ℕ → ℕ → ℕ
  left ops x = get_or ops (2 * (x - first)) 0

  abbrev right : List ℕ → ℕ → ℕ
  right ops x = get_or ops (2 * (x - first) + 1) 0

-- those of the gates of an order, stored one after the other
module _ (first : ℕ) (L R : ℕ → ℕ) where
  unfoldable pub stored_by : List ℕ → List ℕ → List ℕ
  stored_by ops [] = ops
  stored_by ops (x ∷ order) = stored_by (put ops (x - first) (L x) (R x)) order

  pub stored_length : (ops order : List ℕ) → length (stored_by ops order) ≡ length ops
  unfolding stored_by
  stored_length ops [] = refl
  stored_length ops (x ∷ order) = stored_length (put ops (x - first) (L x) (R x)) order ∙ length-sets ops (2 * (x - first)) (L x ∷ R x ∷ [])

  stored_other : (m : ℕ) (ops order : List ℕ) → Apart first m order → (x : ℕ) → first ≤ x → Absent x order → (left first (stored_by ops order) x ≡ left first ops x) × (right first (stored_by ops order) x ≡ right first ops x)
  unfolding stored_by
  stored_other m ops [] p x h n = (refl, refl)
  stored_other m ops (y ∷ order) p x h n =
      let i = p.inside 0 (omega arith) in
      let o = put_other ops (y - first) (L y) (R y) (x - first) (λ (e : x - first ≡ y - first). n 0 (omega arith) (omega arith)) in
      let t = stored_other m (put ops (y - first) (L y) (R y)) order (apart-rest first m y order p) x h (λ k l e. n (suc k) (omega arith) e) in
      (t.0 ∙ o.0, t.1 ∙ o.1)

  pub stored_own : (m a : ℕ) → first + a ≡ m + 1 → (ops order : List ℕ) → length ops ≡ 2 * a → Apart first m order → (k : ℕ) → k < length order
      → (left first (stored_by ops order) (get_or order k 0) ≡ L (get_or order k 0)) × (right first (stored_by ops order) (get_or order k 0) ≡ R (get_or order k 0))
  unfolding stored_by
  stored_own m a all ops [] l p k h = absurd (omega arith)
  stored_own m a all ops (y ∷ order) l p zero h =
      let i = p.inside 0 (omega arith) in
      let o = put_own ops (y - first) (L y) (R y) (omega arith) in
      let t = stored_other m (put ops (y - first) (L y) (R y)) order (apart-rest first m y order p) y i.0 (apart-first first m y order p) in
      (t.0 ∙ o.0, t.1 ∙ o.1)
  stored_own m a all ops (y ∷ order) l p (suc k) h = stored_own m a all (put ops (y - first) (L y) (R y)) order (length-sets ops (2 * (y - first)) (L y ∷ R y ∷ []) ∙ l) (apart-rest first m y order p) k (omega arith)

-- ---- the lines

module _ (s : List ℕ) (first m a : ℕ) where
  -- SOUND: lines that were read have an order of variables that had none before; each stands there with its operands
  pub record Ran (ops : List ℕ) (count f p : ℕ) (ns : List ℕ) (f' q : ℕ) : Type 0 where
    pub order : List ℕ
    pub size : length order ≡ count
    pub apart : Apart first m order
    pub free : f' ≡ f
    pub long : length ns ≡ 2 * a
    pub fresh : (k : ℕ) → k < length order → left first ops (get_or order k 0) ≡ undefined
    pub fits : (k : ℕ) → k < length order → (left first ns (get_or order k 0) ≤ literal_of m true) × (right first ns (get_or order k 0) ≤ literal_of m true)
    pub kept : (x : ℕ) → first ≤ x → Absent x order → (left first ns x ≡ left first ops x) × (right first ns x ≡ right first ops x)
    pub at : p ≤ length s → At s p (joined (λ k. gate_row (literal_of (get_or order k 0) false) (left first ns (get_or order k 0)) (right first ns (get_or order k 0))) (length order)) q

  ran-none : (ops : List ℕ) (f p : ℕ) (ns : List ℕ) (f' q : ℕ) → length ops ≡ 2 * a → rows ops f p ≡ rows ns f' q → Ran ops 0 f p ns f' q
  ran-none ops f p ns f' q l h =
      let e : ops ≡ ns = cc in
      let g : p ≡ q = cc in
      record {
        order = [];
        size = refl;
        apart = apart_none first m;
        free = cc;
        long = rw (← e) l;
        fresh = λ k h. absurd (omega arith);
        fits = λ k h. absurd (omega arith);
        kept = λ x h n. (ap (λ (o : List ℕ). left first o x) (sym e), ap (λ (o : List ℕ). right first o x) (sym e));
        at = λ i. subst (λ (z : ℕ). At s p [] z) g (at_joined (λ _. []) (λ _. p) 0 i (λ k h. absurd (omega arith)));
      }

  module _ (few : m ≤ 4095) (all : first + a ≡ m + 1) where
    module _ (ops : List ℕ) (long : length ops ≡ 2 * a) (f p : ℕ) (ops₁ : List ℕ) (f₁ r : ℕ) (g : GateRead s first m ops f p ops₁ f₁ r) (count : ℕ) (ns : List ℕ) (f' q : ℕ) (t : Ran ops₁ count f₁ r ns f' q) where
      var_in : (first ≤ g.var) × (g.var ≤ m)
      var_in = let v = variable-literal g.var false in let b = g.fits in (omega arith, omega arith)

      room : 2 * (g.var - first) + 1 < length ops
      room = omega (arith, var_in)

      own : (left first ops₁ g.var ≡ g.r0) × (right first ops₁ g.var ≡ g.r1)
      own = rw g.stores (put_own ops (g.var - first) g.r0 g.r1 room)

      -- a line that was read before defines no variable of those behind it
      not_again : Absent g.var t.order
      not_again k h e =
          let u : left first ops₁ g.var ≡ undefined = ap (left first ops₁) (sym e) ∙ t.fresh k h in
          omega (arith, own.0, g.fits.left, literal-inverted m)

      other : (x : ℕ) → first ≤ x → (g.var ≡ x → ⊥) → (left first ops₁ x ≡ left first ops x) × (right first ops₁ x ≡ right first ops x)
      other x h n = rw g.stores (put_other ops (g.var - first) g.r0 g.r1 (x - first) (λ (e : x - first ≡ g.var - first). n (omega (arith, var_in))))

      stays : (left first ns g.var ≡ g.r0) × (right first ns g.var ≡ g.r1)
      stays = let k = t.kept g.var var_in.0 not_again in (k.0 ∙ own.0, k.1 ∙ own.1)

      ran-more : Ran ops (suc count) f p ns f' q
      ran-more =
          record {
            order = g.var ∷ t.order;
            size = ap suc t.size;
            apart = apart_more first m g.var t.order var_in.0 var_in.1 not_again t.apart;
            free = t.free ∙ g.free;
            long = t.long;
            fresh = fresh;
            fits = fits;
            kept = λ x h n. let k = t.kept x h (λ j l e. n (suc j) (omega arith) e) in let o = other x h (n 0 (omega arith)) in (k.0 ∙ o.0, k.1 ∙ o.1);
            at = λ i. rw (joined-front line (length t.order), stays.0, stays.1) (at_join g.at (t.at g.at.inside));
          }
        where
          line : ℕ → List ℕ
          line k = gate_row (literal_of (get_or (g.var ∷ t.order) k 0) false) (left first ns (get_or (g.var ∷ t.order) k 0)) (right first ns (get_or (g.var ∷ t.order) k 0))

          fresh : (k : ℕ) → k < suc (length t.order) → left first ops (get_or (g.var ∷ t.order) k 0) ≡ undefined
          fresh zero h = rw (variable-literal g.var false) at g.fits.fresh
          fresh (suc k) h = sym (other (get_or t.order k 0) (t.apart.inside k (omega arith)).0 (λ (e : g.var ≡ get_or t.order k 0). not_again k (omega arith) (sym e))).0 ∙ t.fresh k (omega arith)

          fits : (k : ℕ) → k < suc (length t.order)
              → (left first ns (get_or (g.var ∷ t.order) k 0) ≤ literal_of m true) × (right first ns (get_or (g.var ∷ t.order) k 0) ≤ literal_of m true)
          fits zero h = (rw stays.0 g.fits.left, rw stays.1 g.fits.right)
          fits (suc k) h = t.fits k (omega arith)

    on-gate : (ops : List ℕ) (count line f p : ℕ) (ns : List ℕ) (f' q : ℕ) (x : Row) → length ops ≡ 2 * a → gate_at s first m ops f p ≡ x
        → ((ops₁ : List ℕ) (f₁ r : ℕ) → length ops₁ ≡ 2 * a → gate_rows s first m count (line + 1) ops₁ f₁ r ≡ rows ns f' q → Ran ops₁ count f₁ r ns f' q)
        → on_row x (λ more g r. gate_rows s first m count (line + 1) more g r) (λ e. failed e line) ≡ rows ns f' q → Ran ops (suc count) f p ns f' q
    unfolding on_row
    on-gate ops count line f p ns f' q (row ops₁ f₁ r) l e ih h =
        let g = gate_sound s f p ops₁ f₁ r first m ops e in
        ran-more ops l f p ops₁ f₁ r g count ns f' q (ih ops₁ f₁ r (ap length g.stores ∙ length-sets ops (2 * (g.var - first)) (g.r0 ∷ g.r1 ∷ []) ∙ l) h)
    on-gate ops count line f p ns f' q (fault x) l e ih h = absurd (failed-rows h)

    pub ran : (ops : List ℕ) (count line f p : ℕ) (ns : List ℕ) (f' q : ℕ) → length ops ≡ 2 * a → gate_rows s first m count line ops f p ≡ rows ns f' q → Ran ops count f p ns f' q
    unfolding gate_rows
    ran ops zero line f p ns f' q l h = ran-none ops f p ns f' q l h
    ran ops (suc count) line f p ns f' q l h =
        on-gate ops count line f p ns f' q (gate_at s first m ops f p) l refl (λ ops₁ f₁ r l₁ h₁. ran ops₁ count (line + 1) f₁ r ns f' q l₁ h₁) h

    -- COMPLETE
    module _ (L R : ℕ → ℕ) where
      -- the line of the gate of variable x
      abbrev pub line_by : ℕ → List ℕ
      line_by x = gate_row (literal_of x false) (L x) (R x)

      -- lines that stand there in an order of variables that had none before are read, and more behind them
      pub read-order : (ops order : List ℕ) → length ops ≡ 2 * a → Apart first m order
          → ((k : ℕ) → k < length order → (L (get_or order k 0) ≤ literal_of m true) × (R (get_or order k 0) ≤ literal_of m true))
          → ((k : ℕ) → k < length order → left first ops (get_or order k 0) ≡ undefined)
          → (more line f p q : ℕ) → At s p (joined (λ k. line_by (get_or order k 0)) (length order)) q
          → gate_rows s first m (length order + more) line ops f p ≡ gate_rows s first m more (line + length order) (stored_by first L R ops order) f q
      unfolding stored_by gate_rows on_row
      read-order ops [] l ap fits fresh more line f p q b =
          let e : 0 + more ≡ more = omega arith in
          let z : line + 0 ≡ line = omega arith in
          let g : q ≡ p = b.place ∙ omega arith in
          rw (e, z, g)
      read-order ops (x ∷ order) l t fits fresh more line f p q b =
          let i = t.inside 0 (omega arith) in
          let w = fits 0 (omega arith) in
          let v = variable-literal x false in
          let parts = at_split (line_by x) (joined (λ k. line_by (get_or order k 0)) (length order)) (rw (joined-front (λ k. line_by (get_or (x ∷ order) k 0)) (length order)) at b) in
          let g : GateFits first m ops (literal_of x false) (L x) (R x) = record { own = ap (λ (y : ℕ). literal_of y false) (sym v); from = rw v i.0; to = rw v i.1; left = w.0; right = w.1; fresh = rw v (fresh 0 (omega arith)) } in
          let one = gate_complete s f p (p + length (line_by x)) first m ops x (L x) (R x) few g parts.0 in
          let n : suc (length order) + more ≡ suc (length order + more) = omega arith in
          let z : line + suc (length order) ≡ line + 1 + length order = omega arith in
          let rest = read-order (put ops (x - first) (L x) (R x)) order (length-sets ops (2 * (x - first)) (L x ∷ R x ∷ []) ∙ l) (apart-rest first m x order t) (λ k h. fits (suc k) (omega arith)) (still t) more (line + 1) f (p + length (line_by x)) q parts.1 in
          rw (n, z, one) rest
        where
          still : Apart first m (x ∷ order) → (k : ℕ) → k < length order → left first (put ops (x - first) (L x) (R x)) (get_or order k 0) ≡ undefined
          still t k h =
              let i = t.inside 0 (omega arith) in
              let j = t.inside (suc k) (omega arith) in
              (put_other ops (x - first) (L x) (R x) (get_or order k 0 - first) (λ (e : get_or order k 0 - first ≡ x - first). apart-first first m x order t k h (omega arith))).0 ∙ fresh (suc k) (omega arith)

      -- the line behind them has a fault
      pub order-fault : (ops order : List ℕ) → length ops ≡ 2 * a → Apart first m order
          → ((k : ℕ) → k < length order → (L (get_or order k 0) ≤ literal_of m true) × (R (get_or order k 0) ≤ literal_of m true))
          → ((k : ℕ) → k < length order → left first ops (get_or order k 0) ≡ undefined)
          → (count line f p q : ℕ) (e : Fault) → length order < count → At s p (joined (λ k. line_by (get_or order k 0)) (length order)) q
          → gate_at s first m (stored_by first L R ops order) f q ≡ fault e → gate_rows s first m count line ops f p ≡ failed e (line + length order)
      unfolding gate_rows on_row
      order-fault ops order l t fits fresh count line f p q e h b bad =
          let n : count ≡ length order + suc (count - length order - 1) = omega arith in
          rw n (read-order ops order l t fits fresh (suc (count - length order - 1)) line f p q b ∙ rw bad)
