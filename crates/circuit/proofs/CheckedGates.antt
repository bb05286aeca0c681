-- Where each gate of checked stands, for every graph: "each one gate, all these first, then joined in edge order". Assumes
-- nothing.
use Prim.Native.Nat.{ℕ, zero, suc, ◌+◌, ◌-◌, ◌*◌, ◌<◌}
use mathlib.Core.Path.{◌≡◌, refl, ap, ap₂, subst, sym, ◌∙◌}
use mathlib.Core.Bool.{Bool, true, false, cond}
use mathlib.Core.List.{List, [], ◌∷◌, ◌++◌}
use native.Mathlib.Omega.{arith}
use lib.ListN.{length, get_or, length-append, get_or-append}
use lib.Seq.{get_or-append-add}
use Rattle.netlist.specs.Literals.{literal_of}
use Rattle.assertion.specs.Graph.{Edge, Graph, is_terminal}
use Rattle.circuit.specs.Gates.{Gate, gate, Piece}
use Rattle.circuit.specs.Build.{Bits, Two, or_all, first_gate, judged, gates_of}
use Rattle.circuit.specs.Checked.{terminal_twos, alives, checked_piece}
use Rattle.circuit.specs.Count.{terminals}
use Rattle.circuit.specs.Claims.{gate_at, now_at, inverse_at, CheckedGates, CheckedMeans}
use Rattle.circuit.proofs.Count.{or-length, cond-length, judged-gates}
use Rattle.circuit.proofs.Joins.{or_gate, or_literal, all_first, all-next, all-out, all_one, or_chain}

-- what is read past the end
abbrev no : Two
no = record { happy = 0; condemned = 0 }

-- ---- the gates of alive, and their literals
pub alive-length : (ms : List Two) (n : ℕ) → (length (alives n ms).gates ≡ length ms) × (length (alives n ms).outs ≡ length ms)
alive-length [] n = (refl, refl)
alive-length (m ∷ ms) n = let r = alive-length ms (suc n) in (ap suc r.0, ap suc r.1)

alive-at : (ms : List Two) (n k : ℕ) → k < length ms → gate_at (alives n ms).gates k ≡ or_gate (get_or ms k no).condemned (get_or ms k no).happy
alive-at [] n k l = absurd (omega arith)
alive-at (m ∷ ms) n zero l = refl
alive-at (m ∷ ms) n (suc k) l = alive-at ms (suc n) k (omega arith)

outs-at : (ms : List Two) (n k : ℕ) → k < length ms → get_or (alives n ms).outs k 0 ≡ inverse_at n k
outs-at [] n k l = absurd (omega arith)
outs-at (m ∷ ms) n zero l = ap or_literal (omega arith)
outs-at (m ∷ ms) n (suc k) l = outs-at ms (suc n) k (omega arith) ∙ ap or_literal (omega arith)

-- ---- a terminal edge stands behind the terminal edges before it
pub terminal-length : (g : Graph) (es : List Edge) (ms : List Two) → length ms ≡ length es → length (terminal_twos g es ms) ≡ terminals g es
terminal-length g [] ms h = refl
terminal-length g (e ∷ es) [] h = absurd (omega arith)
terminal-length g (e ∷ es) (m ∷ ms) h = omega (arith, cond-length (is_terminal g e) m (terminal_twos g es ms), terminal-length g es ms (omega arith))

past : (b : Bool) (m : Two) (ms : List Two) (k : ℕ) → get_or (cond b (m ∷ ms) ms) (cond b 1 0 + k) no ≡ get_or ms k no
past true m ms k = get_or-append-add (m ∷ []) ms k no
past false m ms k = ap (λ (i : ℕ). get_or ms i no) (omega arith)

module _ (g : Graph) (after : List Edge) (e : Edge) (is : is_terminal g e ≡ true) where
  twos_at : (before : List Edge) (ms : List Two) → length ms ≡ length (before ++ (e ∷ after))
      → get_or (terminal_twos g (before ++ (e ∷ after)) ms) (terminals g before) no ≡ get_or ms (length before) no
  twos_at [] [] h = absurd (omega arith)
  twos_at [] (m ∷ ms) h = rw is
  twos_at (f ∷ before) [] h = absurd (omega arith)
  twos_at (f ∷ before) (m ∷ ms) h = past (is_terminal g f) m (terminal_twos g (before ++ (e ∷ after)) ms) (terminals g before) ∙ twos_at before ms (omega arith)

  fewer : (before : List Edge) → terminals g before < terminals g (before ++ (e ∷ after))
  fewer [] = rw is (omega arith)
  fewer (f ∷ before) = omega (arith, fewer before)

-- ---- both
module _ (g : Graph) where
  abbrev ms : List Two
  ms = terminal_twos g g.edges (judged g).outs

  abbrev t : ℕ
  t = terminals g g.edges

  abbrev a : ℕ
  a = length (gates_of g)

  abbrev n : ℕ
  n = first_gate g + a

  abbrev lives : Bits
  lives = alives n ms

  abbrev m : ℕ
  m = n + length lives.gates

  abbrev joined : Piece
  joined = or_all m lives.outs

  abbrev xs : List Gate
  xs = gates_of g ++ (lives.gates ++ joined.gates)

  many : (length ms ≡ t) × (length lives.gates ≡ t) × (length lives.outs ≡ t)
  many =
      let r = alive-length ms n in
      let e : length ms ≡ t = terminal-length g g.edges (judged g).outs (judged-gates g).1 in
      (e, r.0 ∙ e, r.1 ∙ e)

  -- before the joins, and among them
  early : (k : ℕ) → k < t → gate_at xs (a + k) ≡ or_gate (get_or ms k no).condemned (get_or ms k no).happy
  early k l =
      get_or-append-add (gates_of g) (lives.gates ++ joined.gates) k (gate 0 0)
      ∙ get_or-append lives.gates joined.gates (gate 0 0) k (omega (arith, many.1)) ∙ alive-at ms n k (omega (arith, many.0))

  late : (j : ℕ) → gate_at xs (a + t + j) ≡ gate_at joined.gates j
  late j =
      let e : a + t + j ≡ a + (length lives.gates + j) = omega (arith, many.1) in
      ap (gate_at xs) e ∙ get_or-append-add (gates_of g) (lives.gates ++ joined.gates) (length lives.gates + j) (gate 0 0)
      ∙ get_or-append-add lives.gates joined.gates j (gate 0 0)

  out_at : (k : ℕ) → k < t → get_or lives.outs k 0 ≡ inverse_at n k
  out_at k l = outs-at ms n k (omega (arith, many.0))

  alive : (before after : List Edge) (e : Edge) → g.edges ≡ before ++ (e ∷ after) → is_terminal g e ≡ true
      → gate_at xs (a + terminals g before) ≡ or_gate (now_at g (length before)).condemned (now_at g (length before)).happy
  alive before after e h is =
      let l : terminals g before < t = subst (λ (es : List Edge). terminals g before < terminals g es) (sym h) (fewer g after e is before) in
      let q : length (judged g).outs ≡ length (before ++ (e ∷ after)) = (judged-gates g).1 ∙ ap length h in
      let w : get_or ms (terminals g before) no ≡ now_at g (length before) =
      ap (λ (es : List Edge). get_or (terminal_twos g es (judged g).outs) (terminals g before) no) h ∙ twos_at g after e is before (judged g).outs q in
      early (terminals g before) l ∙ ap (λ (x : Two). or_gate x.condemned x.happy) w

  last : (k : ℕ) → t ≡ suc k → joined.out ≡ inverse_at n (2 * t - 2)
  last zero e = all_one or_gate or_literal or_all or_chain lives.outs m (many.2 ∙ e) ∙ out_at 0 (omega arith) ∙ ap or_literal (omega arith)
  last (suc k) e = all-out or_gate or_literal or_all or_chain lives.outs m (omega (arith, many.2)) ∙ ap or_literal (omega (arith, many.1, many.2))

  none : (ls : List ℕ) → length ls ≡ 0 → (or_all m ls).out ≡ 0
  unfolding literal_of
  none [] h = refl
  none (l ∷ ls) h = absurd (omega arith)

  checked-are : CheckedGates g xs a n t joined.out
  checked-are =
      record {
        count = omega (
          arith,
          length-append (gates_of g) (lives.gates ++ joined.gates),
          length-append lives.gates joined.gates,
          or-length lives.outs m,
          many.1,
          many.2,
        );
        alive = alive;
        first-join = λ l.
            subst (λ (x : ℕ). gate_at xs x ≡ or_gate (inverse_at n 0) (inverse_at n 1)) (omega arith)
            (late 0 ∙ all_first or_gate or_literal or_all or_chain lives.outs m (omega (arith, many.2)) ∙ ap₂ or_gate (out_at 0 (omega arith)) (out_at 1 (omega arith)));
        next-join = λ j l.
            subst (λ (x : ℕ). gate_at xs (a + t + x) ≡ or_gate (inverse_at n (t + j)) (inverse_at n (j + 2))) (omega arith) (
            late (suc j) ∙ all-next or_gate or_literal or_all or_chain lives.outs m j (omega (arith, many.2))
            ∙ ap₂ or_gate (ap or_literal (omega (arith, many.1))) (out_at (suc (suc j)) (omega arith) ∙ ap (inverse_at n) (omega arith))
            );
        last = λ l. last (t - 1) (omega arith);
        none = λ e. none lives.outs (many.2 ∙ e);
      }

  -- THE LAW
  pub checked-means : CheckedMeans g
  unfolding checked_piece
  checked-means =
      record {
        second = (checked_piece g).out;
        outputs = refl;
        added = (checked_piece g).gates;
        behind = refl;
        gates = checked-are;
        without = (refl, refl);
      }
