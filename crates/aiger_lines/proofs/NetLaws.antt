-- When the numbers of lines are a netlist, or the outline of one, and that the header, latches and outputs of an outline
-- are read, whatever form the file's other lines have. Assumes nothing.
use mathlib.Core.Path.{◌≡◌, refl, sym, ap, ap₂, ◌∙◌}
use mathlib.Core.Bool.{Bool, true, false, cond, not, ◌&&◌, ◌||◌}
use mathlib.Core.List.{List, [], ◌∷◌}
use mathlib.Core.Logic.{◌⊎◌, inl, inr}
use Prim.Native.Nat.{ℕ, zero, suc, ◌+◌, ◌*◌, ◌≤◌, ◌<◌}
use native.Mathlib.Nat.{zero-add, add-zero}
use native.Mathlib.Omega.{arith}
use borrow.Author.Tests.{le-leb, eq-eqb, lt-ltb, ltb-true}
use lib.Dec.{eqb, leb, ltb}
use lib.ListN.{length, get_or}
use Rattle.text.specs.Writer.{joined}
use Rattle.netlist.specs.Layout.{maximum, input_count, latch_count, output_count, gate_count, next_at, reset_at, output_at, operands_at, size_of, latch_variable, gate_variable}
use Rattle.netlist.specs.Literals.{literal_of, variable_of}
use Rattle.netlist.specs.Valid.{header_ok, is_within, is_free, latch_ok, free_count, output_ok, gate_ok, is_outline, is_netlist}
use Rattle.netlist.proofs.EachLaws.{both, each_all}
use Rattle.netlist.proofs.LiteralLaws.{literal-plain, literal-inverted}
use Rattle.netlist.proofs.ValidLaws.{Outline, outline, free-below}
use Rattle.aiger.specs.Format.{output_line}
use Rattle.aiger_lines.specs.declared.Fault.{Fault}
use Rattle.aiger_lines.specs.Lines.{Row, row, fault, latch_says}
use Rattle.aiger_lines.specs.Lines as lines
use Rattle.aiger_lines.specs.Blocks.{rows, failed, rows_of}
use Rattle.aiger_lines.specs.Heads.{heading, head_at}
use Rattle.aiger_lines.proofs.LimitLaws.{header-sum}
use Rattle.aiger_lines.proofs.PlaceLaws.{At, at-parts}
use Rattle.aiger_lines.proofs.FieldLaws.{Small}
use Rattle.aiger_lines.proofs.HeadLaws.{head_text, head_read}
use Rattle.aiger_lines.proofs.TextLaws.{LatchSays, output_complete, says_complete}
use Rattle.aiger_lines.proofs.RunLaws.{of_run, fault-run}
use Rattle.aiger_lines.proofs.LayoutLaws.{Pieces, net_of, net-length, latch_at_lem, output_at_lem, gate_at_lem, pair_at, one_at}

-- ---- the numbers of the lines, laid out

-- where the numbers of the lines stand in the netlist
pub record Laid (net : List ℕ) (L O G : ℕ → List ℕ) : Type 0 where
  pub size : length net ≡ size_of net
  pub next : (k : ℕ) → k < latch_count net → get_or net (next_at k) 0 ≡ get_or (L k) 0 0
  pub reset : (k : ℕ) → k < latch_count net → get_or net (reset_at k) 0 ≡ get_or (L k) 1 0
  pub output : (k : ℕ) → k < output_count net → get_or net (output_at net k) 0 ≡ get_or (O k) 0 0
  pub first : (k : ℕ) → k < gate_count net → get_or net (operands_at net k) 0 ≡ get_or (G k) 0 0
  pub second : (k : ℕ) → k < gate_count net → get_or net (operands_at net k + 1) 0 ≡ get_or (G k) 1 0

pub laid : (m i l o a : ℕ) (L O G : ℕ → List ℕ) → Pieces m i l o a L O G → Laid (net_of m i l o a L O G) L O G
laid m i l o a L O G t =
    record {
      size = net-length m i l o a L O G t;
      next = λ k h. rw (sym (add-zero (5 + 2 * k))) (latch_at_lem m i l o a L O G t k 0 h (omega arith));
      reset = λ k h. latch_at_lem m i l o a L O G t k 1 h (omega arith);
      output = λ k h. output_at_lem m i l o a L O G t k h;
      first = λ k h. rw (sym (add-zero (5 + 2 * l + o + 2 * k))) (gate_at_lem m i l o a L O G t k 0 h (omega arith));
      second = λ k h. gate_at_lem m i l o a L O G t k 1 h (omega arith);
    }

-- lines that give no numbers
pub joined-none : (N : ℕ → List ℕ) (n : ℕ) → ((k : ℕ) → k < n → N k ≡ []) → joined N n ≡ []
joined-none N zero h = refl
joined-none N (suc n) h = rw (joined-none N n (λ k l. h k (omega arith)), h n (omega arith))

-- ---- SOUND: numbers that were taken are an outline, and with their gates a netlist

-- a reset that was taken
reset-taken : (r lit f : ℕ) (t : Bool) → leb r 1 ≡ t → (t || (eqb r lit && ltb f 6)) ≡ true → ((not (not t) || eqb r lit) ≡ true) × (f ≤ 6 → f + cond t 0 1 ≤ 6)
reset-taken r lit f true e h = (refl, λ l. omega arith)
reset-taken r lit f false e h = let b = both (eqb r lit) (ltb f 6) h in (b.0, λ l. omega (arith, ltb-true f 6 b.1))

counted : (t : Bool) → ◌≡◌ {A = ℕ} (cond t 0 1) (cond (not t) 1 0)
counted true = refl
counted false = refl

six : {t1 t2 t3 t4 t5 t6 : Bool} → t1 ≡ true → t2 ≡ true → t3 ≡ true → t4 ≡ true → t5 ≡ true → t6 ≡ true → (t1 && (t2 && (t3 && (t4 && (t5 && t6))))) ≡ true
six a b c d e f = rw (a, b, c, d, e, f)

-- what the lines say: each latch, with the uninitialised ones before it, and each output
pub record Says (net : List ℕ) (L O : ℕ → List ℕ) (F : ℕ → ℕ) : Type 0 where
  pub start : F 0 ≡ 0
  pub latches : (k : ℕ) → k < latch_count net → LatchSays (literal_of (maximum net) true) (literal_of (latch_variable net k) false) (F k) (L k) (F (suc k))
  pub outputs : (k : ℕ) → k < output_count net → get_or (O k) 0 0 ≤ literal_of (maximum net) true

-- and each gate
pub record Gates (net : List ℕ) (G : ℕ → List ℕ) : Type 0 where
  pub below : (k : ℕ) → k < gate_count net → get_or (G k) 0 0 < literal_of (gate_variable net k) false
  pub order : (k : ℕ) → k < gate_count net → get_or (G k) 1 0 ≤ get_or (G k) 0 0

module _
    (net : List ℕ)
    (ok : header_ok (maximum net) (input_count net) (latch_count net) (output_count net) (gate_count net) ≡ true)
    {L O G : ℕ → List ℕ}
    {F : ℕ → ℕ}
    (t : Laid net L O G)
    (says : Says net L O F)
  where
    output_ok_lem : (k : ℕ) → k < output_count net → output_ok net k ≡ true
    unfolding output_ok is_within
    output_ok_lem k h = rw (t.output k h) (le-leb _ _ (says.outputs k h))

    latch_ok_lem : (k : ℕ) → k < latch_count net → latch_ok net k ≡ true
    unfolding latch_ok is_within is_free
    latch_ok_lem k h =
        let r = says.latches k h in
        rw (t.next k h, t.reset k h) (ap₂ ◌&&◌ (le-leb _ _ r.next) (reset-taken (get_or (L k) 1 0) (literal_of (latch_variable net k) false) (F k) (leb (get_or (L k) 1 0) 1) refl r.reset).0)

    free-is : (k : ℕ) → k ≤ latch_count net → (F k ≡ free_count net k) × (F k ≤ 6)
    unfolding free_count is_free
    free-is zero h = (says.start, omega (arith, says.start))
    free-is (suc k) h =
        let r = says.latches k (omega arith) in
        let ih = free-is k (omega arith) in
        let x = get_or (L k) 1 0 in
        let e : F (suc k) ≡ F k + cond (leb x 1) 0 1 = r.free in
        let m = (reset-taken x (literal_of (latch_variable net k) false) (F k) (leb x 1) refl r.reset).1 ih.1 in
        (e ∙ ap₂ ◌+◌ ih.0 (counted (leb x 1)) ∙ rw (t.reset k (omega arith)), rw e m)

    pub laid_outline : is_outline net ≡ true
    unfolding is_outline
    laid_outline =
        let f = free-is (latch_count net) (omega arith) in
        six
        (le-leb 5 (length net) (omega (arith, t.size)))
        ok
        (le-leb (size_of net) (length net) (omega (arith, t.size)))
        (each_all (output_ok net) (output_count net) output_ok_lem)
        (each_all (latch_ok net) (latch_count net) latch_ok_lem)
        (le-leb (free_count net (latch_count net)) 6 (omega (arith, f.0, f.1)))

    gate_ok_lem : Gates net G → (k : ℕ) → k < gate_count net → gate_ok net k ≡ true
    unfolding gate_ok
    gate_ok_lem gates k h = rw (t.first k h, t.second k h) (ap₂ ◌&&◌ (lt-ltb _ _ (gates.below k h)) (le-leb _ _ (gates.order k h)))

    pub laid_netlist : Gates net G → is_netlist net ≡ true
    unfolding is_netlist
    laid_netlist gates = ap₂ ◌&&◌ laid_outline (each_all (gate_ok net) (gate_count net) (gate_ok_lem gates))

-- ---- COMPLETE: what stands there is read

-- lines are read where their texts stand one after the other
pub complete_run : (s : List ℕ) (at : ℕ → ℕ → ℕ → Row) (T N : ℕ → List ℕ) (F : ℕ → ℕ) (n line p q : ℕ) → At s p (joined T n) q
    → ((k x y : ℕ) → k < n → At s x (T k) y → at k (F k) x ≡ row (N k) (F (suc k)) y) → rows_of at n 0 line (F 0) p ≡ rows (joined N n) (F n) q
complete_run s at T N F n line p q a step =
    let r = of_run at F (λ k. p + length (joined T k)) N n 0 line (λ k h. rw zero-add (step k (p + length (joined T k)) (p + length (joined T (suc k))) h (at-parts T n p q a k h))) in
    let z : p + length (joined T 0) ≡ p = add-zero p in
    rw (z, ← a.place) at r

-- and up to one with a fault
pub faulty_run : (s : List ℕ) (at : ℕ → ℕ → ℕ → Row) (T N : ℕ → List ℕ) (F : ℕ → ℕ) (e : Fault) (k n line p q : ℕ) → k < n → At s p (joined T k) q
    → ((j x y : ℕ) → j < k → At s x (T j) y → at j (F j) x ≡ row (N j) (F (suc j)) y) → at k (F k) q ≡ fault e → rows_of at n 0 line (F 0) p ≡ failed e (line + k)
faulty_run s at T N F e k n line p q l a step bad =
    let z : p + length (joined T 0) ≡ p = add-zero p in
    let b : at (0 + k) (F k) (p + length (joined T k)) ≡ fault e = rw (zero-add, ← a.place) bad in
    let r = fault-run at F (λ j. p + length (joined T j)) N e k n 0 line l (λ j h. rw zero-add (step j (p + length (joined T j)) (p + length (joined T (suc j))) h (at-parts T k p q a j h))) b in
    rw z at r

-- the line of output k, whichever it is
abbrev pub output_rows : List ℕ → ℕ → ℕ → ℕ → ℕ → Row
output_rows s m k = lines.output_at s (literal_of m true)

module _ (net : List ℕ) (is : is_outline net ≡ true) where
  abbrev v : Outline net
  v = outline net is

  -- ---- its numbers are small and fit
  pub own-small : (n : ℕ) → n ≤ 4096 → literal_of n false < 100000
  own-small n h = omega (arith, literal-plain n)

  pub within : (lit : ℕ) → variable_of lit ≤ maximum net → (lit ≤ literal_of (maximum net) true) × (lit < 100000)
  unfolding variable_of
  within lit h = (omega (arith, literal-inverted (maximum net)), omega (arith, v.small))

  pub reset-fits : (k : ℕ) → k < latch_count net → (leb (get_or net (reset_at k) 0) 1 || (eqb (get_or net (reset_at k) 0) (literal_of (latch_variable net k) false) && ltb (free_count net k) 6)) ≡ true
  unfolding is_free
  reset-fits k h = go (leb (get_or net (reset_at k) 0) 1) refl (v.resets k h)
    where
      go : (t : Bool) → leb (get_or net (reset_at k) 0) 1 ≡ t → (get_or net (reset_at k) 0 ≤ 1) ⊎ (get_or net (reset_at k) 0 ≡ literal_of (latch_variable net k) false)
          → (t || (eqb (get_or net (reset_at k) 0) (literal_of (latch_variable net k) false) && ltb (free_count net k) 6)) ≡ true
      go true e w = refl
      go false e (inl w) = absurd (let z : true ≡ false = sym (le-leb (get_or net (reset_at k) 0) 1 w) ∙ e in let y : ◌≡◌ {A = ℕ} 0 1 = cc in omega arith)
      go false e (inr w) = ap₂ ◌&&◌ (eq-eqb (get_or net (reset_at k) 0) (literal_of (latch_variable net k) false) w) (lt-ltb (free_count net k) 6 (free-below net is k h (ap not e)))

  pub reset-small : (k : ℕ) → k < latch_count net → get_or net (reset_at k) 0 < 100000
  reset-small k h = go (v.resets k h)
    where
      go : (get_or net (reset_at k) 0 ≤ 1) ⊎ (get_or net (reset_at k) 0 ≡ literal_of (latch_variable net k) false) → get_or net (reset_at k) 0 < 100000
      go (inl w) = omega arith
      go (inr w) = omega (arith, own-small (latch_variable net k) (omega (arith, v.sum, v.small)))

  pub free-next : (k : ℕ) → free_count net k + cond (leb (get_or net (reset_at k) 0) 1) 0 1 ≡ free_count net (suc k)
  unfolding free_count is_free
  free-next k = ap (λ (x : ℕ). free_count net k + x) (counted (leb (get_or net (reset_at k) 0) 1))

  -- ---- the header
  pub ok : header_ok (maximum net) (input_count net) (latch_count net) (output_count net) (gate_count net) ≡ true
  ok = header-sum (maximum net) (input_count net) (latch_count net) (output_count net) (gate_count net) v.small v.some v.few v.output v.most ∙ eq-eqb _ _ v.sum

  pub small : Small (maximum net ∷ input_count net ∷ latch_count net ∷ output_count net ∷ gate_count net ∷ [])
  unfolding Small
  small = (omega (arith, v.small), (omega (arith, v.few), (omega (arith, v.sum, v.small), (omega (arith, v.most), (omega (arith, v.sum, v.small), tt)))))

  pub net-head : (second : ℕ) (s : List ℕ) (q : ℕ) → At s 0 (head_text second (maximum net) (input_count net) (latch_count net) (output_count net) (gate_count net)) q
      → head_at second s ≡ heading (maximum net) (input_count net) (latch_count net) (output_count net) (gate_count net) q
  net-head second s q a = head_read second s (maximum net) (input_count net) (latch_count net) (output_count net) (gate_count net) q a small ok

  -- ---- what latch k says
  pub net_latch : (k q : ℕ) → k < latch_count net
      → latch_says (literal_of (maximum net) true) (literal_of (latch_variable net k) false) (free_count net k) (get_or net (next_at k) 0) (get_or net (reset_at k) 0) q ≡ row (pair_at net (5 + 2 * k)) (free_count net (suc k)) q
  net_latch k q h =
      says_complete (literal_of (maximum net) true) (literal_of (latch_variable net k) false) (free_count net k) (get_or net (next_at k) 0) (get_or net (reset_at k) 0) q (within (get_or net (next_at k) 0) (v.nexts k h)).0 (reset-fits k h)
      ∙ ap (λ (f : ℕ). row (pair_at net (5 + 2 * k)) f q) (free-next k)

  -- ---- the outputs
  module _ (s : List ℕ) where
    pub output-run : (f k x y : ℕ) → k < output_count net → At s x (output_line net k) y → output_rows s (maximum net) k f x ≡ row (one_at net (5 + 2 * latch_count net + k)) f y
    unfolding output_line
    output-run f k x y h b =
        let w = within (get_or net (output_at net k) 0) (v.outputs k h) in
        output_complete s f x y (literal_of (maximum net) true) (get_or net (output_at net k) 0) w.0 w.1 b

    pub outputs-run : (f p q line : ℕ) → At s p (joined (output_line net) (output_count net)) q
        → rows_of (output_rows s (maximum net)) (output_count net) 0 line f p ≡ rows (joined (λ k. one_at net (5 + 2 * latch_count net + k)) (output_count net)) f q
    outputs-run f p q line a =
        complete_run s (output_rows s (maximum net)) (output_line net) (λ k. one_at net (5 + 2 * latch_count net + k)) (λ _. f) (output_count net) line p q a (output-run f)

    -- and up to one with a fault
    pub outputs-fault : (e : Fault) (k f p q line : ℕ) → k < output_count net → At s p (joined (output_line net) k) q → output_rows s (maximum net) k f q ≡ fault e
        → rows_of (output_rows s (maximum net)) (output_count net) 0 line f p ≡ failed e (line + k)
    outputs-fault e k f p q line l a bad =
        faulty_run s (output_rows s (maximum net)) (output_line net) (λ j. one_at net (5 + 2 * latch_count net + j)) (λ _. f) e k (output_count net) line p q l a
        (λ j x y i c. output-run f j x y (omega arith) c) bad
