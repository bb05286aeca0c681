-- A trace is the lines of its cycles, or the line told is the first wrong one. Assumes nothing.
use mathlib.Core.Path.{◌≡◌, refl, sym, ap, ap₂, ◌∙◌}
use mathlib.Core.Bool.{Bool, true, false, true≢false}
use mathlib.Core.List.{List, [], ◌∷◌, ◌++◌, append_assoc}
use Prim.Native.Nat.{ℕ, zero, suc, ◌+◌, ◌*◌, ◌<◌, ◌≤◌}
use native.Mathlib.Nat.{suc-mul, mul-div_cancel}
use native.Mathlib.Omega.{arith}
use lib.Dec.{eqb}
use lib.ListN.{length, get_or, drop, length-append}
use lib.Seq.{take_at, drop_at}
use borrow.Author.Tests.{eqb-true, eqb-false, eq-eqb, ne_eqb}
use Rattle.netlist.specs.Lanes.{each}
use Rattle.netlist.proofs.EachLaws.{both}
use Rattle.trace.specs.Traces.{is_bit, is_cycle, fits_line, fault_from, fault_of, line_count, cycles_from, cycles_of}
use Rattle.trace.specs.Claims.{Cycles, lines_of, FirstWrong, TraceMeans}
use Rattle.trace.proofs.TraceLaws.{cycle-length}

-- ---- a cycle, byte by byte
cycle-none : is_cycle 0 [] ≡ true
unfolding is_cycle each
cycle-none = refl

module _ (n b : ℕ) (c : List ℕ) where
  cycle-cons : is_bit b ≡ true → is_cycle n c ≡ true → is_cycle (suc n) (b ∷ c) ≡ true
  unfolding is_cycle each
  cycle-cons h e =
      let l = cycle-length n c e in
      rw (eq-eqb (suc (length c)) (suc n) (ap suc l), h) (both (eqb (length c) n) (each (length c) (λ k. is_bit (get_or c k 0))) e).1

  cycle-head : is_cycle (suc n) (b ∷ c) ≡ true → is_bit b ≡ true
  unfolding is_cycle each
  cycle-head e = (both (is_bit b) (each (length c) (λ k. is_bit (get_or c k 0))) (both (eqb (suc (length c)) (suc n)) _ e).1).0

  cycle-tail : is_cycle (suc n) (b ∷ c) ≡ true → is_cycle n c ≡ true
  unfolding is_cycle each
  cycle-tail e =
      let l = cycle-length (suc n) (b ∷ c) e in
      rw (eq-eqb (length c) n (omega arith)) (both (is_bit b) (each (length c) (λ k. is_bit (get_or c k 0))) (both (eqb (suc (length c)) (suc n)) _ e).1).1

-- ---- what stands first in a trace: a cycle and its LF, or neither
-- s does not begin with a cycle of n inputs and its LF
abbrev Wrong : ℕ → List ℕ → Type 0
Wrong n s = (c more : List ℕ) → is_cycle n c ≡ true → s ≡ c ++ (10 ∷ more) → ⊥

module _ (n line : ℕ) where
  -- what is left of a line of which col bytes came before, and j bytes are due
  data Line (j col : ℕ) (s : List ℕ) : Type 0 where
    ends : (c more : List ℕ) → is_cycle j c ≡ true → s ≡ c ++ (10 ∷ more) → fault_from n line col s ≡ fault_from n (line + 1) 0 more → Line j col s
    fails : Wrong j s → fault_from n line col s ≡ line → Line j col s

  fails_at_end : (j col : ℕ) → 0 < col → Line j col []
  unfolding fault_from
  fails_at_end j col h =
      fails (λ c more d e. omega (arith, simp length-append at (ap length e))) (rw (ne_eqb col 0 (λ q. omega arith)))

  line_at : (j col : ℕ) (s : List ℕ) → col + j ≡ n → 0 < col + length s → Line j col s
  unfolding fault_from fits_line
  line_at j col [] e h = fails_at_end j col (omega arith)
  line_at zero col (b ∷ s) e h = go (eqb b 10) refl
    where
      here : eqb col n ≡ true
      here = eq-eqb col n (omega arith)

      go : (t : Bool) → eqb b 10 ≡ t → Line zero col (b ∷ s)
      go true d = ends [] s cycle-none (ap (λ (x : ℕ). x ∷ s) (eqb-true b 10 d)) (rw (here, d))
      go false d = fails none (rw (here, d))
        where
          none : Wrong zero (b ∷ s)
          none [] more i q = eqb-false b 10 d (ap (λ (l : List ℕ). get_or l 0 0) q)
          none (x ∷ c) more i q = let l = cycle-length zero (x ∷ c) i in omega arith
  line_at (suc j) col (b ∷ s) e h = go (is_bit b) refl (line_at j (col + 1) s (omega arith) (omega arith))
    where
      away : eqb col n ≡ false
      away = ne_eqb col n (λ q. omega arith)

      go : (t : Bool) → is_bit b ≡ t → Line j (col + 1) s → Line (suc j) col (b ∷ s)
      go true d (ends c more i q f) = ends (b ∷ c) more (cycle-cons j b c d i) (ap (λ (l : List ℕ). b ∷ l) q) (rw (away, d) f)
      go true d (fails w f) = fails none (rw (away, d) f)
        where
          none : Wrong (suc j) (b ∷ s)
          none [] more i q = let l = cycle-length (suc j) [] i in omega arith
          none (x ∷ c) more i q = w c more (cycle-tail j x c i) (ap (drop 1) q)
      go false d r = fails none (rw (away, d))
        where
          none : Wrong (suc j) (b ∷ s)
          none [] more i q = let l = cycle-length (suc j) [] i in omega arith
          none (x ∷ c) more i q = true≢false (sym (cycle-head j x c i) ∙ ap is_bit (sym (ap (λ (l : List ℕ). get_or l 0 0) q)) ∙ d)

-- ---- a whole trace: the lines of cycles, or the first wrong line
module _ (n : ℕ) where
  data Told (line : ℕ) (s : List ℕ) : Type 0 where
    none : (cs : List (List ℕ)) → Cycles n cs → s ≡ lines_of cs → fault_from n line 0 s ≡ 0 → Told line s
    wrong : (k : ℕ) → FirstWrong n k s → fault_from n line 0 s ≡ line + k → Told line s

  later : (line : ℕ) (s c more : List ℕ) → is_cycle n c ≡ true → s ≡ c ++ (10 ∷ more) → fault_from n line 0 s ≡ fault_from n (line + 1) 0 more
      → Told (line + 1) more → Told line s
  unfolding Cycles lines_of
  later line s c more i e f (none cs cy l z) = none (c ∷ cs) (i, cy) (e ∙ ap (λ (x : List ℕ). c ++ (10 ∷ x)) l) (f ∙ z)
  later line s c more i e f (wrong k w z) =
      wrong (suc k)
      (record {
        before = c ∷ w.before;
        rest = w.rest;
        apart = e ∙ ap (λ (x : List ℕ). c ++ (10 ∷ x)) w.apart ∙ sym (append_assoc c (10 ∷ lines_of w.before) w.rest);
        right = (i, w.right);
        count = ap suc w.count;
        some = w.some;
        wrong = w.wrong;
      })
      (f ∙ z ∙ omega arith)

  told : (fuel line : ℕ) (s : List ℕ) → length s ≤ fuel → Told line s
  unfolding Cycles lines_of fault_from
  told zero line [] h = none [] tt refl refl
  told zero line (b ∷ s) h = absurd (omega arith)
  told (suc fuel) line [] h = none [] tt refl refl
  told (suc fuel) line (b ∷ s) h = go (line_at n line n 0 (b ∷ s) (omega arith) (omega arith)) (told fuel)
    where
      go : Line n line n 0 (b ∷ s) → ((line' : ℕ) (t : List ℕ) → length t ≤ fuel → Told line' t) → Told line (b ∷ s)
      go (ends c more i e f) more-told =
          later line (b ∷ s) c more i e f (more-told (line + 1) more (let l = simp length-append at (ap length e) in omega arith))
      go (fails w f) more-told =
          wrong 0 (record { before = []; rest = b ∷ s; apart = refl; right = tt; count = refl; some = omega arith; wrong = w }) (f ∙ omega arith)

-- ---- the lines of cycles
module _ (n : ℕ) where
  over : (line j col : ℕ) (c s : List ℕ) → col + j ≡ n → is_cycle j c ≡ true → fault_from n line col (c ++ (10 ∷ s)) ≡ fault_from n (line + 1) 0 s
  unfolding fault_from fits_line
  over line zero col [] s e i = rw (eq-eqb col n (omega arith))
  over line zero col (b ∷ c) s e i = absurd (let l = cycle-length zero (b ∷ c) i in omega arith)
  over line (suc j) col [] s e i = absurd (let l = cycle-length (suc j) [] i in omega arith)
  over line (suc j) col (b ∷ c) s e i =
      rw (ne_eqb col n (λ q. omega arith), cycle-head j b c i) (over line j (col + 1) c s (omega arith) (cycle-tail j b c i))

  no_fault : (line : ℕ) (cs : List (List ℕ)) → Cycles n cs → fault_from n line 0 (lines_of cs) ≡ 0
  unfolding Cycles lines_of fault_from
  no_fault line [] h = refl
  no_fault line (c ∷ cs) h = over line n 0 c (lines_of cs) (omega arith) h.0 ∙ no_fault (line + 1) cs h.1

  pub lines-length : (cs : List (List ℕ)) → Cycles n cs → length (lines_of cs) ≡ length cs * (n + 1)
  unfolding Cycles lines_of
  lines-length [] h = omega arith
  lines-length (c ∷ cs) h =
      let l = cycle-length n c h.0 in
      let m = lines-length cs h.1 in
      rw (length-append, suc-mul) (omega arith)

  same-cycles : (cs : List (List ℕ)) → Cycles n cs → cycles_from n (length cs) (lines_of cs) ≡ cs
  unfolding Cycles lines_of cycles_from
  same-cycles [] h = refl
  same-cycles (c ∷ cs) h =
      let l = cycle-length n c h.0 in
      let d : drop (n + 1) (c ++ (10 ∷ lines_of cs)) ≡ lines_of cs = rw (← append_assoc c (10 ∷ []) (lines_of cs)) (drop_at (c ++ (10 ∷ [])) (lines_of cs) (n + 1) (rw length-append (omega arith))) in
      ap₂ (λ (x : List ℕ) (xs : List (List ℕ)). x ∷ xs) (take_at c (10 ∷ lines_of cs) n l) (rw d (same-cycles cs h.1))

  counted-lines : (cs : List (List ℕ)) → Cycles n cs → line_count n (lines_of cs) ≡ length cs
  unfolding line_count
  counted-lines cs h = rw (lines-length cs h) (mul-div_cancel (length cs) (omega arith))

  lines-cycles : (cs : List (List ℕ)) → Cycles n cs → cycles_of n (lines_of cs) ≡ cs
  unfolding cycles_of
  lines-cycles cs h = rw (counted-lines cs h) (same-cycles cs h)

-- ---- the claim
pub trace-means : (n : ℕ) (trace : List ℕ) → TraceMeans n trace
unfolding fault_of
trace-means n trace =
    record {
      whole = whole (told n (length trace) 1 trace (omega arith));
      lines = λ cs h e. rw e (no_fault n 1 cs h, lines-cycles n cs h);
      first = first (told n (length trace) 1 trace (omega arith));
    }
  where
    whole : Told n 1 trace → fault_from n 1 0 trace ≡ 0 → (trace ≡ lines_of (cycles_of n trace)) × Cycles n (cycles_of n trace)
    whole (none cs h e z) f = let d : cycles_of n trace ≡ cs = rw e (lines-cycles n cs h) in rw d (e, h)
    whole (wrong k w z) f = absurd (omega arith)

    first : Told n 1 trace → (k : ℕ) → fault_from n 1 0 trace ≡ suc k → FirstWrong n k trace
    first (none cs h e z) k f = absurd (omega arith)
    first (wrong m w z) k f = let d : m ≡ k = omega arith in rw d at w

-- each line of a trace without a wrong line is a cycle
pub lines-are_cycles : (n : ℕ) (trace : List ℕ) → fault_of n trace ≡ 0 → Cycles n (cycles_of n trace)
lines-are_cycles n trace f = ((trace-means n trace).whole f).1
