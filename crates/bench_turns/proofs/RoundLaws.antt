-- Laws of the round: who is next, and that each turn brings a waiting machine nearer. Assumes nothing.
use mathlib.Core.Path.{◌≡◌, refl, sym, ap, subst, ◌∙◌}
use mathlib.Core.Bool.{Bool, true, false, cond, true≢false}
use mathlib.Core.Logic.{◌⊎◌, inl, inr}
use mathlib.Core.List.{List}
use Prim.Native.Nat.{ℕ, zero, suc, ◌+◌, ◌-◌, ◌%◌, ◌<◌, ◌≤◌}
use native.Mathlib.Omega.{arith}
use lib.Dec.{eqb, ltb}
use borrow.Author.Tests.{ltb-true, ltb-false, eqb-true, eqb-false, lt-ltb}
use Rattle.bench_turns.specs.Numbers.{waiting_of, last_of, waits}
use Rattle.bench_turns.specs.Answers.{distance, IsNext}
use Rattle.bench_turns.specs.Refusals.{next_from, next_machine, is_idle}

pub waits_so : (k : ℕ) (b : List ℕ) → 0 < waiting_of k b → waits k b ≡ true
unfolding waits
waits_so k b h = lt-ltb 0 (waiting_of k b) h

pub waits-some : (k : ℕ) (b : List ℕ) → waits k b ≡ true → 0 < waiting_of k b
unfolding waits
waits-some k b e = ltb-true 0 (waiting_of k b) e

pub waits-none : (k : ℕ) (b : List ℕ) → waits k b ≡ false → waiting_of k b ≡ 0
unfolding waits
waits-none k b e = let l = ltb-false 0 (waiting_of k b) e in omega arith

-- ---- places in the round
here : (k last : ℕ) → k < 8 → last ≤ 7 → (last + 1 + distance k last) % 8 ≡ k
here k last a b = omega arith

there : (last i : ℕ) → last ≤ 7 → i < 8 → distance ((last + 1 + i) % 8) last ≡ i
there last i a b = by (ltb (last + 1 + i) 8) refl
  where
    by : (t : Bool) → ltb (last + 1 + i) 8 ≡ t → distance ((last + 1 + i) % 8) last ≡ i
    by true e =
        let l = ltb-true (last + 1 + i) 8 e in
        let u : (last + 1 + i) % 8 ≡ last + 1 + i = omega arith in
        rw u (omega arith)
    by false e =
        let l = ltb-false (last + 1 + i) 8 e in
        let u : (last + 1 + i) % 8 ≡ last + 1 + i - 8 = omega arith in
        rw u (omega arith)

-- ---- the first of n from `from` on
module _ (b : List ℕ) where
  abbrev Skipped : ℕ → ℕ → Type 0
  Skipped from n = (i : ℕ) → i < n → waits ((from + i) % 8) b ≡ false

  data Found (from n r : ℕ) : Type 0 where
    nobody : r ≡ 8 → Skipped from n → Found from n r
    somebody : (i : ℕ) → i < n → r ≡ (from + i) % 8 → waits r b ≡ true → Skipped from i → Found from n r

  more : (from n : ℕ) → waits (from % 8) b ≡ false → Skipped (from + 1) n → Skipped from (suc n)
  more from n e s zero h = let z : from ≡ from + 0 = omega arith in subst (λ (m : ℕ). waits (m % 8) b ≡ false) z e
  more from n e s (suc i) h = let z : from + 1 + i ≡ from + suc i = omega arith in subst (λ (m : ℕ). waits (m % 8) b ≡ false) z (s i (omega arith))

  find : (from n : ℕ) → Found from n (next_from from n b)
  unfolding next_from
  find from zero = nobody refl (λ i h. absurd (omega arith))
  find from (suc n) = go (waits (from % 8) b) refl (find (from + 1) n)
    where
      go : (t : Bool) → waits (from % 8) b ≡ t → Found (from + 1) n (next_from (from + 1) n b) → Found from (suc n) (cond t (from % 8) (next_from (from + 1) n b))
      go true e f = let z : from % 8 ≡ (from + 0) % 8 = omega arith in somebody 0 (omega arith) z e (λ i h. absurd (omega arith))
      go false e (nobody r s) = nobody r (more from n e s)
      go false e (somebody i h r w s) = somebody (suc i) (omega arith) (r ∙ ap (λ (m : ℕ). m % 8) (omega arith)) w (more from i e s)

  next : Found (last_of b + 1) 8 (next_machine b)
  unfolding next_machine
  next = find (last_of b + 1) 8

  pub record Next (r : ℕ) : Type 0 where
    pub machine : r < 8
    pub waiting : waits r b ≡ true

  -- the next is the first in the round
  pub next-first : is_idle b ≡ false → last_of b ≤ 7 → (j : ℕ) → j < 8 → distance j (last_of b) < distance (next_machine b) (last_of b) → waits j b ≡ false
  unfolding is_idle
  next-first e last j small h = go next
    where
      go : Found (last_of b + 1) 8 (next_machine b) → waits j b ≡ false
      go (nobody r s) = absurd (eqb-false (next_machine b) 8 e r)
      go (somebody i l r w s) =
          let n : distance (next_machine b) (last_of b) ≡ i = rw r (there (last_of b) i last l) in
          rw (← (here j (last_of b) small last)) (s (distance j (last_of b)) (rw n at h))

  pub next-is : is_idle b ≡ false → Next (next_machine b)
  unfolding is_idle
  next-is e = go next
    where
      go : Found (last_of b + 1) 8 (next_machine b) → Next (next_machine b)
      go (nobody r s) = absurd (eqb-false (next_machine b) 8 e r)
      go (somebody i h r w s) = record { machine = omega arith; waiting = w }

-- ---- machines in round order
near : (k last : ℕ) → k < 8 → last < k → distance k last ≡ k - last - 1
near k last a b = omega arith

far : (k last : ℕ) → k ≤ last → last ≤ 7 → distance k last ≡ k + 7 - last
far k last a b = omega arith

under : (n : ℕ) → n < 8 → n % 8 ≡ n
under n h = omega arith

over : (n : ℕ) → 8 ≤ n → n < 16 → n % 8 ≡ n - 8
over n a b = omega arith

-- a machine that comes earlier in the round is nearer to k
closer : (k last i : ℕ) → k < 8 → last ≤ 7 → i < distance k last → distance k ((last + 1 + i) % 8) < distance k last
closer k last i a b h = by (ltb last k) refl
  where
    by : (t : Bool) → ltb last k ≡ t → distance k ((last + 1 + i) % 8) < distance k last
    by true e =
        let l = ltb-true last k e in
        let n = near k last a l in
        let m : last + 1 + i < k = omega arith in
        rw (under (last + 1 + i) (omega arith), near k (last + 1 + i) a m, n) (omega arith)
    by false e = wrap (ltb (last + 1 + i) 8) refl
      where
        wrap : (t : Bool) → ltb (last + 1 + i) 8 ≡ t → distance k ((last + 1 + i) % 8) < distance k last
        wrap true f =
            let l = ltb-false last k e in
            let m = ltb-true (last + 1 + i) 8 f in
            rw (under (last + 1 + i) m, far k (last + 1 + i) (omega arith) (omega arith), far k last l b) (omega arith)
        wrap false f =
            let l = ltb-false last k e in
            let m = ltb-false (last + 1 + i) 8 f in
            let n = far k last l b in
            let u : last + 1 + i - 8 < k = omega arith in
            rw (over (last + 1 + i) m (omega arith), near k (last + 1 + i - 8) a u, n) (omega arith)

module _ (b : List ℕ) (k : ℕ) (small : k < 8) (last : last_of b ≤ 7) (waiting : waits k b ≡ true) where
  back : (last_of b + 1 + distance k (last_of b)) % 8 ≡ k
  back = here k (last_of b) small last

  met : waits ((last_of b + 1 + distance k (last_of b)) % 8) b ≡ true
  met = rw back waiting

  -- while k waits no turn is idle
  pub not-idle : is_idle b ≡ false
  unfolding is_idle
  not-idle = go (next b)
    where
      go : Found b (last_of b + 1) 8 (next_machine b) → eqb (next_machine b) 8 ≡ false
      go (nobody r s) = absurd (true≢false (sym met ∙ s (distance k (last_of b)) (omega arith)))
      go (somebody i h r w s) = other (eqb (next_machine b) 8) refl
        where
          other : (t : Bool) → eqb (next_machine b) 8 ≡ t → t ≡ false
          other false e = refl
          other true e = let z = eqb-true (next_machine b) 8 e in absurd (omega arith)

  -- a turn serves k or brings it nearer
  pub nearer : (next_machine b ≡ k) ⊎ (distance k (next_machine b) < distance k (last_of b))
  nearer = go (next b)
    where
      go : Found b (last_of b + 1) 8 (next_machine b) → (next_machine b ≡ k) ⊎ (distance k (next_machine b) < distance k (last_of b))
      go (nobody r s) = absurd (true≢false (sym met ∙ s (distance k (last_of b)) (omega arith)))
      go (somebody i h r w s) = by (ltb i (distance k (last_of b))) refl
        where
          by : (t : Bool) → ltb i (distance k (last_of b)) ≡ t → (next_machine b ≡ k) ⊎ (distance k (next_machine b) < distance k (last_of b))
          by true e = inr (rw r (closer k (last_of b) i small last (ltb-true i (distance k (last_of b)) e)))
          by false e = at (ltb (distance k (last_of b)) i) refl
            where
              at : (t : Bool) → ltb (distance k (last_of b)) i ≡ t → (next_machine b ≡ k) ⊎ (distance k (next_machine b) < distance k (last_of b))
              at true f = absurd (true≢false (sym met ∙ s (distance k (last_of b)) (ltb-true (distance k (last_of b)) i f)))
              at false f =
                  let l = ltb-false i (distance k (last_of b)) e in
                  let m = ltb-false (distance k (last_of b)) i f in
                  let same : i ≡ distance k (last_of b) = omega arith in
                  inl (r ∙ ap (λ (z : ℕ). (last_of b + 1 + z) % 8) same ∙ back)

-- ---- who is next, told without searching
module _ (b : List ℕ) (last : last_of b ≤ 7) where
  pub next-told : is_idle b ≡ false → IsNext (next_machine b) b
  next-told e =
      let n = next-is b e in
      record { machine = n.machine; waiting = waits-some (next_machine b) b n.waiting; first = λ j h d. waits-none j b (next-first b e last j h d) }

  pub next_one : (k : ℕ) → IsNext k b → (is_idle b ≡ false) × (k ≡ next_machine b)
  next_one k n = (busy, by (ltb (distance k (last_of b)) (distance m (last_of b))) refl (ltb (distance m (last_of b)) (distance k (last_of b))) refl)
    where
      m : ℕ
      m = next_machine b

      busy : is_idle b ≡ false
      busy = not-idle b k n.machine last (waits_so k b n.waiting)

      t : IsNext (next_machine b) b
      t = next-told busy

      by : (x : Bool) → ltb (distance k (last_of b)) (distance (next_machine b) (last_of b)) ≡ x → (y : Bool) → ltb (distance (next_machine b) (last_of b)) (distance k (last_of b)) ≡ y → k ≡ next_machine b
      by true e y f = let z = t.first k n.machine (ltb-true _ _ e) in let w = n.waiting in absurd (omega arith)
      by false e true f = let z = n.first (next_machine b) t.machine (ltb-true _ _ f) in let w = t.waiting in absurd (omega arith)
      by false e false f =
          let p = ltb-false (distance k (last_of b)) (distance (next_machine b) (last_of b)) e in
          let q = ltb-false (distance (next_machine b) (last_of b)) (distance k (last_of b)) f in
          let same : distance k (last_of b) ≡ distance (next_machine b) (last_of b) = omega arith in
          sym (here k (last_of b) n.machine last) ∙ ap (λ (z : ℕ). (last_of b + 1 + z) % 8) same ∙ here (next_machine b) (last_of b) t.machine last

  -- nobody waits
  pub none-waits : ((k : ℕ) → k < 8 → waiting_of k b ≡ 0) → is_idle b ≡ true
  none-waits h = by (is_idle b) refl
    where
      by : (x : Bool) → is_idle b ≡ x → x ≡ true
      by true e = refl
      by false e = let t = next-told e in let z = h (next_machine b) t.machine in let w = t.waiting in absurd (omega arith)
