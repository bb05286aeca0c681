-- Laws of the tally: what room it has, what a cycle adds, and which words count. Assumes nothing.
use mathlib.Core.Path.{◌≡◌, refl, sym, ap, ◌∙◌}
use mathlib.Core.Bool.{Bool, true, false, not, cond, ◌&&◌}
use Prim.Native.Nat.{ℕ, zero, suc, ◌+◌, ◌-◌, ◌*◌, ◌/◌, ◌%◌, ◌^◌, ◌<◌, ◌≤◌}
use native.Mathlib.Nat.{mod-lt, pow-suc, zero-lt-suc, div-add-mod'}
use native.Mathlib.Omega.{arith}
use lib.Dec.{leb, eqb}
use borrow.Author.Tests.{le-leb, leb-true, ne_eqb}
use Rattle.netlist.specs.Lanes.{lane, each}
use Rattle.netlist.proofs.EachLaws.{both, each_all, each-not}
use Rattle.netlist.proofs.LaneLaws.{each_lane}
use Rattle.calls.specs.declared.tally.Tally.{Tally}
use Rattle.calls.specs.Tallies.{is_rejected, is_checked, counted, has_room, CycleMore, Fits}

-- ---- which words count
-- a word is rejected unless it is all ones
pub rejected-word : (w : ℕ) → w < 2 ^ 64 → is_rejected w ≡ not (eqb w (2 ^ 64 - 1))
unfolding is_rejected
rejected-word w h = ap not (each_lane 64 w h)

-- a number is 0 where each of its bits is
digit-zero : (a c : ℕ) → c < 2 → (not (eqb c 1) && eqb a 0) ≡ eqb (a * 2 + c) 0
digit-zero zero zero h = refl
digit-zero (suc a) zero h = ne_eqb (suc a) 0 (λ e. omega arith) ∙ sym (ne_eqb (suc a * 2 + 0) 0 (λ e. omega arith))
digit-zero a (suc zero) h = sym (ne_eqb (a * 2 + 1) 0 (λ e. omega arith))
digit-zero a (suc (suc c)) h = absurd (omega arith)

each-low : (k w : ℕ) → w < 2 ^ k → each k (λ n. not (lane n w)) ≡ eqb w 0
unfolding each lane
each-low zero w h = let e : w ≡ 0 = omega arith in rw e
each-low (suc k) w h =
    let p = pow-suc 2 k in
    ap (λ (t : Bool). not (eqb (w % 2) 1) && t) (each-low k (w / 2) (omega arith))
    ∙ digit-zero (w / 2) (w % 2) (mod-lt w (zero-lt-suc 1))
    ∙ ap (λ (n : ℕ). eqb n 0) (div-add-mod' w 2)

-- a second output word is checked unless it is 0
pub checked_word_lem : (c : ℕ) → c < 2 ^ 64 → is_checked c ≡ not (eqb c 0)
unfolding is_checked
checked_word_lem c h = ap not (each-low 64 c h)

-- ---- room
module _ (t : Tally) (n : ℕ) where
  pub room_fits : has_room t n ≡ true → Fits t n
  unfolding has_room
  room_fits e =
      let a = both (leb (t.cycles + n) 4294967295) (leb (t.rejected + n) 4294967295 && leb (t.checked + n) 4294967295) e in
      let b = both (leb (t.rejected + n) 4294967295) (leb (t.checked + n) 4294967295) a.1 in
      (leb-true _ _ a.0, leb-true _ _ b.0, leb-true _ _ b.1)

  pub fits-room : Fits t n → has_room t n ≡ true
  unfolding has_room
  fits-room f = rw (le-leb _ _ f.0, le-leb _ _ f.1, le-leb _ _ f.2)

-- ---- a cycle more
pub cycle-more : (t : Tally) (w c : ℕ) → CycleMore t w c (counted t w c)
unfolding counted is_rejected is_checked
cycle-more t w c =
    record {
      cycles = refl;
      rejected = λ s. ap (λ (b : Bool). t.rejected + cond (not b) 1 0) (each-not (λ n. lane n w) 64 s.number s.below s.is);
      accepted = λ h. ap (λ (b : Bool). t.rejected + cond (not b) 1 0) (each_all (λ n. lane n w) 64 h) ∙ omega arith;
      checked = λ s. ap (λ (b : Bool). t.checked + cond (not b) 1 0) (each-not (λ n. not (lane n c)) 64 s.number s.below (ap not s.is));
      unchecked = λ h. ap (λ (b : Bool). t.checked + cond (not b) 1 0) (each_all (λ n. not (lane n c)) 64 (λ n l. ap not (h n l))) ∙ omega arith;
    }

-- a tally with room for n cycles more than one has room for one, and then for n
pub room-one : (t : Tally) (n : ℕ) → has_room t (suc n) ≡ true → has_room t 1 ≡ true
room-one t n e =
    let f = room_fits t (suc n) e in
    fits-room t 1 (omega (arith, f.0), omega (arith, f.1), omega (arith, f.2))

at_most : (b : Bool) → cond b 1 0 ≤ 1
at_most true = omega arith
at_most false = omega arith

pub room_next : (t : Tally) (w c n : ℕ) → has_room t (suc n) ≡ true → has_room (counted t w c) n ≡ true
unfolding counted
room_next t w c n e =
    let f = room_fits t (suc n) e in
    fits-room (counted t w c) n (omega (arith, f.0), omega (arith, f.1, at_most (is_rejected w)), omega (arith, f.2, at_most (is_checked c)))
