-- The earliest rejected cycle, and the part that is handed back. Assumes nothing.
use Rattle.std.specs.Prelude.{Result, Ok, Err, Option, Some, None}
use mathlib.Core.Path.{◌≡◌, refl, sym, ap}
use mathlib.Core.Bool.{Bool, true, false, cond}
use mathlib.Core.List.{List}
use Prim.Native.Nat.{ℕ, zero, suc, ◌+◌, ◌-◌, ◌*◌, ◌<◌, ◌≤◌, max}
use native.Mathlib.Nat.{le-max_left, le-max_right, max-le, mul-le-mul}
use native.Mathlib.Numerals.{add-one}
use native.Mathlib.Omega.{arith}
use lib.Dec.{eqb, leb}
use lib.ListN.{length, get_or, take, drop, length-drop, get_or-eq_default}
use lib.Seq.{length-take-le}
use borrow.Author.Tests.{eqb-true, eqb-false, leb-true, leb-false}
use Rattle.trace.specs.Traces.{cycles_of}
use Rattle.first_broken.specs.declared.refusal.Cause.{Cause}
use Rattle.first_broken.specs.declared.places.Side.{Side}
use Rattle.first_broken.specs.declared.places.Side.TheVariants.{Flywheel, Handle}
use Rattle.first_broken.specs.declared.places.Found.{Found}
use Rattle.first_broken.specs.Refusals.{Measurement, check_of}
use Rattle.first_broken.specs.Places.{is_rejected, broken_from, broken_of, beginning, cycle_line, line_of, found_as, found_of, Part, part, cut, of_side, broken_part}
use Rattle.first_broken.specs.Claims.{LineAt, Accepts, BrokenFirst, FoundIn, StandsIn}
use Rattle.first_broken.specs.Claims.BrokenFirst.{flywheel_broke, handle_broke, neither_broke, refused}
use Rattle.first_broken.proofs.RefusalLaws.{is-trace, Whole, Ready, ready}
use Rattle.first_broken.proofs.LineLaws.{line_at, line-within}

-- ---- the search
module _ (f h : List ℕ) where
  -- neither is rejected at cycle k
  abbrev Neither : ℕ → Type 0
  Neither k = (is_rejected f k ≡ false) × (is_rejected h k ≡ false)

  -- what is found from cycle n on
  pub data Search (left n : ℕ) (b : Option (Side × ℕ)) : Type 0 where
    nowhere : b ≡ None → ((k : ℕ) → n ≤ k → k < n + left → Neither k) → Search left n b
    flywheel_first : (m : ℕ) → b ≡ Some (Flywheel, m) → m < n + left → is_rejected f m ≡ true → ((k : ℕ) → n ≤ k → k < m → Neither k) → Search left n b
    handle_first : (m : ℕ) → b ≡ Some (Handle, m) → m < n + left → is_rejected f m ≡ false → is_rejected h m ≡ true
        → ((k : ℕ) → n ≤ k → k < m → Neither k) → Search left n b

  -- cycle n joins those after it
  joined : (n k : ℕ) (P : ℕ → Type 0) → P n → (suc n ≤ k → P k) → n ≤ k → P k
  joined n k P here later l = go (eqb n k) refl
    where
      go : (t : Bool) → eqb n k ≡ t → P k
      go true e = rw (← eqb-true n k e) here
      go false e = let d = eqb-false n k e in later (omega arith)

  search_from : (left n : ℕ) → Search left n (broken_from left n f h)
  unfolding broken_from
  search_from zero n = nowhere refl (λ k a b. absurd (omega arith))
  search_from (suc left) n = go (is_rejected f n) refl (is_rejected h n) refl (search_from left (suc n))
    where
      go : (t : Bool) → is_rejected f n ≡ t → (u : Bool) → is_rejected h n ≡ u → Search left (suc n) (broken_from left (suc n) f h)
          → Search (suc left) n (cond (is_rejected f n) (Some (Flywheel, n)) (cond (is_rejected h n) (Some (Handle, n)) (broken_from left (suc n) f h)))
      go true e u d s = flywheel_first n (rw e) (omega arith) e (λ k a b. absurd (omega arith))
      go false e true d s = handle_first n (rw (e, d)) (omega arith) e d (λ k a b. absurd (omega arith))
      go false e false d (nowhere is none) = nowhere (rw (e, d) is) (λ k a b. joined n k Neither (e, d) (λ l. none k l (omega arith)) a)
      go false e false d (flywheel_first m is l r none) =
          flywheel_first m (rw (e, d) is) (omega arith) r (λ k a b. joined n k Neither (e, d) (λ l'. none k l' b) a)
      go false e false d (handle_first m is l r r' none) =
          handle_first m (rw (e, d) is) (omega arith) r r' (λ k a b. joined n k Neither (e, d) (λ l'. none k l' b) a)

  pub search : Search (max (length f) (length h)) 0 (broken_of f h)
  unfolding broken_of
  search = search_from (max (length f) (length h)) 0

-- the cycle that is found
unfoldable pub cycle_of : Option (Side × ℕ) → ℕ
cycle_of None = 0
cycle_of (Some (side, n)) = n

cycle-within : (f h : List ℕ) (most : ℕ) → length f ≤ most → length h ≤ most → cycle_of (broken_of f h) ≤ most
unfolding cycle_of
cycle-within f h most a d = go (broken_of f h) (search f h)
  where
    go : (b : Option (Side × ℕ)) → Search f h (max (length f) (length h)) 0 b → cycle_of b ≤ most
    go b (nowhere is none) = rw is (omega arith)
    go b (flywheel_first m is l t none) = rw is (omega (arith, max-le a d))
    go b (handle_first m is l t u none) = rw is (omega (arith, max-le a d))

-- one of two lists that are not longer than a trace
pub cycle-few : (f h : List ℕ) (n : ℕ) → length f ≤ 1048576 → length h ≤ 1048576 → cycle_of (broken_of f h) ≡ n → n ≤ 1048576
cycle-few f h n a b e = rw (← e) (cycle-within f h 1048576 a b)

-- the place of its line is 1,048,576 × 65 at most
pub place-fits : (n width : ℕ) → n ≤ 1048576 → width ≤ 64 → n * (width + 1) ≤ 68157440
place-fits n width a b = let l : width + 1 ≤ 65 = omega arith in mul-le-mul a l

-- ---- the search, a cycle at a time: n of so many are behind it
module _ (f h : List ℕ) (cycles n : ℕ) where
  pub turn_end_lem : cycles ≤ n → broken_from (cycles - n) n f h ≡ None
  unfolding broken_from
  turn_end_lem l = let e : cycles - n ≡ 0 = omega arith in rw e

  module _ (l : n < cycles) where
    more : cycles - n ≡ suc (cycles - (n + 1))
    more = omega arith

    pub turn_flywheel : is_rejected f n ≡ true → broken_from (cycles - n) n f h ≡ Some (Flywheel, n)
    unfolding broken_from
    turn_flywheel e = rw (more, e)

    module _ (a : is_rejected f n ≡ false) where
      pub turn_handle : is_rejected h n ≡ true → broken_from (cycles - n) n f h ≡ Some (Handle, n)
      unfolding broken_from
      turn_handle e = rw (more, a, e)

      pub turn_next : is_rejected h n ≡ false → broken_from (cycles - n) n f h ≡ broken_from (cycles - (n + 1)) (n + 1) f h
      unfolding broken_from
      turn_next e = rw (more, a, e, add-one n)

-- ---- bytes
module _ (v : List ℕ) (k : ℕ) where
  rejected-byte : is_rejected v k ≡ true → get_or v k 0 ≡ 1
  unfolding is_rejected
  rejected-byte e = eqb-true (get_or v k 0) 1 e

  accepted-byte : get_or v k 0 ≤ 1 → is_rejected v k ≡ false → get_or v k 0 ≡ 0
  unfolding is_rejected
  accepted-byte l e = let d = eqb-false (get_or v k 0) 1 e in omega arith

  -- a rejected cycle is one of the cycles
  rejected-within : is_rejected v k ≡ true → k < length v
  rejected-within e = go (leb (length v) k) refl
    where
      go : (t : Bool) → leb (length v) k ≡ t → k < length v
      go true past = absurd (omega (arith, rejected-byte e, get_or-eq_default v 0 (leb-true (length v) k past)))
      go false within = leb-false (length v) k within

  -- and none past the end is rejected
  past : length v ≤ k → is_rejected v k ≡ false
  past l = go (is_rejected v k) refl
    where
      go : (t : Bool) → is_rejected v k ≡ t → t ≡ false
      go true e = absurd (omega (arith, rejected-within e))
      go false e = refl

-- none among as many cycles as the longer list has, so none at all
neither : (f h : List ℕ) → ((k : ℕ) → 0 ≤ k → k < 0 + max (length f) (length h) → Neither f h k) → (k : ℕ) → Neither f h k
neither f h none k = go (leb (max (length f) (length h)) k) refl
  where
    go : (t : Bool) → leb (max (length f) (length h)) k ≡ t → Neither f h k
    go true e = let l = leb-true (max (length f) (length h)) k e in (past f k (omega (arith, le-max_left (length f) (length h))), past h k (omega (arith, le-max_right (length f) (length h))))
    go false e = none k (omega arith) (omega (arith, leb-false (max (length f) (length h)) k e))

-- ---- the line of a rejected cycle
module _ (width : ℕ) (m : Measurement) (w : Whole width m) (n : ℕ) (e : is_rejected m.verdicts n ≡ true) where
  among : n < length (cycles_of width m.trace)
  among = rw (← w.verdicts.count) (rejected-within m.verdicts n e)

  rejected_line_lem : LineAt width n m.trace (n * (width + 1)) (take width (drop (n * (width + 1)) m.trace))
  rejected_line_lem = line_at width m.trace (cycles_of width m.trace) (is-trace width m.trace w.faultless) n among

  rejected-ends : n * (width + 1) + width ≤ length m.trace
  rejected-ends = line-within width m.trace (cycles_of width m.trace) (is-trace width m.trace w.faultless) n among

-- ---- the part, whatever an answer says of it
module _ (width : ℕ) (f h : Measurement) where
  accepts : Ready width f h → (k : ℕ) → Neither f.verdicts h.verdicts k → Accepts f h k
  accepts r k e = (accepted-byte f.verdicts k (r.flywheel.verdicts.bits k) e.0, accepted-byte h.verdicts k (r.handle.verdicts.bits k) e.1)

  module _ (OfFlywheel OfHandle : ℕ → List ℕ → Type 0) where
    -- an answer that is the part of which found tells
    abbrev pub PlacedOn : Side → Found → Type 0
    PlacedOn Flywheel found = OfFlywheel found.at (take found.length (drop found.at f.trace))
    PlacedOn Handle found = OfHandle found.at (take found.length (drop found.at h.trace))

    abbrev pub Placed : Found → Type 0
    Placed found = PlacedOn found.side found

    broken : check_of width f h ≡ Ok tt → (b : Option (Side × ℕ)) → Search f.verdicts h.verdicts (max (length f.verdicts) (length h.verdicts)) 0 b
        → Placed (line_of width b) → BrokenFirst width f h OfFlywheel OfHandle
    unfolding line_of cycle_line beginning of_side
    broken e b (nowhere is none) p = neither_broke (rw is at p) e (λ k. accepts (ready width f h e) k (neither f.verdicts h.verdicts none k))
    broken e b (flywheel_first m is l t none) p =
        let r = ready width f h e in
        flywheel_broke m (m * (width + 1)) _ (rw is at p) (rejected_line_lem width f r.flywheel m t) e (rejected-byte f.verdicts m t) (λ k a. accepts r k (none k (omega arith) a))
    broken e b (handle_first m is l t u none) p =
        let r = ready width f h e in
        handle_broke m (m * (width + 1)) _ (rw is at p) (rejected_line_lem width h r.handle m u) e (rejected-byte h.verdicts m u)
        (accepted-byte f.verdicts m (r.flywheel.verdicts.bits m) t) (λ k a. accepts r k (none k (omega arith) a))

    pub breaks : Placed (found_of width f h) → BrokenFirst width f h OfFlywheel OfHandle
    unfolding found_of found_as line_of cycle_line beginning of_side
    breaks = go (check_of width f h) refl
      where
        go : (c : Result Unit Cause) → check_of width f h ≡ c → Placed (found_as c width (broken_of f.verdicts h.verdicts)) → BrokenFirst width f h OfFlywheel OfHandle
        go (Ok tt) e p = broken e (broken_of f.verdicts h.verdicts) (search f.verdicts h.verdicts) p
        go (Err cause) e p = refused cause p e

    -- where an answer tells it
    pub stays : (found : Found) → found ≡ found_of width f h → Placed found → BrokenFirst width f h OfFlywheel OfHandle
    stays found e p = breaks (rw e at p)

-- ---- it lies in its trace
module _ (width : ℕ) (f h : Measurement) where
  -- the trace of which found tells
  abbrev pub trace_of : Found → List ℕ
  trace_of found = of_side found.side f.trace h.trace

  line_of-within : check_of width f h ≡ Ok tt → (b : Option (Side × ℕ)) → Search f.verdicts h.verdicts (max (length f.verdicts) (length h.verdicts)) 0 b
      → (line_of width b).at + (line_of width b).length ≤ length (trace_of (line_of width b))
  unfolding line_of cycle_line beginning of_side
  line_of-within e b (nowhere is none) = rw is (omega arith)
  line_of-within e b (flywheel_first m is l t none) = rw is (rejected-ends width f (ready width f h e).flywheel m t)
  line_of-within e b (handle_first m is l t u none) = rw is (rejected-ends width h (ready width f h e).handle m u)

  pub found_within : (found : Found) → found ≡ found_of width f h → found.at + found.length ≤ length (trace_of found)
  unfolding found_of found_as line_of cycle_line beginning of_side
  found_within found e = rw e (go (check_of width f h) refl)
    where
      go : (c : Result Unit Cause) → check_of width f h ≡ c
          → (found_as c width (broken_of f.verdicts h.verdicts)).at + (found_as c width (broken_of f.verdicts h.verdicts)).length
          ≤ length (trace_of (found_as c width (broken_of f.verdicts h.verdicts)))
      go (Ok tt) e = line_of-within e (broken_of f.verdicts h.verdicts) (search f.verdicts h.verdicts)
      go (Err cause) e = omega arith

  -- no place is past 1,048,576
  short : check_of width f h ≡ Ok tt → (found : Found) → found.at + found.length ≤ length (trace_of found) → found.at + found.length ≤ 1048576
  unfolding of_side
  short e found l = go found.side refl
    where
      go : (b : Side) → found.side ≡ b → found.at + found.length ≤ 1048576
      go Handle b = let w = rw b at l in omega (arith, (ready width f h e).handle.short)
      go Flywheel b = let w = rw b at l in omega (arith, (ready width f h e).flywheel.short)

  pub found-small : (found : Found) → found ≡ found_of width f h → found.at + found.length ≤ 1048576
  unfolding found_of found_as line_of cycle_line beginning of_side
  found-small found e = go (check_of width f h) refl e
    where
      go : (c : Result Unit Cause) → check_of width f h ≡ c → found ≡ found_as c width (broken_of f.verdicts h.verdicts) → found.at + found.length ≤ 1048576
      go (Ok tt) d q = short d found (found_within found e)
      go (Err cause) d q = rw q (omega arith)

-- the length of what is cut
cut-length : (trace : List ℕ) (at count : ℕ) → at + count ≤ length trace → count ≡ length (take count (drop at trace))
cut-length trace at count l = let d = length-drop at trace in sym (length-take-le count (drop at trace) (omega arith))

-- ---- find's answer
module _ (width : ℕ) (f h : Measurement) where
  pub found-fine : check_of width f h ≡ Ok tt → line_of width (broken_of f.verdicts h.verdicts) ≡ found_of width f h
  unfolding found_of found_as
  found-fine e = rw e

  pub found-refused : (cause : Cause) → check_of width f h ≡ Err cause → beginning ≡ found_of width f h
  unfolding found_of found_as
  found-refused cause e = rw e

module _ (width : ℕ) (f h : Measurement) (found : Found) (e : found ≡ found_of width f h) where
  pub found_first : BrokenFirst width f h (FoundIn found Flywheel) (FoundIn found Handle)
  unfolding of_side
  found_first = stays width f h (FoundIn found Flywheel) (FoundIn found Handle) found e (go found.side refl)
    where
      go : (b : Side) → found.side ≡ b
          → PlacedOn width f h (FoundIn found Flywheel) (FoundIn found Handle) b found
      go Handle b = let l = cut-length h.trace found.at found.length (rw b at (found_within width f h found e)) in λ i. record { side = b i; at = found.at; length = l i }
      go Flywheel b = let l = cut-length f.trace found.at found.length (rw b at (found_within width f h found e)) in λ i. record { side = b i; at = found.at; length = l i }

-- ---- first_broken's answer
-- bytes that begin at a place are cut there
pub cut-here : (place : ℕ × ℕ) (bytes : List ℕ) (at count : ℕ) → part (place.0, at + place.1) (take (at + count - at) (drop at bytes)) ≡ cut (part place bytes) at count
unfolding cut
cut-here place bytes at count =
    let a : at + place.1 ≡ place.1 + at = omega arith in
    let b : at + count - at ≡ count = omega arith in
    rw (a, b)

module _ (width : ℕ) (f h : Measurement) (found : Found) (e : found ≡ found_of width f h) (fp hp p : ℕ × ℕ) (bytes : List ℕ) where
  abbrev pub Handed : Type 0
  Handed =
      (part p bytes ≡ broken_part (found_of width f h) (part fp f.trace) (part hp h.trace))
      × BrokenFirst width f h (StandsIn p bytes fp) (StandsIn p bytes hp)

  -- what is cut of a slice stands in it
  stands : (q : ℕ × ℕ) (trace : List ℕ) → part p bytes ≡ cut (part q trace) found.at found.length
      → StandsIn p bytes q found.at (take found.length (drop found.at trace))
  unfolding cut
  stands q trace is = record { block = ap (λ (a : Part). a.block) is; offset = ap (λ (a : Part). a.offset) is; same = ap (λ (a : Part). a.bytes) is }

  first : Placed width f h (StandsIn p bytes fp) (StandsIn p bytes hp) found → BrokenFirst width f h (StandsIn p bytes fp) (StandsIn p bytes hp)
  first = stays width f h (StandsIn p bytes fp) (StandsIn p bytes hp) found e

  pub of_handle : found.side ≡ Handle → part p bytes ≡ cut (part hp h.trace) found.at found.length → Handed
  unfolding broken_part of_side
  of_handle b is = (rw (← e, b) is, first (rw b (stands hp h.trace is)))

  pub of_flywheel : found.side ≡ Flywheel → part p bytes ≡ cut (part fp f.trace) found.at found.length → Handed
  unfolding broken_part of_side
  of_flywheel b is = (rw (← e, b) is, first (rw b (stands fp f.trace is)))
