-- One turn of each loop: what is left of a piece is the turn's gates and what is left then. Assumes nothing.
use Rattle.std.specs.Prelude.{Option, Some, None, unwrap_or}
use mathlib.Core.Path.{◌≡◌, refl, sym, ap, ◌∙◌}
use mathlib.Core.Bool.{Bool, true, false, cond}
use mathlib.Core.List.{List, [], ◌∷◌, ◌++◌, append-nil}
use Prim.Native.Nat.{ℕ, zero, suc, ◌+◌, ◌-◌, ◌*◌, ◌≤◌, ◌<◌}
use native.Mathlib.Nat.{add-zero, sub-zero, mul-zero}
use native.Mathlib.Numerals.{add-one}
use native.Mathlib.Omega.{arith}
use borrow.Author.Tests.{eq-eqb, ne_eqb}
use lib.ListN.{length, get_or, take, drop, set, replicate, length-take, length-replicate, drop_of_length-le}
use lib.Seq.{drop-cons, take_all, take-suc-set, sets, append_snoc}
use lib.Dec.{eqb}
use Rattle.netlist.specs.Literals.{literal_of}
use Rattle.netlist.specs.declared.literals.Literal.{Literal}
use Rattle.circuit.specs.Gates.{lit, gate}
use Rattle.circuit.specs.Build.{Bits, init, or_from, or_all}
use Rattle.circuit.specs.Numbers.{constant_latches}
use Rattle.builder.specs.declared.gates.Gates.{Gates}
use Rattle.builder.specs.Private.Adding.{Room, Going, Splits}
use Rattle.builder.proofs.AddingLaws.{begin, room-first}
use Rattle.builder.specs.Private.Monitor.{edge_pairs}
use Rattle.builder.specs.Private.Terms.{mask_gates, every_other, terms_of, or_on, or_term, or_begun, vertex_of, vertex_happy, vertex_condemned, vertices_of, accept_of, alive_of, alives_of, checked_of, ends_of}

-- a counted piece
pub mask_step : (l i count : ℕ) → i < count → Splits (mask_gates (l + i) (count - i)) (gate (lit (l + i)) (literal_of init true) ∷ []) (mask_gates (l + (i + 1)) (count - (i + 1)))
mask_step l i count h =
    let e : count - i ≡ suc (count - (i + 1)) = omega arith in
    let e2 : suc (l + i) ≡ l + (i + 1) = omega arith in
    record { is = rw (e, ← e2) }

pub mask_begin : (s : Gates) (l count : ℕ) → s.first.0 ≤ s.next.0 → Going s s (mask_gates l count) (mask_gates (l + 0) (count - 0))
mask_begin s l count h = rw (add-zero, sub-zero) (begin s (mask_gates l count) h)

pub mask_end : (l i count : ℕ) → count ≤ i → mask_gates l (count - i) ≡ []
mask_end l i count h =
    let e : count - i ≡ 0 = omega arith in
    rw e

pub every_step : (n i count : ℕ) → i < count → every_other (n + 2 * i) (count - i) ≡ lit (n + 2 * i) ∷ every_other (n + 2 * (i + 1)) (count - (i + 1))
every_step n i count h =
    let e : count - i ≡ suc (count - (i + 1)) = omega arith in
    let e2 : suc (suc (n + 2 * i)) ≡ n + 2 * (i + 1) = omega arith in
    rw (e, ← e2)

pub every_begin : (n count : ℕ) → take 0 (n ∷ []) ++ every_other (n + 2 * 0) (count - 0) ≡ every_other n count
every_begin n count = rw (mul-zero, add-zero, sub-zero)

pub every_end : (n i count : ℕ) → count ≤ i → every_other n (count - i) ≡ []
every_end n i count h =
    let e : count - i ≡ 0 = omega arith in
    rw e

every_length : (n k : ℕ) → length (every_other n k) ≡ k
every_length n zero = refl
every_length n (suc k) = ap suc (every_length (suc (suc n)) k)

-- an array that was filled with them, by its length
pub filled : {l : List ℕ} (n k m : ℕ) → l ≡ every_other n m → length l ≡ k → l ≡ every_other n k
filled {l} n k m e h = let z : m ≡ k = sym (every_length n m) ∙ sym (ap length e) ∙ h in rw z at e

-- so many first elements of an array
pub front : (size k x : ℕ) → k ≤ size → length (take k (replicate size x)) ≡ k
front size k x h = rw (length-take, length-replicate) (omega arith)

module _ (tos hs ds : List ℕ) where
  pub vertex-parts : (n v next : ℕ) → next ≡ n + length (or_begun (eqb v 0) n (terms_of v tos hs)).gates →
      Splits (vertex_of n tos hs ds v).gates (or_begun (eqb v 0) n (terms_of v tos hs)).gates (or_all next (terms_of v tos ds)).gates
      × ((vertex_of n tos hs ds v).happy ≡ (or_begun (eqb v 0) n (terms_of v tos hs)).out) × ((vertex_of n tos hs ds v).condemned ≡ (or_all next (terms_of v tos ds)).out)
  unfolding vertex_of vertex_happy vertex_condemned
  vertex-parts n v next e = (record { is = rw e }, refl, rw e)

  pub vertex_step : (n v count next : ℕ) → v < count → next ≡ n + length (vertex_of n tos hs ds v).gates →
      Splits (vertices_of n tos hs ds v (count - v)).gates (vertex_of n tos hs ds v).gates (vertices_of next tos hs ds (v + 1) (count - (v + 1))).gates
      × ((vertices_of n tos hs ds v (count - v)).happy ≡ (vertex_of n tos hs ds v).happy ∷ (vertices_of next tos hs ds (v + 1) (count - (v + 1))).happy)
      × ((vertices_of n tos hs ds v (count - v)).condemned ≡ (vertex_of n tos hs ds v).condemned ∷ (vertices_of next tos hs ds (v + 1) (count - (v + 1))).condemned)
  vertex_step n v count next h q =
      let e : count - v ≡ suc (count - (v + 1)) = omega arith in
      let e2 : suc v ≡ v + 1 = omega arith in
      (record { is = rw (e, q, ← e2) }, rw (e, q, ← e2), rw (e, q, ← e2))

  pub vertex_end : (n v count : ℕ) → count ≤ v → ((vertices_of n tos hs ds v (count - v)).gates ≡ []) × ((vertices_of n tos hs ds v (count - v)).happy ≡ []) × ((vertices_of n tos hs ds v (count - v)).condemned ≡ [])
  vertex_end n v count h =
      let e : count - v ≡ 0 = omega arith in
      rw e (refl, refl, refl)

  pub vertex_begin : (s : Gates) (count : ℕ) → s.first.0 ≤ s.next.0 → let n = s.next.0 in Going s s (vertices_of n tos hs ds 0 count).gates (vertices_of n tos hs ds 0 (count - 0)).gates
      × ((vertices_of n tos hs ds 0 (count - 0)).happy ≡ (vertices_of n tos hs ds 0 count).happy) × ((vertices_of n tos hs ds 0 (count - 0)).condemned ≡ (vertices_of n tos hs ds 0 count).condemned)
  vertex_begin s count h = rw sub-zero (begin s (vertices_of s.next.0 tos hs ds 0 count).gates h, refl, refl)

-- ---- an array that is filled from the front

pub fill_step : (l : List ℕ) (i x y : ℕ) (rest whole all : List ℕ) → i < length l → take i l ++ all ≡ whole → all ≡ x ∷ rest → y ≡ x → take (i + 1) (set l i y) ++ rest ≡ whole
fill_step l i x y rest whole all h e q d =
    rw (d, add-one, take-suc-set l i x h) (append_snoc (take i l) x rest ∙ sym (ap (λ (z : List ℕ). take i l ++ z) q) ∙ e)

pub fill_end : (l : List ℕ) (i : ℕ) (rest whole : List ℕ) → take i l ++ rest ≡ whole → rest ≡ [] → length l ≤ i → l ≡ whole
fill_end l i rest whole e q h = sym (take_all i l h) ∙ sym (append-nil (take i l)) ∙ sym (ap (λ (z : List ℕ). take i l ++ z) q) ∙ e

-- ---- the i-th element of a list, and those behind it
pub row : (l : List ℕ) (i : ℕ) → i < length l → drop i l ≡ get_or l i 0 ∷ drop (i + 1) l
row l i h = rw (add-one, drop-cons l i 0 h)

-- ---- latches: two numbers a turn, and four

pub own_step : (out all : List ℕ) (p l i count x : ℕ) → i < count → x ≡ lit (l + i) → sets out p (constant_latches (l + i) (count - i)) ≡ all →
    sets (set (set out p x) (p + 1) x) (p + 2) (constant_latches (l + (i + 1)) (count - (i + 1))) ≡ all
own_step out all p l i count x h q e =
    let c : count - i ≡ suc (count - (i + 1)) = omega arith in
    let n : suc (l + i) ≡ l + (i + 1) = omega arith in
    let p1 : p + 1 ≡ suc p = omega arith in
    let p2 : p + 2 ≡ suc (suc p) = omega arith in
    rw (p1, p2, q, ← n) (rw c at e)

pub own_end : (out all : List ℕ) (p l i count : ℕ) → count ≤ i → sets out p (constant_latches l (count - i)) ≡ all → out ≡ all
own_end out all p l i count h e =
    let c : count - i ≡ 0 = omega arith in
    rw c at e

pub latch_step : (out all hs ds : List ℕ) (p i : ℕ) → i < length hs → length ds ≡ length hs →
    sets out p (edge_pairs (drop i hs) (drop i ds)) ≡ all →
    sets (set (set (set (set out p (get_or hs i 0)) (p + 1) 0) (p + 2) (get_or ds i 0)) (p + 3) 0) (p + 4) (edge_pairs (drop (i + 1) hs) (drop (i + 1) ds)) ≡ all
latch_step out all hs ds p i h same e =
    let p1 : p + 1 ≡ suc p = omega arith in
    let p2 : p + 2 ≡ suc (suc p) = omega arith in
    let p3 : p + 3 ≡ suc (suc (suc p)) = omega arith in
    let p4 : p + 4 ≡ suc (suc (suc (suc p))) = omega arith in
    rw (p1, p2, p3, p4) (rw (row hs i h, row ds i (omega arith)) at e)

pub latch_end : (out all hs ds : List ℕ) (p i : ℕ) → length hs ≤ i → sets out p (edge_pairs (drop i hs) (drop i ds)) ≡ all → out ≡ all
latch_end out all hs ds p i h e = rw (drop_of_length-le hs h) at e

-- ---- an OR chain

-- one term of it, and then the others
pub turn : (chain : Option Literal) (n t next so : ℕ) (ts : List ℕ) → next ≡ n + length (or_term chain n t).gates → so ≡ (or_term chain n t).out →
    Splits (or_on chain n (t ∷ ts)).gates (or_term chain n t).gates (or_from next so ts).gates × ((or_on chain n (t ∷ ts)).out ≡ (or_from next so ts).out)
turn None n t next so ts k e = let z : next ≡ n = omega arith in rw (e, z) (record { is = refl }, refl)
turn (Some l) n t next so ts k e = let z : next ≡ suc n = omega arith in rw (e, z) (record { is = refl }, refl)

-- at the i-th key and literal of the arrays
module _ (v : ℕ) (keys lits : List ℕ) (same : length lits ≡ length keys) where
  abbrev pub left : ℕ → List ℕ
  left i = terms_of v (drop i keys) (drop i lits)

  left_step : (i : ℕ) → i < length keys → left i ≡ cond (eqb (get_or keys i 0) v) (get_or lits i 0 ∷ left (i + 1)) (left (i + 1))
  left_step i h = rw (row keys i h, row lits i (omega arith))

  pub left_term : (i : ℕ) → i < length keys → get_or keys i 0 ≡ v → left i ≡ get_or lits i 0 ∷ left (i + 1)
  left_term i h e = rw (left_step i h, eq-eqb (get_or keys i 0) v e)

  pub left-none : (i : ℕ) → i < length keys → (get_or keys i 0 ≡ v → ⊥) → left i ≡ left (i + 1)
  left-none i h e = rw (left_step i h, ne_eqb (get_or keys i 0) v e)

  pub left_end : (i : ℕ) → length keys ≤ i → left i ≡ []
  left_end i h = rw (drop_of_length-le keys h)

pub or_end : (chain : Option Literal) (n : ℕ) → (or_on chain n []).gates ≡ []
or_end None n = refl
or_end (Some l) n = refl

-- of no term it is 0
pub or_out : (chain : Option Literal) (d : Literal) (n : ℕ) → d.0 ≡ literal_of 0 false → (unwrap_or chain d).0 ≡ (or_on chain n []).out
or_out None d n e = e
or_out (Some l) d n e = refl

-- ---- alive, where the key tells
-- at the i-th key and literals of the arrays
module _ (keys hs ds : List ℕ) (hh : length hs ≡ length keys) (hd : length ds ≡ length keys) where
  abbrev pub alive_from : ℕ → ℕ → Bits
  alive_from n i = alives_of n (drop i keys) (drop i hs) (drop i ds)

  pub alive_turn : (i : ℕ) → i < length keys → (n next : ℕ) → let p = alive_of (eqb (get_or keys i 0) 1) n (get_or hs i 0) (get_or ds i 0) in
      next ≡ n + length p.gates → Splits (alive_from n i).gates p.gates (alive_from next (i + 1)).gates × ((alive_from n i).outs ≡ p.out ∷ (alive_from next (i + 1)).outs)
  alive_turn i h n next e = rw (row keys i h, row hs i (omega arith), row ds i (omega arith), e) (record { is = refl }, refl)

  pub alive_end : (i n : ℕ) → length keys ≤ i → ((alive_from n i).gates ≡ []) × ((alive_from n i).outs ≡ [])
  alive_end i n h = rw (drop_of_length-le keys h) (refl, refl)

-- ---- the outputs
module _ (n : ℕ) (marks hs ds : List ℕ) where
  -- first all alive, and then the chain; `next` is the variable behind the former
  pub checked-parts : (next : ℕ) → let a = alives_of n marks hs ds in next ≡ n + length a.gates →
      let j = or_all next (terms_of 1 marks a.outs) in Splits (checked_of n marks hs ds).gates a.gates j.gates × ((checked_of n marks hs ds).out ≡ j.out)
  unfolding checked_of
  checked-parts next e = rw e (record { is = refl }, refl)

  pub ends-without : (checked : Bool) → checked ≡ false → ends_of checked n marks hs ds ≡ record { gates = (accept_of n marks ds).gates; accept = (accept_of n marks ds).out; second = None }
  unfolding ends_of
  ends-without checked e = rw (e, ends_of)

  -- first accept, and then checked
  pub ends_with : (checked : Bool) (next : ℕ) → checked ≡ true → let a = accept_of n marks ds in next ≡ n + length a.gates →
      let c = checked_of next marks hs ds in
      let e = ends_of checked n marks hs ds in Splits e.gates a.gates c.gates × (e.accept ≡ a.out) × (e.second ≡ Some c.out)
  unfolding ends_of
  ends_with checked next e k = rw (e, k, ends_of) (record { is = refl }, refl, refl)

  pub room-accept : (checked : Bool) {t : Gates} → Room t (length (ends_of checked n marks hs ds).gates) → Room t (length (accept_of n marks ds).gates)
  unfolding ends_of
  room-accept true r = room-first (ends_with true _ refl refl).0 r
  room-accept false r = r
