-- How many values a cycle has and where each stands, and that each commutes with a map of the values:
-- what the words mean in a lane is the Bool meaning of that lane. Assumes nothing.
use mathlib.Core.Path.{◌≡◌, refl, sym, ap, ap₂, ◌∙◌}
use mathlib.Core.Bool.{Bool, true, false, cond}
use mathlib.Core.List.{List, [], ◌∷◌, ◌++◌, map, map-append}
use Prim.Native.Nat.{ℕ, zero, suc, ◌+◌, ◌*◌, ◌<◌, ◌≤◌}
use native.Mathlib.Nat.{add-zero}
use native.Mathlib.Numerals.{add-one}
use native.Mathlib.Omega.{arith}
use lib.Dec.{eqb}
use lib.ListN.{length, get_or, length-append, get_or-append, get_or-map}
use lib.Seq.{get_or_at}
use borrow.Author.Count.{below_more}
use Rattle.netlist.specs.Layout.{latch_count, gate_count, next_at, output_at, operands_at}
use Rattle.netlist.specs.Literals.{variable_of, is_inverted}
use Rattle.netlist.specs.Lanes.{lane}
use Rattle.netlist.specs.Meaning.{Ops, bools, words, signed, lit_of, bit_of, gate_of, gates_of, front, values_of, nexts_of, next_of, output_of}
use Rattle.netlist.proofs.LaneLaws.{lane_and, lane-zero, lane_not}

-- ---- lengths and places
module _ {A : Type 0} (o : Ops A) where
  -- a literal reads its variable's value and nothing else
  pub lit-same : (vs ws : List A) (lit : ℕ) → get_or vs (variable_of lit) o.low ≡ get_or ws (variable_of lit) o.low → lit_of o vs lit ≡ lit_of o ws lit
  unfolding lit_of
  lit-same vs ws lit e = ap (signed o (is_inverted lit)) e

  module _ (net : List ℕ) where
    pub length-gates : (at k : ℕ) (vs : List A) → length (gates_of o net at k vs) ≡ length vs + k
    unfolding gates_of
    length-gates at zero vs = sym (add-zero (length vs))
    length-gates at (suc k) vs =
        length-append (gates_of o net at k vs) (gate_of o net (at + 2 * k) (gates_of o net at k vs) ∷ [])
        ∙ ap (λ (n : ℕ). n + 1) (length-gates at k vs) ∙ omega arith

    pub length-values : (ins latches : List A) → length (values_of o net ins latches) ≡ 1 + length ins + length latches + gate_count net
    unfolding values_of front
    length-values ins latches =
        length-gates (operands_at net 0) (gate_count net) ((o.low ∷ ins) ++ latches)
        ∙ ap (λ (n : ℕ). n + gate_count net) (length-append (o.low ∷ ins) latches) ∙ omega arith

    pub length_nexts : (k : ℕ) (vs : List A) → length (nexts_of o net k vs) ≡ k
    unfolding nexts_of
    length_nexts zero vs = refl
    length_nexts (suc k) vs =
        length-append (nexts_of o net k vs) (lit_of o vs (get_or net (next_at k) 0) ∷ [])
        ∙ ap (λ (n : ℕ). n + 1) (length_nexts k vs) ∙ add-one k

    -- later gates leave the values of the first k, and of what stands before them
    pub gates-front : (at k count : ℕ) (vs : List A) (j : ℕ) (d : A) → k ≤ count → j < length vs + k
        → get_or (gates_of o net at count vs) j d ≡ get_or (gates_of o net at k vs) j d
    unfolding gates_of
    gates-front at k zero vs j d l h = let e : k ≡ 0 = omega arith in rw e
    gates-front at k (suc n) vs j d l h =
        let G = gates_of o net at n vs in
        let e = length-gates at n vs in
        below_more (λ i. j < length vs + i → get_or (gates_of o net at (suc n) vs) j d ≡ get_or (gates_of o net at i vs) j d) (suc n)
        (λ i below g. get_or-append G (gate_of o net (at + 2 * n) G ∷ []) d j (omega arith) ∙ gates-front at i n vs j d (omega arith) g)
        (λ g. refl) k (omega arith) h

    -- the value of gate k
    pub gates_at_lem : (at k count : ℕ) (vs : List A) (d : A) → k < count
        → get_or (gates_of o net at count vs) (length vs + k) d ≡ gate_of o net (at + 2 * k) (gates_of o net at k vs)
    unfolding gates_of
    gates_at_lem at k count vs d l =
        gates-front at (suc k) count vs (length vs + k) d (omega arith) (omega arith)
        ∙ get_or_at (gates_of o net at k vs) (gate_of o net (at + 2 * k) (gates_of o net at k vs)) [] d (length vs + k) (length-gates at k vs)

    -- the next value of latch j
    pub nexts_at : (count : ℕ) (vs : List A) (d : A) (j : ℕ) → j < count → get_or (nexts_of o net count vs) j d ≡ lit_of o vs (get_or net (next_at j) 0)
    unfolding nexts_of
    nexts_at zero vs d j l = absurd (omega arith)
    nexts_at (suc n) vs d j l =
        let N = nexts_of o net n vs in
        let x = lit_of o vs (get_or net (next_at n) 0) in
        below_more (λ i. get_or (N ++ (x ∷ [])) i d ≡ lit_of o vs (get_or net (next_at i) 0)) n
        (λ i h. get_or-append N (x ∷ []) d i (rw (length_nexts n vs) h) ∙ nexts_at n vs d i h)
        (get_or_at N x [] d n (length_nexts n vs)) j (omega arith)

-- ---- maps of the values
-- f takes the operations p to the operations q
pub record Hom {A B : Type 0} (p : Ops A) (q : Ops B) (f : A → B) : Type 0 where
  pub low : f p.low ≡ q.low
  pub invert : (a : A) → f (p.invert a) ≡ q.invert (f a)
  pub both : (a b : A) → f (p.both a b) ≡ q.both (f a) (f b)

pub lane_hom : (n : ℕ) → n < 64 → Hom words bools (lane n)
lane_hom n h = record { low = lane-zero n; invert = λ w. lane_not n w h; both = lane_and n }

module _ {A B : Type 0} (p : Ops A) (q : Ops B) (f : A → B) (h : Hom p q f) where
  pub signed_hom : (t : Bool) (a : A) → f (signed p t a) ≡ signed q t (f a)
  unfolding signed
  signed_hom true a = h.invert a
  signed_hom false a = refl

  pub lit_hom : (vs : List A) (lit : ℕ) → f (lit_of p vs lit) ≡ lit_of q (map f vs) lit
  unfolding lit_of
  lit_hom vs lit =
      signed_hom (is_inverted lit) (get_or vs (variable_of lit) p.low)
      ∙ ap (signed q (is_inverted lit)) (sym (get_or-map f vs (variable_of lit) p.low) ∙ ap (get_or (map f vs) (variable_of lit)) h.low)

  bit_hom : (b : ℕ) → f (bit_of p b) ≡ bit_of q b
  unfolding bit_of
  bit_hom b = go (eqb b 49)
    where
      go : (t : Bool) → f (cond t (p.invert p.low) p.low) ≡ cond t (q.invert q.low) q.low
      go true = h.invert p.low ∙ ap q.invert h.low
      go false = h.low

  pub bits_hom : (bs : List ℕ) → map f (map (bit_of p) bs) ≡ map (bit_of q) bs
  bits_hom [] = refl
  bits_hom (b ∷ bs) = ap₂ (λ (x : B) (xs : List B). x ∷ xs) (bit_hom b) (bits_hom bs)

  module _ (net : List ℕ) where
    gate_hom : (at : ℕ) (vs : List A) → f (gate_of p net at vs) ≡ gate_of q net at (map f vs)
    unfolding gate_of
    gate_hom at vs = h.both _ _ ∙ ap₂ q.both (lit_hom vs _) (lit_hom vs _)

    pub gates_hom : (at k : ℕ) (vs : List A) → map f (gates_of p net at k vs) ≡ gates_of q net at k (map f vs)
    unfolding gates_of
    gates_hom at zero vs = refl
    gates_hom at (suc k) vs =
        let G = gates_of p net at k vs in
        let e = gates_hom at k vs in
        map-append f G (gate_of p net (at + 2 * k) G ∷ [])
        ∙ ap₂ (λ (a : List B) (b : B). a ++ (b ∷ [])) e (gate_hom (at + 2 * k) G ∙ ap (gate_of q net (at + 2 * k)) e)

    pub values_hom : (ins latches : List A) → map f (values_of p net ins latches) ≡ values_of q net (map f ins) (map f latches)
    unfolding values_of front
    values_hom ins latches =
        gates_hom (operands_at net 0) (gate_count net) ((p.low ∷ ins) ++ latches)
        ∙ ap (gates_of q net (operands_at net 0) (gate_count net))
        (map-append f (p.low ∷ ins) latches ∙ ap (λ (x : B). (x ∷ map f ins) ++ map f latches) h.low)

    nexts_hom : (k : ℕ) (vs : List A) → map f (nexts_of p net k vs) ≡ nexts_of q net k (map f vs)
    unfolding nexts_of
    nexts_hom zero vs = refl
    nexts_hom (suc k) vs =
        map-append f (nexts_of p net k vs) (lit_of p vs (get_or net (next_at k) 0) ∷ [])
        ∙ ap₂ (λ (a : List B) (b : B). a ++ (b ∷ [])) (nexts_hom k vs) (lit_hom vs (get_or net (next_at k) 0))

    pub next_hom : (vs : List A) → map f (next_of p net vs) ≡ next_of q net (map f vs)
    unfolding next_of
    next_hom vs = nexts_hom (latch_count net) vs

    pub output_hom : (k : ℕ) (vs : List A) → f (output_of p net k vs) ≡ output_of q net k (map f vs)
    unfolding output_of
    output_hom k vs = lit_hom vs (get_or net (output_at net k) 0)

-- the words of a cycle's input bytes are, in each lane, its input bits
pub lane-inputs : (n : ℕ) → n < 64 → (cycle : List ℕ) → map (lane n) (map (bit_of words) cycle) ≡ map (bit_of bools) cycle
lane-inputs n h = bits_hom words bools (lane n) (lane_hom n h)
