-- Where the numbers of lines stand in the netlist that they make, and that a netlist is made of them. Assumes nothing.
use mathlib.Core.Path.{◌≡◌, refl, sym, ap, ap₂, ◌∙◌}
use mathlib.Core.List.{List, [], ◌∷◌, ◌++◌, append_assoc, append-nil}
use Prim.Native.Nat.{ℕ, zero, suc, ◌+◌, ◌*◌, ◌≤◌, ◌<◌}
use native.Mathlib.Numerals.{add-one}
use native.Mathlib.Omega.{arith}
use native.Mathlib.Decide.{dec_lt}
use lib.ListN.{length, get_or, take, drop, length-append, take-append-drop, get_or-append, drop_of_length-le}
use lib.Seq.{get_or-append-add, take-add, drop-drop, drop-cons}
use Rattle.text.specs.Writer.{joined}
use Rattle.netlist.specs.Layout.{maximum, input_count, latch_count, output_count, gate_count, size_of}

-- ---- pieces of one length, w; piece k stands at W k
module _ (N : ℕ → List ℕ) (w : ℕ) (W : ℕ → ℕ) (base : W 0 ≡ 0) (step : (k : ℕ) → W (suc k) ≡ W k + w) where
  pieces_length : (n : ℕ) → ((k : ℕ) → k < n → length (N k) ≡ w) → length (joined N n) ≡ W n
  pieces_length zero h = sym base
  pieces_length (suc n) h = length-append (joined N n) (N n) ∙ ap₂ ◌+◌ (pieces_length n (λ k l. h k (omega arith))) (h n (omega arith)) ∙ sym (step n)

  piece_at_lem : (n : ℕ) → ((k : ℕ) → k < n → length (N k) ≡ w) → (k j : ℕ) → k < n → j < w → (rest : List ℕ) → get_or (joined N n ++ rest) (W k + j) 0 ≡ get_or (N k) j 0
  piece_at_lem zero h k j l m rest = absurd (omega arith)
  piece_at_lem (suc n) h k j l m rest = go (dec_lt k n) (piece_at_lem n (λ i o. h i (omega arith)) k j)
    where
      go : Dec (k < n) → (k < n → j < w → (rest : List ℕ) → get_or (joined N n ++ rest) (W k + j) 0 ≡ get_or (N k) j 0) → get_or ((joined N n ++ N n) ++ rest) (W k + j) 0 ≡ get_or (N k) j 0
      go (yes d) ih = rw (append_assoc (joined N n) (N n) rest) (ih d m (N n ++ rest))
      go (no d) ih =
          let e : k ≡ n = omega arith in
          let s : W n ≡ length (joined N n) = sym (pieces_length n (λ i o. h i (omega arith))) in
          let i : j < length (N n) = omega (arith, h n (omega arith)) in
          rw (append_assoc (joined N n) (N n) rest, e, s) (get_or-append-add (joined N n) (N n ++ rest) j 0 ∙ get_or-append (N n) rest 0 j i)

-- ---- a netlist of its header, latches, outputs and gates

-- the pieces of a netlist, in their lengths
pub record Pieces (m i l o a : ℕ) (L O G : ℕ → List ℕ) : Type 0 where
  pub latches : (k : ℕ) → k < l → length (L k) ≡ 2
  pub outputs : (k : ℕ) → k < o → length (O k) ≡ 1
  pub gates : (k : ℕ) → k < a → length (G k) ≡ 2

abbrev pub net_of : ℕ → ℕ → ℕ → ℕ → ℕ → (ℕ → List ℕ) → (ℕ → List ℕ) → (ℕ → List ℕ) → List ℕ
net_of m i l o a L O G = m ∷ i ∷ l ∷ o ∷ a ∷ (joined L l ++ (joined O o ++ joined G a))

module _ (m i l o a : ℕ) (L O G : ℕ → List ℕ) (t : Pieces m i l o a L O G) where
  abbrev head : List ℕ
  head = m ∷ i ∷ l ∷ o ∷ a ∷ []

  abbrev rest : List ℕ
  rest = joined O o ++ joined G a

  abbrev double : ℕ → ℕ
  double k = 2 * k

  abbrev same : ℕ → ℕ
  same k = k

  doubles : (k : ℕ) → 2 * suc k ≡ 2 * k + 2
  doubles k = omega arith

  latches-length : length (joined L l) ≡ 2 * l
  latches-length = pieces_length L 2 double refl doubles l t.latches

  outputs-length : length (joined O o) ≡ o
  outputs-length = pieces_length O 1 same refl (λ k. sym (add-one k)) o t.outputs

  gates-length : length (joined G a) ≡ 2 * a
  gates-length = pieces_length G 2 double refl doubles a t.gates

  pub net-length : length (net_of m i l o a L O G) ≡ 5 + 2 * l + o + 2 * a
  net-length =
      let n : length (joined L l ++ rest) ≡ 2 * l + (o + 2 * a) = length-append (joined L l) rest ∙ ap₂ ◌+◌ latches-length (length-append (joined O o) (joined G a) ∙ ap₂ ◌+◌ outputs-length gates-length) in
      omega (arith, n)

  past_head : (n : ℕ) → get_or (net_of m i l o a L O G) (5 + n) 0 ≡ get_or (joined L l ++ rest) n 0
  past_head n = get_or-append-add head (joined L l ++ rest) n 0

  past-latches : (n : ℕ) → get_or (net_of m i l o a L O G) (5 + (2 * l + n)) 0 ≡ get_or rest n 0
  past-latches n = past_head (2 * l + n) ∙ rw (← latches-length) (get_or-append-add (joined L l) rest n 0)

  past-outputs : (n : ℕ) → get_or (net_of m i l o a L O G) (5 + (2 * l + (o + n))) 0 ≡ get_or (joined G a) n 0
  past-outputs n = past-latches (o + n) ∙ second
    where
      second : get_or rest (o + n) 0 ≡ get_or (joined G a) n 0
      second = ap (λ (x : ℕ). get_or rest (x + n) 0) (sym outputs-length) ∙ get_or-append-add (joined O o) (joined G a) n 0

  pub latch_at_lem : (k j : ℕ) → k < l → j < 2 → get_or (net_of m i l o a L O G) (5 + 2 * k + j) 0 ≡ get_or (L k) j 0
  latch_at_lem k j h g =
      let n : 5 + 2 * k + j ≡ 5 + (2 * k + j) = omega arith in
      rw n (past_head (2 * k + j) ∙ piece_at_lem L 2 double refl doubles l t.latches k j h g rest)

  pub output_at_lem : (k : ℕ) → k < o → get_or (net_of m i l o a L O G) (5 + 2 * l + k) 0 ≡ get_or (O k) 0 0
  output_at_lem k h =
      let n : 5 + 2 * l + k ≡ 5 + (2 * l + (k + 0)) = omega arith in
      rw n (past-latches (k + 0) ∙ piece_at_lem O 1 same refl (λ k. sym (add-one k)) o t.outputs k 0 h (omega arith) (joined G a))

  pub gate_at_lem : (k j : ℕ) → k < a → j < 2 → get_or (net_of m i l o a L O G) (5 + 2 * l + o + 2 * k + j) 0 ≡ get_or (G k) j 0
  gate_at_lem k j h g =
      let n : 5 + 2 * l + o + 2 * k + j ≡ 5 + (2 * l + (o + (2 * k + j))) = omega arith in
      rw n (past-outputs (2 * k + j) ∙ ap (λ (x : List ℕ). get_or x (2 * k + j) 0) (sym (append-nil (joined G a))) ∙ piece_at_lem G 2 double refl doubles a t.gates k j h g [])

-- ---- a netlist without surplus is made of its pieces

module _ (net : List ℕ) where
  -- two numbers, and one, at a place
  abbrev pub pair_at : ℕ → List ℕ
  pair_at n = get_or net n 0 ∷ get_or net (n + 1) 0 ∷ []

  abbrev pub one_at : ℕ → List ℕ
  one_at n = get_or net n 0 ∷ []

  pair_is : (n : ℕ) → n + 1 < length net → take 2 (drop n net) ≡ pair_at n
  pair_is n h = rw (drop-cons net n 0 (omega arith), add-one n, drop-cons net (suc n) 0 (omega arith))

  one-is : (n : ℕ) → n < length net → take 1 (drop n net) ≡ one_at n
  one-is n h = rw (drop-cons net n 0 h)

  pub pairs : (b n : ℕ) → b + 2 * n ≤ length net → joined (λ k. pair_at (b + 2 * k)) n ≡ take (2 * n) (drop b net)
  pairs b zero h = refl
  pairs b (suc n) h =
      let e : 2 * suc n ≡ 2 * n + 2 = omega arith in
      rw e (ap₂ ◌++◌ (pairs b n (omega arith)) (sym (pair_is (b + 2 * n) (omega arith)) ∙ ap (take 2) (sym (drop-drop (2 * n) b net))) ∙ sym (take-add (2 * n) 2 (drop b net)))

  ones : (b n : ℕ) → b + n ≤ length net → joined (λ k. one_at (b + k)) n ≡ take n (drop b net)
  ones b zero h = refl
  ones b (suc n) h =
      rw (← (add-one n)) (ap₂ ◌++◌ (ones b n (omega arith)) (sym (one-is (b + n) (omega arith)) ∙ ap (take 1) (sym (drop-drop n b net))) ∙ sym (take-add n 1 (drop b net)))

  cut : (b n : ℕ) → drop b net ≡ take n (drop b net) ++ drop (b + n) net
  cut b n = sym (take-append-drop n (drop b net)) ∙ ap (λ (x : List ℕ). take n (drop b net) ++ x) (drop-drop n b net)

  front : 5 ≤ length net → net ≡ maximum net ∷ input_count net ∷ latch_count net ∷ output_count net ∷ gate_count net ∷ drop 5 net
  front h = five net h
    where
      five : (l : List ℕ) → 5 ≤ length l → l ≡ get_or l 0 0 ∷ get_or l 1 0 ∷ get_or l 2 0 ∷ get_or l 3 0 ∷ get_or l 4 0 ∷ drop 5 l
      five [] g = absurd (omega arith)
      five (a ∷ []) g = absurd (omega arith)
      five (a ∷ b ∷ []) g = absurd (omega arith)
      five (a ∷ b ∷ c ∷ []) g = absurd (omega arith)
      five (a ∷ b ∷ c ∷ d ∷ []) g = absurd (omega arith)
      five (a ∷ b ∷ c ∷ d ∷ e ∷ l) g = refl

  pub made : length net ≡ size_of net
      → net ≡ net_of (maximum net) (input_count net) (latch_count net) (output_count net) (gate_count net) (λ k. pair_at (5 + 2 * k)) (λ k. one_at (5 + 2 * latch_count net + k)) (λ k. pair_at (5 + 2 * latch_count net + output_count net + 2 * k))
  made h =
      let l = latch_count net in
      let o = output_count net in
      let a = gate_count net in
      let c1 = cut 5 (2 * l) in
      let c2 = cut (5 + 2 * l) o in
      let c3 = cut (5 + 2 * l + o) (2 * a) in
      let none : drop (5 + 2 * l + o + 2 * a) net ≡ [] = drop_of_length-le net {i = 5 + 2 * l + o + 2 * a} (omega arith) in
      let p1 = pairs 5 l (omega arith) in
      let p2 = ones (5 + 2 * l) o (omega arith) in
      let p3 = pairs (5 + 2 * l + o) a (omega arith) in
      front (omega arith)
      ∙ ap (λ (x : List ℕ). maximum net ∷ input_count net ∷ l ∷ o ∷ a ∷ x)
      (c1 ∙ ap₂ ◌++◌ (sym p1) (c2 ∙ ap₂ ◌++◌ (sym p2) (c3 ∙ ap₂ ◌++◌ (sym p3) none ∙ append-nil _)))
