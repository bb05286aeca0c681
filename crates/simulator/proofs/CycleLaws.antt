-- Laws of one cycle: what the lent value words and latch words hold on the way, and at its end. Assumes nothing.
use mathlib.Core.Path.{◌≡◌, refl, sym, ap, ap₂, ◌∙◌}
use mathlib.Core.Bool.{Bool, true, false, cond}
use mathlib.Core.List.{List, [], ◌∷◌, ◌++◌, append_assoc, map}
use Prim.Native.Nat.{ℕ, zero, suc, ◌+◌, ◌*◌, ◌<◌, ◌≤◌}
use native.Mathlib.Nat.{add-zero}
use native.Mathlib.Numerals.{add-one}
use native.Mathlib.Omega.{arith}
use lib.Dec.{eqb}
use lib.ListN.{length, get_or, set, take, drop, length-append, length-set, length-map, length-drop, take-append-drop, get_or-map, get_or-append}
use lib.Seq.{length-take-le, drop-cons, set_at, paste, paste-suc, take-paste, drop-paste, length-paste, take-length, drop-drop, drop_at, take_at, drop-set-lt}
use borrow.Author.Tests.{eqb-true}
use Rattle.netlist.specs.Layout.{maximum, input_count, latch_count, output_count, gate_count, next_at, output_at, operands_at, gate_variable}
use Rattle.netlist.specs.Literals.{variable_of}
use Rattle.netlist.specs.Meaning.{Ops, words, lit_of, bit_of, gate_of, gates_of, front, values_of, nexts_of, next_of, output_of}
use Rattle.netlist.proofs.ValidLaws.{Valid}
use Rattle.netlist.proofs.MeaningLaws.{lit-same, length-gates, length_nexts}
use Rattle.simulator.specs.Step.{cycle_words, output_word, word_checked, latches_after, values_after}

-- one value more behind those in front of a buffer
pub grow : {A : Type 0} (z : A) (front : List A) (x : A) (b : List A) (n : ℕ) → length front ≡ n → n < length b
    → set (front ++ drop n b) n x ≡ (front ++ (x ∷ [])) ++ drop (n + 1) b
grow {A} z front x b n e h =
    ap (λ (r : List A). set (front ++ r) n x) (drop-cons b n z h)
    ∙ set_at front (get_or b n z) (drop (suc n) b) x n e
    ∙ sym (append_assoc front (x ∷ []) (drop (suc n) b))
    ∙ ap (λ (m : ℕ). (front ++ (x ∷ [])) ++ drop m b) (sym (add-one n))

-- a turn of a loop that copies f of each element
pub paste_map : {A B : Type 0} (f : A → B) (d : List B) (at : ℕ) (s : List A) (j : ℕ) (z : A) → at + j < length d → j < length s
    → set (paste d at (map f s) j) (at + j) (f (get_or s j z)) ≡ paste d at (map f s) (j + 1)
paste_map {A} {B} f d at s j z hd hs =
    ap (λ (x : B). set (paste d at (map f s) j) (at + j) x) (sym (get_or-map f s j z))
    ∙ paste-suc d at (map f s) j (f z) hd (rw (length-map s f) hs)
    ∙ ap (paste d at (map f s)) (sym (add-one j))

-- a literal of a variable that is in front reads nothing of the rest
lit-append : {A : Type 0} (o : Ops A) (vs ws : List A) (l : ℕ) → variable_of l < length vs → lit_of o (vs ++ ws) l ≡ lit_of o vs l
lit-append o vs ws l h = lit-same o (vs ++ ws) vs l (get_or-append vs ws o.low (variable_of l) h)

-- ---- the value words while the gates are filled in
-- both operands of each of count gates, which stand from at on, are of variables before the gate's own; the first gate's variable is v
unfoldable pub Ordered : List ℕ → ℕ → ℕ → ℕ → Type 0
Ordered net at v count =
    (k : ℕ) → k < count → (variable_of (get_or net (at + 2 * k) 0) < v + k) × (variable_of (get_or net (at + 2 * k + 1) 0) < v + k)

module _ {A : Type 0} (o : Ops A) (net : List ℕ) (at v : ℕ) (b : List A) where
  -- the buffer after k gates
  unfoldable pub buffer : ℕ → List A
  buffer k = gates_of o net at k (take v b) ++ drop (v + k) b

  pub buffer-zero : b ≡ buffer 0
  unfolding buffer gates_of
  buffer-zero = sym (ap (λ (n : ℕ). take v b ++ drop n b) (add-zero v) ∙ take-append-drop v b)

  length-filled : (k : ℕ) → v + k ≤ length b → length (gates_of o net at k (take v b)) ≡ v + k
  length-filled k h = length-gates o net at k (take v b) ∙ ap (λ (n : ℕ). n + k) (length-take-le v b (omega arith))

  pub buffer-more : (k count : ℕ) → k < count → v + count ≤ length b → Ordered net at v count
      → set (buffer k) (v + k) (o.both (lit_of o (buffer k) (get_or net (at + 2 * k) 0)) (lit_of o (buffer k) (get_or net (at + 2 * k + 1) 0)))
      ≡ buffer (k + 1)
  unfolding buffer gates_of gate_of Ordered
  buffer-more k count h room ord =
      let n = length-filled k (omega arith) in
      let G = gates_of o net at k (take v b) in
      let last : v + k + 1 ≡ v + (k + 1) = omega arith in
      ap (λ (y : A). set (G ++ drop (v + k) b) (v + k) y)
      (ap₂ o.both
      (lit-append o G (drop (v + k) b) (get_or net (at + 2 * k) 0) (rw n (ord k h).0))
      (lit-append o G (drop (v + k) b) (get_or net (at + 2 * k + 1) 0) (rw n (ord k h).1)))
      ∙ grow o.low G (gate_of o net (at + 2 * k) G) b (v + k) n (omega arith)
      ∙ ap₂ (λ (j m : ℕ). gates_of o net at j (take v b) ++ drop m b) (sym (add-one k)) last

-- a netlist's gates are ordered
pub ordered : (net : List ℕ) → Valid net → (at first count : ℕ) → at ≡ operands_at net 0 → first ≡ gate_variable net 0 → count ≡ gate_count net → Ordered net at first count
unfolding Ordered
ordered net v at first count ea ef ec = λ k l.
    let place : at + 2 * k ≡ operands_at net k = omega arith in
    let own : first + k ≡ gate_variable net k = omega arith in
    rw (place, own) (v.first k (rw (← ec) l), v.second k (rw (← ec) l))

-- ---- the latch words while they move
module _ {A : Type 0} (o : Ops A) (net : List ℕ) (vs b : List A) where
  -- the buffer after k of them moved
  unfoldable pub moved : ℕ → List A
  moved k = nexts_of o net k vs ++ drop k b

  pub moved_zero : b ≡ moved 0
  unfolding moved nexts_of
  moved_zero = refl

  pub moved_more : (k : ℕ) → k < length b → set (moved k) k (lit_of o vs (get_or net (5 + 2 * k) 0)) ≡ moved (k + 1)
  unfolding moved nexts_of
  moved_more k h =
      grow o.low (nexts_of o net k vs) (lit_of o vs (get_or net (5 + 2 * k) 0)) b k (length_nexts o net k vs) h
      ∙ ap (λ (j : ℕ). nexts_of o net j vs ++ drop (k + 1) b) (sym (add-one k))

-- ---- the value words with variable 0, the inputs and the latches in
module _ {A : Type 0} (z : A) (vs ins latches : List A) (l : ℕ) where
  abbrev loaded : List A
  loaded = paste (paste (set vs 0 z) 1 ins (length ins)) (1 + length ins) latches l

  module _ (some : l ≤ length latches) (room : 1 + length ins + l ≤ length vs) where
    inner_room : 1 + length ins ≤ length (set vs 0 z)
    inner_room = rw length-set (omega arith)

    inner_length : length (paste (set vs 0 z) 1 ins (length ins)) ≡ length vs
    inner_length = length-paste (set vs 0 z) 1 ins (length ins) inner_room (omega arith) ∙ length-set vs 0 z

    take_loaded : take (1 + length ins + l) loaded ≡ (z ∷ ins) ++ take l latches
    take_loaded =
        take-paste (paste (set vs 0 z) 1 ins (length ins)) (1 + length ins) latches l (rw inner_length (omega arith)) some
        ∙ ap (λ (r : List A). r ++ take l latches)
        (take-paste (set vs 0 z) 1 ins (length ins) (rw length-set (omega arith)) (omega arith)
        ∙ ap₂ (λ (a b : List A). a ++ b) (first vs (omega arith)) (take-length ins))
      where
        first : (ws : List A) → 0 < length ws → take 1 (set ws 0 z) ≡ z ∷ []
        first [] h = absurd (omega arith)
        first (w ∷ ws) h = refl

    drop_loaded : drop (1 + length ins + l) loaded ≡ drop (1 + length ins + l) vs
    drop_loaded =
        let inner = paste (set vs 0 z) 1 ins (length ins) in
        let p : 0 < 1 + length ins + l = omega arith in
        drop-paste inner (1 + length ins) latches l (rw inner_length (omega arith)) some
        ∙ sym (drop-drop l (1 + length ins) inner)
        ∙ ap (drop l) (drop-paste (set vs 0 z) 1 ins (length ins) (rw length-set (omega arith)) (omega arith))
        ∙ drop-drop l (1 + length ins) (set vs 0 z)
        ∙ drop-set-lt (1 + length ins + l) vs 0 z p

    loaded_is : loaded ≡ ((z ∷ ins) ++ take l latches) ++ drop (1 + length ins + l) vs
    loaded_is =
        sym (take-append-drop (1 + length ins + l) loaded)
        ∙ ap₂ (λ (a b : List A). a ++ b) take_loaded drop_loaded

pub load_is : {A B : Type 0} (f : B → A) (z : A) (vs : List A) (bs : List B) (latches : List A) (l : ℕ) → l ≤ length latches → 1 + length bs + l ≤ length vs
    → paste (paste (set vs 0 z) 1 (map f bs) (length bs)) (1 + length bs) latches l ≡ ((z ∷ map f bs) ++ take l latches) ++ drop (1 + length bs + l) vs
load_is f z vs bs latches l some room =
    rw (length-map bs f) at (loaded_is z vs (map f bs) latches l some (rw (length-map bs f) room))

-- ---- the words of all variables
drop-behind : {A : Type 0} (f vs : List A) (n m : ℕ) → length f ≡ n → drop (n + m) (f ++ drop n vs) ≡ drop (n + m) vs
drop-behind f vs n m e =
    sym (drop-drop m n (f ++ drop n vs)) ∙ ap (drop m) (drop_at f (drop n vs) n e) ∙ drop-drop m n vs

length_front : (cycle latches : List ℕ) (l : ℕ) → l ≤ length latches
    → length (front words (map (bit_of words) cycle) (take l latches)) ≡ 1 + length cycle + l
unfolding front
length_front cycle latches l h =
    length-append (0 ∷ map (bit_of words) cycle) (take l latches)
    ∙ ap₂ (λ (a b : ℕ). suc a + b) (length-map cycle (bit_of words)) (length-take-le l latches h) ∙ omega arith

-- the gates behind the words that were loaded: all words stand in front, and the rest is as it was
pub evaluate_is : (net cycle latches vs : List ℕ) (l at first a : ℕ) → l ≡ latch_count net → at ≡ operands_at net 0 → first ≡ 1 + length cycle + l → a ≡ gate_count net
    → Valid net → length cycle ≡ input_count net → latch_count net ≤ length latches → (ws : List ℕ)
    → ws ≡ front words (map (bit_of words) cycle) (take l latches) ++ drop (1 + length cycle + l) vs
    → (out : List ℕ) → out ≡ gates_of words net at a (take first ws) ++ drop (first + a) ws → out ≡ values_after net cycle latches vs
unfolding values_after cycle_words values_of
evaluate_is net cycle latches vs l at first a el ep ef ea valid len some ws ew out eo =
    let F = front words (map (bit_of words) cycle) (take l latches) in
    let n = 1 + length cycle + l in
    let lf = length_front cycle latches l (rw el some) in
    let total : n + a ≡ maximum net + 1 = omega (arith, valid.sum) in
    eo ∙ ap₂ (λ (i : ℕ) (w : List ℕ). gates_of words net at a (take i w) ++ drop (i + a) w) ef ew
    ∙ ap₂ (λ (x y : List ℕ). gates_of words net at a x ++ y)
    (take_at F (drop n vs) n lf)
    (drop-behind F vs n a lf ∙ ap (λ (m : ℕ). drop m vs) total)
    ∙ ap₂ (λ (p c : ℕ). gates_of words net p c F ++ drop (maximum net + 1) vs) ep ea
    ∙ ap (λ (x : ℕ). gates_of words net (operands_at net 0) (gate_count net) (front words (map (bit_of words) cycle) (take x latches)) ++ drop (maximum net + 1) vs) el

-- there is a word for each variable
pub length-words : (net cycle latches : List ℕ) → Valid net → length cycle ≡ input_count net → latch_count net ≤ length latches
    → length (cycle_words net cycle latches) ≡ maximum net + 1
unfolding cycle_words values_of
length-words net cycle latches valid len some =
    length-gates words net (operands_at net 0) (gate_count net) (front words (map (bit_of words) cycle) (take (latch_count net) latches))
    ∙ ap (λ (n : ℕ). n + gate_count net) (length_front cycle latches (latch_count net) some) ∙ omega (arith, valid.sum)

-- ---- the end of a cycle
-- the literal that stands where output k does has its word
pub output_at_lem : (net vs : List ℕ) (k at r : ℕ) → at ≡ output_at net k → r ≡ lit_of words vs (get_or net at 0) → r ≡ output_of words net k vs
unfolding output_of
output_at_lem net vs k at r ea er = er ∙ ap (λ (i : ℕ). lit_of words vs (get_or net i 0)) ea

-- what is behind the variables is not read
nexts_append : (net : List ℕ) (k : ℕ) (vs ws : List ℕ) → ((j : ℕ) → j < k → variable_of (get_or net (next_at j) 0) < length vs)
    → nexts_of words net k (vs ++ ws) ≡ nexts_of words net k vs
unfolding nexts_of
nexts_append net zero vs ws h = refl
nexts_append net (suc k) vs ws h =
    ap₂ (λ (a : List ℕ) (b : ℕ). a ++ (b ∷ []))
    (nexts_append net k vs ws (λ j l. h j (omega arith)))
    (lit-append words vs ws (get_or net (next_at k) 0) (h k (omega arith)))

module _ (net cycle latches vs : List ℕ) (v : Valid net) (len : length cycle ≡ input_count net) (some : latch_count net ≤ length latches) where
  -- output k reads nothing of what is behind the variables
  output-same : (k : ℕ) → k < output_count net → (ws : List ℕ) → ws ≡ values_after net cycle latches vs
      → output_of words net k ws ≡ output_of words net k (cycle_words net cycle latches)
  unfolding output_of values_after
  output-same k h ws ew =
      let n = length-words net cycle latches v len some in
      ap (λ (w : List ℕ). lit_of words w (get_or net (output_at net k) 0)) ew
      ∙ lit-append words (cycle_words net cycle latches) (drop (maximum net + 1) vs) (get_or net (output_at net k) 0) (rw n (omega (arith, v.outputs k h)))

  pub output-is : (ws : List ℕ) → ws ≡ values_after net cycle latches vs → (r : ℕ) → r ≡ output_of words net 0 ws → r ≡ output_word net cycle latches
  unfolding output_word
  output-is ws ew r er = er ∙ output-same 0 v.output ws ew

  pub checked-is : (ws : List ℕ) → ws ≡ values_after net cycle latches vs → (r : ℕ) → r ≡ cond (eqb (output_count net) 2) (output_of words net 1 ws) 0
      → r ≡ word_checked net cycle latches
  unfolding word_checked
  checked-is ws ew r er = er ∙ go (eqb (output_count net) 2) refl
    where
      go : (b : Bool) → eqb (output_count net) 2 ≡ b → cond b (output_of words net 1 ws) 0 ≡ cond b (output_of words net 1 (cycle_words net cycle latches)) 0
      go true h = output-same 1 (omega (arith, eqb-true (output_count net) 2 h)) ws ew
      go false h = refl

  pub latches-are : (l : ℕ) → l ≡ latch_count net → (ws : List ℕ) → ws ≡ values_after net cycle latches vs → (ls : List ℕ) → ls ≡ nexts_of words net l ws ++ drop l latches
      → ls ≡ latches_after net cycle latches
  unfolding latches_after next_of values_after
  latches-are l el ws ew ls els =
      let F = cycle_words net cycle latches in
      let n = length-words net cycle latches v len some in
      els ∙ ap₂ (λ (w : List ℕ) (i : ℕ). nexts_of words net i w ++ drop i latches) ew el
      ∙ ap (λ (x : List ℕ). x ++ drop (latch_count net) latches) (nexts_append net (latch_count net) F (drop (maximum net + 1) vs) (λ j h. rw n (omega (arith, v.nexts j h))))

  -- both buffers keep their lengths
  pub latches-length : length (latches_after net cycle latches) ≡ length latches
  unfolding latches_after next_of
  latches-length = rw (length-append, length_nexts, length-drop) (omega arith)

  pub values_length : maximum net + 1 ≤ length vs → length (values_after net cycle latches vs) ≡ length vs
  unfolding values_after
  values_length h = rw (length-append, length-words net cycle latches v len some, length-drop) (omega arith)
