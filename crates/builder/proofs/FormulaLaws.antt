-- The words of a formula, run over a stack of literals, make the formula's gates and its literal. Assumes
-- nothing.
use Rattle.std.specs.Prelude.{Result, Ok, Err, Some}
use mathlib.Core.Path.{◌≡◌, refl, sym, ap, ◌∙◌}
use mathlib.Core.Bool.{Bool, true, false}
use mathlib.Core.List.{List, [], ◌∷◌, ◌++◌, append_assoc, append-nil, Memᴰ}
use mathlib.Core.Logic.{◌⊎◌, inl, inr, ⊎_elim}
use Prim.Native.Nat.{ℕ, zero, suc, ◌+◌, ◌-◌, ◌/◌, ◌%◌, ◌≤◌, ◌<◌, min}
use native.Mathlib.Numerals.{add-one}
use native.Mathlib.Omega.{arith}
use native.Mathlib.Decide.{dec_lt}
use borrow.Author.Tests.{eq-eqb, ne_eqb, eqb-true, lt-ltb, le-ltb, ltb-true}
use lib.Dec.{eqb, ltb}
use lib.ListN.{length, get_or, set, take, drop, replicate, length-append, length-set, drop_of_length-le}
use lib.Seq.{drop-cons, take-append_seam, get_or-set_same, get_or-set_other}
use Rattle.netlist.specs.Literals.{literal_of}
use Rattle.assertion.specs.Graph.{Bytes, Expr, truth, neg, conj, disj, xor, same}
use Rattle.formula.specs.declared.Formula.{Formula}
use Rattle.formula.specs.declared.Start.TheVariants.{Not, Group, Bit, Name, Nothing}
use Rattle.formula.specs.Classes.{pick, strength_of, start_of, is_letter, class_of}
use Rattle.formula.specs.Grammar.{Tree, name, bit_of, alike, bit, not, group, join, Parsed, none, tree, tree_of, depth_of}
use Rattle.formula.specs.Reading.{name_word, bit_word, alike_word, byte_word, postfix, padded, answer_of, formula_of}
use Rattle.formula.specs.Claims.{operators}
use Rattle.formula.proofs.ByteLaws.{operator}
use Rattle.formula.proofs.PostfixLaws.{NameIn, InField, name-place, name-length, name_word-small, byte_word-large, byte_word-small, byte_word-back, bit_word-large, bit_word-small, bit_word-name, bit_word-bit, alike_word-large, alike_word-left, alike_word-right, field-short, in_field, words-few}
use Rattle.graph.specs.Pieces.{Declared, look_up_name, place_in, width_in}
use Rattle.graph.specs.declared.Fault.{Fault}
use Rattle.graph.specs.Pieces as pieces
use Rattle.graph.specs.Private.Steps.{name_found}
use Rattle.graph.specs.Reading.{found_at, known, fits, joined, symbol, resolved, judged_tree, judged_formula, tree_expr}
use Rattle.graph.specs.declared.Fault.TheVariants.{TooDeep, UnknownName, WrongWidth}
use Rattle.circuit.specs.Gates.{lit, inv, Gate, Piece, and_of, or_of, xor_of, same_of, after}
use Rattle.circuit.specs.Build.{formula}
use Rattle.builder.specs.declared.gates.Gates.{Gates}
use Rattle.builder.specs.Private.Adding.{Added, Room, Going, Splits}
use Rattle.builder.specs.Private.Machine.{plain, Bounded, name_literal, compared_by, operated, byte_made, word_made, taken_by, taken, Ran, ran, program, Enough, stack_of}
use Rattle.builder.proofs.AddingLaws.{begin, go, done, going_room}
use Rattle.builder.proofs.AlikeLaws.{alike_made_lem}

-- ---- a name that is looked up
look_up-bounded : (n : Bytes) (ns : List Declared) → Bounded ns → ((place_in (look_up_name n ns)) ≤ 69) × ((width_in (look_up_name n ns)) ≤ 16)
unfolding look_up_name
look_up-bounded n [] h = (omega arith, omega arith)
look_up-bounded n (d ∷ ds) h = at (pieces.same n d.name) refl (look_up-bounded n ds h.2)
  where
    at : (t : Bool) → pieces.same n d.name ≡ t → ((place_in (look_up_name n ds)) ≤ 69) × ((width_in (look_up_name n ds)) ≤ 16) → ((place_in (look_up_name n (d ∷ ds))) ≤ 69) × ((width_in (look_up_name n (d ∷ ds))) ≤ 16)
    at true e i = rw (e, look_up_name) (omega (arith, h.0), h.1)
    at false e i = rw (e, look_up_name) i

pub found-bounded : (ns : List Declared) (s : Bytes) (w : ℕ) → Bounded ns → (place_in (name_found ns s w) ≤ 69) × (width_in (name_found ns s w) ≤ 16)
found-bounded ns s w h = look_up-bounded (take (w % 16) (drop (w / 16) s)) ns h

-- ---- an operator, by its byte
module _ (b n x y : ℕ) where
  pub operated-and : b ≡ 38 → operated b n x y ≡ and_of n x y
  unfolding operated
  operated-and h = rw (eq-eqb b 38 h)

  module _ (h1 : b ≡ 38 → ⊥) where
    pub operated-or : b ≡ 124 → operated b n x y ≡ or_of n x y
    unfolding operated
    operated-or h = rw (ne_eqb b 38 h1, eq-eqb b 124 h)

    module _ (h2 : b ≡ 124 → ⊥) where
      pub operated-xor : b ≡ 94 → operated b n x y ≡ xor_of n x y
      unfolding operated
      operated-xor h = rw (ne_eqb b 38 h1, ne_eqb b 124 h2, eq-eqb b 94 h)

      pub operated-same : (b ≡ 94 → ⊥) → operated b n x y ≡ same_of n x y
      unfolding operated
      operated-same h = rw (ne_eqb b 38 h1, ne_eqb b 124 h2, ne_eqb b 94 h)

      pub operated_three : length (operated b n x y).gates ≡ 3
      unfolding operated
      operated_three = rw (ne_eqb b 38 h1, ne_eqb b 124 h2) (three (eqb b 94))
        where
          three : (t : Bool) → length (pick t (xor_of n x y) (same_of n x y)).gates ≡ 3
          three true = refl
          three false = refl

  pub byte-zero : b ≡ 48 → byte_made b n x y ≡ plain (literal_of 0 false)
  unfolding byte_made
  byte-zero h = rw (eq-eqb b 48 h)

  module _ (h1 : b ≡ 48 → ⊥) where
    pub byte_one : b ≡ 49 → byte_made b n x y ≡ plain (literal_of 0 true)
    unfolding byte_made
    byte_one h = rw (ne_eqb b 48 h1, eq-eqb b 49 h)

    module _ (h2 : b ≡ 49 → ⊥) where
      pub byte-not : b ≡ 33 → byte_made b n x y ≡ plain (inv y)
      unfolding byte_made
      byte-not h = rw (ne_eqb b 48 h1, ne_eqb b 49 h2, eq-eqb b 33 h)

      pub byte_operator : (b ≡ 33 → ⊥) → byte_made b n x y ≡ operated b n x y
      unfolding byte_made
      byte_operator h = rw (ne_eqb b 48 h1, ne_eqb b 49 h2, ne_eqb b 33 h)

-- ---- a word, by its range
module _ (ns : List Declared) (s : Bytes) (w n x y : ℕ) where
  pub word-name : w < 4096 → word_made ns s w n x y ≡ plain (name_literal ns s w 0)
  unfolding word_made
  word-name h = rw (lt-ltb w 4096 h)

  pub word_byte : 4096 ≤ w → w < 8192 → word_made ns s w n x y ≡ byte_made (w - 4096) n x y
  unfolding word_made
  word_byte h k = rw (le-ltb w 4096 h, lt-ltb w 8192 k)

  pub word-bit : 8192 ≤ w → w < 16777216 → word_made ns s w n x y ≡ plain (name_literal ns s (w % 4096) (w / 8192 - 1))
  unfolding word_made
  word-bit h k = rw (le-ltb w 4096 (omega arith), le-ltb w 8192 h, lt-ltb w 16777216 k)

  pub word-alike : 16777216 ≤ w → word_made ns s w n x y ≡ compared_by ns s w n
  unfolding word_made
  word-alike h = rw (le-ltb w 4096 (omega arith), le-ltb w 8192 (omega arith), le-ltb w 16777216 h)

module _ (w : ℕ) where
  pub taken-name : w < 4096 → taken w ≡ 0
  unfolding taken
  taken-name h = rw (lt-ltb w 4096 h)

  -- one bit of a name, or two names
  pub taken-names : 8192 ≤ w → taken w ≡ 0
  unfolding taken
  taken-names h = rw (le-ltb w 4096 (omega arith), le-ltb w 8192 h)

  module _ (h : 4096 ≤ w) (k : w < 8192) where
    taken-byte : taken w ≡ taken_by (w - 4096)
    unfolding taken
    taken-byte = rw (le-ltb w 4096 h, lt-ltb w 8192 k)

    pub taken-zero : w - 4096 ≡ 48 → taken w ≡ 0
    unfolding taken_by
    taken-zero e = rw (taken-byte, eq-eqb (w - 4096) 48 e)

    module _ (h1 : w - 4096 ≡ 48 → ⊥) where
      pub taken-one : w - 4096 ≡ 49 → taken w ≡ 0
      unfolding taken_by
      taken-one e = rw (taken-byte, ne_eqb (w - 4096) 48 h1, eq-eqb (w - 4096) 49 e)

      module _ (h2 : w - 4096 ≡ 49 → ⊥) where
        pub taken_not : w - 4096 ≡ 33 → taken w ≡ 1
        unfolding taken_by
        taken_not e = rw (taken-byte, ne_eqb (w - 4096) 48 h1, ne_eqb (w - 4096) 49 h2, eq-eqb (w - 4096) 33 e)

        pub taken-two : (w - 4096 ≡ 33 → ⊥) → taken w ≡ 2
        unfolding taken_by
        taken-two e = rw (taken-byte, ne_eqb (w - 4096) 48 h1, ne_eqb (w - 4096) 49 h2, ne_eqb (w - 4096) 33 e)

-- the literal of the third of three gates
pub third_gate : (n : ℕ) {l : ℕ} → l ≡ literal_of (n + 2) false → l ≡ lit (suc (suc n))
third_gate n e = let z : n + 2 ≡ suc (suc n) = omega arith in e ∙ ap lit z

-- ---- the words of a tree
pub bit_is : (b : ℕ) → start_of b ≡ Bit → (b ≡ 48) ⊎ (b ≡ 49)
unfolding start_of
bit_is b h = at (eqb b 33) (eqb b 40) (eqb b 48) (eqb b 49) (is_letter (class_of b)) refl refl h
  where
    at : (t u v w x : Bool) → eqb b 48 ≡ v → eqb b 49 ≡ w → pick t Not (pick u Group (pick v Bit (pick w Bit (pick x Name Nothing)))) ≡ Bit → (b ≡ 48) ⊎ (b ≡ 49)
    at true u v w x p q e = let z : ◌≡◌ {A = ℕ} 0 1 = cc in absurd (omega arith)
    at false true v w x p q e = let z : ◌≡◌ {A = ℕ} 0 1 = cc in absurd (omega arith)
    at false false true w x p q e = inl (eqb-true b 48 p)
    at false false false true x p q e = inr (eqb-true b 49 q)
    at false false false false true p q e = let z : ◌≡◌ {A = ℕ} 0 1 = cc in absurd (omega arith)
    at false false false false false p q e = let z : ◌≡◌ {A = ℕ} 0 1 = cc in absurd (omega arith)

-- an operator between two operands is none of these bytes
binds_not : (b k : ℕ) → 0 < strength_of b → strength_of k ≡ 0 → b ≡ k → ⊥
binds_not b k h z e = let y : strength_of b ≡ strength_of k = ap strength_of e in omega arith

weak_zero : strength_of 48 ≡ 0
unfolding strength_of
weak_zero = refl

weak_one : strength_of 49 ≡ 0
unfolding strength_of
weak_one = refl

weak_not : strength_of 33 ≡ 0
unfolding strength_of
weak_not = refl

-- the bytes of words are bytes
operator_small : {b : ℕ} → Memᴰ b operators → b < 256
operator_small (Memᴰ.head e) = omega arith
operator_small (Memᴰ.tail (Memᴰ.head e)) = omega arith
operator_small (Memᴰ.tail (Memᴰ.tail (Memᴰ.head e))) = omega arith
operator_small (Memᴰ.tail (Memᴰ.tail (Memᴰ.tail (Memᴰ.head e)))) = omega arith
operator_small (Memᴰ.tail (Memᴰ.tail (Memᴰ.tail (Memᴰ.tail x')))) = elim x' [ ]

binds_small : (b : ℕ) → 0 < strength_of b → byte_word b < 8192
binds_small b h = byte_word-small b (operator_small (operator b h))

bit-small : (b : ℕ) → start_of b ≡ Bit → byte_word b < 8192
bit-small b h = byte_word-small b (⊎_elim (λ (e : b ≡ 48). omega arith) (λ (e : b ≡ 49). omega arith) (bit_is b h))

joined_made : (m n b : ℕ) (x y : Expr) → formula m n (joined b x y) ≡ after (operated b) n (formula m n x) (formula m (n + length (formula m n x).gates) y)
unfolding joined operated formula
joined_made m n b x y = at (eqb b 38) (eqb b 124) (eqb b 94)
  where
    at : (t u v : Bool) → formula m n (pick t (conj x y) (pick u (disj x y) (pick v (xor x y) (same x y)))) ≡ after (λ k a c. pick t (and_of k a c) (pick u (or_of k a c) (pick v (xor_of k a c) (same_of k a c)))) n (formula m n x) (formula m (n + length (formula m n x).gates) y)
    at true u v = refl
    at false true v = refl
    at false false true = refl
    at false false false = refl

symbol_made : (m n i : ℕ) → formula m n (symbol m i) ≡ plain (lit (2 + i))
unfolding symbol formula
symbol_made m n i = elim (dec_lt i m) [
  | yes l ↦ rw (lt-ltb i m l)
  | no l ↦ let z : 2 + m + (i - m) ≡ 2 + i = omega arith in rw (le-ltb i m (omega arith), z)
]

module _ (ns : List Declared) (s : Bytes) where
  -- a piece and then the rest of the words
  abbrev onward : Piece → List ℕ → List ℕ → ℕ → Ran
  onward p rest st n =
      record {
        gates = p.gates ++ (ran ns s rest (p.out ∷ st) (n + length p.gates)).gates;
        stack = (ran ns s rest (p.out ∷ st) (n + length p.gates)).stack;
      }

  word-ran : (w : ℕ) (rest st st2 : List ℕ) (n : ℕ) (p : Piece) → word_made ns s w n (get_or st 1 0) (get_or st 0 0) ≡ p → drop (taken w) st ≡ st2 → ran ns s (w ∷ rest) st n ≡ onward p rest st2 n
  unfolding ran
  word-ran w rest st st2 n p e d = rw (e, d)

  then_ran : (p : Piece) (ws st : List ℕ) (n : ℕ) {r : Ran} → ran ns s ws (p.out ∷ st) (n + length p.gates) ≡ r → ◌≡◌ {A = Ran} (onward p ws st n) (record { gates = p.gates ++ r.gates; stack = r.stack })
  then_ran p ws st n e = rw e

  assemble : (a b c : List Gate) (out : ℕ) (rest st : List ℕ) (n : ℕ) → ◌≡◌ {A = Ran} (record { gates = a ++ (b ++ (c ++ (ran ns s rest (out ∷ st) (n + length a + length b + length c)).gates)); stack = (ran ns s rest (out ∷ st) (n + length a + length b + length c)).stack }) (onward (record { gates = a ++ (b ++ c); out = out }) rest st n)
  assemble a b c out rest st n =
      let z : n + length (a ++ (b ++ c)) ≡ n + length a + length b + length c = omega (arith, length-append a (b ++ c), length-append b c) in
      rw (z, append_assoc a (b ++ c), append_assoc b c)

  -- ---- one word of a tree
  found_name : (p k : ℕ) {w : ℕ} → NameIn s p k → w ≡ name_word p k → name_found ns s w ≡ found_at ns s p k
  found_name p k h e = rw (e, name-place p k h.short, name-length p k h.short)

  module _ (m : ℕ) (short : length s ≤ 255) where
    small : (p k : ℕ) → NameIn s p k → name_word p k < 4096
    small p k h = name_word-small s p k short h

    name_word_lem : (p k n x y : ℕ) → NameIn s p k → word_made ns s (name_word p k) n x y ≡ formula m n (resolved m ns s (name p k))
    unfolding name_literal resolved
    name_word_lem p k n x y h =
        let z : 2 + (place_in (found_at ns s p k)) + 0 ≡ 2 + (place_in (found_at ns s p k)) = omega arith in
        word-name ns s (name_word p k) n x y (small p k h) ∙ rw (found_name p k h refl, z, symbol_made m n (place_in (found_at ns s p k)))

    one_word : (p k i n x y : ℕ) → NameIn s p k → i ≤ 16 → word_made ns s (bit_word p k i) n x y ≡ formula m n (resolved m ns s (bit_of p k i))
    unfolding name_literal resolved
    one_word p k i n x y h l =
        let z : 2 + (place_in (found_at ns s p k)) + min i 16 ≡ 2 + ((place_in (found_at ns s p k)) + i) = omega arith in
        word-bit ns s (bit_word p k i) n x y (bit_word-large p k i) (bit_word-small p k i (small p k h))
        ∙ rw (found_name p k h (bit_word-name p k i (small p k h)), bit_word-bit p k i (small p k h), z, symbol_made m n ((place_in (found_at ns s p k)) + i))

    alike_words : (p k q j n x y : ℕ) → NameIn s p k → NameIn s q j → word_made ns s (alike_word p k q j) n x y ≡ formula m n (resolved m ns s (alike p k q j))
    unfolding compared_by resolved formula
    alike_words p k q j n x y h i =
        word-alike ns s (alike_word p k q j) n x y (alike_word-large p k q j)
        ∙ rw (found_name p k h (alike_word-left p k q j (small p k h) (small q j i)), found_name q j i (alike_word-right p k q j (small p k h) (small q j i)))
        (alike_made_lem m n (place_in (found_at ns s p k)) (place_in (found_at ns s q j)) (width_in (found_at ns s p k)))

  byte_word_lem : (b n x y : ℕ) → byte_word b < 8192 → word_made ns s (byte_word b) n x y ≡ byte_made b n x y
  byte_word_lem b n x y h = word_byte ns s (byte_word b) n x y (byte_word-large b) h ∙ rw (byte_word-back b)

  bit_word_lem : (b n x y : ℕ) → start_of b ≡ Bit → word_made ns s (byte_word b) n x y ≡ plain (literal_of 0 (eqb b 49))
  bit_word_lem b n x y h =
      byte_word_lem b n x y (bit-small b h)
      ∙ ⊎_elim
      (λ (e : b ≡ 48). let z : eqb b 49 ≡ false = rw e in byte-zero b n x y e ∙ rw z)
      (λ (e : b ≡ 49). let z : eqb b 49 ≡ true = rw e in byte_one b n x y (λ q. not-both b e q) e ∙ rw z)
      (bit_is b h)
    where
      not-both : (b : ℕ) → b ≡ 49 → b ≡ 48 → ⊥
      not-both b e q = omega arith

  not-word : (n x y : ℕ) → word_made ns s (byte_word 33) n x y ≡ plain (inv y)
  not-word n x y = byte_word_lem 33 n x y (byte_word-small 33 (omega arith)) ∙ byte-not 33 n x y (λ q. omega arith) (λ q. omega arith) refl

  operator_word : (b n x y : ℕ) → 0 < strength_of b → word_made ns s (byte_word b) n x y ≡ operated b n x y
  operator_word b n x y h = byte_word_lem b n x y (binds_small b h) ∙ byte_operator b n x y (binds_not b 48 h weak_zero) (binds_not b 49 h weak_one) (binds_not b 33 h weak_not)

bit-taken : (b : ℕ) → start_of b ≡ Bit → taken (byte_word b) ≡ 0
bit-taken b h =
    ⊎_elim
    (λ (e : b ≡ 48). taken-zero (byte_word b) (byte_word-large b) (bit-small b h) (byte_word-back b ∙ e))
    (λ (e : b ≡ 49). taken-one (byte_word b) (byte_word-large b) (bit-small b h) (λ q. not-both b (byte_word b - 4096) (byte_word-back b) e q) (byte_word-back b ∙ e))
    (bit_is b h)
  where
    not-both : (b w : ℕ) → w ≡ b → b ≡ 49 → w ≡ 48 → ⊥
    not-both b w p e q = omega arith

not_taken : taken (byte_word 33) ≡ 1
not_taken =
    let z : byte_word 33 - 4096 ≡ 33 = byte_word-back 33 in
    taken_not (byte_word 33) (byte_word-large 33) (byte_word-small 33 (omega arith)) (λ q. omega arith) (λ q. omega arith) z

operator_taken : (b : ℕ) → 0 < strength_of b → taken (byte_word b) ≡ 2
operator_taken b h =
    taken-two (byte_word b) (byte_word-large b) (binds_small b h) (λ q. binds_not b 48 h weak_zero (sym (byte_word-back b) ∙ q)) (λ q. binds_not b 49 h weak_one (sym (byte_word-back b) ∙ q)) (λ q. binds_not b 33 h weak_not (sym (byte_word-back b) ∙ q))

bit_of-taken : (p k i : ℕ) → taken (bit_word p k i) ≡ 0
bit_of-taken p k i = taken-names (bit_word p k i) (bit_word-large p k i)

alike-taken : (p k q j : ℕ) → taken (alike_word p k q j) ≡ 0
alike-taken p k q j = taken-names (alike_word p k q j) (omega (arith, alike_word-large p k q j))

module _ (ns : List Declared) (s : Bytes) (m : ℕ) where
  bit-ran : (b : ℕ) → start_of b ≡ Bit → (rest st : List ℕ) (n : ℕ) → ran ns s (byte_word b ∷ rest) st n ≡ onward ns s (formula m n (truth (eqb b 49))) rest st n
  unfolding formula
  bit-ran b h rest st n = word-ran ns s (byte_word b) rest st st n (plain (literal_of 0 (eqb b 49))) (bit_word_lem ns s b n (get_or st 1 0) (get_or st 0 0) h) (rw (bit-taken b h))

  not-ran : (x : Expr) (ws rest st : List ℕ) (n : ℕ) → ran ns s (ws ++ (byte_word 33 ∷ rest)) st n ≡ onward ns s (formula m n x) (byte_word 33 ∷ rest) st n → ran ns s ((ws ++ (byte_word 33 ∷ [])) ++ rest) st n ≡ onward ns s (formula m n (neg x)) rest st n
  unfolding formula
  not-ran x ws rest st n e =
      let p = formula m n x in
      let k = n + length p.gates in
      let w : ran ns s (byte_word 33 ∷ rest) (p.out ∷ st) k ≡ onward ns s (plain (inv p.out)) rest st k = word-ran ns s (byte_word 33) rest (p.out ∷ st) st k (plain (inv p.out)) (not-word ns s k (get_or (p.out ∷ st) 1 0) p.out) (rw not_taken) in
      let z : k + 0 ≡ k = omega arith in
      rw (append_assoc ws (byte_word 33 ∷ []) rest) (e ∙ then_ran ns s p (byte_word 33 ∷ rest) st n w ∙ rw z)

  join-ran : (b : ℕ) → 0 < strength_of b → (x y : Expr) (us ws rest st : List ℕ) (n : ℕ) → ran ns s (us ++ (ws ++ (byte_word b ∷ rest))) st n ≡ onward ns s (formula m n x) (ws ++ (byte_word b ∷ rest)) st n → ran ns s (ws ++ (byte_word b ∷ rest)) ((formula m n x).out ∷ st) (n + length (formula m n x).gates) ≡ onward ns s (formula m (n + length (formula m n x).gates) y) (byte_word b ∷ rest) ((formula m n x).out ∷ st) (n + length (formula m n x).gates) → ran ns s (((us ++ ws) ++ (byte_word b ∷ [])) ++ rest) st n ≡ onward ns s (formula m n (joined b x y)) rest st n
  join-ran b h x y us ws rest st n e f =
      let p = formula m n x in
      let k = n + length p.gates in
      let q = formula m k y in
      let j = k + length q.gates in
      let o = operated b j p.out q.out in
      let w : ran ns s (byte_word b ∷ rest) (q.out ∷ p.out ∷ st) j ≡ onward ns s o rest st j = word-ran ns s (byte_word b) rest (q.out ∷ p.out ∷ st) st j o (operator_word ns s b j p.out q.out h) (rw (operator_taken b h)) in
      rw (append_assoc (us ++ ws) (byte_word b ∷ []) rest, append_assoc us ws (byte_word b ∷ rest), joined_made m n b x y)
      (e ∙ then_ran ns s p (ws ++ (byte_word b ∷ rest)) st n (f ∙ then_ran ns s q (byte_word b ∷ rest) (p.out ∷ st) k w) ∙ assemble ns s p.gates q.gates o.gates o.out rest st n)

-- no bit of a name is past 16, where a word would cut it
abbrev Low : Tree → Type 0
Low (name p k) = Unit {0}
Low (bit_of p k i) = i ≤ 16
Low (alike p k q j) = Unit {0}
Low (bit b) = Unit {0}
Low (not e) = Low e
Low (group e) = Low e
Low (join b e e2) = Low e × Low e2

module _ (ns : List Declared) (s : Bytes) (bounded : Bounded ns) where
  fits_low : (e : Tree) → fits ns s e ≡ true → Low e
  unfolding fits
  fits_low (name p k) h = tt
  fits_low (bit_of p k i) h = omega (arith, ltb-true i (width_in (found_at ns s p k)) h, (look_up-bounded (take k (drop p s)) ns bounded).1)
  fits_low (alike p k q j) h = tt
  fits_low (bit b) h = tt
  fits_low (not e) h = fits_low e h
  fits_low (group e) h = fits_low e h
  fits_low (join b e e2) h = let z = both (fits ns s e) (fits ns s e2) h in (fits_low e z.0, fits_low e2 z.1)
    where
      both : (t u : Bool) → pick t u false ≡ true → (t ≡ true) × (u ≡ true)
      both true u k = (refl, k)
      both false u k = let z : ◌≡◌ {A = ℕ} 0 1 = cc in absurd (omega arith)

module _ (ns : List Declared) (s : Bytes) (m : ℕ) (short : length s ≤ 255) where
  -- THE LAW: the words of a tree make the gates and the literal of its formula
  pub tree-ran : (e : Tree) → InField s e → Low e → (rest st : List ℕ) (n : ℕ) → ran ns s (postfix e ++ rest) st n ≡ onward ns s (formula m n (resolved m ns s e)) rest st n
  unfolding postfix resolved
  tree-ran (name p k) h l rest st n =
      word-ran ns s (name_word p k) rest st st n (formula m n (resolved m ns s (name p k)))
      (name_word_lem ns s m short p k n (get_or st 1 0) (get_or st 0 0) h) (rw (taken-name (name_word p k) (name_word-small s p k short h)))
  tree-ran (bit_of p k i) h l rest st n =
      word-ran ns s (bit_word p k i) rest st st n (formula m n (resolved m ns s (bit_of p k i)))
      (one_word ns s m short p k i n (get_or st 1 0) (get_or st 0 0) h l) (rw (bit_of-taken p k i))
  tree-ran (alike p k q j) h l rest st n =
      word-ran ns s (alike_word p k q j) rest st st n (formula m n (resolved m ns s (alike p k q j)))
      (alike_words ns s m short p k q j n (get_or st 1 0) (get_or st 0 0) h.0 h.1) (rw (alike-taken p k q j))
  tree-ran (bit b) h l rest st n = bit-ran ns s m b h rest st n
  tree-ran (not e) h l rest st n = not-ran ns s m (resolved m ns s e) (postfix e) rest st n (tree-ran e h l (byte_word 33 ∷ rest) st n)
  tree-ran (group e) h l rest st n = tree-ran e h l rest st n
  tree-ran (join b e e2) h l rest st n =
      join-ran ns s m b h.0 (resolved m ns s e) (resolved m ns s e2) (postfix e) (postfix e2) rest st n
      (tree-ran e h.1 l.0 (postfix e2 ++ (byte_word b ∷ rest)) st n)
      (tree-ran e2 h.2 l.1 (byte_word b ∷ rest) ((formula m n (resolved m ns s e)).out ∷ st) (n + length (formula m n (resolved m ns s e)).gates))

-- ---- no word takes the two literals at the bottom
enough_step : (w : ℕ) (rest : List ℕ) (h k t : ℕ) → taken w ≡ t → t + 2 ≤ h → h + 1 - t ≡ k → Enough k rest → Enough h (w ∷ rest)
enough_step w rest h k t e l z r = rw e (l, rw z r)

module _ (s : Bytes) (short : length s ≤ 255) where
  enough_tree : (e : Tree) → InField s e → (rest : List ℕ) (h : ℕ) → 2 ≤ h → Enough (h + 1) rest → Enough h (postfix e ++ rest)
  unfolding postfix
  enough_tree (name p k) i rest h l r = enough_step (name_word p k) rest h (h + 1) 0 (taken-name (name_word p k) (name_word-small s p k short i)) (omega arith) (omega arith) r
  enough_tree (bit_of p k j) i rest h l r = enough_step (bit_word p k j) rest h (h + 1) 0 (bit_of-taken p k j) (omega arith) (omega arith) r
  enough_tree (alike p k q j) i rest h l r = enough_step (alike_word p k q j) rest h (h + 1) 0 (alike-taken p k q j) (omega arith) (omega arith) r
  enough_tree (bit b) i rest h l r = enough_step (byte_word b) rest h (h + 1) 0 (bit-taken b i) (omega arith) (omega arith) r
  enough_tree (not e) i rest h l r =
      rw (append_assoc (postfix e) (byte_word 33 ∷ []) rest)
      (enough_tree e i (byte_word 33 ∷ rest) h l (enough_step (byte_word 33) rest (h + 1) (h + 1) 1 not_taken (omega arith) (omega arith) r))
  enough_tree (group e) i rest h l r = enough_tree e i rest h l r
  enough_tree (join b e e2) i rest h l r =
      rw (append_assoc (postfix e ++ postfix e2) (byte_word b ∷ []) rest, append_assoc (postfix e) (postfix e2) (byte_word b ∷ rest))
      (enough_tree e i.1 (postfix e2 ++ (byte_word b ∷ rest)) h l
      (enough_tree e2 i.2 (byte_word b ∷ rest) (h + 1) (omega arith) (enough_step (byte_word b) rest (h + 1 + 1) (h + 1) 2 (operator_taken b i.0) (omega arith) (omega arith) r)))

-- ---- a field that is a formula
fine-tree : (ns : List Declared) (s : Bytes) (t : Parsed) → judged_tree ns s t ≡ Ok tt → (e : Tree) × (t ≡ tree e) × (fits ns s e ≡ true)
unfolding judged_tree
fine-tree ns s none h = let z : ◌≡◌ {A = ℕ} 0 1 = cc in absurd (omega arith)
fine-tree ns s (tree e) h = (e, refl, at (ltb 16 (depth_of e)) (known ns s e) (fits ns s e) h)
  where
    at : (t u v : Bool) → ◌≡◌ {A = Result Unit Fault} (pick t (Err TooDeep) (pick u (pick v (Ok tt) (Err WrongWidth)) (Err UnknownName))) (Ok tt) → v ≡ true
    at true u v k = let z : ◌≡◌ {A = ℕ} 0 1 = cc in absurd (omega arith)
    at false true true k = refl
    at false true false k = let z : ◌≡◌ {A = ℕ} 0 1 = cc in absurd (omega arith)
    at false false v k = let z : ◌≡◌ {A = ℕ} 0 1 = cc in absurd (omega arith)

-- what reading such a field answers
pub record Worded (ns : List Declared) (s : Bytes) (m : ℕ) (f : Formula) : Type 0 where
  pub few : f.count ≤ 255
  pub room : f.count ≤ length f.words
  pub enough : Enough 2 (take f.count f.words)
  pub gates : (n : ℕ) → (program ns s (take f.count f.words) n).gates ≡ (formula m n (tree_expr m ns s (tree_of s))).gates
  pub top : (n : ℕ) → get_or (program ns s (take f.count f.words) n).stack 0 0 ≡ (formula m n (tree_expr m ns s (tree_of s))).out

tree-program : (ns : List Declared) (s : Bytes) (m : ℕ) (e : Tree) → tree_of s ≡ tree e → Low e → (n : ℕ) → program ns s (postfix e) n ≡ record { gates = (formula m n (resolved m ns s e)).gates; stack = (formula m n (resolved m ns s e)).out ∷ 0 ∷ 0 ∷ [] }
unfolding ran
tree-program ns s m e h l n = ap (λ (ws : List ℕ). program ns s ws n) (sym (append-nil (postfix e))) ∙ tree-ran ns s m (field-short s e h) e (in_field s e h) l [] (0 ∷ 0 ∷ []) n ∙ rw append-nil

-- what a formula's words are
abbrev read_as : Tree → Formula
read_as e = record { depth = depth_of e; count = length (postfix e); words = padded (postfix e) }

tree_worded : (ns : List Declared) (s : Bytes) (m : ℕ) (e : Tree) → tree_of s ≡ tree e → Low e → Worded ns s m (read_as e)
unfolding padded tree_expr
tree_worded ns s m e h l =
    let w : take (length (postfix e)) (postfix e ++ replicate (255 - length (postfix e)) 0) ≡ postfix e = take-append_seam (postfix e) (replicate (255 - length (postfix e)) 0) in
    record {
      few = words-few s e h;
      room = omega (arith, length-append (postfix e) (replicate (255 - length (postfix e)) 0));
      enough = rw (w, ← append-nil (postfix e)) (enough_tree s (field-short s e h) e (in_field s e h) [] 2 (omega arith) (omega arith));
      gates = λ n. rw (w, h, tree-program ns s m e h l n);
      top = λ n. rw (w, h, tree-program ns s m e h l n);
    }

-- a formula that is not refused is one
pub formed : (ns : List Declared) (s : Bytes) → judged_formula ns s ≡ Ok tt → (f : Formula) × (formula_of s ≡ Some f)
unfolding formula_of answer_of
formed ns s h = let t = fine-tree ns s (tree_of s) h in (read_as t.0, ap answer_of t.1)

pub worded : (ns : List Declared) (s : Bytes) (m : ℕ) {f : Formula} → judged_formula ns s ≡ Ok tt → Bounded ns → formula_of s ≡ Some f → Worded ns s m f
unfolding formula_of answer_of
worded ns s m {f} h b e =
    let t = fine-tree ns s (tree_of s) h in
    let k : Some f ≡ Some (read_as t.0) = sym e ∙ ap answer_of t.1 in
    let is : f ≡ read_as t.0 = cc in
    rw is (tree_worded ns s m t.0 t.1 (fits_low ns s b t.0 t.2))

-- ---- the stack as an array
stack_top : (array : List ℕ) (h : ℕ) → 1 ≤ h → get_or (stack_of array h) 0 0 ≡ get_or array (h - 1) 0
unfolding stack_of
stack_top array zero l = absurd (omega arith)
stack_top array (suc h) l = let z : h ≡ suc h - 1 = omega arith in ap (λ (k : ℕ). get_or array k 0) z

stack-second : (array : List ℕ) (h : ℕ) → 2 ≤ h → get_or (stack_of array h) 1 0 ≡ get_or array (h - 2) 0
unfolding stack_of
stack-second array zero l = absurd (omega arith)
stack-second array (suc zero) l = absurd (omega arith)
stack-second array (suc (suc h)) l = let z : h ≡ suc (suc h) - 2 = omega arith in ap (λ (k : ℕ). get_or array k 0) z

stack-drop : (array : List ℕ) (t h : ℕ) → t ≤ h → drop t (stack_of array h) ≡ stack_of array (h - t)
unfolding stack_of
stack-drop array zero h l = let z : h ≡ h - 0 = omega arith in ap (stack_of array) z
stack-drop array (suc t) zero l = absurd (omega arith)
stack-drop array (suc t) (suc h) l = let z : h - t ≡ suc h - suc t = omega arith in stack-drop array t h (omega arith) ∙ ap (stack_of array) z

stack_set : (array : List ℕ) (k x h : ℕ) → h ≤ k → stack_of (set array k x) h ≡ stack_of array h
unfolding stack_of
stack_set array k x zero l = refl
stack_set array k x (suc h) l = rw (get_or-set_other array k h x 0 (λ e. omega arith), stack_set array k x h (omega arith))

stack_push : (array : List ℕ) (k x : ℕ) → k < length array → stack_of (set array k x) (k + 1) ≡ x ∷ stack_of array k
unfolding stack_of
stack_push array k x l = rw (add-one k, get_or-set_same array k x 0 l, stack_set array k x k (omega arith))

-- ---- the loop over the words
pub record Running (ns : List Declared) (s : Bytes) (ws : List ℕ) (before now : Gates) (stack : List ℕ) (h i : ℕ) : Type 0 where
  pub within : i ≤ length ws
  pub deep : 2 ≤ h
  pub low : h ≤ i + 2
  pub long : length stack ≡ 257
  pub enough : Enough h (drop i ws)
  pub going : Going before now (program ns s ws before.next.0).gates (ran ns s (drop i ws) (stack_of stack h) now.next.0).gates
  pub top : (ran ns s (drop i ws) (stack_of stack h) now.next.0).stack ≡ (program ns s ws before.next.0).stack

module _ (ns : List Declared) (s : Bytes) (ws : List ℕ) (before : Gates) where
  abbrev n : ℕ
  n = before.next.0

  pub running-start : before.first.0 ≤ n → Enough 2 ws → Running ns s ws before before (replicate 257 0) 2 0
  unfolding stack_of
  running-start l e =
      record {
        within = omega arith;
        deep = omega arith;
        low = omega arith;
        long = refl;
        enough = e;
        going = begin before (program ns s ws n).gates l;
        top = refl;
      }

  module _ {now : Gates} {stack : List ℕ} {h i : ℕ} (r : Running ns s ws before now stack h i) where
    abbrev next : ℕ
    next = now.next.0

    module _ {w : ℕ} (l : i < length ws) (q : get_or ws i 0 ≡ w) where
      abbrev now_made : Piece
      now_made = word_made ns s w next (get_or stack (h - 2) 0) (get_or stack (h - 1) 0)

      next-ran : ran ns s (drop i ws) (stack_of stack h) next ≡ onward ns s now_made (drop (i + 1) ws) (drop (taken w) (stack_of stack h)) next
      next-ran =
          rw (drop-cons ws i 0 l, ← add-one i, q)
          (word-ran ns s w (drop (i + 1) ws) (stack_of stack h) (drop (taken w) (stack_of stack h)) next now_made (rw (stack_top stack h (omega (arith, r.deep)), stack-second stack h r.deep)) refl)

      pub running_enough : taken w + 2 ≤ h
      running_enough = (rw (drop-cons ws i 0 l, q) at r.enough).0

      -- what is left after this word
      abbrev left-ran : Ran
      left-ran = ran ns s (drop (i + 1) ws) (now_made.out ∷ drop (taken w) (stack_of stack h)) (next + length now_made.gates)

      next_splits : Splits (ran ns s (drop i ws) (stack_of stack h) next).gates now_made.gates left-ran.gates
      next_splits = record { is = ap (λ (x : Ran). x.gates) next-ran }

      pub running-room : Room before (length (program ns s ws n).gates) → Room now (length now_made.gates)
      running-room o = going_room {now = now_made.gates} {later = left-ran.gates} r.going next_splits o

      module _ (few : length ws ≤ 255) {after : Gates} {lit2 t : ℕ} (a : Added now after now_made.gates) (o : lit2 ≡ now_made.out) (k : t ≡ taken w) where
        next-stack : stack_of (set stack (h - t) lit2) (h - t + 1) ≡ now_made.out ∷ drop (taken w) (stack_of stack h)
        next-stack =
            let e = running_enough in
            let d : drop (taken w) (stack_of stack h) ≡ stack_of stack (h - t) = rw (← k) (stack-drop stack t h (omega (arith, k))) in
            stack_push stack (h - t) lit2 (omega (arith, r.low, r.long)) ∙ rw (o, d)

        next-left : ran ns s (drop (i + 1) ws) (stack_of (set stack (h - t) lit2) (h - t + 1)) after.next.0 ≡ left-ran
        next-left = rw (next-stack, a.count)

        pub running_step : Running ns s ws before after (set stack (h - t) lit2) (h - t + 1) (i + 1)
        running_step =
            let e = running_enough in
            let z : h + 1 - taken w ≡ h - t + 1 = omega (arith, k) in
            record {
              within = omega arith;
              deep = omega (arith, k);
              low = omega (arith, r.low);
              long = rw length-set r.long;
              enough = rw (← z, add-one i) (rw (drop-cons ws i 0 l, q) at r.enough).1;
              going = rw next-left (go {now = now_made.gates} {later = left-ran.gates} r.going next_splits a);
              top = ap (λ (x : Ran). x.stack) next-left ∙ sym (ap (λ (x : Ran). x.stack) next-ran) ∙ r.top;
            }

    end_ran : length ws ≤ i → ran ns s (drop i ws) (stack_of stack h) next ≡ record { gates = []; stack = stack_of stack h }
    unfolding ran
    end_ran l = rw (drop_of_length-le ws l)

    pub running_done : length ws ≤ i → Added before now (program ns s ws n).gates
    running_done l = done r.going (ap (λ (x : Ran). x.gates) (end_ran l))

    pub running-top : length ws ≤ i → get_or stack (h - 1) 0 ≡ get_or (program ns s ws n).stack 0 0
    running-top l =
        sym (stack_top stack h (omega (arith, r.deep))) ∙ ap (λ (x : List ℕ). get_or x 0 0) (sym (ap (λ (x : Ran). x.stack) (end_ran l)) ∙ r.top)
